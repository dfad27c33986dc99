-- A SESSION THAT WAS NOT OPENED YET fits, and so is read back once it is written.
use Prim.Native.Nat.{ℕ, zero, suc, ◌<◌, ◌≤◌, ◌^◌}
use mathlib.Core.Path.{◌≡◌, refl}
use mathlib.Core.List.{List}
use native.Mathlib.Omega.{arith}
use lib.ListN.{length, replicate}
use Rattle.fields.specs.Outcome.{value}
use Rattle.words.specs.Places.{state_bytes}
use Rattle.words.specs.Words.{Each}
use Rattle.words_books.specs.Fits.{SlotFits}
use Rattle.words_info.specs.Fits.{CapFits, PortFits}
use Rattle.words_session.specs.Image.{put_session, decode_of}
use Rattle.reply.specs.Capability.{no_caps}
use Rattle.reply.specs.Replies.{no_port}
use Rattle.session.specs.Session.{fresh, no_slot}
use Rattle.session.specs.declared.Slot.{Slot}
use Rattle.words_laws.specs.Kept.{Fits}
use Rattle.words_laws.proofs.Rewrites.{none_below, reset_fits, find_fits}
use Rattle.words_laws.proofs.Trip.{trip}

no_slot_lem : SlotFits no_slot
no_slot_lem = record { runs = omega arith; virt = omega arith; handle = omega arith; dev = omega arith; pages = omega arith }

no_slots : (n : ℕ) → Each SlotFits (replicate n no_slot)
unfolding Each
no_slots zero = tt
no_slots (suc n) = (no_slot_lem, no_slots n)

no_caps_lem : CapFits no_caps
no_caps_lem = record {
  rsvd_qps = omega arith;
  rsvd_srqs = omega arith;
  rsvd_cqs = omega arith;
  rsvd_eqs_lem = omega arith;
  max_eqs = omega arith;
  rsvd_mtts = omega arith;
  rsvd_mpts = omega arith;
  rsvd_uars = omega arith;
  rsvd_pds = omega arith;
  num_sys_eqs = omega arith;
  ports = omega arith;
  log_max_qp_wqes = omega arith;
  log_max_cqes = omega arith;
  log_min_page = omega arith;
  flags = omega arith;
  flags2 = omega arith;
  bmme = omega arith;
  uar_bytes = omega arith;
  max_icm = omega arith;
  entry = (refl, λ i. none_below (2 ^ 16) 11 i (omega arith));
}

no_port_lem : PortFits no_port
no_port_lem = record {
  num = omega arith;
  b0 = omega arith;
  mtu_cap = omega arith;
  log_macs = omega arith;
  speed = omega arith;
  xcvr = omega arith;
  wavelength = omega arith;
  xcvr_code = omega arith;
  mac = (refl, λ i. none_below (2 ^ 8) 6 i (omega arith));
}

pub fresh_fits : Fits fresh
fresh_fits = record {
  task = tt;
  stage = tt;
  ledger = record { ranges = omega arith; lends = omega arith; original = omega arith; wire = record { catas = tt }; failure = tt; closing = tt };
  told = record {
    uar = record { index = omega arith; size = tt; how = tt };
    func = record { rsvd_eqs_lem = omega arith; max_eqs = omega arith; rsvd_uars = omega arith };
  };
  cap = no_caps_lem;
  port1 = no_port_lem;
  port2 = no_port_lem;
  reset = reset_fits;
  find = find_fits;
  ranges = omega arith;
  lends = omega arith;
  slots_length = refl;
  slots = no_slots 82;
}

pub fresh_trip : (xs : List ℕ) → state_bytes ≤ length xs → decode_of (put_session xs fresh) ≡ value fresh
fresh_trip xs r = trip xs fresh fresh_fits r
