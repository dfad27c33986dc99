-- What has become of a session, and what an opening has found out, as words.
use Rattle.std.specs.Prelude.{ℕ, List, [], ◌∷◌, ltb, length}
use Rattle.fields.specs.Outcome.{Outcome, value, refused, number_of, pick}
use Rattle.words.specs.Words.{at, put_words, flat}
use Rattle.words_info.specs.Coding.{told_words, cap_words, port_words}
use Rattle.reply.specs.declared.DevCap.{DevCap}
use Rattle.reply.specs.declared.FuncInfo.{FuncInfo}
use Rattle.layout.specs.Counts.{base_sqpn, first_free_mtt}
use Rattle.layout.specs.declared.Table.{Table}
use Rattle.words_info.specs.declared.Told.{Told}
use Rattle.pci.specs.Refusals.{refusal}
use Rattle.pci.specs.declared.Refusal.{Refusal}
use Rattle.session.specs.Session.{slot_at}
use Rattle.session.specs.declared.Slot.{Slot}
use Rattle.session.specs.declared.Gave.{Gave}
use Rattle.session.specs.declared.Gave.TheVariants as g
use Rattle.session.specs.declared.Closing.{Closing}
use Rattle.session.specs.declared.Closing.TheVariants as c
use Rattle.session.specs.declared.Info.{Info}
use Rattle.opening_plan.specs.Values.{layout_in}
use Rattle.fw_plan.specs.declared.Outcome as fw
use Rattle.fw_plan.specs.declared.Outcome.TheVariants as u

-- WHAT HAS BECOME of a session: 0 not opened yet, 1 a call is running, 3 the opening failed, 4 closed; open, and the last call gave 2 nothing, 5 a command's immediate
-- and the microseconds waited, 6 a buffer, that of its slot, 7 a failure. Behind 3 and 7 document 01's number and the values beside it; last, how the closing went
abbrev pub beside_of : {A : Type 0} → Outcome A → List ℕ
beside_of (value x) = []
beside_of (refused n vs) = vs

abbrev pub values_of : Refusal → List ℕ
values_of why = at (beside_of {A = Unit {0}} (refusal why)) 0 ∷ at (beside_of {A = Unit {0}} (refusal why)) 1 ∷ []

abbrev pub end_word : Closing → ℕ
end_word c.Clean = 0
end_word c.Reset = 1
end_word c.Kept = 2

abbrev pub refused_words : (kind : ℕ) → Refusal → (end : ℕ) → List ℕ
refused_words k why n = k ∷ number_of {A = Unit {0}} (refusal why) ∷ at (values_of why) 0 ∷ at (values_of why) 1 ∷ n ∷ []

abbrev pub gave_words : List Slot → Gave → List ℕ
gave_words l g.Nothing = 2 ∷ 0 ∷ 0 ∷ 0 ∷ 0 ∷ []
gave_words l (g.Command x us) = 5 ∷ x ∷ us ∷ 0 ∷ 0 ∷ []
gave_words l (g.Lent i) = 6 ∷ (slot_at l i).handle ∷ (slot_at l i).dev ∷ (slot_at l i).pages ∷ 0 ∷ []
gave_words l (g.Failed why) = refused_words 7 why 0

abbrev pub outcome_words : List Slot → fw.Outcome → List ℕ
outcome_words l u.Fresh = 0 ∷ 0 ∷ 0 ∷ 0 ∷ 0 ∷ []
outcome_words l u.Running = 1 ∷ 0 ∷ 0 ∷ 0 ∷ 0 ∷ []
outcome_words l (u.Opened y) = gave_words l y
outcome_words l (u.Failed why k) = refused_words 3 why (end_word k)
outcome_words l (u.Closed k) = 4 ∷ 0 ∷ 0 ∷ 0 ∷ end_word k ∷ []

-- WHAT AN OPENING HAS FOUND OUT: the UAR BAR, what QUERY_FUNC said and the revision from word 0 on; the capabilities, with what QUERY_FUNC replaces, from 8; the
-- ports from 40 and 57; how many were asked about, the total, the first special QP and the first free MTT from 74; the tables from 78
abbrev pub merged : DevCap → FuncInfo → DevCap
merged x f = record {
  rsvd_qps = x.rsvd_qps;
  rsvd_srqs = x.rsvd_srqs;
  rsvd_cqs = x.rsvd_cqs;
  rsvd_eqs = f.rsvd_eqs;
  max_eqs = f.max_eqs;
  rsvd_mtts = x.rsvd_mtts;
  rsvd_mpts = x.rsvd_mpts;
  rsvd_uars = f.rsvd_uars;
  rsvd_pds = x.rsvd_pds;
  num_sys_eqs = x.num_sys_eqs;
  ports = x.ports;
  log_max_qp_wqes = x.log_max_qp_wqes;
  log_max_cqes = x.log_max_cqes;
  log_min_page = x.log_min_page;
  flags = x.flags;
  flags2 = x.flags2;
  bmme = x.bmme;
  eth_prot_ctrl = x.eth_prot_ctrl;
  eth_backpl_an_rep = x.eth_backpl_an_rep;
  uar_bytes = x.uar_bytes;
  entry = x.entry;
  max_icm = x.max_icm;
}

-- "QUERY_PORT for each port at revision 3"
abbrev pub ports_of : Info → ℕ
ports_of n = pick n.rev3 n.cap.ports 0

abbrev pub table_words : Table → List ℕ
table_words t = t.index ∷ t.entry ∷ t.count ∷ t.bytes ∷ t.base ∷ []

abbrev pub told_in : Info → Told
told_in n = record { uar = n.uar; func = n.func; rev3 = n.rev3 }

unfoldable pub put_said : List ℕ → Info → List ℕ
put_said s n = put_words (put_words s 0 (told_words (told_in n))) 8 (cap_words (merged n.cap n.func))

unfoldable pub put_ports : List ℕ → Info → List ℕ
put_ports s n = put_words (put_words s 40 (port_words n.port1)) 57 (port_words n.port2)

unfoldable pub put_layout : List ℕ → Info → List ℕ
put_layout s n =
    put_words
    (put_words (put_words s 74 (ports_of n ∷ (layout_in n).total ∷ base_sqpn n.cap ∷ first_free_mtt n.cap ∷ [])) 78 (flat table_words (layout_in n).rows))
    133
    ((layout_in n).comparisons ∷ [])

unfoldable pub setup_in : List ℕ → Info → List ℕ
setup_in s n = pick (ltb (length s) 1072) s (put_layout (put_ports (put_said s n) n) n)
