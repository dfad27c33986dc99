-- An open session between two calls: how it comes to be so, and what leaves it so.
use Prim.Native.Nat.{ℕ}
use mathlib.Core.Bool.{true, false, false≢true}
use mathlib.Core.Option.{Option}
use mathlib.Core.Path.{◌≡◌, refl, sym, ◌∙◌, ap}
use Rattle.session.specs.Session.{wired}
use Rattle.session.specs.declared.Wire.{Wire}
use Rattle.session.specs.declared.Books.{Books}
use Rattle.session.specs.declared.Info.{Info}
use Rattle.card.specs.Card.{Held, Card, Hold, Host, World}
use Rattle.card.specs.Known.{Within}
use Rattle.card.proofs.Command.{quiet_within, within_more}
use Rattle.card_calls.specs.Ranges.{AsLaid}
use Rattle.card_calls.specs.Holding.{Boxes, Calm, Mine, Entries, Knows, Uses, Lies, Idle, Ready}
use Rattle.card_calls.proofs.Books.{knows_uses, knows_bound}

-- the mailboxes are where they were
pub moved_boxes : (b : Books) (y : Wire) (k l : Host) → l ≡ k → Boxes b k → Boxes (wired b y) l
moved_boxes b y k l e x = record {
  inbox = x.inbox;
  outbox = x.outbox;
  in_held = x.in_held;
  out_held = x.out_held;
  in_at = ap (λ (z : Host). z.inbox) e ∙ x.in_at;
  out_at = ap (λ (z : Host). z.outbox) e ∙ x.out_at;
  in_less = x.in_less;
  out_less = x.out_less;
}

pub wired_entries : (b : Books) (y : Wire) → Entries b → Entries (wired b y)
wired_entries b y i = i

pub wired_uses : (b : Books) (y : Wire) (g : Held) → Uses b g → Uses (wired b y) g
wired_uses b y g x = record { icm = x.icm; firmware = x.firmware; auxiliary = x.auxiliary; lent = x.lent }

pub wired_lies : (b : Books) (y : Wire) (g : Held) → Lies b g → Lies (wired b y) g
wired_lies b y g x = record { within = x.within }

-- what is known of the card does not hang on the command register
pub wired_card : (b : Books) (y : Wire) (c : Card) → Within (Uses b) (Calm b) c → Within (Uses (wired b y)) (Calm (wired b y)) c
wired_card b y c x = within_more (Uses b) (Uses (wired b y)) (Calm b) (Calm (wired b y)) c (wired_uses b y) (λ p m. m) x

pub wired_bound : (b : Books) (y : Wire) (c : Card) → Within (Lies b) (Mine b) c → Within (Lies (wired b y)) (Mine (wired b y)) c
wired_bound b y c x = within_more (Lies b) (Lies (wired b y)) (Mine b) (Mine (wired b y)) c (wired_lies b y) (λ p m. m) x

-- a good opening ends so
pub ready_idle : (base : ℕ → Option Hold) (n : Info) (b : Books) (w : World) → Ready base b w → b.lists.ranges ≡ 14 → AsLaid n b 14 → b.started ≡ true → Idle base n b w
ready_idle base n b w x e laid s = record {
  owns = x.owns;
  boxes = x.boxes;
  entries = x.entries;
  bound = within_more (Knows b) (Lies b) (Calm b) (Mine b) w.card (λ g m. record { within = knows_bound b x.entries g m }) (λ p m. m.1) (quiet_within (Knows b) (Calm b) w.card x.card);
  exact = λ p. record {
    fourteen = e;
    laid = laid;
    started = s;
    card = within_more (Knows b) (Uses b) (Calm b) (Calm b) w.card (knows_uses b) (λ p m. m) (quiet_within (Knows b) (Calm b) w.card x.card);
    quiet = λ z. x.card.0;
  };
  broken = λ p. absurd (false≢true (sym x.loud ∙ p));
}

-- another state of the command register: silent as it was, broken if it was
pub idle_wired : (base : ℕ → Option Hold) (n : Info) (b : Books) (y : Wire) (w : World) → y.silent ≡ b.wire.silent → (b.wire.broken ≡ true → y.broken ≡ true) → (y.running ≡ false → b.wire.running ≡ false)
    → Idle base n b w → Idle base n (wired b y) w
idle_wired base n b y w s k r x = record {
  owns = x.owns;
  boxes = moved_boxes b y w.host w.host refl x.boxes;
  entries = wired_entries b y x.entries;
  bound = wired_bound b y w.card x.bound;
  exact = λ p. let o = x.exact (sym s ∙ p) in record {
    fourteen = o.fourteen;
    laid = o.laid;
    started = o.started;
    card = wired_card b y w.card o.card;
    quiet = λ z. o.quiet (r z);
  };
  broken = λ p. k (x.broken (sym s ∙ p));
}
