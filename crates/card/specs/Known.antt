-- What is known of a card before and after a command and a reset, whatever it does. H is any set of holdings, Q any set of commands.
use Rattle.std.specs.Prelude.{ℕ, ◌^◌, ◌<◌, Bool, true, List, ◌⊎◌, ◌≡◌}
use Rattle.std.proofs.Math.Option.{some, none}
use Rattle.hcr.specs.declared.Post.{Post}
use Rattle.command.specs.declared.CmdResult.{CmdResult}
use Rattle.command.specs.declared.CmdResult.TheVariants as r
use Rattle.reset.specs.Reset.{is_good}
use Rattle.reset.specs.declared.ResetEnd.{ResetEnd}
use Rattle.card.specs.Card.{Held, Mail, Command, Card, holds, No, effect, result, Settles, Host, Ours, World, mail_at, IsHeld, IsMap, OnBox, Carries, kind, StandsAt}

-- Nothing is pending, and what is held is among H.
abbrev pub Quiet : (Held → Type 1) → Card → Type 1
Quiet H c = (c.pending ≡ none) × H c.held

-- What is held is among H, and will be so when a pending command ends; a pending command is among Q.
pub record Within (H : Held → Type 1) (Q : Command → Type 0) (c : Card) : Type 1 where
  pub now : H c.held
  pub then : (p : Command) → c.pending ≡ some p → Q p × H (effect p c.held)

abbrev pub After : Command → (Held → Type 1) → Held → Type 1
After p H g = (h : Held) × H h × (g ≡ effect p h)

abbrev pub During : Command → (Held → Type 1) → Held → Type 1
During p H g = H g ⊎ After p H g

abbrev pub Or : (Command → Type 0) → Command → Command → Type 0
Or Q p q = Q q ⊎ (q ≡ p)

-- The command is over, or going or over, from a card that held h.
abbrev pub Over : Command → Held → Card → Type 1
Over p h c = (c.pending ≡ none) × (c.last ≡ some p.tbit) × (c.held ≡ result c.status p h)

abbrev pub Going : Command → Held → Card → Type 1
Going p h c = ((c.pending ≡ some p) × (c.last ≡ some p.tbit) × (c.held ≡ h)) ⊎ Over p h c

-- The command was not taken, or is going or over.
abbrev pub Loose : Command → (Held → Type 1) → (Command → Type 0) → Card → Type 1
Loose p H Q c = Within H Q c ⊎ ((h : Held) × H h × Going p h c)

-- STABLE: what a pending command that ends leaves standing
abbrev pub Stable : (Card → Type 1) → Type 1
Stable I = (c d : Card) → Settles c d → I c → I d

-- A COMMAND

-- a command as it is posted with a toggle, with these mailboxes
abbrev pub posted_as : Bool → Post → Mail → Command
posted_as t p m = record { opcode = p.op; in_mod = p.in_mod; in_param = p.in_param; tbit = t; mail = m }

-- all that it carries is the session's own
abbrev pub Carried : Post → Host → List ℕ → Type 0
Carried p k i = (d : ℕ) → Carries (posted_as true p (mail_at k i)) d → Ours k d

-- the mailboxes are the session's own
pub record Mailed (k : Host) : Type 0 where
  pub inbox : (d : ℕ) → OnBox k.inbox d → Ours k d
  pub outbox : (d : ℕ) → OnBox k.outbox d → Ours k d

-- its fields have their widths, and a MAP names the inbox
pub record Fits (p : Post) (m : Mail) : Type 0 where
  pub op : p.op < 0x1000
  pub op_mod : p.op_mod < 0x100
  pub in_mod : p.in_mod < 2 ^ 32
  pub in_param : p.in_param < 2 ^ 64
  pub out_param : p.out_param < 2 ^ 64
  pub addressed : IsMap (kind p.op) → StandsAt m.inbox p.in_param

-- what is so after each result
abbrev pub Out : Command → (Held → Type 1) → (Command → Type 0) → CmdResult → Card → Type 1
Out p H Q (r.Done x us) c = Quiet (After p H) c
Out p H Q (r.Status s us) c = Quiet H c
Out p H Q (r.Timeout us) c = Loose p H Q c
Out p H Q r.Busy c = Within H Q c
Out p H Q (r.Bus us) c = Loose p H Q c

-- A RESET

abbrev pub Nothing : Held → Type 1
Nothing g = g ≡ holds (λ v d. ⊥) No No No

-- the reset was taken, and no command since
abbrev pub Clean : Card → Type 1
Clean k = (k.last ≡ none) × Quiet Nothing k

-- Reported good, it was taken; failed, it may have been, and nothing is said of the card. The host has no part in it.
abbrev pub ResetPost : Host → World → ResetEnd → Type 1
ResetPost l w x = (w.host ≡ l) × (is_good x ≡ true → Clean w.card)

-- the card holds nothing
pub record Empty (h : Held) : Type 1 where
  pub nothing : (d : ℕ) → IsHeld h d → ⊥
