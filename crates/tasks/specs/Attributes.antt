-- Attributes, as a script and as steps. Document 01: "1 attributes not read or enabled"; the Rust's `open`: get, supported (a failure counts as 0), enable.
-- Public document: UEFI, PCI I/O Protocol, Attributes(): its operations, and the bits of memory,
-- bus master (0x600) and dual address cycle (0x8000). It was not at hand: the numbers are the
-- Rust's.
use Rattle.std.specs.Prelude.{ℕ, List, [], Result, Ok, Err}
use Rattle.fields.specs.Outcome.{Outcome, value, refused, pick}
use Rattle.hcr.specs.Words.{bit}
use Rattle.pci.specs.Views.{qword_of}
use Rattle.pci.specs.Script.{Script, ret, ask, Bus, good, failed, attributes}
use Rattle.pci.specs.Machine.{Next, more, ended, Follows}
use Rattle.pci.specs.declared.Question.{Question}
use Rattle.pci.specs.declared.Question.TheVariants as q
use Rattle.pci.specs.declared.Answer.{Answer}
use Rattle.pci.specs.declared.NoReply.{NoReply}
use Rattle.pci.specs.declared.NoReply.TheVariants.{Failed, Wrong}
use Rattle.tasks.specs.declared.Attributes.{Attributes}
use Rattle.tasks.specs.declared.Attributes.TheVariants as r
use Rattle.tasks.specs.declared.Attr.{Attr}
use Rattle.tasks.specs.declared.Attr.TheVariants as p
use Rattle.tasks.specs.declared.AttrStep.{AttrStep}
use Rattle.tasks.specs.declared.AttrStep.TheVariants as s

-- the attributes that were there before, or 1
abbrev pub enabled : Attributes → Outcome ℕ
enabled (r.Enabled v) = value v
enabled r.Refused = refused 1 []

-- what is enabled: 0x600, and 0x8000 exactly if it is supported
abbrev pub wanted : (supported : ℕ) → ℕ
wanted v = pick (bit 15 v) 0x8600 0x600

-- what a call gave, or 0 where it failed
abbrev pub or_zero : Bus ℕ → ℕ
or_zero (good v) = v
or_zero failed = 0

abbrev pub or_refused : (ℕ → Script Attributes) → Bus ℕ → Script Attributes
or_refused k (good v) = k v
or_refused k failed = ret r.Refused

-- THE SCRIPT: operation 0 gets, 4 says what is supported, 2 enables
abbrev pub enabling : (before value : ℕ) → Script Attributes
enabling v w = ask (attributes 2 w) (or_refused (λ x. ret (r.Enabled v)))

abbrev pub supporting : (before : ℕ) → Script Attributes
supporting v = ask (attributes 4 0) (λ y. enabling v (wanted (or_zero y)))

abbrev pub attributing : Script Attributes
attributing = ask (attributes 0 0) (or_refused supporting)

-- THE STEPS
abbrev pub attr_asks : Attr → Question
attr_asks p.Get = q.Attributes 0 0
attr_asks (p.Supported v) = q.Attributes 4 0
attr_asks (p.Enable v w) = q.Attributes 2 w

abbrev pub got_step : Result ℕ NoReply → AttrStep
got_step (Ok v) = s.More (p.Supported v)
got_step (Err Failed) = s.Ended r.Refused
got_step (Err Wrong) = s.More p.Get

abbrev pub supported_step : ℕ → Result ℕ NoReply → AttrStep
supported_step v (Ok y) = s.More (p.Enable v (wanted y))
supported_step v (Err Failed) = s.More (p.Enable v (wanted 0))
supported_step v (Err Wrong) = s.More (p.Supported v)

abbrev pub enable_step : (v w : ℕ) → Result ℕ NoReply → AttrStep
enable_step v w (Ok y) = s.Ended (r.Enabled v)
enable_step v w (Err Failed) = s.Ended r.Refused
enable_step v w (Err Wrong) = s.More (p.Enable v w)

abbrev pub attr_step_at : Result ℕ NoReply → Attr → AttrStep
attr_step_at y p.Get = got_step y
attr_step_at y (p.Supported v) = supported_step v y
attr_step_at y (p.Enable v w) = enable_step v w y

abbrev pub attr_step_of : Attr → Answer → AttrStep
attr_step_of k a = attr_step_at (qword_of a) k

abbrev pub attr_next : AttrStep → Next Attr Attributes
attr_next (s.More k) = more k
attr_next (s.Ended y) = ended y

abbrev pub attr_step : Attr → Answer → List ℕ → Next Attr Attributes
attr_step k a bytes = attr_next (attr_step_of k a)

abbrev pub attr_script : Attr → Script Attributes
attr_script p.Get = attributing
attr_script (p.Supported v) = supporting v
attr_script (p.Enable v w) = enabling v w

abbrev pub AttrFollows : Type 0
AttrFollows = (k : Attr) → Follows attr_asks attr_step attr_script k (attr_script k)
