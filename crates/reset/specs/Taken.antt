-- What a good end says. Document 01, card rules: "A bus call reported good was taken" and "A reset taken drops everything": a reset ends well only after the
-- write of 1 at 0xf0010 was reported good.
use Rattle.std.specs.Prelude.{Bool, false, ◌&&◌, ◌≡◌, eqb}
use Rattle.fields.specs.Outcome.{pick}
use Rattle.pci.specs.Script.{Script, ret, ask, Ask, Reply, good, failed, config_read16, config_read32, config_write16, config_write32, read, write, attributes, resource, stall, allocate, mapped, unmap, free, fence}
use Rattle.reset.specs.Reset.{is_good, reset}
use Rattle.reset.specs.declared.ResetEnd.{ResetEnd}

-- this reply says that the card took the reset
abbrev pub is_taken : (q : Ask) → Reply q → Bool
is_taken (write b o v) (good u) = eqb b 0 && (eqb o 0xf0010 && eqb v 1)
is_taken (write b o v) failed = false
is_taken (config_read16 o) r = false
is_taken (config_read32 o) r = false
is_taken (config_write16 o v) r = false
is_taken (config_write32 o v) r = false
is_taken (read b o) r = false
is_taken (attributes o v) r = false
is_taken (resource b) r = false
is_taken (stall u) r = false
is_taken (allocate n) r = false
is_taken (mapped h n) r = false
is_taken (unmap h) r = false
is_taken (free h n) r = false
is_taken (fence i) r = false

-- a script whose every good end stands behind such a reply
abbrev pub GoodIfTaken : Script ResetEnd → Type 0
GoodIfTaken (ret r) = is_good r ≡ false
GoodIfTaken (ask q k) = (r : Reply q) → pick (is_taken q r) (Unit {0}) (GoodIfTaken (k r))

abbrev pub ResetTaken : Type 0
ResetTaken = GoodIfTaken reset
