use Prim.Native.Nat.{◌+◌, ◌*◌}
use mathlib.Core.Path.{sym, ◌∙◌}
use borrow.Author.Tests.{leb-true}
use lib.ListN.{length}
use Rattle.words.proofs.load.Goals as goal

pub load_all-requires : goal.load_all-requires
load_all-requires c = let p = c.args in leb-true ((p.k + length p.w.now) * 8) (length p.s.now) (sym c.room.ensures ∙ c.if-room.true)

pub returns-then-room : goal.returns-then-room
returns-then-room c = rw (sym c.room.ensures ∙ c.if-room.true) c.load_all.ensures

pub returns-else-room : goal.returns-else-room
returns-else-room c = rw (sym c.room.ensures ∙ c.if-room.false)
