use borrow.Author.Rules.{rules}
use Rattle.behind.proofs.cap_at.Reads as cap-at-reads
use Rattle.layout.proofs.profile.Reads as profile-reads
use Rattle.layout.proofs.Held.{held}
use Rattle.opening_values.proofs.range_at.Reads as reads
use Rattle.opening_values.proofs.range_at.Lts as lts
use Rattle.opening_values.proofs.range_in.Reads as range-in-reads
use Rattle.opening_values.proofs.range_at.Goals as goal

pub returns : goal.returns
returns c = simp (c.cap_at.ensures, held c.profile.result c.unwrap_or-layout.ensures c.none.ensures c.profile.ensures, c.range_in.ensures)
