use mathlib.Core.Path.{refl, ap, ◌∙◌}
use native.Mathlib.Omega.{arith}
use borrow.Author.Rules.{rules}
use Rattle.words.specs.Places.{LEDGER, ledger_at}
use Rattle.words_books.specs.Coding.{ledger_of}
use Rattle.words_session.proofs.Laws.{loaded}
use lib.ListN.{replicate}
use Rattle.words_session.proofs.ledger_at.Goals as goal

pub returns : goal.returns
returns c = let p = c.args in let h = c.requires in c.ledger_from.ensures ∙ ap ledger_of (loaded p.s.now ledger_at LEDGER (replicate LEDGER 0) c.load.ensures refl (omega arith))
