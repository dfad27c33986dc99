use borrow.Author.Rules.{rules}
use Rattle.words.specs.Places.{cap_at}
use Rattle.words_info.specs.Coding.{cap_words}
use Rattle.words_session.proofs.Laws.{part_of}
use Rattle.words_session.proofs.clear_cap.Goals as goal

pub returns : goal.returns
returns c =
    part_of cap_words cap_at c.args.s.now c.put_cap.ensures c.none.ensures c.requires
