use borrow.Author.Rules.{rules}
use Rattle.words.specs.Places.{port1_at}
use Rattle.words_info.specs.Coding.{port_words}
use Rattle.words_session.proofs.Laws.{part_of}
use Rattle.words_session.proofs.clear_port1.Goals as goal

pub returns : goal.returns
returns c =
    part_of port_words port1_at c.args.s.now c.put_port.ensures c.none.ensures c.requires
