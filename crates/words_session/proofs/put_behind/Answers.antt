use mathlib.Core.Path.{refl}
use borrow.Author.Rules.{rules}
use Rattle.words.specs.Places.{CAP, PORT, cap_at}
use Rattle.words_info.specs.Coding.{cap_words, port_words}
use Rattle.reply.specs.Capability.{no_caps}
use Rattle.reply.specs.Replies.{no_port}
use Rattle.session.specs.Core.{none_behind}
use Rattle.words_session.specs.Image.{tail_words}
use Rattle.words_session.proofs.Laws.{four}
use Rattle.words_session.proofs.put_behind.Goals as goal

pub returns : goal.returns
returns c =
    four c.args.s.now cap_at CAP PORT PORT (cap_words no_caps) (port_words no_port) (port_words no_port) (tail_words none_behind)
    c.put_tail.ensures c.clear_port2.ensures c.clear_port1.ensures c.clear_cap.ensures refl refl refl
