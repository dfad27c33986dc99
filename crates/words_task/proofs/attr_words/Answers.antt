use Rattle.words_task.proofs.attr_words.Goals as goal

pub returns-in-Get : goal.returns-in-Get
returns-in-Get c = simp c.in-Get.is

pub returns-in-Supported : goal.returns-in-Supported
returns-in-Supported c = simp c.in-Supported.is

pub returns-in-Enable : goal.returns-in-Enable
returns-in-Enable c = simp c.in-Enable.is
