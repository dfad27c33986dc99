-- Every wrong answer of the table is refused.
use mathlib.Core.Bool.{true}
use mathlib.Core.Path.{◌≡◌, refl}
use lib.Dec.{lit≤}
use Rattle.fields.specs.Fields.{digits}
use Rattle.wrong.specs.Wrong.{alike, refuses_all, AllRefuse}
use Rattle.wrong.proofs.Refused.{all_refuse}
use Rattle.hcr.specs.Words.{waited_of, is_in}
use Rattle.hcr.proofs.Laws.{waited_is, timeout_waited}
use Rattle.words.specs.Words.{flat}
use Rattle.bars.specs.Bars.{bars}
use Rattle.bars.specs.Resource.{walk}
use Rattle.bars.specs.Choose.{those, rising}
use Rattle.command.specs.Script.{low, immediate, judged, verdict, poll, start, fenced}
use Rattle.command.specs.Machine.{cmd_asks, cmd_step_of}
use Rattle.reset.specs.Reset.{restore, vendor}
use Rattle.uar.specs.Uar.{scan}
use Rattle.undo.specs.List.{top_of, any_reserved, push_of}
use Rattle.wrong_tasks.specs.Wrong.{wrong, late}

tested : refuses_all wrong ≡ true
unfolding refuses_all alike waited_of is_in low immediate judged verdict poll start fenced cmd_asks cmd_step_of restore vendor digits bars walk those rising scan top_of any_reserved push_of flat
tested = refl

-- THE THEOREM
pub wrong_refused : AllRefuse wrong
wrong_refused = all_refuse wrong tested

-- 600,989 stalls are 59,999,900 µs, and 600,990 a Timeout's 60,000,000
tested_late : refuses_all late ≡ true
unfolding refuses_all alike cmd_step_of
tested_late = rw timeout_waited (rw (waited_is 600989 (lit≤ tt)) refl)

pub late_refused : AllRefuse late
late_refused = all_refuse late tested_late
