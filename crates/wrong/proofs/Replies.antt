-- Every wrong answer of the table on replies, the layout and the mailboxes is refused.
use mathlib.Core.Bool.{true}
use mathlib.Core.Path.{◌≡◌, refl}
use lib.Count.{count_trailing_zeros}
use Rattle.fields.specs.Fields.{digits, put_digits}
use Rattle.reply.specs.Capability.{read_into}
use Rattle.layout.specs.Layout.{first_pow, tables_from, spot_of, sort_into, comparisons_into, place_from, total_of, first_bad, table_in}
use Rattle.init.specs.Init.{put_all}
use Rattle.wrong.specs.Wrong.{alike, refuses_all, AllRefuse}
use Rattle.wrong.specs.Replies.{place_numbers, range_numbers, fields_numbers, replies}
use Rattle.wrong.proofs.Refused.{all_refuse}

tested : refuses_all replies ≡ true
unfolding refuses_all alike digits put_digits count_trailing_zeros read_into first_pow tables_from spot_of sort_into comparisons_into place_from total_of first_bad table_in put_all place_numbers range_numbers fields_numbers
tested = refl

-- THE THEOREM
pub replies_refused : AllRefuse replies
replies_refused = all_refuse replies tested
