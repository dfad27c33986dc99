-- Every wrong answer of the table is refused.
use mathlib.Core.Bool.{true}
use mathlib.Core.Path.{◌≡◌, refl}
use Rattle.wrong.specs.Wrong.{alike, refuses_all, AllRefuse}
use Rattle.wrong.proofs.Refused.{all_refuse}
use Rattle.fields.specs.Fields.{digits, put_digits}
use Rattle.dma.specs.Blocks.{highest}
use Rattle.dma.specs.PageList.{list_at, first_blocks, behind}
use Rattle.hcr.specs.Words.{is_in, waited_of}
use Rattle.words.specs.Words.{words_in, put_words, same_words, rows_in, flat}
use Rattle.command.specs.Machine.{cmd_asks, cmd_step_of}
use Rattle.closing_plan.specs.Plan as close
use Rattle.client_plan.specs.Client.{over}
use Rattle.client_plan.specs.Plan as client
use Rattle.opening_plan.specs.Plan as plan
use Rattle.fw_plan.specs.Calls.{step_of, step_in, step_out}
use Rattle.calls_plan.specs.Calls.{begun_turn, begun_inbox, begun_outbox}
use Rattle.undo.specs.List.{top_of, any_reserved, push_of}
use Rattle.abi.specs.Turns.{call_known, answer_known, called, answered}
use Rattle.abi.specs.Readers.{question_known, result_known, setup_known, books_known, question, result, setup, books}
use Rattle.abi.specs.Calls as abi
use Rattle.wrong_calls.specs.Wrong.{wrong, opcodes}

tested : refuses_all wrong ≡ true
unfolding refuses_all alike opcodes digits put_digits highest list_at first_blocks behind is_in waited_of words_in put_words same_words rows_in flat cmd_asks cmd_step_of over close.frees_plan close.failed_plan close.stopped_plan close.unmap_fa_plan close.unmap_aux_plan close.unmap_plan close.close_hca_plan close.undo_plan close.stop_plan close.quiesce_plan client.command_plan client.lend_plan client.undo_plan plan.make_plan plan.fw_replied plan.boot_plan plan.prepare_plan step_of step_in step_out begun_turn begun_inbox begun_outbox top_of any_reserved push_of call_known answer_known called answered question_known result_known setup_known books_known question result setup books abi.made abi.answer abi.told
tested = refl

-- THE THEOREM
pub wrong_refused : AllRefuse wrong
wrong_refused = all_refuse wrong tested
