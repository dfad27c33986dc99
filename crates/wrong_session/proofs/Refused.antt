-- Every wrong answer of the table is refused.
use mathlib.Core.Bool.{true}
use mathlib.Core.Path.{◌≡◌, refl}
use Rattle.fields.specs.Fields.{digits}
use Rattle.reply.specs.Capability.{read_into}
use Rattle.layout.specs.Layout.{first_pow, tables_from, spot_of, sort_into, place_from, total_of, first_bad, table_in}
use Rattle.hcr.specs.Words.{is_in}
use Rattle.command.specs.Machine.{cmd_asks}
use Rattle.wrong.specs.Wrong.{alike, refuses_all, AllRefuse}
use Rattle.wrong.proofs.Refused.{all_refuse}
use Rattle.closing_plan.specs.Plan as close
use Rattle.client_plan.specs.Client.{over}
use Rattle.client_plan.specs.Plan as client
use Rattle.opening_plan.specs.Plan as plan
use Rattle.wrong_session.specs.Wrong.{wrong}

tested : refuses_all wrong ≡ true
unfolding refuses_all alike over is_in cmd_asks close.frees_plan close.failed_plan close.stopped_plan close.unmap_fa_plan close.unmap_aux_plan close.unmap_plan close.close_hca_plan close.undo_plan close.stop_plan close.quiesce_plan close.close_plan client.command_plan client.lend_plan client.undo_plan client.client_plan plan.fail_plan plan.fail_by_plan plan.func_plan plan.make_plan plan.next_range plan.mapped_plan plan.map_plan plan.layout_plan plan.port_plan plan.fw_replied plan.cap_replied plan.port_replied plan.func_replied plan.boot_plan plan.prepare_plan digits read_into first_pow tables_from spot_of sort_into place_from total_of first_bad table_in
tested = refl

-- THE THEOREM
pub wrong_refused : AllRefuse wrong
wrong_refused = all_refuse wrong tested
