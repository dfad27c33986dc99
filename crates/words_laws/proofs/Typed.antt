-- A SESSION OF ITS TYPE FITS. What the language says of a parameter or a result that is a session (`Is` of its type) has every number below the bound of its width and every
-- array at its length; so what the code writes is read back, by `trip`, where the counts are within the slots.
use Prim.Native.Nat.{◌≤◌}
use mathlib.Core.List.{List}
use mir.Val.{Val}
use denote.Laws.{Is}
use Rattle.words.specs.Places.{SLOTS}
use Rattle.words.proofs.Typed.{array_length, array_each, array_own}
use Rattle.words_task.proofs.Typed.{task_typed}
use Rattle.words_stage.proofs.Typed.{stage_typed}
use Rattle.words_books.specs.Fits.{SlotFits}
use Rattle.words_books.proofs.Typed.{wire_typed, failure_typed, closing_typed, slot_typed}
use Rattle.words_info.proofs.Typed.{pick_typed, func_typed, cap_typed, port_typed}
use Rattle.words_beside.proofs.Typed.{reset_typed, find_typed}
use Rattle.session.specs.declared.Session.{Session}
use Rattle.session.specs.contracts.Slot.{the_row as slot-row}
use denote.Struct.Field.{row_field}
use Rattle.session.specs.contracts.Session.{the_row as session-row}
use Rattle.session.specs.declared.Core.{Core}
use Rattle.session.specs.contracts.Core.{the_row as core-row}
use Rattle.words_laws.specs.Kept.{Fits, HeadFits}

pub session_typed : (s : Session) (vs : List Val) → Is session-row s vs → s.books.lists.ranges ≤ 14 → s.books.lists.lends ≤ 64 → Fits s
session_typed s vs h few some =
    let work = h.1.1.1.0.1.1 in
    let books = h.1.1.1.1.0.1.1 in
    let lists = books.1.0.1.1 in
    let info = h.1.1.1.1.1.0.1.1 in
    let slots = array_own slot-row SLOTS s.books.lists.slots _ lists.0 in
    record {
      task = task_typed s.work.task _ work.0;
      stage = stage_typed s.stage _ h.1.1.0;
      ledger = record {
        ranges = lists.1.0.1;
        lends = lists.1.1.0.1;
        original = books.1.1.1.0.1;
        wire = wire_typed s.books.wire _ books.0;
        failure = failure_typed s.failure _ h.1.1.1.1.1.1.0;
        closing = closing_typed s.closing _ h.1.1.1.1.1.1.1.0;
      };
      told = record { uar = pick_typed s.info.uar _ info.0; func = func_typed s.info.func _ info.1.1.0 };
      cap = cap_typed s.info.cap _ info.1.0;
      port1 = port_typed s.info.port1 _ info.1.1.1.0;
      port2 = port_typed s.info.port2 _ info.1.1.1.1.0;
      reset = reset_typed s.work.reset _ work.1.0;
      find = find_typed s.work.find _ work.1.1.0;
      ranges = few;
      lends = some;
      slots_length = array_length (row_field slot-row) SLOTS s.books.lists.slots _ slots;
      slots = array_each (row_field slot-row) SlotFits (λ x us y. slot_typed x us y) SLOTS s.books.lists.slots _ slots;
    }

-- THE SAME OF A HEAD, which is what the code has by value. Of a slot and of each other part that is written in place: `slot_typed`, `cap_typed`, `port_typed`, `reset_typed`, `find_typed`.
pub core_typed : (c : Core) (vs : List Val) → Is core-row c vs → c.ranges ≤ 14 → c.lends ≤ 64 → HeadFits c
core_typed c vs h few some =
    record {
      task = task_typed c.task _ h.1.1.1.0;
      stage = stage_typed c.stage _ h.1.1.0;
      ledger = record {
        ranges = h.1.1.1.1.1.0.1;
        lends = h.1.1.1.1.1.1.0.1;
        original = h.1.1.1.1.1.1.1.1.0.1;
        wire = wire_typed c.wire _ h.1.1.1.1.0;
        failure = failure_typed c.failure _ h.1.1.1.1.1.1.1.1.1.1.1.1.0;
        closing = closing_typed c.closing _ h.1.1.1.1.1.1.1.1.1.1.1.1.1.0;
      };
      told = record { uar = pick_typed c.uar _ h.1.1.1.1.1.1.1.1.1.0; func = func_typed c.func _ h.1.1.1.1.1.1.1.1.1.1.0 };
      ranges = few;
      lends = some;
    }
