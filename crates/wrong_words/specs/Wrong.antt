-- WRONG ANSWERS of functions on words, as in `wrong/specs/Wrong.antt`. What is read from words is told by the words that it has.
use Rattle.std.specs.Prelude.{ℕ, ◌+◌, ◌*◌, ◌-◌, ◌%◌, true, false, List, [], ◌∷◌, ◌++◌, eqb, ltb, length, take, drop, replicate, Option, Some, None}
use Rattle.fields.specs.Outcome.{Outcome, value, refused, pick, number_of}
use Rattle.wrong.specs.Wrong.{Row, row, yes}
use Rattle.words.specs.Words.{at, within, words_in, put_words, same_words, bit_of, flat}
use Rattle.words.specs.Places.{stage_at, cap_at, port1_at, port2_at, reset_at, find_at, slots_at, SLOT, state_words, state_bytes}
use Rattle.words_task.specs.Coding.{fault_words, fault_of, catas_words, catas_of, task_words, task_of}
use Rattle.words_beside.specs.Coding.{reset_words, reset_of, find_words, find_of}
use Rattle.words_info.specs.Coding.{pick_of, func_of, told_words, told_of, cap_words, cap_of, port_words, port_of}
use Rattle.words_stage.specs.Coding.{stage_words, stage_of}
use Rattle.words_books.specs.Coding.{refusal_words, refusal_of, slot_words, slot_of, ledger_words, ledger_of}
use Rattle.words_books.specs.declared.Ledger.{Ledger}
use Rattle.behind.specs.Behind.{behind_in, put_part, slot_put, begun_in, slots_stand}
use Rattle.words_session.specs.Image.{core_of, head_in, head_stands, put_head, put_task, decode_of, encoded_in, put_session}
use Rattle.words_calls.specs.Calls.{question_words, turn_in, heard_of}
use Rattle.in_place.specs.InPlace.{next_of, ready_for, goes_on, state_after, out_after}
use Rattle.in_place.specs.declared.Next.{Next}
use Rattle.in_place.specs.declared.Next.TheVariants as nx
use Rattle.results.specs.Results.{outcome_words, merged, ports_of, put_said, setup_in}
use Rattle.results.specs.Books.{area_words, areas_words, ranges_of, lent_of, books_in}
use Rattle.bars.specs.declared.BarRange.{BarRange}
use Rattle.bars.specs.declared.Candidate.{Candidate}
use Rattle.bars.specs.declared.Asking.TheVariants as ba
use Rattle.hcr.specs.declared.Post.{Post}
use Rattle.reply.specs.declared.PortInfo.{PortInfo}
use Rattle.pci.specs.declared.Question.TheVariants as q
use Rattle.pci.specs.declared.Answer.{Answer}
use Rattle.pci.specs.declared.Answer.TheVariants as a
use Rattle.pci.specs.declared.Refusal.TheVariants as r
use Rattle.command.specs.declared.Catas.TheVariants as ck
use Rattle.command.specs.declared.Phase.TheVariants as cp
use Rattle.command.specs.declared.Cmd.{Cmd}
use Rattle.reset.specs.declared.Control.TheVariants as rc
use Rattle.reset.specs.declared.Phase.TheVariants as rp
use Rattle.reset.specs.declared.Reset.{Reset}
use Rattle.buffer.specs.declared.Fault.TheVariants as f
use Rattle.buffer.specs.declared.MakePhase.TheVariants as mp
use Rattle.buffer.specs.declared.FreePhase.TheVariants as fp
use Rattle.tasks.specs.declared.Attr.TheVariants as tp
use Rattle.tasks.specs.declared.Claim.TheVariants as lp
use Rattle.tasks.specs.declared.Parting.TheVariants as pp
use Rattle.uar.specs.declared.BarPhase.{BarPhase}
use Rattle.uar.specs.declared.BarPhase.TheVariants as up
use Rattle.uar.specs.declared.FindBar.{FindBar}
use Rattle.work.specs.declared.Task.{Task}
use Rattle.work.specs.declared.Task.TheVariants as wt
use Rattle.session.specs.Session.{fresh, starts, no_slot, bare, mapped_at, slot_at}
use Rattle.session.specs.Core.{start_of}
use Rattle.session.specs.declared.Slot.{Slot}
use Rattle.session.specs.declared.Core.{Core}
use Rattle.session.specs.declared.Info.{Info}
use Rattle.session.specs.declared.Area.TheVariants as ar
use Rattle.session.specs.declared.Prepare.TheVariants as pr
use Rattle.session.specs.declared.Boot.TheVariants as bo
use Rattle.session.specs.declared.Close.TheVariants as cl
use Rattle.session.specs.declared.Form.TheVariants as fo
use Rattle.session.specs.declared.Client.TheVariants as ci
use Rattle.session.specs.declared.Gave.TheVariants as ga
use Rattle.session.specs.declared.Stage.{Stage}
use Rattle.session.specs.declared.Stage.TheVariants as st
use Rattle.session.specs.declared.Failure.TheVariants as fa
use Rattle.session.specs.declared.Closing.TheVariants as co
use Rattle.fw_plan.specs.Calls.{outcome_of}
use Rattle.fw_plan.specs.declared.Outcome.TheVariants as u

abbrev zeros : ℕ → List ℕ
zeros n = replicate n 0

-- three words of bytes
abbrev bytes : List ℕ
bytes = 1 ∷ 2 ∷ 3 ∷ 4 ∷ 5 ∷ 6 ∷ 7 ∷ 8 ∷ 9 ∷ 10 ∷ 11 ∷ 12 ∷ 13 ∷ 14 ∷ 15 ∷ 16 ∷ 17 ∷ 18 ∷ 19 ∷ 20 ∷ 21 ∷ 22 ∷ 23 ∷ 24 ∷ []

-- numbers from 1 on
abbrev rising : List ℕ
rising = bytes ++ (25 ∷ 26 ∷ 27 ∷ 28 ∷ 29 ∷ 30 ∷ 31 ∷ 32 ∷ [])

-- load, store and same, as their contracts have them
abbrev loaded : List ℕ → ℕ → List ℕ → List ℕ
loaded s k w = pick (within s k (length w)) (words_in s k (length w)) w

abbrev stored : List ℕ → ℕ → List ℕ → List ℕ
stored s k w = pick (within s k (length w)) (put_words s k w) s

abbrev same_in : List ℕ → ℕ → List ℕ → ℕ
same_in s k w = yes (pick (within s k (length w)) (same_words s k w) false)

abbrev pub words : List Row
words =
    -- room (two words in 16 bytes: from 0, from 1, none from 2; two in 15): they may pass the end; a part of a word counts
    row (yes (within (zeros 16) 0 2) ∷ yes (within (zeros 16) 1 2) ∷ yes (within (zeros 16) 2 0) ∷ yes (within (zeros 15) 0 2) ∷ []) (1 ∷ 1 ∷ 1 ∷ 0 ∷ []) (1 ∷ 0 ∷ 1 ∷ 1 ∷ []) ∷
    -- load of a word: its second half one byte early; the other order
    row (loaded bytes 0 (0 ∷ [])) (0x0706050404030201 ∷ []) (0x0102030405060708 ∷ []) ∷
    -- load of two words: every other; from the next on
    row (loaded bytes 0 (0 ∷ 0 ∷ [])) (0x0807060504030201 ∷ 0x1817161514131211 ∷ []) (0x100f0e0d0c0b0a09 ∷ 0x1817161514131211 ∷ []) ∷
    -- load past the end: what is there; zeros
    row (loaded bytes 2 (7 ∷ 8 ∷ [])) (0x1817161514131211 ∷ 8 ∷ []) (0 ∷ 0 ∷ []) ∷
    -- store of two words: seven bytes apart; the other order
    row (stored (zeros 16) 0 (1 ∷ 2 ∷ [])) (1 ∷ (zeros 6 ++ (2 ∷ zeros 8))) (zeros 7 ++ (1 ∷ (zeros 7 ++ (2 ∷ [])))) ∷
    -- store past the end: what fits; at the end
    row (stored (zeros 16) 1 (1 ∷ 2 ∷ [])) (zeros 8 ++ (1 ∷ zeros 7)) (zeros 8 ++ (2 ∷ zeros 7)) ∷
    -- same (the same words, others, past the end): words that differ are; past the end too
    row (same_in (zeros 8 ++ (2 ∷ zeros 7)) 0 (0 ∷ 2 ∷ []) ∷ same_in (zeros 8 ++ (2 ∷ zeros 7)) 0 (0 ∷ 3 ∷ []) ∷ same_in (zeros 16) 1 (0 ∷ 0 ∷ []) ∷ []) (1 ∷ 1 ∷ 0 ∷ []) (1 ∷ 0 ∷ 1 ∷ []) ∷
    -- bit (true, false): true is 2; exchanged
    row (bit_of true ∷ bit_of false ∷ []) (2 ∷ 0 ∷ []) (0 ∷ 1 ∷ []) ∷
    -- flag (0, 1, 2): all but 0; exchanged
    row (yes (eqb 0 1) ∷ yes (eqb 1 1) ∷ yes (eqb 2 1) ∷ []) (0 ∷ 1 ∷ 1 ∷ []) (1 ∷ 0 ∷ 0 ∷ []) ∷
    -- wide8, wide16, wide32, long and size, whose contracts say the number itself: with its sign; without its top bit
    row (0xff ∷ 0xffff ∷ 0xffffffff ∷ 0xffffffffffffffff ∷ 0xffffffffffffffff ∷ [])
    (0xffffffffffffffff ∷ 0xffffffffffffffff ∷ 0xffffffffffffffff ∷ 0xffffffffffffffff ∷ 0xffffffffffffffff ∷ []) (0x7f ∷ 0x7fff ∷ 0x7fffffff ∷ 0x7fffffffffffffff ∷ 0x7fffffffffffffff ∷ []) ∷
    -- narrow8, narrow16, narrow32: the highest of its kind where it is wider; the upper part
    row (0x102 % 256 ∷ 0x10002 % 65536 ∷ 0x100000002 % 4294967296 ∷ []) (0xff ∷ 0xffff ∷ 0xffffffff ∷ []) (1 ∷ 1 ∷ 1 ∷ []) ∷
    []

-- THE TASK UNDER WAY
abbrev post : Post
post = record { op = 0x43; op_mod = 1; in_mod = 2; in_param = 5; out_param = 6 }

abbrev cmd : Cmd
cmd = record { phase = cp.Low 9; post = post; toggle = true; stalls = 3; catas = ck.Known 2 0x100 }

-- the number of a task
abbrev task_no : Task → ℕ
task_no k = at (task_words k) 0

abbrev task_read : List ℕ → List ℕ
task_read w = task_words (task_of w)

abbrev read_no : ℕ → ℕ
read_no n = at (task_read (n ∷ zeros 12)) 0

abbrev pub tasks : List Row
tasks =
    -- fault_words: tags swapped; every fault is one
    row (fault_words f.Memory ++ fault_words f.Address) (1 ∷ 0 ∷ []) (0 ∷ 0 ∷ []) ∷
    -- fault_from (0, 1, 2): tags swapped; all but 0
    row (fault_words (fault_of 0) ++ (fault_words (fault_of 1) ++ fault_words (fault_of 2))) (1 ∷ 0 ∷ 1 ∷ []) (0 ∷ 1 ∷ 1 ∷ []) ∷
    -- catas_words: tags swapped; offset for BAR
    row (catas_words (ck.Known 2 0x100) ++ catas_words ck.Unknown) (1 ∷ 2 ∷ 0x100 ∷ 0 ∷ 0 ∷ 0 ∷ []) (0 ∷ 0x100 ∷ 2 ∷ 1 ∷ 0 ∷ 0 ∷ []) ∷
    -- catas_from: tags swapped; a BAR of nine bits
    row (catas_words (catas_of 0 0x102 0x100) ++ catas_words (catas_of 1 2 3)) (1 ∷ 0 ∷ 0 ∷ 0 ∷ 2 ∷ 3 ∷ []) (0 ∷ 0x102 ∷ 0x100 ∷ 1 ∷ 0 ∷ 0 ∷ []) ∷
    -- task_words, the numbers: two tasks have one; a reset and a search change places
    row (task_no wt.Rest ∷ task_no (wt.Attr tp.Get) ∷ task_no (wt.Claim lp.Command) ∷ task_no wt.Reset ∷ task_no wt.Bar ∷ task_no wt.Look ∷ task_no (wt.Cmd cmd) ∷ task_no (wt.Part pp.Disown) ∷ [])
    (0 ∷ 1 ∷ 2 ∷ 3 ∷ 4 ∷ 3 ∷ 8 ∷ 9 ∷ []) (0 ∷ 1 ∷ 2 ∷ 4 ∷ 3 ∷ 7 ∷ 8 ∷ 9 ∷ []) ∷
    -- task_words of a command: the stalls are not kept; the parameters change places
    row (task_words (wt.Cmd cmd)) (8 ∷ 9 ∷ 9 ∷ 0x43 ∷ 1 ∷ 2 ∷ 5 ∷ 6 ∷ 1 ∷ 0 ∷ 0 ∷ 2 ∷ 0x100 ∷ []) (8 ∷ 9 ∷ 9 ∷ 0x43 ∷ 1 ∷ 2 ∷ 6 ∷ 5 ∷ 1 ∷ 3 ∷ 0 ∷ 2 ∷ 0x100 ∷ []) ∷
    -- of attributes: those of before are lost; the tag of another question
    row (take 4 (task_words (wt.Attr (tp.Enable 5 6)))) (1 ∷ 2 ∷ 6 ∷ 6 ∷ []) (1 ∷ 1 ∷ 5 ∷ 6 ∷ []) ∷
    -- of a claim: the word is lost; the owner's tag
    row (take 3 (task_words (wt.Claim (lp.Write 5)))) (2 ∷ 1 ∷ 0 ∷ []) (2 ∷ 2 ∷ 5 ∷ []) ∷
    -- of a buffer that is made: the fault is lost; freed before it is unmapped
    row (take 5 (task_words (wt.Make (record { bytes = 8192; phase = mp.Unmap 7 f.Address })))) (5 ∷ 8192 ∷ 2 ∷ 7 ∷ 0 ∷ []) (5 ∷ 8192 ∷ 3 ∷ 7 ∷ 1 ∷ []) ∷
    -- of one that is freed: handle and pages change places; unmapped again
    row (take 4 (task_words (wt.Free (record { handle = 7; pages = 2; phase = fp.Free })))) (6 ∷ 2 ∷ 7 ∷ 1 ∷ []) (6 ∷ 7 ∷ 2 ∷ 0 ∷ []) ∷
    -- of a parting: the attributes are lost; the word to be written
    row (take 3 (task_words (wt.Part (pp.Restore 5)))) (9 ∷ 2 ∷ 0 ∷ []) (9 ∷ 5 ∷ 5 ∷ []) ∷
    -- task_from, the numbers: a reset is read as a search; one above 9 as a parting
    row (read_no 0 ∷ read_no 1 ∷ read_no 2 ∷ read_no 3 ∷ read_no 4 ∷ read_no 5 ∷ read_no 6 ∷ read_no 7 ∷ read_no 8 ∷ read_no 9 ∷ read_no 10 ∷ [])
    (0 ∷ 1 ∷ 2 ∷ 4 ∷ 4 ∷ 5 ∷ 6 ∷ 7 ∷ 8 ∷ 9 ∷ 0 ∷ []) (0 ∷ 1 ∷ 2 ∷ 3 ∷ 4 ∷ 5 ∷ 6 ∷ 7 ∷ 8 ∷ 9 ∷ 9 ∷ []) ∷
    -- task_from of a command: the opcode is read from the modifier; the stalls are not read
    row (task_read (8 ∷ 9 ∷ 9 ∷ 0x43 ∷ 1 ∷ 2 ∷ 5 ∷ 6 ∷ 1 ∷ 3 ∷ 0 ∷ 2 ∷ 0x100 ∷ [])) (8 ∷ 9 ∷ 9 ∷ 1 ∷ 1 ∷ 2 ∷ 5 ∷ 6 ∷ 1 ∷ 3 ∷ 0 ∷ 2 ∷ 0x100 ∷ []) (8 ∷ 9 ∷ 9 ∷ 0x43 ∷ 1 ∷ 2 ∷ 5 ∷ 6 ∷ 1 ∷ 0 ∷ 0 ∷ 2 ∷ 0x100 ∷ []) ∷
    -- of attributes: the values change places; one value for both
    row (take 4 (task_read (1 ∷ 2 ∷ 5 ∷ 6 ∷ zeros 9))) (1 ∷ 2 ∷ 6 ∷ 5 ∷ []) (1 ∷ 2 ∷ 5 ∷ 5 ∷ []) ∷
    -- of a buffer that is made: the handle for the bytes; another fault
    row (take 5 (task_read (5 ∷ 8192 ∷ 2 ∷ 7 ∷ 1 ∷ zeros 8))) (5 ∷ 7 ∷ 2 ∷ 7 ∷ 1 ∷ []) (5 ∷ 8192 ∷ 2 ∷ 7 ∷ 0 ∷ []) ∷
    []

-- WHAT STANDS BESIDE IT
abbrev reset : Reset
reset = record { phase = rp.Link 0x40 7; dwords = take 16 rising; control = rc.Saved 0x48 8 9 }

abbrev candidate : ℕ → Option BarRange → Candidate
candidate i x = record { index = i; answer = x }

abbrev find : BarPhase → FindBar
find p = record { phase = p; dwords = take 6 rising }

abbrev choosing : BarPhase
choosing = up.Choosing (record { base = 0x50; first = candidate 2 (Some (record { base = 3; length = 4 })); second = candidate 1 None; asking = ba.Other 5 })

abbrev pub besides : List Row
besides =
    -- reset_words: the device control word is not kept; the place is lost
    row (reset_words reset) (4 ∷ 0x40 ∷ 7 ∷ 0 ∷ 1 ∷ 0x48 ∷ 9 ∷ 9 ∷ take 16 rising) (4 ∷ 7 ∷ 7 ∷ 0 ∷ 1 ∷ 0x48 ∷ 8 ∷ 9 ∷ take 16 rising) ∷
    -- reset_from: the control words are read one word further; the dwords are
    row (reset_words (reset_of (4 ∷ 0x40 ∷ 7 ∷ 0 ∷ 1 ∷ 0x48 ∷ 8 ∷ 9 ∷ take 16 rising))) (4 ∷ 0x40 ∷ 7 ∷ 0 ∷ 0 ∷ 0 ∷ 0 ∷ 0 ∷ take 16 rising)
    (4 ∷ 0x40 ∷ 7 ∷ 0 ∷ 1 ∷ 0x48 ∷ 8 ∷ 9 ∷ (drop 1 (take 16 rising) ++ (0 ∷ []))) ∷
    -- find_words: the first for the second candidate; the base is lost
    row (find_words (find choosing)) (1 ∷ 0x50 ∷ 2 ∷ 0 ∷ 3 ∷ 4 ∷ 2 ∷ 0 ∷ 3 ∷ 4 ∷ 2 ∷ 5 ∷ take 6 rising) (1 ∷ 0 ∷ 2 ∷ 0 ∷ 3 ∷ 4 ∷ 1 ∷ 1 ∷ 0 ∷ 0 ∷ 2 ∷ 5 ∷ take 6 rising) ∷
    -- find_words while dwords are read: a choice; one dword fewer is left
    row (find_words (find (up.Reading 3))) (1 ∷ 3 ∷ (zeros 10 ++ take 6 rising)) (0 ∷ 2 ∷ (zeros 10 ++ take 6 rising)) ∷
    -- find_from: base and length change places; the open question is the first
    row (find_words (find_of (1 ∷ 0x50 ∷ 2 ∷ 0 ∷ 3 ∷ 4 ∷ 1 ∷ 1 ∷ 0 ∷ 0 ∷ 2 ∷ 5 ∷ take 6 rising))) (1 ∷ 0x50 ∷ 2 ∷ 0 ∷ 4 ∷ 3 ∷ 1 ∷ 1 ∷ 0 ∷ 0 ∷ 2 ∷ 5 ∷ take 6 rising)
    (1 ∷ 0x50 ∷ 2 ∷ 0 ∷ 3 ∷ 4 ∷ 1 ∷ 1 ∷ 0 ∷ 0 ∷ 0 ∷ 0 ∷ take 6 rising) ∷
    []

-- WHAT WAS SAID
abbrev info : Info
info = record { uar = pick_of 2 0 0x2000 1; cap = cap_of rising; func = func_of 40 41 42; port1 = port_of (drop 3 rising); port2 = port_of rising; rev3 = true }

abbrev pub infos : List Row
infos =
    -- told_words: the length is lost; the revision is
    row (told_words (record { uar = pick_of 2 0 0x2000 1; func = func_of 40 41 42; rev3 = true })) (2 ∷ 0 ∷ 0 ∷ 1 ∷ 40 ∷ 41 ∷ 42 ∷ 1 ∷ []) (2 ∷ 0 ∷ 0x2000 ∷ 1 ∷ 40 ∷ 41 ∷ 42 ∷ 0 ∷ []) ∷
    -- told_from: how it was chosen is lost; EQs change places
    row (told_words (told_of (2 ∷ 0 ∷ 0x2000 ∷ 1 ∷ 40 ∷ 41 ∷ 42 ∷ 1 ∷ []))) (2 ∷ 0 ∷ 0x2000 ∷ 0 ∷ 40 ∷ 41 ∷ 42 ∷ 1 ∷ []) (2 ∷ 0 ∷ 0x2000 ∷ 1 ∷ 41 ∷ 40 ∷ 42 ∷ 1 ∷ []) ∷
    -- cap_words and cap_from, the first 17: the flags are read from the next word; a word is lost
    row (take 17 (cap_words (cap_of rising))) (take 14 rising ++ (16 ∷ 16 ∷ 17 ∷ [])) (take 13 rising ++ (15 ∷ 16 ∷ 17 ∷ 18 ∷ [])) ∷
    -- and the rest, with one of the two bits set: the bits change places; the sizes are read one word early
    row (drop 17 (cap_words (cap_of (take 17 rising ++ (1 ∷ 0 ∷ drop 19 rising))))) (0 ∷ 1 ∷ drop 19 rising) (1 ∷ 0 ∷ 20 ∷ 21 ∷ 21 ∷ drop 21 (take 31 rising)) ∷
    -- port_words and port_from: the speed is kept as the types; the bytes of the MAC in the other order
    row (port_words (port_of (1 ∷ 1 ∷ 3 ∷ 4 ∷ 5 ∷ 0 ∷ 1 ∷ drop 7 (take 17 rising)))) (1 ∷ 1 ∷ 3 ∷ 4 ∷ 5 ∷ 0 ∷ 1 ∷ 3 ∷ drop 8 (take 17 rising)) (1 ∷ 1 ∷ 3 ∷ 4 ∷ 5 ∷ 0 ∷ 1 ∷ 8 ∷ 9 ∷ 10 ∷ 11 ∷ 17 ∷ 16 ∷ 15 ∷ 14 ∷ 13 ∷ 12 ∷ []) ∷
    []

-- HOW FAR A SESSION HAS COME
-- the first three words of a stage
abbrev stage : Stage → List ℕ
stage x = take 3 (stage_words x)

abbrev stage_read : List ℕ → List ℕ
stage_read w = stage_words (stage_of w)

abbrev pub stages : List Row
stages =
    -- stage_words, the numbers: fresh and ended change places; a close for a client's call
    row (stage st.Fresh ++ (stage (st.Open ga.Nothing) ++ (stage st.Ended ++ (stage (st.Close cl.CloseHca) ++ stage (st.Client (ci.Lend 9))))))
    (2 ∷ 0 ∷ 0 ∷ 1 ∷ 0 ∷ 0 ∷ 0 ∷ 0 ∷ 0 ∷ 6 ∷ 1 ∷ 0 ∷ 5 ∷ 1 ∷ 9 ∷ []) (0 ∷ 0 ∷ 0 ∷ 1 ∷ 0 ∷ 0 ∷ 2 ∷ 0 ∷ 0 ∷ 6 ∷ 1 ∷ 0 ∷ 6 ∷ 1 ∷ 9 ∷ []) ∷
    -- of a buffer that is lent, in slot 9: which slot is lost; the slot behind
    row (stage (st.Client (ci.Lend 9))) (5 ∷ 1 ∷ 0 ∷ []) (5 ∷ 1 ∷ 10 ∷ []) ∷
    -- of an undo down to a mark: the mark is not kept; mark and count change places
    row (take 4 (stage_words (st.Client (ci.UndoTo 5 6)))) (5 ∷ 2 ∷ 6 ∷ 6 ∷ []) (5 ∷ 2 ∷ 6 ∷ 5 ∷ []) ∷
    -- of a range that is mapped: the host address of what is left to cut is not kept; the card address is lost
    row (stage_words (st.Boot (bo.Map (ar.Range 3) (record { virt = Some 9; phys = 10; left = 11 })))) (4 ∷ 2 ∷ 2 ∷ 3 ∷ 0 ∷ 9 ∷ 11 ∷ 11 ∷ []) (4 ∷ 2 ∷ 2 ∷ 3 ∷ 1 ∷ 0 ∷ 10 ∷ 11 ∷ []) ∷
    -- of the outbox, and of the first look: they change places; the inbox for the outbox
    row (stage (st.Prepare pr.Outbox) ++ stage (st.Prepare pr.Look)) (3 ∷ 6 ∷ 0 ∷ 3 ∷ 5 ∷ 0 ∷ []) (3 ∷ 4 ∷ 0 ∷ 3 ∷ 6 ∷ 0 ∷ []) ∷
    -- of QUERY_PORT, and of INIT_HCA: the port is lost; RUN_FW for INIT_HCA
    row (stage (st.Boot (bo.Port 2)) ++ stage (st.Boot bo.InitHca)) (4 ∷ 6 ∷ 0 ∷ 4 ∷ 8 ∷ 0 ∷ []) (4 ∷ 6 ∷ 2 ∷ 4 ∷ 3 ∷ 0 ∷ []) ∷
    -- of a slot that is freed, of a range that is unmapped, the release and the quiesce: which one is lost; an unmapping for a freeing
    row (stage (st.Close (cl.Free 65)) ++ (stage (st.Close (cl.Unmap 6)) ++ (stage (st.Close cl.Release) ++ stage (st.Close cl.Quiesce))))
    (6 ∷ 7 ∷ 0 ∷ 6 ∷ 2 ∷ 0 ∷ 6 ∷ 8 ∷ 0 ∷ 6 ∷ 5 ∷ 0 ∷ []) (6 ∷ 2 ∷ 65 ∷ 6 ∷ 2 ∷ 6 ∷ 6 ∷ 8 ∷ 0 ∷ 6 ∷ 5 ∷ 0 ∷ []) ∷
    -- of the forms of a command: with input and with output change places; the last is the first
    row (stage (st.Client (ci.Command fo.WithIn)) ++ (stage (st.Client (ci.Command fo.WithOut)) ++ stage (st.Client (ci.Command fo.InOut))))
    (5 ∷ 0 ∷ 2 ∷ 5 ∷ 0 ∷ 1 ∷ 5 ∷ 0 ∷ 4 ∷ []) (5 ∷ 0 ∷ 1 ∷ 5 ∷ 0 ∷ 2 ∷ 5 ∷ 0 ∷ 0 ∷ []) ∷
    -- stage_from of an ended session: a fresh one; an open one
    row (stage_read (2 ∷ zeros 7)) (zeros 8) (1 ∷ zeros 7) ∷
    -- of why a call failed: read as a buffer that it lent; the number is lost
    row (stage_read (1 ∷ 3 ∷ 5 ∷ 2 ∷ 50 ∷ zeros 3)) (1 ∷ 2 ∷ 5 ∷ 0 ∷ 0 ∷ zeros 3) (1 ∷ 3 ∷ 0 ∷ 0 ∷ 0 ∷ zeros 3) ∷
    -- of a buffer that was lent, in slot 9: the slot is lost; nothing
    row (stage_read (1 ∷ 2 ∷ 9 ∷ zeros 5)) (1 ∷ 2 ∷ zeros 6) (1 ∷ zeros 7) ∷
    -- of slot 81 that is freed: the slot before; released
    row (stage_read (6 ∷ 7 ∷ 81 ∷ zeros 5)) (6 ∷ 7 ∷ 80 ∷ zeros 5) (6 ∷ 8 ∷ zeros 6) ∷
    -- of a command's end: immediate and microseconds change places; nothing
    row (stage_read (1 ∷ 1 ∷ 5 ∷ 9 ∷ zeros 4)) (1 ∷ 1 ∷ 9 ∷ 5 ∷ zeros 4) (1 ∷ zeros 7) ∷
    -- of a range that is mapped: what is left for the host address; the auxiliary area
    row (stage_read (4 ∷ 2 ∷ 2 ∷ 3 ∷ 0 ∷ 9 ∷ 10 ∷ 11 ∷ [])) (4 ∷ 2 ∷ 2 ∷ 3 ∷ 0 ∷ 9 ∷ 11 ∷ 11 ∷ []) (4 ∷ 2 ∷ 1 ∷ 0 ∷ 0 ∷ 9 ∷ 10 ∷ 11 ∷ []) ∷
    -- of an undo down to a mark: mark and count change places; a command
    row (stage_read (5 ∷ 2 ∷ 5 ∷ 6 ∷ zeros 4)) (5 ∷ 2 ∷ 6 ∷ 5 ∷ zeros 4) (5 ∷ 0 ∷ 0 ∷ 0 ∷ zeros 4) ∷
    []

-- THE BOOKS
abbrev ledger : Ledger
ledger =
    record {
      ranges = 3;
      lends = 4;
      started = true;
      original = 5;
      wire = record { toggle = true; running = false; broken = true; silent = false; catas = ck.Known 2 0x100 };
      failure = fa.By (r.Status 2 50);
      closing = co.Kept;
    }

-- its words behind the two counts, with the bits of broken and silent
abbrev ledger_tail : (broken silent : ℕ) → List ℕ
ledger_tail b s = 1 ∷ 5 ∷ 1 ∷ 0 ∷ b ∷ s ∷ 0 ∷ 2 ∷ 0x100 ∷ 1 ∷ 5 ∷ 2 ∷ 50 ∷ 2 ∷ []

-- a range of two pages in its slot, mapped
abbrev held : Slot
held = mapped_at (bare 9 7 2) 5

abbrev refusal_read : (tag a b : ℕ) → List ℕ
refusal_read t x y = refusal_words (refusal_of t x y)

abbrev pub books : List Row
books =
    -- refusal_words (Busy, the bus, a status): a busy card is kept as a failed bus; status and microseconds change places
    row (refusal_words r.Busy ++ (refusal_words (r.Bus 3) ++ refusal_words (r.Status 2 50))) (8 ∷ 0 ∷ 0 ∷ 8 ∷ 3 ∷ 0 ∷ 5 ∷ 2 ∷ 50 ∷ []) (7 ∷ 0 ∷ 0 ∷ 8 ∷ 3 ∷ 0 ∷ 5 ∷ 50 ∷ 2 ∷ []) ∷
    -- refusal_words (memory, address, full, opcode): document 01's numbers; memory and address change places
    row (take 1 (refusal_words r.Memory) ++ (take 1 (refusal_words r.Address) ++ (take 1 (refusal_words r.Full) ++ take 1 (refusal_words r.Opcode)))) (5 ∷ 18 ∷ 19 ∷ 22 ∷ []) (17 ∷ 4 ∷ 18 ∷ 21 ∷ []) ∷
    -- refusal_from (Timeout, Busy, the bus): a Timeout is read as a failed bus; its wait is lost
    row (refusal_read 6 50 0 ++ (refusal_read 7 0 0 ++ refusal_read 8 3 0)) (8 ∷ 50 ∷ 0 ∷ 7 ∷ 0 ∷ 0 ∷ 8 ∷ 3 ∷ 0 ∷ []) (6 ∷ 0 ∷ 0 ∷ 7 ∷ 0 ∷ 0 ∷ 8 ∷ 3 ∷ 0 ∷ []) ∷
    -- refusal_from (a status, one past the last): they change places; the last
    row (refusal_read 5 2 50 ++ refusal_read 23 0 0) (5 ∷ 50 ∷ 2 ∷ 0 ∷ 0 ∷ 0 ∷ []) (5 ∷ 2 ∷ 50 ∷ 22 ∷ 0 ∷ 0 ∷ []) ∷
    -- slot_words: handle and card address change places; it is not kept whether it is mapped
    row (slot_words held) (1 ∷ 7 ∷ 9 ∷ 5 ∷ 2 ∷ 1 ∷ []) (1 ∷ 9 ∷ 7 ∷ 5 ∷ 2 ∷ 0 ∷ []) ∷
    -- slot_from: the handle as the device address; an empty slot
    row (slot_words (slot_of (1 ∷ 9 ∷ 7 ∷ 5 ∷ 2 ∷ 1 ∷ []))) (1 ∷ 9 ∷ 7 ∷ 7 ∷ 2 ∷ 1 ∷ []) (0 ∷ 9 ∷ 7 ∷ 5 ∷ 2 ∷ 1 ∷ []) ∷
    -- ledger_words: the count of ranges is kept twice; broken is kept as silent
    row (ledger_words ledger) (3 ∷ 3 ∷ ledger_tail 1 0) (3 ∷ 4 ∷ ledger_tail 0 0) ∷
    -- ledger_from: the counts change places; broken and silent do
    row (ledger_words (ledger_of (3 ∷ 4 ∷ ledger_tail 1 0))) (4 ∷ 3 ∷ ledger_tail 1 0) (3 ∷ 4 ∷ ledger_tail 0 1) ∷
    []

-- WHAT CROSSES C LINKAGE
abbrev told_answer : Answer → List ℕ
told_answer (a.Word x) = 1 ∷ x ∷ []
told_answer (a.Dword x) = 2 ∷ x ∷ []
told_answer (a.Qword x) = 3 ∷ x ∷ []
told_answer a.Done = 4 ∷ []
told_answer a.Failed = 5 ∷ []
told_answer (a.Handle x) = 6 ∷ x ∷ []
told_answer (a.Mapped x y) = 7 ∷ x ∷ y ∷ []
told_answer a.List = 8 ∷ []

abbrev heard : Outcome Answer → List ℕ
heard (value x) = 0 ∷ told_answer x
heard (refused n vs) = n ∷ vs

abbrev pub calls : List Row
calls =
    -- question_words (unmap, map): an unmap is told as a map; handle and bytes change places
    row (question_words (q.Unmap 7) ++ question_words (q.Map 7 4096)) (11 ∷ 7 ∷ 0 ∷ 0 ∷ 11 ∷ 7 ∷ 4096 ∷ 0 ∷ []) (12 ∷ 7 ∷ 0 ∷ 0 ∷ 11 ∷ 4096 ∷ 7 ∷ 0 ∷ []) ∷
    -- question_words (a register write and read): the value is lost; BAR and offset change places
    row (question_words (q.RegWrite 2 0x80698 5) ++ question_words (q.RegRead 2 0x80698)) (6 ∷ 2 ∷ 0x80698 ∷ 0 ∷ 5 ∷ 2 ∷ 0x80698 ∷ 0 ∷ []) (6 ∷ 2 ∷ 0x80698 ∷ 5 ∷ 5 ∷ 0x80698 ∷ 2 ∷ 0 ∷ []) ∷
    -- question_words (config): 16 and 32 bits change places; reads and writes do
    row (question_words (q.ConfigRead16 4) ++ (question_words (q.ConfigRead32 4) ++ (question_words (q.ConfigWrite16 4 5) ++ question_words (q.ConfigWrite32 4 5))))
    (2 ∷ 4 ∷ 0 ∷ 0 ∷ 1 ∷ 4 ∷ 0 ∷ 0 ∷ 4 ∷ 4 ∷ 5 ∷ 0 ∷ 3 ∷ 4 ∷ 5 ∷ 0 ∷ []) (3 ∷ 4 ∷ 0 ∷ 0 ∷ 4 ∷ 4 ∷ 0 ∷ 0 ∷ 1 ∷ 4 ∷ 5 ∷ 0 ∷ 2 ∷ 4 ∷ 5 ∷ 0 ∷ []) ∷
    -- question_words (attributes, a resource list, a stall): operation and value change places; an allocation for a stall
    row (question_words (q.Attributes 2 0x600) ++ (question_words (q.Resource 3) ++ question_words (q.Stall 100))) (7 ∷ 0x600 ∷ 2 ∷ 0 ∷ 8 ∷ 3 ∷ 0 ∷ 0 ∷ 9 ∷ 100 ∷ 0 ∷ 0 ∷ []) (7 ∷ 2 ∷ 0x600 ∷ 0 ∷ 8 ∷ 3 ∷ 0 ∷ 0 ∷ 10 ∷ 100 ∷ 0 ∷ 0 ∷ []) ∷
    -- question_words (allocate, free, fence, finished): the pages are lost; a fence is told as finished
    row (question_words (q.Allocate 2) ++ (question_words (q.Free 7 2) ++ (question_words q.Fence ++ question_words q.Finished)))
    (10 ∷ 2 ∷ 0 ∷ 0 ∷ 13 ∷ 7 ∷ 0 ∷ 0 ∷ 14 ∷ 0 ∷ 0 ∷ 0 ∷ 0 ∷ 0 ∷ 0 ∷ 0 ∷ []) (10 ∷ 2 ∷ 0 ∷ 0 ∷ 13 ∷ 7 ∷ 2 ∷ 0 ∷ 0 ∷ 0 ∷ 0 ∷ 0 ∷ 0 ∷ 0 ∷ 0 ∷ 0 ∷ []) ∷
    -- put_turn: the count of undo records is not told; it is told for the last value
    row (words_in (turn_in (zeros 40) (q.RegWrite 2 0x698 5) 9) 0 5) (6 ∷ 2 ∷ 0x698 ∷ 5 ∷ 0 ∷ []) (6 ∷ 2 ∷ 0x698 ∷ 9 ∷ 0 ∷ []) ∷
    -- put_turn into 32 bytes: the question alone; its kind alone
    row (turn_in (zeros 32) (q.Stall 5) 9) (zeros 7 ++ (9 ∷ (zeros 7 ++ (5 ∷ zeros 16)))) (zeros 7 ++ (9 ∷ zeros 24)) ∷
    -- answer_from of an unknown kind: failed; done
    row (heard (heard_of 9 1 2) ++ heard (heard_of 0 1 2)) (0 ∷ 5 ∷ 0 ∷ 5 ∷ []) (0 ∷ 4 ∷ 0 ∷ 4 ∷ []) ∷
    -- answer_from of a word (16 bits, 17 bits): a value of 17 bits is taken; cut to 16
    row (heard (heard_of 1 65535 0) ++ heard (heard_of 1 65536 0)) (0 ∷ 1 ∷ 65535 ∷ 0 ∷ 1 ∷ 65536 ∷ []) (0 ∷ 1 ∷ 65535 ∷ 0 ∷ 1 ∷ 0 ∷ []) ∷
    -- answer_from of a dword (32 bits, 33 bits): a value of 33 bits is taken; cut to 32
    row (heard (heard_of 2 4294967295 0) ++ heard (heard_of 2 4294967296 0)) (0 ∷ 2 ∷ 4294967295 ∷ 0 ∷ 2 ∷ 4294967296 ∷ []) (0 ∷ 2 ∷ 4294967295 ∷ 0 ∷ 2 ∷ 0 ∷ []) ∷
    -- answer_from (done, failed, a handle, a mapping, a list): done and failed change places; address and bytes do
    row (heard (heard_of 4 0 0) ++ (heard (heard_of 5 0 0) ++ (heard (heard_of 6 7 0) ++ (heard (heard_of 7 0x5000 4096) ++ heard (heard_of 8 0 0)))))
    (0 ∷ 5 ∷ 0 ∷ 4 ∷ 0 ∷ 6 ∷ 7 ∷ 0 ∷ 7 ∷ 0x5000 ∷ 4096 ∷ 0 ∷ 8 ∷ []) (0 ∷ 4 ∷ 0 ∷ 5 ∷ 0 ∷ 6 ∷ 7 ∷ 0 ∷ 7 ∷ 4096 ∷ 0x5000 ∷ 0 ∷ 8 ∷ []) ∷
    []

-- A COMMAND THAT GOES ON: what comes next, as a number and its value
abbrev told_next : Next → List ℕ
told_next nx.Other = 0 ∷ []
told_next (nx.Write i) = 1 ∷ i ∷ []
told_next nx.Fence = 2 ∷ []
told_next nx.Go = 3 ∷ []
told_next (nx.Posted g) = 4 ∷ g ∷ []
told_next (nx.Stall us) = 5 ∷ us ∷ []
told_next (nx.Read n) = 6 ∷ n ∷ []
told_next nx.Fenced = 7 ∷ []
told_next nx.Status = 8 ∷ []
told_next nx.High = 9 ∷ []
told_next (nx.Low v) = 10 ∷ v ∷ []

-- the first ten words of a command with toggle 1
abbrev ten_words : (phase value stalls : ℕ) → List ℕ
ten_words p i n = 8 ∷ p ∷ i ∷ 0x43 ∷ 1 ∷ 2 ∷ 5 ∷ 6 ∷ 1 ∷ n ∷ []

abbrev ten : (phase stalls : ℕ) → List ℕ
ten p n = put_words (zeros 80) 0 (ten_words p 0 n)

abbrev nexts : (phase value stalls : ℕ) → Answer → List ℕ
nexts p i n x = told_next (next_of (ten_words p i n) x)

-- what is lent, with an outbox of so many bytes, and so many undo records
abbrev lends : (outbox undo : ℕ) → ℕ
lends n m = yes (ready_for (zeros state_bytes) (zeros 4096) (zeros n) m (zeros 40))

abbrev pub going_on : List Row
going_on =
    -- next_at, before posting, not pending: the fence; taken for busy
    row (nexts 0 0 0 (a.Dword 0)) (2 ∷ []) (0 ∷ []) ∷
    -- next_at, before posting, pending: posted over a command that runs; a stall
    row (nexts 0 0 0 (a.Dword 0x2000)) (1 ∷ 0 ∷ []) (5 ∷ 1 ∷ []) ∷
    -- next_at, words 4 and 5 were written: word 4 again; the fence skipped
    row (nexts 1 4 0 a.Done ++ nexts 1 5 0 a.Done) (1 ∷ 4 ∷ 2 ∷ []) (1 ∷ 5 ∷ 3 ∷ []) ∷
    -- next_at, behind the fence: the fence again; taken for posted
    row (nexts 2 0 0 a.Done) (2 ∷ []) (4 ∷ 0 ∷ []) ∷
    -- next_at, posted: the toggle as it was; the fence behind a command
    row (nexts 3 0 0 a.Done) (4 ∷ 1 ∷ []) (7 ∷ []) ∷
    -- next_at, pending after three stalls: read again without a stall; a long stall
    row (nexts 4 0 3 (a.Dword 0x2000)) (6 ∷ 3 ∷ []) (5 ∷ 100 ∷ []) ∷
    -- next_at, pending after 600,989 stalls and 600,990: one more; one fewer
    row (nexts 4 0 600989 (a.Dword 0x2000) ++ nexts 4 0 600990 (a.Dword 0x2000)) (5 ∷ 100 ∷ 5 ∷ 100 ∷ []) (0 ∷ 0 ∷ []) ∷
    -- next_at, no longer pending, and failed: the fence skipped; a failed read taken for a good one
    row (nexts 4 0 3 (a.Dword 0) ++ nexts 4 0 3 a.Failed) (8 ∷ 0 ∷ []) (7 ∷ 7 ∷ []) ∷
    -- next_at, a stall was made: it is not counted; the command does not go on
    row (nexts 5 0 3 a.Done) (6 ∷ 3 ∷ []) (0 ∷ []) ∷
    -- next_at, a stall that failed, which it cannot: it was made; read without it
    row (nexts 5 0 3 a.Failed) (6 ∷ 4 ∷ []) (6 ∷ 3 ∷ []) ∷
    -- next_at, behind the second fence: the immediate without the status; the fence again
    row (nexts 6 0 3 a.Done) (9 ∷ []) (7 ∷ []) ∷
    -- next_at, the status is 0, and 0x50: a command's end taken for one that goes on; the high half is not read
    row (nexts 7 0 3 (a.Dword 0) ++ nexts 7 0 3 (a.Dword 0x50)) (9 ∷ 9 ∷ []) (10 ∷ 0 ∷ 0 ∷ []) ∷
    -- next_at, the high half: as the bus carries it; the end
    row (nexts 8 0 3 (a.Dword 0x1000000)) (10 ∷ 0x1000000 ∷ []) (0 ∷ []) ∷
    -- next_at, the low half, the catastrophic buffer, and another task: the low half is read again; another task taken for a command
    row (nexts 9 1 3 (a.Dword 0) ++ (nexts 10 0 3 (a.Dword 0) ++ told_next (next_of (5 ∷ 4 ∷ zeros 8) (a.Dword 0x2000)))) (10 ∷ 1 ∷ 0 ∷ 0 ∷ []) (0 ∷ 0 ∷ 5 ∷ 1 ∷ []) ∷
    -- is_ready, mailboxes of 4,096 bytes with 256 records, an outbox of 4,097, 257 records: whatever the outbox's length; one record more
    row (lends 4096 256 ∷ lends 4097 0 ∷ lends 4096 257 ∷ []) (1 ∷ 1 ∷ 0 ∷ []) (1 ∷ 0 ∷ 1 ∷ []) ∷
    -- goes_on_lem, at a fence, and where it is not known: it always does; it never does
    row (yes (goes_on nx.Fenced) ∷ yes (goes_on nx.Other) ∷ []) (1 ∷ 1 ∷ []) (0 ∷ 0 ∷ []) ∷
    -- go_on, a stall, the state: kept as a read; one word further
    row (state_after (nx.Stall 1) (zeros 32)) (zeros 8 ++ (4 ∷ zeros 23)) (zeros 16 ++ (5 ∷ zeros 15)) ∷
    -- go_on, a stall that was made, the state (words 1, 8 and 9): the stalls are written over the toggle; the phase is left as it was
    row (words_in (state_after (nx.Read 4) (ten 5 3)) 1 1 ++ words_in (state_after (nx.Read 4) (ten 5 3)) 8 2) (4 ∷ 4 ∷ 3 ∷ []) (5 ∷ 1 ∷ 4 ∷ []) ∷
    -- go_on, posted, the state (words 1, 8 and 9): the toggle as it was; the stalls of the command before
    row (words_in (state_after (nx.Posted 0) (ten 3 3)) 1 1 ++ words_in (state_after (nx.Posted 0) (ten 3 3)) 8 2) (4 ∷ 1 ∷ 0 ∷ []) (4 ∷ 0 ∷ 3 ∷ []) ∷
    -- go_on, word 2, the question: as the card has it; that of the word behind it
    row (words_in (out_after (nx.Write 2) (ten 1 0) (zeros 40) 9) 0 5) (6 ∷ 0 ∷ 0x80688 ∷ 2 ∷ 9 ∷ []) (6 ∷ 0 ∷ 0x8068c ∷ 0 ∷ 9 ∷ []) ∷
    -- go_on, the word that posts, the question: without GO; with the other toggle
    row (words_in (out_after nx.Go (ten 2 0) (zeros 40) 9) 0 5) (6 ∷ 0 ∷ 0x80698 ∷ 0x43102000 ∷ 9 ∷ []) (6 ∷ 0 ∷ 0x80698 ∷ 0x43108000 ∷ 9 ∷ []) ∷
    -- go_on, the second half of the immediate, the question: the first half; a stall
    row (words_in (out_after (nx.Low 1) (ten 8 0) (zeros 40) 9) 0 5) (5 ∷ 0 ∷ 0x8068c ∷ 0 ∷ 9 ∷ []) (9 ∷ 1 ∷ 0 ∷ 0 ∷ 9 ∷ []) ∷
    []

-- THE IMAGE, all words 0 but those from word k on, each of one byte
abbrev low : List ℕ → List ℕ
low ws = flat (λ (x : ℕ). x ∷ zeros 7) ws

abbrev image : (k : ℕ) → List ℕ → List ℕ
image k ws = zeros (k * 8) ++ (low ws ++ zeros ((state_words - (k + length ws)) * 8))

-- too few bytes; and one word
abbrev few : List ℕ
few = 9 ∷ zeros 7

abbrev one_at : ℕ → List ℕ → List ℕ
one_at k xs = words_in xs k 1

-- BEHIND THE HEAD
abbrev slot_in : List ℕ → ℕ → List ℕ
slot_in xs i = slot_words (slot_at (behind_in xs).slots i)

abbrev slot_one : List ℕ
slot_one = image (slots_at + SLOT) (1 ∷ 9 ∷ 7 ∷ 5 ∷ 2 ∷ 1 ∷ [])

abbrev linked : List ℕ
linked = image reset_at (4 ∷ 0x40 ∷ 7 ∷ [])

abbrev searching : List ℕ
searching = image find_at (0 ∷ 3 ∷ [])

abbrev port_at : List ℕ → ℕ → PortInfo
port_at xs i = pick (eqb i 1) (behind_in xs).port1 (behind_in xs).port2

abbrev port_put : ℕ → List ℕ → List ℕ
port_put i xs = put_part (pick (eqb i 1) port1_at port2_at) (port_words (port_of rising)) xs

abbrev pub behinds : List Row
behinds =
    -- slot_at (slot 1, slot 0): the slot before; every slot the first that is held
    row (slot_in slot_one 1 ++ slot_in slot_one 0) (zeros 12) (1 ∷ 9 ∷ 7 ∷ 5 ∷ 2 ∷ 1 ∷ 1 ∷ 9 ∷ 7 ∷ 5 ∷ 2 ∷ 1 ∷ []) ∷
    -- slot_at, behind the last slot, and of too few bytes: the last one; what is there
    row (slot_in (image (slots_at + 81 * SLOT) (1 ∷ 9 ∷ 7 ∷ 5 ∷ 2 ∷ 1 ∷ [])) 82 ++ slot_in few 0) (1 ∷ 9 ∷ 7 ∷ 5 ∷ 2 ∷ 1 ∷ zeros 6) (zeros 6 ++ (9 ∷ zeros 5)) ∷
    -- put_slot, slot 0: one word early; nothing
    row (one_at slots_at (slot_put 0 held (zeros state_bytes))) (9 ∷ []) (0 ∷ []) ∷
    -- put_slot, behind the last slot (the last one's words), and into too few bytes: the last one; the first byte
    row (words_in (slot_put 82 held (zeros state_bytes)) (slots_at + 81 * SLOT) 6 ++ slot_put 0 held few) (1 ∷ 9 ∷ 7 ∷ 5 ∷ 2 ∷ 1 ∷ few) (zeros 6 ++ (1 ∷ zeros 7)) ∷
    -- reset_at (its first three words): as it begins; one word late
    row (take 3 (reset_words (behind_in linked).reset)) (0 ∷ 15 ∷ 0 ∷ []) (0x40 ∷ 7 ∷ 0 ∷ []) ∷
    -- reset_at of too few bytes: what is there; on its way
    row (take 3 (reset_words (behind_in few).reset)) (0 ∷ 0 ∷ 0 ∷ []) (4 ∷ 0x40 ∷ 7 ∷ []) ∷
    -- put_reset: one word early; nothing
    row (one_at reset_at (put_part reset_at (reset_words reset) (zeros state_bytes))) (0x40 ∷ []) (0 ∷ []) ∷
    -- put_reset into too few bytes: its first word; zeros
    row (put_part reset_at (reset_words reset) few) (4 ∷ zeros 7) (zeros 8) ∷
    -- find_at: as it begins; from the reset's words
    row (take 2 (find_words (behind_in searching).find)) (0 ∷ 5 ∷ []) (0 ∷ 0 ∷ []) ∷
    -- find_at of too few bytes: what is there; done
    row (take 2 (find_words (behind_in few).find)) (0 ∷ 0 ∷ []) (1 ∷ 0 ∷ []) ∷
    -- put_find: one word early; nothing
    row (one_at find_at (put_part find_at (find_words (find choosing)) (zeros state_bytes))) (0x50 ∷ []) (0 ∷ []) ∷
    -- put_find into too few bytes: its first word; zeros
    row (put_part find_at (find_words (find choosing)) few) (1 ∷ zeros 7) (zeros 8) ∷
    -- cap_at: none; one word late
    row (take 3 (cap_words (behind_in (image cap_at (1 ∷ 2 ∷ 3 ∷ []))).cap)) (0 ∷ 0 ∷ 0 ∷ []) (2 ∷ 3 ∷ 0 ∷ []) ∷
    -- put_cap: one word early; nothing
    row (one_at cap_at (put_part cap_at (cap_words (cap_of rising)) (zeros state_bytes))) (2 ∷ []) (0 ∷ []) ∷
    -- put_cap into too few bytes: its first word; zeros
    row (put_part cap_at (cap_words (cap_of rising)) few) (1 ∷ zeros 7) (zeros 8) ∷
    -- port_at (port 1, port 2): the ports change places; port 1 for both
    row (at (port_words (port_at (image port1_at (1 ∷ [])) 1)) 0 ∷ at (port_words (port_at (image port1_at (1 ∷ [])) 2)) 0 ∷ []) (0 ∷ 1 ∷ []) (1 ∷ 1 ∷ []) ∷
    -- put_port, port 2 (the first word of port 1): as port 1; one word early
    row (one_at port1_at (port_put 2 (image port1_at (9 ∷ [])))) (1 ∷ []) (2 ∷ []) ∷
    -- put_port into too few bytes: its first word; zeros
    row (port_put 1 few) (1 ∷ zeros 7) (zeros 8) ∷
    -- begin, a reset in a closing: it goes on; its words are cleared
    row (one_at (reset_at + 1) (begun_in (st.Close cl.Reset) wt.Reset linked)) (0x40 ∷ []) (0 ∷ []) ∷
    -- begin, the search before bring-up: it goes on; its words are cleared
    row (one_at (find_at + 1) (begun_in (st.Prepare pr.Bar) wt.Bar searching)) (3 ∷ []) (0 ∷ []) ∷
    -- begin, another task: a reset begins with it; the words are cleared
    row (one_at (reset_at + 1) (begun_in (st.Close cl.Reset) wt.Look linked)) (15 ∷ []) (0 ∷ []) ∷
    -- slots_stand (a slot whose word `mapped` is 2, and too few bytes): any word stands; too few bytes do
    row (yes (slots_stand (image (slots_at + 5) (2 ∷ []))) ∷ yes (slots_stand few) ∷ []) (1 ∷ 0 ∷ []) (0 ∷ 1 ∷ []) ∷
    []

-- SESSIONS
abbrev looking : Core
looking = start_of (core_of fresh) (st.Prepare pr.Look) wt.Look

-- the numbers of a head's task and stage
abbrev head_nos : List ℕ → List ℕ
head_nos xs = task_no (head_in xs).task ∷ stage (head_in xs).stage

abbrev fits : List ℕ → Core → ℕ
fits xs c = yes (pick (ltb (length xs) state_bytes) false (head_stands xs c))

abbrev pub sessions : List Row
sessions =
    -- head_at, a head that looks: a fresh one; from one word late
    row (head_nos (image 0 (7 ∷ (zeros 12 ++ (3 ∷ 6 ∷ []))))) (0 ∷ 0 ∷ 0 ∷ 0 ∷ []) (0 ∷ 6 ∷ 0 ∷ 0 ∷ []) ∷
    -- head_at of too few bytes (and its toggle): what is there; toggle 0
    row (head_nos few ++ (yes (head_in few).wire.toggle ∷ [])) (9 ∷ 0 ∷ 0 ∷ 0 ∷ 1 ∷ []) (0 ∷ 0 ∷ 0 ∷ 0 ∷ 0 ∷ []) ∷
    -- head_stands (the head that they stand for, another, and too few bytes): another stands too; too few bytes stand for any
    row (fits (zeros state_bytes) (head_in (zeros state_bytes)) ∷ fits (zeros state_bytes) looking ∷ fits few looking ∷ []) (1 ∷ 1 ∷ 0 ∷ []) (1 ∷ 0 ∷ 1 ∷ []) ∷
    -- head_stands, 14 and 15 ranges: one range more; one fewer
    row (fits (image 21 (14 ∷ [])) (head_in (image 21 (14 ∷ []))) ∷ fits (image 21 (15 ∷ [])) (head_in (image 21 (15 ∷ []))) ∷ []) (1 ∷ 1 ∷ []) (0 ∷ 0 ∷ []) ∷
    -- head_stands, 64 and 65 lent: one more; one fewer
    row (fits (image 22 (64 ∷ [])) (head_in (image 22 (64 ∷ []))) ∷ fits (image 22 (65 ∷ [])) (head_in (image 22 (65 ∷ []))) ∷ []) (1 ∷ 1 ∷ []) (0 ∷ 0 ∷ []) ∷
    -- put_head (the stage's first word): the task alone; one word early
    row (one_at stage_at (put_head looking (zeros state_bytes))) (0 ∷ []) (6 ∷ []) ∷
    -- put_head into too few bytes: its first word; zeros
    row (put_head looking few) (7 ∷ zeros 7) (zeros 8) ∷
    -- put_task (the task's first word, and the stage's): the head of a fresh session with it; nothing
    row (one_at 0 (put_task wt.Look (image stage_at (3 ∷ 6 ∷ []))) ++ one_at stage_at (put_task wt.Look (image stage_at (3 ∷ 6 ∷ [])))) (7 ∷ 0 ∷ []) (0 ∷ 3 ∷ []) ∷
    -- put_task into too few bytes: its first word; zeros
    row (put_task wt.Look few) (7 ∷ zeros 7) (zeros 8) ∷
    -- keeps, too few bytes: 20; a session
    row (number_of (decode_of (zeros 8)) ∷ []) (20 ∷ []) (0 ∷ []) ∷
    -- keeps, a session, all words 0: every session is refused; too few bytes
    row (number_of (decode_of (zeros state_bytes)) ∷ []) (20 ∷ []) (21 ∷ []) ∷
    -- keeps, a task of no number: a session; too few bytes
    row (number_of (decode_of (image 0 (10 ∷ []))) ∷ []) (0 ∷ []) (21 ∷ []) ∷
    -- keeps, a slot whose word `mapped` is 2: a session; too few bytes
    row (number_of (decode_of (image (slots_at + 5) (2 ∷ []))) ∷ []) (0 ∷ []) (21 ∷ []) ∷
    -- put_fresh into too few bytes: the words of the head that fit; zeros
    row (encoded_in (9 ∷ 9 ∷ zeros 6) fresh) (0 ∷ 0 ∷ zeros 6) (0 ∷ 9 ∷ zeros 6) ∷
    -- put_fresh, words 0 and 1 then: a task under way; only the first
    row (words_in (put_session (low (8 ∷ 9 ∷ [])) fresh) 0 2) (8 ∷ 0 ∷ []) (0 ∷ 9 ∷ []) ∷
    []

-- RESULTS. Slots with an inbox alone; with a range and two lent buffers
abbrev boxed : List Slot
boxed = replicate 80 no_slot ++ (held ∷ no_slot ∷ [])

abbrev three_held : List Slot
three_held = bare 0 7 2 ∷ no_slot ∷ bare 0 8 1 ∷ (replicate 61 no_slot ++ (held ∷ replicate 17 no_slot))

-- what has become of a session, of a head in this stage
abbrev became : Stage → List ℕ
became x = outcome_words [] (outcome_of (starts fresh x wt.Rest))

abbrev pub results : List Row
results =
    -- outcome_words (a failed opening, a close): a failed opening is told as closed; the refusal's number is lost
    row (outcome_words [] (u.Failed r.Memory co.Reset) ++ outcome_words [] (u.Closed co.Reset)) (4 ∷ 5 ∷ 0 ∷ 0 ∷ 1 ∷ 4 ∷ 0 ∷ 0 ∷ 0 ∷ 1 ∷ []) (3 ∷ 0 ∷ 0 ∷ 0 ∷ 1 ∷ 4 ∷ 0 ∷ 0 ∷ 0 ∷ 1 ∷ []) ∷
    -- outcome_words of a closing (clean, reset, kept): one that kept everything is told as a reset; as clean
    row (outcome_words [] (u.Closed co.Clean) ++ (outcome_words [] (u.Closed co.Reset) ++ outcome_words [] (u.Closed co.Kept)))
    (4 ∷ 0 ∷ 0 ∷ 0 ∷ 0 ∷ 4 ∷ 0 ∷ 0 ∷ 0 ∷ 1 ∷ 4 ∷ 0 ∷ 0 ∷ 0 ∷ 1 ∷ []) (4 ∷ 0 ∷ 0 ∷ 0 ∷ 0 ∷ 4 ∷ 0 ∷ 0 ∷ 0 ∷ 1 ∷ 4 ∷ 0 ∷ 0 ∷ 0 ∷ 0 ∷ []) ∷
    -- outcome_words of a status: status and microseconds change places; as a failed opening
    row (outcome_words [] (u.Opened (ga.Failed (r.Status 2 50)))) (7 ∷ 6 ∷ 50 ∷ 2 ∷ 0 ∷ []) (3 ∷ 6 ∷ 2 ∷ 50 ∷ 0 ∷ []) ∷
    -- outcome_words of a command, and of a buffer: immediate and microseconds change places; handle and address do
    row (outcome_words [] (u.Opened (ga.Command 5 9)) ++ outcome_words (no_slot ∷ held ∷ []) (u.Opened (ga.Lent 1))) (5 ∷ 9 ∷ 5 ∷ 0 ∷ 0 ∷ 6 ∷ 7 ∷ 5 ∷ 2 ∷ 0 ∷ []) (5 ∷ 5 ∷ 9 ∷ 0 ∷ 0 ∷ 6 ∷ 5 ∷ 7 ∷ 2 ∷ 0 ∷ []) ∷
    -- outcome_words of a buffer, in slot 1: the slot before; its number
    row (outcome_words (no_slot ∷ held ∷ []) (u.Opened (ga.Lent 1))) (6 ∷ 0 ∷ 0 ∷ 0 ∷ 0 ∷ []) (6 ∷ 1 ∷ 0 ∷ 0 ∷ 0 ∷ []) ∷
    -- outcome_words (not opened yet, running, open): not opened is told as running; open as running
    row (outcome_words [] u.Fresh ++ (outcome_words [] u.Running ++ outcome_words [] (u.Opened ga.Nothing))) (1 ∷ 0 ∷ 0 ∷ 0 ∷ 0 ∷ 1 ∷ 0 ∷ 0 ∷ 0 ∷ 0 ∷ 2 ∷ 0 ∷ 0 ∷ 0 ∷ 0 ∷ []) (0 ∷ 0 ∷ 0 ∷ 0 ∷ 0 ∷ 1 ∷ 0 ∷ 0 ∷ 0 ∷ 0 ∷ 1 ∷ 0 ∷ 0 ∷ 0 ∷ 0 ∷ []) ∷
    -- outcome (in bring-up, ended): in bring-up it is open; ended it runs
    row (at (became (st.Boot bo.RunFw)) 0 ∷ at (became st.Ended) 0 ∷ []) (2 ∷ 4 ∷ []) (1 ∷ 1 ∷ []) ∷
    -- outcome (open, and what was given): nothing was given; it runs
    row (became (st.Open (ga.Command 5 9))) (2 ∷ 0 ∷ 0 ∷ 0 ∷ 0 ∷ []) (1 ∷ 0 ∷ 0 ∷ 0 ∷ 0 ∷ []) ∷
    -- put_setup, what QUERY_FUNC replaces (words 3 to 7 of the capabilities): EQs as QUERY_DEV_CAP gave them; reserved UARs as it gave them
    row (take 5 (drop 3 (cap_words (merged info.cap info.func)))) (40 ∷ 5 ∷ 6 ∷ 7 ∷ 42 ∷ []) (40 ∷ 41 ∷ 6 ∷ 7 ∷ 8 ∷ []) ∷
    -- put_setup, where the capabilities begin (words 7 to 9): one word early; one word late
    row (words_in (put_said (zeros 80) info) 7 3) (1 ∷ 2 ∷ 3 ∷ []) (1 ∷ 0 ∷ 1 ∷ []) ∷
    -- put_setup, the ports that were asked about: none at revision 3; two whatever the card has
    row (ports_of info ∷ []) (0 ∷ []) (2 ∷ []) ∷
    -- put_setup into too few bytes: what fits; zeros
    row (setup_in (9 ∷ zeros 7) info) (zeros 7 ++ (2 ∷ [])) (zeros 8) ∷
    -- put_books, a buffer that is held and not mapped (held, handle, device address, pages): its last address; not held
    row (area_words (bare 0 7 2)) (1 ∷ 7 ∷ 0 ∷ 2 ∷ []) (0 ∷ 0 ∷ 0 ∷ 0 ∷ []) ∷
    -- put_books, an empty slot that was mapped once: its handle; held
    row (area_words (record { runs = 0; virt = 0; handle = 7; dev = 5; pages = 2; mapped = true })) (0 ∷ 7 ∷ 5 ∷ 2 ∷ []) (1 ∷ 7 ∷ 5 ∷ 2 ∷ []) ∷
    -- put_books, the four areas (which are held): the areas in the order of their slots; the inbox and the outbox change places
    row (at (areas_words boxed) 0 ∷ at (areas_words boxed) 4 ∷ at (areas_words boxed) 8 ∷ at (areas_words boxed) 12 ∷ []) (0 ∷ 0 ∷ 1 ∷ 0 ∷ []) (0 ∷ 1 ∷ 0 ∷ 0 ∷ []) ∷
    -- put_books, how many ranges and lent buffers are held: by the counts of the head; they change places
    row (length (ranges_of three_held) ∷ length (lent_of three_held) ∷ []) (0 ∷ 0 ∷ []) (2 ∷ 1 ∷ []) ∷
    -- put_books into too few bytes: what fits; zeros
    row (books_in (9 ∷ zeros 7) fresh) (0 ∷ zeros 7) (1 ∷ zeros 7) ∷
    []

abbrev pub wrong : List Row
wrong = words ++ tasks ++ besides ++ infos ++ stages ++ books ++ calls ++ going_on ++ results
