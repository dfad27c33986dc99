-- What stops a session: document 01's table, number and values for every case; and document 02's 27.
use Rattle.std.specs.Prelude.{[], ◌∷◌}
use Rattle.fields.specs.Outcome.{Outcome, refused}
use Rattle.pci.specs.declared.Refusal.{Refusal}
use Rattle.pci.specs.declared.Refusal.TheVariants as r

abbrev pub refusal : {A : Type 0} → Refusal → Outcome A
-- 1 attributes not read or enabled
refusal r.Attributes = refused 1 []
-- 2 owner register unreadable or not 0
refusal r.Owner = refused 2 []
-- 3 reset fails
refusal r.Reset = refused 3 []
-- 4 BAR dword unreadable, or register above 5
refusal r.Bar = refused 4 []
-- 5 allocate or map fails
refusal r.Memory = refused 5 []
-- 6 status not 0 (status, µs)
refusal (r.Status s us) = refused 6 (s ∷ us ∷ [])
-- 7 Timeout (µs)
refusal (r.Timeout us) = refused 7 (us ∷ [])
-- 8 Busy (0 µs)
refusal r.Busy = refused 8 (0 ∷ [])
-- 9 bus fails in a command (µs)
refusal (r.Bus us) = refused 9 (us ∷ [])
-- 10 QUERY_FW status 0x50 in an opening
refusal r.NotPrimary = refused 10 []
-- 11 revision not 2 or 3 (revision)
refusal (r.Revision v) = refused 11 (v ∷ [])
-- 12 min page exponent above 12 (exponent)
refusal (r.MinPage e) = refused 12 (e ∷ [])
-- 13 ports not 1 or 2 (ports)
refusal (r.Ports n) = refused 13 (n ∷ [])
-- 14 UAR exponent field at 0x49, low six bits, above 43 (field)
refusal (r.Uar f) = refused 14 (f ∷ [])
-- 15 UAR area above known BAR size (area)
refusal (r.UarArea a) = refused 15 (a ∷ [])
-- 16 entry not a power of two (lowest such index)
refusal (r.Entry i) = refused 16 (i ∷ [])
-- 17 total above max_icm (total)
refusal (r.Total t) = refused 17 (t ∷ [])
-- 18 device address no page multiple, its end above 2^64, or bytes above 2^64 − 4,096
refusal r.Address = refused 18 []
-- 19 undo or lent list full
refusal r.Full = refused 19 []
-- 20 answer of the wrong kind, or call at the wrong time
refusal r.Wrong = refused 20 []
-- 21 slice too short, or mailbox not 4,096 bytes
refusal r.Short = refused 21 []
-- 22 client command or undo whose opcode bring-up or closing sends, queries excepted, or is above 0xfff
refusal r.Opcode = refused 22 []
-- 23 undo of a record wanted on a broken session, or an undo command failed
refusal r.Undo = refused 23 []
-- 27 when a memory BAR's descriptor length is below 43, or the list runs out before 0x79 with no whole
-- memory descriptor found (document 02, Req 05)
refusal r.List = refused 27 []
