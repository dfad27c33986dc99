use Rattle.words_calls.proofs.question_words.Goals as goal

pub returns-in-ConfigRead16 : goal.returns-in-ConfigRead16
returns-in-ConfigRead16 c = simp (
  c.in-ConfigRead16.in-ConfigRead16-own.keys2,
  c.in-ConfigRead16.is,
  c.in-ConfigRead16.known_told-1-own.given.1,
  c.wide16.ensures,
)

pub returns-in-ConfigRead32 : goal.returns-in-ConfigRead32
returns-in-ConfigRead32 c = simp (
  c.in-ConfigRead32.in-ConfigRead32-own.keys3,
  c.in-ConfigRead32.is,
  c.in-ConfigRead32.known_told-in-ConfigRead32-1-own.given.1,
  c.wide16-in-ConfigRead32.ensures,
)

pub returns-in-ConfigWrite16 : goal.returns-in-ConfigWrite16
returns-in-ConfigWrite16 c = simp (
  c.in-ConfigWrite16.in-ConfigWrite16-own.keys4,
  c.in-ConfigWrite16.is,
  c.in-ConfigWrite16.known_told-in-ConfigWrite16-1-own.given.1,
  c.wide16-in-ConfigWrite16.ensures,
  c.wide16-in-ConfigWrite16-2.ensures,
)

pub returns-in-ConfigWrite32 : goal.returns-in-ConfigWrite32
returns-in-ConfigWrite32 c = simp (
  c.in-ConfigWrite32.in-ConfigWrite32-own.keys5,
  c.in-ConfigWrite32.is,
  c.in-ConfigWrite32.known_told-in-ConfigWrite32-1-own.given.1,
  c.wide16-in-ConfigWrite32.ensures,
  c.wide32.ensures,
)

pub returns-in-RegRead : goal.returns-in-RegRead
returns-in-RegRead c = simp (
  c.in-RegRead.in-RegRead-own.keys6,
  c.in-RegRead.is,
  c.in-RegRead.known_told-in-RegRead-1-own.given.1,
  c.wide8.ensures,
)

pub returns-in-RegWrite : goal.returns-in-RegWrite
returns-in-RegWrite c = simp (
  c.in-RegWrite.in-RegWrite-own.keys7,
  c.in-RegWrite.is,
  c.in-RegWrite.known_told-in-RegWrite-1-own.given.1,
  c.wide8-in-RegWrite.ensures,
  c.wide32-in-RegWrite.ensures,
)

pub returns-in-Attributes : goal.returns-in-Attributes
returns-in-Attributes c = simp (
  c.in-Attributes.in-Attributes-own.keys8,
  c.in-Attributes.is,
  c.in-Attributes.known_told-in-Attributes-1-own.given.1,
  c.wide8-in-Attributes.ensures,
)

pub returns-in-Resource : goal.returns-in-Resource
returns-in-Resource c = simp (
  c.in-Resource.in-Resource-own.keys9,
  c.in-Resource.is,
  c.in-Resource.known_told-in-Resource-1-own.given.1,
  c.wide8-in-Resource.ensures,
)

pub returns-in-Stall : goal.returns-in-Stall
returns-in-Stall c = simp (
  c.in-Stall.in-Stall-own.keys10,
  c.in-Stall.is,
  c.in-Stall.known_told-in-Stall-1-own.given.1,
  c.wide32-in-Stall.ensures,
)

pub returns-in-Allocate : goal.returns-in-Allocate
returns-in-Allocate c = simp (
  c.in-Allocate.in-Allocate-own.keys11,
  c.in-Allocate.is,
  c.in-Allocate.known_told-in-Allocate-1-own.given.1,
)

pub returns-in-Map : goal.returns-in-Map
returns-in-Map c = simp (
  c.in-Map.in-Map-own.keys12,
  c.in-Map.is,
  c.in-Map.known_told-in-Map-1-own.given.1,
)

pub returns-in-Unmap : goal.returns-in-Unmap
returns-in-Unmap c = simp (
  c.in-Unmap.in-Unmap-own.keys13,
  c.in-Unmap.is,
  c.in-Unmap.known_told-in-Unmap-1-own.given.1,
)

pub returns-in-Free : goal.returns-in-Free
returns-in-Free c = simp (
  c.in-Free.in-Free-own.keys14,
  c.in-Free.is,
  c.in-Free.known_told-in-Free-1-own.given.1,
)
