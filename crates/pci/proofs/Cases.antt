-- What is left to show of a machine at one answer, by what the answer says to the open question: one law for each kind of reply. A machine's step goes through
-- the question's view of the answer; `got`, `bad` and `wrong` are the cases of that view.
use Prim.Native.Nat.{ℕ}
use mathlib.Core.List.{List}
use mathlib.Core.Path.{◌≡◌}
use mathlib.Core.Bool.{Bool, true, false}
use Rattle.std.specs.Prelude.{Result, Ok, Err}
use Rattle.hcr.specs.Words.{swap_of}
use Rattle.pci.specs.Views.{word_of, dword_of, qword_of, done_of, told_of, granted_of, mapped_of, list_of}
use Rattle.pci.specs.Script.{Script, Bus, good, failed, Spot, as_bus, as_register, as_told, as_spot, as_list, reply_of, config_read16, config_read32, read, attributes, unmap, stall, allocate, mapped, resource}
use Rattle.pci.specs.Machine.{Next, more, Right, rest}
use Rattle.pci.specs.declared.Question.{Question}
use Rattle.pci.specs.declared.Answer.{Answer}
use Rattle.pci.specs.declared.NoReply.{NoReply}
use Rattle.pci.specs.declared.NoReply.TheVariants.{Failed, Wrong}

module _ {S R : Type 0} (asks : S → Question) (step : S → Answer → List ℕ → Next S R) (denote : S → Script R) where
  -- the script that is left
  abbrev left : Next S R → Script R
  left n = rest asks step denote n

  -- a reply as the bus gives it
  bus_case : {A : Type 0} (s : S) (f : Result A NoReply → Next S R) (k : Bus A → Script R) → ((v : A) → left (f (Ok v)) ≡ k (good v)) → left (f (Err Failed)) ≡ k failed → f (Err Wrong) ≡ more s → (x : Result A NoReply)
      → Right (as_bus x) (λ r. left (f x) ≡ k r) (f x ≡ more s)
  bus_case s f k got bad wrong (Ok v) = got v
  bus_case s f k got bad wrong (Err Failed) = bad
  bus_case s f k got bad wrong (Err Wrong) = wrong

  on_register : (s : S) (f : Result ℕ NoReply → Next S R) (k : Bus ℕ → Script R) → ((v : ℕ) → left (f (Ok v)) ≡ k (good (swap_of v))) → left (f (Err Failed)) ≡ k failed → f (Err Wrong) ≡ more s → (x : Result ℕ NoReply)
      → Right (as_register x) (λ r. left (f x) ≡ k r) (f x ≡ more s)
  on_register s f k got bad wrong (Ok v) = got v
  on_register s f k got bad wrong (Err Failed) = bad
  on_register s f k got bad wrong (Err Wrong) = wrong

  on_told : (s : S) (f : Bool → Next S R) (k : Unit {0} → Script R) → left (f true) ≡ k tt → f false ≡ more s → (x : Bool) → Right (as_told x) (λ r. left (f x) ≡ k r) (f x ≡ more s)
  on_told s f k got wrong true = got
  on_told s f k got wrong false = wrong

  on_spot : (s : S) (f : Result (ℕ × ℕ) NoReply → Next S R) (k : Bus Spot → Script R) → ((v n : ℕ) → left (f (Ok (v, n))) ≡ k (good (record { address = v; bytes = n }))) → left (f (Err Failed)) ≡ k failed → f (Err Wrong) ≡ more s
      → (x : Result (ℕ × ℕ) NoReply) → Right (as_spot x) (λ r. left (f x) ≡ k r) (f x ≡ more s)
  on_spot s f k got bad wrong (Ok (v, n)) = got v n
  on_spot s f k got bad wrong (Err Failed) = bad
  on_spot s f k got bad wrong (Err Wrong) = wrong

  on_list : (s : S) (f : Result (Unit {0}) NoReply → Next S R) (k : Bus (List ℕ) → Script R) (bytes : List ℕ) → left (f (Ok tt)) ≡ k (good bytes) → left (f (Err Failed)) ≡ k failed → f (Err Wrong) ≡ more s → (x : Result (Unit {0}) NoReply)
      → Right (as_list bytes x) (λ r. left (f x) ≡ k r) (f x ≡ more s)
  on_list s f k bytes got bad wrong (Ok u) = got
  on_list s f k bytes got bad wrong (Err Failed) = bad
  on_list s f k bytes got bad wrong (Err Wrong) = wrong

  -- to a config read of 16 bits
  pub word_case : (s : S) (f : Result ℕ NoReply → Next S R) (k : Bus ℕ → Script R) → ((v : ℕ) → left (f (Ok v)) ≡ k (good v)) → left (f (Err Failed)) ≡ k failed → f (Err Wrong) ≡ more s → (a : Answer) (bytes : List ℕ)
      → Right (reply_of (config_read16 0) a bytes) (λ r. left (f (word_of a)) ≡ k r) (f (word_of a) ≡ more s)
  word_case s f k got bad wrong a bytes = bus_case s f k got bad wrong (word_of a)

  -- to a config read of 32 bits
  pub dword_case : (s : S) (f : Result ℕ NoReply → Next S R) (k : Bus ℕ → Script R) → ((v : ℕ) → left (f (Ok v)) ≡ k (good v)) → left (f (Err Failed)) ≡ k failed → f (Err Wrong) ≡ more s → (a : Answer) (bytes : List ℕ)
      → Right (reply_of (config_read32 0) a bytes) (λ r. left (f (dword_of a)) ≡ k r) (f (dword_of a) ≡ more s)
  dword_case s f k got bad wrong a bytes = bus_case s f k got bad wrong (dword_of a)

  -- to a register read
  pub register_case : (s : S) (f : Result ℕ NoReply → Next S R) (k : Bus ℕ → Script R) → ((v : ℕ) → left (f (Ok v)) ≡ k (good (swap_of v))) → left (f (Err Failed)) ≡ k failed → f (Err Wrong) ≡ more s → (a : Answer) (bytes : List ℕ)
      → Right (reply_of (read 0 0) a bytes) (λ r. left (f (dword_of a)) ≡ k r) (f (dword_of a) ≡ more s)
  register_case s f k got bad wrong a bytes = on_register s f k got bad wrong (dword_of a)

  -- to an attribute call
  pub qword_case : (s : S) (f : Result ℕ NoReply → Next S R) (k : Bus ℕ → Script R) → ((v : ℕ) → left (f (Ok v)) ≡ k (good v)) → left (f (Err Failed)) ≡ k failed → f (Err Wrong) ≡ more s → (a : Answer) (bytes : List ℕ)
      → Right (reply_of (attributes 0 0) a bytes) (λ r. left (f (qword_of a)) ≡ k r) (f (qword_of a) ≡ more s)
  qword_case s f k got bad wrong a bytes = bus_case s f k got bad wrong (qword_of a)

  -- to a write, an unmap or a free
  pub done_case : (s : S) (f : Result (Unit {0}) NoReply → Next S R) (k : Bus (Unit {0}) → Script R) → left (f (Ok tt)) ≡ k (good tt) → left (f (Err Failed)) ≡ k failed → f (Err Wrong) ≡ more s → (a : Answer) (bytes : List ℕ)
      → Right (reply_of (unmap 0) a bytes) (λ r. left (f (done_of a)) ≡ k r) (f (done_of a) ≡ more s)
  done_case s f k got bad wrong a bytes = bus_case s f k (λ u. got) bad wrong (done_of a)

  -- to a stall or a fence
  pub told_case : (s : S) (f : Bool → Next S R) (k : Unit {0} → Script R) → left (f true) ≡ k tt → f false ≡ more s → (a : Answer) (bytes : List ℕ)
      → Right (reply_of (stall 0) a bytes) (λ r. left (f (told_of a)) ≡ k r) (f (told_of a) ≡ more s)
  told_case s f k got wrong a bytes = on_told s f k got wrong (told_of a)

  -- to an allocation
  pub handle_case : (s : S) (f : Result ℕ NoReply → Next S R) (k : Bus ℕ → Script R) → ((v : ℕ) → left (f (Ok v)) ≡ k (good v)) → left (f (Err Failed)) ≡ k failed → f (Err Wrong) ≡ more s → (a : Answer) (bytes : List ℕ)
      → Right (reply_of (allocate 0) a bytes) (λ r. left (f (granted_of a)) ≡ k r) (f (granted_of a) ≡ more s)
  handle_case s f k got bad wrong a bytes = bus_case s f k got bad wrong (granted_of a)

  -- to a map
  pub map_case : (s : S) (f : Result (ℕ × ℕ) NoReply → Next S R) (k : Bus Spot → Script R) → ((v n : ℕ) → left (f (Ok (v, n))) ≡ k (good (record { address = v; bytes = n }))) → left (f (Err Failed)) ≡ k failed → f (Err Wrong) ≡ more s → (a : Answer) (bytes : List ℕ)
      → Right (reply_of (mapped 0 0) a bytes) (λ r. left (f (mapped_of a)) ≡ k r) (f (mapped_of a) ≡ more s)
  map_case s f k got bad wrong a bytes = on_spot s f k got bad wrong (mapped_of a)

  -- to a question for a BAR resource, with the bytes lent beside the answer
  pub list_case : (s : S) (f : List ℕ → Result (Unit {0}) NoReply → Next S R) (k : Bus (List ℕ) → Script R) → ((bs : List ℕ) → left (f bs (Ok tt)) ≡ k (good bs)) → ((bs : List ℕ) → left (f bs (Err Failed)) ≡ k failed) → ((bs : List ℕ) → f bs (Err Wrong) ≡ more s) → (a : Answer) (bytes : List ℕ)
      → Right (reply_of (resource 0) a bytes) (λ r. left (f bytes (list_of a)) ≡ k r) (f bytes (list_of a) ≡ more s)
  list_case s f k got bad wrong a bytes = on_list s (f bytes) k bytes (got bytes) (bad bytes) (wrong bytes) (list_of a)
