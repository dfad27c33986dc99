-- What can be read of a session that bytes hold, without changing it: a number, and what `out` then holds.
use Rattle.std.specs.Prelude.{ℕ, ◌*◌, List, ltb, length}
use Rattle.fields.specs.Outcome.{Outcome, value, refused, pick}
use Rattle.words.specs.Words.{put_words}
use Rattle.words_calls.specs.Calls.{question_words}
use Rattle.words_session.specs.Image.{decode_of}
use Rattle.session.specs.declared.Session.{Session}
use Rattle.fw_plan.specs.Calls.{asks_of, outcome_of}
use Rattle.calls_plan.specs.Calls.{is_idle}
use Rattle.results.specs.Results.{outcome_words, setup_in}
use Rattle.results.specs.Books.{BOOKS, books_in}

-- WHAT CAN BE READ: a number, and what `out` then holds
pub record Read : Type 0 where
  pub code : ℕ
  pub out : List ℕ

abbrev pub reads : ℕ → List ℕ → Read
reads n w = record { code = n; out = w }

abbrev pub of_session : Outcome Session → (Session → Read) → List ℕ → Read
of_session (value x) k w = k x
of_session (refused n vs) k w = reads n w

-- n words; 21 where `out` is too short for them
abbrev pub given : ℕ → (out : List ℕ) → List ℕ → Read
given n w ws = pick (ltb (length w) (n * 8)) (reads 21 w) (reads 0 (put_words w 0 ws))

unfoldable pub question_known : Session → List ℕ → Read
question_known x w = given 4 w (question_words (asks_of x))

unfoldable pub result_known : Session → List ℕ → Read
result_known x w = given 5 w (outcome_words x.books.lists.slots (outcome_of x))

-- "the opening's result": 20 unless the session is open, and no call runs
unfoldable pub setup_known : Session → List ℕ → Read
setup_known x w = pick (is_idle x) (pick (ltb (length w) 1072) (reads 21 w) (reads 0 (setup_in w x.info))) (reads 20 w)

-- the books: what the session holds
unfoldable pub books_known : Session → List ℕ → Read
books_known x w = pick (ltb (length w) (BOOKS * 8)) (reads 21 w) (reads 0 (books_in w x))

unfoldable pub question : (state out : List ℕ) → Read
question s w = of_session (decode_of s) (λ x. question_known x w) w

unfoldable pub result : (state out : List ℕ) → Read
result s w = of_session (decode_of s) (λ x. result_known x w) w

unfoldable pub setup : (state out : List ℕ) → Read
setup s w = of_session (decode_of s) (λ x. setup_known x w) w

unfoldable pub books : (state out : List ℕ) → Read
books s w = of_session (decode_of s) (λ x. books_known x w) w
