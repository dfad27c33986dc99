-- Every wrong answer of the table is refused.
use mathlib.Core.Bool.{true}
use mathlib.Core.Path.{◌≡◌, refl}
use Rattle.fields.specs.Fields.{digits, put_digits}
use Rattle.wrong.specs.Wrong.{alike, refuses_all, AllRefuse}
use Rattle.wrong.proofs.Refused.{all_refuse}
use Rattle.words.specs.Words.{words_in, put_words, same_words, flat, rows_in, cut}
use Rattle.behind.specs.Behind.{flags_stand}
use Rattle.results.specs.Results.{put_said, setup_in}
use Rattle.results.specs.Books.{held_from, books_in}
use Rattle.wrong_words.specs.Wrong.{wrong, behinds, sessions}

tested : refuses_all wrong ≡ true
unfolding refuses_all alike digits put_digits words_in put_words same_words flat rows_in cut flags_stand put_said setup_in held_from books_in
tested = refl

-- THE THEOREM
pub wrong_refused : AllRefuse wrong
wrong_refused = all_refuse wrong tested

-- those on whole images, each table by itself: they take the most steps
tested_behinds : refuses_all behinds ≡ true
unfolding refuses_all alike digits put_digits words_in put_words same_words flat rows_in cut flags_stand put_said setup_in held_from books_in
tested_behinds = refl

pub behinds_refused : AllRefuse behinds
behinds_refused = all_refuse behinds tested_behinds

tested_sessions : refuses_all sessions ≡ true
unfolding refuses_all alike digits put_digits words_in put_words same_words flat rows_in cut flags_stand put_said setup_in held_from books_in
tested_sessions = refl

pub sessions_refused : AllRefuse sessions
sessions_refused = all_refuse sessions tested_sessions
