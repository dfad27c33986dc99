-- The writes that post a command, as words.
use Rattle.std.specs.Prelude.{ℕ, List, [], ◌∷◌, get_or}
use Rattle.hcr.specs.declared.Post.{Post}
use Rattle.hcr.specs.declared.RegWrite.{RegWrite}

abbrev pub post_of : (op op_mod in_mod in_param out_param : ℕ) → Post
post_of op op_mod in_mod in_param out_param = record { op = op; op_mod = op_mod; in_mod = in_mod; in_param = in_param; out_param = out_param }

abbrev pub no_write : RegWrite
no_write = record { offset = 0; value = 0 }

-- write number i of a list
abbrev pub nth : List RegWrite → ℕ → RegWrite
nth ws i = get_or ws i no_write

-- each write as its offset and its value
abbrev pub writes_words : List RegWrite → List ℕ
writes_words ws =
    (nth ws 0).offset ∷ (nth ws 0).value
    ∷ (nth ws 1).offset ∷ (nth ws 1).value
    ∷ (nth ws 2).offset ∷ (nth ws 2).value
    ∷ (nth ws 3).offset ∷ (nth ws 3).value
    ∷ (nth ws 4).offset ∷ (nth ws 4).value
    ∷ (nth ws 5).offset ∷ (nth ws 5).value
    ∷ (nth ws 6).offset ∷ (nth ws 6).value
    ∷ []
