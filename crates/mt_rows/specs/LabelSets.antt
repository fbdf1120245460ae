-- The labels of rows, of which the first two and the other seven are kept apart.
use Rattle.std.specs.Prelude.{ℕ, List, [], ◌∷◌, ◌++◌, replicate}
use Rattle.mt_text_spec.specs.Texts.{unset}

-- none of the labels 3 to 9 is set
abbrev pub no_others : List ℕ
no_others = replicate 7 unset

-- each pair with the other seven at its place; none of those is set where they have ended
abbrev pub all_nine : (pairs others : List (List ℕ)) → List (List ℕ)
all_nine [] others = []
all_nine (pair ∷ pairs) [] = (pair ++ no_others) ∷ all_nine pairs []
all_nine (pair ∷ pairs) (seven ∷ others) = (pair ++ seven) ∷ all_nine pairs others
