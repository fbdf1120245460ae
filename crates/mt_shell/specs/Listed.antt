-- What `segments` lists of segments and the numbers of their live texts.
use Rattle.std.specs.Prelude.{ℕ, List, [], ◌∷◌, ◌++◌, length, map, sum, slice_index_or, codes}
use Rattle.std.specs.Fmt.{decimal}
use Rattle.mt_segment_spec.specs.Tables.{Tables}

-- how many tokens a text of a segment has, by its number
abbrev pub text_tokens : Tables → ℕ → ℕ
text_tokens tables number = (slice_index_or tables.texts number ([], 0)).1

-- how many tokens some of its texts have
abbrev pub tokens_listed : Tables → List ℕ → ℕ
tokens_listed tables numbers = sum (map (text_tokens tables) numbers)

-- the line of a segment: how many live texts it has, and how many tokens these have
abbrev pub line_listed : Tables → List ℕ → List ℕ
line_listed tables numbers = decimal (length numbers) ++ 32 ∷ decimal (tokens_listed tables numbers)

-- the lines of segments one by one
abbrev pub each_listed : List Tables → List (List ℕ) → List (List ℕ)
each_listed [] live = []
each_listed (tables ∷ segments) [] = []
each_listed (tables ∷ segments) (numbers ∷ live) = line_listed tables numbers ∷ each_listed segments live

-- the number of the segments, and their lines
abbrev pub lines_listed : List Tables → List (List ℕ) → List (List ℕ)
lines_listed segments live = (codes "= " ++ decimal (length segments)) ∷ each_listed segments live
