-- The script of a demo: texts, a grammar, and what one may ask of them.
use Rattle.std.specs.Prelude.{ℕ, ◌-◌, nat_lt, if◌then◌else◌, List, [], ◌∷◌, ◌++◌, map, codes, decimal}
use Rattle.std.specs.List.{flat_map, range_with_len}
use Rattle.mt_text_spec.specs.Lines.{closed}

-- the text of this number has it in its name and as its seed
abbrev pub generate_line : ℕ → List ℕ
generate_line number = codes "generate d" ++ decimal number ++ codes " " ++ decimal number ++ codes " 20000"

-- a grammar of one relation with two names, and its three lines
abbrev pub grammar_lines : List (List ℕ)
grammar_lines = codes "rules 3" ∷ codes "*DUAL" ∷ codes "=modifier/modifies" ∷ codes "2:[tag=\"J\"] 1:[tag=\"N\"]" ∷ []

-- a sketch and a thesaurus of the lemma of rank 0
abbrev pub word_lines : List (List ℕ)
word_lines = codes "sketch 2 5 l0" ∷ codes "thes 5 l0" ∷ []

-- all texts become one segment, where there are two or more
abbrev pub merge_lines : ℕ → List (List ℕ)
merge_lines texts = if nat_lt 1 texts then (codes "merge 0 " ++ decimal (texts - 1)) ∷ [] else []

-- The script of so many texts: they are generated, the grammar is read, and one lemma is looked at, before the texts are merged and behind it.
abbrev pub demo_lines : ℕ → List (List ℕ)
demo_lines texts =
    map generate_line (range_with_len 1 texts) ++ grammar_lines ++ codes "segments" ∷ codes "count [tag=\"J\"] [tag=\"N\"]" ∷ word_lines ++ merge_lines texts ++ word_lines ++ codes "segments" ∷ codes "quit" ∷ []

-- the bytes of the script, each line with its line feed
abbrev pub demo_script : ℕ → List ℕ
demo_script texts = flat_map closed (demo_lines texts)
