-- The tokens that values make, row by row: how many there are, a token by its place, and one more at the end.
use Rattle.std.proofs.Common.{◌≡◌, ℕ, zero, suc, ◌+◌, ◌*◌, ◌<◌, ◌≤◌, List, [], ◌∷◌, ◌++◌, length, take, drop, get_or, true, false, refl, sym, ◌∙◌, ap, ap₂, arith}
use Rattle.std.specs.List.{count_by}
use Rattle.std.specs.Str.{bytes_eq}
use Rattle.std.proofs.Math.Nat.{suc-mul, mul_comm}
use Rattle.std.proofs.lemmas.Nat.{mul-add-lt}
use Rattle.std.proofs.lemmas.Grind.{common_steps}
use Rattle.std.proofs.lemmas.List.{take_all, drop-append-le, take-append-le, length-drop, get_or-take, get_or-drop}
use Rattle.std.proofs.lemmas.List.Sums.{count_by_more_yes, count_by_more_no}
use Rattle.mt_text_spec.specs.Texts.{Token, value_of}
use Rattle.mt_base.specs.Rows.{rows}

pub length-rows : (columns count : ℕ) (values : List (List ℕ)) → length (rows columns count values) ≡ count
length-rows columns zero values = refl
length-rows columns (suc count) values = omega (arith, length-rows columns count (drop columns values))

-- the values of the first token, and those of the others
first_row : (columns count : ℕ) (values : List (List ℕ)) → length values ≡ suc count * columns → columns ≤ length values
first_row columns count values e = omega (arith, e, suc-mul count columns)

other_rows : (columns count : ℕ) (values : List (List ℕ)) → length values ≡ suc count * columns → length (drop columns values) ≡ count * columns
other_rows columns count values e = omega (arith, e, suc-mul count columns, length-drop columns values)

one_more_row : (columns count : ℕ) (values row : List (List ℕ)) → length values ≡ count * columns → length row ≡ columns →
    rows columns (suc count) (values ++ row) ≡ rows columns count values ++ record { values = row } ∷ []
one_more_row columns zero [] row e r = ap (λ vs. record { values = vs } ∷ []) (take_all columns row (omega (arith, r)))
one_more_row columns zero (v ∷ values) row e r = absurd (omega (arith, e))
one_more_row columns (suc count) values row e r =
    let l : columns ≤ length values = first_row columns count values e in
    ap₂ (λ (vs : List (List ℕ)) (ts : List Token). record { values = vs } ∷ ts) (take-append-le columns values row l)
    (ap (rows columns (suc count)) (drop-append-le columns values row l) ∙ one_more_row columns count (drop columns values) row (other_rows columns count values e) r)

pub rows-push : (columns count : ℕ) (values row : List (List ℕ)) → length values ≡ count * columns → length row ≡ columns →
    rows columns (count + 1) (values ++ row) ≡ rows columns count values ++ record { values = row } ∷ []
rows-push columns count values row e r =
    let n : count + 1 ≡ suc count = omega arith in
    ap (λ k. rows columns k (values ++ row)) n ∙ one_more_row columns count values row e r

pub value_at : (columns count : ℕ) (values : List (List ℕ)) (place column : ℕ) (token : Token) → place < count → column < columns →
    value_of (get_or (rows columns count values) place token) column ≡ get_or values (place * columns + column) []
value_at columns zero values place column token l k = absurd (omega arith)
value_at columns (suc count) values zero column token l k = get_or-take columns values column [] k ∙ ap (λ n. get_or values n []) (omega arith)
value_at columns (suc count) values (suc place) column token l k =
    value_at columns count (drop columns values) place column token (omega arith) k
    ∙ get_or-drop columns values (place * columns + column) []
    ∙ ap (λ n. get_or values n []) (omega (arith, suc-mul place columns))

-- a value that no token has is read as empty
past_row : (columns column : ℕ) (values : List (List ℕ)) → columns ≤ column → get_or (take columns values) column [] ≡ []
past_row columns column values l = grind (arith, common_steps)

pub value_past : (columns count : ℕ) (values : List (List ℕ)) (place column : ℕ) (token : Token) → place < count → columns ≤ column →
    value_of (get_or (rows columns count values) place token) column ≡ []
value_past columns zero values place column token l k = absurd (omega arith)
value_past columns (suc count) values zero column token l k = past_row columns column values k
value_past columns (suc count) values (suc place) column token l k = value_past columns count (drop columns values) place column token (omega arith) k

-- one token more is counted, where its value is known
pub counted_yes : (tokens : List Token) (column place found : ℕ) (seen value : List ℕ) → place < length tokens →
    found ≡ count_by (λ token. bytes_eq (value_of token column) value) (take place tokens) →
    ((token : Token) → seen ≡ value_of (get_or tokens place token) column) → bytes_eq seen value ≡ true →
    found + 1 ≡ count_by (λ token. bytes_eq (value_of token column) value) (take (place + 1) tokens)
counted_yes tokens column place found seen value l h s e =
    let d : Token = record { values = [] } in
    ap (λ n. n + 1) h ∙ sym (count_by_more_yes (λ token. bytes_eq (value_of token column) value) tokens place d l (ap (λ v. bytes_eq v value) (sym (s d)) ∙ e))

pub counted_no : (tokens : List Token) (column place found : ℕ) (seen value : List ℕ) → place < length tokens →
    found ≡ count_by (λ token. bytes_eq (value_of token column) value) (take place tokens) →
    ((token : Token) → seen ≡ value_of (get_or tokens place token) column) → bytes_eq seen value ≡ false →
    found ≡ count_by (λ token. bytes_eq (value_of token column) value) (take (place + 1) tokens)
counted_no tokens column place found seen value l h s e =
    let d : Token = record { values = [] } in
    h ∙ sym (count_by_more_no (λ token. bytes_eq (value_of token column) value) tokens place d l (ap (λ v. bytes_eq v value) (sym (s d)) ∙ e))

-- a value lies within its values
pub placed : (columns count : ℕ) (values : List (List ℕ)) (place column : ℕ) → length values ≡ count * columns → place < count → column < columns →
    place * columns + column < length values
placed columns count values place column e p r = rw (e, mul_comm count columns) (mul-add-lt place columns column count p r)
