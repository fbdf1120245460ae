-- The lines of a text that is cut behind a line feed, and the values that they have in a column.
use Rattle.std.proofs.Common.{◌≡◌, ℕ, ◌+◌, ◌-◌, ◌<◌, ◌≤◌, Bool, true, false, cond, eqb, Option, Some, get_or-take, get_or-drop, List, [], ◌∷◌, ◌++◌, length, map, take, drop, get_or, refl, sym, ◌∙◌, ap, ap₂, subst, arith, append-nil, length-append, inl, inr}
use Rattle.std.specs.List.{onto_first, slice_split}
use Rattle.std.specs.Str.Lines.{lines, lines_of_parts, strip_carriage_return}
use Rattle.std.proofs.lemmas.Bool.{eqb-true}
use Rattle.std.proofs.lemmas.List.{length-take, take_more}
use Rattle.std.proofs.lemmas.List.Splits.{slice_split-cons_yes, length-slice_split}
use Rattle.memchr.specs.Find.{IsFirst, Passes, is_byte}
use Rattle.mt_vertical_tables.specs.Columns.{AreValuesIn}
use Rattle.mt_vertical_tables.proofs.Marks.{cut_at, of_parts}
use Rattle.mt_vertical_tables.proofs.Values.{ByLine, by_line, together}

module _ {X : Type 0} where
  onto_first_append : (x : X) (parts others : List (List X)) → 0 < length parts → onto_first x (parts ++ others) ≡ onto_first x parts ++ others
  onto_first_append x [] others l = absurd (omega (arith, l))
  onto_first_append x (part ∷ parts) others l = refl

  cond_append : (x : X) (parts others : List (List X)) (b : Bool) → 0 < length parts → cond b ([] ∷ parts ++ others) (onto_first x (parts ++ others)) ≡ cond b ([] ∷ parts) (onto_first x parts) ++ others
  cond_append x parts others true l = refl
  cond_append x parts others false l = onto_first_append x parts others l

  split_append : (p : X → Bool) (xs : List X) (y : X) (ys : List X) → p y ≡ true → slice_split p (xs ++ y ∷ ys) ≡ slice_split p xs ++ slice_split p ys
  split_append p [] y ys e = slice_split-cons_yes p y ys e
  split_append p (x ∷ xs) y ys e =
      ap (λ parts. cond (p x) ([] ∷ parts) (onto_first x parts)) (split_append p xs y ys e)
      ∙ cond_append x (slice_split p xs) (slice_split p ys) (p x) (omega (arith, length-slice_split p xs))

lines_append : (parts others : List (List ℕ)) → 0 < length others → lines_of_parts (parts ++ others) ≡ map strip_carriage_return parts ++ lines_of_parts others
lines_append [] others l = refl
lines_append (part ∷ parts) others l =
    of_parts part (parts ++ others) (omega (arith, length-append parts others, l)) ∙ ap (λ ls. strip_carriage_return part ∷ ls) (lines_append parts others l)

behind_feed : (xs ys : List ℕ) → lines (xs ++ 10 ∷ ys) ≡ map strip_carriage_return (slice_split (λ b. eqb b 10) xs) ++ lines ys
behind_feed xs ys =
    let p = λ (b : ℕ). eqb b 10 in
    ap lines_of_parts (split_append p xs 10 ys refl) ∙ lines_append (slice_split p xs) (slice_split p ys) (omega (arith, length-slice_split p ys))

-- the first line feed behind a place
pub feed_behind : (text bytes : List ℕ) (m place : ℕ) (found : Option ℕ) → bytes ≡ text → m ≤ length text → IsFirst (Passes (is_byte 10) (take (length bytes - m) (drop m bytes))) 0 (length (take (length bytes - m) (drop m bytes))) found →
    found ≡ Some place → (m + place < length text) × Passes (is_byte 10) text (m + place)
feed_behind text bytes m place found same within first is =
    let part : List ℕ = take (length bytes - m) (drop m bytes) in
    let at : IsFirst (Passes (is_byte 10) part) 0 (length part) (Some place) = subst (λ (f : Option ℕ). IsFirst (Passes (is_byte 10) part) 0 (length part) f) is first in
    let count : length bytes ≡ length text = ap length same in
    let low : place < length bytes - m = omega (arith, at.0.high, length-take (length bytes - m) (drop m bytes)) in
    let byte : get_or part place 0 ≡ get_or text (m + place) 0 = get_or-take (length bytes - m) (drop m bytes) place 0 low ∙ get_or-drop m bytes place 0 ∙ ap (λ (bs : List ℕ). get_or bs (m + place) 0) same in
    (omega (arith, count, low), subst (λ (b : ℕ). eqb b 10 ≡ true) byte at.1)

-- a text that is cut behind a line feed has the lines of both parts
pub cut_behind_feed : (text front back : List ℕ) (k : ℕ) → k < length text → Passes (is_byte 10) text k → front ≡ take (k + 1) text → back ≡ drop (k + 1) text → lines text ≡ lines front ++ lines back
cut_behind_feed text front back k l passes f b =
    let at : get_or text k 0 ≡ 10 = eqb-true (get_or text k 0) 10 passes in
    let parts : List (List ℕ) = map strip_carriage_return (slice_split (λ b. eqb b 10) (take k text)) in
    let whole : text ≡ take k text ++ 10 ∷ drop (k + 1) text = cut_at text k l ∙ ap (λ x. take k text ++ x ∷ drop (k + 1) text) at in
    let first : front ≡ take k text ++ 10 ∷ [] = f ∙ take_more text k 0 l ∙ ap (λ x. take k text ++ x ∷ []) at in
    let firsts : lines front ≡ parts = ap lines first ∙ behind_feed (take k text) [] ∙ append-nil parts in
    ap lines whole ∙ behind_feed (take k text) (drop (k + 1) text) ∙ ap₂ (λ (ls more : List (List ℕ)). ls ++ more) (sym firsts) (ap lines (sym b))

-- ---- the values in a column

by_line_append : (column : ℕ) (ls more values others : List (List ℕ)) → ByLine column ls values → ByLine column more others → ByLine column (ls ++ more) (values ++ others)
by_line_append column [] more values others h g = subst (λ (vs : List (List ℕ)). ByLine column more (vs ++ others)) (sym h) g
by_line_append column (line ∷ ls) more values others (inl (none, h)) g = inl (none, by_line_append column ls more values others h g)
by_line_append column (line ∷ ls) more values others (inr (value, rest, e, is, h)) g =
    inr (value, rest ++ others, ap (λ vs. vs ++ others) e, is, by_line_append column ls more rest others h g)

-- the values of the lines of both parts
pub values_of_both : (column : ℕ) (all ls more values others both : List (List ℕ)) → all ≡ ls ++ more → both ≡ values ++ others → AreValuesIn column ls values → AreValuesIn column more others → AreValuesIn column all both
values_of_both column all ls more values others both a b h g =
    rw (a, b) (together column (ls ++ more) (values ++ others) (by_line_append column ls more values others (by_line column ls values h) (by_line column more others g)))
