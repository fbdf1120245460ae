-- The first columns of a line, added to values one by one.
use Rattle.std.proofs.Common.{◌≡◌, ℕ, ◌+◌, ◌-◌, ◌<◌, ◌≤◌, List, [], ◌∷◌, ◌++◌, Bor, length, map, take, refl, sym, ◌∙◌, ap, arith, append_assoc, append-nil}
use Rattle.std.proofs.lemmas.List.{length-map, take_all, take-append-le, map_push}
use Rattle.std.proofs.lemmas.Grind.{common_steps}
use Rattle.std.proofs.lemmas.List.Elements.{All-nil}
use Rattle.mt_text_spec.specs.Texts.{value_bytes_limit}
use Rattle.mt_file_spec.specs.VerticalLines.{columns, first_columns}
use Rattle.mt_vertical.specs.Readers.{AreShort, HasLong}
use Rattle.mt_vertical.proofs.Filled.{column_kept, column_long, short_push}

abbrev pub bytes_of : Bor (List ℕ) → List ℕ
bytes_of value = value.now

-- behind the values there were stand the first of a line's columns, all short, and so many are left
pub record Added (count left : ℕ) (line : List ℕ) (others : List (List ℕ)) (old new : List (Bor (List ℕ))) : Type 0 where
  pub more : List (List ℕ)
  pub front : take (length old) new ≡ old
  pub are : map bytes_of new ≡ map bytes_of old ++ more
  pub so_far : more ++ first_columns left others ≡ first_columns count (columns line)
  pub short : AreShort more

pub none_added : (count left : ℕ) (line : List ℕ) (old : List (Bor (List ℕ))) → left ≡ count → Added count left line (columns line) old old
none_added count left line old e = record {
  more = [];
  front = take_all (length old) old (omega arith);
  are = sym (append-nil (map bytes_of old));
  so_far = ap (λ n. first_columns n (columns line)) e;
  short = All-nil (λ (value : List ℕ). length value ≤ value_bytes_limit);
}

both_lengths : (xs ys : List (List ℕ)) → length (xs ++ ys) ≡ length xs + length ys
both_lengths xs ys = grind (arith, common_steps)

no_fewer : (count left : ℕ) (line : List ℕ) (others : List (List ℕ)) (old new : List (Bor (List ℕ))) → Added count left line others old new → length old ≤ length new
no_fewer count left line others old new a =
    omega (arith, length-map new bytes_of, length-map old bytes_of, ap length a.are, both_lengths (map bytes_of old) a.more)

pub one_added : (count i : ℕ) (line : List ℕ) (others rest : List (List ℕ)) (old new all : List (Bor (List ℕ))) (column : Bor (List ℕ)) → Added count (count - i) line others old new → i < count → all ≡ new ++ column ∷ [] →
    ((n : ℕ) → first_columns (n + 1) others ≡ column.now ∷ first_columns n rest) → length column.now ≤ value_bytes_limit → Added count (count - (i + 1)) line rest old all
one_added count i line others rest old new all column a l e step short = record {
  more = a.more ++ column.now ∷ [];
  front = ap (take (length old)) e ∙ take-append-le (length old) new (column ∷ []) (no_fewer count (count - i) line others old new a) ∙ a.front;
  are = ap (map bytes_of) e ∙ map_push bytes_of new column ∙ ap (λ vs. vs ++ column.now ∷ []) a.are ∙ append_assoc (map bytes_of old) a.more (column.now ∷ []);
  so_far = column_kept count i a.more column.now others rest (first_columns count (columns line)) l a.so_far step;
  short = short_push a.more (a.more ++ column.now ∷ []) column.now column.now refl refl a.short short;
}

pub long_next : (count i : ℕ) (line : List ℕ) (others rest : List (List ℕ)) (old new : List (Bor (List ℕ))) (column : List ℕ) → Added count (count - i) line others old new → i < count →
    ((n : ℕ) → first_columns (n + 1) others ≡ column ∷ first_columns n rest) → value_bytes_limit < length column → HasLong (first_columns count (columns line))
long_next count i line others rest old new column a l step long = column_long count i a.more column others rest (first_columns count (columns line)) l a.so_far step long

-- where none is left all are added
pub all_more : (count : ℕ) (line : List ℕ) (others : List (List ℕ)) (old new : List (Bor (List ℕ))) (a : Added count 0 line others old new) → a.more ≡ first_columns count (columns line)
all_more count line others old new a = sym (append-nil a.more) ∙ a.so_far
