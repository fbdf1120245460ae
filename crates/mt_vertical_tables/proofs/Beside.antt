-- The tables of all columns, made one by one.
use Rattle.std.proofs.Common.{◌≡◌, ℕ, ◌+◌, ◌<◌, List, [], ◌∷◌, zero, suc, length, map, get_or, refl, subst, arith}
use Rattle.std.specs.Prelude.{IfOk, Ok}
use Rattle.std.specs.List.{AllZip, range_with_len}
use Rattle.std.specs.declared.result.Result.{Result}
use Rattle.mt_segment_spec.specs.Tables.{AttrTables, tables_at}
use Rattle.mt_vertical_tables.specs.Columns.{AreColumns, IsColumnOf}

module _ {X : Type 0} (R : ℕ → X → Type 0) where
  -- results that are all right
  all_right : (E : Type 0) (numbers : List ℕ) (xs : List X) → AllZip (λ number (r : Result X E). IfOk r (R number)) numbers (map Ok xs) → AllZip R numbers xs
  all_right E [] [] h = tt
  all_right E [] (x ∷ xs) h = absurd h
  all_right E (number ∷ numbers) [] h = absurd h
  all_right E (number ∷ numbers) (x ∷ xs) h = (h.0, all_right E numbers xs h.1)

  long : (from many : ℕ) (xs : List X) → AllZip R (range_with_len from many) xs → length xs ≡ many
  long from zero [] h = refl
  long from zero (x ∷ xs) h = absurd h
  long from (suc many) [] h = absurd h
  long from (suc many) (x ∷ xs) h = omega (arith, long (from + 1) many xs h.1)

  at_number : (from many : ℕ) (xs : List X) (k : ℕ) (d : X) → AllZip R (range_with_len from many) xs → k < many → R (from + k) (get_or xs k d)
  at_number from zero xs k d h l = absurd (omega arith)
  at_number from (suc many) [] k d h l = absurd h
  at_number from (suc many) (x ∷ xs) zero d h l =
      let same : from ≡ from + 0 = omega arith in
      subst (λ (n : ℕ). R n x) same h.0
  at_number from (suc many) (x ∷ xs) (suc k) d h l =
      let same : from + 1 + k ≡ from + suc k = omega arith in
      subst (λ (n : ℕ). R n (get_or xs k d)) same (at_number (from + 1) many xs k d h.1 (omega arith))

-- the tables that were made for the numbers of all columns
pub columns_made : (E : Type 0) (ls : List (List ℕ)) (count : ℕ) (results : List (Result AttrTables E)) (tables : List AttrTables) → AllZip (λ column r. IfOk r (IsColumnOf ls column)) (range_with_len 0 count) results →
    results ≡ map Ok tables → AreColumns ls count tables
columns_made E ls count results tables h e =
    let numbers = range_with_len 0 count in
    let made = all_right (IsColumnOf ls) E numbers tables (subst (λ (rs : List (Result AttrTables E)). AllZip (λ column r. IfOk r (IsColumnOf ls column)) numbers rs) e h) in
    record {
      count_is = long (IsColumnOf ls) 0 count tables made;
      each = λ column l.
          let same : 0 + column ≡ column = omega arith in
          subst (λ (n : ℕ). IsColumnOf ls n (tables_at tables column)) same (at_number (IsColumnOf ls) 0 count tables column (tables_at [] 0) made l);
    }
