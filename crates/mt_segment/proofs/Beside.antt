-- The tables of all attributes, made one by one for their numbers.
use Rattle.std.proofs.Common.{◌≡◌, ℕ, ◌+◌, ◌<◌, List, [], ◌∷◌, zero, suc, length, map, get_or, None, refl, subst, arith}
use Rattle.std.specs.Prelude.{IfOk, MatchResult, Ok, Err}
use Rattle.std.specs.List.{AllZip, range_with_len}
use Rattle.std.specs.declared.result.Result.{Result}
use Rattle.mt_text_spec.specs.Registries.{Attr, column_of}
use Rattle.mt_text_spec.specs.Texts.{Text}
use Rattle.mt_segment_spec.specs.Tables.{AttrTables, AreBaseTables, column_values, tables_at}
use Rattle.mt_segment.specs.Building.{HaveBases, attr_of}

-- what is known of what a result holds, where it holds one
pub where_ok : {T E : Type 0} (r : Result T E) (P S : T → Type 0) (Q : E → Type 0) → MatchResult r P Q → ((v : T) → P v → S v) → IfOk r S
where_ok (Ok v) P S Q h f = f v h
where_ok (Err e) P S Q h f = tt

module _ {X : Type 0} (R : ℕ → X → Type 0) where
  -- results that are all right
  all_right : (E : Type 0) (numbers : List ℕ) (xs : List X) → AllZip (λ number (r : Result X E). IfOk r (R number)) numbers (map Ok xs) → AllZip R numbers xs
  all_right E [] [] h = tt
  all_right E [] (x ∷ xs) h = absurd h
  all_right E (number ∷ numbers) [] h = absurd h
  all_right E (number ∷ numbers) (x ∷ xs) h = (h.0, all_right E numbers xs h.1)

  long : (from many : ℕ) (xs : List X) → AllZip R (range_with_len from many) xs → length xs ≡ many
  long from zero [] h = refl
  long from zero (x ∷ xs) h = absurd h
  long from (suc many) [] h = absurd h
  long from (suc many) (x ∷ xs) h = omega (arith, long (from + 1) many xs h.1)

  at_number : (from many : ℕ) (xs : List X) (k : ℕ) (d : X) → AllZip R (range_with_len from many) xs → k < many → R (from + k) (get_or xs k d)
  at_number from zero xs k d h l = absurd (omega arith)
  at_number from (suc many) [] k d h l = absurd h
  at_number from (suc many) (x ∷ xs) zero d h l =
      let same : from ≡ from + 0 = omega arith in
      subst (λ (n : ℕ). R n x) same h.0
  at_number from (suc many) (x ∷ xs) (suc k) d h l =
      let same : from + 1 + k ≡ from + suc k = omega arith in
      subst (λ (n : ℕ). R n (get_or xs k d)) same (at_number (from + 1) many xs k d h.1 (omega arith))

-- the tables of an attribute are right if it is a base attribute
abbrev pub IsMade : List Attr → List Text → ℕ → AttrTables → Type 0
IsMade attrs corpus number tables = (attr_of attrs number).base ≡ None → AreBaseTables (column_values (column_of attrs number) corpus) tables

-- the tables that were made for the numbers of all attributes
pub bases_made : (E : Type 0) (attrs : List Attr) (corpus : List Text) (results : List (Result AttrTables E)) (tables : List AttrTables) →
    AllZip (λ number r. IfOk r (IsMade attrs corpus number)) (range_with_len 0 (length attrs)) results → results ≡ map Ok tables → HaveBases attrs corpus tables (length attrs)
bases_made E attrs corpus results tables h e =
    let numbers = range_with_len 0 (length attrs) in
    let made = all_right (IsMade attrs corpus) E numbers tables (subst (λ (rs : List (Result AttrTables E)). AllZip (λ number r. IfOk r (IsMade attrs corpus number)) numbers rs) e h) in
    record {
      count = long (IsMade attrs corpus) 0 (length attrs) tables made;
      at = λ number l base.
          let same : 0 + number ≡ number = omega arith in
          subst (λ (n : ℕ). IsMade attrs corpus n (tables_at tables number)) same (at_number (IsMade attrs corpus) 0 (length attrs) tables number (tables_at [] 0) made l) base;
    }
