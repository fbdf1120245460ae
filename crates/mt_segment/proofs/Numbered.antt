-- Numbers by first sight, and the numbers of a lexicon that take their place.
use Rattle.std.proofs.Common.{◌≡◌, ℕ, ◌+◌, ◌<◌, ◌≤◌, Bool, true, false, List, [], ◌∷◌, ◌++◌, length, length-append, drop, get_or, slice_get, Some, refl, sym, ◌∙◌, ap, ap₂, subst, arith, if◌then◌else◌, suc, ◌⊎◌, inl, inr}
use Rattle.std.specs.List.{All, Contains, list_any}
use Rattle.std.specs.Option.{option_map}
use Rattle.std.specs.Str.{bytes_eq}
use Rattle.std.proofs.lemmas.Bool.{cases_lt}
use Rattle.std.proofs.lemmas.List.{length-map, map_push, get_or-map, get_or_append_left, get_or_push, get_or_default}
use Rattle.std.proofs.lemmas.List.Elements.{All-from_get_or, Contains-append_left, Contains-append_right}
use Rattle.std.proofs.lemmas.Option.{slice_get-get_or, slice_get_within, slice_get-map, get_or_from_slice_get}
use Rattle.mt_store_spec.specs.Lexicons.{IsLexiconOf, Renumbers, seen_with}
use Rattle.mt_lexicon.specs.Joins.{renumbered}
use Rattle.mt_segment.proofs.Renumbered.{here, renumbers_then}
use Rattle.mt_segment.specs.Numbered.{IsNumbered, stands_for}

-- ---- a value more

-- what was seen before stands where it stood
record Grows (seen more : List (List ℕ)) (value : List ℕ) : Type 0 where
  pub longer : length more ≤ length seen + 1
  pub keeps : (k : ℕ) → k < length seen → (k < length more) × (get_or more k [] ≡ get_or seen k [])
  pub new : (k : ℕ) → k < length more → (k < length seen) ⊎ (get_or more k [] ≡ value)

grows : (seen more : List (List ℕ)) (value : List ℕ) → more ≡ seen_with seen value → Grows seen more value
grows seen more value e = subst (λ (m : List (List ℕ)). Grows seen m value) (sym e) (by (list_any (bytes_eq value) seen))
  where
    by : (b : Bool) → Grows seen (if b then seen else seen ++ value ∷ []) value
    by true = record { longer = omega arith; keeps = λ k l. (l, refl); new = λ k l. inl l }
    by false = record {
      longer = omega (arith, length-append seen (value ∷ []));
      keeps = λ k l. (omega (arith, length-append seen (value ∷ [])), get_or_append_left seen (value ∷ []) [] k l);
      new = λ k l. last k l (cases_lt k (length seen));
    }
      where
        last : (k : ℕ) → k < length (seen ++ value ∷ []) → (k < length seen) ⊎ (length seen ≤ k) → (k < length seen) ⊎ (get_or (seen ++ value ∷ []) k [] ≡ value)
        last k l (inl m) = inl m
        last k l (inr m) = inr (get_or_push seen value [] k (omega (arith, length-append seen (value ∷ []))))

same_values : (seen more : List (List ℕ)) (numbers : List ℕ) → ((k : ℕ) → k < length seen → get_or more k [] ≡ get_or seen k []) → All (λ n. n < length seen) numbers → stands_for more numbers ≡ stands_for seen numbers
same_values seen more [] keeps all = refl
same_values seen more (n ∷ numbers) keeps all = ap₂ (λ (v : List ℕ) (vs : List (List ℕ)). v ∷ vs) (keeps n (all 0 0 (omega arith))) (same_values seen more numbers keeps (λ k d l. all (suc k) d (omega arith)))

pub values_more : (seen more : List (List ℕ)) (numbers : List ℕ) (value : List ℕ) (n : ℕ) → IsNumbered seen numbers → more ≡ seen_with seen value → slice_get more n ≡ Some value →
    stands_for more (numbers ++ n ∷ []) ≡ stands_for seen numbers ++ value ∷ []
values_more seen more numbers value n h e at =
    let g = grows seen more value e in
    map_push (λ (k : ℕ). get_or more k []) numbers n
    ∙ ap₂ (λ (vs : List (List ℕ)) (v : List ℕ). vs ++ v ∷ []) (same_values seen more numbers (λ k l. (g.keeps k l).1) h.within) (get_or_from_slice_get more n value [] at)

pub numbered_more : (seen more : List (List ℕ)) (numbers : List ℕ) (value : List ℕ) (n : ℕ) → IsNumbered seen numbers → more ≡ seen_with seen value → slice_get more n ≡ Some value →
    IsNumbered more (numbers ++ n ∷ [])
numbered_more seen more numbers value n h e at = record {
  within = All-from_get_or (λ k. k < length more) (numbers ++ n ∷ []) 0 (λ k l. inside k l (cases_lt k (length numbers)));
  only = subst (λ (vs : List (List ℕ)). All (Contains vs) more) (sym (values_more seen more numbers value n h e at)) (All-from_get_or (Contains (stands_for seen numbers ++ value ∷ [])) more [] (λ k l. there k (g.new k l)));
  few = omega (arith, g.longer, h.few, length-append numbers (n ∷ []));
}
  where
    g : Grows seen more value
    g = grows seen more value e

    inside : (k : ℕ) → k < length (numbers ++ n ∷ []) → (k < length numbers) ⊎ (length numbers ≤ k) → get_or (numbers ++ n ∷ []) k 0 < length more
    inside k l (inl m) = rw (get_or_append_left numbers (n ∷ []) 0 k m) ((g.keeps (get_or numbers k 0) (h.within k 0 m)).0)
    inside k l (inr m) = rw (get_or_push numbers n 0 k (omega (arith, length-append numbers (n ∷ [])))) (slice_get_within more n value at)

    there : (k : ℕ) → (k < length seen) ⊎ (get_or more k [] ≡ value) → Contains (stands_for seen numbers ++ value ∷ []) (get_or more k [])
    there k (inl m) = rw ((g.keeps k m).1) (Contains-append_left (stands_for seen numbers) (value ∷ []) (get_or seen k []) (h.only k [] m))
    there k (inr same) = rw same (Contains-append_right (stands_for seen numbers) (value ∷ []) value (0, omega arith, refl))

-- ---- the lexicon

-- the numbers are those of the values in the order of first sight
by_sight : (seen : List (List ℕ)) (numbers : List ℕ) → IsNumbered seen numbers → Renumbers numbers (stands_for seen numbers) seen
by_sight seen numbers h = record {
  count = sym (length-map numbers (λ n. get_or seen n []));
  same = λ k l.
      let within : k < length numbers = omega (arith, length-map numbers (λ (n : ℕ). get_or seen n [])) in
      slice_get-get_or seen (get_or numbers k 0) [] (h.within k 0 within)
      ∙ sym (slice_get-map (λ (n : ℕ). get_or seen n []) numbers k ∙ ap (option_map (λ (n : ℕ). get_or seen n [])) (slice_get-get_or numbers k 0 within));
}

pub finished_numbers : (seen lexicon : List (List ℕ)) (numbers next : List ℕ) → IsNumbered seen numbers → Renumbers next seen lexicon → Renumbers (renumbered next numbers) (stands_for seen numbers) lexicon
finished_numbers seen lexicon numbers next h g = renumbers_then numbers next (stands_for seen numbers) seen lexicon (by_sight seen numbers h) g

pub finished_lexicon : (seen lexicon : List (List ℕ)) (numbers : List ℕ) → IsNumbered seen numbers → IsLexiconOf seen lexicon → IsLexiconOf (stands_for seen numbers) lexicon
finished_lexicon seen lexicon numbers h g = record {
  ascending = g.ascending;
  all = All-from_get_or (Contains lexicon) (stands_for seen numbers) [] (λ k l.
      let within : k < length numbers = omega (arith, length-map numbers (λ (n : ℕ). get_or seen n [])) in
      rw (get_or-map (λ (n : ℕ). get_or seen n []) numbers k 0 [] within) (g.all (get_or numbers k 0) [] (h.within k 0 within)));
  only = All-from_get_or (Contains (stands_for seen numbers)) lexicon [] (λ k l.
      let (j, m, e) = g.only k [] l in
      subst (Contains (stands_for seen numbers)) (get_or_default seen j [] (get_or lexicon k []) m ∙ e) (h.only j [] m));
}

-- a number that is not renumbered yet has a new one
pub not_yet_changed : (next items initial : List ℕ) (i : ℕ) → length items ≡ length initial → drop i items ≡ drop i initial → i < length items → All (λ n. n < length next) initial → get_or items i 0 < length next
not_yet_changed next items initial i count left l all = rw (here items initial i 0 count left l) (all i 0 (omega (arith, count)))
