-- The live texts of a group are those of its texts that have the live numbers.
use Rattle.std.proofs.Common.{◌≡◌, ℕ, zero, suc, ◌+◌, ◌-◌, ◌<◌, ◌≤◌, Bool, true, false, [], ◌∷◌, length, get_or, slice_get, refl, sym, ◌∙◌, ap, arith}
use Rattle.mt_corpus_spec.specs.Groups.{Group, all_texts, live_texts}
use Rattle.mt_corpus_spec.specs.Segments.{live_numbers}
use Rattle.mt_decode_laws.specs.Laws.{LiveTextsAreNumbered}

count : (group : Group) (first : ℕ) → length (live_texts group) ≡ length (live_numbers first group)
count [] first = refl
count ((text, live) ∷ group) first = by live (count group (first + 1))
  where
    by : (b : Bool) → length (live_texts group) ≡ length (live_numbers (first + 1) group) → length (live_texts ((text, b) ∷ group)) ≡ length (live_numbers first ((text, b) ∷ group))
    by true h = ap suc h
    by false h = h

record StandsAt (group : Group) (first k : ℕ) : Type 0 where
  from : first ≤ get_or (live_numbers first group) k 0
  is : slice_get (live_texts group) k ≡ slice_get (all_texts group) (get_or (live_numbers first group) k 0 - first)

stands : (group : Group) (first k : ℕ) → k < length (live_numbers first group) → StandsAt group first k
stands [] first k l = absurd (omega (arith, l))
stands ((text, live) ∷ group) first k l = by live k l (λ j m. stands group (first + 1) j m)
  where
    one : (n : ℕ) → first + 1 ≤ n → slice_get (text ∷ all_texts group) (n - first) ≡ slice_get (all_texts group) (n - (first + 1))
    one n m = let e : n - first ≡ suc (n - (first + 1)) = omega (arith, m) in ap (slice_get (text ∷ all_texts group)) e

    by : (b : Bool) (k : ℕ) → k < length (live_numbers first ((text, b) ∷ group)) → ((j : ℕ) → j < length (live_numbers (first + 1) group) → StandsAt group (first + 1) j) → StandsAt ((text, b) ∷ group) first k
    by true zero l next = let e : first - first ≡ 0 = omega arith in record { from = omega arith; is = ap (slice_get (text ∷ all_texts group)) (sym e) }
    by true (suc j) l next =
        let s = next j (omega (arith, l)) in
        record { from = omega (arith, s.from); is = s.is ∙ sym (one (get_or (live_numbers (first + 1) group) j 0) s.from) }
    by false k l next =
        let s = next k l in
        record { from = omega (arith, s.from); is = s.is ∙ sym (one (get_or (live_numbers (first + 1) group) k 0) s.from) }

pub texts_numbered : LiveTextsAreNumbered
texts_numbered group = record {
  count = count group 0;
  each = λ k l.
      let s = stands group 0 k l in
      let e : get_or (live_numbers 0 group) k 0 - 0 ≡ get_or (live_numbers 0 group) k 0 = omega arith in
      s.is ∙ ap (slice_get (all_texts group)) e;
}
