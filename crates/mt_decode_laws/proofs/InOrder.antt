-- Instances in order of kind are those of the first kind, then those of the next, and so on.
use Rattle.std.proofs.Common.{◌≡◌, ℕ, zero, suc, ◌+◌, ◌<◌, ◌≤◌, ◌==◌, true, false, cond, List, [], ◌∷◌, ◌++◌, length, get_or, refl, ◌∙◌, ap, ap₂, arith, ◌⊎◌, inl, inr}
use Rattle.std.specs.List.{All, AllPairs, filter, flat_map, range_with_len}
use Rattle.std.proofs.lemmas.Bool.{cases_order, eq-eqb, ne_eqb}
use Rattle.std.proofs.lemmas.List.Elements.{All-head, All-tail}
use Rattle.mt_text_spec.specs.Texts.{StructSpan, ComesBefore}
use Rattle.mt_segment_spec.specs.Tables.{is_of_kind}

abbrev pub by_kind : (first many : ℕ) → List StructSpan → List StructSpan
by_kind first many spans = flat_map (λ kind. filter (is_of_kind kind) spans) (range_with_len first many)

-- the kinds are from one on and before another
abbrev pub AreFrom : (first many : ℕ) → List StructSpan → Type 0
AreFrom first many spans = All (λ span. (first ≤ span.kind) × (span.kind < first + many)) spans

later : (x : StructSpan) (xs : List StructSpan) → AllPairs ComesBefore (x ∷ xs) → AllPairs ComesBefore xs
later x xs h = λ i j d b l. h (suc i) (suc j) d (omega arith) (omega arith)

no_less : (x y : StructSpan) → ComesBefore x y → x.kind ≤ y.kind
no_less x y (inl l) = omega arith
no_less x y (inr (e, b)) = omega arith

behind : (x : StructSpan) (xs : List StructSpan) → AllPairs ComesBefore (x ∷ xs) → All (λ y. x.kind ≤ y.kind) xs
behind x xs h = λ k d l. no_less x (get_or xs k d) (h 0 (suc k) d (omega arith) (omega arith))

none_of : (kind : ℕ) (xs : List StructSpan) → All (λ y. kind < y.kind) xs → filter (is_of_kind kind) xs ≡ []
none_of kind [] h = refl
none_of kind (x ∷ xs) h =
    let off : (x.kind == kind) ≡ false = ne_eqb x.kind kind (λ e. let f : ⊥ = omega (arith, All-head (λ y. kind < y.kind) x xs h, e) in f) in
    ap (λ b. cond b (x ∷ filter (is_of_kind kind) xs) (filter (is_of_kind kind) xs)) off ∙ none_of kind xs (All-tail (λ y. kind < y.kind) x xs h)

-- one of a lesser kind is not among those of greater ones
passed : (x : StructSpan) (xs : List StructSpan) (first many : ℕ) → x.kind < first → by_kind first many (x ∷ xs) ≡ by_kind first many xs
passed x xs first zero l = refl
passed x xs first (suc many) l =
    let off : (x.kind == first) ≡ false = ne_eqb x.kind first (λ e. let f : ⊥ = omega (arith, l, e) in f) in
    ap₂ (λ (a b : List StructSpan). a ++ b) (ap (λ b. cond b (x ∷ filter (is_of_kind first) xs) (filter (is_of_kind first) xs)) off) (passed x xs (first + 1) many (omega arith))

nothing : (first many : ℕ) → by_kind first many [] ≡ []
nothing first zero = refl
nothing first (suc many) = nothing (first + 1) many

module _ (first many : ℕ) (more : (xs : List StructSpan) → AreFrom (first + 1) many xs → AllPairs ComesBefore xs → by_kind (first + 1) many xs ≡ xs) where
  one_more : (xs : List StructSpan) → AreFrom first (suc many) xs → AllPairs ComesBefore xs → by_kind first (suc many) xs ≡ xs
  one_more [] range order = nothing first (suc many)
  one_more (x ∷ xs) range order = by (one_more xs (All-tail (λ span. (first ≤ span.kind) × (span.kind < first + suc many)) x xs range) (later x xs order)) (cases_order x.kind first)
    where
      low : first ≤ x.kind
      low = (All-head (λ span. (first ≤ span.kind) × (span.kind < first + suc many)) x xs range).0

      by : by_kind first (suc many) xs ≡ xs → (x.kind ≡ first) ⊎ ((x.kind < first) ⊎ (first < x.kind)) → by_kind first (suc many) (x ∷ xs) ≡ x ∷ xs
      by rest (inl e) =
          let on : (x.kind == first) ≡ true = eq-eqb x.kind first e in
          ap (λ b. cond b (x ∷ filter (is_of_kind first) xs) (filter (is_of_kind first) xs) ++ by_kind (first + 1) many (x ∷ xs)) on
          ∙ ap (λ (ys : List StructSpan). x ∷ (filter (is_of_kind first) xs ++ ys)) (passed x xs (first + 1) many (omega (arith, e))) ∙ ap (λ (ys : List StructSpan). x ∷ ys) rest
      by rest (inr (inl l)) = absurd (omega (arith, l, low))
      by rest (inr (inr l)) =
          let greater : All (λ y. first < y.kind) (x ∷ xs) = λ k d m. above k d m in
          ap (λ (ys : List StructSpan). ys ++ by_kind (first + 1) many (x ∷ xs)) (none_of first (x ∷ xs) greater)
          ∙ more (x ∷ xs) (λ k d m. let r = range k d m in let g = above k d m in (omega (arith, g), omega (arith, r.1))) order
        where
          above : (k : ℕ) (d : StructSpan) → k < length (x ∷ xs) → first < (get_or (x ∷ xs) k d).kind
          above zero d m = l
          above (suc k) d m = omega (arith, l, behind x xs order k d (omega (arith, m)))

pub in_order : (many first : ℕ) (xs : List StructSpan) → AreFrom first many xs → AllPairs ComesBefore xs → by_kind first many xs ≡ xs
in_order zero first [] range order = refl
in_order zero first (x ∷ xs) range order = let r = All-head (λ span. (first ≤ span.kind) × (span.kind < first + zero)) x xs range in absurd (omega (arith, r.0, r.1))
in_order (suc many) first xs range order = one_more first many (λ ys r o. in_order many (first + 1) ys r o) xs range order
