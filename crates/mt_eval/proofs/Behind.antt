-- Rows of a text stand behind those of the texts before it.
use Rattle.std.proofs.Common.{◌≡◌, ℕ, ◌+◌, ◌<◌, ◌⊎◌, inl, inr, List, [], ◌∷◌, ◌++◌, length, get_or, take, slice_get, Some, refl, sym, ◌∙◌, ap, subst, arith}
use Rattle.std.specs.List.{Contains, AllPairs, AllByRecursion}
use Rattle.std.specs.List.Sorted.{IsStrictlySortedBy}
use Rattle.std.specs.Ordering.{nat_cmp, ordering_then}
use Rattle.std.specs.Cmp.Lexicographic.{slice_cmp}
use Rattle.std.specs.Cmp.{nat_cmp_is}
use Rattle.std.specs.declared.cmp.Ordering.TheVariants.{Less}
use Rattle.std.proofs.lemmas.List.{length-take-le, get_or-take, take_more}
use Rattle.std.proofs.lemmas.List.Elements.{Contains-append_left, Contains-append_right, Contains-append_cases, Contains-push_cases, Contains-push}
use Rattle.std.proofs.lemmas.Option.{get_or_from_slice_get, slice_get_within}
use Rattle.mt_text_spec.specs.Texts.{Row}
use Rattle.mt_text_spec.specs.Orders.{row_cmp}
use Rattle.mt_match_spec.specs.Rows.{ListsAll}
use Rattle.mt_rows.specs.Laws.{Member, from_member}

-- ---- two ascending lists

all_members : (P : Row → Type 0) (xs : List Row) → ((x : Row) → Member x xs → P x) → AllByRecursion P xs
all_members P [] h = tt
all_members P (x ∷ xs) h = (h x (inl refl), all_members P xs (λ y m. h y (inr m)))

each_member : (P : Row → Type 0) (xs : List Row) (x : Row) → AllByRecursion P xs → Member x xs → P x
each_member P [] x all m = absurd m
each_member P (y ∷ ys) x all (inl e) = subst P (sym e) all.0
each_member P (y ∷ ys) x all (inr m) = each_member P ys x all.1 m

in_both : (xs ys : List Row) (z : Row) → Member z (xs ++ ys) → Member z xs ⊎ Member z ys
in_both [] ys z m = inr m
in_both (x ∷ xs) ys z (inl e) = inl (inl e)
in_both (x ∷ xs) ys z (inr m) = elim (in_both xs ys z m) [ inl a ↦ inl (inr a) | inr b ↦ inr b ]

pub one_behind : (xs ys : List Row) → IsStrictlySortedBy row_cmp xs → IsStrictlySortedBy row_cmp ys → ((x y : Row) → Member x xs → Member y ys → row_cmp x y ≡ Less) → IsStrictlySortedBy row_cmp (xs ++ ys)
unfolding IsStrictlySortedBy
one_behind [] ys s t less = t
one_behind (x ∷ xs) ys s t less = (
  all_members (λ z. row_cmp x z ≡ Less) (xs ++ ys) (λ z m. elim (in_both xs ys z m) [ inl a ↦ each_member (λ w. row_cmp x w ≡ Less) xs z s.0 a | inr b ↦ less x z (inl refl) b ]),
  one_behind xs ys s.1 t (λ a b m n. less a b (inr m) n),
)

nothing_ascends : IsStrictlySortedBy row_cmp []
unfolding IsStrictlySortedBy
nothing_ascends = tt

-- ---- rows of texts

-- a row of an earlier text comes first
pub earlier : (row other : Row) → row.span.text < other.span.text → row_cmp row other ≡ Less
earlier row other l =
    let less : nat_cmp row.span.text other.span.text ≡ Less = sym (nat_cmp_is row.span.text other.span.text Less l) in
    ap (λ o. ordering_then (ordering_then o (ordering_then (nat_cmp row.span.begin other.span.begin) (nat_cmp row.span.end other.span.end))) (slice_cmp nat_cmp row.labels other.labels)) less

module _ (P : ℕ → Row → Type 0) (is_of : (text : ℕ) (row : Row) → P text row → row.span.text ≡ text) where
  -- a row of P of one of the texts
  pub record Of (texts : List ℕ) (row : Row) : Type 0 where
    pub listed : Contains texts row.span.text
    pub is : P row.span.text row

  listed_below : (texts : List ℕ) (k text n : ℕ) → AllPairs (λ (t : ℕ) (later : ℕ). t < later) texts → slice_get texts k ≡ Some text → Contains (take k texts) n → n < text
  listed_below texts k text n up at (i, l, e) =
      let within = slice_get_within texts k text at in
      let short : length (take k texts) ≡ k = length-take-le k texts (omega (arith, within)) in
      let low : i < k = omega (arith, l, short) in
      let here : get_or texts i n ≡ n = sym (get_or-take k texts i n low) ∙ e in
      let there : get_or texts k n ≡ text = get_or_from_slice_get texts k text n at in
      let less = up i k n low within in
      omega (arith, less, here, there)

  apart : (texts : List ℕ) (k text : ℕ) (old rows : List Row) → AllPairs (λ (t : ℕ) (later : ℕ). t < later) texts → slice_get texts k ≡ Some text →
      ((row : Row) → Contains old row → Of (take k texts) row) → ((row : Row) → Contains rows row → P text row) → (x y : Row) → Member x old → Member y rows → row_cmp x y ≡ Less
  apart texts k text old rows up at olds news x y m n =
      let before = listed_below texts k text x.span.text up at (olds x (from_member old x m)).listed in
      let is = is_of text y (news y (from_member rows y n)) in
      earlier x y (omega (arith, before, is))

  -- the rows of the first texts, and then some of the next
  pub joined : (texts : List ℕ) (k text : ℕ) (old rows : List Row) → AllPairs (λ (t : ℕ) (later : ℕ). t < later) texts → slice_get texts k ≡ Some text →
      ListsAll row_cmp (Of (take k texts)) old → IsStrictlySortedBy row_cmp rows → ((row : Row) → Contains rows row → P text row) → IsStrictlySortedBy row_cmp (old ++ rows)
  joined texts k text old rows up at a ascending news = one_behind old rows a.ascending ascending (apart texts k text old rows up at a.only news)

  more_listed : (texts : List ℕ) (k text : ℕ) → slice_get texts k ≡ Some text → take (k + 1) texts ≡ take k texts ++ text ∷ []
  more_listed texts k text at = take_more texts k text (slice_get_within texts k text at) ∙ ap (λ (n : ℕ). take k texts ++ n ∷ []) (get_or_from_slice_get texts k text text at)

  pub next_text : (texts : List ℕ) (k text : ℕ) (old rows : List Row) → AllPairs (λ (t : ℕ) (later : ℕ). t < later) texts → slice_get texts k ≡ Some text →
      ListsAll row_cmp (Of (take k texts)) old → ListsAll row_cmp (P text) rows → ListsAll row_cmp (Of (take (k + 1) texts)) (old ++ rows)
  next_text texts k text old rows up at a b = record {
    ascending = joined texts k text old rows up at a b.ascending b.only;
    only = λ row c. subst (λ (ts : List ℕ). Of ts row) (sym (more_listed texts k text at)) (elim (Contains-append_cases old rows row c) [
      | inl was ↦ let o = a.only row was in record { listed = Contains-append_left (take k texts) (text ∷ []) row.span.text o.listed; is = o.is }
      | inr new ↦ let p = b.only row new in let same = is_of text row p in
          record { listed = subst (Contains (take k texts ++ text ∷ [])) (sym same) (Contains-push (take k texts) text); is = subst (λ (t : ℕ). P t row) (sym same) p }
    ]);
    each = λ row o. elim (Contains-push_cases (take k texts) text row.span.text (subst (λ (ts : List ℕ). Contains ts row.span.text) (more_listed texts k text at) o.listed)) [
      | inl was ↦ Contains-append_left old rows row (a.each row (record { listed = was; is = o.is }))
      | inr same ↦ Contains-append_right old rows row (b.each row (subst (λ (t : ℕ). P t row) (sym same) o.is))
    ];
  }

  -- no text yet
  pub no_text : (texts : List ℕ) → ListsAll row_cmp (Of (take 0 texts)) []
  no_text texts = record { ascending = nothing_ascends; only = λ row c. absurd (in_nothing row c); each = λ row o. absurd (in_nothing row.span.text o.listed) }
    where
      in_nothing : {X : Type 0} (x : X) → Contains [] x → ⊥
      in_nothing x (k, l, e) = omega (arith, l)
