-- The numbers of the instances in a list that pass a test.
use Rattle.std.proofs.Common.{◌≡◌, ℕ, zero, suc, ◌+◌, Bool, true, false, ◌&&◌, if◌then◌else◌, Some, None, List, [], ◌∷◌, length, refl, sym, ap, subst, ◌∙◌, arith, true≢false, ◌⊎◌, inl, inr}
use Rattle.std.specs.List.{Contains}
use Rattle.std.specs.Str.{bytes_eq}
use Rattle.std.specs.Cmp.Lexicographic.{bytes_decides}
use Rattle.std.proofs.lemmas.Bool.{and_parts, and_from}
use Rattle.mt_text_spec.specs.Registries.{Registry}
use Rattle.mt_text_spec.specs.Texts.{Text}
use Rattle.mt_text_spec.specs.Queries.{Grammar}
use Rattle.mt_match_spec.specs.Values.{Images, value_at}
use Rattle.mt_count_spec.specs.Instances.{Instance, AtTwo, AtOne}
use Rattle.mt_count_spec.specs.Counts.{EachOnce, Number, CountsTwo, IsTwo, CountsOne, IsOne, IsCounted, Summed, OverNone, OverOne}
use Rattle.mt_counts.specs.Counted.{Counted, f, f_first, f_second, f1, is_three, is_two}
use Rattle.mt_triples.specs.CountsOf.{AreCountsOf}
use Rattle.mt_triples.specs.Tallied.{twos, ones, CountEach, AreInstances}

-- ---- the items that pass

pub head_there : {X : Type 0} (x : X) (xs : List X) → Contains (x ∷ xs) x
head_there x xs = (0, omega arith, refl)

pub later : {X : Type 0} (x y : X) (xs : List X) → Contains xs y → Contains (x ∷ xs) y
later x y xs (k, l, e) = (suc k, omega (arith, l), e)

pub either : {X : Type 0} (x y : X) (xs : List X) → Contains (x ∷ xs) y → (x ≡ y) ⊎ Contains xs y
either x y xs (zero, l, e) = inl e
either x y xs (suc k, l, e) = inr (k, omega (arith, l), e)

passing : {X : Type 0} → (X → Bool) → List X → ℕ
passing test [] = 0
passing test (x ∷ xs) = (if test x then 1 else 0) + passing test xs

record ArePassing {X : Type 0} (test : X → Bool) (xs : List X) : Type 0 where
  pub all : List X
  pub once : EachOnce xs → EachOnce all
  pub only : (x : X) → Contains all x → Contains xs x × (test x ≡ true)
  pub each : (x : X) → Contains xs x → test x ≡ true → Contains all x
  pub are : length all ≡ passing test xs

those : {X : Type 0} (test : X → Bool) (xs : List X) → ArePassing test xs
unfolding passing
those test [] = record { all = []; once = λ o. o; only = λ x h. absurd (omega (arith, h.1)); each = λ x h t. h; are = refl }
those {X} test (x ∷ xs) = by (test x) refl (those test xs)
  where
    by : (b : Bool) → test x ≡ b → ArePassing test xs → ArePassing test (x ∷ xs)
    by true h rest = record {
      all = x ∷ rest.all;
      once = λ o. (λ again. o.0 (rest.only x again).0, rest.once o.1);
      only = λ y c. on y (either x y rest.all c);
      each = λ y c t. put y t (either x y xs c);
      are = let here : ◌≡◌ {A = ℕ} (if test x then 1 else 0) 1 = ap (λ (b : Bool). if b then 1 else 0) h in let more = rest.are in omega (arith, here, more);
    }
      where
        on : (y : X) → (x ≡ y) ⊎ Contains rest.all y → Contains (x ∷ xs) y × (test y ≡ true)
        on y (inl e) = (subst (Contains (x ∷ xs)) e (head_there x xs), subst (λ (z : X). test z ≡ true) e h)
        on y (inr c) = let old = rest.only y c in (later x y xs old.0, old.1)

        put : (y : X) → test y ≡ true → (x ≡ y) ⊎ Contains xs y → Contains (x ∷ rest.all) y
        put y t (inl e) = subst (Contains (x ∷ rest.all)) e (head_there x rest.all)
        put y t (inr c) = later x y rest.all (rest.each y c t)
    by false h rest = record {
      all = rest.all;
      once = λ o. rest.once o.1;
      only = λ y c. let old = rest.only y c in (later x y xs old.0, old.1);
      each = λ y c t. put y t (either x y xs c);
      are = let here : ◌≡◌ {A = ℕ} (if test x then 1 else 0) 0 = ap (λ (b : Bool). if b then 1 else 0) h in let more = rest.are in omega (arith, here, more);
    }
      where
        put : (y : X) → test y ≡ true → (x ≡ y) ⊎ Contains xs y → Contains rest.all y
        put y t (inl e) = absurd (true≢false (sym t ∙ ap test (sym e) ∙ h))
        put y t (inr c) = rest.each y c t

-- ---- instances that pass a test of names and values

two_test : (ℕ → List ℕ) → (List ℕ × List ℕ × List ℕ → Bool) → Instance → Bool
two_test values test (AtTwo name p q) = test (name, values p, values q)
two_test values test (AtOne name p) = false

one_test : (ℕ → List ℕ) → (List ℕ × List ℕ → Bool) → Instance → Bool
one_test values test (AtTwo name p q) = false
one_test values test (AtOne name p) = test (name, values p)

plus_none : (n : ℕ) → 0 + n ≡ n
plus_none n = omega arith

twos_pass : (values : ℕ → List ℕ) (test : List ℕ × List ℕ × List ℕ → Bool) (all : List Instance) → passing (two_test values test) all ≡ twos values test all
unfolding passing two_test
twos_pass values test [] = refl
twos_pass values test (AtTwo name p q ∷ all) = ap (λ (n : ℕ). (if test (name, values p, values q) then 1 else 0) + n) (twos_pass values test all)
twos_pass values test (AtOne name p ∷ all) = plus_none (passing (two_test values test) all) ∙ twos_pass values test all

ones_pass : (values : ℕ → List ℕ) (test : List ℕ × List ℕ → Bool) (all : List Instance) → passing (one_test values test) all ≡ ones values test all
unfolding passing one_test
ones_pass values test [] = refl
ones_pass values test (AtTwo name p q ∷ all) = plus_none (passing (one_test values test) all) ∙ ones_pass values test all
ones_pass values test (AtOne name p ∷ all) = ap (λ (n : ℕ). (if test (name, values p) then 1 else 0) + n) (ones_pass values test all)

same_bytes : (a b : List ℕ) → bytes_eq a b ≡ true → a ≡ b
same_bytes a b = (bytes_decides a b).0

own_bytes : (a b : List ℕ) → a ≡ b → bytes_eq a b ≡ true
own_bytes a b = (bytes_decides a b).1

module _ (images : Images) (registry : Registry) (grammar : Grammar) (text : Text) (all : List Instance) (are : AreInstances images registry grammar text all) where
  abbrev values : ℕ → List ℕ
  values = value_at images registry text registry.ws_attr

  -- so many instances pass a test as count
  counted_so : (test : Instance → Bool) (Counts : Instance → Type 0) (count : ℕ) → ((i : Instance) → test i ≡ true → Counts i) → ((i : Instance) → Counts i → test i ≡ true) → count ≡ passing test all →
      Number (IsCounted images registry grammar text Counts) count
  counted_so test Counts count on back e =
      let chosen = those test all in
      record {
        all = chosen.all;
        once = chosen.once are.once;
        only = λ i h. let c = chosen.only i h in record { has = are.only i c.0; counts = on i c.1 };
        each = λ i h. chosen.each i (are.each i h.has) (back i h.counts);
        are = chosen.are ∙ sym e;
      }

  alone_in : {Of : Text → ℕ → Type 0} (count : ℕ) → Of text count → Summed Of (text ∷ []) count
  alone_in {Of} count h = subst (λ (n : ℕ). Summed Of (text ∷ []) n) (omega arith) (OverOne text [] count 0 h OverNone)

  both_on : (name x y : List ℕ) (i : Instance) → two_test values (is_three name x y) i ≡ true → CountsTwo images registry text name (Some x) (Some y) i
  unfolding two_test
  both_on name x y (AtTwo other p q) h =
      let front = and_parts (bytes_eq name other && bytes_eq x (values p)) (bytes_eq y (values q)) h in
      let parts = and_parts (bytes_eq name other) (bytes_eq x (values p)) front.0 in
      subst (λ (n : List ℕ). CountsTwo images registry text name (Some x) (Some y) (AtTwo n p q)) (same_bytes name other parts.0) (IsTwo p q (sym (same_bytes x (values p) parts.1)) (sym (same_bytes y (values q) front.1)))
  both_on name x y (AtOne other p) h = absurd (true≢false (sym h))

  both_back : (name x y : List ℕ) (i : Instance) → CountsTwo images registry text name (Some x) (Some y) i → two_test values (is_three name x y) i ≡ true
  unfolding two_test
  both_back name x y i (IsTwo p q h k) = and_from (bytes_eq name name && bytes_eq x (values p)) (bytes_eq y (values q)) (and_from (bytes_eq name name) (bytes_eq x (values p)) (own_bytes name name refl) (own_bytes x (values p) (sym h))) (own_bytes y (values q) (sym k))

  first_on : (name x : List ℕ) (i : Instance) → two_test values (λ key. is_two name x (key.0, key.1)) i ≡ true → CountsTwo images registry text name (Some x) None i
  unfolding two_test
  first_on name x (AtTwo other p q) h =
      let parts = and_parts (bytes_eq name other) (bytes_eq x (values p)) h in
      subst (λ (n : List ℕ). CountsTwo images registry text name (Some x) None (AtTwo n p q)) (same_bytes name other parts.0) (IsTwo p q (sym (same_bytes x (values p) parts.1)) tt)
  first_on name x (AtOne other p) h = absurd (true≢false (sym h))

  first_back : (name x : List ℕ) (i : Instance) → CountsTwo images registry text name (Some x) None i → two_test values (λ key. is_two name x (key.0, key.1)) i ≡ true
  unfolding two_test
  first_back name x i (IsTwo p q h k) = and_from (bytes_eq name name) (bytes_eq x (values p)) (own_bytes name name refl) (own_bytes x (values p) (sym h))

  second_on : (name y : List ℕ) (i : Instance) → two_test values (λ key. is_two name y (key.0, key.2)) i ≡ true → CountsTwo images registry text name None (Some y) i
  unfolding two_test
  second_on name y (AtTwo other p q) h =
      let parts = and_parts (bytes_eq name other) (bytes_eq y (values q)) h in
      subst (λ (n : List ℕ). CountsTwo images registry text name None (Some y) (AtTwo n p q)) (same_bytes name other parts.0) (IsTwo p q tt (sym (same_bytes y (values q) parts.1)))
  second_on name y (AtOne other p) h = absurd (true≢false (sym h))

  second_back : (name y : List ℕ) (i : Instance) → CountsTwo images registry text name None (Some y) i → two_test values (λ key. is_two name y (key.0, key.2)) i ≡ true
  unfolding two_test
  second_back name y i (IsTwo p q h k) = and_from (bytes_eq name name) (bytes_eq y (values q)) (own_bytes name name refl) (own_bytes y (values q) (sym k))

  alone_on : (name x : List ℕ) (i : Instance) → one_test values (is_two name x) i ≡ true → CountsOne images registry text name (Some x) i
  unfolding one_test
  alone_on name x (AtTwo other p q) h = absurd (true≢false (sym h))
  alone_on name x (AtOne other p) h =
      let parts = and_parts (bytes_eq name other) (bytes_eq x (values p)) h in
      subst (λ (n : List ℕ). CountsOne images registry text name (Some x) (AtOne n p)) (same_bytes name other parts.0) (IsOne p (sym (same_bytes x (values p) parts.1)))

  alone_back : (name x : List ℕ) (i : Instance) → CountsOne images registry text name (Some x) i → one_test values (is_two name x) i ≡ true
  unfolding one_test
  alone_back name x i (IsOne p h) = and_from (bytes_eq name name) (bytes_eq x (values p)) (own_bytes name name refl) (own_bytes x (values p) (sym h))

  pub instances_counted : (counted : Counted) → CountEach (value_at images registry text registry.ws_attr) all counted → AreCountsOf images registry grammar (text ∷ []) counted
  instances_counted counted h = record {
    both = λ name x y. alone_in (f counted name x y)
        (counted_so (two_test values (is_three name x y)) (CountsTwo images registry text name (Some x) (Some y)) (f counted name x y) (both_on name x y) (both_back name x y) (h.both (is_three name x y) ∙ sym (twos_pass values (is_three name x y) all)));
    first = λ name x. alone_in (f_first counted name x)
        (counted_so (two_test values (λ key. is_two name x (key.0, key.1))) (CountsTwo images registry text name (Some x) None) (f_first counted name x) (first_on name x) (first_back name x)
        (h.first (is_two name x) ∙ sym (twos_pass values (λ key. is_two name x (key.0, key.1)) all)));
    second = λ name y. alone_in (f_second counted name y)
        (counted_so (two_test values (λ key. is_two name y (key.0, key.2))) (CountsTwo images registry text name None (Some y)) (f_second counted name y) (second_on name y) (second_back name y)
        (h.second (is_two name y) ∙ sym (twos_pass values (λ key. is_two name y (key.0, key.2)) all)));
    alone = λ name x. alone_in (f1 counted name x)
        (counted_so (one_test values (is_two name x)) (CountsOne images registry text name (Some x)) (f1 counted name x) (alone_on name x) (alone_back name x) (h.alone (is_two name x) ∙ sym (ones_pass values (is_two name x) all)));
  }
