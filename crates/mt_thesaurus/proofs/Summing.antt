-- The scores and likenesses that are added up are those of all contexts.
use Rattle.std.proofs.Common.{◌≡◌, ℕ, ◌+◌, ◌*◌, ◌^◌, ◌<◌, ◌≤◌, ◌==◌, ◌&&◌, Bool, true, false, if◌then◌else◌, Some, List, [], ◌∷◌, filter, get_or, slice_get, refl, sym, ◌∙◌, ap, subst, arith}
use Rattle.std.specs.List.{sum_by}
use Rattle.std.proofs.lemmas.Bool.{and_parts, and_from, eq-eqb}
use Rattle.std.proofs.lemmas.Bool.Decides.{Decides-eqb}
use Rattle.std.proofs.lemmas.List.Sums.{sum_by-cons}
use Rattle.std.proofs.lemmas.Option.{get_or_from_slice_get}
use Rattle.std.proofs.Math.Nat.{mul-le-mul_left, mul-le-mul_right, pow-suc, pow-zero}
use Rattle.mt_match_laws.proofs.Members.{Member, to_member, from_member}
use Rattle.mt_word_sketch_spec.specs.Frequencies.{Frequencies}
use Rattle.mt_word_sketch_spec.specs.Thesaurus.{Context, HasScore, Own, IsOwn, Shared, IsShared, likeness, difference, AddUp, IsScoreSum}
use Rattle.mt_thesaurus.specs.declared.placed.Placed.{Placed}
use Rattle.mt_thesaurus.specs.Scores.{Scores, IsPlaced, HasPlaced, AreScoresOf}
use Rattle.mt_thesaurus.specs.Sums.{of_group, like, score_sum, given, part_of, shares}
use Rattle.mt_thesaurus.proofs.Adding.{Covers, adds, product, from_product, in_product, once_product, sum_product, sum_same, sum_none}

pub sum_filter : {X : Type 0} (test : X → Bool) (h : X → ℕ) (xs : List X) → sum_by h (filter test xs) ≡ sum_by (λ x. if test x then h x else 0) xs
sum_filter test h [] = refl
sum_filter {X} test h (x ∷ xs) = by (test x) refl (sum_filter test h xs) ∙ sym (sum_by-cons (λ (y : X). if test y then h y else 0) x xs)
  where
    by : (t : Bool) → test x ≡ t → sum_by h (filter test xs) ≡ sum_by (λ (y : X). if test y then h y else 0) xs →
        sum_by h (if t then x ∷ filter test xs else filter test xs) ≡ (if test x then h x else 0) + sum_by (λ (y : X). if test y then h y else 0) xs
    by true e rest =
        let here : ◌≡◌ {A = ℕ} (if test x then h x else 0) (h x) = ap (λ (b : Bool). if b then h x else 0) e in
        omega (arith, here, rest, sum_by-cons h x (filter test xs))
    by false e rest =
        let here : ◌≡◌ {A = ℕ} (if test x then h x else 0) 0 = ap (λ (b : Bool). if b then h x else 0) e in
        omega (arith, here, rest)

pub equal : (a b : ℕ) → (a == b) ≡ true → a ≡ b
equal a b h = (Decides-eqb a b).0 h

pub tested : (a b : ℕ) → a ≡ b → (a == b) ≡ true
tested a b e = eq-eqb a b e

module _ (f : Frequencies) (scores : Scores) (are : AreScoresOf f scores) where
  abbrev placed : List Placed
  placed = scores.placed

  abbrev context_of : ℕ → Context
  context_of n = record { name = (get_or are.contexts n ([], [])).0; second = (get_or are.contexts n ([], [])).1 }

  context_at : (n : ℕ) (context : Context) → slice_get are.contexts n ≡ Some (context.name, context.second) → context_of n ≡ context
  context_at n context h = let e = get_or_from_slice_get are.contexts n (context.name, context.second) ([], []) h in λ i. record { name = (e i).0; second = (e i).1 }

  is_placed : (p : Placed) → Member p placed → IsPlaced f scores.words are.contexts p
  is_placed p m = are.only p (from_member placed p m)

  -- what stands in one context has its number
  same_member : (p q : Placed) → Member p placed → Member q placed → context_of p.member ≡ context_of q.member → p.member ≡ q.member
  same_member p q m n e =
      let a = is_placed p m in
      let b = is_placed q n in
      let same : a.context ≡ b.context = sym (context_at p.member a.context a.context_is) ∙ e ∙ context_at q.member b.context b.context_is in
      are.contexts_once (b.context.name, b.context.second) p.member q.member (a.context_is ∙ (λ i. Some ((same i).name, (same i).second))) b.context_is

  same_placed : (p q : Placed) → Member p placed → Member q placed → p.group ≡ q.group → p.member ≡ q.member → p ≡ q
  same_placed p q m n = are.one p q (from_member placed p m) (from_member placed q n)

  -- a word with this number has the score
  has_score : (p : Placed) (w : ℕ) (word : List ℕ) → Member p placed → p.group ≡ w → slice_get scores.words w ≡ Some word → HasScore f word (context_of p.member) p.score
  has_score p w word m e is =
      let a = is_placed p m in
      let there : Some a.word ≡ Some word = sym a.word_is ∙ ap (λ (n : ℕ). slice_get scores.words n) e ∙ is in
      let same : a.word ≡ word = cc in
      subst (λ (c : Context). HasScore f word c p.score) (sym (context_at p.member a.context a.context_is)) (subst (λ (v : List ℕ). HasScore f v a.context p.score) same a.has)

  -- ---- the scores of a word

  abbrev own_of : Placed → Own
  own_of p = record { context = context_of p.member; score = p.score }

  own_covers : (w : ℕ) (word : List ℕ) → slice_get scores.words w ≡ Some word → Covers (λ p. p.group == w) own_of (IsOwn f word) placed
  own_covers w word is = record {
    once = are.once;
    one = λ a b m n p q e. same_placed a b m n (equal a.group w p ∙ sym (equal b.group w q)) (same_member a b m n (ap (λ (o : Own). o.context) e));
    only = λ a m p. has_score a w word m (equal a.group w p) is;
    each = λ own h. found own (are.each word own.context own.score h);
  }
    where
      found : (own : Own) → HasPlaced scores are.contexts word own.context own.score → (a : Placed) × (Member a placed) × ((a.group == w) ≡ true) × (own_of a ≡ own)
      found own there =
          let a = there.placed in
          let context = context_at a.member own.context there.context_is in
          (a, to_member placed a there.there, tested a.group w (are.words_once word a.group w there.word_is is), λ i. record { context = context i; score = there.score_is i })

  pub own_sum : (w : ℕ) (word : List ℕ) → slice_get scores.words w ≡ Some word → IsScoreSum f word (score_sum placed w)
  own_sum w word is = adds (λ p. p.group == w) own_of (λ own. own.score) (IsOwn f word) placed (own_covers w word is)

  -- ---- what two words share

  abbrev shared_of : Placed × Placed → Shared
  shared_of q = record { context = context_of q.0.member; one_score = q.0.score; other_score = q.1.score }

  abbrev both_test : (l w : ℕ) → Placed × Placed → Bool
  both_test l w q = (q.0.group == l) && ((q.1.member == q.0.member) && (q.1.group == w))

  record Passes (l w : ℕ) (q : Placed × Placed) : Type 0 where
    pub first : q.0.group ≡ l
    pub context : q.1.member ≡ q.0.member
    pub other : q.1.group ≡ w

  passes : (l w : ℕ) (q : Placed × Placed) → both_test l w q ≡ true → Passes l w q
  passes l w q h =
      let front = and_parts (q.0.group == l) ((q.1.member == q.0.member) && (q.1.group == w)) h in
      let back = and_parts (q.1.member == q.0.member) (q.1.group == w) front.1 in
      record { first = equal q.0.group l front.0; context = equal q.1.member q.0.member back.0; other = equal q.1.group w back.1 }

  shared_covers : (l w : ℕ) (lemma word : List ℕ) → slice_get scores.words l ≡ Some lemma → slice_get scores.words w ≡ Some word → Covers (both_test l w) shared_of (IsShared f lemma word) (product placed placed)
  shared_covers l w lemma word is_lemma is_word = record {
    once = once_product placed placed are.once are.once;
    one = one;
    only = λ q m p.
        let there = from_product placed placed q m in
        let h = passes l w q p in
        record {
          by_one = has_score q.0 l lemma there.0 h.first is_lemma;
          by_other = subst (λ (n : ℕ). HasScore f word (context_of n) q.1.score) h.context (has_score q.1 w word there.1 h.other is_word);
        };
    each = λ shared h. found shared (are.each lemma shared.context shared.one_score h.by_one) (are.each word shared.context shared.other_score h.by_other);
  }
    where
      one : (a b : Placed × Placed) → Member a (product placed placed) → Member b (product placed placed) → both_test l w a ≡ true → both_test l w b ≡ true → shared_of a ≡ shared_of b → a ≡ b
      one a b m n p q e =
          let ma = from_product placed placed a m in
          let mb = from_product placed placed b n in
          let ha = passes l w a p in
          let hb = passes l w b q in
          let member = same_member a.0 b.0 ma.0 mb.0 (ap (λ (s : Shared). s.context) e) in
          let first : a.0 ≡ b.0 = same_placed a.0 b.0 ma.0 mb.0 (ha.first ∙ sym hb.first) member in
          let second : a.1 ≡ b.1 = same_placed a.1 b.1 ma.1 mb.1 (ha.other ∙ sym hb.other) (ha.context ∙ member ∙ sym hb.context) in
          λ i. (first i, second i)

      found : (shared : Shared) → HasPlaced scores are.contexts lemma shared.context shared.one_score → HasPlaced scores are.contexts word shared.context shared.other_score →
          (q : Placed × Placed) × (Member q (product placed placed)) × (both_test l w q ≡ true) × (shared_of q ≡ shared)
      found shared there other =
          let a = there.placed in
          let b = other.placed in
          let context = context_at a.member shared.context there.context_is in
          let first = tested a.group l (are.words_once lemma a.group l there.word_is is_lemma) in
          let second = tested b.member a.member (are.contexts_once (shared.context.name, shared.context.second) b.member a.member other.context_is there.context_is) in
          let third = tested b.group w (are.words_once word b.group w other.word_is is_word) in (
            (a, b),
            in_product placed placed a b (to_member placed a there.there) (to_member placed b other.there),
            and_from (a.group == l) ((b.member == a.member) && (b.group == w)) first (and_from (b.member == a.member) (b.group == w) second third),
            λ i. record { context = context i; one_score = there.score_is i; other_score = other.score_is i },
          )

  -- the parts that are added up by contexts
  part_is : (l w : ℕ) (by_context : List Placed) → ((score context word : ℕ) → given score (of_group context by_context) word ≡ shares score context placed word) →
      part_of (of_group l placed) by_context w ≡ sum_by (λ q. if both_test l w q then likeness (shared_of q) else 0) (product placed placed)
  part_is l w by_context same =
      sum_same (λ (p : Placed). given p.score (of_group p.member by_context) w) (λ (p : Placed). shares p.score p.member placed w) (of_group l placed) (λ p. same p.score p.member w) ∙
      sum_filter (λ (p : Placed). p.group == l) (λ (p : Placed). shares p.score p.member placed w) placed ∙
      sum_same (λ (p : Placed). if p.group == l then shares p.score p.member placed w else 0) (λ (p : Placed). sum_by (λ (q : Placed). if both_test l w (p, q) then like p.score q.score else 0) placed) placed (λ p. each p (p.group == l) refl) ∙
      sym (sum_product (λ (q : Placed × Placed). if both_test l w q then likeness (shared_of q) else 0) placed placed)
    where
      each : (p : Placed) (t : Bool) → (p.group == l) ≡ t → (if p.group == l then shares p.score p.member placed w else 0) ≡ sum_by (λ (q : Placed). if both_test l w (p, q) then like p.score q.score else 0) placed
      each p true e =
          let here : ◌≡◌ {A = ℕ} (if p.group == l then shares p.score p.member placed w else 0) (shares p.score p.member placed w) = ap (λ (b : Bool). if b then shares p.score p.member placed w else 0) e in
          let there = sum_same (λ (q : Placed). if (q.member == p.member) && (q.group == w) then like p.score q.score else 0) (λ (q : Placed). if both_test l w (p, q) then like p.score q.score else 0) placed
          (λ q. ap (λ (b : Bool). if b && ((q.member == p.member) && (q.group == w)) then like p.score q.score else 0) (sym e)) in
          here ∙ there
      each p false e =
          let here : ◌≡◌ {A = ℕ} (if p.group == l then shares p.score p.member placed w else 0) 0 = ap (λ (b : Bool). if b then shares p.score p.member placed w else 0) e in
          let there = sum_same (λ (q : Placed). 0) (λ (q : Placed). if both_test l w (p, q) then like p.score q.score else 0) placed
          (λ q. ap (λ (b : Bool). if b && ((q.member == p.member) && (q.group == w)) then like p.score q.score else 0) (sym e)) in
          here ∙ sym (sum_none placed) ∙ there

  pub shared_sum : (l w : ℕ) (lemma word : List ℕ) (by_context : List Placed) → slice_get scores.words l ≡ Some lemma → slice_get scores.words w ≡ Some word →
      ((score context word : ℕ) → given score (of_group context by_context) word ≡ shares score context placed word) → AddUp (IsShared f lemma word) likeness (part_of (of_group l placed) by_context w)
  shared_sum l w lemma word by_context is_lemma is_word same =
      subst (λ (n : ℕ). AddUp (IsShared f lemma word) likeness n) (sym (part_is l w by_context same)) (adds (both_test l w) shared_of likeness (IsShared f lemma word) (product placed placed) (shared_covers l w lemma word is_lemma is_word))

-- ---- what is shared counts

pub apart_within : (d s : ℕ) → d ≤ 255 → d ≤ s → d * d ≤ 255 * s
apart_within d s h l =
    let one : d * d ≤ 255 * d = mul-le-mul_right d h in
    let two : 255 * d ≤ 255 * s = mul-le-mul_left 255 l in
    omega (arith, one, two)

pub like_positive : (a b : ℕ) → 0 < a → a < 2 ^ 8 → b < 2 ^ 8 → 0 < like a b
like_positive a b some l m =
    let d = difference a b in
    let few : d ≤ 255 = omega (arith, l, m) in
    let less : d ≤ a + b = omega arith in
    let square : d ^ 2 ≡ d * d = square_is d in
    omega (arith, apart_within d (a + b) few less, square, some)
  where
    square_is : (d : ℕ) → d ^ 2 ≡ d * d
    square_is d = let once : 1 * d ≡ d = omega arith in pow-suc d 1 ∙ ap (λ (n : ℕ). n * d) (pow-suc d 0 ∙ ap (λ (n : ℕ). n * d) (pow-zero d) ∙ once)
