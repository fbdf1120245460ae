-- Pairs are ranked by their fractions, and those that are shown are the first.
use Rattle.std.proofs.Common.{◌≡◌, ◌≢◌, ℕ, ◌+◌, ◌-◌, ◌*◌, ◌^◌, ◌<◌, ◌≤◌, ◌⊎◌, inl, inr, Bool, true, false, List, [], ◌∷◌, ◌++◌, append-nil, append_assoc, map, nat_le, refl, sym, ◌∙◌, ap, ap₂, subst, arith, if◌then◌else◌, true≢false}
use Rattle.std.specs.List.{All, AllByRecursion, Contains, IsDistinct}
use Rattle.std.specs.Str.{bytes_eq}
use Rattle.std.specs.Cmp.Lexicographic.{bytes_decides}
use Rattle.std.proofs.lemmas.Bool.{leb-true, le-leb}
use Rattle.std.proofs.lemmas.List.{take-map}
use Rattle.mt_match_laws.proofs.Members.{Member, to_member, from_member}
use Rattle.mt_counts.specs.Tallies.{ListsOnce}
use Rattle.mt_counts.specs.Counted.{Counted, f, f_first, f_second}
use Rattle.mt_counts.specs.declared.pairs.Pair.{Pair}
use Rattle.mt_counts.specs.Listed.{IsPair}
use Rattle.mt_word_sketch_spec.specs.Ranks.{Ranked, rank_cmp, FirstRanked}
use Rattle.mt_word_sketch_spec.specs.Order.{Weighed, ranked_of, weighed_cmp}
use Rattle.mt_word_sketch_spec.specs.Frequencies.{Frequencies}
use Rattle.mt_word_sketch_spec.specs.Sketches.{IsCollocate, collocate_rank}
use Rattle.mt_word_sketch_laws.proofs.Lists.{in_map, from_map, in_first, ascends_alike, ascends_mapped}
use Rattle.mt_ranks.specs.Bests.{AreDistinct}
use Rattle.mt_sketch.specs.Told.{AreWithin, frequencies_of, weighed_of, candidates_of, IsSmall, IsCandidate, AreCandidates, AreShown}
use Rattle.mt_sketch.proofs.Distinct.{distinct_from}

-- ---- one pair more

pub candidates_more : (left least : ℕ) (pairs : List Pair) (pair : Pair) → candidates_of left least (pairs ++ pair ∷ []) ≡ candidates_of left least pairs ++ candidates_of left least (pair ∷ [])
candidates_more left least [] pair = refl
candidates_more left least (p ∷ pairs) pair = by (nat_le least p.both) (candidates_more left least pairs pair)
  where
    by : (b : Bool) → candidates_of left least (pairs ++ pair ∷ []) ≡ candidates_of left least pairs ++ candidates_of left least (pair ∷ []) →
        (if b then weighed_of left p ∷ candidates_of left least (pairs ++ pair ∷ []) else candidates_of left least (pairs ++ pair ∷ [])) ≡ (if b then weighed_of left p ∷ candidates_of left least pairs else candidates_of left least pairs) ++ candidates_of left least (pair ∷ [])
    by true e = ap (λ (ws : List Weighed). weighed_of left p ∷ ws) e
    by false e = e

one_taken : (left least : ℕ) (pair : Pair) → least ≤ pair.both → candidates_of left least (pair ∷ []) ≡ weighed_of left pair ∷ []
one_taken left least pair l = ap (λ (b : Bool). if b then weighed_of left pair ∷ [] else []) (le-leb least pair.both l)

one_passed : (left least : ℕ) (pair : Pair) → pair.both < least → candidates_of left least (pair ∷ []) ≡ []
one_passed left least pair l = by (nat_le least pair.both) refl
  where
    by : (b : Bool) → nat_le least pair.both ≡ b → (if b then weighed_of left pair ∷ [] else []) ≡ []
    by true e = let wrong = leb-true least pair.both e in absurd (omega (arith, wrong, l))
    by false e = refl

pub weighed_is : (w : Weighed) (pair : Pair) (left part whole : ℕ) → ranked_of w ≡ record { word = pair.word; part = part; whole = whole } → part ≡ 2 * pair.both → whole ≡ left + pair.right → w ≡ weighed_of left pair
weighed_is w pair left part whole e part_is whole_is =
    let word : w.word ≡ pair.word = ap (λ (r : Ranked). r.word) e in
    let parts : w.part ≡ 2 * pair.both = ap (λ (r : Ranked). r.part) e ∙ part_is in
    let wholes : w.less_one + 1 ≡ left + pair.right = ap (λ (r : Ranked). r.whole) e ∙ whole_is in
    let less : w.less_one ≡ left + pair.right - 1 = omega (arith, wholes) in
    λ i. record { word = word i; part = parts i; less_one = less i }

pub taken : (left least : ℕ) (pairs : List Pair) (pair : Pair) (old new : List Weighed) (w : Weighed) → old ≡ candidates_of left least pairs → least ≤ pair.both → w ≡ weighed_of left pair → new ≡ old ++ w ∷ [] →
    new ≡ candidates_of left least (pairs ++ pair ∷ [])
taken left least pairs pair old new w so_far enough e is =
    is ∙ ap₂ (λ (ws : List Weighed) (v : Weighed). ws ++ v ∷ []) so_far e
    ∙ ap (λ (ws : List Weighed). candidates_of left least pairs ++ ws) (sym (one_taken left least pair enough)) ∙ sym (candidates_more left least pairs pair)

pub seen_more : {X : Type 0} (seen : List X) (x : X) (left rest all : List X) → left ≡ x ∷ rest → seen ++ left ≡ all → seen ++ x ∷ [] ++ rest ≡ all
seen_more {X} seen x left rest all step so_far = append_assoc seen (x ∷ []) rest ∙ ap (λ (xs : List X). seen ++ xs) (sym step) ∙ so_far

pub passed : (left least : ℕ) (pairs : List Pair) (pair : Pair) (old : List Weighed) → old ≡ candidates_of left least pairs → pair.both < least → old ≡ candidates_of left least (pairs ++ pair ∷ [])
passed left least pairs pair old so_far few =
    so_far ∙ sym (append-nil (candidates_of left least pairs)) ∙ ap (λ (ws : List Weighed). candidates_of left least pairs ++ ws) (sym (one_passed left least pair few)) ∙ sym (candidates_more left least pairs pair)

pub small_weighed : (w : Weighed) (word : List ℕ) (part whole : ℕ) → ranked_of w ≡ record { word = word; part = part; whole = whole } → part < 2 ^ 65 → whole < 2 ^ 65 → IsSmall w
small_weighed w word part whole e p q =
    let parts : w.part ≡ part = ap (λ (r : Ranked). r.part) e in
    let wholes : w.less_one + 1 ≡ whole = ap (λ (r : Ranked). r.whole) e in
    record { part = omega (arith, parts, p); whole = omega (arith, wholes, q) }

-- ---- all pairs

pub record IsTaken (left least : ℕ) (pairs : List Pair) (w : Weighed) : Type 0 where
  pub pair : Pair
  pub member : Member pair pairs
  pub enough : least ≤ pair.both
  pub is : w ≡ weighed_of left pair

later_taken : (left least : ℕ) (p : Pair) (pairs : List Pair) (w : Weighed) → IsTaken left least pairs w → IsTaken left least (p ∷ pairs) w
later_taken left least p pairs w t = record { pair = t.pair; member = inr t.member; enough = t.enough; is = t.is }

from_candidates : (left least : ℕ) (pairs : List Pair) (w : Weighed) → Member w (candidates_of left least pairs) → IsTaken left least pairs w
from_candidates left least [] w m = absurd m
from_candidates left least (p ∷ pairs) w m = by (nat_le least p.both) refl m (from_candidates left least pairs w)
  where
    by : (b : Bool) → nat_le least p.both ≡ b → Member w (if b then weighed_of left p ∷ candidates_of left least pairs else candidates_of left least pairs) → (Member w (candidates_of left least pairs) → IsTaken left least pairs w) → IsTaken left least (p ∷ pairs) w
    by true e (inl is) rest = record { pair = p; member = inl refl; enough = leb-true least p.both e; is = is }
    by true e (inr m) rest = later_taken left least p pairs w (rest m)
    by false e m rest = later_taken left least p pairs w (rest m)

in_candidates : (left least : ℕ) (pairs : List Pair) (pair : Pair) → Member pair pairs → least ≤ pair.both → Member (weighed_of left pair) (candidates_of left least pairs)
in_candidates left least [] pair m enough = absurd m
in_candidates left least (p ∷ pairs) pair m enough = by (nat_le least p.both) refl m (λ n. in_candidates left least pairs pair n enough)
  where
    by : (b : Bool) → nat_le least p.both ≡ b → (pair ≡ p) ⊎ Member pair pairs → (Member pair pairs → Member (weighed_of left pair) (candidates_of left least pairs)) →
        Member (weighed_of left pair) (if b then weighed_of left p ∷ candidates_of left least pairs else candidates_of left least pairs)
    by true e (inl is) rest = inl (ap (weighed_of left) is)
    by true e (inr n) rest = inr (rest n)
    by false e (inl is) rest = absurd (true≢false (sym (le-leb least p.both (subst (λ (q : Pair). least ≤ q.both) is enough)) ∙ e))
    by false e (inr n) rest = rest n

all_apart : (left least : ℕ) (x : List ℕ) (pairs : List Pair) → AllByRecursion (λ p. bytes_eq x p.word ≡ false) pairs → AllByRecursion (λ (w : Weighed). bytes_eq x w.word ≡ false) (candidates_of left least pairs)
all_apart left least x [] h = tt
all_apart left least x (p ∷ pairs) h = by (nat_le least p.both) (all_apart left least x pairs h.1)
  where
    by : (b : Bool) → AllByRecursion (λ (w : Weighed). bytes_eq x w.word ≡ false) (candidates_of left least pairs) →
        AllByRecursion (λ (w : Weighed). bytes_eq x w.word ≡ false) (if b then weighed_of left p ∷ candidates_of left least pairs else candidates_of left least pairs)
    by true rest = (h.0, rest)
    by false rest = rest

distinct_candidates : (left least : ℕ) (pairs : List Pair) → IsDistinct (λ (p q : Pair). bytes_eq p.word q.word) pairs → AreDistinct (candidates_of left least pairs)
unfolding IsDistinct
distinct_candidates left least [] h = tt
distinct_candidates left least (p ∷ pairs) h = by (nat_le least p.both) (all_apart left least p.word pairs h.0) (distinct_candidates left least pairs h.1)
  where
    by : (b : Bool) → AllByRecursion (λ (w : Weighed). bytes_eq p.word w.word ≡ false) (candidates_of left least pairs) → AreDistinct (candidates_of left least pairs) →
        AreDistinct (if b then weighed_of left p ∷ candidates_of left least pairs else candidates_of left least pairs)
    by true above rest = (above, rest)
    by false above rest = rest

module _ (counted : Counted) (within : AreWithin counted) (name lemma : List ℕ) (left least : ℕ) (left_is : left ≡ f_first counted name lemma) (some_left : 0 < left) where
  same_pair : (p q : Pair) → IsPair counted name lemma p → IsPair counted name lemma q → p.word ≡ q.word → p ≡ q
  same_pair p q h k e =
      let both : p.both ≡ q.both = h.both_is ∙ ap (f counted name lemma) e ∙ sym k.both_is in
      let right : p.right ≡ q.right = h.right_is ∙ ap (f_second counted name) e ∙ sym k.right_is in
      λ i. record { word = e i; both = both i; right = right i }

  apart : (p q : Pair) → IsPair counted name lemma p → IsPair counted name lemma q → p ≢ q → bytes_eq p.word q.word ≡ false
  apart p q h k differ = by (bytes_eq p.word q.word) refl
    where
      by : (b : Bool) → bytes_eq p.word q.word ≡ b → b ≡ false
      by true e = absurd (differ (same_pair p q h k ((bytes_decides p.word q.word).0 e)))
      by false e = refl

  pub candidates_told : (pairs : List Pair) (words : List Weighed) → ListsOnce (IsPair counted name lemma) pairs → words ≡ candidates_of left least pairs → All IsSmall words → AreCandidates (frequencies_of counted) name lemma least words
  candidates_told pairs words all is small =
      let distinct = distinct_candidates left least pairs (distinct_from (λ (p q : Pair). bytes_eq p.word q.word) (IsPair counted name lemma) apart pairs (λ pair m. all.only pair (from_member pairs pair m)) all.once) in
      record {
        distinct = subst AreDistinct (sym is) distinct;
        only = λ w h.
            let t = from_candidates left least pairs w (subst (λ (ws : List Weighed). Member w ws) is (to_member words w h)) in
            let in_texts = all.only t.pair (from_member pairs t.pair t.member) in
            candidate w t.pair t.is t.enough in_texts (is_small words w small h);
        each = λ word h.
            let pair : Pair = record { word = word; both = f counted name lemma word; right = f_second counted name word } in
            let there = to_member pairs pair (all.each pair (record { some = h.some; both_is = refl; right_is = refl })) in
            let member = in_candidates left least pairs pair there h.enough in
            from_member (map (λ (w : Weighed). w.word) words) word (in_map (λ (w : Weighed). w.word) words (weighed_of left pair) (subst (λ (ws : List Weighed). Member (weighed_of left pair) ws) (sym is) member));
      }
    where
      is_small : (ws : List Weighed) (w : Weighed) → All IsSmall ws → Contains ws w → IsSmall w
      is_small ws w h (k, l, e) = subst IsSmall e (h k w l)

      candidate : (w : Weighed) (pair : Pair) → w ≡ weighed_of left pair → least ≤ pair.both → IsPair counted name lemma pair → IsSmall w → IsCandidate (frequencies_of counted) name lemma least w
      candidate w pair is enough h small =
          let word : w.word ≡ pair.word = ap (λ (v : Weighed). v.word) is in
          let part : w.part ≡ 2 * pair.both = ap (λ (v : Weighed). v.part) is in
          let less : w.less_one ≡ left + pair.right - 1 = ap (λ (v : Weighed). v.less_one) is in
          let both : pair.both ≡ f counted name lemma w.word = h.both_is ∙ ap (f counted name lemma) (sym word) in
          let right : pair.right ≡ f_second counted name w.word = h.right_is ∙ ap (f_second counted name) (sym word) in
          let parts : w.part ≡ 2 * f counted name lemma w.word = omega (arith, part, both) in
          let wholes : w.less_one + 1 ≡ f_first counted name lemma + f_second counted name w.word = omega (arith, less, right, left_is, some_left) in
          let bounds = within name lemma w.word in
          let first : f counted name lemma w.word ≤ f_first counted name lemma = bounds.first in
          let second : f counted name lemma w.word ≤ f_second counted name w.word = bounds.second in
          let some = h.some in
          record {
            ranked = λ i. record { word = w.word; part = parts i; whole = wholes i };
            is = record { some = omega (arith, some, both); enough = omega (arith, enough, both) };
            within = omega (arith, parts, wholes, first, second, some, both);
            small = small;
          }

-- ---- the first of them

pub shown_told : (fs : Frequencies) (name lemma : List ℕ) (least max : ℕ) (words top : List Weighed) → AreCandidates fs name lemma least words → FirstRanked ranked_of (Contains words) max top → AreShown fs name lemma least max top
shown_told fs name lemma least max words top all first =
    let among : (w : Weighed) → Member w first.all → IsCandidate fs name lemma least w = λ w m. all.only w (first.are.only w (from_member first.all w m)) in
    let alike : (a b : Weighed) → Member a first.all → Member b first.all → weighed_cmp a b ≡ rank_cmp (collocate_rank fs name lemma a.word) (collocate_rank fs name lemma b.word) = λ a b m n i. rank_cmp ((among a m).ranked i) ((among b n).ranked i) in
    record {
      first = record {
        all = map (λ w. w.word) first.all;
        are = record {
          ascending = ascends_mapped (λ (w : Weighed). w.word) (λ one other. rank_cmp (collocate_rank fs name lemma one) (collocate_rank fs name lemma other)) first.all
              (ascends_alike weighed_cmp (λ a b. rank_cmp (collocate_rank fs name lemma a.word) (collocate_rank fs name lemma b.word)) first.all alike first.are.ascending);
          only = λ word h.
              let from = from_map (λ (w : Weighed). w.word) first.all word (to_member (map (λ (w : Weighed). w.word) first.all) word h) in
              subst (IsCollocate fs name lemma least) (sym from.is) (among from.from from.member).is;
          each = λ word h.
              let from = from_map (λ (w : Weighed). w.word) words word (to_member (map (λ (w : Weighed). w.word) words) word (all.each word h)) in
              let there = to_member first.all from.from (first.are.each from.from (from_member words from.from from.member)) in
              from_member (map (λ (w : Weighed). w.word) first.all) word (subst (λ (v : List ℕ). Member v (map (λ (w : Weighed). w.word) first.all)) (sym from.is) (in_map (λ (w : Weighed). w.word) first.all from.from there));
        };
        first = ap (λ (ws : List Weighed). map (λ (w : Weighed). w.word) ws) first.first ∙ sym (take-map (λ (w : Weighed). w.word) max first.all);
      };
      only = λ w h. among w (in_first max first.all w (subst (λ (ws : List Weighed). Member w ws) first.first (to_member top w h)));
    }
