-- Scores by words and by contexts are the same scores.
use Rattle.std.proofs.Common.{◌≡◌, ℕ, ◌+◌, ◌*◌, ◌^◌, ◌<◌, ◌≤◌, ◌==◌, ◌&&◌, inl, inr, Bool, true, false, if◌then◌else◌, Some, pos, List, [], ◌∷◌, length, map, get_or, slice_get, refl, sym, ◌∙◌, ap, subst, arith, IsPermutation}
use Rattle.std.specs.List.{All, AllByRecursion, Contains, IsDistinct}
use Rattle.std.proofs.lemmas.Bool.{and_parts, and_from}
use Rattle.std.proofs.lemmas.List.Elements.{Contains-get_or, recursion_from_All, All-from_recursion}
use Rattle.std.proofs.lemmas.List.Sorted.{All-permutation, Contains-permutation, sum_by-IsPermutation, IsPermutation-sym}
use Rattle.std.proofs.lemmas.Map.Keys.{IsDistinct-IsPermutation}
use Rattle.std.proofs.lemmas.Option.{slice_get_within, get_or_from_slice_get, slice_get-get_or}
use Rattle.mt_match_laws.proofs.Members.{Member, to_member, from_member}
use Rattle.mt_count_spec.specs.Counts.{EachOnce}
use Rattle.mt_sketch_spec.specs.Score.{IsScore}
use Rattle.mt_counts.specs.Counted.{Counted, f, f_first, f_second}
use Rattle.mt_counts.specs.Numbered.{Numbering, IsNumberingOf}
use Rattle.mt_word_sketch_spec.specs.Sketches.{apart}
use Rattle.mt_word_sketch_spec.specs.Thesaurus.{Context, HasScore}
use Rattle.mt_sketch.specs.Told.{AreWithin, frequencies_of}
use Rattle.mt_thesaurus.specs.declared.placed.Placed.{Placed}
use Rattle.mt_thesaurus.specs.Scores.{IsPlaced, HasPlaced, AreScoresOf}
use Rattle.mt_thesaurus.specs.Sums.{turned, of_group, like, score_sum, given, shares, AreJoined}
use Rattle.mt_thesaurus.specs.Building.{HasNumber, IsWithin, AreScored}
use Rattle.mt_thesaurus.proofs.Adding.{sum_map, sum_same}
use Rattle.mt_thesaurus.proofs.Summing.{equal, tested, sum_filter}

-- ---- by contexts

both_tests : (s t : Bool) (n : ℕ) → (if s then (if t then n else 0) else 0) ≡ (if s && t then n else 0)
both_tests true t n = refl
both_tests false t n = refl

same_shares : (placed by_word by_context : List Placed) → IsPermutation placed by_word → IsPermutation (map turned placed) by_context → (score context word : ℕ) → given score (of_group context by_context) word ≡ shares score context by_word word
same_shares placed by_word by_context words contexts score context word =
    let g : Placed → ℕ = λ p. if p.member == word then like score p.score else 0 in
    let h : Placed → ℕ = λ p. if p.group == context then g p else 0 in
    let k : Placed → ℕ = λ p. if (p.member == context) && (p.group == word) then like score p.score else 0 in
    sum_filter (λ (p : Placed). p.group == context) g by_context ∙ sum_by-IsPermutation h (map turned placed) by_context contexts ∙ sum_map turned h placed ∙
    sum_same (λ (p : Placed). h (turned p)) k placed (λ p. both_tests (p.member == context) (p.group == word) (like score p.score)) ∙ sym (sum_by-IsPermutation k placed by_word words)

turned_below : (n : ℕ) (placed : List Placed) → AllByRecursion (λ p. p.group < n) placed → AllByRecursion (λ p. p.member < n) (map turned placed)
turned_below n [] h = tt
turned_below n (p ∷ ps) h = (h.0, turned_below n ps h.1)

pub joined : (words : List (List ℕ)) (placed by_word by_context turns : List Placed) (sums : List ℕ) (n : ℕ) → length words < 2 ^ 32 → turns ≡ map turned placed → IsPermutation placed by_word → IsPermutation turns by_context → n ≡ length words →
    All (λ p. p.group < n) placed → length sums ≡ n → ((word : ℕ) → get_or sums word 0 ≡ score_sum placed word) → AreJoined words by_word by_context sums
joined words placed by_word by_context turns sums n few turns_are by_words by_contexts even below count sums_are =
    let contexts : IsPermutation (map turned placed) by_context = subst (λ (ts : List Placed). IsPermutation ts by_context) turns_are by_contexts in
    let low : All (λ (p : Placed). p.member < n) (map turned placed) = All-from_recursion (λ (p : Placed). p.member < n) (map turned placed) (turned_below n placed (recursion_from_All (λ (p : Placed). p.group < n) placed below)) in
    record {
      few = few;
      below = subst (λ (m : ℕ). All (λ (p : Placed). p.member < m) by_context) even (All-permutation (λ (p : Placed). p.member < n) (map turned placed) by_context contexts low);
      same = same_shares placed by_word by_context by_words contexts;
      count = count ∙ even;
      sums_are = λ word l. sums_are word ∙ sym (sum_by-IsPermutation (λ (p : Placed). if p.group == word then p.score else 0) placed by_word by_words);
    }

-- ---- each once

key_eq : Placed → Placed → Bool
key_eq p q = (p.group == q.group) && (p.member == q.member)

apart_keys : (p : Placed) (ps : List Placed) → ((q : Placed) → Member q ps → p.group ≡ q.group → p.member ≡ q.member → ⊥) → AllByRecursion (λ q. key_eq p q ≡ false) ps
unfolding key_eq
apart_keys p [] apart = tt
apart_keys p (q ∷ ps) apart = (by ((p.group == q.group) && (p.member == q.member)) refl, apart_keys p ps (λ r m. apart r (inr m)))
  where
    by : (b : Bool) → ((p.group == q.group) && (p.member == q.member)) ≡ b → b ≡ false
    by true e = let parts = and_parts (p.group == q.group) (p.member == q.member) e in absurd (apart q (inl refl) (equal p.group q.group parts.0) (equal p.member q.member parts.1))
    by false e = refl

distinct_keys : (ps : List Placed) → ((p q : Placed) → Member p ps → Member q ps → p.group ≡ q.group → p.member ≡ q.member → p ≡ q) → EachOnce ps → IsDistinct key_eq ps
unfolding IsDistinct key_eq
distinct_keys [] one once = tt
distinct_keys (p ∷ ps) one once = (
  apart_keys p ps (λ q m g h. once.0 (from_member ps p (subst (λ (r : Placed). Member r ps) (sym (one p q (inl refl) (inr m) g h)) m))),
  distinct_keys ps (λ a b m n. one a b (inr m) (inr n)) once.1,
)

there_apart : (p q : Placed) (ps : List Placed) → AllByRecursion (λ r. key_eq p r ≡ false) ps → Member q ps → key_eq p q ≡ false
there_apart p q [] h m = absurd m
there_apart p q (r ∷ ps) h (inl e) = subst (λ (s : Placed). key_eq p s ≡ false) (sym e) h.0
there_apart p q (r ∷ ps) h (inr m) = there_apart p q ps h.1 m

own_key : (p : Placed) → key_eq p p ≡ true
unfolding key_eq
own_key p = and_from (p.group == p.group) (p.member == p.member) (tested p.group p.group refl) (tested p.member p.member refl)

once_keys : (ps : List Placed) → IsDistinct key_eq ps → EachOnce ps
unfolding IsDistinct
once_keys [] h = tt
once_keys (p ∷ ps) h = (λ c. let wrong : ◌≡◌ {A = Bool} true false = sym (own_key p) ∙ there_apart p p ps h.0 (to_member ps p c) in let not : ⊥ = cc in not, once_keys ps h.1)

flip_test : (a b : ℕ) → (a == b) ≡ (b == a)
flip_test a b = by (a == b) (b == a) refl refl
  where
    by : (s t : Bool) → (a == b) ≡ s → (b == a) ≡ t → s ≡ t
    by true true e h = refl
    by false false e h = refl
    by true false e h = sym (tested b a (sym (equal a b e))) ∙ h
    by false true e h = sym e ∙ tested a b (sym (equal b a h))

key_flips : (p q : Placed) → key_eq p q ≡ key_eq q p
unfolding key_eq
key_flips p q = λ i. (flip_test p.group q.group i) && (flip_test p.member q.member i)

-- ---- what is found in counts

pub entries_within : (counted : Counted) (numbering : Numbering) → AreWithin counted → IsNumberingOf counted numbering → All IsWithin numbering.entries
entries_within counted numbering within is = λ k d l.
    let entry = get_or numbering.entries k d in
    let told = is.told entry (Contains-get_or numbering.entries k d l) in
    let h = within told.name told.word told.second in
    let first : f counted told.name told.word told.second ≤ f_first counted told.name told.word = h.first in
    let second : f counted told.name told.word told.second ≤ f_second counted told.name told.second = h.second in
    record { left = omega (arith, told.both_is, told.left_is, first); right = omega (arith, told.both_is, told.right_is, second) }

some_same : {A : Type 0} (a b : A) → Some a ≡ Some b → a ≡ b
some_same a b e = cc

at_contains : {A : Type 0} (xs : List A) (k : ℕ) (x : A) → slice_get xs k ≡ Some x → Contains xs x
at_contains xs k x h = (k, slice_get_within xs k x h, get_or_from_slice_get xs k x x h)

contains_at : {A : Type 0} (xs : List A) (x : A) (h : Contains xs x) → slice_get xs h.0 ≡ Some x
contains_at xs x h = slice_get-get_or xs h.0 x h.1 ∙ ap Some h.2

pub placed_below : (counted : Counted) (numbering : Numbering) (n m : ℕ) (placed list : List Placed) → IsNumberingOf counted numbering → AreScored numbering.entries n placed → list ≡ placed → m ≡ length numbering.words → All (λ p. p.group < m) list
placed_below counted numbering n m placed list is scored same even = subst (λ (ps : List Placed). All (λ (p : Placed). p.group < m) ps) (sym same) (λ k d l.
    let p = get_or placed k d in
    let from = scored.only p (Contains-get_or placed k d l) in
    let told = is.told from.entry (at_contains numbering.entries from.place from.entry from.there) in
    let low : from.entry.word < length numbering.words = slice_get_within numbering.words from.entry.word told.word told.word_is in
    omega (arith, low, from.is.word, even))

module _ (counted : Counted) (numbering : Numbering) (within : AreWithin counted) (is : IsNumberingOf counted numbering) (n : ℕ) (all : n ≡ length numbering.entries) (placed : List Placed) (scored : AreScored numbering.entries n placed) where
  is_placed : (p : Placed) → Contains placed p → IsPlaced (frequencies_of counted) numbering.words numbering.contexts p
  is_placed p c =
      let from = scored.only p c in
      let entry = from.entry in
      let told = is.told entry (at_contains numbering.entries from.place entry from.there) in
      let h = within told.name told.word told.second in
      let second : f counted told.name told.word told.second ≤ f_second counted told.name told.second = h.second in
      let some = from.is.score.some in
      let context : Context = record { name = told.name; second = told.second } in
      let both : entry.both ≡ f counted told.name told.word told.second = told.both_is in
      let sum : entry.left + entry.right ≡ f_first counted told.name told.word + f_second counted told.name told.second = omega (arith, told.left_is, told.right_is) in
      record {
        word = told.word;
        context = context;
        word_is = ap (slice_get numbering.words) from.is.word ∙ told.word_is;
        context_is = ap (slice_get numbering.contexts) from.is.context ∙ told.context_is (omega (arith, some, both, second, told.right_is));
        has = record {
          some = omega (arith, some, both);
          scored = subst (λ (m : ℕ). IsScore (2 * f counted told.name told.word told.second) m (pos p.score)) sum (subst (λ (m : ℕ). IsScore (2 * m) (entry.left + entry.right) (pos p.score)) both from.is.score.scored);
          positive = from.is.score.positive;
        };
        small = from.is.small;
      }

  has_placed : (word : List ℕ) (context : Context) (score : ℕ) → HasScore (frequencies_of counted) word context score → HasPlaced (record { words = numbering.words; placed = placed }) numbering.contexts word context score
  has_placed word context score h =
      let w = within context.name word context.second in
      let second : f counted context.name word context.second ≤ f_second counted context.name context.second = w.second in
      let some : 0 < f counted context.name word context.second = h.some in
      let there = is.each context.name word context.second some (omega (arith, some, second)) in
      let entry = there.entry in
      let told = is.told entry there.there in
      let same_word : Some told.word ≡ Some word = sym told.word_is ∙ there.word_is in
      let word_is : told.word ≡ word = some_same told.word word same_word in
      let contexts : Some (told.name, told.second) ≡ Some (context.name, context.second) = sym (told.context_is there.some) ∙ there.context_is in
      let pair : ◌≡◌ {A = List ℕ × List ℕ} (told.name, told.second) (context.name, context.second) = some_same {A = List ℕ × List ℕ} (told.name, told.second) (context.name, context.second) contexts in
      let both : entry.both ≡ f counted context.name word context.second = told.both_is ∙ (λ i. f counted (pair i).0 (word_is i) (pair i).1) in
      let left : entry.left ≡ f_first counted context.name word = told.left_is ∙ (λ i. f_first counted (pair i).0 (word_is i)) in
      let right : entry.right ≡ f_second counted context.name context.second = told.right_is ∙ (λ i. f_second counted (pair i).0 (pair i).1) in
      let sum : entry.left + entry.right ≡ f_first counted context.name word + f_second counted context.name context.second = omega (arith, left, right) in
      let number : HasNumber entry score = record {
        some = omega (arith, some, both);
        scored = subst (λ (m : ℕ). IsScore (2 * entry.both) m (pos score)) (sym sum) (subst (λ (m : ℕ). IsScore (2 * m) (f_first counted context.name word + f_second counted context.name context.second) (pos score)) (sym both) h.scored);
        positive = h.positive;
      } in
      let among = scored.each there.there.0 entry score (omega (arith, all, there.there.1)) (contains_at numbering.entries entry there.there) number in
      record {
        placed = among.item;
        there = among.there;
        word_is = ap (slice_get numbering.words) among.word ∙ there.word_is;
        context_is = ap (slice_get numbering.contexts) among.context ∙ there.context_is;
        score_is = among.score_is;
      }

  pub scores_told : (words : List (List ℕ)) (by_word : List Placed) → words ≡ numbering.words → IsPermutation placed by_word → AreScoresOf (frequencies_of counted) (record { words = words; placed = by_word })
  scores_told words by_word same moved =
      let back = IsPermutation-sym placed by_word moved in
      let distinct = distinct_keys placed (λ p q m k. scored.one p q (from_member placed p m) (from_member placed q k)) scored.once in
      subst (λ (ws : List (List ℕ)). AreScoresOf (frequencies_of counted) (record { words = ws; placed = by_word })) (sym same) (record {
        contexts = numbering.contexts;
        words_once = is.words_once;
        contexts_once = is.contexts_once;
        once = once_keys by_word (IsDistinct-IsPermutation key_eq key_flips placed by_word moved distinct);
        one = λ p q c d. scored.one p q (Contains-permutation by_word placed p back c) (Contains-permutation by_word placed q back d);
        only = λ p c. is_placed p (Contains-permutation by_word placed p back c);
        each = λ word context score h.
            let there = has_placed word context score h in
            record { placed = there.placed; there = Contains-permutation placed by_word there.placed moved there.there; word_is = there.word_is; context_is = there.context_is; score_is = there.score_is };
      })
