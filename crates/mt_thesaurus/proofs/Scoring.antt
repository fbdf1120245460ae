-- Words and entries, one after another.
use Rattle.std.proofs.Common.{◌≡◌, ℕ, ◌+◌, ◌*◌, ◌<◌, ◌≤◌, ◌⊎◌, inl, inr, Bool, true, false, if◌then◌else◌, ◌||◌, Some, pos, ℤ, ◌≤ℤ◌, List, [], ◌∷◌, ◌++◌, length, take, get_or, slice_get, nat_eq, refl, sym, ◌∙◌, ap, subst, arith}
use Rattle.std.specs.List.{All, Contains, list_any}
use Rattle.std.specs.Cmp.Lexicographic.{pointwise, bytes_decides}
use Rattle.std.proofs.lemmas.Bool.{cases_lt}
use Rattle.std.proofs.lemmas.Int.{ints}
use Rattle.std.proofs.lemmas.List.{take_more, get_or-take, length-take}
use Rattle.std.proofs.lemmas.List.Elements.{Contains-append_left, Contains-push, Contains-push_cases}
use Rattle.std.proofs.lemmas.Option.{slice_get_within, get_or_from_slice_get, slice_get-get_or}
use Rattle.indexmap.specs.IndexSet.{insert_key}
use Rattle.mt_match_laws.proofs.Members.{Member, from_member}
use Rattle.mt_sketch_spec.specs.Score.{IsScore, ScoreIsUnique}
use Rattle.mt_counts.specs.Names.{AreDistinct}
use Rattle.mt_counts.specs.declared.numbered.Entry.{Entry}
use Rattle.mt_thesaurus.specs.declared.placed.Placed.{Placed}
use Rattle.mt_thesaurus.specs.Building.{HasNumber, IsOfEntry, IsWithin, AreApart, IsFrom, IsAmong, AreScored}
use Rattle.mt_thesaurus.proofs.Adding.{each_once_append}

-- ---- words

none_any : {X : Type 0} (test : X → Bool) (xs : List X) → ((x : X) → Member x xs → test x ≡ false) → list_any test xs ≡ false
none_any test [] none = refl
none_any {X} test (x ∷ xs) none = ap (λ (b : Bool). b || list_any test xs) (none x (inl refl)) ∙ none_any test xs (λ y m. none y (inr m))

pub word_more : (words keys more : List (List ℕ)) (n : ℕ) (word value : List ℕ) → AreDistinct words → keys ≡ take n words → slice_get words n ≡ Some word → value ≡ word → more ≡ insert_key (pointwise nat_eq) keys value → more ≡ take (n + 1) words
word_more words keys more n word value once before there same is =
    is ∙ ap (λ (b : Bool). if b then keys else keys ++ value ∷ []) fresh ∙ (λ i. before i ++ same i ∷ []) ∙ ap (λ (w : List ℕ). take n words ++ w ∷ []) (sym (get_or_from_slice_get words n word word there)) ∙ sym (take_more words n word low)
  where
    low : n < length words
    low = slice_get_within words n word there

    differs : (x : List ℕ) → Member x (take n words) → pointwise nat_eq value x ≡ false
    differs x m = by (pointwise nat_eq value x) refl
      where
        by : (b : Bool) → pointwise nat_eq value x ≡ b → b ≡ false
        by true e =
            let c = from_member (take n words) x m in
            let early : c.0 < n = omega (arith, c.1, length-take {A = List ℕ} n words) in
            let at : get_or words c.0 x ≡ x = sym (get_or-take n words c.0 x early) ∙ c.2 in
            let equal : word ≡ x = sym same ∙ (bytes_decides value x).0 e in
            let here : slice_get words c.0 ≡ Some word = slice_get-get_or words c.0 x (omega (arith, early, low)) ∙ ap Some (at ∙ sym equal) in
            let place : c.0 ≡ n = once word c.0 n here there in
            absurd (omega (arith, early, place))
        by false e = refl

    fresh : list_any (pointwise nat_eq value) keys ≡ false
    fresh = none_any (pointwise nat_eq value) keys (λ x m. differs x (subst (λ (ks : List (List ℕ)). Member x ks) before m))

-- ---- entries

within_there : (entries : List Entry) (k : ℕ) (entry : Entry) → All IsWithin entries → slice_get entries k ≡ Some entry → IsWithin entry
within_there entries k entry all there = subst IsWithin (get_or_from_slice_get entries k entry entry there) (all k entry (slice_get_within entries k entry there))

later : (entries : List Entry) (n : ℕ) (p : Placed) → IsFrom entries n p → IsFrom entries (n + 1) p
later entries n p h = record { place = h.place; before = omega (arith, h.before); entry = h.entry; there = h.there; is = h.is }

pub scored_none : (entries : List Entry) (placed : List Placed) → placed ≡ [] → AreScored entries 0 placed
scored_none entries placed e = subst (AreScored entries 0) (sym e) (record {
  only = λ p h. absurd (omega (arith, h.1));
  each = λ place entry score l there h. absurd (omega (arith, l));
  once = tt;
  one = λ p q h k g m. absurd (omega (arith, h.1));
})

pub scored_passed : (entries : List Entry) (n : ℕ) (entry : Entry) (placed : List Placed) → AreScored entries n placed → slice_get entries n ≡ Some entry → ((score : ℕ) → HasNumber entry score → ⊥) → AreScored entries (n + 1) placed
scored_passed entries n entry placed h there none = record {
  only = λ p c. later entries n p (h.only p c);
  each = λ place other score l at has. each place other score (cases_lt place n) l at has;
  once = h.once;
  one = h.one;
}
  where
    each : (place : ℕ) (other : Entry) (score : ℕ) → (place < n) ⊎ (n ≤ place) → place < n + 1 → slice_get entries place ≡ Some other → HasNumber other score → IsAmong placed other score
    each place other score (inl low) l at has = h.each place other score low at has
    each place other score (inr high) l at has =
        let e : place ≡ n = omega (arith, high, l) in
        let both : Some other ≡ Some entry = sym at ∙ ap (slice_get entries) e ∙ there in
        let same : other ≡ entry = cc in
        absurd (none score (subst (λ (x : Entry). HasNumber x score) same has))

module _ (unique : ScoreIsUnique) (entries : List Entry) (n : ℕ) (entry : Entry) (placed more : List Placed) (p : Placed) (h : AreScored entries n placed) (there : slice_get entries n ≡ Some entry) (of : IsOfEntry entry p)
    (is : more ≡ placed ++ p ∷ []) (within : All IsWithin entries) (apart : AreApart entries) where
  fresh_key : (q : Placed) → Contains placed q → q.group ≡ p.group → q.member ≡ p.member → ⊥
  fresh_key q c group member =
      let from = h.only q c in
      let word : from.entry.word ≡ entry.word = sym from.is.word ∙ group ∙ of.word in
      let context : from.entry.context ≡ entry.context = sym from.is.context ∙ member ∙ of.context in
      let one = within_there entries from.place from.entry within from.there in
      let two = within_there entries n entry within there in
      let some = from.is.score.some in
      let also = of.score.some in
      let place = apart from.place n from.entry entry from.there there word context (omega (arith, some, one.right)) (omega (arith, also, two.right)) in
      omega (arith, place, from.before)

  same_score : (score : ℕ) → HasNumber entry score → p.score ≡ score
  same_score score has = let e : pos p.score ≡ pos score = unique (2 * entry.both) (entry.left + entry.right) (pos p.score) (pos score) of.score.scored has.scored in cc

  only_more : (q : Placed) → Contains placed q ⊎ (p ≡ q) → IsFrom entries (n + 1) q
  only_more q (inl c) = later entries n q (h.only q c)
  only_more q (inr e) = subst (IsFrom entries (n + 1)) e (record { place = n; before = omega arith; entry = entry; there = there; is = of })

  each_more : (place : ℕ) (other : Entry) (score : ℕ) → (place < n) ⊎ (n ≤ place) → place < n + 1 → slice_get entries place ≡ Some other → HasNumber other score → IsAmong (placed ++ p ∷ []) other score
  each_more place other score (inl low) l at has =
      let a = h.each place other score low at has in
      record { item = a.item; there = Contains-append_left placed (p ∷ []) a.item a.there; word = a.word; context = a.context; score_is = a.score_is }
  each_more place other score (inr high) l at has =
      let e : place ≡ n = omega (arith, high, l) in
      let both : Some other ≡ Some entry = sym at ∙ ap (slice_get entries) e ∙ there in
      let same : other ≡ entry = cc in
      record {
        item = p;
        there = Contains-push placed p;
        word = of.word ∙ ap (λ (x : Entry). x.word) (sym same);
        context = of.context ∙ ap (λ (x : Entry). x.context) (sym same);
        score_is = same_score score (subst (λ (x : Entry). HasNumber x score) same has);
      }

  one_more : (a b : Placed) → Contains placed a ⊎ (p ≡ a) → Contains placed b ⊎ (p ≡ b) → a.group ≡ b.group → a.member ≡ b.member → a ≡ b
  one_more a b (inl c) (inl d) group member = h.one a b c d group member
  one_more a b (inl c) (inr e) group member = absurd (fresh_key a c (group ∙ ap (λ (x : Placed). x.group) (sym e)) (member ∙ ap (λ (x : Placed). x.member) (sym e)))
  one_more a b (inr e) (inl d) group member = absurd (fresh_key b d (sym group ∙ ap (λ (x : Placed). x.group) (sym e)) (sym member ∙ ap (λ (x : Placed). x.member) (sym e)))
  one_more a b (inr e) (inr d) group member = sym e ∙ d

  pub scored_more : AreScored entries (n + 1) more
  scored_more = subst (AreScored entries (n + 1)) (sym is) (record {
    only = λ q c. only_more q (Contains-push_cases placed p q c);
    each = λ place other score l at has. each_more place other score (cases_lt place n) l at has;
    once = each_once_append placed (p ∷ []) h.once ((λ (c : Contains [] p). absurd (omega (arith, c.1))), tt)
        (λ x m k. elim k [ inl e ↦ fresh_key x (from_member placed x m) (ap (λ (y : Placed). y.group) e) (ap (λ (y : Placed). y.member) e) | inr none ↦ none ]);
    one = λ a b c d group member. one_more a b (Contains-push_cases placed p a c) (Contains-push_cases placed p b d) group member;
  })

-- an entry whose score is not above 0 has none that counts
pub no_number : ScoreIsUnique → (entry : Entry) (two sum : ℕ) (found : ℤ) → two ≡ 2 * entry.both → sum ≡ entry.left + entry.right → IsScore two sum found → found ≤ℤ pos 0 → (score : ℕ) → HasNumber entry score → ⊥
no_number unique entry two sum found e g is low score has =
    let same : found ≡ pos score = unique two sum found (pos score) is (subst (λ (n : ℕ). IsScore n sum (pos score)) (sym e) (subst (λ (n : ℕ). IsScore (2 * entry.both) n (pos score)) (sym g) has.scored)) in
    let none : pos score ≤ℤ pos 0 = subst (λ (z : ℤ). z ≤ℤ pos 0) same low in
    omega (arith, ints, none, has.positive)
