-- The contexts of words, with their scores, added up.
use Rattle.std.proofs.Common.{◌≡◌, ℕ, zero, suc, ◌*◌, ◌<◌, ◌≤◌, ◌⊎◌, inl, inr, ℤ, pos, negsuc, List, [], ◌∷◌, map, refl, subst, arith}
use Rattle.std.specs.List.{sum_by}
use Rattle.std.proofs.lemmas.Bool.{cases_lt}
use Rattle.mt_match_spec.specs.Rows.{ListsAll}
use Rattle.mt_match_laws.proofs.Members.{Member, to_member}
use Rattle.mt_count_spec.specs.Counts.{EachOnce}
use Rattle.mt_match_laws.proofs.Sorting.{in_order, sorted}
use Rattle.mt_match_laws.proofs.Deciding.{Decision}
use Rattle.mt_sketch_spec.specs.Score.{IsScore, ScoreIsUnique}
use Rattle.mt_word_sketch_spec.specs.Frequencies.{Frequencies}
use Rattle.mt_word_sketch_spec.specs.Sketches.{apart}
use Rattle.mt_word_sketch_spec.specs.Thesaurus.{Context, HasScore, Own, IsOwn, Shared, IsShared, likeness, AddUp, IsScoreSum}
use Rattle.mt_word_sketch_laws.specs.Laws.{ThereIsAScore, IsWithinBoth}
use Rattle.mt_word_sketch_laws.proofs.Lists.{in_map, ascending_once}
use Rattle.mt_word_sketch_laws.proofs.Sums.{gather, Gathered, Found, add_gathered}
use Rattle.mt_word_sketch_laws.proofs.Orders.{context_cmp, context_total, same_context}
use Rattle.mt_word_sketch_laws.proofs.Frequent.{Known}

-- a score, where the word has one in the context
pub record Scored (f : Frequencies) (word : List ℕ) (context : Context) : Type 0 where
  pub score : ℕ
  pub has : HasScore f word context score

module _ (unique : ScoreIsUnique) (f : Frequencies) where
  pub one_score : (word : List ℕ) (context : Context) (a b : ℕ) → HasScore f word context a → HasScore f word context b → a ≡ b
  one_score word context a b h k = let e : pos a ≡ pos b = unique (2 * f.both context.name word context.second) (apart f context.name word context.second) (pos a) (pos b) h.scored k.scored in cc

  one_own : (word : List ℕ) (a b : Own) → IsOwn f word a → IsOwn f word b → a.context ≡ b.context → a ≡ b
  one_own word a b h k e =
      let score = one_score word b.context a.score b.score (subst (λ (c : Context). HasScore f word c a.score) e h) k in
      λ i. record { context = e i; score = score i }

  one_shared : (word other : List ℕ) (a b : Shared) → IsShared f word other a → IsShared f word other b → a.context ≡ b.context → a ≡ b
  one_shared word other a b h k e =
      let left = one_score word b.context a.one_score b.one_score (subst (λ (c : Context). HasScore f word c a.one_score) e h.by_one) k.by_one in
      let right = one_score other b.context a.other_score b.other_score (subst (λ (c : Context). HasScore f other c a.other_score) e h.by_other) k.by_other in
      λ i. record { context = e i; one_score = left i; other_score = right i }

  module _ (have : ThereIsAScore) (within : (name x y : List ℕ) → IsWithinBoth f name x y) (known : Known f) where
    -- whether a word has a score in a context
    by_score : (word : List ℕ) (context : Context) (k : ℤ) → 0 < f.both context.name word context.second → IsScore (2 * f.both context.name word context.second) (apart f context.name word context.second) k → Decision (Scored f word context)
    by_score word context (pos zero) some is =
        inr (λ s. let e : pos zero ≡ pos s.score = unique (2 * f.both context.name word context.second) (apart f context.name word context.second) (pos zero) (pos s.score) is s.has.scored in let z : zero ≡ s.score = cc in let p = s.has.positive in absurd (omega (arith, z, p)))
    by_score word context (pos (suc k)) some is = inl (record { score = suc k; has = record { some = some; scored = is; positive = omega arith } })
    by_score word context (negsuc k) some is =
        inr (λ s. let e : negsuc k ≡ pos s.score = unique (2 * f.both context.name word context.second) (apart f context.name word context.second) (negsuc k) (pos s.score) is s.has.scored in let wrong : ⊥ = cc in wrong)

    pub scored : (word : List ℕ) (context : Context) → Decision (Scored f word context)
    scored word context = by (cases_lt 0 (f.both context.name word context.second))
      where
        by : (0 < f.both context.name word context.second) ⊎ (f.both context.name word context.second ≤ 0) → Decision (Scored f word context)
        by (inl some) =
            let w = within context.name word context.second in
            let first = w.first in
            let second = w.second in
            let k = have (2 * f.both context.name word context.second) (apart f context.name word context.second) (omega (arith, some)) (omega (arith, some, first, second)) in
            by_score word context k.0 some k.1
        by (inr none) = inr (λ s. let some = s.has.some in absurd (omega (arith, none, some)))

    pub contexts : List Context
    contexts = sorted context_cmp (map (λ key. record { name = key.0; second = key.2 }) known.triples)

    listed : ListsAll context_cmp (λ context. Member context (map (λ (key : List ℕ × List ℕ × List ℕ). record { name = key.0; second = key.2 }) known.triples)) contexts
    unfolding contexts
    listed = in_order context_total same_context (λ context. Member context (map (λ (key : List ℕ × List ℕ × List ℕ). record { name = key.0; second = key.2 }) known.triples)) (map (λ key. record { name = key.0; second = key.2 }) known.triples) (λ context m. m) (λ context m. m)

    contexts_once : EachOnce contexts
    contexts_once = ascending_once context_total contexts listed.ascending

    is_context : (word : List ℕ) (context : Context) (score : ℕ) → HasScore f word context score → Member context contexts
    is_context word context score h =
        to_member contexts context (listed.each context (in_map (λ (key : List ℕ × List ℕ × List ℕ). record { name = key.0; second = key.2 }) known.triples (context.name, word, context.second) (known.each_triple context.name word context.second h.some)))

    find_own : (word : List ℕ) (context : Context) → Decision (Found {X = Context} {Y = Own} (λ own. own.context) (IsOwn f word) context)
    find_own word context = by (scored word context)
      where
        by : Decision (Scored f word context) → Decision (Found {X = Context} {Y = Own} (λ own. own.context) (IsOwn f word) context)
        by (inl s) = inl (record { item = record { context = context; score = s.score }; is = refl; so = s.has })
        by (inr none) = inr (λ found. none (record { score = found.item.score; has = subst (λ (c : Context). HasScore f word c found.item.score) found.is found.so }))

    find_shared : (word other : List ℕ) (context : Context) → Decision (Found {X = Context} {Y = Shared} (λ shared. shared.context) (IsShared f word other) context)
    find_shared word other context = by (scored word context) (scored other context)
      where
        by : Decision (Scored f word context) → Decision (Scored f other context) → Decision (Found {X = Context} {Y = Shared} (λ shared. shared.context) (IsShared f word other) context)
        by (inl s) (inl t) = inl (record { item = record { context = context; one_score = s.score; other_score = t.score }; is = refl; so = record { by_one = s.has; by_other = t.has } })
        by (inl s) (inr none) = inr (λ found. none (record { score = found.item.other_score; has = subst (λ (c : Context). HasScore f other c found.item.other_score) found.is found.so.by_other }))
        by (inr none) d = inr (λ found. none (record { score = found.item.one_score; has = subst (λ (c : Context). HasScore f word c found.item.one_score) found.is found.so.by_one }))

    own : (word : List ℕ) → Gathered {X = Context} {Y = Own} (λ own. own.context) (IsOwn f word) contexts
    own word = gather (λ own. own.context) (IsOwn f word) (find_own word) (one_own word) contexts contexts_once

    pub shared : (word other : List ℕ) → Gathered {X = Context} {Y = Shared} (λ shared. shared.context) (IsShared f word other) contexts
    shared word other = gather (λ shared. shared.context) (IsShared f word other) (find_shared word other) (one_shared word other) contexts contexts_once

    pub own_sum : List ℕ → ℕ
    own_sum word = sum_by (λ (own : Own). own.score) (own word).all

    pub own_adds : (word : List ℕ) → IsScoreSum f word (own_sum word)
    unfolding own_sum
    own_adds word = add_gathered (λ own. own.context) (IsOwn f word) (λ own. own.score) contexts (own word) (λ one h. is_context word one.context one.score h)

    pub shared_sum : (word other : List ℕ) → ℕ
    shared_sum word other = sum_by likeness (shared word other).all

    pub shared_adds : (word other : List ℕ) → AddUp (IsShared f word other) likeness (shared_sum word other)
    unfolding shared_sum
    shared_adds word other = add_gathered (λ shared. shared.context) (IsShared f word other) likeness contexts (shared word other) (λ one h. is_context word one.context one.one_score h.by_one)

    -- whether two words have a context in common
    pub shares : (word other : List ℕ) → Decision ((one : Shared) × IsShared f word other one)
    shares word other = by (shared word other).all (shared word other).only (λ one h. (shared word other).each one h (is_context word one.context one.one_score h.by_one))
      where
        by : (all : List Shared) → ((one : Shared) → Member one all → IsShared f word other one) → ((one : Shared) → IsShared f word other one → Member one all) → Decision ((one : Shared) × IsShared f word other one)
        by [] only each = inr (λ h. each h.0 h.1)
        by (one ∷ all) only each = inl (one, only one (inl refl))
