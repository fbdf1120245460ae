-- What builders of patterns say of the patterns of a query, in the words of the checks.
use Rattle.std.proofs.Common.{◌≡◌, ℕ, ◌⊎◌, ◌<◌, inl, inr, List, ◌∷◌, ◌++◌, length, get_or, Option, Some, None, refl, subst, arith}
use Rattle.std.specs.Prelude.{IsSome}
use Rattle.std.specs.List.{All}
use Rattle.std.proofs.lemmas.Grind.{common_steps}
use Rattle.std.proofs.lemmas.List.Elements.{All-weaker}
use Rattle.mt_pattern_spec.specs.Patterns.{reading, wrapped, MayBeNoPattern}
use Rattle.mt_session_spec.specs.Patterns.{IsWhole, StopsAt, IsFirstBad, IsDeep}
use Rattle.mt_prepare.specs.Built as built

-- ## In the words of the checks

whole_of : (text : List ℕ) → built.IsWhole text → IsWhole text
whole_of text w = record { alone = w.alone; whole = w.whole }

pub wholes_of : (texts : List (List ℕ)) → All built.IsWhole texts → All IsWhole texts
wholes_of texts all = All-weaker built.IsWhole IsWhole whole_of texts all

pub stops_of : (texts : List (List ℕ)) (k : ℕ) (text : List ℕ) → built.StopsAt 1 texts k text → StopsAt texts k text
stops_of texts k text s = record {
  before = s.before;
  behind = s.behind;
  split = s.split;
  number = let e = s.number in omega (arith, e);
  patterns = wholes_of s.before s.patterns;
}

-- ## Which of two

some_or_none : {X : Type 0} (o : Option X) → IsSome o ⊎ (¬ IsSome o)
some_or_none (Some x) = inl refl
some_or_none None = inr (λ e. cc)

-- a text that may be refused as no pattern is none, or it nests too deep
pub bad_or_deep : (texts : List (List ℕ)) (k : ℕ) (text : List ℕ) → StopsAt texts k text → MayBeNoPattern text → IsFirstBad texts k ⊎ IsDeep texts k
bad_or_deep texts k text s may = by (some_or_none (reading text)) (some_or_none (reading (wrapped text)))
  where
    by : (IsSome (reading text) ⊎ (¬ IsSome (reading text))) → (IsSome (reading (wrapped text)) ⊎ (¬ IsSome (reading (wrapped text)))) → IsFirstBad texts k ⊎ IsDeep texts k
    by (inl alone) (inl whole) = inr (record { text = text; stops = s; deep = may alone whole })
    by (inl alone) (inr none) = inl (record { text = text; stops = s; none = λ w. none w.whole })
    by (inr none) either = inl (record { text = text; stops = s; none = λ w. none w.alone })

-- ## No text is bad where all are whole

there : (before behind : List (List ℕ)) (text : List ℕ) → get_or (before ++ text ∷ behind) (length before) text ≡ text
there before behind text = grind (arith, common_steps)

within : (before behind : List (List ℕ)) (text : List ℕ) → length before < length (before ++ text ∷ behind)
within before behind text = grind (arith, common_steps)

pub none_bad : (texts : List (List ℕ)) (k : ℕ) → All IsWhole texts → IsFirstBad texts k → ⊥
none_bad texts k all bad =
    let split = bad.stops.before ++ bad.text ∷ bad.stops.behind in
    let inside : All IsWhole split = subst (λ (xs : List (List ℕ)). All IsWhole xs) bad.stops.split all in
    bad.none (subst (λ (x : List ℕ). IsWhole x) (there bad.stops.before bad.stops.behind bad.text) (inside (length bad.stops.before) bad.text (within bad.stops.before bad.stops.behind bad.text)))
