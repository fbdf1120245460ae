-- Rows one after another.
use Rattle.std.proofs.Common.{◌≡◌, ℕ, ◌+◌, ◌<◌, ◌≤◌, ◌⊎◌, inl, inr, Some, List, length, slice_get, sym, ap, subst, ◌∙◌, arith}
use Rattle.std.specs.List.{Contains}
use Rattle.std.proofs.lemmas.Bool.{cases_lt}
use Rattle.std.proofs.lemmas.Option.{slice_get_within, get_or_from_slice_get, slice_get-get_or, same_Some}
use Rattle.mt_text_spec.specs.Registries.{Registry}
use Rattle.mt_text_spec.specs.Texts.{Text, Row}
use Rattle.mt_text_spec.specs.Queries.{Relation}
use Rattle.mt_match_spec.specs.Values.{Images}
use Rattle.mt_count_spec.specs.Instances.{Instance, Gives}
use Rattle.mt_counts.specs.Names.{Begins}
use Rattle.mt_counts.proofs.Numbering.{begins_none, begins_then}
use Rattle.mt_instances.specs.Gains.{Gains, GivenBy}
use Rattle.mt_instances.specs.Gathered.{AreGathered, IsHeading, IsText}
use Rattle.mt_instances.specs.declared.gathering.Heading.{Heading}
use Rattle.mt_instances.specs.declared.gathering.Gathered.{Gathered}
use Rattle.mt_instances.proofs.Gaining.{gains_none, gains_then, gains_alike}
use Rattle.mt_instances.proofs.Heading.{heading-begins}

-- one of the first rows gives the instance
pub record GivenBefore (images : Images) (registry : Registry) (text : Text) (relation : Relation) (rows : List Row) (k : ℕ) (instance : Instance) : Type 0 where
  pub at : ℕ
  pub below : at < k
  pub row : Row
  pub there : slice_get rows at ≡ Some row
  pub gives : Gives images registry text relation row relation.kind instance

-- so many rows are added
pub record AreAdded (lexicon : List (List ℕ)) (numbers : List ℕ) (heading : Heading) (rows : List Row) (first now : Gathered) (k : ℕ) : Type 0 where
  pub gathered : AreGathered lexicon numbers now
  pub names : Begins first.instances.names now.instances.names
  pub given : (relation : Relation) (images : Images) (registry : Registry) (text : Text) → IsHeading first.instances.names relation heading → IsText images registry text lexicon numbers →
      Gains first.instances.given now.instances.given (GivenBefore images registry text relation rows k)

pub added_none : (lexicon : List (List ℕ)) (numbers : List ℕ) (heading : Heading) (rows : List Row) (first : Gathered) → AreGathered lexicon numbers first → AreAdded lexicon numbers heading rows first first 0
added_none lexicon numbers heading rows first g = record {
  gathered = g;
  names = begins_none first.instances.names;
  given = λ relation images registry text is told. gains_none first.instances.given (GivenBefore images registry text relation rows 0) (λ i h. let l = h.below in absurd (omega (arith, l)));
}

module _ (images : Images) (registry : Registry) (text : Text) (relation : Relation) (rows : List Row) (k : ℕ) (row : Row) (there : slice_get rows k ≡ Some row) where
  to : (i : Instance) → GivenBefore images registry text relation rows k i ⊎ Gives images registry text relation row relation.kind i → GivenBefore images registry text relation rows (k + 1) i
  to i (inl h) = let l = h.below in record { at = h.at; below = omega (arith, l); row = h.row; there = h.there; gives = h.gives }
  to i (inr g) = record { at = k; below = omega arith; row = row; there = there; gives = g }

  from : (i : Instance) → GivenBefore images registry text relation rows (k + 1) i → GivenBefore images registry text relation rows k i ⊎ Gives images registry text relation row relation.kind i
  from i h = by (cases_lt h.at k)
    where
      by : (h.at < k) ⊎ (k ≤ h.at) → GivenBefore images registry text relation rows k i ⊎ Gives images registry text relation row relation.kind i
      by (inl l) = inl (record { at = h.at; below = l; row = h.row; there = h.there; gives = h.gives })
      by (inr l) =
          let below = h.below in
          let e : h.at ≡ k = omega (arith, below, l) in
          inr (subst (λ (r : Row). Gives images registry text relation r relation.kind i) (same_Some h.row row (sym h.there ∙ ap (slice_get rows) e ∙ there)) h.gives)

  one_more : (a b c : List Instance) → Gains a b (GivenBefore images registry text relation rows k) → Gains b c (Gives images registry text relation row relation.kind) → Gains a c (GivenBefore images registry text relation rows (k + 1))
  one_more a b c g h =
      gains_alike a c (λ i. GivenBefore images registry text relation rows k i ⊎ Gives images registry text relation row relation.kind i) (GivenBefore images registry text relation rows (k + 1)) to from
      (gains_then a b c (GivenBefore images registry text relation rows k) (Gives images registry text relation row relation.kind) g h)

pub added_more : (lexicon : List (List ℕ)) (numbers : List ℕ) (heading : Heading) (rows : List Row) (first now next : Gathered) (k : ℕ) (row : Row) → AreAdded lexicon numbers heading rows first now k → slice_get rows k ≡ Some row → AreGathered lexicon numbers next →
    Begins now.instances.names next.instances.names →
    ((relation : Relation) (images : Images) (registry : Registry) (text : Text) → IsHeading now.instances.names relation heading → IsText images registry text lexicon numbers →
    Gains now.instances.given next.instances.given (Gives images registry text relation row relation.kind)) → AreAdded lexicon numbers heading rows first next (k + 1)
added_more lexicon numbers heading rows first now next k row h there g begins given = record {
  gathered = g;
  names = begins_then first.instances.names now.instances.names next.instances.names h.names begins;
  given = λ relation images registry text is told.
      one_more images registry text relation rows k row there first.instances.given now.instances.given next.instances.given (h.given relation images registry text is told)
      (given relation images registry text (heading-begins first.instances.names now.instances.names relation heading h.names is) told);
}

pub row_there : (rows : List Row) (k : ℕ) (row : Row) → slice_get rows k ≡ Some row → Contains rows row
row_there rows k row e = (k, slice_get_within rows k row e, get_or_from_slice_get rows k row row e)

pub added_all : (images : Images) (registry : Registry) (text : Text) (relation : Relation) (rows : List Row) (k : ℕ) (a b : List Instance) → length rows ≤ k → Gains a b (GivenBefore images registry text relation rows k) → Gains a b (GivenBy images registry text relation rows)
added_all images registry text relation rows k a b l g =
    gains_alike a b (GivenBefore images registry text relation rows k) (GivenBy images registry text relation rows) (λ i h. record { row = h.row; there = row_there rows h.at h.row h.there; gives = h.gives })
    (λ i h. let within = h.there.1 in record { at = h.there.0; below = omega (arith, within, l); row = h.row; there = slice_get-get_or rows h.there.0 h.row h.there.1 ∙ ap Some h.there.2; gives = h.gives }) g
