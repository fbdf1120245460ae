-- Queries that have too many rows in a text, and texts in which none has.
use Rattle.std.proofs.Common.{◌⊎◌, inl, inr, List, [], ◌∷◌, ◌++◌, subst}
use Rattle.std.specs.List.{Contains}
use Rattle.std.proofs.lemmas.List.Elements.{Contains-append_left, Contains-append_right, Contains-append_cases}
use Rattle.mt_text_spec.specs.Registries.{Registry}
use Rattle.mt_text_spec.specs.Texts.{Text}
use Rattle.mt_text_spec.specs.Queries.{Grammar}
use Rattle.mt_match_spec.specs.Values.{Images}
use Rattle.mt_match_spec.specs.Kept.{Over}
use Rattle.mt_count_spec.specs.Counts.{HasRoom}
use Rattle.mt_rule_spec.specs.Rules.{HasTooManyIn}
use Rattle.mt_grammar_counts.specs.Told.{HasNoRoom}
use Rattle.mt_rules.proofs.Lists.{contains_one, only_one}

module _ (images : Images) (registry : Registry) (grammar : Grammar) where
  pub too_many_in : (text : Text) → HasNoRoom images registry grammar (text ∷ []) → HasTooManyIn images registry grammar text
  too_many_in text none = record {
    query = none.query;
    asked = none.asked;
    over = subst (λ (t : Text). Over images registry (t ∷ []) none.query) (only_one text none.text none.there) none.over;
  }

  pub not_too_many : (text : Text) → HasRoom images registry grammar (text ∷ []) → HasTooManyIn images registry grammar text → ⊥
  not_too_many text room many = room text many.query (contains_one text) many.asked many.over

  pub room_both : (first more : List Text) → HasRoom images registry grammar first → HasRoom images registry grammar more → HasRoom images registry grammar (first ++ more)
  room_both first more a b text query there asked = by (Contains-append_cases first more text there)
    where
      by : Contains first text ⊎ Contains more text → Over images registry (text ∷ []) query → ⊥
      by (inl c) = a text query c asked
      by (inr c) = b text query c asked

  -- where one text is taken out
  pub room_rest : (before behind : List Text) (one : Text) → HasRoom images registry grammar (before ++ one ∷ [] ++ behind) → HasRoom images registry grammar (before ++ behind)
  room_rest before behind one room text query there asked = by (Contains-append_cases before behind text there)
    where
      by : Contains before text ⊎ Contains behind text → Over images registry (text ∷ []) query → ⊥
      by (inl c) = room text query (Contains-append_left (before ++ one ∷ []) behind text (Contains-append_left before (one ∷ []) text c)) asked
      by (inr c) = room text query (Contains-append_right (before ++ one ∷ []) behind text c) asked

  -- one of the texts has room too
  pub no_room_there : (before behind : List Text) (one : Text) → HasRoom images registry grammar (before ++ one ∷ [] ++ behind) → HasNoRoom images registry grammar (one ∷ []) → ⊥
  no_room_there before behind one room none =
      let many = too_many_in one none in
      room one many.query (Contains-append_left (before ++ one ∷ []) behind one (Contains-append_right before (one ∷ []) one (contains_one one))) many.asked many.over
