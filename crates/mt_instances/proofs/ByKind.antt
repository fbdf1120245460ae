-- What rows give by the kind of their relation.
use Rattle.std.proofs.Common.{◌≡◌, ℕ, ◌⊎◌, inl, inr, List, [], ◌∷◌, ◌++◌, length, codes, refl, sym, ap, subst, ◌∙◌, arith, append_assoc}
use Rattle.std.proofs.lemmas.List.{append_cancel_left}
use Rattle.mt_text_spec.specs.Registries.{Registry}
use Rattle.mt_text_spec.specs.Texts.{Text, Row}
use Rattle.mt_text_spec.specs.Queries.{RelationKind, Plain, Dual, Symmetric, Trinary, Unary, Relation}
use Rattle.mt_match_spec.specs.Values.{Images}
use Rattle.mt_match_spec.specs.Labels.{IsSetTo}
use Rattle.mt_count_spec.specs.Instances.{Instance, AtTwo, IsFilled, Gives, GivesPlain, GivesDual, GivesTurned, GivesSymmetric, GivesBack, GivesTrinary, GivesUnary}
use Rattle.mt_instances.specs.Gains.{Gains, HasLabels}
use Rattle.mt_instances.specs.Given.{OfOne, One, OfPair, Pair, OfTurned, Turned, OfFilled, Filled}
use Rattle.mt_instances.specs.Gathered.{IsText, value_in}
use Rattle.mt_instances.proofs.Gaining.{gains_alike, gains_none, one_place}

-- ---- one name that is filled

same_front : (a b c d : List ℕ) → length a ≡ length b → a ++ c ≡ b ++ d → a ≡ b
same_front [] [] c d l e = refl
same_front [] (y ∷ b) c d l e = absurd (omega (arith, l))
same_front (x ∷ a) [] c d l e = absurd (omega (arith, l))
same_front (x ∷ a) (y ∷ b) c d l e =
    let head : x ≡ y = cc in
    let tail : a ++ c ≡ b ++ d = cc in
    let rest = same_front a b c d (omega (arith, l)) tail in
    λ i. head i ∷ rest i

one_filled : (name value a b : List ℕ) → IsFilled name value a → IsFilled name value b → a ≡ b
one_filled name value a b h k =
    let low = h.first k.front k.back k.are in
    let high = k.first h.front h.back h.are in
    let whole = sym (append_assoc h.front (codes "%s") h.back) in
    let both = sym h.are ∙ k.are in
    let front = same_front h.front k.front (codes "%s" ++ h.back) (codes "%s" ++ k.back) (omega (arith, low, high)) (sym (append_assoc h.front (codes "%s") h.back) ∙ both ∙ append_assoc k.front (codes "%s") k.back) in
    let back = append_cancel_left (k.front ++ codes "%s") h.back k.back (ap (λ (xs : List ℕ). xs ++ codes "%s" ++ h.back) (sym front) ∙ both) in
    h.is ∙ (λ i. front i ++ value ++ back i) ∙ sym k.is

pub filled_gains : (old new : List Instance) (name final : List ℕ) (value : ℕ → List ℕ) (row : Row) (r : ℕ) → IsSetTo row.labels 3 r → IsFilled name (value r) final → Gains old new (OfPair final row) → Gains old new (OfFilled name value row)
filled_gains old new name final value row r set is g = gains_alike old new (OfPair final row) (OfFilled name value row) to from g
  where
    to : (i : Instance) → OfPair final row i → OfFilled name value row i
    to i (Pair p q h) = Filled p q r final h set is

    from : (i : Instance) → OfFilled name value row i → OfPair final row i
    from i (Filled p q s other h set' is') =
        let same = one_place row.labels 3 s r set' set in
        let e = one_filled name (value r) final other is (subst (λ (n : ℕ). IsFilled name (value n) other) same is') in
        subst (λ (n : List ℕ). OfPair final row (AtTwo n p q)) e (Pair p q h)

pub unfilled_gains : (old : List Instance) (name : List ℕ) (value : ℕ → List ℕ) (row : Row) (r : ℕ) → IsSetTo row.labels 3 r → ((other : List ℕ) → ¬ IsFilled name (value r) other) → Gains old old (OfFilled name value row)
unfilled_gains old name value row r set none = gains_none old (OfFilled name value row) no
  where
    no : (i : Instance) → OfFilled name value row i → ⊥
    no i (Filled p q s other h set' is') = none other (subst (λ (n : ℕ). IsFilled name (value n) other) (one_place row.labels 3 s r set' set) is')

-- ---- the kinds

module _ (images : Images) (registry : Registry) (text : Text) (relation : Relation) (row : Row) (old new : List Instance) where
  of_kind : (kind : RelationKind) → kind ≡ relation.kind → Gains old new (Gives images registry text relation row kind) → Gains old new (Gives images registry text relation row relation.kind)
  of_kind kind e g = subst (λ (k : RelationKind). Gains old new (Gives images registry text relation row k)) e g

  pub gains_plain : Plain ≡ relation.kind → (name : List ℕ) → name ≡ relation.name → Gains old new (OfPair name row) → Gains old new (Gives images registry text relation row relation.kind)
  gains_plain e name n g = of_kind Plain e (gains_alike old new (OfPair relation.name row) (Gives images registry text relation row Plain) to from (subst (λ (x : List ℕ). Gains old new (OfPair x row)) n g))
    where
      to : (i : Instance) → OfPair relation.name row i → Gives images registry text relation row Plain i
      to i (Pair p q h) = GivesPlain p q h

      from : (i : Instance) → Gives images registry text relation row Plain i → OfPair relation.name row i
      from i (GivesPlain p q h) = Pair p q h

  pub gains_unary : Unary ≡ relation.kind → (name : List ℕ) → name ≡ relation.name → Gains old new (OfOne name row) → Gains old new (Gives images registry text relation row relation.kind)
  gains_unary e name n g = of_kind Unary e (gains_alike old new (OfOne relation.name row) (Gives images registry text relation row Unary) to from (subst (λ (x : List ℕ). Gains old new (OfOne x row)) n g))
    where
      to : (i : Instance) → OfOne relation.name row i → Gives images registry text relation row Unary i
      to i (One p h) = GivesUnary p h

      from : (i : Instance) → Gives images registry text relation row Unary i → OfOne relation.name row i
      from i (GivesUnary p h) = One p h

  pub gains_symmetric : Symmetric ≡ relation.kind → (name : List ℕ) → name ≡ relation.name → Gains old new (λ i. OfPair name row i ⊎ OfTurned name row i) → Gains old new (Gives images registry text relation row relation.kind)
  gains_symmetric e name n g =
      of_kind Symmetric e (gains_alike old new (λ i. OfPair relation.name row i ⊎ OfTurned relation.name row i) (Gives images registry text relation row Symmetric) to from (subst (λ (x : List ℕ). Gains old new (λ i. OfPair x row i ⊎ OfTurned x row i)) n g))
    where
      to : (i : Instance) → OfPair relation.name row i ⊎ OfTurned relation.name row i → Gives images registry text relation row Symmetric i
      to i (inl (Pair p q h)) = GivesSymmetric p q h
      to i (inr (Turned p q h)) = GivesBack p q h

      from : (i : Instance) → Gives images registry text relation row Symmetric i → OfPair relation.name row i ⊎ OfTurned relation.name row i
      from i (GivesSymmetric p q h) = inl (Pair p q h)
      from i (GivesBack p q h) = inr (Turned p q h)

  pub gains_dual : Dual ≡ relation.kind → (name second : List ℕ) → name ≡ relation.name → second ≡ relation.second → Gains old new (λ i. OfPair name row i ⊎ OfTurned second row i) → Gains old new (Gives images registry text relation row relation.kind)
  gains_dual e name second n m g =
      of_kind Dual e (gains_alike old new (λ i. OfPair relation.name row i ⊎ OfTurned relation.second row i) (Gives images registry text relation row Dual) to from
      (subst (λ (x : List ℕ). Gains old new (λ i. OfPair relation.name row i ⊎ OfTurned x row i)) m (subst (λ (x : List ℕ). Gains old new (λ i. OfPair x row i ⊎ OfTurned second row i)) n g)))
    where
      to : (i : Instance) → OfPair relation.name row i ⊎ OfTurned relation.second row i → Gives images registry text relation row Dual i
      to i (inl (Pair p q h)) = GivesDual p q h
      to i (inr (Turned p q h)) = GivesTurned p q h

      from : (i : Instance) → Gives images registry text relation row Dual i → OfPair relation.name row i ⊎ OfTurned relation.second row i
      from i (GivesDual p q h) = inl (Pair p q h)
      from i (GivesTurned p q h) = inr (Turned p q h)

  pub gains_trinary : Trinary ≡ relation.kind → (name : List ℕ) → name ≡ relation.name → (lexicon : List (List ℕ)) (numbers : List ℕ) → HasLabels row (length numbers) → IsText images registry text lexicon numbers → Gains old new (OfFilled name (value_in lexicon numbers) row) →
      Gains old new (Gives images registry text relation row relation.kind)
  gains_trinary e name n lexicon numbers labels told g =
      of_kind Trinary e (gains_alike old new (OfFilled relation.name (value_in lexicon numbers) row) (Gives images registry text relation row Trinary) to from (subst (λ (x : List ℕ). Gains old new (OfFilled x (value_in lexicon numbers) row)) n g))
    where
      to : (i : Instance) → OfFilled relation.name (value_in lexicon numbers) row i → Gives images registry text relation row Trinary i
      to i (Filled p q r final h set is) = GivesTrinary p q r final h set (subst (λ (v : List ℕ). IsFilled relation.name v final) (sym (told r (labels 3 r set))) is)

      from : (i : Instance) → Gives images registry text relation row Trinary i → OfFilled relation.name (value_in lexicon numbers) row i
      from i (GivesTrinary p q r final h set is) = Filled p q r final h set (subst (λ (v : List ℕ). IsFilled relation.name v final) (told r (labels 3 r set)) is)
