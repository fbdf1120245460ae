-- The labels of the row of a match of a shape, and the conditions that it meets.
use Rattle.std.proofs.Common.{◌≡◌, ◌≢◌, ℕ, zero, suc, ◌+◌, ◌<◌, ◌≤◌, ◌⊎◌, inl, inr, Bool, true, false, not, Decides, Option, None, Some, slice_get, List, [], ◌∷◌, length, ◌==◌, eqb-true, refl, sym, ◌∙◌, ap, subst, arith, eq-eqb}
use Rattle.std.specs.Prelude.{if◌then◌else◌, option_map}
use Rattle.std.specs.List.{All}
use Rattle.std.proofs.lemmas.List.Elements.{All-nil}
use Rattle.std.proofs.lemmas.Bool.{cases_lt, cases_eq}
use Rattle.std.proofs.lemmas.Option.{same_Some, slice_get-map}
use Rattle.mt_text_spec.specs.Texts.{unset}
use Rattle.mt_text_spec.specs.Queries.{Cond}
use Rattle.mt_match_spec.specs.Labels.{IsSetTo}
use Rattle.mt_match_spec.specs.Tests.{Unless}
use Rattle.mt_places.specs.Places.{In, HasJust, FirstFrom}
use Rattle.mt_segment_spec.specs.Tables.{Tables, first_place}
use Rattle.mt_eval_spec.specs.RowsIn.{MeetsIn}
use Rattle.mt_eval_spec.specs.Told.{told_value}
use Rattle.mt_automaton.specs.Windows.{moved}
use Rattle.mt_shapes.specs.declared.shape.Shape.{Shape}
use Rattle.mt_shapes.specs.declared.table.Entry.{Entry}
use Rattle.mt_shapes.specs.Shapes.{row_of}
use Rattle.mt_shapes.proofs.Bits.{in_room}
use Rattle.mt_shapes.proofs.Labels.{at_base, set_moved}

-- ## Labels

pub set_there : (labels : List ℕ) (label place begin : ℕ) → IsSetTo labels label place → begin + place ≢ unset → IsSetTo (moved begin labels) label (begin + place)
set_there labels zero place begin s ne = s
set_there labels (suc n) place begin s ne = (slice_get-map (at_base begin) labels n ∙ ap (option_map (at_base begin)) s.0 ∙ ap (λ (k : ℕ). Some k) (set_moved begin place s.1), ne)

-- a label of a row, by where it stands in the shape
pub record Back (labels : List ℕ) (label place begin : ℕ) : Type 0 where
  pub from : ℕ
  pub set : IsSetTo labels label from
  pub is : place ≡ begin + from

unset_stays : (base x : ℕ) → x ≡ unset → at_base base x ≡ unset
unset_stays base x e = ap (λ (c : Bool). if c then unset else (base + x)) (eq-eqb x unset e)

pub set_back : (labels : List ℕ) (label place begin : ℕ) → IsSetTo (moved begin labels) label place → Back labels label place begin
set_back labels zero place begin s = absurd s
set_back labels (suc n) place begin s = by (slice_get labels n) refl
  where
    by : (o : Option ℕ) → slice_get labels n ≡ o → Back labels (suc n) place begin
    by None e = let got = sym s.0 ∙ slice_get-map (at_base begin) labels n ∙ ap (option_map (at_base begin)) e in cc
    by (Some x) e =
        let got : place ≡ at_base begin x = same_Some place (at_base begin x) (sym s.0 ∙ slice_get-map (at_base begin) labels n ∙ ap (option_map (at_base begin)) e) in
        elim (cases_eq x unset) [
          | inl u ↦ absurd (s.1 (got ∙ unset_stays begin x u))
          | inr ne ↦ record { from = x; set = (e, ne); is = got ∙ set_moved begin x ne }
        ]

one_place : (labels : List ℕ) (label a b : ℕ) → IsSetTo labels label a → IsSetTo labels label b → a ≡ b
one_place labels zero a b s t = absurd s
one_place labels (suc n) a b s t = same_Some a b (sym s.0 ∙ t.0)

-- ## One condition

abbrev pub Same : (tables : Tables) (cond : Cond) (one other : ℕ) → Type 0
Same tables cond one other = told_value tables cond.left_attr one ≡ told_value tables cond.right_attr other

module _ (tables : Tables) (shape : Shape) (text begin first : ℕ) (cond : Cond) (is : first ≡ first_place tables text) where
  pub left_set : MeetsIn tables (row_of shape text begin) cond → ((place : ℕ) → ¬ IsSetTo shape.labels cond.left place) → ⊥
  left_set m never = let b = set_back shape.labels cond.left m.left begin m.left_set in never b.from b.set

  pub right_set : MeetsIn tables (row_of shape text begin) cond → ((place : ℕ) → ¬ IsSetTo shape.labels cond.right place) → ⊥
  right_set m never = let b = set_back shape.labels cond.right m.right begin m.right_set in never b.from b.set

  module _ (left right : ℕ) (l : IsSetTo shape.labels cond.left left) (r : IsSetTo shape.labels cond.right right) where
    compares : MeetsIn tables (row_of shape text begin) cond → Unless (not cond.equal) (Same tables cond (first + (begin + left)) (first + (begin + right)))
    compares m =
        let a = set_back shape.labels cond.left m.left begin m.left_set in
        let b = set_back shape.labels cond.right m.right begin m.right_set in
        let p = one_place shape.labels cond.left a.from left a.set l in
        let q = one_place shape.labels cond.right b.from right b.set r in
        let at_left = a.is in
        let at_right = b.is in
        let x : first_place tables text + m.left ≡ first + (begin + left) = omega (arith, p, at_left, is) in
        let y : first_place tables text + m.right ≡ first + (begin + right) = omega (arith, q, at_right, is) in
        subst (λ (n : ℕ). Unless (not cond.equal) (Same tables cond n (first + (begin + right)))) x (subst (λ (n : ℕ). Unless (not cond.equal) (Same tables cond (first_place tables text + m.left) n)) y m.compare)

    met : begin + left ≢ unset → begin + right ≢ unset → Unless (not cond.equal) (Same tables cond (first + (begin + left)) (first + (begin + right))) → MeetsIn tables (row_of shape text begin) cond
    met nl nr u = record {
      left = begin + left;
      left_set = set_there shape.labels cond.left left begin l nl;
      right = begin + right;
      right_set = set_there shape.labels cond.right right begin r nr;
      compare = subst (λ (n : ℕ). Unless (not cond.equal) (Same tables cond (n + (begin + left)) (n + (begin + right)))) is u;
    }

    pub equal_told : (same : Bool) → begin + left ≢ unset → begin + right ≢ unset → cond.equal ≡ true → Decides same (Same tables cond (first + (begin + left)) (first + (begin + right))) → Decides same (MeetsIn tables (row_of shape text begin) cond)
    equal_told same nl nr e d = (
      λ t. met nl nr (subst (λ (b : Bool). Unless (not b) (Same tables cond (first + (begin + left)) (first + (begin + right)))) (sym e) (d.0 t)),
      λ m. d.1 (subst (λ (b : Bool). Unless (not b) (Same tables cond (first + (begin + left)) (first + (begin + right)))) e (compares m)),
    )

    pub differ_told : (same : Bool) → begin + left ≢ unset → begin + right ≢ unset → cond.equal ≡ false → Decides same (Same tables cond (first + (begin + left)) (first + (begin + right))) → Decides (not same) (MeetsIn tables (row_of shape text begin) cond)
    differ_told same nl nr e d = by same d
      where
        by : (b : Bool) → Decides b (Same tables cond (first + (begin + left)) (first + (begin + right))) → Decides (not b) (MeetsIn tables (row_of shape text begin) cond)
        by true f = (
          λ t. cc,
          λ m. absurd (subst (λ (b : Bool). Unless (not b) (Same tables cond (first + (begin + left)) (first + (begin + right)))) e (compares m) (f.0 refl)),
        )
        by false f = (
          λ t. met nl nr (subst (λ (b : Bool). Unless (not b) (Same tables cond (first + (begin + left)) (first + (begin + right)))) (sym e) (λ s. let g = f.1 s in cc)),
          λ m. refl,
        )

-- ## The begins so far

pub record MetBelow (tables : Tables) (conds : List Cond) (e : Entry) (text n : ℕ) (met : List ℕ) : Type 0 where
  pub sound : (b : ℕ) → In met b → (b < n) × In e.begins b × All (MeetsIn tables (row_of e.shape text b)) conds
  pub complete : (b : ℕ) → b < n → In e.begins b → All (MeetsIn tables (row_of e.shape text b)) conds → In met b

no_conds : (P : Cond → Type 0) (conds : List Cond) → (length conds == 0) ≡ true → All P conds
no_conds P [] e = All-nil P
no_conds P (x ∷ xs) e = let z = eqb-true (length (x ∷ xs)) 0 e in absurd (omega (arith, z))

module _ (tables : Tables) (conds : List Cond) (e : Entry) (text : ℕ) where
  pub none_met : (met : List ℕ) → ((b : ℕ) → ¬ In met b) → MetBelow tables conds e text 0 met
  none_met met never = record { sound = λ b i. absurd (never b i); complete = λ b l i m. absurd (omega (arith, l)) }

  pub not_met : (n at : ℕ) (met : List ℕ) → FirstFrom e.begins n at → (¬ All (MeetsIn tables (row_of e.shape text at)) conds) → MetBelow tables conds e text n met → MetBelow tables conds e text (at + 1) met
  not_met n at met found never h = record {
    sound = λ b i. let s = h.sound b i in let low = s.0 in let from = found.from in (omega (arith, low, from), s.1, s.2);
    complete = λ b l i m. elim (cases_lt b n) [
      | inl low ↦ h.complete b low i m
      | inr high ↦ elim (cases_lt b at) [
        | inl before ↦ absurd (found.none_before b high before i)
        | inr late ↦ let here : b ≡ at = omega (arith, l, late) in absurd (never (subst (λ (k : ℕ). All (MeetsIn tables (row_of e.shape text k)) conds) here m))
      ]
    ];
  }

  pub one_met : (n at : ℕ) (old new : List ℕ) → length old ≡ length e.begins → length new ≡ length old → FirstFrom e.begins n at → All (MeetsIn tables (row_of e.shape text at)) conds → HasJust (λ b. In old b ⊎ (b ≡ at)) new →
      MetBelow tables conds e text n old → MetBelow tables conds e text (at + 1) new
  one_met n at old new wide same found m just h = record {
    sound = λ b i. elim (just.sound b i) [
      | inl was ↦ let s = h.sound b was in let low = s.0 in let from = found.from in (omega (arith, low, from), s.1, s.2)
      | inr here ↦ (omega (arith, here), subst (In e.begins) (sym here) found.is_in, subst (λ (k : ℕ). All (MeetsIn tables (row_of e.shape text k)) conds) (sym here) m)
    ];
    complete = λ b l i meets. let low = in_room e.begins b i in just.complete b (elim (cases_lt b n) [
      | inl before ↦ inl (h.complete b before i meets)
      | inr high ↦ elim (cases_lt b at) [
        | inl between ↦ absurd (found.none_before b high between i)
        | inr late ↦ inr (omega (arith, l, late))
      ]
    ]) (omega (arith, low, wide, same));
  }

  pub all_met : (n : ℕ) (met : List ℕ) → ((b : ℕ) → n ≤ b → ¬ In e.begins b) → MetBelow tables conds e text n met → HasJust (λ b. In e.begins b × All (MeetsIn tables (row_of e.shape text b)) conds) met
  all_met n met none h = record {
    sound = λ b i. let s = h.sound b i in (s.1, s.2);
    complete = λ b p l. elim (cases_lt b n) [ inl low ↦ h.complete b low p.0 p.1 | inr high ↦ absurd (none b high p.0) ];
  }

  -- where there is no condition all begins meet them
  pub all_of_none : (met : List ℕ) → (length conds == 0) ≡ true → met ≡ e.begins → HasJust (λ b. In e.begins b × All (MeetsIn tables (row_of e.shape text b)) conds) met
  all_of_none met none same = record {
    sound = λ b i. (subst (λ (s : List ℕ). In s b) same i, no_conds (MeetsIn tables (row_of e.shape text b)) conds none);
    complete = λ b p l. subst (λ (s : List ℕ). In s b) (sym same) p.0;
  }
