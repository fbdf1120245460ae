-- The rows of a sequence in some texts.
use Rattle.std.proofs.Common.{◌≡◌, ℕ, ◌+◌, ◌-◌, ◌*◌, ◌<◌, ◌≤◌, List, [], length, refl, ap, subst, arith}
use Rattle.std.specs.List.{Contains}
use Rattle.std.proofs.lemmas.List.Elements.{All-contains}
use Rattle.mt_text_spec.specs.Texts.{Row}
use Rattle.mt_text_spec.specs.Queries as q
use Rattle.mt_segment_spec.specs.Tables.{Tables, first_place}
use Rattle.mt_eval_spec.specs.RowsIn.{IsRowIn, RowsIn}
use Rattle.mt_prepare.specs.declared.resolved.Resolved.{Resolved}
use Rattle.mt_eval.specs.Runs.{AreTexts}
use Rattle.mt_eval.specs.Sequences.{AreTestsOf, positions_of, test_at}
use Rattle.mt_eval.specs.Walks.{due_of}
use Rattle.mt_eval.proofs.Few.{AreItsPlaces}
use Rattle.mt_eval.proofs.Rowed.{in_segment, later_first, met_at, nothing_ascends}
use Rattle.mt_eval.proofs.Walked.{none_in}

-- none, where the value of a test has no position
pub no_rows : (tables : Tables) (texts : List ℕ) (expr : q.Expr) (tests : List Resolved) (by : ℕ) → AreTexts tables texts → AreTestsOf tables expr tests → by < length tests → AreItsPlaces tables (test_at tests by) (positions_of tables (test_at tests by)) →
    positions_of tables (test_at tests by) ≡ [] → RowsIn tables texts expr []
no_rows tables texts expr tests by are seq within its none = record { ascending = nothing_ascends; only = λ row c. absurd (none_in row c); each = λ row h. absurd (never row h) }
  where
    never : (row : Row) → IsRowIn tables texts expr row → ⊥
    never row h =
        let text = row.span.text in
        let here = All-contains (λ (t : ℕ). t < length tables.texts) texts text are.within h.listed in
        let met = met_at tables expr tests text seq here by row within (record { text_is = refl; some = h.some; inside = h.inside; matches = h.matches }) in
        let inside = met.0 in
        let in_it = in_segment tables (text + 1) in
        none_in _ (subst (λ (ps : List ℕ). Contains ps (first_place tables text + row.span.begin + by)) none (its.back (first_place tables text + row.span.begin + by) (omega (arith, inside, in_it)) met.1))

-- the next text begins behind the one before it
pub text_behind : (tables : Tables) (texts : List ℕ) (i k text later : ℕ) → AreTexts tables texts → text < later → first_place tables (text + 1) ≤ first_place tables later
text_behind tables texts i k text later are l = later_first tables (text + 1) later (omega (arith, l))

pub one_each : (many len : ℕ) → 0 < len → due_of (len - 1) many ≡ len * many
one_each many len some = ap (λ (n : ℕ). n * many) (let e : 1 + (len - 1) ≡ len = omega (arith, some) in e)
