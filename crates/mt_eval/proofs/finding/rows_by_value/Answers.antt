use Rattle.std.proofs.Common.{◌≡◌, ℕ, ◌-◌, ◌*◌, [], List, get_or, length, sym, ◌∙◌, ap, subst, arith}
use Rattle.std.proofs.lemmas.List.{get_or_default}
use Rattle.mt_text_spec.specs.Texts.{Row}
use Rattle.mt_cql.specs.Shape.{shape}
use Rattle.mt_eval_spec.specs.RowsIn.{RowsIn}
use Rattle.mt_prepare.specs.declared.resolved.Resolved.TheVariants as resolved
use Rattle.mt_eval.specs.Sequences.{positions_of, test_at}
use Rattle.mt_eval.specs.Walks.{IsLeft, left_of}
use Rattle.mt_eval.proofs.Few.{its_places}
use Rattle.mt_eval.proofs.Sought.{no_rows, one_each}
use Rattle.mt_eval.proofs.Walked.{all_left}
use Rattle.mt_eval.proofs.finding.rows_by_value.Goals as goal

pub walked-requires-clause-left : goal.walked-requires-clause-left
walked-requires-clause-left g c =
    let T = c.args.asked.now.segment.now in
    let P = positions_of T (test_at c.args.sequence.now.tests.now c.args.sequence.now.by) in
    let known = c.texts-valid.ensures.valid in
    let its = its_places c.places_are_listed.ensures T known (c.tables_are_whole.ensures T known) (test_at c.args.sequence.now.tests.now c.args.sequence.now.by) (c.requires.tests.attrs c.args.sequence.now.by resolved.Any c.requires.by) c.requires.one in
    let at : get_or c.args.sequence.now.tests.now c.args.sequence.now.by c.index-sequence-sequence.result ≡ test_at c.args.sequence.now.tests.now c.args.sequence.now.by = get_or_default c.args.sequence.now.tests.now c.args.sequence.now.by c.index-sequence-sequence.result resolved.Any c.requires.by in
    let same : left_of c.new-walk.result.next c.new-walk.result.rest ≡ P = c.new-walk.ensures.left ∙ c.in-Some.ensures.some ∙ ap (positions_of T) at in
    subst (IsLeft P 0) (sym same) (all_left P its.ascending)

pub returns-in-None-clause-rows : goal.returns-in-None-clause-rows
returns-in-None-clause-rows g c =
    let T = c.args.asked.now.segment.now in
    let E = shape c.args.sequence.now.expr.now in
    let known = c.texts-valid.ensures.valid in
    let tests = c.args.sequence.now.tests.now in
    let by = c.args.sequence.now.by in
    let its = its_places c.places_are_listed.ensures T known (c.tables_are_whole.ensures T known) (test_at tests by) (c.requires.tests.attrs by resolved.Any c.requires.by) c.requires.one in
    let at : get_or tests by c.index-sequence-sequence.result ≡ test_at tests by = get_or_default tests by c.index-sequence-sequence.result resolved.Any c.requires.by in
    let none : positions_of T (test_at tests by) ≡ [] = ap (positions_of T) (sym at) ∙ c.in-None.ensures.none in
    subst (λ (rows : List Row). RowsIn T c.args.asked.now.texts.now E rows) (sym c.requires.none) (no_rows T c.args.asked.now.texts.now E tests by c.requires.texts c.requires.tests c.requires.by its none)

pub returns-in-Some-clause-ones : goal.returns-in-Some-clause-ones
returns-in-Some-clause-ones g c = λ ones.
    let T = c.args.asked.now.segment.now in
    let tests = c.args.sequence.now.tests.now in
    let by = c.args.sequence.now.by in
    let at : get_or tests by c.index-sequence-sequence.result ≡ test_at tests by = get_or_default tests by c.index-sequence-sequence.result resolved.Any c.requires.by in
    let long : length c.in-Some.list.now ≡ length (positions_of T (test_at tests by)) = ap length (c.in-Some.ensures.some ∙ ap (positions_of T) at) in
    let each = one_each (length c.in-Some.list.now) (length tests) (let l = c.requires.by in omega (arith, l)) in
    let product = ap (λ (n : ℕ). length tests * n) long in
    omega (arith, c.walked.ensures.ones ones, c.new-walk.ensures.due (length tests - 1), each, product)
