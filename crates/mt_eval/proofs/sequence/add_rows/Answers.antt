use Rattle.std.proofs.Common.{rules, ◌≡◌, ℕ, ◌+◌, ◌-◌, ◌≤◌, ◌∷◌, ◌++◌, [], List, Some, Err, IsErrOf, length, sym, subst, ap, ◌∙◌, arith}
use Rattle.std.proofs.lemmas.List.{append-nil, append_assoc, length-append}
use Rattle.mt_segment_spec.specs.Tables.{first_place}
use Rattle.mt_cql.specs.Shape.{shape}
use Rattle.mt_rows.specs.declared.error.EvalError.{EvalError}
use Rattle.mt_rows.specs.declared.error.EvalError.TheVariants.{TooManyRows}
use Rattle.mt_automaton.specs.RowsFrom.{HasLonger, IsRowOfText}
use Rattle.mt_eval_spec.specs.Told.{told}
use Rattle.mt_prepare.specs.declared.resolved.Resolved.TheVariants as resolved
use Rattle.mt_eval.specs.Sequences.{positions_of, test_at}
use Rattle.mt_eval.specs.Walks.{IsLeft, left_of}
use Rattle.mt_eval.proofs.Few.{its_places}
use Rattle.mt_eval.proofs.Walked.{due_some, first_in, from_bound, none_below, none_between, passed, some_left}
use Rattle.mt_eval.proofs.Rowed.{all_rows, longer, next_place, none_yet}
use Rattle.mt_eval.proofs.sequence.add_rows.Goals as goal

pub loop-place-init : goal.loop-place-init
loop-place-init g c =
    let T = c.args.segment.now in
    let b = c.text_bounds-first.ensures in
    let P = positions_of T (test_at c.args.sequence.now.tests.now c.args.sequence.now.by) in
    let was = c.requires.left in
    record {
      bound = first_place T c.args.text;
      high = omega (arith, b.begin, b.order);
      left = rw b.begin at (c.skip_to.ensures.left P was.0 (omega (arith, was.1, b.begin)) was.2);
      rows = [];
      are = none_yet T (shape c.args.sequence.now.expr.now) c.args.sequence.now.tests.now c.args.text c.requires.tests c.requires.text c.args.sequence.now.by c.requires.by;
      appended = sym (append-nil c.args.out.now);
      within = omega arith;
      rises = omega arith;
      due_is = λ ones. omega arith;
    }

pub add_between-requires-clause-meets : goal.add_between-requires-clause-meets
add_between-requires-clause-meets g c =
    let T = c.args.segment.now in
    let tests = c.args.sequence.now.tests.now in
    let by = c.args.sequence.now.by in
    let known = c.tokens-tokens.ensures.valid in
    let its = its_places c.places_are_listed.ensures T known (c.tables_are_whole.ensures T known) (test_at tests by) (c.requires.tests.attrs by resolved.Any c.requires.by) c.requires.one in
    let h = c.loop-place.invariant in
    let place = c.in-Some.place in
    let rest = c.loop-place.walk.rest in
    let left : IsLeft (positions_of T (test_at tests by)) h.bound (place ∷ rest) = subst (IsLeft (positions_of T (test_at tests by)) h.bound) (some_left c.loop-place.walk.next place rest c.in-Some.ensures.some.0) h.left in
    (its.on place (left.only place (first_in place rest))).1

pub returns-in_err-add_between-clause-more : goal.returns-in_err-add_between-clause-more
returns-in_err-add_between-clause-more g c =
    let T = c.args.segment.now in
    let E = shape c.args.sequence.now.expr.now in
    let tests = c.args.sequence.now.tests.now in
    let by = c.args.sequence.now.by in
    let h = c.loop-place.invariant in
    let place = c.in-Some.place in
    let rest = c.loop-place.walk.rest in
    let P = positions_of T (test_at tests by) in
    let left : IsLeft P h.bound (place ∷ rest) = subst (IsLeft P h.bound) (some_left c.loop-place.walk.next place rest c.in-Some.ensures.some.0) h.left in
    let long : length c.loop-place.out ≡ length c.args.out.now + length h.rows = ap length h.appended ∙ length-append c.args.out.now h.rows in
    let k : IsErrOf {E = EvalError} (Err c.in_err-add_between.field-0.0) TooManyRows → HasLonger (IsRowOfText (told T c.args.text) E c.args.text) c.args.room =
    λ e. let m = c.in_err-add_between.ensures.more e in
    longer T E tests c.args.text c.requires.tests c.requires.text by c.requires.by h.bound place c.args.room h.rows m.1 (left.low place (first_in place rest)) h.are m.2
    (omega (arith, m.0, long, c.len.ensures, c.len-before_all.ensures)) in
    search (rules, k)

pub loop-place-preserved : goal.loop-place-preserved
loop-place-preserved g c =
    let T = c.args.segment.now in
    let E = shape c.args.sequence.now.expr.now in
    let tests = c.args.sequence.now.tests.now in
    let by = c.args.sequence.now.by in
    let known = c.tokens-tokens.ensures.valid in
    let its = its_places c.places_are_listed.ensures T known (c.tables_are_whole.ensures T known) (test_at tests by) (c.requires.tests.attrs by resolved.Any c.requires.by) c.requires.one in
    let h = c.loop-place.invariant in
    let place = c.in-Some.place in
    let rest = c.loop-place.walk.rest in
    let here = c.in-Some.ensures.some.0 in
    let P = positions_of T (test_at tests by) in
    let left : IsLeft P h.bound (place ∷ rest) = subst (IsLeft P h.bound) (some_left c.loop-place.walk.next place rest here) h.left in
    let r = c.in_ok-add_between.ensures.ok in
    let long : length c.loop-place.out ≡ length c.args.out.now + length h.rows = ap length h.appended ∙ length-append c.args.out.now h.rows in
    let both = length-append h.rows r.rows in
    record {
      bound = place + 1;
      high = omega (arith, c.in-Some.ensures.some.1);
      left = subst (IsLeft P (place + 1)) (sym c.pass.ensures.left) (passed P h.bound place rest left);
      rows = h.rows ++ r.rows;
      are = next_place T E tests c.args.text c.requires.tests c.requires.text by c.requires.by h.bound place h.rows r.rows (left.low place (first_in place rest))
          (λ p low early inside says. none_between P h.bound place rest p left low early (its.back p inside says)) h.are r.are;
      appended = r.appended ∙ ap (λ (rows : List _). rows ++ r.rows) h.appended ∙ append_assoc c.args.out.now h.rows r.rows;
      within = omega (arith, r.within, h.within, both, long, c.len.ensures, c.len-before_all.ensures);
      rises = omega (arith, h.rises, c.in_ok-add_between.ensures.rises, c.pass.ensures.rises);
      due_is = λ ones. omega (arith, h.due_is ones, c.in_ok-add_between.ensures.ones ones, c.pass.ensures.due (length tests - 1), due_some (length tests - 1) c.loop-place.walk.next place rest here, c.requires.by);
    }

pub returns-clause-left : goal.returns-clause-left
returns-clause-left g c =
    let h = c.loop-place.invariant in
    let P = positions_of c.args.segment.now (test_at c.args.sequence.now.tests.now c.args.sequence.now.by) in
    subst (λ (end : ℕ). IsLeft P end (left_of c.loop-place.walk.next c.loop-place.walk.rest)) c.text_bounds-first.ensures.end
    (from_bound P h.bound c.text_bounds-first.result.1 c.loop-place.walk.next c.loop-place.walk.rest h.high (c.in_default.ensures {u = tt}).none h.left)

pub returns-clause-ok : goal.returns-clause-ok
returns-clause-ok g c =
    let T = c.args.segment.now in
    let E = shape c.args.sequence.now.expr.now in
    let tests = c.args.sequence.now.tests.now in
    let by = c.args.sequence.now.by in
    let known = c.tokens-tokens.ensures.valid in
    let its = its_places c.places_are_listed.ensures T known (c.tables_are_whole.ensures T known) (test_at tests by) (c.requires.tests.attrs by resolved.Any c.requires.by) c.requires.one in
    let h = c.loop-place.invariant in
    let P = positions_of T (test_at tests by) in
    let b = c.text_bounds-first.ensures in
    let none : (p : ℕ) → c.loop-place.walk.next ≡ Some p → c.text_bounds-first.result.1 ≤ p = (c.in_default.ensures {u = tt}).none in
    record {
      rows = h.rows;
      are = all_rows T E tests c.args.text c.requires.tests c.requires.text by c.requires.by h.bound h.rows
          (λ p low early inside says. none_below P h.bound c.text_bounds-first.result.1 c.loop-place.walk.next c.loop-place.walk.rest p h.left none low (omega (arith, early, b.end)) (its.back p inside says)) h.are;
      within = h.within;
      appended = h.appended;
    }
