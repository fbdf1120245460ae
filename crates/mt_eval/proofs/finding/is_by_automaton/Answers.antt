use Rattle.std.proofs.Common.{length, sym, ◌∙◌, ap, arith}
use Rattle.mt_text_spec.specs.Queries.{Expr}
use Rattle.mt_query_spec.specs.Contents.{token_tests}
use Rattle.mt_prepare.specs.Prepared.{IsReady}
use Rattle.mt_prepare.specs.Resolved.{Resolves}
use Rattle.mt_eval_spec.specs.RowsIn.{heads}
use Rattle.mt_eval.proofs.Exprs.{together, same_count}
use Rattle.mt_eval.proofs.Few.{some_one}
use Rattle.mt_eval.proofs.finding.is_by_automaton.Goals as goal

pub get-ready-requires : goal.get-ready-requires
get-ready-requires c = let count = same_count (IsReady c.args.segment.now) (heads c.args.query.now) c.args.prepared.now.exprs c.requires in omega (arith, count)

pub looked_by-requires : goal.looked_by-requires
looked_by-requires c =
    let T = c.args.segment.now in
    let Q = c.args.query.now in
    let ready : IsReady T Q.head c.get-ready.result.now = rw c.get-ready.ensures (together (IsReady T) (heads Q) c.args.prepared.now.exprs 0 Q.head c.get-ready.result.now c.requires (omega arith)) in
    rw c.as_slice-tests.ensures ready.attrs

pub suits_automaton-requires : goal.suits_automaton-requires
suits_automaton-requires c =
    let T = c.args.segment.now in
    let Q = c.args.query.now in
    let ready : IsReady T Q.head c.get-ready.result.now = rw c.get-ready.ensures (together (IsReady T) (heads Q) c.args.prepared.now.exprs 0 Q.head c.get-ready.result.now c.requires (omega arith)) in
    rw c.as_slice-tests.ensures (same_count (Resolves T) (token_tests Q.head) c.get-ready.result.now.tests ready.tests_are ∙ ap (λ (e : Expr). length (token_tests e)) (sym c.head-expr.ensures))

pub returns-in-None : goal.returns-in-None
returns-in-None c = λ _ e.
    let T = c.args.segment.now in
    let Q = c.args.query.now in
    let ready : IsReady T Q.head c.get-ready.result.now = rw c.get-ready.ensures (together (IsReady T) (heads Q) c.args.prepared.now.exprs 0 Q.head c.get-ready.result.now c.requires (omega arith)) in
    absurd (some_one Q.head c.get-ready.result.now.tests e ready.numbers (rw (← c.as_slice-tests.ensures, ← c.head-expr.ensures) c.in-None.ensures.none))
