use Rattle.std.proofs.Common.{◌≡◌, get_or, sym, subst}
use Rattle.std.proofs.lemmas.List.{get_or_default}
use Rattle.mt_cql.specs.Shape.{shape}
use Rattle.mt_prepare.specs.TestRows.{SaysAt}
use Rattle.mt_prepare.specs.declared.resolved.Resolved.{Resolved}
use Rattle.mt_prepare.specs.declared.resolved.Resolved.TheVariants as resolved
use Rattle.mt_eval.specs.Sequences.{test_at}
use Rattle.mt_eval.proofs.Rowed.{no_row, not_met}
use Rattle.mt_eval.proofs.scan.look_at.Goals as goal

pub add_at-requires-clause-meets : goal.add_at-requires-clause-meets
add_at-requires-clause-meets g c =
    let tests = c.args.sequence.now.tests.now in
    let by = c.args.sequence.now.by in
    let at : get_or tests by c.index-sequence-sequence.result ≡ test_at tests by = get_or_default tests by c.index-sequence-sequence.result resolved.Any c.requires.by in
    subst (λ (test : Resolved). SaysAt c.args.segment.now test c.args.place) at (c.says.ensures.says.0 c.if-not-says.false)

pub returns-then-not-says-clause-ok : goal.returns-then-not-says-clause-ok
returns-then-not-says-clause-ok g c =
    let T = c.args.segment.now in
    let E = shape c.args.sequence.now.expr.now in
    let tests = c.args.sequence.now.tests.now in
    let by = c.args.sequence.now.by in
    let at : get_or tests by c.index-sequence-sequence.result ≡ test_at tests by = get_or_default tests by c.index-sequence-sequence.result resolved.Any c.requires.by in
    no_row T E tests c.args.text c.requires.tests c.requires.text by c.args.place c.args.room c.args.out.now
    (not_met T E tests c.args.text c.requires.tests c.requires.text by c.args.place c.requires.by (λ says. let e = c.if-not-says.ensures.says.1 (subst (λ (test : Resolved). SaysAt T test c.args.place) (sym at) says) in let f : ⊥ = cc in f))
