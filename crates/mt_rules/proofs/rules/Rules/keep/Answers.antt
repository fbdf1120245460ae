use Rattle.std.proofs.Common.{Err, [], ◌∷◌, ap, sym, subst}
use Rattle.mt_rule_spec.specs.Rules.{HasTooManyIn}
use Rattle.mt_grammar_counts.specs.declared.error.CountError.TheVariants.{TooManyRows}
use Rattle.mt_counts.specs.Counted.{Counted}
use Rattle.mt_triples.specs.CountsOf.{AreCountsOf}
use Rattle.mt_rules.specs.Ruled.{Ruled, AreOver}
use Rattle.mt_rules.specs.Keeping.{IsNotTooRich}
use Rattle.mt_rules.proofs.Outcomes.{on_ok, same_error}
use Rattle.mt_rules.proofs.Rooms.{too_many_in, not_too_many}
use Rattle.mt_rules.proofs.rules.Rules.keep.Goals as goal

pub returns-in_err-count_added-clause-too_many : goal.returns-in_err-count_added-clause-too_many
returns-in_err-count_added-clause-too_many g c = λ text may h images by.
    subst (λ (r : Ruled). HasTooManyIn images c.args.corpus.now.registry r.grammar text) c.self.view_is
    (too_many_in images c.args.corpus.now.registry c.self.inside.grammar text
    (c.in_err-count_added.ensures.too_many images text may by (ap Err (same_error c.from_residual.result c.in_err-count_added.field-0.0 TooManyRows c.from_residual.ensures.1 h))))

pub keep_counted-kept-requires-clause-over : goal.keep_counted-kept-requires-clause-over
keep_counted-kept-requires-clause-over g c = subst (λ (r : Ruled). AreOver c.args.corpus.now r) (sym c.self.view_is) c.requires.over

pub keep_counted-kept-requires-clause-counts : goal.keep_counted-kept-requires-clause-counts
keep_counted-kept-requires-clause-counts g c = λ text may. record {
  counts = λ images by.
      subst (λ (counted : Counted). AreCountsOf images c.args.corpus.now.registry c.self.inside.grammar (text ∷ []) counted) (sym c.noted.ensures) (c.in_ok-count_added.ensures.counts images text may by);
  room = λ images by. c.in_ok-count_added.ensures.room images text may by;
}

pub returns-clause-room : goal.returns-clause-room
returns-clause-room g c = λ text may.
    let fine : IsNotTooRich c.args.corpus.now c.self.inside.grammar text c.args.segment = λ images by many. not_too_many images c.args.corpus.now.registry c.self.inside.grammar text (c.in_ok-count_added.ensures.room images text may by) many in
    on_ok c.keep_counted-kept.result (IsNotTooRich c.args.corpus.now c.args.self.now.grammar text c.args.segment)
    (subst (λ (r : Ruled). IsNotTooRich c.args.corpus.now r.grammar text c.args.segment) c.self.view_is fine)
