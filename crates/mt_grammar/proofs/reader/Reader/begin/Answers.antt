use Rattle.std.proofs.Common.{◌≤◌, ◌∙◌, sym, ap, subst, arith, length, None, Some}
use Rattle.mt_text_spec.specs.Queries.{RelationKind, Relation}
use Rattle.mt_grammar_spec.specs.GrammarLines.{Heads}
use Rattle.mt_grammar_spec.specs.GrammarFile.{IsNoHeading}
use Rattle.mt_grammar.specs.declared.error.LineCause.TheVariants as cause
use Rattle.mt_grammar.specs.Reading.{State, before_of, relations_in, HasDone}
use Rattle.mt_grammar.specs.Seen.{kind_seen}
use Rattle.mt_grammar.proofs.Causes.{heading_first, many_headings_first}
use Rattle.mt_grammar.proofs.Taken.{told, heading_done}
use Rattle.mt_grammar.proofs.reader.Reader.begin.Goals as goal

pub returns-in_default-clause-err : goal.returns-in_default-clause-err
returns-in_default-clause-err c =
    told c.args.registry.now c.args.self.now (Heads c.args.heading.now) cause.Heading c.refused.result c.refused.ensures
    (heading_first c.args.registry.now (before_of c.args.self.now) c.args.heading.now (subst (λ (k : RelationKind). IsNoHeading k c.args.heading.now) c.waiting-kind.ensures c.in_default.ensures.bad))

pub returns-then-headings-eq-HEADINGS_LIMIT-clause-err : goal.returns-then-headings-eq-HEADINGS_LIMIT-clause-err
returns-then-headings-eq-HEADINGS_LIMIT-clause-err c =
    let many : 256 ≤ length (relations_in c.args.self.now) = let e = c.headings.ensures in let t = c.if-headings-eq-HEADINGS_LIMIT.true in omega (arith, e, t) in
    told c.args.registry.now c.args.self.now (Heads c.args.heading.now) cause.TooMany c.refused-then-headings-eq-HEADINGS_LIMIT.result c.refused-then-headings-eq-HEADINGS_LIMIT.ensures
    (many_headings_first c.args.registry.now (before_of c.args.self.now) c.args.heading.now (subst (λ (k : RelationKind). IsNoHeading k c.args.heading.now → ⊥) c.waiting-kind.ensures c.in-Some.ensures.good) many)

pub returns-clause-ok : goal.returns-clause-ok
returns-clause-ok c =
    let closed = c.self.view_is ∙ c.in_ok-close.ensures in
    subst (λ (n : State). HasDone c.args.registry.now c.args.self.now (Heads c.args.heading.now) n)
    (sym (ap (λ (s : State). record s { pending = None; last = Some c.in_ok-relation.relation }) closed ∙
    ap (λ (r : Relation). record c.args.self.now { pending = None; done = relations_in c.args.self.now; last = Some r }) c.in_ok-relation.ensures))
    (heading_done c.args.registry.now c.args.self.now c.args.heading.now c.in-Some.names.first.now c.in-Some.names.second.now (kind_seen c.waiting-kind.result) c.requires c.waiting-kind.ensures
    c.in-Some.ensures.good c.in-Some.ensures.first c.in-Some.ensures.second (λ e. c.if-headings-eq-HEADINGS_LIMIT.false (c.headings.ensures ∙ e)))
