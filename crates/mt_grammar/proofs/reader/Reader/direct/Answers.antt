use Rattle.std.proofs.Common.{ap}
use Rattle.mt_grammar_spec.specs.GrammarLines.{OfKind, DefaultAttr, StructLimit, Unknown}
use Rattle.mt_grammar.specs.declared.error.LineCause.TheVariants as cause
use Rattle.mt_grammar.specs.Reading.{State, before_of}
use Rattle.mt_grammar.specs.Seen.{kind_seen}
use Rattle.mt_grammar.specs.SeenLine.{directive_seen}
use Rattle.mt_grammar.proofs.Causes.{unknown_first, kind_first, attr_first, limit_first}
use Rattle.mt_grammar.proofs.Taken.{directive_told, waits}
use Rattle.mt_grammar.proofs.reader.Reader.direct.Goals as goal

pub returns-in-Some-clause-err : goal.returns-in-Some-clause-err
returns-in-Some-clause-err c =
    directive_told c.args.registry.now c.args.self.now c.args.directive (OfKind (kind_seen c.in-Kind.kind)) cause.Kind c.refused.result (ap directive_seen c.in-Kind.is) c.refused.ensures
    (kind_first c.args.registry.now (before_of c.args.self.now) (kind_seen c.in-Kind.kind) (waits kind_seen c.self.inside.pending c.args.self.now.pending c.in-Some.field-0 (ap (λ (s : State). s.pending) c.self.view_is) c.in-Some.is))

pub returns-in-None-find_attr-clause-err : goal.returns-in-None-find_attr-clause-err
returns-in-None-find_attr-clause-err c =
    directive_told c.args.registry.now c.args.self.now c.args.directive (DefaultAttr c.in-DefaultAttr.name.now) cause.Name c.refused-in-None-find_attr.result (ap directive_seen c.in-DefaultAttr.is) c.refused-in-None-find_attr.ensures
    (attr_first c.args.registry.now (before_of c.args.self.now) c.in-DefaultAttr.name.now c.in-None-find_attr.ensures.none)

pub returns-in-None-find_kind-clause-err : goal.returns-in-None-find_kind-clause-err
returns-in-None-find_kind-clause-err c =
    directive_told c.args.registry.now c.args.self.now c.args.directive (StructLimit c.in-StructLimit.name.now) cause.Name c.refused-in-None-find_kind.result (ap directive_seen c.in-StructLimit.is) c.refused-in-None-find_kind.ensures
    (limit_first c.args.registry.now (before_of c.args.self.now) c.in-StructLimit.name.now c.in-None-find_kind.ensures.none)

pub returns-in-Unknown-clause-err : goal.returns-in-Unknown-clause-err
returns-in-Unknown-clause-err c =
    directive_told c.args.registry.now c.args.self.now c.args.directive Unknown cause.Directive c.refused-in-Unknown.result (ap directive_seen c.in-Unknown.is) c.refused-in-Unknown.ensures
    (unknown_first c.args.registry.now (before_of c.args.self.now))
