use Rattle.std.proofs.Common.{refl, subst}
use Rattle.mt_corpus_spec.specs.Images.{Corpus}
use Rattle.mt_rules.specs.Ruled.{AreOver}
use Rattle.mt_shell.specs.Holding.{grammar_of}
use Rattle.mt_shell.proofs.Holding.{same_corpus}
use Rattle.mt_shell.proofs.Ruling.{count_said, rules_set, rules_starved, sound_ruled, grammar_held, serves_ruled}
use Rattle.mt_shell.proofs.state.State.keep_rules.Goals as goal

pub returns-in_default-clause-means : goal.returns-in_default-clause-means
returns-in_default-clause-means g c = λ bytes refused reads. rules_starved g.setting c.args.self.now.held c.args.self.now.held bytes refused refl

pub invariant_of-self : goal.invariant_of-self
invariant_of-self g c =
    rw c.hold.ensures (sound_ruled c.self.inside.accepted c.self.inside.rules c.args.rules c.self.inside.corpus c.held_is_valid.ensures
    (subst (λ (corpus : Corpus). AreOver corpus c.args.rules) (same_corpus c.args.self.now c.self.inside.accepted (grammar_of c.self.inside.rules) c.self.inside.corpus c.self.view_is) c.requires.1.1.0) c.self.invariant)

pub returns-clause-means : goal.returns-clause-means
returns-clause-means g c = λ bytes refused reads.
    rw c.hold.ensures (rules_set g.setting c.args.self.now _ c.args.rules bytes c.in-Ok.line refused c.requires.1.1.1 reads
    (grammar_held c.self.inside.accepted c.self.inside.rules c.args.rules c.self.inside.corpus c.args.self.now c.self.view_is) (count_said c.relation_count.result c.args.rules c.in-Ok.line c.in-Ok.ensures c.relation_count.ensures))

pub returns-clause-serves : goal.returns-clause-serves
returns-clause-serves g c = λ mappers s. rw c.hold.ensures (serves_ruled c.self.inside.accepted c.self.inside.rules c.args.rules c.self.inside.corpus g.setting mappers c.args.self.now c.self.view_is s)
