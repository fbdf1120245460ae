use Rattle.std.proofs.Common.{sym, subst}
use Rattle.mt_corpus_spec.specs.Images.{Corpus}
use Rattle.mt_rules.specs.Ruled.{AreOver}
use Rattle.mt_rules.specs.Reading.{DeclinesRules, ReadsRules}
use Rattle.mt_shell.specs.Holding.{grammar_of}
use Rattle.mt_shell.proofs.Holding.{same_corpus}
use Rattle.mt_shell.proofs.Ruling.{rules_declined}
use Rattle.mt_shell.proofs.state.State.read_rules.Goals as goal

pub keep_rules-requires : goal.keep_rules-requires
keep_rules-requires g c = λ κs h. (
  h.0,
  (
    h.1,
    (
      subst (λ (corpus : Corpus). AreOver corpus c.in-Ok.rules) (sym (same_corpus c.args.self.now c.self.inside.accepted (grammar_of c.self.inside.rules) c.self.inside.corpus c.self.view_is)) c.in-Ok.ensures.reads.over,
      c.requires.1.1.1.1,
    ),
  ),
)

pub returns-in-Ok-clause-means : goal.returns-in-Ok-clause-means
returns-in-Ok-clause-means g c = rw c.in-Ok.ensures.shop (c.keep_rules.ensures.means c.args.bytes.now _
    (subst (λ (corpus : Corpus). ReadsRules corpus c.args.bytes.now c.in-Ok.rules) (sym (same_corpus c.args.self.now c.self.inside.accepted (grammar_of c.self.inside.rules) c.self.inside.corpus c.self.view_is)) c.in-Ok.ensures.reads))

pub returns-in-Err-clause-means : goal.returns-in-Err-clause-means
returns-in-Err-clause-means g c = rules_declined g.setting c.args.self.now c.args.bytes.now c.in-Err.declined c.reply.result _ _ c.requires.1.1.1.1
    (subst (λ (corpus : Corpus). DeclinesRules corpus c.args.bytes.now (g.P.PatternShop.refused c.args.shop.now) (g.P.PatternShop.refused c.read.new.shop) c.in-Err.declined) (sym (same_corpus c.args.self.now c.self.inside.accepted (grammar_of c.self.inside.rules) c.self.inside.corpus c.self.view_is)) c.in-Err.ensures.declined) c.reply.ensures
