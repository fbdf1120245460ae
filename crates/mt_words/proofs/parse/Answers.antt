use Rattle.std.proofs.Common.{rules, ap₂, subst, refl, codes, true, map, ◌≡◌, ◌∙◌}
use Rattle.clap.specs.Words.{app_of, rule_of, fault_of, is_simple_and_free, with_rule, FailsBy}
use Rattle.clap.proofs.OnLiterals.{clap_on_literals}
use Rattle.mt_words.specs.Words.{shell, option}
use Rattle.mt_words.proofs.parse.Goals as goal

is_free : is_simple_and_free shell ≡ true
unfolding clap_on_literals
is_free = refl

pub returns-clause-kinds : goal.returns-clause-kinds
returns-clause-kinds c =
    let workers_is : rule_of c.action-workers.result ≡ option (codes "workers") = search rules in
    let demo_is : rule_of c.action-demo.result ≡ option (codes "demo") = search rules in
    let shell_is : app_of c.in_ok-command.command ≡ shell = c.in_ok-command.ensures.shape (search rules)
    ∙ ap₂ with_rule (c.in_ok-arg.ensures.shape (search rules) ∙ ap₂ with_rule c.new-3.ensures.app workers_is) demo_is in
    subst (λ a. is_simple_and_free a ≡ true → FailsBy (fault_of a (map (λ w. w.now) c.args.words.now)) c.try_get_matches_from.result) shell_is c.try_get_matches_from.ensures.kinds is_free
