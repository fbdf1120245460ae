use Rattle.std.proofs.Common.{subst}
use Rattle.mt_text_spec.specs.Registries.{Registry}
use Rattle.mt_grammar.specs.Errors.{IsRefusal}
use Rattle.mt_rules.proofs.Declines.{unread_declines}
use Rattle.mt_rules.proofs.rules.Rules.read.Goals as goal

pub returns-in-Err-clause-declined : goal.returns-in-Err-clause-declined
returns-in-Err-clause-declined g c =
    let refusal = subst (λ (r : Registry). IsRefusal r c.args.bytes.now c.in-Err.error) c.registry.ensures.registry c.in-Err.ensures.refused in
    unread_declines c.args.corpus.now c.args.bytes.now _ c.no_grammar.result (c.no_grammar.ensures.refused c.args.corpus.now.registry c.args.bytes.now refusal)
