use Rattle.std.proofs.Common.{ℕ, ◌+◌, ◌-◌, ◌*◌, ◌^◌, ◌≤◌, List, length, subst}
use Rattle.mt_prepare.proofs.Finding.{one_found}
use Rattle.mt_prepare.proofs.Resolving.{literal_resolved}
use Rattle.mt_prepare.proofs.tests_resolved.resolved_literal.Goals as goal

pub returns-clause-resolves : goal.returns-clause-resolves
returns-clause-resolves g c =
    literal_resolved c.args.segment.now c.args.attr c.args.text.now c.args.not c.find-id.result (c.tables_are_whole.ensures c.args.segment.now c.texts-valid.ensures.valid) c.requires.known
    (rw c.lexicon-lexicon.ensures at c.len-ascending.ensures.ascending) (rw (c.lexicon-lexicon.ensures, c.as_str.ensures) at c.find-id.ensures.found) (rw (c.lexicon-lexicon.ensures, c.as_str.ensures) at c.find-id.ensures.none)

pub returns-clause-finds : goal.returns-clause-finds
returns-clause-finds g c =
    one_found c.args.segment.now c.args.attr c.args.text.now c.args.not _
    (subst (λ (lexicon : List (List ℕ)). 2 ^ (c.find-id.new.steps - c.args.steps.now) ≤ 2 * length lexicon + 1) c.lexicon-lexicon.ensures c.find-id.ensures.cost)
