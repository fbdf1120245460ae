use Rattle.std.proofs.Common.{◌≡◌, ℕ, List, length, sym, ◌∙◌, ap, subst, arith}
use Rattle.mt_segment_spec.specs.Tables.{number_at, token_count}
use Rattle.mt_tally.specs.Counts.{CountsBelow}
use Rattle.mt_totals.proofs.Values.{no_value, value_listed}
use Rattle.mt_totals.proofs.counts.listed_count.Goals as goal

pub returns-then-id-len : goal.returns-then-id-len
returns-then-id-len c =
    let tables = c.args.segment.now in
    subst (CountsBelow (token_count tables) (λ place. number_at tables c.args.attr place ≡ c.args.id)) (sym (c.len-then-id-len.ensures.count ∙ ap (λ (places : List ℕ). length places) c.postings.ensures))
    (value_listed tables c.args.attr c.places_are_listed.ensures c.tokens-tokens.ensures.valid c.requires c.args.id (omega (arith, c.if-id-len.true, c.len.ensures.number, ap length c.lexicon.ensures)))

pub returns-else-id-len : goal.returns-else-id-len
returns-else-id-len c =
    let tables = c.args.segment.now in
    no_value tables c.args.attr (c.tables_are_whole.ensures tables c.tokens-tokens.ensures.valid) c.requires c.args.id (omega (arith, c.if-id-len.false, c.len.ensures.number, ap length c.lexicon.ensures))
