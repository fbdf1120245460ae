use Rattle.std.proofs.Common.{◌∙◌, ◌<◌, ◌++◌, ℕ, length, ap, sym, subst, arith}
use Rattle.std.specs.List.{All}
use Rattle.mt_lexicon.specs.Joins.{renumbered}
use Rattle.mt_generate_tables.proofs.Codes.{of_part, one_part_more}
use Rattle.mt_generate_tables.proofs.drawing.push_parts.Goals as goal

pub push_renumbered-requires : goal.push_renumbered-requires
push_renumbered-requires c =
    let low = λ (code : ℕ). code < length c.args.table.now in
    let within : c.loop-k.k < length c.args.parts.now = omega (arith, c.len-k-end.ensures, c.loop-k-test.true) in
    let part : All low c.get.result.now = subst (All low) (sym c.get.ensures) (of_part low c.args.parts.now c.loop-k.k c.get.result.now c.requires within) in
    subst (All low) (sym c.as_slice.ensures) part

pub loop-k-preserved : goal.loop-k-preserved
loop-k-preserved c =
    let within : c.loop-k.k < length c.args.parts.now = omega (arith, c.len-k-end.ensures, c.loop-k-test.true) in
    one_part_more c.args.table.now c.args.parts.now c.loop-k.k c.get.result.now c.loop-k.numbers.items c.push_renumbered.new.next.items c.args.numbers.now.items within c.get.ensures c.loop-k.invariant
    (c.in_ok-push_renumbered.ensures ∙ ap (λ ns. c.loop-k.numbers.items ++ renumbered c.args.table.now ns) c.as_slice.ensures)
