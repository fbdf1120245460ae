use Rattle.std.proofs.Common.{ℕ, List, ap₂, ◌∙◌, arith}
use Rattle.std.proofs.lemmas.List.{take_all}
use Rattle.mt_counts.specs.Notes.{pairs_of}
use Rattle.mt_counts.proofs.Counting.{pairs_none, pairs_more}
use Rattle.mt_counts.proofs.blocks.list_pairs.Goals as goal

pub loop-k-init : goal.loop-k-init
loop-k-init c = pairs_none c.args.rows.now c.args.columns.now c.clear.new.self.items c.clear.ensures.items

pub loop-k-preserved : goal.loop-k-preserved
loop-k-preserved c = pairs_more c.args.rows.now c.args.columns.now c.loop-k.k _ _ c.loop-k.pairs.items c.push.new.self.items c.requires c.loop-k-test.true c.loop-k.invariant c.in_ok-push.ensures.items

pub returns : goal.returns
returns c = c.loop-k.invariant ∙ ap₂ (λ (rows : List ℕ) (columns : List (ℕ × ℕ)). pairs_of rows columns) (take_all c.loop-k.k c.args.rows.now (omega arith)) (take_all c.loop-k.k c.args.columns.now (omega (arith, c.requires)))
