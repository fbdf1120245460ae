use Rattle.std.proofs.Common.{◌≤◌, length, ◌∙◌, ap₂, arith}
use Rattle.std.specs.Prelude.{slice_range}
use Rattle.mt_segment.proofs.Blocks.{at_most, joined_parts, rises}
use Rattle.mt_segment.proofs.lists.between.Goals as goal
use Rattle.mt_segment.proofs.lists.between.Goals.{After-begin_of-end}
use Rattle.mt_segment.proofs.lists.between.Given as given

-- the begin is not behind the end
in_order : (g : given.Over) (c : After-begin_of-end g) → c.begin_of-begin.result ≤ c.begin_of-end.result
in_order g c = omega (arith, c.begin_of-begin.ensures, c.begin_of-end.ensures, rises 0 (length c.args.items.now) c.args.begins.now c.args.from c.args.to c.requires.begins c.requires.order)

-- and the end not behind the block's
inside : (g : given.Over) (c : After-begin_of-end g) → c.begin_of-end.result ≤ length c.args.items.now
inside g c = omega (arith, c.begin_of-end.ensures, at_most (length c.args.items.now) c.args.begins.now c.args.to c.requires.begins)

pub offset_bounds-items-begin : goal.offset_bounds-items-begin
offset_bounds-items-begin g c =
    let at = (goal.at.offset_bounds-items-begin g c).After-begin_of-end in
    omega (arith, in_order g at, inside g at)

pub slice_bounds-result-count : goal.slice_bounds-result-count
slice_bounds-result-count g c = in_order g (goal.at.slice_bounds-result-count g c).After-begin_of-end

pub slice_bounds-result-start : goal.slice_bounds-result-start
slice_bounds-result-start g c = in_order g (goal.at.slice_bounds-result-start g c).After-begin_of-end

pub slice_bounds-result-end : goal.slice_bounds-result-end
slice_bounds-result-end g c = inside g (goal.at.slice_bounds-result-end g c).After-begin_of-end

pub returns : goal.returns
returns g c =
    ap₂ (slice_range c.args.items.now) c.begin_of-begin.ensures c.begin_of-end.ensures ∙ joined_parts c.args.items.now c.args.begins.now c.args.from c.args.to c.requires.begins c.requires.order
