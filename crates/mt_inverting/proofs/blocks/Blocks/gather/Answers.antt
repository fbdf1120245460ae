use Rattle.std.proofs.Common.{◌≡◌, ℕ, ◌+◌, ◌*◌, ◌<◌, ◌++◌, ◌∙◌, List, map, take, length, sym, ap, subst, arith}
use Rattle.mt_segment_spec.specs.Tables.{ArePlacesOf}
use Rattle.mt_segment.specs.Parts.{part}
use Rattle.mt_inverting.specs.Blocks.{Column}
use Rattle.mt_inverting.proofs.Runs.{all_runs, are_positions, block_at, has_parts, next_run}
use Rattle.mt_inverting.proofs.blocks.Blocks.gather.Goals as goal

pub places_of-requires-clause-parts : goal.places_of-requires-clause-parts
places_of-requires-clause-parts c =
    has_parts c.self.inside.column.now c.self.inside.count c.loop-k.k c.get-block.result.now
    (block_at c.self.inside.column.now c.self.inside.count c.loop-k.k c.self.inside.blocks c.get-block.result.now c.self.invariant (omega (arith, c.loop-k-test.true, c.len-k-end.ensures)) c.get-block.ensures)

pub loop-k-preserved : goal.loop-k-preserved
loop-k-preserved c =
    let xs = c.self.inside.column.now in
    let block = c.get-block.result.now in
    let low : c.loop-k.k < length c.self.inside.blocks = omega (arith, c.loop-k-test.true, c.len-k-end.ensures) in
    let before = subst (λ (v : Column). ArePlacesOf c.args.number (take (65536 * c.loop-k.k) v.numbers) c.loop-k.places.items) (sym c.self.view_is) c.loop-k.invariant in
    let more : c.push_places.new.places.items ≡ c.loop-k.places.items ++ map (λ place. 65536 * c.loop-k.k + place) (part block.places block.ends c.args.number) =
    c.in_ok-push_places.ensures ∙ ap (λ (ps : List ℕ). c.loop-k.places.items ++ map (λ place. 65536 * c.loop-k.k + place) ps) c.places_of.ensures in
    subst (λ (v : Column). ArePlacesOf c.args.number (take (65536 * (c.loop-k.k + 1)) v.numbers) c.push_places.new.places.items) c.self.view_is
    (next_run xs c.self.inside.count c.loop-k.k c.args.number (65536 * c.loop-k.k) block c.loop-k.places.items c.push_places.new.places.items (omega (arith, low, c.self.invariant.within))
    (block_at xs c.self.inside.count c.loop-k.k c.self.inside.blocks block c.self.invariant low c.get-block.ensures) (omega (arith, c.requires, ap (λ v. v.count) c.self.view_is)) before (omega arith) more)

pub returns-clause-valid : goal.returns-clause-valid
returns-clause-valid c =
    let xs = c.self.inside.column.now in
    let here = subst (λ (v : Column). ArePlacesOf c.args.number (take (65536 * c.loop-k.k) v.numbers) c.loop-k.places.items) (sym c.self.view_is) c.loop-k.invariant in
    let all : c.loop-k.k ≡ length c.self.inside.blocks = omega (arith, c.loop-k-test.false, c.loop-k.auto.k-end, c.len-k-end.ensures) in
    are_positions xs c.args.number c.loop-k.places.items c.self.invariant.short (all_runs xs c.args.number c.loop-k.k (length c.self.inside.blocks) c.loop-k.places.items all c.self.invariant.whole here)
