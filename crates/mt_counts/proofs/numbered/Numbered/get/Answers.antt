use Rattle.std.proofs.Common.{◌≡◌, Some, length, slice_get, subst}
use Rattle.mt_counts.specs.Numbered.{Numbering}
use Rattle.mt_counts.specs.declared.numbered.Entry.{Entry}
use Rattle.mt_counts.proofs.Contexts.{pair_at_place, first_below}
use Rattle.mt_counts.proofs.numbered.Numbered.get.Goals as goal

pub get-word-requires : goal.get-word-requires
get-word-requires c =
    let t = c.self.inside.tables.now in
    first_below t.both (length t.rows) (length t.words) c.args.place c.get-row.result.0 c.get-row.result.1 c.self.invariant.both c.get-row.ensures

pub returns : goal.returns
returns c =
    let row = c.get-row.result in
    let word = c.get-word.result in
    let pair = c.numbered_count-context.result in
    let entry : Entry = record { word = word.0.0; context = pair.0; both = row.1; left = word.1; right = pair.1 } in
    subst (λ (n : Numbering). slice_get n.entries c.args.place ≡ Some entry) c.self.view_is
    (pair_at_place c.self.inside.tables.now c.args.place row.0.0 row.0.1 word.0.0 word.0.1 row.1 word.1 pair.0 pair.1 c.get-row.ensures c.get-word.ensures c.numbered_count-context.ensures.place c.numbered_count-context.ensures.count)
