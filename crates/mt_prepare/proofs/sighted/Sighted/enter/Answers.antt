use Rattle.std.proofs.Common.{◌≡◌, refl, ◌∙◌, ap, length, arith}
use Rattle.std.specs.Vec.{with_items}
use Rattle.std.proofs.lemmas.List.{with_items_is}
use Rattle.mt_prepare.proofs.Sights.{spans_long, some_spans, has_entered}
use Rattle.mt_prepare.proofs.sighted.Sighted.enter.Goals as goal

pub enter_all-requires-clause-spans_count : goal.enter_all-requires-clause-spans_count
enter_all-requires-clause-spans_count c =
    let sees = c.requires.sees in
    rw (c.as_slice.ensures, c.deref.ensures.value) (spans_long c.args.segment.now sees.0 c.args.ready.now sees.2 c.args.self.now sees.1)

pub enter_all-requires-clause-spans : goal.enter_all-requires-clause-spans
enter_all-requires-clause-spans c =
    let sees = c.requires.sees in
    rw (c.as_slice.ensures, c.deref.ensures.value) (some_spans c.args.segment.now sees.0 c.args.ready.now sees.2 c.args.self.now sees.1)

pub returns-clause-entered : goal.returns-clause-entered
returns-clause-entered c =
    let tags = c.enter_all.new.tags in
    let count = c.enter_all.ensures.count ∙ ap length c.deref_mut.ensures.value in
    let long : length tags ≡ c.args.self.now.tags.len = omega (arith, count, c.args.self.now.tags.ok.0) in
    has_entered c.enter_all.result c.args.segment.now c.args.text c.args.ready.now c.args.self.now (record { rows = c.args.self.now.rows; tags = with_items c.args.self.now.tags tags; kinds = c.args.self.now.kinds }) tags refl refl
    (with_items_is c.args.self.now.tags tags long) count (rw (c.as_slice.ensures, c.deref.ensures.value) at c.enter_all.ensures.entered)
