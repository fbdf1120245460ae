use Rattle.std.proofs.Common.{◌≡◌, ◌≤◌, refl, Err, rules, arith}
use Rattle.mt_rows.specs.declared.error.EvalError.TheVariants.{TooManyRows}
use Rattle.mt_shapes.proofs.Bits.{in_room}
use Rattle.mt_shapes.proofs.OneByOne.{none_yet, next_begin, more_than_room, all_there, of_one_text, longer_of, IsInstance}
use Rattle.mt_shapes.proofs.instances.rows_of_begins.Goals as goal

pub loop-at-init : goal.loop-at-init
loop-at-init g c = record { count = refl; added = none_yet (IsInstance (g.V.View.seen c.args.view.now) c.args.tag c.args.text) c.args.room c.args.out.now }

pub overflow_add-from : goal.overflow_add-from
overflow_add-from g c =
    let low : c.in-Some.at ≤ (g.V.View.seen c.args.view.now).text.tokens = c.requires.inside c.in-Some.at c.in-Some.ensures.found.is_in in
    omega (arith, low, c.requires.few)

pub loop-at-preserved : goal.loop-at-preserved
loop-at-preserved g c =
    let v = g.V.View.seen c.args.view.now in
    let h = c.loop-at.invariant in
    let found = c.in-Some.ensures.found in
    record {
      count = omega (arith, h.count, c.in_ok-row_at.ensures.longer, c.in_ok-row_at.ensures.within);
      added =
          next_begin (IsInstance v c.args.tag c.args.text) c.args.text c.args.room c.loop-at.left c.loop-at.from c.in-Some.at c.args.out.now c.loop-at.out c.row_at.new.out (of_one_text v c.args.tag c.args.text) found.from
          (λ row r on low. found.none_before row.span.begin on low (c.requires.all row.span.begin row.span.end (longer_of v c.args.tag c.args.text row r))) h.count h.added c.in_ok-row_at.ensures.ok;
    }

pub loop-at-smaller : goal.loop-at-smaller
loop-at-smaller g c =
    let found = c.in-Some.ensures.found in
    let lt = in_room c.args.begins.now c.in-Some.at found.is_in in omega (arith, lt, found.from)

pub returns-clause-ok : goal.returns-clause-ok
returns-clause-ok g c =
    let v = g.V.View.seen c.args.view.now in
    all_there (IsInstance v c.args.tag c.args.text) c.args.room c.loop-at.from c.args.out.now c.loop-at.out
    (λ row r on. c.in_default.ensures.none row.span.begin on (c.requires.all row.span.begin row.span.end (longer_of v c.args.tag c.args.text row r))) c.loop-at.invariant.added

pub returns-in_err-row_at-clause-more : goal.returns-in_err-row_at-clause-more
returns-in_err-row_at-clause-more g c =
    let v = g.V.View.seen c.args.view.now in
    let h = c.loop-at.invariant in
    λ e.
    let was : c.row_at.result ≡ Err TooManyRows = search rules in
    more_than_room (IsInstance v c.args.tag c.args.text) c.args.text c.args.room c.loop-at.left c.loop-at.from c.in-Some.at c.args.out.now c.loop-at.out (of_one_text v c.args.tag c.args.text) c.in-Some.ensures.found.from h.count h.added (c.row_at.ensures.more was)
