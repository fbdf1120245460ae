use Rattle.std.proofs.Common.{◌≡◌, refl, Err, rules, arith}
use Rattle.mt_automaton.specs.LabelledParts.{labelled_meant}
use Rattle.mt_automaton.specs.RowsFrom.{BeginsBelow}
use Rattle.mt_automaton.proofs.Bits.{in_room}
use Rattle.mt_automaton.proofs.InText.{no_begins, next_begin, all_begins, longer_than_room, begins_on, on_err_known}
use Rattle.mt_rows.specs.Appends.{Begins}
use Rattle.mt_rows.specs.declared.error.EvalError.TheVariants.{TooManyRows}
use Rattle.mt_automaton.proofs.rows_of_text.rows_of_begins.Goals as goal

pub loop-at-init : goal.loop-at-init
loop-at-init g c =
    let v = g.V.View.seen c.args.view.now in
    record { count = refl; added = no_begins v.text (labelled_meant v c.args.part.now) c.args.text c.args.room c.args.out.now }

pub loop-at-preserved : goal.loop-at-preserved
loop-at-preserved g c =
    let v = g.V.View.seen c.args.view.now in
    let h = c.loop-at.invariant in
    let found = c.in-Some.ensures.found in
    record {
      count = omega (arith, h.count, c.in_ok-rows_at.ensures.longer, c.in_ok-rows_at.ensures.within);
      added = next_begin v.text (labelled_meant v c.args.part.now) c.args.text c.args.room c.loop-at.left c.loop-at.from c.in-Some.at c.args.out.now c.loop-at.out c.rows_at.new.out found.from
          (λ row r on low. found.none_before row.span.begin on low (c.requires.all row r)) h.count h.added c.in_ok-rows_at.ensures.ok;
    }

pub loop-at-smaller : goal.loop-at-smaller
loop-at-smaller g c =
    let found = c.in-Some.ensures.found in
    let lt = in_room c.args.begins.now c.in-Some.at found.is_in in omega (arith, lt, found.from)

pub returns-clause-ok : goal.returns-clause-ok
returns-clause-ok g c =
    let v = g.V.View.seen c.args.view.now in
    all_begins v.text (labelled_meant v c.args.part.now) c.args.text c.args.room c.loop-at.from c.args.out.now c.loop-at.out (λ row r on. c.in_default.ensures.none row.span.begin on (c.requires.all row r)) c.loop-at.invariant.added

pub returns-in_err-rows_at-clause-more : goal.returns-in_err-rows_at-clause-more
returns-in_err-rows_at-clause-more g c =
    let v = g.V.View.seen c.args.view.now in
    let h = c.loop-at.invariant in
    λ e.
    let was : c.rows_at.result ≡ Err TooManyRows = search rules in
    longer_than_room v.text (labelled_meant v c.args.part.now) c.args.text c.args.room c.loop-at.left c.loop-at.from c.in-Some.at c.args.out.now c.loop-at.out c.in-Some.ensures.found.from h.count h.added (c.rows_at.ensures.more was)

pub returns-in_err-rows_at-clause-kept : goal.returns-in_err-rows_at-clause-kept
returns-in_err-rows_at-clause-kept g c =
    let v = g.V.View.seen c.args.view.now in
    on_err_known c.from_residual.result (Begins c.args.out.now c.rows_at.new.out)
    (begins_on (BeginsBelow v.text (labelled_meant v c.args.part.now) c.args.text c.loop-at.from) c.args.room c.args.out.now c.loop-at.out c.rows_at.new.out c.loop-at.invariant.added c.in_err-rows_at.ensures.kept)
