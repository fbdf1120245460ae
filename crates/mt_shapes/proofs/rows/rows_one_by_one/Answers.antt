use Rattle.std.proofs.Common.{◌≡◌, ◌≤◌, refl, Err, rules, arith}
use Rattle.mt_rows.specs.declared.error.EvalError.TheVariants.{TooManyRows}
use Rattle.mt_shapes.proofs.Bits.{in_room}
use Rattle.mt_shapes.proofs.Listed.{no_begins, next_begin, all_begins, longer_than_room}
use Rattle.mt_shapes.proofs.rows.rows_one_by_one.Goals as goal

pub loop-at-init : goal.loop-at-init
loop-at-init c = record { count = refl; added = no_begins c.args.entries.now c.args.text c.args.room c.args.out.now }

pub overflow_add-from : goal.overflow_add-from
overflow_add-from c =
    let low : c.in-Some.at ≤ c.args.last = c.requires.inside c.in-Some.at c.in-Some.ensures.found.is_in in
    omega (arith, low, c.requires.few)

pub loop-at-preserved : goal.loop-at-preserved
loop-at-preserved c =
    let h = c.loop-at.invariant in
    let found = c.in-Some.ensures.found in
    record {
      count = omega (arith, h.count, c.in_ok-rows_at.ensures.longer, c.in_ok-rows_at.ensures.within);
      added =
          next_begin c.args.entries.now c.args.text c.args.room c.loop-at.left c.loop-at.from c.in-Some.at c.args.out.now c.loop-at.out c.rows_at.new.out found.from
          (λ row r on low. found.none_before row.span.begin on low (c.requires.all row r)) h.count h.added c.in_ok-rows_at.ensures.ok;
    }

pub loop-at-smaller : goal.loop-at-smaller
loop-at-smaller c =
    let found = c.in-Some.ensures.found in
    let lt = in_room c.args.begins.now c.in-Some.at found.is_in in omega (arith, lt, found.from)

pub returns-clause-ok : goal.returns-clause-ok
returns-clause-ok c =
    all_begins c.args.entries.now c.args.text c.args.room c.loop-at.from c.args.out.now c.loop-at.out
    (λ row r on. c.in_default.ensures.none row.span.begin on (c.requires.all row r)) c.loop-at.invariant.added

pub returns-in_err-rows_at-clause-more : goal.returns-in_err-rows_at-clause-more
returns-in_err-rows_at-clause-more c =
    let h = c.loop-at.invariant in
    λ e.
    let was : c.rows_at.result ≡ Err TooManyRows = search rules in
    longer_than_room c.args.entries.now c.args.text c.args.room c.loop-at.left c.loop-at.from c.in-Some.at c.args.out.now c.loop-at.out c.in-Some.ensures.found.from h.count h.added (c.rows_at.ensures.more was)
