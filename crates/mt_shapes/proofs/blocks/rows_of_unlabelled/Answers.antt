use Rattle.std.proofs.Common.{◌≤◌, ◌++◌, length, take, refl, sym, ◌∙◌, ap, subst, arith}
use Rattle.std.proofs.lemmas.List.{append-nil}
use Rattle.mt_rows.specs.Appends.{Appends}
use Rattle.mt_shapes.specs.Blocks.{bare_rows}
use Rattle.mt_shapes.specs.Tables.{IsRowBelow, BeginsBelow}
use Rattle.mt_shapes.proofs.Bits.{in_room}
use Rattle.mt_shapes.proofs.Blocked.{put_behind, put_too_many, with_block, begins_more, begins_itself}
use Rattle.mt_shapes.proofs.Listed.{no_begins, next_begin, all_begins, longer_than_room}
use Rattle.mt_shapes.proofs.blocks.rows_of_unlabelled.Goals as goal

pub loop-at-init : goal.loop-at-init
loop-at-init c =
    let same = append-nil c.args.out.now in
    record {
      width = refl;
      within = omega arith;
      count = omega (arith, ap length same);
      added = subst (Appends (BeginsBelow c.args.entries.now c.args.text 0) c.args.room c.args.out.now) (sym same) (no_begins c.args.entries.now c.args.text c.args.room c.args.out.now);
      kept = begins_itself c.args.out.now;
    }

pub returns-then-count-before-clause-more : goal.returns-then-count-before-clause-more
returns-then-count-before-clause-more c = λ _.
    let h = c.loop-at.invariant in
    let found = c.in-Some.ensures.found in
    let same = c.in_ok-before.ensures.same in
    let put = c.put_rows-count.ensures in
    let free = c.in_ok-before.ensures.free in
    longer_than_room c.args.entries.now c.args.text c.args.room c.loop-at.left c.loop-at.from c.in-Some.at c.args.out.now (c.loop-at.out ++ bare_rows (take c.loop-at.count c.loop-at.block)) found.from h.count h.added
    (put_too_many (IsRowBelow c.args.entries.now c.args.text c.in-Some.at (length c.args.entries.now)) (length c.args.entries.now) c.loop-at.left c.in_ok-before.before c.put_rows-count.result c.loop-at.block c.put_rows-count.new.block
    (omega (arith, free)) (omega (arith, free, put.most, put.width)) (omega (arith, c.if-count-before.true)) put.put)

pub loop-at-smaller : goal.loop-at-smaller
loop-at-smaller c =
    let found = c.in-Some.ensures.found in
    let lt = in_room c.args.begins.now c.in-Some.at found.is_in in omega (arith, lt, found.from)

pub loop-at-preserved : goal.loop-at-preserved
loop-at-preserved c =
    let h = c.loop-at.invariant in
    let found = c.in-Some.ensures.found in
    let same = c.in_ok-before.ensures.same in
    let put = c.put_rows-count.ensures in
    let free = c.in_ok-before.ensures.free in
    let fits = c.if-count-before.false in
    let low : c.in_ok-before.before ≤ length c.loop-at.block = omega (arith, free) in
    let high : c.put_rows-count.result ≤ length c.put_rows-count.new.block = omega (arith, free, put.most, put.width) in
    let mid = c.make_room.new.out ++ bare_rows (take c.in_ok-before.before c.loop-at.block) in
    let was = with_block c.make_room.new.out c.loop-at.block c.in_ok-before.before low in
    let now = with_block c.make_room.new.out c.put_rows-count.new.block c.put_rows-count.result high in
    let total = ap length same in
    record {
      width = put.width ∙ h.width;
      within = high;
      count = omega (arith, h.count, total, was, now, fits, put.least);
      added = next_begin c.args.entries.now c.args.text c.args.room c.loop-at.left c.loop-at.from c.in-Some.at c.args.out.now mid (c.make_room.new.out ++ bare_rows (take c.put_rows-count.result c.put_rows-count.new.block)) found.from
          (λ row r on low_of. found.none_before row.span.begin on low_of (c.requires.all row r)) (omega (arith, h.count, total))
          (subst (Appends (BeginsBelow c.args.entries.now c.args.text c.loop-at.from) c.args.room c.args.out.now) (sym same) h.added)
          (put_behind (IsRowBelow c.args.entries.now c.args.text c.in-Some.at (length c.args.entries.now)) (length c.args.entries.now) c.loop-at.left c.in_ok-before.before c.put_rows-count.result c.make_room.new.out c.loop-at.block
          c.put_rows-count.new.block low high (omega (arith, fits, put.least)) put.put);
      kept = begins_more c.args.out.now c.loop-at.out c.make_room.new.out h.kept c.in_ok-before.ensures.kept;
    }

pub returns-clause-ok : goal.returns-clause-ok
returns-clause-ok c =
    all_begins c.args.entries.now c.args.text c.args.room c.loop-at.from c.args.out.now c.append.new.out (λ row r on. c.in_default.ensures.none row.span.begin on (c.requires.all row r))
    (subst (Appends (BeginsBelow c.args.entries.now c.args.text c.loop-at.from) c.args.room c.args.out.now) (sym c.in_ok-append.ensures.ok) c.loop-at.invariant.added)
