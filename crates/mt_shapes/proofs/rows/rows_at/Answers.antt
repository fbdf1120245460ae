use Rattle.std.proofs.Common.{◌≡◌, ◌+◌, ◌<◌, length, refl, sym, ap, subst, arith}
use Rattle.std.proofs.lemmas.List.{get_or_read}
use Rattle.mt_places.specs.Places.{In}
use Rattle.mt_rows.specs.Appends.{Appends}
use Rattle.mt_shapes.specs.declared.table.Entry.{Entry}
use Rattle.mt_shapes.specs.Shapes.{row_of}
use Rattle.mt_shapes.specs.Tables.{entry, none, IsRowBelow}
use Rattle.mt_shapes.proofs.Listed.{no_rows, next_row, no_row, too_many, row_fits, one_longer}
use Rattle.mt_shapes.proofs.rows.rows_at.Goals as goal
use Rattle.mt_shapes.proofs.rows.rows_at.Goals.{then-has_row+else-left-eq0+in_ok-push_row, else-has_row}

pub loop-entry-init : goal.loop-entry-init
loop-entry-init c = record { count = refl; added = no_rows c.args.entries.now c.args.text c.args.begin c.args.room c.args.out.now }

pub returns-then-left-eq0-clause-more : goal.returns-then-left-eq0-clause-more
returns-then-left-eq0-clause-more c =
    let entries = c.args.entries.now in
    let n = c.loop-entry.entry-index in
    let low : n < length entries = omega arith in
    let item : c.entry-item.result ≡ entry entries n = get_or_read entries n c.entry-item.result (omega arith) c.entry-item.is none in
    let has = c.has_row.ensures.yes c.if-has_row.true in
    λ _. too_many c.args.last entries c.args.text c.args.begin n c.args.room c.loop-entry.left c.args.out.now c.loop-entry.out c.requires.few c.requires.fine low (subst (λ (x : Entry). 0 < x.shape.length) item has.0)
    (subst (λ (x : Entry). In x.begins c.args.begin) item has.1) c.loop-entry.invariant.count c.if-left-eq0.true c.loop-entry.invariant.added

pub push_row-requires-clause-labels : goal.push_row-requires-clause-labels
push_row-requires-clause-labels c =
    let entries = c.args.entries.now in
    let n = c.loop-entry.entry-index in
    let low : n < length entries = omega arith in
    let item : c.entry-item.result ≡ entry entries n = get_or_read entries n c.entry-item.result (omega arith) c.entry-item.is none in
    let has = c.has_row.ensures.yes c.if-has_row.true in
    let fits = row_fits c.args.last entries n c.args.begin c.entry-item.result c.requires.few c.requires.fine low item has.1 in
    fits.1

pub push_row-requires-clause-length : goal.push_row-requires-clause-length
push_row-requires-clause-length c =
    let entries = c.args.entries.now in
    let n = c.loop-entry.entry-index in
    let low : n < length entries = omega arith in
    let item : c.entry-item.result ≡ entry entries n = get_or_read entries n c.entry-item.result (omega arith) c.entry-item.is none in
    let has = c.has_row.ensures.yes c.if-has_row.true in
    let fits = row_fits c.args.last entries n c.args.begin c.entry-item.result c.requires.few c.requires.fine low item has.1 in
    fits.0

pub loop-entry-preserved : goal.loop-entry-preserved
loop-entry-preserved c =
    let entries = c.args.entries.now in
    let n = c.loop-entry.entry-index in
    let low : n < length entries = omega arith in
    let item : c.entry-item.result ≡ entry entries n = get_or_read entries n c.entry-item.result (omega arith) c.entry-item.is none in
    let h = c.loop-entry.invariant in
    elim c.if-has_row.branch [
      | then-has_row+else-left-eq0+in_ok-push_row w ↦
          let has = c.has_row.ensures.yes w.if-has_row.true in
          let free = w.if-left-eq0.false in
          let row = row_of c.entry-item.result.shape c.args.text c.args.begin in
          let longer = one_longer c.loop-entry.out w.push_row.new.out row w.in_ok-push_row.ensures.ok in
          record {
            count = omega (arith, h.count, longer, free, w.left-is, ap length w.out-is);
            added = subst (Appends (IsRowBelow entries c.args.text c.args.begin (n + 1)) c.args.room c.args.out.now) (sym w.out-is)
                (next_row c.args.last entries c.args.text c.args.begin n c.args.room c.loop-entry.left row c.args.out.now c.loop-entry.out w.push_row.new.out c.requires.few c.requires.fine low
                (subst (λ (x : Entry). 0 < x.shape.length) item has.0) (subst (λ (x : Entry). In x.begins c.args.begin) item has.1) h.count (omega (arith, free))
                (ap (λ (x : Entry). row_of x.shape c.args.text c.args.begin) item) w.in_ok-push_row.ensures.ok h.added);
          }
      | else-has_row w ↦ record {
        count = omega (arith, h.count, w.left-is, ap length w.out-is);
        added = subst (Appends (IsRowBelow entries c.args.text c.args.begin (n + 1)) c.args.room c.args.out.now) (sym w.out-is)
            (no_row entries c.args.text c.args.begin n c.args.room c.args.out.now c.loop-entry.out
            (λ some is. c.has_row.ensures.no w.if-has_row.false (subst (λ (x : Entry). 0 < x.shape.length) (sym item) some) (subst (λ (x : Entry). In x.begins c.args.begin) (sym item) is)) h.added);
      }
    ]
