use Rattle.std.proofs.Common.{◌≡◌, ℕ, ◌+◌, ◌∙◌, length, sym, ap, subst, arith}
use Rattle.std.proofs.lemmas.List.{get_or_read}
use Rattle.std.specs.List.{All}
use Rattle.mt_places.specs.Places.{In, HasJust}
use Rattle.mt_eval_spec.specs.RowsIn.{MeetsIn}
use Rattle.mt_eval_spec.specs.Told.{told_tokens}
use Rattle.mt_shapes.specs.declared.table.Entry.{Entry}
use Rattle.mt_shapes.specs.Shapes.{row_of}
use Rattle.mt_shapes.specs.Tables.{entry, none}
use Rattle.mt_tally.specs.Tallies.{HasLabelsFrom, HasSeen}
use Rattle.mt_tally.proofs.EntrySpans.{labels_from, none_new, none_more, turned, all_seen, new_spans}
use Rattle.mt_tally.proofs.spans.Seen.add.Goals as goal

pub returns-then-entry-eq0-clause-seen : goal.returns-then-entry-eq0-clause-seen
returns-then-entry-eq0-clause-seen g c =
    let entries = c.args.entries.now in
    let n = c.args.at in
    let item : c.index-entries-at.result ≡ entry entries n = get_or_read entries n c.index-entries-at.result c.requires.at c.index-entries-at.is none in
    none_more c.args.segment.now c.args.conds.now entries c.args.text n c.args.self.now.tokens c.args.self.now.begins (sym (ap (λ (x : Entry). x.shape.length) item) ∙ c.if-entry-eq0.true) c.requires.seen

pub returns-then-entry-eq0-clause-fresh : goal.returns-then-entry-eq0-clause-fresh
returns-then-entry-eq0-clause-fresh g c =
    let entries = c.args.entries.now in
    let n = c.args.at in
    let item : c.index-entries-at.result ≡ entry entries n = get_or_read entries n c.index-entries-at.result c.requires.at c.index-entries-at.is none in
    none_new c.args.segment.now c.args.conds.now entries c.args.text n (sym (ap (λ (x : Entry). x.shape.length) item) ∙ c.if-entry-eq0.true)

pub meet-requires-clause-labels : goal.meet-requires-clause-labels
meet-requires-clause-labels g c = λ begin i.
    let T = c.args.segment.now in
    let entries = c.args.entries.now in
    let n = c.args.at in
    let item : c.index-entries-at.result ≡ entry entries n = get_or_read entries n c.index-entries-at.result c.requires.at c.index-entries-at.is none in
    let len = ap (λ (x : Entry). x.shape.length) item in
    let empty = c.if-entry-eq0.false in
    subst (λ (x : Entry). HasLabelsFrom T c.text_bounds-first.result.0 begin x.shape) (sym item)
    (labels_from T entries c.args.text n c.text_bounds-first.result.0 c.text_bounds-first.result.1 begin c.requires.text c.requires.few c.requires.fine c.requires.labels c.requires.at (omega (arith, len, empty)) c.text_bounds-first.ensures.begin
    c.text_bounds-first.ensures.end c.text_bounds-first.ensures.within (subst (λ (x : Entry). In x.begins begin) item i))

pub returns-clause-seen : goal.returns-clause-seen
returns-clause-seen g c =
    let T = c.args.segment.now in
    let conds = c.args.conds.now in
    let entries = c.args.entries.now in
    let n = c.args.at in
    let last = told_tokens T c.args.text in
    let item : c.index-entries-at.result ≡ entry entries n = get_or_read entries n c.index-entries-at.result c.requires.at c.index-entries-at.is none in
    let len = ap (λ (x : Entry). x.shape.length) item in
    let empty = c.if-entry-eq0.false in
    let met : HasJust (λ b. In (entry entries n).begins b × All (MeetsIn T (row_of (entry entries n).shape c.args.text b)) conds) c.meet.new.met =
    subst (λ (x : Entry). HasJust (λ b. In x.begins b × All (MeetsIn T (row_of x.shape c.args.text b)) conds) c.meet.new.met) item (c.in_ok-meet.ensures.met c.args.text c.text_bounds-first.ensures.begin) in
    let seen = turned T conds entries c.args.text c.args.self.now.tokens n c.args.self.now.begins c.turn.new.self.begins last c.requires.fine c.requires.at (λ e. c.turn.ensures.same (len ∙ e)) (λ ne. c.turn.ensures.none (λ e. ne (sym len ∙ e))) c.requires.seen in
    subst (λ (k : ℕ). HasSeen T conds entries c.args.text (n + 1) k c.add.new.self) (sym (c.turn.ensures.tokens ∙ len))
    (all_seen T conds entries c.args.text n last (omega (arith, len, empty)) c.requires.at c.turn.new.self.begins c.meet.new.met c.remove.new.self c.add.new.self (c.in_ok-meet.ensures.width ∙ ap (λ (x : Entry). length x.begins) item)
    c.remove.ensures.width c.add.ensures.width (c.turn.ensures.width ∙ c.requires.width ∙ sym (c.requires.fine.suits n c.requires.at).width) met c.remove.ensures.places c.add.ensures.places seen)

pub returns-clause-fresh : goal.returns-clause-fresh
returns-clause-fresh g c =
    let T = c.args.segment.now in
    let conds = c.args.conds.now in
    let entries = c.args.entries.now in
    let n = c.args.at in
    let last = told_tokens T c.args.text in
    let item : c.index-entries-at.result ≡ entry entries n = get_or_read entries n c.index-entries-at.result c.requires.at c.index-entries-at.is none in
    let len = ap (λ (x : Entry). x.shape.length) item in
    let empty = c.if-entry-eq0.false in
    let met : HasJust (λ b. In (entry entries n).begins b × All (MeetsIn T (row_of (entry entries n).shape c.args.text b)) conds) c.meet.new.met =
    subst (λ (x : Entry). HasJust (λ b. In x.begins b × All (MeetsIn T (row_of x.shape c.args.text b)) conds) c.meet.new.met) item (c.in_ok-meet.ensures.met c.args.text c.text_bounds-first.ensures.begin) in
    let seen = turned T conds entries c.args.text c.args.self.now.tokens n c.args.self.now.begins c.turn.new.self.begins last c.requires.fine c.requires.at (λ e. c.turn.ensures.same (len ∙ e)) (λ ne. c.turn.ensures.none (λ e. ne (sym len ∙ e))) c.requires.seen in
    new_spans T conds entries c.args.text n last (omega (arith, len, empty)) c.requires.at c.turn.new.self.begins c.meet.new.met c.remove.new.self c.add.new.self (c.in_ok-meet.ensures.width ∙ ap (λ (x : Entry). length x.begins) item)
    c.remove.ensures.width c.add.ensures.width (c.turn.ensures.width ∙ c.requires.width ∙ sym (c.requires.fine.suits n c.requires.at).width) met c.remove.ensures.places c.add.ensures.places seen c.place_count.result c.place_count.ensures
