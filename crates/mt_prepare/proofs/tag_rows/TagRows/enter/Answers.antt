use Rattle.std.proofs.Common.{◌≡◌, ◌+◌, ◌/◌, ◌<◌, length, ◌∙◌, arith}
use Rattle.mt_places.specs.Places.{room}
use Rattle.mt_automaton.specs.Parts.{Tag}
use Rattle.mt_eval_spec.specs.Told.{told_tokens}
use Rattle.mt_prepare.proofs.Spans.{in_order}
use Rattle.mt_prepare.proofs.Told.{next_first}
use Rattle.mt_prepare.proofs.Entered.{begins_low, ends_low, begins_are, empty_are, ends_are}
use Rattle.mt_prepare.proofs.tag_rows.TagRows.enter.Goals as goal

pub text_spans-from-requires-clause-sorted : goal.text_spans-from-requires-clause-sorted
text_spans-from-requires-clause-sorted c = in_order c.args.spans.now c.requires.spans.1.ascending

pub add_begins-requires-clause-room : goal.add_begins-requires-clause-room
add_begins-requires-clause-room c =
    let tag : Tag = record { kind = c.args.kind; test = c.requires.spans.0 } in
    let next = next_first c.args.segment.now c.args.text c.requires.text in
    let fits : told_tokens c.args.segment.now c.args.text < room c.reset.new.self = omega (arith, next, c.in_ok-reset.ensures.width) in
    begins_low c.instances_lie_in_texts.ensures c.args.segment.now c.texts-texts.ensures.valid tag c.args.spans.now c.args.text c.text_spans-from.result.0 c.text_spans-from.result.1 c.requires.spans.1 c.text_spans-from.ensures.stand
    (room c.reset.new.self) fits

pub add_ends-requires-clause-room : goal.add_ends-requires-clause-room
add_ends-requires-clause-room c =
    let next = next_first c.args.segment.now c.args.text c.requires.text in
    let fits : told_tokens c.args.segment.now c.args.text < room c.reset-2.new.self = omega (arith, next, c.in_ok-reset-2.ensures.width) in
    ends_low c.instances_lie_in_texts.ensures c.args.segment.now c.texts-texts.ensures.valid c.args.kind c.args.text c.structs_in.result.now c.structs_in.ensures (room c.reset-2.new.self) fits

pub add_empty-requires-clause-room : goal.add_empty-requires-clause-room
add_empty-requires-clause-room c =
    let tag : Tag = record { kind = c.args.kind; test = c.requires.spans.0 } in
    let next = next_first c.args.segment.now c.args.text c.requires.text in
    let fits : told_tokens c.args.segment.now c.args.text < room c.reset-3.new.self = omega (arith, next, c.in_ok-reset-3.ensures.width) in
    begins_low c.instances_lie_in_texts.ensures c.args.segment.now c.texts-texts.ensures.valid tag c.args.spans.now c.args.text c.text_spans-from.result.0 c.text_spans-from.result.1 c.requires.spans.1 c.text_spans-from.ensures.stand
    (room c.reset-3.new.self) fits

pub returns : goal.returns
returns c = λ test are.
    let tables = c.args.segment.now in
    let text = c.args.text in
    let tag : Tag = record { kind = c.args.kind; test = test } in
    let from = c.text_spans-from.result.0 in
    let to = c.text_spans-from.result.1 in
    let stand = c.text_spans-from.ensures.stand in
    let next = next_first tables text c.requires.text in
    let b : length c.reset.new.self ≡ told_tokens tables text / 64 + 1 = omega (arith, next, c.in_ok-reset.ensures.width) in
    let e : length c.reset-2.new.self ≡ told_tokens tables text / 64 + 1 = omega (arith, next, c.in_ok-reset-2.ensures.width) in
    let m : length c.reset-3.new.self ≡ told_tokens tables text / 64 + 1 = omega (arith, next, c.in_ok-reset-3.ensures.width) in
    record {
      stand = stand;
      begins_width = c.add_begins.ensures.width ∙ b;
      ends_width = c.add_ends.ensures.width ∙ e;
      empty_width = c.add_empty.ensures.width ∙ m;
      begins = begins_are tables tag c.args.spans.now text from to c.requires.text are stand c.add_begins.new.set c.add_begins.ensures.places;
      ends = ends_are tables c.args.kind text c.structs_in.result.now c.structs_in.ensures c.add_ends.new.set c.add_ends.ensures.places;
      empty = empty_are tables tag c.args.spans.now text from to c.requires.text are stand c.add_empty.new.set c.add_empty.ensures.places;
    }
