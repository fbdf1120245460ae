use Rattle.std.proofs.Common.{◌≡◌, ◌+◌, ◌/◌, ◌<◌, List, length, set, refl, sym, ◌∙◌, ap, subst, inr, arith}
use Rattle.std.proofs.lemmas.List.{get_or_read}
use Rattle.mt_places.specs.Places.{In}
use Rattle.mt_shapes.specs.declared.shape.Shape.{Shape}
use Rattle.mt_shapes.specs.declared.table.Entry.{Entry}
use Rattle.mt_shapes.specs.Shapes.{Suits}
use Rattle.mt_shapes.specs.Tables.{entry, none, StandsBetween, AddsListed}
use Rattle.mt_shapes.proofs.Tabled.{new_entry, more_begins}
use Rattle.mt_shapes.proofs.Whole.{one_suits, one_listed}
use Rattle.mt_shapes.proofs.table.merge_one.Goals as goal

pub insert-requires : goal.insert-requires
insert-requires c =
    let entries = c.args.out.now.items in
    let at = c.in-Ok.at in
    let found = subst (λ (es : List Entry). (at < length es) × ((entry es at).shape ≡ c.plain-shape.result)) c.deref.ensures.value c.in-Ok.ensures.found in
    let read : c.index_mut.result.now ≡ entry entries at = get_or_read entries at c.index_mut.result.now found.0 c.index_mut.ensures.value none in
    let there = c.requires.fine.suits at found.0 in
    let wide : length c.index_mut.result.now.begins ≡ c.args.last / 64 + 1 = ap (λ (x : Entry). length x.begins) read ∙ there.width in
    omega (arith, wide, c.requires.inside)

pub returns-in-Ok : goal.returns-in-Ok
returns-in-Ok c =
    let entries = c.args.out.now.items in
    let at = c.in-Ok.at in
    let found = subst (λ (es : List Entry). (at < length es) × ((entry es at).shape ≡ c.plain-shape.result)) c.deref.ensures.value c.in-Ok.ensures.found in
    let read : c.index_mut.result.now ≡ entry entries at = get_or_read entries at c.index_mut.result.now found.0 c.index_mut.ensures.value none in
    let longer : c.plain-shape.result.length ≡ c.args.length = ap (λ (x : Shape). x.length) c.plain-shape.ensures in
    let new = set entries at (record { shape = c.index_mut.result.now.shape; begins = c.insert.new.self }) in
    subst (λ (x : Shape). AddsListed c.args.last (λ s b. (s ≡ x) × (b ≡ c.args.begin)) entries new) c.plain-shape.ensures
    (more_begins c.args.last entries new at c.index_mut.result.now.begins c.plain-shape.result (λ b. b ≡ c.args.begin) c.insert.new.self c.requires.fine (λ b q. omega (arith, q, longer, c.requires.inside)) found.0 found.1
    (ap (λ (x : Entry). x.begins) read) c.insert.ensures.width c.insert.ensures.places (ap (λ (x : Entry). set entries at (record { shape = x.shape; begins = c.insert.new.self })) read))

pub returns-in_ok-insert-in-Err : goal.returns-in_ok-insert-in-Err
returns-in_ok-insert-in-Err c =
    let entries = c.args.out.now.items in
    let at = c.in-Err.at in
    let empty = c.in_ok-begins-in-Err.begins in
    let one = c.insert-in-Err.new.self in
    let new = c.insert-in-Err-2.new.self.items in
    let never = c.in_ok-begins-in-Err.ensures.none in
    let just = c.insert-in-Err.ensures.places in
    let wide : length c.insert-in-Err.new.self ≡ c.args.last / 64 + 1 = c.insert-in-Err.ensures.width ∙ c.in_ok-begins-in-Err.ensures.width in
    let is_in : In c.insert-in-Err.new.self c.args.begin = just.complete c.args.begin (inr refl) (omega (arith, wide, c.requires.inside)) in
    let stands = subst (λ (es : List Entry). StandsBetween es c.plain-shape.result at) c.deref.ensures.value c.in-Err.ensures.none in
    let suits : Suits c.args.last c.plain-shape.result c.insert-in-Err.new.self =
    subst (λ (x : Shape). Suits c.args.last x c.insert-in-Err.new.self) (sym c.plain-shape.ensures) (one_suits c.args.last c.args.length c.args.begin empty one c.requires.inside wide never just) in
    subst (λ (x : Shape). AddsListed c.args.last (λ s b. (s ≡ x) × (b ≡ c.args.begin)) entries new) c.plain-shape.ensures
    (one_listed c.args.last c.args.begin c.plain-shape.result empty one entries new never is_in just
    (new_entry c.args.last entries new at c.plain-shape.result one c.requires.fine stands suits (c.args.begin, is_in) c.in_ok-insert-in-Err.ensures.items))
