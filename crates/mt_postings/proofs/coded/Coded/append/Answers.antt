use Rattle.std.proofs.Common.{◌≡◌, ◌/◌, ◌%◌, ◌++◌, length, take, drop, sym, ap, ◌∙◌, subst, arith}
use Rattle.std.proofs.lemmas.List.{length-append}
use Rattle.mt_store_spec.specs.Codes.{bits}
use Rattle.mt_store_spec.specs.Positions.{ArePositions}
use Rattle.mt_postings.specs.Following.{Follow}
use Rattle.mt_postings.specs.Kept.{positions_in, IsKept}
use Rattle.mt_postings.proofs.Ascending.{length_positions}
use Rattle.mt_postings.proofs.Keeping.{code_cut, follow_rest, end_short, kept_more, kept_is, kept_view}
use Rattle.mt_postings.proofs.coded.Coded.append.Goals as goal

pub from_byte-requires : goal.from_byte-requires
from_byte-requires c =
    let i = c.self.inside in
    let cut = code_cut (positions_in i.end.count 0 (bits i.bytes.items)) i.bytes.items i.end.bit c.self.invariant.code c.self.invariant.ends.bit_is in
    let e : length c.as_slice.result.now ≡ length i.bytes.items = ap length c.as_slice.ensures.value in
    let l = cut.0 in
    omega arith

pub after-requires-clause-within : goal.after-requires-clause-within
after-requires-clause-within c =
    let i = c.self.inside in
    let cut = code_cut (positions_in i.end.count 0 (bits i.bytes.items)) i.bytes.items i.end.bit c.self.invariant.code c.self.invariant.ends.bit_is in
    let e : length c.from_byte.result.now ≡ length (drop (i.end.bit / 8) i.bytes.items) = ap length (c.from_byte.ensures ∙ ap (drop (i.end.bit / 8)) c.as_slice.ensures.value) in
    let l = cut.1 in
    omega arith

pub write-requires-clause-follow : goal.write-requires-clause-follow
write-requires-clause-follow c =
    let i = c.self.inside in
    let ps = positions_in i.end.count 0 (bits i.bytes.items) in
    let valid : ArePositions (ps ++ c.args.more.now) = subst (λ x. ArePositions (x ++ c.args.more.now)) (sym c.self.view_is) c.requires in
    subst (λ x. Follow x c.args.more.now) (sym c.self.invariant.ends.least_is) (follow_rest ps c.args.more.now valid)

pub write-requires-clause-few : goal.write-requires-clause-few
write-requires-clause-few c =
    let i = c.self.inside in
    let ps = positions_in i.end.count 0 (bits i.bytes.items) in
    let valid : ArePositions (ps ++ c.args.more.now) = subst (λ x. ArePositions (x ++ c.args.more.now)) (sym c.self.view_is) c.requires in
    let l = length_positions (ps ++ c.args.more.now) valid in
    let a = length-append ps c.args.more.now in
    let n = c.self.invariant.ends.number_is in
    omega arith

pub write-requires-clause-short : goal.write-requires-clause-short
write-requires-clause-short c =
    let i = c.self.inside in
    (end_short (positions_in i.end.count 0 (bits i.bytes.items)) i.end.count i.end.least i.end.bit c.self.invariant.code.valid c.self.invariant.ends).1

-- what is kept at the end
kept : (c : goal.After-drop-entries-2) → IsKept (positions_in c.self.inside.end.count 0 (bits c.self.inside.bytes.items) ++ c.args.more.now) c.put_all.new.all.items c.put_all-2.new.all.items c.write.new.end.count c.write.new.end.least c.write.new.end.bit
kept c =
    let i = c.self.inside in
    let ps = positions_in i.end.count 0 (bits i.bytes.items) in
    let more = c.args.more.now in
    let valid : ArePositions (ps ++ more) = subst (λ x. ArePositions (x ++ more)) (sym c.self.view_is) c.requires in
    let begun = c.in_ok-writer.writer in
    let b : begun ≡ take (i.end.bit % 8) (bits (drop (i.end.bit / 8) i.bytes.items)) = c.in_ok-writer.ensures ∙ ap (λ x. take (i.end.bit % 8) (bits x)) (c.from_byte.ensures ∙ ap (drop (i.end.bit / 8)) c.as_slice.ensures.value) in
    let front : c.truncate.new.self.items ≡ take (i.end.bit / 8) i.bytes.items = c.truncate.ensures.items ∙ ap (take (i.end.bit / 8)) c.reserve.ensures.items in
    let now : c.put_all.new.all.items ≡ take (i.end.bit / 8) i.bytes.items ++ c.finish-tail.result = c.put_all.ensures ∙ ap (λ x. x ++ c.as_slice-2.result.now) front ∙ ap (λ x. take (i.end.bit / 8) i.bytes.items ++ x) c.as_slice-2.ensures in
    let all : c.put_all-2.new.all.items ≡ i.entries.items ++ c.in_ok-entries.entries.items = c.put_all-2.ensures ∙ ap (λ x. x ++ c.as_slice-3.result.now) c.reserve-2.ensures.items ∙ ap (λ x. i.entries.items ++ x) c.as_slice-3.ensures.value in
    kept_more ps more i.bytes.items c.finish-tail.result c.put_all.new.all.items i.entries.items c.in_ok-entries.entries.items c.put_all-2.new.all.items i.end.count i.end.least i.end.bit c.write.new.end.count c.write.new.end.least c.write.new.end.bit begun c.write.new.writer c.self.invariant valid b c.in_ok-entries.ensures.written c.finish-tail.ensures now (c.in_ok-entries.ensures.ends ps c.self.invariant.ends) (c.in_ok-entries.ensures.entries ps i.entries.items c.self.invariant.ends c.self.invariant.entries_are) all

pub invariant_of-self-2 : goal.invariant_of-self-2
invariant_of-self-2 c = kept_view (positions_in c.self.inside.end.count 0 (bits c.self.inside.bytes.items) ++ c.args.more.now) c.put_all.new.all.items c.put_all-2.new.all.items c.write.new.end.count c.write.new.end.least c.write.new.end.bit (kept c)

pub returns-clause-ok : goal.returns-clause-ok
returns-clause-ok c =
    kept_is (positions_in c.self.inside.end.count 0 (bits c.self.inside.bytes.items) ++ c.args.more.now) c.put_all.new.all.items c.put_all-2.new.all.items c.write.new.end.count c.write.new.end.least c.write.new.end.bit (kept c) ∙ ap (λ x. x ++ c.args.more.now) c.self.view_is
