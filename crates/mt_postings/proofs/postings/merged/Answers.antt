use Rattle.std.proofs.Common.{◌≡◌, ◌+◌, ◌++◌, ◌∷◌, [], drop, get_or, min, leb, sym, ap, subst, ◌∙◌, arith, refl, inl, inr}
use mir.Val.{bool_byte}
use Rattle.std.proofs.lemmas.List.{take_rest}
use Rattle.mt_postings.proofs.Merging.{Merged, merged_more, merged_end}
use Rattle.mt_postings.proofs.postings.merged.Goals as goal
use Rattle.mt_postings.proofs.postings.merged.Goals.{then-loop-i-test+else-j-right, else-loop-i-test}

pub loop-i-preserved : goal.loop-i-preserved
loop-i-preserved c =
    let inv = c.loop-i.invariant in
    let left = c.args.left.now in
    let right = c.args.right.now in
    let a = get_or left c.loop-i.i 0 in
    let b = get_or right c.loop-i.j 0 in
    let m = merged_more c.loop-i.all.items left right c.loop-i.i c.loop-i.j c.loop-i-test.true c.if-j-right.true inv.merged (leb a b) (leb b a) refl refl in
    let n = m.2 in
    let k = inv.count in
    let l = c.push_reserved.ensures.len in
    let pushed : c.push_reserved.new.self.items ≡ c.loop-i.all.items ++ min a b ∷ [] = c.push_reserved.ensures.items ∙ ap (λ x. c.loop-i.all.items ++ x ∷ []) c.min.ensures in
    record {
      left_within = m.0;
      right_within = m.1;
      count = omega arith;
      room = let r = inv.room in let q = c.push_reserved.ensures.capacity in omega arith;
      merged = subst (λ x. Merged x left right (c.loop-i.i + bool_byte (leb a b)) (c.loop-i.j + bool_byte (leb b a))) (sym pushed) m.3;
    }

pub returns : goal.returns
returns c =
    let left = c.args.left.now in
    let right = c.args.right.now in
    let one : c.extend_from_slice.new.self.items ≡ c.loop-i.all.items ++ drop c.loop-i.i left = c.in_ok-extend_from_slice.ensures.items ∙ ap (λ x. c.loop-i.all.items ++ x) (take_rest left c.loop-i.i) in
    let two : c.extend_from_slice-2.new.self.items ≡ c.extend_from_slice.new.self.items ++ drop c.loop-i.j right = c.in_ok-extend_from_slice-2.ensures.items ∙ ap (λ x. c.extend_from_slice.new.self.items ++ x) (take_rest right c.loop-i.j) in
    two ∙ ap (λ x. x ++ drop c.loop-i.j right) one ∙ merged_end c.loop-i.all.items left right c.loop-i.i c.loop-i.j
    (elim c.loop-i-test.branch [ then-loop-i-test+else-j-right w ↦ inr w.if-j-right.false | else-loop-i-test w ↦ inl w.loop-i-test.false ])
    c.loop-i.invariant.merged
