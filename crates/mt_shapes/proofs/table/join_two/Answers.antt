use Rattle.std.proofs.Common.{ℕ, ◌∙◌, List, ap, sym, subst, length}
use Rattle.std.proofs.lemmas.Result.{on_ok_weaker}
use Rattle.mt_shapes.specs.declared.shape.Shape.{Shape}
use Rattle.mt_shapes.specs.Shapes.{Suits}
use Rattle.mt_shapes.proofs.Matches.{meets, two_suit, two_joined, two_apart}
use Rattle.mt_shapes.proofs.table.join_two.Goals as goal

pub returns-then-is_empty : goal.returns-then-is_empty
returns-then-is_empty c =
    let first = c.args.first.now in
    let second = c.args.second.now in
    let copied = c.in_ok-begins.ensures in
    let met = meets first.shape first.begins second.begins c.in_ok-begins.begins c.down.new.self c.keep.new.self copied c.down.ensures.width c.down.ensures.places c.keep.ensures.width c.keep.ensures.places in
    two_apart c.args.last first.shape second.shape first.begins second.begins c.keep.new.self c.args.out.now.items c.requires.few c.requires.first c.requires.second
    (c.keep.ensures.width ∙ c.down.ensures.width ∙ ap (λ (s : List ℕ). length s) copied) met (c.is_empty.ensures.none c.if-is_empty.true) c.requires.fine

pub add-requires-clause-suits : goal.add-requires-clause-suits
add-requires-clause-suits c =
    let first = c.args.first.now in
    let second = c.args.second.now in
    let copied = c.in_ok-begins.ensures in
    let met = meets first.shape first.begins second.begins c.in_ok-begins.begins c.down.new.self c.keep.new.self copied c.down.ensures.width c.down.ensures.places c.keep.ensures.width c.keep.ensures.places in
    let some = c.is_empty.ensures.some c.if-is_empty.false in
    subst (λ (x : Shape). Suits c.args.last x c.keep.new.self) (sym c.followed_by.ensures)
    (two_suit c.args.last first.shape second.shape first.begins second.begins c.keep.new.self c.requires.few c.requires.first c.requires.second
    (c.keep.ensures.width ∙ c.down.ensures.width ∙ ap (λ (s : List ℕ). length s) copied) met some.0 some.1)

pub returns : goal.returns
returns c =
    let first = c.args.first.now in
    let second = c.args.second.now in
    let copied = c.in_ok-begins.ensures in
    let met = meets first.shape first.begins second.begins c.in_ok-begins.begins c.down.new.self c.keep.new.self copied c.down.ensures.width c.down.ensures.places c.keep.ensures.width c.keep.ensures.places in
    on_ok_weaker c.add.result
    (λ a. two_joined c.args.last first.shape second.shape c.followed_by.result first.begins second.begins c.keep.new.self c.args.out.now.items c.add.new.out.items c.requires.few c.requires.first c.requires.second
    (c.keep.ensures.width ∙ c.down.ensures.width ∙ ap (λ (s : List ℕ). length s) copied) met c.followed_by.ensures a)
    c.add.ensures
