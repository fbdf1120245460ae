use Rattle.std.proofs.Common.{ℕ, ◌<◌, ◌∙◌, sym, subst, inl, inr, arith}
use Rattle.std.specs.List.{Contains}
use Rattle.std.proofs.lemmas.List.Elements.{All-contains}
use Rattle.mt_places.specs.Places.{room}
use Rattle.mt_prepare.proofs.Sets.{in_room}
use Rattle.mt_prepare.proofs.Listed.{first_left, left_of, first_or_left}
use Rattle.mt_prepare.proofs.test_rows.add_list.Goals as goal

pub insert-requires : goal.insert-requires
insert-requires g c =
    let place = c.in-Some.place in
    let h = c.loop-place.invariant in
    let there = first_left c.loop-place.left c.next.new.self place c.in-Some.ensures.given in
    let low = All-contains (λ (p : ℕ). p < room c.args.row.now) c.args.list.now place c.requires (h.rest place there) in
    omega (arith, low, h.width)

pub loop-place-preserved : goal.loop-place-preserved
loop-place-preserved g c =
    let place = c.in-Some.place in
    let h = c.loop-place.invariant in
    let now = c.insert.ensures.places in
    let same = c.insert.ensures.width in
    let given = c.in-Some.ensures.given in
    let there = first_left c.loop-place.left c.next.new.self place given in
    let low = All-contains (λ (p : ℕ). p < room c.args.row.now) c.args.list.now place c.requires (h.rest place there) in
    record {
      width = same ∙ h.width;
      sound = λ p i. elim (now.sound p i) [
        | inl o ↦ h.sound p o
        | inr e ↦ inr (subst (Contains c.args.list.now) (sym e) (h.rest place there))
      ];
      kept = λ p i. now.complete p (inl (h.kept p i)) (omega (arith, in_room c.args.row.now p i, same, h.width));
      rest = λ p l. h.rest p (left_of c.loop-place.left c.next.new.self place p given l);
      done = λ p l. elim (h.done p l) [
        | inl o ↦ inl (now.complete p (inl o) (omega (arith, in_room c.loop-place.row p o, same)))
        | inr rest ↦ elim (first_or_left c.loop-place.left c.next.new.self place p given rest) [
          | inl e ↦ inl (now.complete p (inr e) (omega (arith, e, low, same, h.width)))
          | inr later ↦ inr later
        ]
      ];
      rises = omega (arith, h.rises, c.next.ensures.ticks);
    }
