-- There is room for the places that are left, and those before them were added.
use Rattle.std.proofs.Common.{◌≡◌, ◌+◌, ◌-◌, ◌≤◌, ◌++◌, length, vec_len, map, take}
use Rattle.std.specs.Vec.{vec_capacity}
use Rattle.mt_inverting.proofs.blocks.push_places.Given as goal

abbrev pub invariant-loop-place : goal.invariant-loop-place
invariant-loop-place l = record {
  room : vec_len l.places + (length l.more - l.place-index) ≤ vec_capacity l.places;
  pushed : l.places.items ≡ l.initial.places.items ++ map (λ place. l.begin + place) (take l.place-index l.more);
}
