-- Where relations lead to from sets, one after another and side by side.
use Rattle.std.proofs.Common.{◌≡◌, ℕ, ◌+◌, ◌<◌, ◌⊎◌, List, length, refl, sym, ◌∙◌, subst, inl, inr, arith}
use Rattle.std.specs.Prelude.{Result, Ok, Err, IfOk}
use Rattle.mt_text_spec.specs.Queries as q
use Rattle.mt_places.specs.Places.{In, room, IsAbove, HasJust}
use Rattle.mt_automaton.proofs.Bits.{in_room}
use Rattle.mt_match_spec.specs.Matches as m
use Rattle.mt_automaton.specs.declared.part.Part.TheVariants.{Token, Begin, End}
use Rattle.mt_automaton.specs.declared.view.Mark.TheVariants.{Holds, Begins, Ends}
use Rattle.mt_automaton.specs.declared.view.Way.{Way}
use Rattle.mt_automaton.specs.declared.view.Way.TheVariants.{On, Back}
use Rattle.mt_automaton.specs.Parts.{Seen, PartMatches, Stands, Lies, HasAllInside, width}
use Rattle.mt_automaton.specs.Ways.{Image, Along}
use Rattle.mt_automaton.proofs.Bare.{Plain, Bare, joined_there, joined_back}
use Rattle.mt_automaton.proofs.Forward.{Between}

-- the same relation by another name
pub renamed : (R S : ℕ → ℕ → Type 0) (a b : List ℕ) → ((x y : ℕ) → R x y → S x y) → ((x y : ℕ) → S x y → R x y) → Image R a b → Image S a b
renamed R S a b there back i = record {
  width = i.width;
  sound = λ f h. let s = i.sound f h in (s.0, s.1, there s.0 f s.2);
  complete = λ x f h r lt. i.complete x f h (back x f r) lt;
}

-- and as it is followed
pub renamed_along : (way : Way) (R S : ℕ → ℕ → Type 0) (a b : List ℕ) → ((x y : ℕ) → R x y → S x y) → ((x y : ℕ) → S x y → R x y) → Image (Along way R) a b → Image (Along way S) a b
renamed_along On R S a b there back i = renamed R S a b there back i
renamed_along Back R S a b there back i = renamed (λ y x. R x y) (λ y x. S x y) a b (λ x y r. there y x r) (λ x y r. back y x r) i

pub after : (R S : ℕ → ℕ → Type 0) (a b c : List ℕ) → Between (room a) R S → Image R a b → Image S b c → Image (λ x z. (y : ℕ) × R x y × S y z) a c
after R S a b c meet i j = record {
  width = j.width ∙ i.width;
  sound = λ f h. let s = j.sound f h in let t = i.sound s.0 s.1 in (t.0, t.1, (s.0, t.2, s.2));
  complete = λ x f h r lt.
      let mid : r.0 < room a = meet x r.0 f (in_room a x h) lt r.1 r.2 in j.complete r.0 f (i.complete x r.0 h r.1 mid) r.2 (omega (arith, lt, i.width));
}

-- back, the second part comes first
pub before : (R S : ℕ → ℕ → Type 0) (a b c : List ℕ) → Between (room a) R S → Image (λ z y. S y z) a b → Image (λ y x. R x y) b c → Image (λ z x. (y : ℕ) × R x y × S y z) a c
before R S a b c meet i j = record {
  width = j.width ∙ i.width;
  sound = λ f h. let s = j.sound f h in let t = i.sound s.0 s.1 in (t.0, t.1, (s.0, s.2, t.2));
  complete = λ x f h r lt.
      let mid : r.0 < room a = meet f r.0 x lt (in_room a x h) r.1 r.2 in j.complete r.0 f (i.complete x r.0 h r.2 mid) r.1 (omega (arith, lt, i.width));
}

pub either : (R S : ℕ → ℕ → Type 0) (a b c u : List ℕ) → Image R a b → Image S a c → length u ≡ length b → HasJust (λ k. In b k ⊎ In c k) u → Image (λ x y. R x y ⊎ S x y) a u
either R S a b c u i j size just = record {
  width = size ∙ i.width;
  sound = λ f h. elim (just.sound f h) [
    | inl left ↦ let s = i.sound f left in (s.0, s.1, inl s.2)
    | inr right ↦ let s = j.sound f right in (s.0, s.1, inr s.2)
  ];
  complete = λ x f h r room_for. elim r [
    | inl left ↦ let there : In b f = i.complete x f h left room_for in just.complete f (inl there) (let lt = in_room b f there in omega (arith, lt, size))
    | inr right ↦ let there : In c f = j.complete x f h right room_for in just.complete f (inr there) (let lt = in_room c f there in omega (arith, lt, size, i.width, j.width))
  ];
}

pub choice : (way : Way) (R S : ℕ → ℕ → Type 0) (a b c u : List ℕ) → Image (Along way R) a b → Image (Along way S) a c → length u ≡ length b → HasJust (λ k. In b k ⊎ In c k) u
    → Image (Along way (λ x y. R x y ⊎ S x y)) a u
choice On R S a b c u i j size just = either R S a b c u i j size just
choice Back R S a b c u i j size just = either (λ y x. R x y) (λ y x. S x y) a b c u i j size just

-- ## Marks

-- what stands at a place leads from it to itself
stays : (way : Way) (P : ℕ → Type 0) (set out : List ℕ) → length out ≡ length set → HasJust (λ k. In set k × P k) out → Image (Along way (λ b f. P b × (f ≡ b))) set out
stays On P set out size just = record {
  width = size;
  sound = λ f h. let s = just.sound f h in (f, s.0, (s.1, refl));
  complete = λ x f h r below. let lt = in_room set x h in subst (In out) (sym r.1) (just.complete x (h, r.0) (omega (arith, lt, size)));
}
stays Back P set out size just = record {
  width = size;
  sound = λ f h. let s = just.sound f h in (f, s.0, (s.1, refl));
  complete = λ x f h r below.
      let here : In set f = subst (In set) r.1 h in
      let lt = in_room set f here in just.complete f (here, r.0) (omega (arith, lt, size));
}

-- where instances begin, or end, in a set
opened : (v : Seen) (tag : ℕ) (set out : List ℕ) → HasAllInside v.text → length set ≡ width v → HasJust (λ k. In set k × Stands v (Begins tag) k) out
    → HasJust (λ k. In set k × ((close : ℕ) × Lies v tag k close)) out
opened v tag set out inside wide just = record {
  sound = λ k h. let s = just.sound k h in (s.0, s.1.1);
  complete = λ k p lt.
      let below = in_room set k p.0 in
      let g = inside (v.tag tag).kind (v.tag tag).test k p.1.0 p.1.1 in
      just.complete k (p.0, (elim g.begins [ inl low ↦ low | inr past ↦ absurd (omega (arith, past, below, wide)) ], p.1)) lt;
}

closed : (v : Seen) (tag : ℕ) (set out : List ℕ) → HasAllInside v.text → length set ≡ width v → HasJust (λ k. In set k × Stands v (Ends tag) k) out
    → HasJust (λ k. In set k × ((open_at : ℕ) × v.text.lies (v.tag tag).kind q.Any open_at k)) out
closed v tag set out inside wide just = record {
  sound = λ k h. let s = just.sound k h in (s.0, s.1.1);
  complete = λ k p lt.
      let below = in_room set k p.0 in
      let g = inside (v.tag tag).kind q.Any p.1.0 k p.1.1 in
      just.complete k (p.0, (elim g.ends [ inl low ↦ low | inr past ↦ absurd (omega (arith, past, below, wide)) ], p.1)) lt;
}

pub begin : (way : Way) (v : Seen) (tag : ℕ) (set out : List ℕ) → HasAllInside v.text → length set ≡ width v → length out ≡ length set
    → HasJust (λ k. In set k × Stands v (Begins tag) k) out → Image (Along way (PartMatches v (Begin tag))) set out
begin way v tag set out inside wide size just = renamed_along way (λ b f. ((close : ℕ) × Lies v tag b close) × (f ≡ b)) (PartMatches v (Begin tag)) set out
    (λ b f r. record { close = r.0.0; lies = r.0.1; end_is = r.1; labels_are = refl }) (λ b f r. ((r.close, r.lies), r.end_is))
    (stays way (λ k. (close : ℕ) × Lies v tag k close) set out size (opened v tag set out inside wide just))

pub end : (way : Way) (v : Seen) (tag : ℕ) (set out : List ℕ) → HasAllInside v.text → length set ≡ width v → length out ≡ length set
    → HasJust (λ k. In set k × Stands v (Ends tag) k) out → Image (Along way (PartMatches v (End tag))) set out
end way v tag set out inside wide size just = renamed_along way (λ b f. ((open_at : ℕ) × v.text.lies (v.tag tag).kind q.Any open_at b) × (f ≡ b)) (PartMatches v (End tag)) set out
    (λ b f r. record { open_at = r.0.0; lies = r.0.1; end_is = r.1; labels_are = refl }) (λ b f r. ((r.open_at, r.lies), r.end_is))
    (stays way (λ k. (open_at : ℕ) × v.text.lies (v.tag tag).kind q.Any open_at k) set out size (closed v tag set out inside wide just))

-- ## One token

pub token_on : (v : Seen) (test : ℕ) (set mid out : List ℕ) → length set ≡ width v → length mid ≡ length set → HasJust (λ k. In set k × Stands v (Holds test) k) mid → length out ≡ length mid
    → HasJust (IsAbove mid 1) out → Image (PartMatches v (Token test)) set out
token_on v test set mid out wide size kept same moved = record {
  width = same ∙ size;
  sound = λ f h.
      let above = moved.sound f h in
      let s = kept.sound above.below above.is_in in
      (above.below, s.0, record { inside = s.1.0; holds = s.1.1; end_is = above.moved; labels_are = refl });
  complete = λ b f h r below.
      let lt : b < v.text.tokens = r.inside in
      let e : f ≡ b + 1 = r.end_is in
      let there : In mid b = kept.complete b (h, (r.inside, r.holds)) (omega (arith, lt, wide, size)) in
      moved.complete f (record { below = b; is_in = there; moved = e }) (omega (arith, lt, e, wide, size, same));
}

pub token_back : (v : Seen) (test : ℕ) (set mid out : List ℕ) → length mid ≡ length set → HasJust (λ k. In set (k + 1)) mid → length out ≡ length mid
    → HasJust (λ k. In mid k × Stands v (Holds test) k) out → Image (λ f b. PartMatches v (Token test) b f) set out
token_back v test set mid out size moved same kept = record {
  width = same ∙ size;
  sound = λ b h.
      let s = kept.sound b h in
      (b + 1, moved.sound b s.0, record { inside = s.1.0; holds = s.1.1; end_is = refl; labels_are = refl });
  complete = λ f b h r below.
      let e : f ≡ b + 1 = r.end_is in
      let lt = in_room set f h in
      let there : In mid b = moved.complete b (subst (In set) e h) (omega (arith, lt, e, size)) in
      kept.complete b (there, (r.inside, r.holds)) (omega (arith, lt, e, size, same));
}

-- ## One part after another

pub seq_on : {E : Type 0} (way : Way) (R S : m.Relation) → Bare R → Bare S → (a b : List ℕ) (out : Result (List ℕ) E) → Between (room a) (Plain R) (Plain S) → way ≡ On → Image (Along way (Plain R)) a b
    → IfOk out (λ o. Image (Along way (Plain S)) b o) → IfOk out (λ o. Image (Along way (Plain (m.Joined R S))) a o)
seq_on On R S r s a b (Ok out) meet e i j = renamed (λ x z. (y : ℕ) × Plain R x y × Plain S y z) (Plain (m.Joined R S)) a out
    (λ x z t. joined_back R S x z t.0 t.1 t.2) (λ x z t. joined_there R S r s x z t) (after (Plain R) (Plain S) a b out meet i j)
seq_on On R S r s a b (Err x) meet e i j = tt
seq_on Back R S r s a b out meet e i j = cc

pub seq_back : {E : Type 0} (way : Way) (R S : m.Relation) → Bare R → Bare S → (a b : List ℕ) (out : Result (List ℕ) E) → Between (room a) (Plain R) (Plain S) → way ≡ Back → Image (Along way (Plain S)) a b
    → IfOk out (λ o. Image (Along way (Plain R)) b o) → IfOk out (λ o. Image (Along way (Plain (m.Joined R S))) a o)
seq_back Back R S r s a b (Ok out) meet e i j = renamed (λ z x. (y : ℕ) × Plain R x y × Plain S y z) (λ z x. Plain (m.Joined R S) x z) a out
    (λ z x t. joined_back R S x z t.0 t.1 t.2) (λ z x t. joined_there R S r s x z t) (before (Plain R) (Plain S) a b out meet i j)
seq_back Back R S r s a b (Err x) meet e i j = tt
seq_back On R S r s a b out meet e i j = cc
