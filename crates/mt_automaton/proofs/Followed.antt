-- Instances, one begin after another.
use Rattle.std.proofs.Common.{◌≡◌, ℕ, ◌+◌, ◌*◌, ◌<◌, ◌≤◌, ◌⊎◌, Option, None, Some, List, length, refl, sym, ◌∙◌, ap, subst, inl, inr, arith}
use Rattle.std.proofs.lemmas.Bool.{cases_eq, cases_lt}
use Rattle.mt_places.specs.Places.{In, room, HasJust}
use Rattle.mt_automaton.proofs.Bits.{in_room}
use Rattle.mt_automaton.specs.declared.part.Part.TheVariants.{Whole}
use Rattle.mt_automaton.specs.declared.view.Mark.TheVariants.{Begins, Empty}
use Rattle.mt_automaton.specs.declared.view.Way.{Way}
use Rattle.mt_automaton.specs.declared.view.Way.TheVariants.{On, Back}
use Rattle.mt_automaton.specs.Parts.{Seen, PartMatches, Stands, Lies, Longer, HasAllInside, width}
use Rattle.mt_automaton.specs.Ways.{Image, Along, Adds, From, Below, AreBegins, near, far}

-- ## One begin

-- no instance begins there
pub none_here : (way : Way) (I : ℕ → ℕ → Type 0) (at : ℕ) (set out : List ℕ) → ((f : ℕ) → I at f → In set (near way at f) → ⊥) → Adds way (From I at) set out out
none_here way I at set out none = record {
  width = refl;
  sound = λ k h. inl h;
  kept = λ k h. h;
  complete = λ b f i h. absurd (none f (subst (λ x. I x f) i.0 i.1) (subst (λ x. In set (near way x f)) i.0 h));
}

-- the one that begins there
pub one_here : (way : Way) (I : ℕ → ℕ → Type 0) (at e here there : ℕ) (set out new : List ℕ) → here ≡ near way at e → there ≡ far way at e → I at e → ((f : ℕ) → I at f → f ≡ e)
    → In set here → length new ≡ length out → there < 64 * length out → HasJust (λ k. In out k ⊎ (k ≡ there)) new → Adds way (From I at) set out new
one_here way I at e here there set out new is_here is_there i only met size room just = record {
  width = size;
  sound = λ k h. elim (just.sound k h) [
    | inl old ↦ inl old
    | inr same ↦ inr (at, (e, ((refl, i), subst (In set) is_here met, same ∙ is_there)))
  ];
  kept = λ k h. let lt = in_room out k h in just.complete k (inl h) (omega (arith, lt, size));
  complete = λ b f r h.
      let same : f ≡ e = only f (subst (λ x. I x f) r.0 r.1) in
      let one : far way b f ≡ there = ap (λ x. far way x f) r.0 ∙ ap (far way at) same ∙ sym is_there in
      just.complete (far way b f) (inr one) (omega (arith, one, room, size));
}

-- one that ends in the text leads to a place of the text
pub leads_in : (way : Way) (at e there tokens : ℕ) → there ≡ far way at e → at < e → e ≤ tokens → there ≤ tokens
leads_in On at e there tokens is some within = omega (arith, is, within)
leads_in Back at e there tokens is some within = omega (arith, is, some, within)

pub none_begins : (I : ℕ → ℕ → Type 0) (at : ℕ) (found : Option ℕ) → found ≡ None → ((f : ℕ) → I at f → found ≡ Some f) → (f : ℕ) → I at f → ⊥
none_begins I at found none only f i = let e : ◌≡◌ {A = Option ℕ} None (Some f) = sym none ∙ only f i in cc

pub one_begins : (I : ℕ → ℕ → Type 0) (at e : ℕ) (found : Option ℕ) → found ≡ Some e → ((f : ℕ) → I at f → found ≡ Some f) → (f : ℕ) → I at f → f ≡ e
one_begins I at e found is only f i = let s : ◌≡◌ {A = Option ℕ} (Some e) (Some f) = sym is ∙ only f i in cc

-- ## All begins, one after another

pub none_yet : (way : Way) (I : ℕ → ℕ → Type 0) (set out : List ℕ) → Adds way (Below I 0) set out out
none_yet way I set out = record { width = refl; sound = λ k h. inl h; kept = λ k h. h; complete = λ b f i h. absurd (omega (arith, i.0)) }

-- `at` is the next of the begins
pub next_begin : (way : Way) (I : ℕ → ℕ → Type 0) (from at tokens : ℕ) (set begins old mid new : List ℕ) → AreBegins way I tokens set begins → from ≤ at → ((k : ℕ) → from ≤ k → k < at → In begins k → ⊥)
    → Adds way (Below I from) set old mid → Adds way (From I at) set mid new → Adds way (Below I (at + 1)) set old new
next_begin way I from at tokens set begins old mid new are low gap a n = record {
  width = n.width ∙ a.width;
  sound = λ k h. elim (n.sound k h) [
    | inl was ↦ elim (a.sound k was) [
      | inl first ↦ inl first
      | inr r ↦ inr (r.0, (r.1.0, ((omega (arith, r.1.1.0.0, low), r.1.1.0.1), r.1.1.1, r.1.1.2)))
    ]
    | inr r ↦ inr (r.0, (r.1.0, ((omega (arith, r.1.1.0.0), r.1.1.0.1), r.1.1.1, r.1.1.2)))
  ];
  kept = λ k h. n.kept k (a.kept k h);
  complete = λ b f i h. elim (cases_lt b from) [
    | inl before ↦ n.kept (far way b f) (a.complete b f (before, i.1) h)
    | inr on ↦ elim (cases_eq b at) [
      | inl here ↦ n.complete b f (here, i.1) h
      | inr other ↦ absurd (gap b on (omega (arith, i.0, other)) (are.all b f i.1 h))
    ]
  ];
}

-- no begin is left
pub all_begins : (way : Way) (I : ℕ → ℕ → Type 0) (from tokens : ℕ) (set begins old new : List ℕ) → AreBegins way I tokens set begins → ((k : ℕ) → from ≤ k → In begins k → ⊥)
    → Adds way (Below I from) set old new → Adds way I set old new
all_begins way I from tokens set begins old new are none a = record {
  width = a.width;
  sound = λ k h. elim (a.sound k h) [ inl was ↦ inl was | inr r ↦ inr (r.0, (r.1.0, (r.1.1.0.1, r.1.1.1, r.1.1.2))) ];
  kept = a.kept;
  complete = λ b f i h. elim (cases_lt b from) [
    | inl before ↦ a.complete b f (before, i) h
    | inr on ↦ absurd (none b on (are.all b f i h))
  ];
}

-- ## The begins of a tag

pub begins_on : (v : Seen) (tag : ℕ) (set begins : List ℕ) → HasAllInside v.text → length set ≡ width v → length begins ≡ length set → HasJust (λ k. In set k × Stands v (Begins tag) k) begins
    → AreBegins On (Longer v tag) v.text.tokens set begins
begins_on v tag set begins inside wide size just = record {
  all = λ b f i h.
      let lt = in_room set b h in
      let low : b < v.text.tokens = omega (arith, i.some, i.within) in just.complete b (h, (omega (arith, low), (f, i.lies))) (omega (arith, lt, size));
  inside = λ b h. let s = just.sound b h in omega (arith, s.1.0);
}

pub begins_back : (v : Seen) (tag : ℕ) (set begins : List ℕ) → HasAllInside v.text → length set ≡ width v → length begins ≡ length set → HasJust (Stands v (Begins tag)) begins
    → AreBegins Back (Longer v tag) v.text.tokens set begins
begins_back v tag set begins inside wide size just = record {
  all = λ b f i h. let low : b < v.text.tokens = omega (arith, i.some, i.within) in just.complete b (omega (arith, low), (f, i.lies)) (omega (arith, low, wide, size));
  inside = λ b h. let s = just.sound b h in omega (arith, s.0);
}

-- ## Instances with tokens and without

-- an instance between places for which there is room lies in the text
in_text : (v : Seen) (tag : ℕ) (set : List ℕ) (b f : ℕ) → HasAllInside v.text → length set ≡ width v → b < room set → f < room set → Lies v tag b f → (b ≤ f) × (f ≤ v.text.tokens)
in_text v tag set b f inside wide hb hf lies =
    let g = inside (v.tag tag).kind (v.tag tag).test b f lies in (
      elim g.begins [ inl low ↦ g.onward low | inr past ↦ absurd (omega (arith, past, hb, wide)) ],
      elim g.ends [ inl low ↦ low | inr out ↦ absurd (omega (arith, out, hf, wide)) ],
    )

pub instance : (way : Way) (v : Seen) (tag : ℕ) (set kept out : List ℕ) → HasAllInside v.text → length set ≡ width v → length kept ≡ length set
    → HasJust (λ k. In set k × Stands v (Empty tag) k) kept → Adds way (Longer v tag) set kept out → Image (Along way (PartMatches v (Whole tag))) set out
instance On v tag set kept out inside wide size just a = record {
  width = a.width ∙ size;
  sound = λ f h. elim (a.sound f h) [
    | inl old ↦ let s = just.sound f old in (f, s.0, record { lies = s.1; labels_are = refl })
    | inr r ↦ (r.0, r.1.1.1, record { lies = subst (Lies v tag r.0) (sym r.1.1.2) r.1.1.0.lies; labels_are = refl })
  ];
  complete = λ b f h r below.
      let lt = in_room set b h in
      let o = in_text v tag set b f inside wide lt below r.lies in
      elim (cases_lt b f) [
        | inl longer ↦ a.complete b f (record { some = longer; within = o.1; lies = r.lies }) h
        | inr same ↦
            let e : f ≡ b = omega (arith, same, o.0) in
            a.kept f (subst (In kept) (sym e) (just.complete b (h, subst (Lies v tag b) e r.lies) (omega (arith, lt, size))))
      ];
}
instance Back v tag set kept out inside wide size just a = record {
  width = a.width ∙ size;
  sound = λ b h. elim (a.sound b h) [
    | inl old ↦ let s = just.sound b old in (b, s.0, record { lies = s.1; labels_are = refl })
    | inr r ↦ (r.1.0, r.1.1.1, record { lies = subst (λ x. Lies v tag x r.1.0) (sym r.1.1.2) r.1.1.0.lies; labels_are = refl })
  ];
  complete = λ f b h r below.
      let lt = in_room set f h in
      let o = in_text v tag set b f inside wide below lt r.lies in
      elim (cases_lt b f) [
        | inl longer ↦ a.complete b f (record { some = longer; within = o.1; lies = r.lies }) h
        | inr same ↦
            let e : f ≡ b = omega (arith, same, o.0) in
            let here : In set b = subst (In set) e h in
            a.kept b (just.complete b (here, subst (Lies v tag b) e r.lies) (omega (arith, below, size)))
      ];
}
