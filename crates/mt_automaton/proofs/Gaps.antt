-- Gaps: so many tokens, whatever they are.
use Rattle.std.proofs.Common.{◌≡◌, ℕ, zero, suc, ◌+◌, ◌-◌, ◌<◌, ◌≤◌, ◌⊎◌, List, length, refl, sym, ◌∙◌, subst, inl, inr, arith}
use Rattle.std.proofs.lemmas.Bool.{cases_lt}
use Rattle.mt_text_spec.specs.Queries.{Any}
use Rattle.mt_match_spec.specs.Matches as m
use Rattle.mt_places.specs.Places.{In, IsAbove, HasJust, room}
use Rattle.mt_automaton.specs.declared.part.Part.TheVariants.{Gap}
use Rattle.mt_automaton.specs.declared.view.Way.{Way}
use Rattle.mt_automaton.specs.declared.view.Way.TheVariants.{On, Back}
use Rattle.mt_automaton.specs.Parts.{Seen, PartMatches}
use Rattle.mt_automaton.specs.Ways.{Image, Along, Later, UpTo}
use Rattle.mt_automaton.specs.Bounds.{HasAtMost}
use Rattle.mt_automaton.proofs.Bare.{Plain, Bare}
use Rattle.mt_automaton.proofs.Bits.{in_room}
use Rattle.mt_automaton.proofs.Images.{renamed_along}
use Rattle.mt_automaton.proofs.Turned.{Turns, repeated_there, repeated_back}

-- ## Sets that are moved

pub moved_on : (by : ℕ) (set new : List ℕ) → length new ≡ length set → HasJust (IsAbove set by) new → Image (Later by) set new
moved_on by set new size just = record {
  width = size;
  sound = λ f h. let s = just.sound f h in (s.below, s.is_in, s.moved);
  complete = λ b f h r lt. just.complete f (record { below = b; is_in = h; moved = r }) (omega (arith, lt, size));
}

pub moved_back : (by : ℕ) (set new : List ℕ) → length new ≡ length set → HasJust (λ k. In set (k + by)) new → Image (λ f b. Later by b f) set new
moved_back by set new size just = record {
  width = size;
  sound = λ b h. (b + by, just.sound b h, refl);
  complete = λ f b h r lt. just.complete b (subst (In set) r h) (omega (arith, lt, size));
}

pub not_spread : (way : Way) (set : List ℕ) → Image (Along way (UpTo 0)) set set
not_spread On set = record {
  width = refl;
  sound = λ f h. (f, h, (omega arith, omega arith));
  complete = λ b f h r lt. let e : b ≡ f = omega (arith, r.0, r.1) in subst (In set) e h;
}
not_spread Back set = record {
  width = refl;
  sound = λ b h. (b, h, (omega arith, omega arith));
  complete = λ f b h r lt. let e : f ≡ b = omega (arith, r.0, r.1) in subst (In set) e h;
}

pub spread_more : (way : Way) (done step : ℕ) (set spread moved next : List ℕ) → step ≤ done + 1 → Image (Along way (UpTo done)) set spread → Image (Along way (Later step)) spread moved
    → length next ≡ length spread → HasJust (λ k. In spread k ⊎ In moved k) next → Image (Along way (UpTo (done + step))) set next
spread_more On done step set spread moved next small i j size just = record {
  width = size ∙ i.width;
  sound = λ f h. elim (just.sound f h) [
    | inl old ↦ let s = i.sound f old in (s.0, s.1, (s.2.0, omega (arith, s.2.1)))
    | inr new ↦
        let t = j.sound f new in
        let s = i.sound t.0 t.1 in
        (s.0, s.1, (omega (arith, t.2, s.2.0), omega (arith, t.2, s.2.1)))
  ];
  complete = λ b f h r lt.
      let room_for : f < room next = omega (arith, lt, size, i.width) in
      elim (cases_lt (b + done) f) [
        | inl far ↦
            let there : In spread (f - step) = i.complete b (f - step) h (omega (arith, far, small), omega (arith, far, small, r.1)) (omega (arith, lt)) in
            just.complete f (inr (j.complete (f - step) f there (omega (arith, far, small)) (omega (arith, lt, i.width)))) room_for
        | inr near ↦ just.complete f (inl (i.complete b f h (r.0, near) lt)) room_for
      ];
}
spread_more Back done step set spread moved next small i j size just = record {
  width = size ∙ i.width;
  sound = λ b h. elim (just.sound b h) [
    | inl old ↦ let s = i.sound b old in (s.0, s.1, (s.2.0, omega (arith, s.2.1)))
    | inr new ↦
        let t = j.sound b new in
        let s = i.sound t.0 t.1 in
        (s.0, s.1, (omega (arith, t.2, s.2.0), omega (arith, t.2, s.2.1)))
  ];
  complete = λ f b h r lt.
      let room_for : b < room next = omega (arith, lt, size, i.width) in
      elim (cases_lt (b + done) f) [
        | inl far ↦
            let below = in_room set f h in
            let there : In spread (b + step) = i.complete f (b + step) h (omega (arith, far, small), omega (arith, r.1)) (omega (arith, far, small, below)) in
            just.complete b (inr (j.complete (b + step) b there refl (omega (arith, lt, i.width)))) room_for
        | inr near ↦ just.complete b (inl (i.complete f b h (r.0, near) lt)) room_for
      ];
}

-- ## Tokens of any kind

-- what a gap matches in a text of n tokens
abbrev Leads : (n least most b f : ℕ) → Type 0
Leads n least most b f = (b + least ≤ f) × (f ≤ b + most) × ((f ≡ b) ⊎ (f ≤ n))

bare_token : (v : Seen) → Bare (m.IsToken v.text 0 Any)
bare_token v b f l h = h.labels_are

turns_lead : (v : Seen) (k b f : ℕ) → Turns (Plain (m.IsToken v.text 0 Any)) k b f → (f ≡ b + k) × ((f ≡ b) ⊎ (f ≤ v.text.tokens))
turns_lead v zero b f t = (omega (arith, t), inl (sym t))
turns_lead v (suc k) b f t =
    let e : t.0 ≡ b + 1 = t.1.end_is in
    let lt : b < v.text.tokens = t.1.inside in
    let rest : (f ≡ t.0 + k) × ((f ≡ t.0) ⊎ (f ≤ v.text.tokens)) = turns_lead v k t.0 f t.2 in
    (omega (arith, e, rest.0), inr (elim rest.1 [ inl same ↦ omega (arith, same, e, lt) | inr low ↦ low ]))

lead_turns : (v : Seen) → ((place : ℕ) → place < v.text.tokens → v.text.holds Any place) → (k b f : ℕ) → f ≡ b + k → (f ≡ b) ⊎ (f ≤ v.text.tokens) → Turns (Plain (m.IsToken v.text 0 Any)) k b f
lead_turns v any zero b f e low = omega (arith, e)
lead_turns v any (suc k) b f e low =
    let within : f ≤ v.text.tokens = elim low [ inl same ↦ absurd (omega (arith, same, e)) | inr in_text ↦ in_text ] in
    let lt : b < v.text.tokens = omega (arith, e, within) in
    (b + 1, record { inside = lt; holds = any b lt; end_is = refl; labels_are = refl }, lead_turns v any k (b + 1) f (omega (arith, e)) (inr within))

gap_leads : (v : Seen) (least most b f : ℕ) → PartMatches v (Gap least most) b f → Leads v.text.tokens least most b f
gap_leads v least most b f r =
    let q = repeated_there On (m.IsToken v.text 0 Any) least most b f (bare_token v) r in
    let t : (f ≡ b + q.count) × ((f ≡ b) ⊎ (f ≤ v.text.tokens)) = turns_lead v q.count b f q.turns in
    (omega (arith, t.0, q.low), omega (arith, t.0, q.high), t.1)

leads_gap : (v : Seen) → ((place : ℕ) → place < v.text.tokens → v.text.holds Any place) → (least most b f : ℕ) → Leads v.text.tokens least most b f → PartMatches v (Gap least most) b f
leads_gap v any least most b f r =
    repeated_back On (m.IsToken v.text 0 Any) least most b f
    (record { count = f - b; low = omega (arith, r.0); high = omega (arith, r.1); turns = lead_turns v any (f - b) b f (omega (arith, r.0)) r.2 })

pub gap_most : (v : Seen) (least most : ℕ) → HasAtMost (PartMatches v (Gap least most)) v.text.tokens most
gap_most v least most = record { all = λ b f hb hf r. (gap_leads v least most b f r).1 }

-- ## The sets of a gap

lead_images : (way : Way) (n least most : ℕ) (set all kept moved wide cut out : List ℕ) → least ≤ most → length all ≡ length set → HasJust (λ k. (least ≡ 0) × In set k) all
    → length kept ≡ length set → HasJust (λ k. In set k × (k < n + 1)) kept → Image (Along way (Later least)) kept moved → Image (Along way (UpTo (most - least))) moved wide
    → length cut ≡ length wide → HasJust (λ k. In wide k × (k < n + 1)) cut → length out ≡ length all → HasJust (λ k. In all k ⊎ In cut k) out → Image (Along way (Leads n least most)) set out
lead_images On n least most set all kept moved wide cut out order s1 h1 s2 h2 i j s3 h3 s4 h4 = record {
  width = s4 ∙ s1;
  sound = λ f h. elim (h4.sound f h) [
    | inl none ↦ let a = h1.sound f none in (f, a.1, (omega (arith, a.0), omega arith, inl refl))
    | inr some ↦
        let c = h3.sound f some in
        let t = j.sound f c.0 in
        let s = i.sound t.0 t.1 in
        let k = h2.sound s.0 s.1 in
        (s.0, k.0, (omega (arith, s.2, t.2.0), omega (arith, s.2, t.2.1, order), inr (omega (arith, c.1))))
  ];
  complete = λ b f h r lt.
      let room_for : f < room out = omega (arith, lt, s4, s1) in
      elim r.2 [
        | inl same ↦ h4.complete f (inl (h1.complete f (omega (arith, same, r.0), subst (In set) (sym same) h) (omega (arith, lt, s1)))) room_for
        | inr low ↦
            let below = in_room set b h in
            let one : In kept b = h2.complete b (h, omega (arith, low, r.0)) (omega (arith, below, s2)) in
            let two : In moved (b + least) = i.complete b (b + least) one refl (omega (arith, r.0, lt, s2)) in
            let three : In wide f = j.complete (b + least) f two (r.0, omega (arith, r.1, order)) (omega (arith, lt, s2, i.width)) in
            let four : In cut f = h3.complete f (three, omega (arith, low)) (omega (arith, lt, s3, j.width, i.width, s2)) in
            h4.complete f (inr four) room_for
      ];
}
lead_images Back n least most set all kept moved wide cut out order s1 h1 s2 h2 i j s3 h3 s4 h4 = record {
  width = s4 ∙ s1;
  sound = λ b h. elim (h4.sound b h) [
    | inl none ↦ let a = h1.sound b none in (b, a.1, (omega (arith, a.0), omega arith, inl refl))
    | inr some ↦
        let c = h3.sound b some in
        let t = j.sound b c.0 in
        let s = i.sound t.0 t.1 in
        let k = h2.sound s.0 s.1 in
        (s.0, k.0, (omega (arith, s.2, t.2.0), omega (arith, s.2, t.2.1, order), inr (omega (arith, k.1))))
  ];
  complete = λ f b h r lt.
      let room_for : b < room out = omega (arith, lt, s4, s1) in
      elim r.2 [
        | inl same ↦ h4.complete b (inl (h1.complete b (omega (arith, same, r.0), subst (In set) same h) (omega (arith, lt, s1)))) room_for
        | inr low ↦
            let below = in_room set f h in
            let one : In kept f = h2.complete f (h, omega (arith, low)) (omega (arith, below, s2)) in
            let two : In moved (f - least) = i.complete f (f - least) one (omega (arith, r.0)) (omega (arith, below, s2)) in
            let three : In wide b = j.complete (f - least) b two (omega (arith, r.0), omega (arith, r.0, r.1, order)) (omega (arith, lt, s2, i.width)) in
            let four : In cut b = h3.complete b (three, omega (arith, low, r.0)) (omega (arith, lt, s3, j.width, i.width, s2)) in
            h4.complete b (inr four) room_for
      ];
}

pub gap_image : (way : Way) (v : Seen) (least most : ℕ) (set all kept moved wide cut out : List ℕ) → ((place : ℕ) → place < v.text.tokens → v.text.holds Any place) → least ≤ most
    → length all ≡ length set → HasJust (λ k. (least ≡ 0) × In set k) all → length kept ≡ length set → HasJust (λ k. In set k × (k < v.text.tokens + 1)) kept
    → Image (Along way (Later least)) kept moved → Image (Along way (UpTo (most - least))) moved wide → length cut ≡ length wide → HasJust (λ k. In wide k × (k < v.text.tokens + 1)) cut
    → length out ≡ length all → HasJust (λ k. In all k ⊎ In cut k) out → Image (Along way (PartMatches v (Gap least most))) set out
gap_image way v least most set all kept moved wide cut out any order s1 h1 s2 h2 i j s3 h3 s4 h4 =
    renamed_along way (Leads v.text.tokens least most) (PartMatches v (Gap least most)) set out (leads_gap v any least most) (gap_leads v least most)
    (lead_images way v.text.tokens least most set all kept moved wide cut out order s1 h1 s2 h2 i j s3 h3 s4 h4)
