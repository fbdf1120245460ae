-- How far the matches of a part lead, by its form.
use Rattle.std.proofs.Common.{◌≡◌, ℕ, zero, suc, ◌+◌, ◌*◌, ◌≤◌, ◌⊎◌, List, min, max, subst, inl, inr, arith}
use Rattle.std.proofs.Math.Nat.{mul-le-mul_right, suc-mul, mul_comm}
use Rattle.std.proofs.lemmas.Bool.{cases_lt}
use Rattle.mt_text_spec.specs.Queries.{Expr}
use Rattle.mt_match_spec.specs.Matches as m
use Rattle.mt_match_spec.specs.Labels.{no_labels}
use Rattle.mt_automaton.specs.declared.part.Part.{Part}
use Rattle.mt_automaton.specs.declared.part.Part.TheVariants.{Token, Begin, End, Whole}
use Rattle.mt_automaton.specs.declared.view.Way.TheVariants.{On}
use Rattle.mt_automaton.specs.Parts.{Seen, PartMatches, HasAllInside, Lies, outside, meant}
use Rattle.mt_automaton.specs.LabelledParts.{Somehow}
use Rattle.mt_automaton.specs.Bounds.{EndsBy, HasAtMost}
use Rattle.mt_automaton.proofs.Bare.{Plain, Bare, bare_part, joined_there}
use Rattle.mt_automaton.proofs.Forward.{Forward, forward}
use Rattle.mt_automaton.proofs.Turned.{Turns, Repeated, repeated_there, turns_on, one_less}

-- two relations of which the second goes on where the first ends meet in the text
abbrev pub MeetBelow : (n : ℕ) → (R S : ℕ → ℕ → Type 0) → Type 0
MeetBelow n R S = (x y z : ℕ) → x ≤ n → z ≤ n → R x y → S y z → y ≤ n

meet_below : (v : Seen) → HasAllInside v.text → (left right : Expr) (x y z : ℕ) (l k : List ℕ) → x ≤ v.text.tokens → z ≤ v.text.tokens → m.Matches v.text left x y l → m.Matches v.text right y z k
    → y ≤ v.text.tokens
meet_below v o left right x y z l k hx hz p q =
    let a : (x ≤ y) × (y ≤ outside v.text) = forward v.text o left x y l (omega (arith, hx)) p in
    let b : (y ≤ z) × (z ≤ outside v.text) = forward v.text o right y z k a.1 q in
    omega (arith, b.0, hz)

pub meet_plain : (v : Seen) → HasAllInside v.text → (left right : Expr) → MeetBelow v.text.tokens (Plain (m.Matches v.text left)) (Plain (m.Matches v.text right))
meet_plain v o left right x y z hx hz p q = meet_below v o left right x y z no_labels no_labels hx hz p q

pub meet_somehow : (v : Seen) → HasAllInside v.text → (left right : Expr) → MeetBelow v.text.tokens (Somehow (m.Matches v.text left)) (Somehow (m.Matches v.text right))
meet_somehow v o left right x y z hx hz p q = meet_below v o left right x y z p.0 q.0 hx hz p.1 q.1

-- ## By how many tokens

pub by_most : (R : ℕ → ℕ → Type 0) (n at most far : ℕ) → at ≤ n → far ≡ min (at + most) n → HasAtMost R n most → EndsBy R n at far
by_most R n at most far low is h = record {
  on = omega (arith, low, is);
  within = omega (arith, is);
  all = λ b f hb hf r. let e : f ≤ b + most = h.all b f (omega (arith, hb, low)) hf r in omega (arith, e, hb, hf, is);
}

pub one_token : (v : Seen) (test : ℕ) → HasAtMost (PartMatches v (Token test)) v.text.tokens 1
one_token v test = record { all = λ b f hb hf r. omega (arith, r.end_is) }

pub one_labelled : (v : Seen) (label test : ℕ) → HasAtMost (Somehow (m.IsToken v.text label (v.test test))) v.text.tokens 1
one_labelled v label test = record { all = λ b f hb hf r. omega (arith, r.1.end_is) }

pub none_at_begin : (v : Seen) (tag : ℕ) → HasAtMost (PartMatches v (Begin tag)) v.text.tokens 0
none_at_begin v tag = record { all = λ b f hb hf r. omega (arith, r.end_is) }

pub none_at_end : (v : Seen) (tag : ℕ) → HasAtMost (PartMatches v (End tag)) v.text.tokens 0
none_at_end v tag = record { all = λ b f hb hf r. omega (arith, r.end_is) }

pub begin_stays : (v : Seen) (tag at : ℕ) → at ≤ v.text.tokens → EndsBy (PartMatches v (Begin tag)) v.text.tokens at at
begin_stays v tag at low = record { on = omega arith; within = low; all = λ b f hb hf r. omega (arith, r.end_is, hb) }

pub end_stays : (v : Seen) (tag at : ℕ) → at ≤ v.text.tokens → EndsBy (PartMatches v (End tag)) v.text.tokens at at
end_stays v tag at low = record { on = omega arith; within = low; all = λ b f hb hf r. omega (arith, r.end_is, hb) }

pub both_most : (R S : m.Relation) → Bare R → Bare S → (n cap a b c : ℕ) → n ≤ cap → MeetBelow n (Plain R) (Plain S) → c ≡ min (a + b) cap → HasAtMost (Plain R) n a → HasAtMost (Plain S) n b
    → HasAtMost (Plain (m.Joined R S)) n c
both_most R S r s n cap a b c few meet is x y = record {
  all = λ p f hp hf j.
      let t = joined_there R S r s p f j in
      let low : t.0 ≤ n = meet p t.0 f hp hf t.1 t.2 in
      let one : t.0 ≤ p + a = x.all p t.0 hp low t.1 in
      let two : f ≤ t.0 + b = y.all t.0 f low hf t.2 in omega (arith, one, two, is, hf, few);
}

pub either_most : (R S : ℕ → ℕ → Type 0) (n a b c : ℕ) → c ≡ max a b → HasAtMost R n a → HasAtMost S n b → HasAtMost (λ p f. R p f ⊎ S p f) n c
either_most R S n a b c is x y = record {
  all = λ p f hp hf r. elim r [
    | inl one ↦ let e : f ≤ p + a = x.all p f hp hf one in omega (arith, e, is)
    | inr other ↦ let e : f ≤ p + b = y.all p f hp hf other in omega (arith, e, is)
  ];
}

turns_most : (R : m.Relation) (n past most : ℕ) → n ≤ past → Forward past R → HasAtMost (Plain R) n most → (k b f : ℕ) → b ≤ n → f ≤ n → Turns (Plain R) k b f → f ≤ b + k * most
turns_most R n past most wide up h zero b f hb hf t = omega (arith, t)
turns_most R n past most wide up h (suc k) b f hb hf t =
    let x : (b ≤ t.0) × (t.0 ≤ past) = up b t.0 no_labels (omega (arith, hb, wide)) t.1 in
    let y : (t.0 ≤ f) × (f ≤ past) = turns_on past R up k t.0 f x.1 t.2 in
    let low : t.0 ≤ n = omega (arith, y.0, hf) in
    let one : t.0 ≤ b + most = h.all b t.0 hb low t.1 in
    let more : f ≤ t.0 + k * most = turns_most R n past most wide up h k t.0 f low hf t.2 in
    let e : suc k * most ≡ k * most + most = suc-mul k most in omega (arith, one, more, e)

pub repeated_most : (v : Seen) (inner : Part) (least most cap turn c : ℕ) → v.text.tokens ≤ cap → HasAllInside v.text → c ≡ min (turn * most) cap → HasAtMost (PartMatches v inner) v.text.tokens turn
    → HasAtMost (Plain (m.Repeated (m.Matches v.text (meant v inner)) least most)) v.text.tokens c
repeated_most v inner least most cap turn c few o is h = record {
  all = λ b f hb hf r.
      let M = m.Matches v.text (meant v inner) in
      let q = repeated_there On M least most b f (bare_part v inner) r in
      let e : f ≤ b + q.count * turn = turns_most M v.text.tokens (outside v.text) turn (omega arith) (forward v.text o (meant v inner)) h q.count b f hb hf q.turns in
      let more : q.count * turn ≤ most * turn = mul-le-mul_right turn q.high in
      let same : most * turn ≡ turn * most = mul_comm most turn in omega (arith, e, more, same, is, hf, few);
}

-- ## Part by part

pub whole_ends : (v : Seen) (tag at last far : ℕ) → at ≤ v.text.tokens → ((begin end : ℕ) → Lies v tag begin end → begin ≤ at → end ≤ v.text.tokens → end ≤ max at last)
    → far ≡ min (max at last) v.text.tokens → EndsBy (PartMatches v (Whole tag)) v.text.tokens at far
whole_ends v tag at last far low none is = record {
  on = omega (arith, low, is);
  within = omega (arith, is);
  all = λ b f hb hf r. let e : f ≤ max at last = none b f r.lies hb hf in omega (arith, e, hf, is);
}

then_ends : (R S T : ℕ → ℕ → Type 0) (n at cut far : ℕ) → MeetBelow n R S → ((x z : ℕ) → T x z → (y : ℕ) × R x y × S y z) → EndsBy R n at cut → EndsBy S n cut far → EndsBy T n at far
then_ends R S T n at cut far meet parts x y = record {
  on = omega (arith, x.on, y.on);
  within = y.within;
  all = λ b f hb hf r.
      let t = parts b f r in
      let low : t.0 ≤ n = meet b t.0 f (omega (arith, hb, x.on, x.within)) hf t.1 t.2 in
      let one : t.0 ≤ cut = x.all b t.0 hb low t.1 in y.all t.0 f one hf t.2;
}

pub both_end : (R S : m.Relation) → Bare R → Bare S → (n at cut far : ℕ) → MeetBelow n (Plain R) (Plain S) → EndsBy (Plain R) n at cut → EndsBy (Plain S) n cut far → EndsBy (Plain (m.Joined R S)) n at far
both_end R S r s n at cut far meet x y = then_ends (Plain R) (Plain S) (Plain (m.Joined R S)) n at cut far meet (λ b f j. joined_there R S r s b f j) x y

pub both_end_somehow : (R S : m.Relation) (n at cut far : ℕ) → MeetBelow n (Somehow R) (Somehow S) → EndsBy (Somehow R) n at cut → EndsBy (Somehow S) n cut far → EndsBy (Somehow (m.Joined R S)) n at far
both_end_somehow R S n at cut far meet x y =
    then_ends (Somehow R) (Somehow S) (Somehow (m.Joined R S)) n at cut far meet (λ b f h. (h.1.cut, (h.1.first_labels, h.1.first), (h.1.second_labels, h.1.second))) x y

pub either_ends : (R S : ℕ → ℕ → Type 0) (n at one other far : ℕ) → far ≡ max one other → EndsBy R n at one → EndsBy S n at other → EndsBy (λ b f. R b f ⊎ S b f) n at far
either_ends R S n at one other far is x y = record {
  on = omega (arith, x.on, is);
  within = omega (arith, x.within, y.within, is);
  all = λ b f hb hf r. elim r [
    | inl p ↦ let e : f ≤ one = x.all b f hb hf p in omega (arith, e, is)
    | inr q ↦ let e : f ≤ other = y.all b f hb hf q in omega (arith, e, is)
  ];
}

pub ends_renamed : (R S : ℕ → ℕ → Type 0) (n at far : ℕ) → ((b f : ℕ) → S b f → R b f) → EndsBy R n at far → EndsBy S n at far
ends_renamed R S n at far back x = record { on = x.on; within = x.within; all = λ b f hb hf s. x.all b f hb hf (back b f s) }

pub chosen_ends : (R S : m.Relation) (n at one other far : ℕ) → far ≡ max one other → EndsBy (Somehow R) n at one → EndsBy (Somehow S) n at other
    → EndsBy (Somehow (λ b f labels. R b f labels ⊎ S b f labels)) n at far
chosen_ends R S n at one other far is x y = ends_renamed (λ b f. Somehow R b f ⊎ Somehow S b f) (Somehow (λ b f labels. R b f labels ⊎ S b f labels)) n at far
    (λ b f h. elim h.1 [ inl r ↦ inl (h.0, r) | inr s ↦ inr (h.0, s) ]) (either_ends (Somehow R) (Somehow S) n at one other far is x y)

pub plain_ends : (v : Seen) (part : Part) (n at far : ℕ) → EndsBy (PartMatches v part) n at far → EndsBy (Somehow (m.Matches v.text (meant v part))) n at far
plain_ends v part n at far x = ends_renamed (PartMatches v part) (Somehow (m.Matches v.text (meant v part))) n at far
    (λ b f h. subst (m.Matches v.text (meant v part) b f) (bare_part v part b f h.0 h.1) h.1) x

-- ## Turn by turn

pub no_turn_ends : (R : ℕ → ℕ → Type 0) (n at : ℕ) → at ≤ n → EndsBy (Repeated R 0 0) n at at
no_turn_ends R n at low = record {
  on = omega arith;
  within = low;
  all = λ b f hb hf r.
      let z : r.count ≡ 0 = omega (arith, r.high) in
      let t : Turns R 0 b f = subst (λ x. Turns R x b f) z r.turns in omega (arith, t, hb);
}

pub next_turn_ends : (v : Seen) → HasAllInside v.text → (expr : Expr) (k at far next : ℕ) → EndsBy (Repeated (Plain (m.Matches v.text expr)) 0 k) v.text.tokens at far
    → EndsBy (Plain (m.Matches v.text expr)) v.text.tokens far next → EndsBy (Repeated (Plain (m.Matches v.text expr)) 0 (k + 1)) v.text.tokens at next
next_turn_ends v o expr k at far next x y = record {
  on = omega (arith, x.on, y.on);
  within = y.within;
  all = λ b f hb hf r.
      let M = m.Matches v.text expr in
      elim (cases_lt k r.count) [
        | inl last ↦
            let e : r.count ≡ suc k = omega (arith, last, r.high) in
            let s = one_less (Plain M) k b f (subst (λ j. Turns (Plain M) j b f) e r.turns) in
            let up : (b ≤ s.0) × (s.0 ≤ outside v.text) = turns_on (outside v.text) M (forward v.text o expr) k b s.0 (omega (arith, hb, x.on, x.within)) s.1 in
            let on : (s.0 ≤ f) × (f ≤ outside v.text) = forward v.text o expr s.0 f no_labels up.1 s.2 in
            let low : s.0 ≤ far = x.all b s.0 hb (omega (arith, on.0, hf)) (record { count = k; low = omega arith; high = omega arith; turns = s.1 }) in y.all s.0 f low hf s.2
        | inr fewer ↦
            let low : f ≤ far = x.all b f hb hf (record { count = r.count; low = omega arith; high = fewer; turns = r.turns }) in omega (arith, low, y.on)
      ];
}

still : (v : Seen) → HasAllInside v.text → (expr : Expr) (far : ℕ) → EndsBy (Plain (m.Matches v.text expr)) v.text.tokens far far → (k b f : ℕ) → b ≤ far → f ≤ v.text.tokens
    → Turns (Plain (m.Matches v.text expr)) k b f → f ≤ far
still v o expr far y zero b f hb hf t = omega (arith, t, hb)
still v o expr far y (suc k) b f hb hf t =
    let M = m.Matches v.text expr in
    let x : (b ≤ t.0) × (t.0 ≤ outside v.text) = forward v.text o expr b t.0 no_labels (omega (arith, hb, y.within)) t.1 in
    let on : (t.0 ≤ f) × (f ≤ outside v.text) = turns_on (outside v.text) M (forward v.text o expr) k t.0 f x.1 t.2 in
    let low : t.0 ≤ far = y.all b t.0 hb (omega (arith, on.0, hf)) t.1 in still v o expr far y k t.0 f low hf t.2

-- where a turn leads no further, none does
pub no_further : (v : Seen) → HasAllInside v.text → (expr : Expr) (k most at far next : ℕ) → next ≡ far → EndsBy (Repeated (Plain (m.Matches v.text expr)) 0 k) v.text.tokens at far
    → EndsBy (Plain (m.Matches v.text expr)) v.text.tokens far next → EndsBy (Repeated (Plain (m.Matches v.text expr)) 0 most) v.text.tokens at far
no_further v o expr k most at far next e x y = record {
  on = x.on;
  within = x.within;
  all = λ b f hb hf r.
      still v o expr far (subst (λ z. EndsBy (Plain (m.Matches v.text expr)) v.text.tokens far z) e y) r.count b f (omega (arith, hb, x.on)) hf r.turns;
}

pub repeated_ends : (v : Seen) (inner : Part) (least most at far : ℕ) → EndsBy (Repeated (PartMatches v inner) 0 most) v.text.tokens at far
    → EndsBy (Plain (m.Repeated (m.Matches v.text (meant v inner)) least most)) v.text.tokens at far
repeated_ends v inner least most at far x = ends_renamed (Repeated (PartMatches v inner) 0 most) (Plain (m.Repeated (m.Matches v.text (meant v inner)) least most)) v.text.tokens at far
    (λ b f r. let q = repeated_there On (m.Matches v.text (meant v inner)) least most b f (bare_part v inner) r in record { count = q.count; low = omega arith; high = q.high; turns = q.turns }) x
