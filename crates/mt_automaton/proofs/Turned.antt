-- Turns, one more and one after another.
use Rattle.std.proofs.Common.{◌≡◌, ℕ, zero, suc, ◌+◌, ◌*◌, ◌<◌, ◌≤◌, ◌⊎◌, List, length, refl, sym, ◌∙◌, ap, subst, inl, inr, arith}
use Rattle.std.proofs.lemmas.Bool.{cases_eq, cases_lt}
use Rattle.mt_text_spec.specs.Queries.{Expr}
use Rattle.mt_match_spec.specs.Matches as m
use Rattle.mt_match_spec.specs.Labels.{no_labels}
use Rattle.mt_places.specs.Places.{In, bit, room, HasJust}
use Rattle.mt_automaton.proofs.Bits.{in_room}
use Rattle.mt_automaton.specs.declared.view.Way.{Way}
use Rattle.mt_automaton.specs.declared.view.Way.TheVariants.{On, Back}
use Rattle.mt_automaton.specs.Parts.{Seen, HasAllInside, outside, width}
use Rattle.mt_automaton.specs.Ways.{Image, Along, Counts}
use Rattle.mt_automaton.proofs.Bare.{Plain, Bare, bare_turns, joined_there, joined_back}
use Rattle.mt_automaton.proofs.Forward.{Forward, forward}
use Rattle.mt_automaton.proofs.Images.{renamed}

-- so many turns, apart from labels
abbrev pub Turns : (ℕ → ℕ → Type 0) → ℕ → ℕ → ℕ → Type 0
Turns R zero b f = b ≡ f
Turns R (suc k) b f = (c : ℕ) × R b c × Turns R k c f

pub record Repeated (R : ℕ → ℕ → Type 0) (least most b f : ℕ) : Type 0 where
  pub count : ℕ
  pub low : least ≤ count
  pub high : count ≤ most
  pub turns : Turns R count b f

turns_there : (R : m.Relation) (k b f : ℕ) → Bare R → Plain (m.Turns R k) b f → Turns (Plain R) k b f
turns_there R zero b f r t = t.0
turns_there R (suc k) b f r t = let j = joined_there R (m.Turns R k) r (bare_turns R k r) b f t in (j.0, j.1, turns_there R k j.0 f r j.2)

turns_back : (R : m.Relation) (k b f : ℕ) → Turns (Plain R) k b f → Plain (m.Turns R k) b f
turns_back R zero b f t = (t, refl)
turns_back R (suc k) b f t = joined_back R (m.Turns R k) b f t.0 t.1 (turns_back R k t.0 f t.2)

-- a turn at the end
one_more : (R : ℕ → ℕ → Type 0) (k b c f : ℕ) → Turns R k b c → R c f → Turns R (suc k) b f
one_more R zero b c f t r = (f, subst (λ x. R x f) (sym t) r, refl)
one_more R (suc k) b c f t r = (t.0, t.1, one_more R k t.0 c f t.2 r)

pub one_less : (R : ℕ → ℕ → Type 0) (k b f : ℕ) → Turns R (suc k) b f → (c : ℕ) × Turns R k b c × R c f
one_less R zero b f t = (b, refl, subst (R b) t.2 t.1)
one_less R (suc k) b f t = let s = one_less R k t.0 f t.2 in (s.0, (t.0, t.1, s.1), s.2)

-- turns of what is followed back are turns that are followed back
turns_along : (way : Way) (R : ℕ → ℕ → Type 0) (k x y : ℕ) → Turns (Along way R) k x y → Along way (Turns R k) x y
turns_along On R zero x y t = t
turns_along On R (suc k) x y t = (t.0, t.1, turns_along On R k t.0 y t.2)
turns_along Back R zero x y t = sym t
turns_along Back R (suc k) x y t = one_more R k y t.0 x (turns_along Back R k t.0 y t.2) t.1

along_turns : (way : Way) (R : ℕ → ℕ → Type 0) (k x y : ℕ) → Along way (Turns R k) x y → Turns (Along way R) k x y
along_turns On R zero x y t = t
along_turns On R (suc k) x y t = (t.0, t.1, along_turns On R k t.0 y t.2)
along_turns Back R zero x y t = sym t
along_turns Back R (suc k) x y t = one_more (Along Back R) k x t.0 y (along_turns Back R k x t.0 t.2) t.1

pub repeated_there : (way : Way) (R : m.Relation) (least most x y : ℕ) → Bare R → Along way (Plain (m.Repeated R least most)) x y → Repeated (Along way (Plain R)) least most x y
repeated_there On R least most x y bare r = record { count = r.count; low = r.low; high = r.high; turns = along_turns On (Plain R) r.count x y (turns_there R r.count x y bare r.turns) }
repeated_there Back R least most x y bare r = record { count = r.count; low = r.low; high = r.high; turns = along_turns Back (Plain R) r.count x y (turns_there R r.count y x bare r.turns) }

pub repeated_back : (way : Way) (R : m.Relation) (least most x y : ℕ) → Repeated (Along way (Plain R)) least most x y → Along way (Plain (m.Repeated R least most)) x y
repeated_back On R least most x y r = record { count = r.count; low = r.low; high = r.high; turns = turns_back R r.count x y (turns_along On (Plain R) r.count x y r.turns) }
repeated_back Back R least most x y r = record { count = r.count; low = r.low; high = r.high; turns = turns_back R r.count y x (turns_along Back (Plain R) r.count x y r.turns) }

pub repeated : (way : Way) (R : m.Relation) (least most : ℕ) (set all : List ℕ) → Bare R → Image (Repeated (Along way (Plain R)) least most) set all
    → Image (Along way (Plain (m.Repeated R least most))) set all
repeated way R least most set all bare i = renamed (Repeated (Along way (Plain R)) least most) (Along way (Plain (m.Repeated R least most))) set all
    (repeated_back way R least most) (λ x y r. repeated_there way R least most x y bare r) i

-- ## Where turns meet

-- where so many turns meet the next between two places for which there is room
abbrev pub Meets : (n : ℕ) → (ℕ → ℕ → Type 0) → Type 0
Meets n R = (k x y z : ℕ) → x < n → z < n → Turns R k x y → R y z → y < n

pub turns_on : (n : ℕ) (R : m.Relation) → Forward n R → (k b f : ℕ) → b ≤ n → Turns (Plain R) k b f → (b ≤ f) × (f ≤ n)
turns_on n R r zero b f h t = (omega (arith, t), omega (arith, t, h))
turns_on n R r (suc k) b f h t =
    let x : (b ≤ t.0) × (t.0 ≤ n) = r b t.0 no_labels h t.1 in
    let y : (t.0 ≤ f) × (f ≤ n) = turns_on n R r k t.0 f x.1 t.2 in
    (omega (arith, x.0, y.0), y.1)

turns_meet : (way : Way) (n : ℕ) (R : m.Relation) → Forward n R → Meets n (Along way (Plain R))
turns_meet On n R r k x y z hx hz t p =
    let a : (x ≤ y) × (y ≤ n) = turns_on n R r k x y (omega (arith, hx)) (turns_along On (Plain R) k x y t) in
    let b : (y ≤ z) × (z ≤ n) = r y z no_labels a.1 p in omega (arith, b.0, hz)
turns_meet Back n R r k x y z hx hz t p =
    let a : (z ≤ y) × (y ≤ n) = r z y no_labels (omega (arith, hz)) p in
    let b : (y ≤ x) × (x ≤ n) = turns_on n R r k y x a.1 (turns_along Back (Plain R) k x y t) in omega (arith, b.0, hx)

pub meets : (way : Way) (v : Seen) → HasAllInside v.text → (expr : Expr) (set : List ℕ) → length set ≡ width v → Meets (room set) (Along way (Plain (m.Matches v.text expr)))
meets way v o expr set wide = subst (λ n. Meets n (Along way (Plain (m.Matches v.text expr)))) (ap (λ k. 64 * k) (sym wide)) (turns_meet way (outside v.text) (m.Matches v.text expr) (forward v.text o expr))

-- ## The sets of the loop

-- a place that fewer turns lead to, though not too few
pub record Earlier (R : ℕ → ℕ → Type 0) (least k : ℕ) (set : List ℕ) (f : ℕ) : Type 0 where
  pub begin : ℕ
  pub begins : In set begin
  pub count : ℕ
  pub low : least ≤ count
  pub high : count < k
  pub turns : Turns R count begin f

-- what k turns lead to; what fewer turns lead to may be left out
pub record Frontier (R : ℕ → ℕ → Type 0) (least k : ℕ) (set turn : List ℕ) : Type 0 where
  pub size : length turn ≡ length set
  pub sound : (f : ℕ) → In turn f → (b : ℕ) × In set b × Turns R k b f
  pub complete : (b f : ℕ) → In set b → Turns R k b f → f < room set → In turn f ⊎ Earlier R least k set f

pub no_turn : (R : ℕ → ℕ → Type 0) (least : ℕ) (set : List ℕ) → Frontier R least 0 set set
no_turn R least set = record { size = refl; sound = λ f h. (f, h, refl); complete = λ b f h r lt. inl (subst (In set) r h) }

-- what no turn at all leads to
pub unturned : (R : ℕ → ℕ → Type 0) (least : ℕ) (set all : List ℕ) → length all ≡ length set → HasJust (λ p. (least ≡ 0) × In set p) all → Image (Repeated R least 0) set all
unturned R least set all size just = record {
  width = size;
  sound = λ f h. let s = just.sound f h in (f, s.1, record { count = 0; low = omega (arith, s.0); high = omega arith; turns = refl });
  complete = λ b f h r lt.
      let z : r.count ≡ 0 = omega (arith, r.high) in
      let t : Turns R 0 b f = subst (λ x. Turns R x b f) z r.turns in
      just.complete f (omega (arith, r.low, r.high), subst (In set) t h) (omega (arith, lt, size));
}

-- a place that one turn more leads to
reached : (R : ℕ → ℕ → Type 0) (least k : ℕ) (set turn next : List ℕ) → Meets (room set) R → Frontier R least k set turn → Image R turn next
    → (b f : ℕ) → In set b → Turns R (k + 1) b f → f < room set → In next f ⊎ Earlier R least (k + 1) set f
reached R least k set turn next meet i j b f h r lt =
    let e : k + 1 ≡ suc k = omega arith in
    let s = one_less R k b f (subst (λ x. Turns R x b f) e r) in
    let mid : s.0 < room set = meet k b s.0 f (in_room set b h) lt s.1 s.2 in
    elim (i.complete b s.0 h s.1 mid) [
      | inl there ↦ inl (j.complete s.0 f there s.2 (omega (arith, lt, i.size)))
      | inr old ↦ inr (record {
        begin = old.begin;
        begins = old.begins;
        count = suc old.count;
        low = omega (arith, old.low);
        high = omega (arith, old.high);
        turns = one_more R old.count old.begin s.0 f old.turns s.2;
      })
    ]

turned : (R : ℕ → ℕ → Type 0) (least k : ℕ) (set turn next : List ℕ) → Frontier R least k set turn → Image R turn next → (f : ℕ) → In next f → (b : ℕ) × In set b × Turns R (k + 1) b f
turned R least k set turn next i j f h =
    let e : suc k ≡ k + 1 = omega arith in
    let s = j.sound f h in
    let t = i.sound s.0 s.1 in
    (t.0, t.1, subst (λ x. Turns R x t.0 f) e (one_more R k t.0 s.0 f t.2 s.2))

-- the loop's two sets
pub record Turning (R : ℕ → ℕ → Type 0) (least k : ℕ) (set turn all : List ℕ) : Type 0 where
  pub turned : Frontier R least k set turn
  pub counted : Image (Repeated R least k) set all

not_counted : (R : ℕ → ℕ → Type 0) (least k : ℕ) (set turn all next : List ℕ) → k + 1 < least → Meets (room set) R → Turning R least k set turn all → Image R turn next → Turning R least (k + 1) set next all
not_counted R least k set turn all next few meet h j = record {
  turned = record {
    size = j.width ∙ h.turned.size;
    sound = turned R least k set turn next h.turned j;
    complete = reached R least k set turn next meet h.turned j;
  };
  counted = renamed (Repeated R least k) (Repeated R least (k + 1)) set all
      (λ x y r. record { count = r.count; low = r.low; high = omega (arith, r.high); turns = r.turns })
      (λ x y r. absurd (omega (arith, few, r.low, r.high))) h.counted;
}

kept_frontier : (R : ℕ → ℕ → Type 0) (least k : ℕ) (set turn all next kept more : List ℕ) → Meets (room set) R → Turning R least k set turn all → Image R turn next
    → Counts next all kept more → Frontier R least (k + 1) set kept
kept_frontier R least k set turn all next kept more meet h j c = record {
  size = c.kept_size ∙ j.width ∙ h.turned.size;
  sound = λ f i. turned R least k set turn next h.turned j f (c.kept_are.sound f i).0;
  complete = λ b f i r lt. elim (reached R least k set turn next meet h.turned j b f i r lt) [
    | inl there ↦ elim (cases_eq (bit all f) 1) [
      | inl old ↦
          let s = h.counted.sound f old in
          inr (record { begin = s.0; begins = s.1; count = s.2.count; low = s.2.low; high = omega (arith, s.2.high); turns = s.2.turns })
      | inr new ↦ inl (c.kept_are.complete f (there, new) (omega (arith, lt, c.kept_size, j.width, h.turned.size)))
    ]
    | inr old ↦ inr old
  ];
}

one_counted : (R : ℕ → ℕ → Type 0) (least k : ℕ) (set turn all next kept more : List ℕ) → least ≤ k + 1 → Meets (room set) R → Turning R least k set turn all → Image R turn next
    → Counts next all kept more → Turning R least (k + 1) set kept more
one_counted R least k set turn all next kept more low meet h j c =
    let front = kept_frontier R least k set turn all next kept more meet h j c in
    let i = h.counted in
    record {
      turned = front;
      counted = record {
        width = c.all_size ∙ i.width;
        sound = λ f p. elim (c.more_are.sound f p) [
          | inl old ↦ let s = i.sound f old in (s.0, s.1, record { count = s.2.count; low = s.2.low; high = omega (arith, s.2.high); turns = s.2.turns })
          | inr new ↦ let s = front.sound f new in (s.0, s.1, record { count = k + 1; low = low; high = omega arith; turns = s.2 })
        ];
        complete = λ b f p r lt.
            let room_for : f < room more = omega (arith, lt, c.all_size, i.width) in
            elim (cases_lt k r.count) [
              | inl last ↦
                  let e : r.count ≡ k + 1 = omega (arith, r.high) in
                  elim (front.complete b f p (subst (λ x. Turns R x b f) e r.turns) lt) [
                    | inl new ↦ c.more_are.complete f (inr new) room_for
                    | inr old ↦ c.more_are.complete f (inl (i.complete old.begin f old.begins (record { count = old.count; low = old.low; high = omega (arith, old.high); turns = old.turns }) lt)) room_for
                  ]
              | inr fewer ↦ c.more_are.complete f (inl (i.complete b f p (record { count = r.count; low = r.low; high = fewer; turns = r.turns }) lt)) room_for
            ];
      };
    }

-- one turn more, whether it counts yet or not
pub next_turn : (R : ℕ → ℕ → Type 0) (least k : ℕ) (set turn all next kept more : List ℕ) → Meets (room set) R → Turning R least k set turn all → Image R turn next
    → (k + 1 < least → (kept ≡ next) × (more ≡ all)) → (least ≤ k + 1 → Counts next all kept more) → Turning R least (k + 1) set kept more
next_turn R least k set turn all next kept more meet h j few enough = elim (cases_lt (k + 1) least) [
  | inl low ↦
      let e = few low in
      let t = not_counted R least k set turn all next low meet h j in
      subst (λ x. Turning R least (k + 1) set x more) (sym e.0) (subst (Turning R least (k + 1) set next) (sym e.1) t)
  | inr on ↦ one_counted R least k set turn all next kept more on meet h j (enough on)
]

-- where no place is new, no further turn leads to one
all_earlier : (R : ℕ → ℕ → Type 0) (least k : ℕ) (set turn : List ℕ) → Meets (room set) R → Frontier R least k set turn → ((j : ℕ) → In turn j → ⊥) → (n b f : ℕ) → k ≤ n → In set b
    → Turns R n b f → f < room set → Earlier R least k set f
all_earlier R least k set turn meet i dry zero b f low h t lt =
    let e : zero ≡ k = omega (arith, low) in
    elim (i.complete b f h (subst (λ x. Turns R x b f) e t) lt) [ inl there ↦ absurd (dry f there) | inr old ↦ old ]
all_earlier R least k set turn meet i dry (suc n) b f low h t lt = elim (cases_lt k (suc n)) [
  | inl more ↦
      let s = one_less R n b f t in
      let mid : s.0 < room set = meet n b s.0 f (in_room set b h) lt s.1 s.2 in
      let old = all_earlier R least k set turn meet i dry n b s.0 (omega (arith, more)) h s.1 mid in
      let on = one_more R old.count old.begin s.0 f old.turns s.2 in
      elim (cases_lt (suc old.count) k) [
        | inl before ↦ record { begin = old.begin; begins = old.begins; count = suc old.count; low = omega (arith, old.low); high = before; turns = on }
        | inr last ↦
            let e : suc old.count ≡ k = omega (arith, last, old.high) in
            elim (i.complete old.begin f old.begins (subst (λ x. Turns R x old.begin f) e on) lt) [ inl there ↦ absurd (dry f there) | inr older ↦ older ]
      ]
  | inr same ↦
      let e : suc n ≡ k = omega (arith, low, same) in
      elim (i.complete b f h (subst (λ x. Turns R x b f) e t) lt) [ inl there ↦ absurd (dry f there) | inr old ↦ old ]
]

pub run_dry : (R : ℕ → ℕ → Type 0) (least k most : ℕ) (set turn all : List ℕ) → k ≤ most → Meets (room set) R → ((j : ℕ) → In turn j → ⊥) → Turning R least k set turn all → Image (Repeated R least most) set all
run_dry R least k most set turn all high meet dry h =
    let i = h.counted in
    record {
      width = i.width;
      sound = λ f p. let s = i.sound f p in (s.0, s.1, record { count = s.2.count; low = s.2.low; high = omega (arith, s.2.high); turns = s.2.turns });
      complete = λ b f p r lt. elim (cases_lt k r.count) [
        | inl more ↦
            let old = all_earlier R least k set turn meet h.turned dry r.count b f (omega (arith, more)) p r.turns lt in
            i.complete old.begin f old.begins (record { count = old.count; low = old.low; high = omega (arith, old.high); turns = old.turns }) lt
        | inr fewer ↦ i.complete b f p (record { count = r.count; low = r.low; high = fewer; turns = r.turns }) lt
      ];
    }
