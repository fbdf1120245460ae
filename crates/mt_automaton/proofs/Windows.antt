-- The matches of a part of a text are those of the text that lie in it.
use Rattle.std.proofs.Common.{◌≡◌, ◌≢◌, ℕ, zero, suc, ◌+◌, ◌-◌, ◌*◌, ◌/◌, ◌<◌, ◌≤◌, ◌⊎◌, List, [], ◌∷◌, set, replicate, refl, sym, ◌∙◌, ap, subst, inl, inr, arith, Bool, true, false, eqb-true, eq-eqb, Option, Some, bit_and}
use Rattle.std.specs.Prelude.{◌==◌, if◌then◌else◌}
use Rattle.std.specs.Int.{bit_at}
use Rattle.std.specs.List.{AllByRecursion}
use Rattle.std.proofs.lemmas.Nat.Bits.{bit_at-zero}
use Rattle.std.proofs.lemmas.Bool.{cases_lt}
use Rattle.mt_text_spec.specs.Texts.{unset}
use Rattle.mt_text_spec.specs.Queries.{Test, Any, Expr, TokenTest, Begin, End, Whole, Seq, Choice, Repeat}
use Rattle.mt_match_spec.specs.Matches as m
use Rattle.mt_match_spec.specs.Labels.{no_labels, labelled, united, place_of_either}
use Rattle.mt_places.specs.Places.{WordIs}
use Rattle.mt_automaton.specs.declared.view.Mark.{Mark}
use Rattle.mt_automaton.specs.declared.view.Mark.TheVariants.{Holds, Begins, Ends, Empty}
use Rattle.mt_automaton.specs.Parts.{Seen, HasAllInside, Longer, Stands, outside}
use Rattle.mt_automaton.specs.Windows.{IsAt, LiesIn, window, end_of, moved, FitsBehind, HasMatchesFrom}
use Rattle.mt_automaton.proofs.Bits.{both_word}
use Rattle.mt_automaton.proofs.Forward.{Forward, forward, turns_forward}

-- ## Labels that are moved

-- a place that is set
pub record Moved (P Q : ℕ → ℕ) (n x y : ℕ) : Type 0 where
  pub place : ℕ
  pub from : x ≡ P place
  pub to : y ≡ Q place
  pub set_from : x ≢ unset
  pub set_to : y ≢ unset
  pub low : place < n

abbrev pub MovesTo : (P Q : ℕ → ℕ) (n x y : ℕ) → Type 0
MovesTo P Q n x y = ((x ≡ unset) × (y ≡ unset)) ⊎ Moved P Q n x y

abbrev pub Moves : (P Q : ℕ → ℕ) (n : ℕ) → List ℕ → List ℕ → Type 0
Moves P Q n [] [] = Unit {0}
Moves P Q n [] (y ∷ ys) = ⊥
Moves P Q n (x ∷ xs) [] = ⊥
Moves P Q n (x ∷ xs) (y ∷ ys) = MovesTo P Q n x y × Moves P Q n xs ys

is_unset : (p o : ℕ) → p ≡ unset → place_of_either p o ≡ o
is_unset p o e = ap (λ (c : Bool). if c then o else p) (eq-eqb p unset e)

is_set : (p o : ℕ) → p ≢ unset → place_of_either p o ≡ p
is_set p o n = go (p == unset) refl where
  go : (c : Bool) → (p == unset) ≡ c → place_of_either p o ≡ p
  go true e = absurd (n (eqb-true p unset e))
  go false e = ap (λ (c : Bool). if c then o else p) e

either_moves : (P Q : ℕ → ℕ) (n x y z w : ℕ) → MovesTo P Q n x y → MovesTo P Q n z w → MovesTo P Q n (place_of_either x z) (place_of_either y w)
either_moves P Q n x y z w p q = elim p [
  | inl u ↦ subst (λ h. MovesTo P Q n h (place_of_either y w)) (sym (is_unset x z u.0)) (subst (λ h. MovesTo P Q n z h) (sym (is_unset y w u.1)) q)
  | inr s ↦ subst (λ h. MovesTo P Q n h (place_of_either y w)) (sym (is_set x z s.set_from)) (subst (λ h. MovesTo P Q n x h) (sym (is_set y w s.set_to)) (inr s))
]

united_moves : (P Q : ℕ → ℕ) (n : ℕ) (a c b d : List ℕ) → Moves P Q n a c → Moves P Q n b d → Moves P Q n (united a b) (united c d)
united_moves P Q n [] [] b d p q = tt
united_moves P Q n [] (y ∷ ys) b d p q = absurd p
united_moves P Q n (x ∷ xs) [] b d p q = absurd p
united_moves P Q n (x ∷ xs) (y ∷ ys) [] [] p q = p
united_moves P Q n (x ∷ xs) (y ∷ ys) [] (w ∷ ws) p q = absurd q
united_moves P Q n (x ∷ xs) (y ∷ ys) (z ∷ zs) [] p q = absurd q
united_moves P Q n (x ∷ xs) (y ∷ ys) (z ∷ zs) (w ∷ ws) p q = (either_moves P Q n x y z w p.0 q.0, united_moves P Q n xs ys zs ws p.1 q.1)

none_moves : (P Q : ℕ → ℕ) (n k : ℕ) → Moves P Q n (replicate k unset) (replicate k unset)
none_moves P Q n zero = tt
none_moves P Q n (suc k) = (inl (refl, refl), none_moves P Q n k)

set_moves : (P Q : ℕ → ℕ) (n : ℕ) (a c : List ℕ) (k x y : ℕ) → Moves P Q n a c → MovesTo P Q n x y → Moves P Q n (set a k x) (set c k y)
set_moves P Q n [] [] k x y p q = tt
set_moves P Q n [] (w ∷ ws) k x y p q = absurd p
set_moves P Q n (z ∷ zs) [] k x y p q = absurd p
set_moves P Q n (z ∷ zs) (w ∷ ws) zero x y p q = (q, p.1)
set_moves P Q n (z ∷ zs) (w ∷ ws) (suc k) x y p q = (p.0, set_moves P Q n zs ws k x y p.1 q)

label_moves : (P Q : ℕ → ℕ) (n label x y : ℕ) → MovesTo P Q n x y → Moves P Q n (labelled label x) (labelled label y)
label_moves P Q n zero x y p = none_moves P Q n 9
label_moves P Q n (suc k) x y p = set_moves P Q n no_labels no_labels k x y (none_moves P Q n 9) p

moves_back : (P Q : ℕ → ℕ) (n : ℕ) (a c : List ℕ) → Moves P Q n a c → Moves Q P n c a
moves_back P Q n [] [] p = tt
moves_back P Q n [] (y ∷ ys) p = absurd p
moves_back P Q n (x ∷ xs) [] p = absurd p
moves_back P Q n (x ∷ xs) (y ∷ ys) p = (
  elim p.0 [
    | inl u ↦ inl (u.1, u.0)
    | inr s ↦ inr (record { place = s.place; from = s.to; to = s.from; set_from = s.set_to; set_to = s.set_from; low = s.low })
  ],
  moves_back P Q n xs ys p.1,
)

two : (p o : ℕ) (ps os : List ℕ) → p ≡ o → ps ≡ os → p ∷ ps ≡ o ∷ os
two p o ps os e d = ap (λ x. x ∷ ps) e ∙ ap (λ xs. o ∷ xs) d

pub set_moved : (base x : ℕ) → x ≢ unset → (if x == unset then unset else (base + x)) ≡ base + x
set_moved base x n = go (x == unset) refl where
  go : (c : Bool) → (x == unset) ≡ c → (if x == unset then unset else (base + x)) ≡ base + x
  go true e = absurd (n (eqb-true x unset e))
  go false e = ap (λ (c : Bool). if c then unset else (base + x)) e

is_moved : (base n : ℕ) (a c : List ℕ) → Moves (λ k. k) (λ k. base + k) n a c → c ≡ moved base a
is_moved base n [] [] p = refl
is_moved base n [] (y ∷ ys) p = absurd p
is_moved base n (x ∷ xs) [] p = absurd p
is_moved base n (x ∷ xs) (y ∷ ys) p = two y (if x == unset then unset else (base + x)) ys (moved base xs)
    (elim p.0 [
      | inl u ↦ u.1 ∙ sym (ap (λ (c : Bool). if c then unset else (base + x)) (eq-eqb x unset u.0))
      | inr s ↦ s.to ∙ ap (λ k. base + k) (sym s.from) ∙ sym (set_moved base x s.set_from)
    ])
    (is_moved base n xs ys p.1)

-- ## Two texts that are alike between some places

-- what stands at the places P k of s, up to n, stands at the places Q k of t
pub record Alike (s t : m.Sight) (P Q : ℕ → ℕ) (n : ℕ) : Type 0 where
  pub low : (k : ℕ) → k ≤ n → P k ≤ outside s
  pub mid : (b x f : ℕ) → f ≤ n → P b ≤ x → x ≤ P f → (c : ℕ) × (c ≤ n) × (x ≡ P c)
  pub same : (b f : ℕ) → P f ≡ P b → f ≡ b
  pub next : (b f : ℕ) → P f ≡ P b + 1 → (f ≡ b + 1) × (Q f ≡ Q b + 1)
  pub inside : (b : ℕ) → b < n → Q b < t.tokens
  pub token : (test : Test) (b : ℕ) → b < n → s.holds test (P b) → t.holds test (Q b)
  pub begins : (kind : ℕ) (test : Test) (b close : ℕ) → b ≤ n → s.lies kind test (P b) close → (other : ℕ) × t.lies kind test (Q b) other
  pub ends : (kind : ℕ) (test : Test) (f open_at : ℕ) → f ≤ n → s.lies kind test open_at (P f) → (other : ℕ) × t.lies kind test other (Q f)
  pub whole : (kind : ℕ) (test : Test) (b f : ℕ) → b ≤ n → f ≤ n → s.lies kind test (P b) (P f) → t.lies kind test (Q b) (Q f)
  pub set_from : (k : ℕ) → k < n → P k ≢ unset
  pub set_to : (k : ℕ) → k < n → Q k ≢ unset

pub record Carried (P Q : ℕ → ℕ) (n : ℕ) (R : m.Relation) (b f : ℕ) (labels : List ℕ) : Type 0 where
  pub others : List ℕ
  pub moves : Moves P Q n labels others
  pub matches : R (Q b) (Q f) others

abbrev Carries : (P Q : ℕ → ℕ) (n : ℕ) (R S : m.Relation) → Type 0
Carries P Q n R S = (b f : ℕ) (labels : List ℕ) → b ≤ n → f ≤ n → R (P b) (P f) labels → Carried P Q n S b f labels

no_moves : (P Q : ℕ → ℕ) (n : ℕ) (labels : List ℕ) → labels ≡ no_labels → Moves P Q n labels no_labels
no_moves P Q n labels e = subst (λ l. Moves P Q n l no_labels) (sym e) (none_moves P Q n 9)

joined_carries : (s t : m.Sight) (P Q : ℕ → ℕ) (n : ℕ) → Alike s t P Q n → (R S A B : m.Relation) → Forward (outside s) R → Forward (outside s) S → Carries P Q n R A → Carries P Q n S B
    → Carries P Q n (m.Joined R S) (m.Joined A B)
joined_carries s t P Q n a R S A B up_r up_s carry_r carry_s b f l hb hf j =
    let x = up_r (P b) j.cut j.first_labels (a.low b hb) j.first in
    let y = up_s j.cut (P f) j.second_labels x.1 j.second in
    let c = a.mid b j.cut f hf x.0 y.0 in
    let p = carry_r b c.0 j.first_labels hb c.1 (subst (λ k. R (P b) k j.first_labels) c.2 j.first) in
    let r = carry_s c.0 f j.second_labels c.1 hf (subst (λ k. S k (P f) j.second_labels) c.2 j.second) in
    record {
      others = united p.others r.others;
      moves = subst (λ k. Moves P Q n k (united p.others r.others)) (sym j.unite) (united_moves P Q n j.first_labels p.others j.second_labels r.others p.moves r.moves);
      matches = record { cut = Q c.0; first_labels = p.others; second_labels = r.others; first = p.matches; second = r.matches; unite = refl };
    }

turns_carry : (s t : m.Sight) (P Q : ℕ → ℕ) (n : ℕ) → Alike s t P Q n → (R A : m.Relation) → Forward (outside s) R → Carries P Q n R A → (k : ℕ) → Carries P Q n (m.Turns R k) (m.Turns A k)
turns_carry s t P Q n a R A up carry zero b f l hb hf r = record { others = no_labels; moves = no_moves P Q n l r.1; matches = (ap Q (sym (a.same b f (sym r.0))), refl) }
turns_carry s t P Q n a R A up carry (suc k) b f l hb hf r =
    joined_carries s t P Q n a R (m.Turns R k) A (m.Turns A k) up (turns_forward (outside s) R up k) carry (turns_carry s t P Q n a R A up carry k) b f l hb hf r

carry : (s t : m.Sight) (P Q : ℕ → ℕ) (n : ℕ) → HasAllInside s → Alike s t P Q n → (expr : Expr) → Carries P Q n (m.Matches s expr) (m.Matches t expr)
carry s t P Q n o a (TokenTest label test) b f l hb hf r =
    let e = a.next b f r.end_is in
    let lt : b < n = omega (arith, e.0, hf) in
    let place : MovesTo P Q n (P b) (Q b) = inr (record { place = b; from = refl; to = refl; set_from = a.set_from b lt; set_to = a.set_to b lt; low = lt }) in
    record {
      others = labelled label (Q b);
      moves = subst (λ k. Moves P Q n k (labelled label (Q b))) (sym r.labels_are) (label_moves P Q n label (P b) (Q b) place);
      matches = record { inside = a.inside b lt; holds = a.token test b lt r.holds; end_is = e.1; labels_are = refl };
    }
carry s t P Q n o a (Begin kind test) b f l hb hf r =
    let other = a.begins kind test b r.close hb r.lies in
    record { others = no_labels; moves = no_moves P Q n l r.labels_are; matches = record { close = other.0; lies = other.1; end_is = ap Q (a.same b f r.end_is); labels_are = refl } }
carry s t P Q n o a (End kind) b f l hb hf r =
    let other = a.ends kind Any b r.open_at hb r.lies in
    record { others = no_labels; moves = no_moves P Q n l r.labels_are; matches = record { open_at = other.0; lies = other.1; end_is = ap Q (a.same b f r.end_is); labels_are = refl } }
carry s t P Q n o a (Whole kind test) b f l hb hf r =
    record { others = no_labels; moves = no_moves P Q n l r.labels_are; matches = record { lies = a.whole kind test b f hb hf r.lies; labels_are = refl } }
carry s t P Q n o a (Seq left right) b f l hb hf r =
    joined_carries s t P Q n a (m.Matches s left) (m.Matches s right) (m.Matches t left) (m.Matches t right) (forward s o left) (forward s o right) (carry s t P Q n o a left) (carry s t P Q n o a right) b f l hb hf r
carry s t P Q n o a (Choice left right) b f l hb hf r = elim r [
  | inl x ↦ let c = carry s t P Q n o a left b f l hb hf x in record { others = c.others; moves = c.moves; matches = inl c.matches }
  | inr y ↦ let c = carry s t P Q n o a right b f l hb hf y in record { others = c.others; moves = c.moves; matches = inr c.matches }
]
carry s t P Q n o a (Repeat inner least most) b f l hb hf r =
    let c = turns_carry s t P Q n a (m.Matches s inner) (m.Matches t inner) (forward s o inner) (carry s t P Q n o a inner) r.count b f l hb hf r.turns in
    record { others = c.others; moves = c.moves; matches = record { count = r.count; low = r.low; high = r.high; turns = c.matches } }

-- ## A part and its text

-- each place has a number in the part
pub numbered : (base n none place : ℕ) → (k : ℕ) × IsAt base n none place k
numbered base n none place = elim (cases_lt place base) [
  | inl before ↦ (none, inr (refl, inl before))
  | inr on ↦ elim (cases_lt (base + n) place) [
    | inl behind ↦ (none, inr (refl, inr behind))
    | inr within ↦ (place - base, inl (omega (arith, on, within), omega (arith, on)))
  ]
]

pub begins_at : (v : Seen) (base n kind : ℕ) (test : Test) (b e : ℕ) → b ≤ n → LiesIn v.text base n kind test b e → (last : ℕ) × v.text.lies kind test (base + b) last
begins_at v base n kind test b e h l = elim l.begins [
  | inl i ↦ (l.last, subst (λ k. v.text.lies kind test k l.last) i.1 l.lies)
  | inr out ↦ absurd (omega (arith, out.0, h))
]

pub ends_at : (v : Seen) (base n kind : ℕ) (test : Test) (b e : ℕ) → e ≤ n → LiesIn v.text base n kind test b e → (first : ℕ) × v.text.lies kind test first (base + e)
ends_at v base n kind test b e h l = elim l.ends [
  | inl i ↦ (l.first, subst (λ k. v.text.lies kind test l.first k) i.1 l.lies)
  | inr out ↦ absurd (omega (arith, out.0, h))
]

pub lies_at : (v : Seen) (base n kind : ℕ) (test : Test) (b e : ℕ) → b ≤ n → e ≤ n → LiesIn v.text base n kind test b e → v.text.lies kind test (base + b) (base + e)
lies_at v base n kind test b e hb he l = elim l.begins [
  | inl i ↦ elim l.ends [
    | inl j ↦ subst (λ k. v.text.lies kind test k (base + e)) i.1 (subst (λ k. v.text.lies kind test l.first k) j.1 l.lies)
    | inr out ↦ absurd (omega (arith, out.0, he))
  ]
  | inr out ↦ absurd (omega (arith, out.0, hb))
]

pub begins_in : (v : Seen) (base n kind : ℕ) (test : Test) (b last : ℕ) → b ≤ n → v.text.lies kind test (base + b) last → (e : ℕ) × LiesIn v.text base n kind test b e
begins_in v base n kind test b last h l =
    let k = numbered base n (64 * (n / 64 + 1)) last in (k.0, record { first = base + b; last = last; lies = l; begins = inl (h, refl); ends = k.1 })

pub ends_in : (v : Seen) (base n kind : ℕ) (test : Test) (first e : ℕ) → e ≤ n → v.text.lies kind test first (base + e) → (b : ℕ) × LiesIn v.text base n kind test b e
ends_in v base n kind test first e h l =
    let k = numbered base n (64 * (n / 64 + 1) + 1) first in (k.0, record { first = first; last = base + e; lies = l; begins = k.1; ends = inl (h, refl) })

pub lies_in : (v : Seen) (base n kind : ℕ) (test : Test) (b e : ℕ) → b ≤ n → e ≤ n → v.text.lies kind test (base + b) (base + e) → LiesIn v.text base n kind test b e
lies_in v base n kind test b e hb he l = record { first = base + b; last = base + e; lies = l; begins = inl (hb, refl); ends = inl (he, refl) }

pub window_inside : (v : Seen) (base n : ℕ) → base + n ≤ v.text.tokens → HasAllInside v.text → HasAllInside (window v base n).text
window_inside v base n within o kind test b e l = record {
  begins = elim l.begins [ inl i ↦ inl i.0 | inr out ↦ inr (omega (arith, out.0)) ];
  ends = elim l.ends [ inl i ↦ inl i.0 | inr out ↦ inr out.0 ];
  onward = λ h. elim l.ends [
    | inl i ↦
        let g = o kind test (base + b) (base + e) (lies_at v base n kind test b e h i.0 l) in
        let on : base + b ≤ base + e = g.onward (omega (arith, h, within)) in
        omega (arith, on)
    | inr out ↦ omega (arith, out.0, h)
  ];
}

of_window : (v : Seen) (base n : ℕ) → base + n ≤ v.text.tokens → base + n < unset → Alike (window v base n).text v.text (λ k. k) (λ k. base + k) n
of_window v base n within few = record {
  low = λ k h. omega (arith, h);
  mid = λ b x f hf lo hi. (x, omega (arith, hi, hf), refl);
  same = λ b f e. e;
  next = λ b f e. (e, omega (arith, e));
  inside = λ b h. omega (arith, h, within);
  token = λ test b h x. x;
  begins = λ kind test b close h l. begins_at v base n kind test b close h l;
  ends = λ kind test f open_at h l. ends_at v base n kind test open_at f h l;
  whole = λ kind test b f hb hf l. lies_at v base n kind test b f hb hf l;
  set_from = λ k h e. absurd (omega (arith, h, e, few));
  set_to = λ k h e. absurd (omega (arith, h, e, few));
}

to_window : (v : Seen) (base n : ℕ) → base + n ≤ v.text.tokens → base + n < unset → Alike v.text (window v base n).text (λ k. base + k) (λ k. k) n
to_window v base n within few = record {
  low = λ k h. omega (arith, h, within);
  mid = λ b x f hf lo hi. (x - base, omega (arith, lo, hi, hf), omega (arith, lo));
  same = λ b f e. omega (arith, e);
  next = λ b f e. (omega (arith, e), omega (arith, e));
  inside = λ b h. h;
  token = λ test b h x. x;
  begins = λ kind test b close h l. begins_in v base n kind test b close h l;
  ends = λ kind test f open_at h l. ends_in v base n kind test open_at f h l;
  whole = λ kind test b f hb hf l. lies_in v base n kind test b f hb hf l;
  set_from = λ k h e. absurd (omega (arith, h, e, few));
  set_to = λ k h e. absurd (omega (arith, h, e, few));
}

pub has_matches : (v : Seen) (base n : ℕ) → base + n ≤ v.text.tokens → base + n < 4294967295 → HasAllInside v.text → HasMatchesFrom v.text base (window v base n).text
has_matches v base n within few o = record {
  inside = within;
  sound = λ expr b f l hb hf r.
      let c = carry (window v base n).text v.text (λ k. k) (λ k. base + k) n (window_inside v base n within o) (of_window v base n within few) expr b f l hb hf r in
      subst (m.Matches v.text expr (base + b) (base + f)) (is_moved base n l c.others c.moves) c.matches;
  complete = λ expr b f l hb hf r.
      let c = carry v.text (window v base n).text (λ k. base + k) (λ k. k) n o (to_window v base n within few) expr b f l hb hf r in
      record { counted = c.others; matches = c.matches; labels_are = is_moved base n c.others l (moves_back (λ k. base + k) (λ k. k) n l c.others c.moves) };
}

low_labels : (base n : ℕ) (a c : List ℕ) → base + n < unset → Moves (λ k. k) (λ k. base + k) n a c → AllByRecursion (FitsBehind base) a
low_labels base n [] [] few p = tt
low_labels base n [] (y ∷ ys) few p = absurd p
low_labels base n (x ∷ xs) [] few p = absurd p
low_labels base n (x ∷ xs) (y ∷ ys) few p = (
  elim p.0 [
    | inl u ↦ inl u.0
    | inr s ↦ inr (omega (arith, s.from, s.low, few))
  ],
  low_labels base n xs ys few p.1,
)

-- the labels of a match in the part stand in the part
pub labels_fit : (v : Seen) (base n : ℕ) → base + n ≤ v.text.tokens → base + n < 4294967295 → HasAllInside v.text → (expr : Expr) (b f : ℕ) (l : List ℕ) → b ≤ n → f ≤ n → m.Matches (window v base n).text expr b f l
    → AllByRecursion (FitsBehind base) l
labels_fit v base n within few o expr b f l hb hf r =
    let c = carry (window v base n).text v.text (λ k. k) (λ k. base + k) n (window_inside v base n within o) (of_window v base n within few) expr b f l hb hf r in
    low_labels base n l c.others few c.moves

-- ## Instances that have a token

pub longer_in : (v : Seen) (base n tag at last : ℕ) → at ≤ n → base + n ≤ v.text.tokens → last ≤ base + n → Longer v tag (base + at) last → Longer (window v base n) tag at (last - base)
longer_in v base n tag at last h within low l =
    let e : last ≡ base + (last - base) = omega (arith, l.some) in
    let he : last - base ≤ n = omega (arith, low) in
    record {
      some = omega (arith, l.some);
      within = he;
      lies = lies_in v base n (v.tag tag).kind (v.tag tag).test at (last - base) h he (subst (v.text.lies (v.tag tag).kind (v.tag tag).test (base + at)) e l.lies);
    }

pub longer_out : (v : Seen) (base n tag at e : ℕ) → base + n ≤ v.text.tokens → Longer (window v base n) tag at e → Longer v tag (base + at) (base + e)
longer_out v base n tag at e within l =
    let low : e ≤ n = l.within in
    let h : at ≤ n = omega (arith, l.some, low) in
    record {
      some = omega (arith, l.some);
      within = omega (arith, low, within);
      lies = lies_at v base n (v.tag tag).kind (v.tag tag).test at e h low l.lies;
    }

-- the end of the one that begins at a place, by its end in the text
pub end_in : (v : Seen) (base n tag at last : ℕ) (found : Option ℕ) → base + n ≤ v.text.tokens → found ≡ Some last → ((end : ℕ) → Longer v tag (base + at) end → found ≡ Some end)
    → (e : ℕ) → Longer (window v base n) tag at e → last ≡ base + e
end_in v base n tag at last found within is only e l = let s : ◌≡◌ {A = Option ℕ} (Some last) (Some (base + e)) = sym is ∙ only (base + e) (longer_out v base n tag at e within l) in cc

-- ## Words

-- a word of the text, as a word of the part
moved_word : (P : ℕ → Type 0) (first at word : ℕ) → WordIs P (first + at) word → WordIs (λ k. P (64 * first + k)) at word
moved_word P first at word w = record {
  sound = λ j h one. let e : 64 * (first + at) + j ≡ 64 * first + (64 * at + j) = omega arith in subst P e (w.sound j h one);
  complete = λ j h p. let e : 64 * first + (64 * at + j) ≡ 64 * (first + at) + j = omega arith in w.complete j h (subst P e p);
}

end_few : (mark : Mark) (n : ℕ) → end_of mark n ≤ n + 1
end_few (Holds test) n = omega arith
end_few (Begins tag) n = omega arith
end_few (Ends tag) n = omega arith
end_few (Empty tag) n = omega arith

mark_in : (v : Seen) (base n : ℕ) (mark : Mark) (k : ℕ) → Stands v mark (base + k) × (k < end_of mark n) → Stands (window v base n) mark k
mark_in v base n (Holds test) k p = (p.1, p.0.1)
mark_in v base n (Begins tag) k p = (omega (arith, p.1), begins_in v base n (v.tag tag).kind (v.tag tag).test k p.0.1.0 (omega (arith, p.1)) p.0.1.1)
mark_in v base n (Ends tag) k p = (omega (arith, p.1), ends_in v base n (v.tag tag).kind Any p.0.1.0 k (omega (arith, p.1)) p.0.1.1)
mark_in v base n (Empty tag) k p = lies_in v base n (v.tag tag).kind (v.tag tag).test k k (omega (arith, p.1)) (omega (arith, p.1)) p.0

-- an instance without tokens lies in the part, or outside of it
empty_low : (v : Seen) (base n kind : ℕ) (test : Test) (k : ℕ) → LiesIn v.text base n kind test k k → k ≤ n
empty_low v base n kind test k l = elim l.begins [
  | inl i ↦ i.0
  | inr out ↦ elim l.ends [ inl j ↦ j.0 | inr past ↦ absurd (omega (arith, out.0, past.0)) ]
]

mark_out : (v : Seen) (base n : ℕ) → base + n ≤ v.text.tokens → (mark : Mark) (k : ℕ) → Stands (window v base n) mark k → Stands v mark (base + k) × (k < end_of mark n)
mark_out v base n within (Holds test) k p = ((omega (arith, p.0, within), p.1), p.0)
mark_out v base n within (Begins tag) k p =
    let low : k ≤ n = p.0 in ((omega (arith, low, within), begins_at v base n (v.tag tag).kind (v.tag tag).test k p.1.0 low p.1.1), omega (arith, low))
mark_out v base n within (Ends tag) k p =
    let low : k ≤ n = p.0 in ((omega (arith, low, within), ends_at v base n (v.tag tag).kind Any p.1.0 k low p.1.1), omega (arith, low))
mark_out v base n within (Empty tag) k p =
    let low : k ≤ n = empty_low v base n (v.tag tag).kind (v.tag tag).test k p in (lies_at v base n (v.tag tag).kind (v.tag tag).test k k low low p, omega (arith, low))

pub window_word : (v : Seen) (first n : ℕ) (mark : Mark) (at a b : ℕ) → 64 * first + n ≤ v.text.tokens → WordIs (Stands v mark) (first + at) a → WordIs (λ k. k < end_of mark n) at b
    → WordIs (Stands (window v (64 * first) n) mark) at (bit_and a b)
window_word v first n mark at a b within p q =
    let w = both_word (λ k. Stands v mark (64 * first + k)) (λ k. k < end_of mark n) at a b (moved_word (Stands v mark) first at a p) q in
    record {
      sound = λ j h one. mark_in v (64 * first) n mark (64 * at + j) (w.sound j h one);
      complete = λ j h s. w.complete j h (mark_out v (64 * first) n within mark (64 * at + j) s);
    }

-- behind the part no mark stands
pub no_word : (v : Seen) (base n : ℕ) (mark : Mark) (at : ℕ) → base + n ≤ v.text.tokens → n / 64 < at → WordIs (Stands (window v base n) mark) at 0
no_word v base n mark at within past = record {
  sound = λ j h one. absurd (let z : bit_at 0 j ≡ 0 = bit_at-zero j in omega (arith, z, one));
  complete = λ j h s.
      let low : 64 * at + j < end_of mark n = (mark_out v base n within mark (64 * at + j) s).1 in
      let few : end_of mark n ≤ n + 1 = end_few mark n in absurd (omega (arith, low, few, past));
}
