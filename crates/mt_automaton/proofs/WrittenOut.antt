-- What is written out matches the same.
use Rattle.std.proofs.Common.{◌≡◌, ℕ, zero, suc, ◌<◌, ◌≤◌, ◌⊎◌, List, length, refl, sym, ◌∙◌, ap, subst, inl, inr, arith}
use Rattle.mt_text_spec.specs.Queries as q
use Rattle.mt_match_spec.specs.Matches as m
use Rattle.mt_match_spec.specs.Labels.{no_labels, united}
use Rattle.mt_automaton.proofs.Unions.{nine_none, united_length, labelled_length}
use Rattle.mt_automaton.specs.Compiled.{WritesOut, MatchSame}
use Rattle.mt_automaton.specs.Compiled as w

-- ## Matches have nine labels

turns_nine : (R : m.Relation) → ((b f : ℕ) (l : List ℕ) → R b f l → length l ≡ 9) → (k b f : ℕ) (l : List ℕ) → m.Turns R k b f l → length l ≡ 9
turns_nine R n zero b f l t = ap length t.1
turns_nine R n (suc k) b f l t = ap length t.unite ∙ united_length t.first_labels t.second_labels ∙ n b t.cut t.first_labels t.first

matches_nine : (s : m.Sight) (expr : q.Expr) (b f : ℕ) (l : List ℕ) → m.Matches s expr b f l → length l ≡ 9
matches_nine s (q.TokenTest label test) b f l h = ap length h.labels_are ∙ labelled_length label b
matches_nine s (q.Begin kind test) b f l h = ap length h.labels_are
matches_nine s (q.End kind) b f l h = ap length h.labels_are
matches_nine s (q.Whole kind test) b f l h = ap length h.labels_are
matches_nine s (q.Seq left right) b f l h = ap length h.unite ∙ united_length h.first_labels h.second_labels ∙ matches_nine s left b h.cut h.first_labels h.first
matches_nine s (q.Choice left right) b f l h = elim h [ inl x ↦ matches_nine s left b f l x | inr y ↦ matches_nine s right b f l y ]
matches_nine s (q.Repeat inner least most) b f l h = turns_nine (m.Matches s inner) (matches_nine s inner) h.count b f l h.turns

-- ## One turn, and none

-- a relation leads to another
abbrev pub Goes : m.Relation → m.Relation → Type 0
Goes R S = (b f : ℕ) (l : List ℕ) → R b f l → S b f l

joined_go : (A B C D : m.Relation) → Goes A C → Goes B D → Goes (m.Joined A B) (m.Joined C D)
joined_go A B C D x y b f l j = record { cut = j.cut; first_labels = j.first_labels; second_labels = j.second_labels; first = x b j.cut j.first_labels j.first; second = y j.cut f j.second_labels j.second; unite = j.unite }

turns_go : (A C : m.Relation) (k : ℕ) → Goes A C → Goes (m.Turns A k) (m.Turns C k)
turns_go A C zero x b f l t = t
turns_go A C (suc k) x b f l t = joined_go A (m.Turns A k) C (m.Turns C k) x (turns_go A C k x) b f l t

repeated_go : (A C : m.Relation) (least most : ℕ) → Goes A C → Goes (m.Repeated A least most) (m.Repeated C least most)
repeated_go A C least most x b f l r = record { count = r.count; low = r.low; high = r.high; turns = turns_go A C r.count x b f l r.turns }

one_turn : (R : m.Relation) → ((b f : ℕ) (l : List ℕ) → R b f l → length l ≡ 9) → Goes R (m.Turns R 1)
one_turn R n b f l r = record { cut = f; first_labels = l; second_labels = no_labels; first = r; second = (refl, refl); unite = sym (nine_none l (n b f l r)) }

turn_back : (R : m.Relation) → ((b f : ℕ) (l : List ℕ) → R b f l → length l ≡ 9) → Goes (m.Turns R 1) R
turn_back R n b f l t =
    let same : l ≡ t.first_labels = t.unite ∙ ap (united t.first_labels) t.second.1 ∙ nine_none t.first_labels (n b t.cut t.first_labels t.first) in
    subst (λ x. R b f x) (sym same) (subst (λ x. R b x t.first_labels) t.second.0 t.first)

-- how often it turned
turned : (R : m.Relation) (k n b f : ℕ) (l : List ℕ) → k ≡ n → m.Turns R k b f l → m.Turns R n b f l
turned R k n b f l e t = subst (λ x. m.Turns R x b f l) e t

not_below : (k : ℕ) → k ≤ 1 → (k ≡ 0) ⊎ (k ≡ 1)
not_below zero h = inl refl
not_below (suc k) h = inr (omega (arith, h))

-- ## Both directions

seq_same : (s : m.Sight) (a b c d : q.Expr) → MatchSame s a c → MatchSame s b d → MatchSame s (q.Seq a b) (q.Seq c d)
seq_same s a b c d x y = record {
  there = joined_go (m.Matches s a) (m.Matches s b) (m.Matches s c) (m.Matches s d) x.there y.there;
  back = joined_go (m.Matches s c) (m.Matches s d) (m.Matches s a) (m.Matches s b) x.back y.back;
}

choice_same : (s : m.Sight) (a b c d : q.Expr) → MatchSame s a c → MatchSame s b d → MatchSame s (q.Choice a b) (q.Choice c d)
choice_same s a b c d x y = record {
  there = λ begin end l h. elim h [ inl p ↦ inl (x.there begin end l p) | inr p ↦ inr (y.there begin end l p) ];
  back = λ begin end l h. elim h [ inl p ↦ inl (x.back begin end l p) | inr p ↦ inr (y.back begin end l p) ];
}

repeat_same : (s : m.Sight) (a c : q.Expr) (least most : ℕ) → MatchSame s a c → MatchSame s (q.Repeat a least most) (q.Repeat c least most)
repeat_same s a c least most x = record {
  there = repeated_go (m.Matches s a) (m.Matches s c) least most x.there;
  back = repeated_go (m.Matches s c) (m.Matches s a) least most x.back;
}

once_same : (s : m.Sight) (a c : q.Expr) → MatchSame s a c → MatchSame s a (q.Repeat c 1 1)
once_same s a c x = record {
  there = λ begin end l h. record { count = 1; low = omega arith; high = omega arith; turns = one_turn (m.Matches s c) (matches_nine s c) begin end l (x.there begin end l h) };
  back = λ begin end l h. x.back begin end l
      (turn_back (m.Matches s c) (matches_nine s c) begin end l (turned (m.Matches s c) h.count 1 begin end l (omega (arith, h.low, h.high)) h.turns));
}

at_most_once_same : (s : m.Sight) (any a c : q.Expr) → MatchSame s a c → MatchSame s (q.Choice (q.Repeat any 0 0) a) (q.Repeat c 0 1)
at_most_once_same s any a c x = record {
  there = λ begin end l h. elim h [
    | inl none ↦ record { count = 0; low = omega arith; high = omega arith; turns = turned (m.Matches s any) none.count 0 begin end l (omega (arith, none.high)) none.turns }
    | inr one ↦ record { count = 1; low = omega arith; high = omega arith; turns = one_turn (m.Matches s c) (matches_nine s c) begin end l (x.there begin end l one) }
  ];
  back = λ begin end l h. elim (not_below h.count h.high) [
    | inl none ↦ inl (record { count = 0; low = omega arith; high = omega arith; turns = turned (m.Matches s c) h.count 0 begin end l none h.turns })
    | inr one ↦ inr (x.back begin end l (turn_back (m.Matches s c) (matches_nine s c) begin end l (turned (m.Matches s c) h.count 1 begin end l one h.turns)))
  ];
}

none_go : (R S : m.Relation) → Goes (m.Repeated R 0 0) (m.Repeated S 0 0)
none_go R S b f l r = record { count = 0; low = omega arith; high = omega arith; turns = turned R r.count 0 b f l (omega (arith, r.high)) r.turns }

no_turn_same : (s : m.Sight) (any c : q.Expr) → MatchSame s (q.Repeat any 0 0) (q.Repeat c 0 0)
no_turn_same s any c = record { there = none_go (m.Matches s any) (m.Matches s c); back = none_go (m.Matches s c) (m.Matches s any) }

never_same : (s : m.Sight) (any c : q.Expr) (low high least most : ℕ) → high < low → most < least → MatchSame s (q.Repeat any low high) (q.Repeat c least most)
never_same s any c low high least most x y = record {
  there = λ begin end l h. absurd (omega (arith, x, h.low, h.high));
  back = λ begin end l h. absurd (omega (arith, y, h.low, h.high));
}

pub match_same : (s : m.Sight) {e f : q.Expr} → WritesOut e f → MatchSame s e f
match_same s (w.same expr) = record { there = λ b f l h. h; back = λ b f l h. h }
match_same s (w.seq a b c d x y) = seq_same s a b c d (match_same s x) (match_same s y)
match_same s (w.choice a b c d x y) = choice_same s a b c d (match_same s x) (match_same s y)
match_same s (w.repeat a c least most x) = repeat_same s a c least most (match_same s x)
match_same s (w.once a c x) = once_same s a c (match_same s x)
match_same s (w.at_most_once any a c x) = at_most_once_same s any a c (match_same s x)
match_same s (w.no_turn any c) = no_turn_same s any c
match_same s (w.never any c low high least most x y) = never_same s any c low high least most x y
