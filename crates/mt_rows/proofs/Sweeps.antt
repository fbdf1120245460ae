-- Sweeps over an operand from its front and from its back: each step, and what the best span tells.
use Rattle.std.proofs.Common.{◌≡◌, ℕ, zero, suc, ◌+◌, ◌≤◌, ◌<◌, ◌⊎◌, inl, inr, Bool, true, false, not, List, length, get_or, slice_get, Option, Some, None, Decides, refl, ap, sym, ◌∙◌, subst, arith}
use Rattle.std.specs.List.{Contains}
use Rattle.std.proofs.lemmas.Option.{slice_get_within, get_or_from_slice_get, same_Some, slice_get-get_or}
use Rattle.std.proofs.lemmas.Bool.{cases_lt}
use Rattle.std.proofs.lemmas.Bool.Decides.{Decides-like, Decides-not}
use Rattle.mt_text_spec.specs.Texts.{Span}
use Rattle.mt_match_spec.specs.Kept.{LiesIn, IsWithin, IsContaining, Passes}
use Rattle.mt_rows.specs.Filters.{BeginsBy, InOrder, IsFarthest, Farthest, Front, Reaches, IsNearest, Nearest, Back, EndsBy, within_kind, containing_kind}

-- ---- the order of begins

pub by_both : (a b c : Span) → BeginsBy a b → BeginsBy b c → BeginsBy a c
by_both a b c (inl l) (inl m) = inl (omega (arith, l, m))
by_both a b c (inl l) (inr m) = inl (omega (arith, l, m.0))
by_both a b c (inr l) (inl m) = inl (omega (arith, l.0, m))
by_both a b c (inr l) (inr m) = inr (l.0 ∙ m.0, omega (arith, l.1, m.1))

text_up : (a b : Span) → BeginsBy a b → a.text ≤ b.text
text_up a b (inl l) = omega (arith, l)
text_up a b (inr l) = omega (arith, l.0)

begin_up : (a b : Span) → a.text ≡ b.text → BeginsBy a b → a.begin ≤ b.begin
begin_up a b e (inl l) = absurd (omega (arith, e, l))
begin_up a b e (inr l) = l.1

alike : (s t : Span) (x : Option Span) → x ≡ Some s → x ≡ Some t → s ≡ t
alike s t x e f = same_Some s t (sym e ∙ f)

has : (spans : List Span) (k : ℕ) (s : Span) → slice_get spans k ≡ Some s → Contains spans s
has spans k s e = (k, slice_get_within spans k s e, get_or_from_slice_get spans k s s e)

found : (spans : List Span) (s : Span) → Contains spans s → (k : ℕ) × (slice_get spans k ≡ Some s)
found spans s (k, l, e) = (k, slice_get-get_or spans k s l ∙ ap Some e)

-- ---- from the front

module _ (operand : List Span) (order : InOrder operand) (span : Span) where
  before_last : (n k : ℕ) (s : Span) → slice_get operand n ≡ Some span → k < n + 1 → slice_get operand k ≡ Some s → (k < n) ⊎ (s ≡ span)
  before_last n k s here l e = elim (cases_lt k n) [ inl m ↦ inl m | inr m ↦ let same : k ≡ n = omega (arith, l, m) in inr (alike s span (slice_get operand k) e (ap (slice_get operand) same ∙ here)) ]

  pub still_farthest : (n : ℕ) (best : Span) → slice_get operand n ≡ Some span → IsFarthest operand n best → best.text ≡ span.text → span.end ≤ best.end → IsFarthest operand (n + 1) best
  still_farthest n best here f text end = record {
    at = f.at;
    below = omega (arith, f.below);
    is = f.is;
    most = λ k s l e. elim (before_last n k s here l e) [
      | inl m ↦ f.most k s m e
      | inr same ↦ inr (ap (λ (x : Span). x.text) same ∙ sym text, subst (λ (x : Span). x.end ≤ best.end) (sym same) end)
    ];
  }

  -- an earlier span of a best one that does not reach the new one
  passed : (s best : Span) → (best.text ≡ span.text → best.end < span.end) → BeginsBy best span → (s.text < best.text) ⊎ ((s.text ≡ best.text) × (s.end ≤ best.end)) → (s.text < span.text) ⊎ ((s.text ≡ span.text) × (s.end ≤ span.end))
  passed s best short up (inl l) = inl (let t = text_up best span up in omega (arith, l, t))
  passed s best short (inl l) (inr h) = inl (omega (arith, l, h.0))
  passed s best short (inr l) (inr h) = let e = short l.0 in inr (h.0 ∙ l.0, omega (arith, h.1, e))

  pub new_farthest : (n : ℕ) → slice_get operand n ≡ Some span → ((k : ℕ) (s : Span) → k < n → slice_get operand k ≡ Some s → (s.text < span.text) ⊎ ((s.text ≡ span.text) × (s.end ≤ span.end))) → IsFarthest operand (n + 1) span
  new_farthest n here h = record {
    at = n;
    below = omega arith;
    is = here;
    most = λ k s l e. elim (before_last n k s here l e) [
      | inl m ↦ h k s m e
      | inr same ↦ inr (ap (λ (x : Span). x.text) same, subst (λ (x : Span). x.end ≤ span.end) (sym same) (omega arith))
    ];
  }

  pub farther_next : (n : ℕ) (best : Option Span) → slice_get operand n ≡ Some span → Farthest operand n best → ¬ Reaches best span → Farthest operand (n + 1) (Some span)
  farther_next n None here f short_of = new_farthest n here (λ k s l e. absurd (omega (arith, f, l)))
  farther_next n (Some best) here f short_of =
      let short : best.text ≡ span.text → best.end < span.end = λ t. elim (cases_lt best.end span.end) [ inl l ↦ l | inr l ↦ absurd (short_of (t, l)) ] in
      new_farthest n here (λ k s l e. passed s best short (order f.at n best span f.below f.is here) (f.most k s l e))

  pub farther_stays : (n : ℕ) (best : Option Span) → slice_get operand n ≡ Some span → Farthest operand n best → Reaches best span → Farthest operand (n + 1) best
  farther_stays n None here f reached = absurd reached
  farther_stays n (Some best) here f reached = still_farthest n best here f reached.0 reached.1

pub front_step : (operand : List Span) (n : ℕ) (best next : Option Span) (span to : Span) → Front operand n best to → slice_get operand n ≡ Some span → BeginsBy span to → Farthest operand (n + 1) next → Front operand (n + 1) next to
front_step operand n best next span to f here by far = record {
  within = let l = slice_get_within operand n span here in omega (arith, l);
  early = λ k s l e. elim (cases_lt k n) [
    | inl m ↦ f.early k s m e
    | inr m ↦ let same : k ≡ n = omega (arith, l, m) in subst (λ (x : Span). BeginsBy x to) (alike span s (slice_get operand k) (ap (slice_get operand) same ∙ here) e) by
  ];
  farthest = far;
}

-- where the next span is late, so are all that follow it
pub all_late : (operand : List Span) (n : ℕ) (to : Span) → InOrder operand → ((s : Span) → slice_get operand n ≡ Some s → ¬ BeginsBy s to) → (k : ℕ) (s : Span) → n ≤ k → slice_get operand k ≡ Some s → ¬ BeginsBy s to
all_late operand n to order none k s l e = λ by.
    elim (cases_lt n k) [
      | inl m ↦
          let inside = slice_get_within operand k s e in
          let first = slice_get-get_or operand n s (omega (arith, m, inside)) in
          none (get_or operand n s) first (by_both (get_or operand n s) s to (order n k (get_or operand n s) s m first e) by)
      | inr m ↦ let same : n ≡ k = omega (arith, l, m) in none s (ap (slice_get operand) same ∙ e) by
    ]

within_reached : (operand : List Span) (n : ℕ) (best : Option Span) (to : Span) → Front operand n best to → Reaches best to → IsWithin (Contains operand) to
within_reached operand n None to f r = absurd r
within_reached operand n (Some best) to f r = record {
  around = best;
  is_operands = has operand f.farthest.at best f.farthest.is;
  lies = record { text = sym r.0; begin = begin_up best to r.0 (f.early f.farthest.at best f.farthest.below f.farthest.is); end = r.1 };
}

-- the best span of those that are early reaches a span that lies in one of them
best_reaches : (operand : List Span) (n k : ℕ) (best : Option Span) (around to : Span) → Front operand n best to → k < n → slice_get operand k ≡ Some around → LiesIn to around → Reaches best to
best_reaches operand n k None around to f l e lies = absurd (let none : n ≡ 0 = f.farthest in omega (arith, none, l))
best_reaches operand n k (Some best) around to f l e lies = by (f.farthest.most k around l e)
  where
    up : best.text ≤ to.text
    up = text_up best to (f.early f.farthest.at best f.farthest.below f.farthest.is)

    by : (around.text < best.text) ⊎ ((around.text ≡ best.text) × (around.end ≤ best.end)) → Reaches (Some best) to
    by (inl m) = absurd (let t = lies.text in let u = up in omega (arith, m, t, u))
    by (inr m) = (sym m.0 ∙ sym lies.text, let e = lies.end in omega (arith, m.1, e))

reached_within : (operand : List Span) (n : ℕ) (best : Option Span) (to : Span) → Front operand n best to → ((k : ℕ) (s : Span) → n ≤ k → slice_get operand k ≡ Some s → ¬ BeginsBy s to) → IsWithin (Contains operand) to → Reaches best to
reached_within operand n best to f late w =
    let h = found operand w.around w.is_operands in
    elim (cases_lt h.0 n) [
      | inl l ↦ best_reaches operand n h.0 best w.around to f l h.1 w.lies
      | inr l ↦ absurd (late h.0 w.around l h.1 (inr (sym w.lies.text, w.lies.begin)))
    ]

-- ---- from the back

module _ (operand : List Span) (order : InOrder operand) (span : Span) where
  behind_first : (n k : ℕ) (s : Span) → slice_get operand n ≡ Some span → n ≤ k → slice_get operand k ≡ Some s → (n + 1 ≤ k) ⊎ (s ≡ span)
  behind_first n k s here l e = elim (cases_lt n k) [ inl m ↦ inl (omega (arith, m)) | inr m ↦ let same : k ≡ n = omega (arith, l, m) in inr (alike s span (slice_get operand k) e (ap (slice_get operand) same ∙ here)) ]

  still_nearest : (n : ℕ) (best : Span) → slice_get operand n ≡ Some span → IsNearest operand (n + 1) best → best.text ≡ span.text → best.end ≤ span.end → IsNearest operand n best
  still_nearest n best here f text end = record {
    at = f.at;
    above = let l = f.above in omega (arith, l);
    is = f.is;
    least = λ k s l e. elim (behind_first n k s here l e) [
      | inl m ↦ f.least k s m e
      | inr same ↦ inr (ap (λ (x : Span). x.text) same ∙ sym text, subst (λ (x : Span). best.end ≤ x.end) (sym same) end)
    ];
  }

  beyond : (s best : Span) → (best.text ≡ span.text → span.end < best.end) → BeginsBy span best → (best.text < s.text) ⊎ ((s.text ≡ best.text) × (best.end ≤ s.end)) → (span.text < s.text) ⊎ ((s.text ≡ span.text) × (span.end ≤ s.end))
  beyond s best short up (inl l) = inl (let t = text_up span best up in omega (arith, l, t))
  beyond s best short (inl l) (inr h) = inl (omega (arith, l, h.0))
  beyond s best short (inr l) (inr h) = let e = short (sym l.0) in inr (h.0 ∙ sym l.0, omega (arith, h.1, e))

  new_nearest : (n : ℕ) → slice_get operand n ≡ Some span → ((k : ℕ) (s : Span) → n + 1 ≤ k → slice_get operand k ≡ Some s → (span.text < s.text) ⊎ ((s.text ≡ span.text) × (span.end ≤ s.end))) → IsNearest operand n span
  new_nearest n here h = record {
    at = n;
    above = omega arith;
    is = here;
    least = λ k s l e. elim (behind_first n k s here l e) [
      | inl m ↦ h k s m e
      | inr same ↦ inr (ap (λ (x : Span). x.text) same, subst (λ (x : Span). span.end ≤ x.end) (sym same) (omega arith))
    ];
  }

  pub nearer_next : (n : ℕ) (best : Option Span) → slice_get operand n ≡ Some span → Nearest operand (n + 1) best → ¬ EndsBy best span → Nearest operand n (Some span)
  nearer_next n None here f short_of = new_nearest n here (λ k s l e. absurd (let inside = slice_get_within operand k s e in omega (arith, f, l, inside)))
  nearer_next n (Some best) here f short_of =
      let short : best.text ≡ span.text → span.end < best.end = λ t. elim (cases_lt span.end best.end) [ inl l ↦ l | inr l ↦ absurd (short_of (t, l)) ] in
      let above : n < f.at = let l = f.above in omega (arith, l) in
      new_nearest n here (λ k s l e. beyond s best short (order n f.at span best above here f.is) (f.least k s l e))

  pub nearer_stays : (n : ℕ) (best : Option Span) → slice_get operand n ≡ Some span → Nearest operand (n + 1) best → EndsBy best span → Nearest operand n best
  nearer_stays n None here f reached = absurd reached
  nearer_stays n (Some best) here f reached = still_nearest n best here f reached.0 reached.1

pub back_step : (operand : List Span) (n before : ℕ) (best next : Option Span) (span to : Span) → Back operand n best to → n ≡ before + 1 → slice_get operand before ≡ Some span → BeginsBy to span → Nearest operand before next → Back operand before next to
back_step operand n before best next span to f one here by near = record {
  within = let l = f.within in omega (arith, l, one);
  late = λ k s l e. elim (cases_lt before k) [
    | inl m ↦ f.late k s (omega (arith, m, one)) e
    | inr m ↦ let same : k ≡ before = omega (arith, l, m) in subst (λ (x : Span). BeginsBy to x) (alike span s (slice_get operand k) (ap (slice_get operand) same ∙ here) e) by
  ];
  nearest = near;
}

-- where the span before is early, so are all before it
pub all_early : (operand : List Span) (n : ℕ) (to : Span) → InOrder operand → n ≤ length operand → ((before : ℕ) (s : Span) → n ≡ before + 1 → slice_get operand before ≡ Some s → ¬ BeginsBy to s) → (k : ℕ) (s : Span) → k < n → slice_get operand k ≡ Some s → ¬ BeginsBy to s
all_early operand zero to order within none k s l e = absurd (omega (arith, l))
all_early operand (suc before) to order within none k s l e = λ by.
    elim (cases_lt k before) [
      | inl m ↦
          let last = slice_get-get_or operand before s (omega (arith, within)) in
          none before (get_or operand before s) (omega arith) last (by_both to s (get_or operand before s) by (order k before s (get_or operand before s) m e last))
      | inr m ↦ let same : before ≡ k = omega (arith, l, m) in none before s (omega arith) (ap (slice_get operand) same ∙ e) by
    ]

containing_reached : (operand : List Span) (n : ℕ) (best : Option Span) (to : Span) → Back operand n best to → EndsBy best to → IsContaining (Contains operand) to
containing_reached operand n None to f r = absurd r
containing_reached operand n (Some best) to f r = record {
  held = best;
  is_operands = has operand f.nearest.at best f.nearest.is;
  lies = record { text = r.0; begin = begin_up to best (sym r.0) (f.late f.nearest.at best f.nearest.above f.nearest.is); end = r.1 };
}

best_ends : (operand : List Span) (n k : ℕ) (best : Option Span) (held to : Span) → Back operand n best to → n ≤ k → slice_get operand k ≡ Some held → LiesIn held to → EndsBy best to
best_ends operand n k None held to f l e lies = absurd (let none : length operand ≤ n = f.nearest in let inside = slice_get_within operand k held e in omega (arith, none, l, inside))
best_ends operand n k (Some best) held to f l e lies = by (f.nearest.least k held l e)
  where
    up : to.text ≤ best.text
    up = text_up to best (f.late f.nearest.at best f.nearest.above f.nearest.is)

    by : (best.text < held.text) ⊎ ((held.text ≡ best.text) × (best.end ≤ held.end)) → EndsBy (Some best) to
    by (inl m) = absurd (let t = lies.text in let u = up in omega (arith, m, t, u))
    by (inr m) = (sym m.0 ∙ lies.text, let e = lies.end in omega (arith, m.1, e))

reached_containing : (operand : List Span) (n : ℕ) (best : Option Span) (to : Span) → Back operand n best to → ((k : ℕ) (s : Span) → k < n → slice_get operand k ≡ Some s → ¬ BeginsBy to s) → IsContaining (Contains operand) to → EndsBy best to
reached_containing operand n best to f early w =
    let h = found operand w.held w.is_operands in
    elim (cases_lt h.0 n) [
      | inl l ↦ absurd (early h.0 w.held l h.1 (inr (sym w.lies.text, w.lies.begin)))
      | inr l ↦ best_ends operand n h.0 best w.held to f l h.1 w.lies
    ]

-- ---- what a mark tells

pub within_told : (operand : List Span) (n : ℕ) (best : Option Span) (to : Span) (negated fact mark : Bool) → Front operand n best to → ((k : ℕ) (s : Span) → n ≤ k → slice_get operand k ≡ Some s → ¬ BeginsBy s to) → Decides fact (Reaches best to) → (negated ≡ false → mark ≡ fact) → (negated ≡ true → mark ≡ not fact) →
    Decides mark (Passes (within_kind negated) (Contains operand) to)
within_told operand n best to false fact mark f late d plain turned =
    subst (λ (m : Bool). Decides m (IsWithin (Contains operand) to)) (sym (plain refl)) (Decides-like fact (within_reached operand n best to f) (reached_within operand n best to f late) d)
within_told operand n best to true fact mark f late d plain turned =
    subst (λ (m : Bool). Decides m (¬ IsWithin (Contains operand) to)) (sym (turned refl)) (Decides-not fact (Decides-like fact (within_reached operand n best to f) (reached_within operand n best to f late) d))

pub containing_told : (operand : List Span) (n : ℕ) (best : Option Span) (to : Span) (negated fact mark : Bool) → Back operand n best to → ((k : ℕ) (s : Span) → k < n → slice_get operand k ≡ Some s → ¬ BeginsBy to s) → Decides fact (EndsBy best to) → (negated ≡ false → mark ≡ fact) → (negated ≡ true → mark ≡ not fact) →
    Decides mark (Passes (containing_kind negated) (Contains operand) to)
containing_told operand n best to false fact mark f early d plain turned =
    subst (λ (m : Bool). Decides m (IsContaining (Contains operand) to)) (sym (plain refl)) (Decides-like fact (containing_reached operand n best to f) (reached_containing operand n best to f early) d)
containing_told operand n best to true fact mark f early d plain turned =
    subst (λ (m : Bool). Decides m (¬ IsContaining (Contains operand) to)) (sym (turned refl)) (Decides-not fact (Decides-like fact (containing_reached operand n best to f) (reached_containing operand n best to f early) d))
