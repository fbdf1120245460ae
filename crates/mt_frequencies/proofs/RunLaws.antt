-- A run of spans is counted.
use Rattle.std.proofs.Common.{◌≡◌, ℕ, ◌+◌, ◌-◌, ◌<◌, ◌≤◌, ◌⊎◌, inl, inr, min, max, Bool, cond, nat_lt, List, length, get_or, refl, sym, ◌∙◌, ap, subst, arith}
use Rattle.std.proofs.lemmas.Bool.{cases_eq, cases_lt}
use Rattle.mt_text_spec.specs.Texts.{Span}
use Rattle.mt_frequencies.specs.declared.distances.Around.{Around}
use Rattle.mt_frequencies.specs.declared.distances.Places.{Places}
use Rattle.mt_frequencies.specs.declared.run.Run.{Run}
use Rattle.mt_frequencies.specs.declared.seen.Reached.{Reached}
use Rattle.mt_frequencies.specs.declared.seen.Seen.{Seen}
use Rattle.mt_frequencies.specs.Distances.{AreDistances}
use Rattle.mt_frequencies.specs.Runs.{AreAt, AreNext, IsRun, own_place, run_at, window_begin, window_end, window_in}
use Rattle.mt_frequencies.specs.Seen.{AreInside, ArePast, AreReached, HasRoom, in_window, opened, seen_at, spans_with, window_at}
use Rattle.mt_frequencies.proofs.Placed.{less, not_less}
use Rattle.mt_frequencies.proofs.Stepped.{IsStepped, few_has, has, has_all, last_low, step_room, stepped, stepped_none, stepped_other, total_same}

pub fits : (run : Run) → IsRun run → (s : ℕ) → run.from ≤ s → s < run.to → (window_begin run s ≤ own_place run s) × (own_place run s < window_end run s)
fits run valid s l m = (omega (arith, valid.there, valid.before), omega (arith, valid.inside, valid.behind, l, m))

-- the places before one were gone through
pub record IsCountedTo (run : Run) (valid : IsRun run) (at : ℕ → ℕ) (place : ℕ) (old new : List Seen) : Type 0 where
  pub count : length new ≡ length old
  pub each : (n : ℕ) → IsStepped at (window_begin run) (own_place run) (window_end run) run.from run.to (fits run valid) n place (seen_at old n) (seen_at new n)

module _ (run : Run) (valid : IsRun run) (at : ℕ → ℕ) (old : List Seen) (past : ArePast run.from old) where
  pub run_none : (place : ℕ) → place ≡ window_begin run run.from → IsCountedTo run valid at place old old
  run_none place is = record {
    count = refl;
    each = λ n. stepped_none at (window_begin run) (own_place run) (window_end run) run.from run.to (fits run valid) n place (seen_at old n) (λ s l m. omega (arith, is, l)) (omega (arith, valid.some)) (past.last n) (past.alone n);
  }

  module _ (place : ℕ) (reached : Reached) (are : AreAt run place reached) (mid : List Seen) (so_far : IsCountedTo run valid at place old mid) where
    alone_was : ℕ → ℕ
    alone_was alone = cond (nat_lt reached.first alone) alone 0

    was_alone : (alone : ℕ) → ((reached.first < alone) × (alone_was alone ≡ alone)) ⊎ ((alone ≤ reached.first) × (alone_was alone ≡ 0))
    unfolding alone_was
    was_alone alone = elim (cases_lt reached.first alone) [
      | inl l ↦ inl (l, ap (λ (b : Bool). cond b alone 0) (less reached.first alone l))
      | inr l ↦ inr (l, ap (λ (b : Bool). cond b alone 0) (not_less reached.first alone l))
    ]

    is_alone : (seen : Seen) → ((max seen.last reached.first < reached.own) × (opened seen reached ≡ reached.own)) ⊎ ((reached.own ≤ max seen.last reached.first) × (opened seen reached ≡ 0))
    is_alone seen = elim (cases_lt (max seen.last reached.first) reached.own) [
      | inl l ↦ inl (l, ap (λ (b : Bool). cond b reached.own 0) (less (max seen.last reached.first) reached.own l))
      | inr l ↦ inr (l, ap (λ (b : Bool). cond b reached.own 0) (not_less (max seen.last reached.first) reached.own l))
    ]

    pub run_room : HasRoom reached (seen_at mid (at place))
    run_room = record {
      order = omega (arith, are.order, last_low at (window_begin run) (own_place run) (window_end run) run.from run.to (fits run valid) place reached.first reached.behind reached.own are.from are.order are.to are.own are.passed are.reach are.begun are.ahead are.itself are.all (seen_at old (at place)) (seen_at mid (at place)) (so_far.each (at place)));
      own = are.own;
      few =
          let room = step_room at (window_begin run) (own_place run) (window_end run) run.from run.to (fits run valid) place reached.first reached.behind reached.own are.from are.order are.to are.own are.passed are.reach are.begun are.ahead are.itself are.all (seen_at old (at place)) (seen_at mid (at place)) (so_far.each (at place))
          (alone_was (seen_at mid (at place)).alone) (opened (seen_at mid (at place)) reached) (was_alone (seen_at mid (at place)).alone) (is_alone (seen_at mid (at place))) in
          let few = few_has at (window_begin run) (own_place run) (window_end run) run.from run.to (fits run valid) (at place) (place + 1) in
          omega (arith, room, few, past.spans (at place), valid.few_spans, valid.some);
    }

    pub run_more : (new : List Seen) → AreReached (at place) reached mid new → IsCountedTo run valid at (place + 1) old new
    run_more new step = record {
      count = step.count ∙ so_far.count;
      each = λ n. elim (cases_eq (at place) n) [
        | inl e ↦
            subst (λ (k : ℕ). IsStepped at (window_begin run) (own_place run) (window_end run) run.from run.to (fits run valid) k (place + 1) (seen_at old k) (seen_at new k)) e
            (stepped at (window_begin run) (own_place run) (window_end run) run.from run.to (fits run valid) place reached.first reached.behind reached.own are.from are.order are.to are.own are.passed are.reach are.begun are.ahead are.itself are.all (seen_at old (at place)) (seen_at mid (at place)) (so_far.each (at place))
            (alone_was (seen_at mid (at place)).alone) (opened (seen_at mid (at place)) reached) (was_alone (seen_at mid (at place)).alone) (is_alone (seen_at mid (at place))) (seen_at new (at place)) step.here.spans step.here.last step.here.alone)
        | inr e ↦ stepped_other at (window_begin run) (own_place run) (window_end run) run.from run.to (fits run valid) n place e (seen_at old n) (seen_at mid n) (seen_at new n) (step.others n (λ same. e (sym same))) (so_far.each n)
      ];
    }

  module _ (place : ℕ) (new : List Seen) (end : window_end run (run.to - 1) ≤ place) (done : IsCountedTo run valid at place old new) where
    pub run_each : (n : ℕ) → (seen_at new n).spans ≡ (seen_at old n).spans + spans_with at n (window_in run) run.from (run.to - run.from)
    run_each n =
        let same = total_same (has at (window_begin run) (own_place run) (window_end run) run.from run.to (fits run valid) n place) (λ s. min 1 (in_window at n (window_in run s))) run.from (run.to - run.from)
        (λ s l m.
        let inside : s < run.to = omega (arith, m, valid.some) in
        has_all at (window_begin run) (own_place run) (window_end run) run.from run.to (fits run valid) n place s (omega (arith, end, l, inside)) (fits run valid s l inside).1) in
        (done.each n).spans ∙ ap (λ (k : ℕ). (seen_at old n).spans + k) same

    pub run_past : ArePast run.to new
    run_past = record {
      spans = λ n. let few = few_has at (window_begin run) (own_place run) (window_end run) run.from run.to (fits run valid) n place in omega (arith, (done.each n).spans, few, past.spans n, valid.some);
      last = λ n. (done.each n).last;
      alone = λ n. (done.each n).alone;
    }

-- ## Spans that are a run

abbrev none_span : Span
none_span = record { text = 0; begin = 0; end = 0 }

module _ (around : Around) (spans : List Span) (from to : ℕ) (some : from < to) (inside : AreInside around.tokens from to spans) (next : AreNext from to spans) where
  pub last_inside : (get_or spans from none_span).begin + (to - from) ≤ around.tokens
  last_inside =
      let k : ℕ = to - 1 in
      let own = inside.inside k none_span (omega (arith, some)) (omega (arith, some)) in
      omega (arith, own, next.begins k none_span (omega (arith, some)) (omega (arith, some)), next.ends k none_span (omega (arith, some)) (omega (arith, some)), some)

  pub window_same : AreDistances around.distances → around.distances.before_from ≡ 1 → around.distances.behind_from ≡ 1 → (s : ℕ) → from ≤ s → s < to → window_in (run_at around spans from to) s ≡ window_at around spans s
  window_same distances before behind s l m =
      let begins = next.begins s none_span l m in
      let ends = next.ends s none_span l m in
      let fits_in = inside.inside s none_span l m in
      let a : window_begin (run_at around spans from to) s ≡ (window_at around spans s).before_from = omega (arith, begins, l) in
      let b : own_place (run_at around spans from to) s ≡ (window_at around spans s).before_to = omega (arith, begins, before, l) in
      let c : own_place (run_at around spans from to) s + 1 ≡ (window_at around spans s).behind_from = omega (arith, begins, ends, fits_in, behind, l) in
      let d : window_end (run_at around spans from to) s ≡ (window_at around spans s).behind_to = omega (arith, begins, ends, l) in
      λ i. record { before_from = a i; before_to = b i; behind_from = c i; behind_to = d i }

  pub spans_same : AreDistances around.distances → around.distances.before_from ≡ 1 → around.distances.behind_from ≡ 1 → (at : ℕ → ℕ) (n : ℕ) → spans_with at n (window_in (run_at around spans from to)) from (to - from) ≡ spans_with at n (window_at around spans) from (to - from)
  spans_same distances before behind at n =
      total_same (λ s. min 1 (in_window at n (window_in (run_at around spans from to) s))) (λ s. min 1 (in_window at n (window_at around spans s))) from (to - from)
      (λ s l m. ap (λ (places : Places). min 1 (in_window at n places)) (window_same distances before behind s l (omega (arith, m, some))))

-- ## Windows lie in their text

pub window_fits : (around : Around) (spans : List Span) (from to size : ℕ) → AreDistances around.distances → AreInside around.tokens from to spans → around.first + around.tokens ≤ size → (k : ℕ) → from ≤ k → k < to →
    ((window_at around spans k).before_from ≤ (window_at around spans k).before_to) × ((window_at around spans k).before_to ≤ size) × ((window_at around spans k).behind_from ≤ (window_at around spans k).behind_to) × ((window_at around spans k).behind_to ≤ size)
window_fits around spans from to size distances inside within k l m =
    let some = inside.some k none_span l m in
    let last = inside.inside k none_span l m in
    (omega (arith, distances.before), omega (arith, some, last, within), omega (arith, distances.behind), omega (arith, within))
