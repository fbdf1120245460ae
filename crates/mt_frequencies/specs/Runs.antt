-- Spans of one token that stand one behind another.
use Rattle.std.specs.Prelude.{ℕ, ◌≡◌, ◌+◌, ◌-◌, ◌^◌, ◌<◌, ◌≤◌, min, max, List, slice_index_or}
use Rattle.mt_text_spec.specs.Texts.{Span}
use Rattle.mt_frequencies.specs.declared.distances.Around.{Around}
use Rattle.mt_frequencies.specs.declared.distances.Places.{Places}
use Rattle.mt_frequencies.specs.declared.run.Run.{Run}
use Rattle.mt_frequencies.specs.declared.seen.Reached.{Reached}

-- the spans from one on and before another stand at places that follow one another in a text
pub record IsRun (run : Run) : Type 0 where
  pub some : run.from < run.to
  pub there : run.first ≤ run.place
  pub inside : run.place + (run.to - run.from) ≤ run.end
  pub before : 1 ≤ run.before
  pub behind : 1 ≤ run.behind
  pub few : run.end < 2 ^ 32
  pub few_spans : run.to < 2 ^ 32

-- the place of a span's token
abbrev pub own_place : Run → (span : ℕ) → ℕ
own_place run span = run.place + (span - run.from)

-- where its window begins
abbrev pub window_begin : Run → (span : ℕ) → ℕ
window_begin run span = max run.first (own_place run span + 1 - run.before)

-- and where it ends
abbrev pub window_end : Run → (span : ℕ) → ℕ
window_end run span = min run.end (own_place run span + run.behind)

-- the window, without the token itself
abbrev pub window_in : Run → (span : ℕ) → Places
window_in run span = record { before_from = window_begin run span; before_to = own_place run span; behind_from = own_place run span + 1; behind_to = window_end run span }

-- The spans that reach a place, from one on and before another, with the one that stands there itself.
pub record AreAt (run : Run) (place : ℕ) (at : Reached) : Type 0 where
  pub from : run.from ≤ at.first
  pub order : at.first ≤ at.behind
  pub to : at.behind ≤ run.to
  pub passed : (span : ℕ) → run.from ≤ span → span < at.first → window_end run span ≤ place
  pub reach : (span : ℕ) → at.first ≤ span → span < run.to → place < window_end run span
  pub begun : (span : ℕ) → run.from ≤ span → span < at.behind → window_begin run span ≤ place
  pub ahead : (span : ℕ) → at.behind ≤ span → span < run.to → place < window_begin run span
  pub own : at.own ≤ at.behind
  pub itself : (span : ℕ) → at.own ≡ span + 1 → (run.from ≤ span) × (own_place run span ≡ place)
  pub all : (span : ℕ) → run.from ≤ span → span < run.to → own_place run span ≡ place → at.own ≡ span + 1

-- the spans from one on and before another are tokens that stand one behind another
pub record AreNext (from to : ℕ) (spans : List Span) : Type 0 where
  pub begins : (k : ℕ) (span : Span) → from ≤ k → k < to → (slice_index_or spans k span).begin ≡ (slice_index_or spans from span).begin + (k - from)
  pub ends : (k : ℕ) (span : Span) → from ≤ k → k < to → (slice_index_or spans k span).end ≡ (slice_index_or spans k span).begin + 1

-- the run that they are
abbrev pub run_at : Around → List Span → (from to : ℕ) → Run
run_at around spans from to = record {
  from = from;
  to = to;
  place = around.first + (slice_index_or spans from (record { text = 0; begin = 0; end = 0 })).begin;
  first = around.first;
  end = around.first + around.tokens;
  before = around.distances.before_to;
  behind = around.distances.behind_to;
}
