-- The places of values, and of sets of values.
use Rattle.std.proofs.Common.{◌≡◌, ℕ, ◌+◌, ◌-◌, ◌<◌, ◌≤◌, ◌⊎◌, inl, inr, Bool, true, false, List, [], length, get_or, slice_get, None, Some, sym, ap, subst, arith}
use Rattle.std.specs.Prelude.{if◌then◌else◌}
use Rattle.std.proofs.lemmas.Bool.{cases_lt}
use Rattle.std.proofs.lemmas.Option.{same_Some, none-some}
use Rattle.mt_match_spec.specs.Tests.{Unless}
use Rattle.mt_pattern.specs.Marks.{IsNext, NoneFrom}
use Rattle.mt_segment_spec.specs.Tables.{Tables, AreTables, number_at, tables_at, token_count}
use Rattle.mt_segment_laws.specs.Laws.{AreWhole}
use Rattle.mt_eval_laws.specs.Laws.{PlacesAreListed}
use Rattle.mt_tally.specs.Counts.{CountsBelow}
use Rattle.mt_tally.proofs.Listed.{listed}
use Rattle.mt_tally.proofs.Marked.{alike, either_of, none_of, rest_of}

-- ## One value

module _ (tables : Tables) (attr : ℕ) where
  pub value_listed : PlacesAreListed → AreTables tables → attr < length tables.attrs → (id : ℕ) → id < length (tables_at tables.attrs attr).lexicon →
      CountsBelow (token_count tables) (λ place. number_at tables attr place ≡ id) (length (get_or (tables_at tables.attrs attr).postings id []))
  value_listed law known l id low =
      let lists = law tables attr id known l low in
      listed (token_count tables) (λ place. number_at tables attr place ≡ id) (get_or (tables_at tables.attrs attr).postings id []) (record { ascending = lists.ascending; only = lists.on; each = lists.back })

  pub no_value : AreWhole tables → attr < length tables.attrs → (id : ℕ) → length (tables_at tables.attrs attr).lexicon ≤ id → CountsBelow (token_count tables) (λ place. number_at tables attr place ≡ id) 0
  no_value whole l id past = none_of (token_count tables) (λ place. number_at tables attr place ≡ id) (λ place low e. let within = whole.within attr place l low in omega (arith, within, e, past))

-- ## Numbers at places

module _ (limit : ℕ) (number : ℕ → ℕ) where
  pub one_some : (id count : ℕ) → CountsBelow limit (λ place. number place ≡ id) count → CountsBelow limit (λ place. Some id ≡ Some (number place)) count
  one_some id count c = alike limit (λ place. number place ≡ id) (λ place. Some id ≡ Some (number place)) count (λ place l e. ap Some (sym e)) (λ place l e. sym (same_Some id (number place) e)) c

  pub one_none : CountsBelow limit (λ place. None ≡ Some (number place)) 0
  one_none = none_of limit (λ place. None ≡ Some (number place)) (λ place l e. none-some (number place) e)

  -- the number is in a set, and below another one
  pub record IsMarkedBelow (ids : List Bool) (next place : ℕ) : Type 0 where
    pub below : number place < next
    pub mark : slice_get ids (number place) ≡ Some true

  pub none_yet : (ids : List Bool) → CountsBelow limit (IsMarkedBelow ids 0) 0
  none_yet ids = none_of limit (IsMarkedBelow ids 0) (λ place l is. let low = is.below in omega (arith, low))

  pub next_value : (ids : List Bool) (next id count more : ℕ) → IsNext ids next id → CountsBelow limit (IsMarkedBelow ids next) count → CountsBelow limit (λ place. number place ≡ id) more → CountsBelow limit (IsMarkedBelow ids (id + 1)) (count + more)
  next_value ids next id count more is c d =
      alike limit (λ place. IsMarkedBelow ids next place ⊎ (number place ≡ id)) (IsMarkedBelow ids (id + 1)) (count + more)
      (λ place l h. elim h [
        | inl b ↦ let low = b.below in let from = is.later in record { below = omega (arith, low, from); mark = b.mark }
        | inr e ↦ record { below = omega (arith, e); mark = subst (λ (n : ℕ). slice_get ids n ≡ Some true) (sym e) is.marked }
      ])
      (λ place l b. elim (cases_lt (number place) next) [
        | inl low ↦ inl (record { below = low; mark = b.mark })
        | inr high ↦ let least = is.least (number place) high b.mark in let below = b.below in inr (omega (arith, least, below))
      ])
      (either_of limit (IsMarkedBelow ids next) (λ place. number place ≡ id) count more (λ place l b e. let low = b.below in let from = is.later in omega (arith, low, from, e)) c d)

  pub no_next : (ids : List Bool) (next count : ℕ) → NoneFrom ids next → CountsBelow limit (IsMarkedBelow ids next) count → CountsBelow limit (λ place. slice_get ids (number place) ≡ Some true) count
  no_next ids next count none c =
      alike limit (IsMarkedBelow ids next) (λ place. slice_get ids (number place) ≡ Some true) count (λ place l b. b.mark)
      (λ place l mark. elim (cases_lt (number place) next) [
        | inl low ↦ record { below = low; mark = mark }
        | inr high ↦ absurd (none (number place) high mark)
      ]) c

-- ## The others

pub unless_of : (limit : ℕ) (P : ℕ → Type 0) (negated : Bool) (count result : ℕ) → result ≡ (if negated then limit - count else count) → CountsBelow limit P count → CountsBelow limit (λ place. Unless negated (P place)) result
unless_of limit P false count result e c = subst (CountsBelow limit P) (sym e) c
unless_of limit P true count result e c = subst (CountsBelow limit (λ place. P place → ⊥)) (sym e) (rest_of limit P count c)
