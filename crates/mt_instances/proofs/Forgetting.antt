-- Ends that are set to 0.
use Rattle.std.proofs.Common.{◌≡◌, ℕ, zero, suc, ◌+◌, ◌<◌, ◌≤◌, ◌⊎◌, inl, inr, List, [], ◌∷◌, length, get_or, slice_get, slice_index, slice_set, Some, refl, sym, ap, ◌∙◌, subst, arith}
use Rattle.std.specs.List.{All}
use Rattle.std.proofs.lemmas.Bool.{cases_lt}
use Rattle.std.proofs.lemmas.Option.{same_Some, slice_get-get_or}
use Rattle.mt_counts.specs.declared.note.Note.{Note}

-- the first entries of a list have names whose ends are 0
abbrev pub AreForgotten : List Note → ℕ → List ℕ → Type 0
AreForgotten entries count ends = (k : ℕ) (entry : Note) → k < count → slice_get entries k ≡ Some entry → slice_index ends entry.name ≡ 0

pub none_forgotten : (entries : List Note) (ends : List ℕ) → AreForgotten entries 0 ends
none_forgotten entries ends k entry l e = absurd (omega (arith, l))

still_zero : (ends : List ℕ) (name other : ℕ) → slice_index ends other ≡ 0 → slice_index (slice_set ends name 0) other ≡ 0
still_zero [] name other e = e
still_zero (x ∷ xs) zero zero e = refl
still_zero (x ∷ xs) zero (suc other) e = e
still_zero (x ∷ xs) (suc name) zero e = e
still_zero (x ∷ xs) (suc name) (suc other) e = still_zero xs name other e

set_zero : (ends : List ℕ) (name : ℕ) → slice_index (slice_set ends name 0) name ≡ 0
set_zero [] name = refl
set_zero (x ∷ xs) zero = refl
set_zero (x ∷ xs) (suc name) = set_zero xs name

nothing_there : (ends : List ℕ) (name : ℕ) → length ends ≤ name → slice_index ends name ≡ 0
nothing_there [] name l = refl
nothing_there (x ∷ xs) zero l = absurd (omega (arith, l))
nothing_there (x ∷ xs) (suc name) l = nothing_there xs name (omega (arith, l))

one_more : (entries : List Note) (count : ℕ) (entry : Note) (old new : List ℕ) → ((other : ℕ) → slice_index old other ≡ 0 → slice_index new other ≡ 0) → slice_index new entry.name ≡ 0 → slice_get entries count ≡ Some entry →
    AreForgotten entries count old → AreForgotten entries (count + 1) new
one_more entries count entry old new still here there h k e l at = by (cases_lt k count)
  where
    by : (k < count) ⊎ (count ≤ k) → slice_index new e.name ≡ 0
    by (inl low) = still e.name (h k e low at)
    by (inr high) =
        let same : k ≡ count = omega (arith, l, high) in
        let is : entry ≡ e = same_Some entry e (sym there ∙ ap (λ (i : ℕ). slice_get entries i) (sym same) ∙ at) in
        subst (λ (x : Note). slice_index new x.name ≡ 0) is here

-- one entry more, whose end is set
pub set_more : (entries : List Note) (count : ℕ) (entry : Note) (ends : List ℕ) → slice_get entries count ≡ Some entry → AreForgotten entries count ends → AreForgotten entries (count + 1) (slice_set ends entry.name 0)
set_more entries count entry ends there h = one_more entries count entry ends (slice_set ends entry.name 0) (λ other e. still_zero ends entry.name other e) (set_zero ends entry.name) there h

-- or whose end is none
pub none_more : (entries : List Note) (count : ℕ) (entry : Note) (ends : List ℕ) → length ends ≤ entry.name → slice_get entries count ≡ Some entry → AreForgotten entries count ends → AreForgotten entries (count + 1) ends
none_more entries count entry ends l there h = one_more entries count entry ends ends (λ other e. e) (nothing_there ends entry.name l) there h

pub all_forgotten : (entries : List Note) (count : ℕ) (ends : List ℕ) → length entries ≤ count → AreForgotten entries count ends → All (λ entry. slice_index ends entry.name ≡ 0) entries
all_forgotten entries count ends all h k d l = h k (get_or entries k d) (omega (arith, l, all)) (slice_get-get_or entries k d l)
