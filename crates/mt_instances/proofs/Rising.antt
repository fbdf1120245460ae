-- Entries that rise, one more and none.
use Rattle.std.proofs.Common.{◌≡◌, ℕ, ◌<◌, ◌≤◌, ◌⊎◌, inl, inr, Bool, false, List, [], ◌∷◌, ◌++◌, slice_index, sym, subst, arith}
use Rattle.std.specs.List.{Contains}
use Rattle.std.proofs.lemmas.List.Elements.{All-nil, All-push, Contains-push_cases}
use Rattle.mt_count_spec.specs.Counts.{EachOnce}
use Rattle.mt_counts.specs.declared.note.Note.{Note}
use Rattle.mt_instances.specs.Entries.{AreNamed}
use Rattle.mt_instances.specs.Rising.{AreKept, AreRising, rank_of}
use Rattle.mt_instances.proofs.Mapped.{at_head, behind}

once_more : {X : Type 0} (xs : List X) (x : X) → EachOnce xs → (Contains xs x → ⊥) → EachOnce (xs ++ x ∷ [])
once_more [] x once new = (λ h. absurd (omega (arith, h.1)), tt)
once_more {X} (y ∷ xs) x once new = (λ h. by (Contains-push_cases xs x y h), once_more xs x once.1 (λ h. new (behind y x xs h)))
  where
    by : Contains xs y ⊎ (x ≡ y) → ⊥
    by (inl h) = once.0 h
    by (inr e) = new (subst (Contains (y ∷ xs)) (sym e) (at_head y xs))

-- ends that are no lower than others
abbrev pub AreNoLower : (old new : List ℕ) → Type 0
AreNoLower old new = (name : ℕ) → slice_index old name ≤ slice_index new name

rising_still : (entries : List Note) (old new : List ℕ) → AreNoLower old new → AreRising entries old → AreRising entries new
rising_still entries old new kept r = record { once = r.once; below = λ e h. let low = r.below e h in let no_lower = kept e.name in omega (arith, low, no_lower) }

rising_more : (entries : List Note) (entry : Note) (old new : List ℕ) → AreNoLower old new → slice_index old entry.name ≤ rank_of entry → rank_of entry < slice_index new entry.name → AreRising entries old → AreRising (entries ++ entry ∷ []) new
rising_more entries entry old new kept above raised r = record {
  once = once_more entries entry r.once (λ h. let low = r.below entry h in omega (arith, low, above));
  below = λ e h. by e (Contains-push_cases entries entry e h);
}
  where
    by : (e : Note) → Contains entries e ⊎ (entry ≡ e) → rank_of e < slice_index new e.name
    by e (inl h) = let low = r.below e h in let no_lower = kept e.name in omega (arith, low, no_lower)
    by e (inr same) = subst (λ (x : Note). rank_of x < slice_index new x.name) same raised

pub kept_none : (names : ℕ) (entries : List Note) (ends : List ℕ) (rising : Bool) → entries ≡ [] → AreKept names entries ends rising
kept_none names entries ends rising e = subst (λ (xs : List Note). AreKept names xs ends rising) (sym e) (record {
  named = All-nil (λ (x : Note). x.name < names);
  risen = λ _. record { once = tt; below = λ x h. absurd (omega (arith, h.1)) };
})

pub kept_still : (names : ℕ) (entries : List Note) (old new : List ℕ) (rising : Bool) → AreNoLower old new → AreKept names entries old rising → AreKept names entries new rising
kept_still names entries old new rising kept h = record { named = h.named; risen = λ e. rising_still entries old new kept (h.risen e) }

pub kept_more : (names : ℕ) (entries : List Note) (entry : Note) (old new : List ℕ) (rising : Bool) → entry.name < names → AreNoLower old new → slice_index old entry.name ≤ rank_of entry → rank_of entry < slice_index new entry.name →
    AreKept names entries old rising → AreKept names (entries ++ entry ∷ []) new rising
kept_more names entries entry old new rising named kept above raised h = record {
  named = All-push (λ (x : Note). x.name < names) entries entry h.named named;
  risen = λ e. rising_more entries entry old new kept above raised (h.risen e);
}

pub kept_unsorted : (names : ℕ) (entries : List Note) (ends : List ℕ) (rising : Bool) → rising ≡ false → AreNamed names entries → AreKept names entries ends rising
kept_unsorted names entries ends rising e named = record { named = named; risen = λ f. cc }
