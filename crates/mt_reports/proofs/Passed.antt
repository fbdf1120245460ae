-- Segments that are passed on the way to a text.
use Rattle.std.proofs.Common.{◌≡◌, ℕ, ◌+◌, ◌-◌, ◌<◌, ◌≤◌, inl, inr, List, [], length, get_or, ap, arith}
use Rattle.std.proofs.lemmas.Bool.{cases_lt}
use Rattle.std.proofs.lemmas.List.{take_all}
use Rattle.std.proofs.lemmas.List.Sums.{sum_by_more}
use Rattle.mt_reports.specs.Places.{IsAt, Stands, texts_of}

-- the live texts before the segment are counted, and the text is none of them
pub record IsOnTheWay (live : List (List ℕ)) (text segment before : ℕ) : Type 0 where
  pub at : IsAt live segment before
  pub from : before ≤ text

-- so there is a segment to look at
pub on_the_way : (live : List (List ℕ)) (text segment before : ℕ) → IsOnTheWay live text segment before → text < texts_of live → segment < length live
on_the_way live text segment before way below =
    elim (cases_lt segment (length live)) [
      | inl less ↦ less
      | inr past ↦ let all = ap texts_of (take_all segment live past) in absurd (omega (arith, way.at.count, way.from, all))
    ]

-- and the next one is behind its texts
pub passed : (live : List (List ℕ)) (text segment before count : ℕ) → IsOnTheWay live text segment before → segment < length live → count ≡ length (get_or live segment []) → count ≤ text - before →
    IsOnTheWay live text (segment + 1) (before + count)
passed live text segment before count way inside is more = record {
  at = record {
    within = omega arith;
    count = let next = sum_by_more (λ (numbers : List ℕ). length numbers) live segment [] inside in omega (arith, way.at.count, next, is);
  };
  from = omega (arith, way.from);
}

-- where the text is among those of the segment
pub arrived : (live : List (List ℕ)) (text segment before count : ℕ) → IsOnTheWay live text segment before → segment < length live → count ≡ length (get_or live segment []) → text - before < count →
    Stands live text segment before
arrived live text segment before count way inside is less = record { at = way.at; inside = inside; from = way.from; to = omega (arith, way.from, is) }
