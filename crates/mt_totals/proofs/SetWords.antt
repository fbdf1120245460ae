-- The places of a row.
use Rattle.std.proofs.Common.{ℕ, ◌≤◌, List, arith}
use Rattle.mt_places.specs.Places.{In, room}
use Rattle.mt_prepare.specs.TestRows.{IsRow}
use Rattle.mt_tally.specs.Counts.{CountsBelow}
use Rattle.mt_tally.proofs.Marked.{alike, shorter}

-- the places of a row, of which there is room for more
pub in_row : (tokens : ℕ) (P : ℕ → Type 0) (row : List ℕ) (count : ℕ) → IsRow tokens P row → CountsBelow (room row) (In row) count → CountsBelow tokens P count
in_row tokens P row count is c =
    let width = is.width in
    let fits : tokens ≤ room row = omega (arith, width) in
    alike tokens (In row) P count (λ k l i. (is.places.sound k i).1) (λ k l p. is.places.complete k (l, p) (omega (arith, l, fits))) (shorter tokens (room row) (In row) count fits (λ k i. (is.places.sound k i).0) c)
