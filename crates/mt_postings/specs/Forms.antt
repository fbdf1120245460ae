-- The forms in which the positions of a list are kept, lent and read.
use Rattle.std.specs.Prelude.{ℕ, ◌<◌, ◌≤◌, List, [], length}
use Rattle.mt_postings.specs.declared.cursor.Left.{Left}
use Rattle.mt_postings.specs.declared.cursor.Left.TheVariants as left
use Rattle.mt_postings.specs.declared.kept.Kept.{Kept}
use Rattle.mt_postings.specs.declared.kept.Kept.TheVariants as kept
use Rattle.mt_postings.specs.declared.kept.Lent.{Lent}
use Rattle.mt_postings.specs.declared.kept.Lent.TheVariants as lent

-- the positions that are left to a cursor
abbrev pub positions_left : Left → List ℕ
positions_left (left.Numbers numbers) = numbers
positions_left (left.Codes places) = places

-- the positions that are kept: up to three in place, up to six in a block, as numbers, or as their code
abbrev pub positions_kept : Kept → List ℕ
positions_kept kept.Zero = []
positions_kept (kept.One positions) = positions
positions_kept (kept.Two positions) = positions
positions_kept (kept.Three positions) = positions
positions_kept (kept.Four positions) = positions.value
positions_kept (kept.Five positions) = positions.value
positions_kept (kept.Six positions) = positions.value
positions_kept (kept.Numbers numbers) = numbers.value.items
positions_kept (kept.Code coded) = coded.value

-- the form goes by how many there are: up to 128 in place, in a block or as numbers, and more as their code
abbrev pub IsFitting : Kept → Type 0
IsFitting kept.Zero = Unit {0}
IsFitting (kept.One positions) = length positions ≤ 128
IsFitting (kept.Two positions) = length positions ≤ 128
IsFitting (kept.Three positions) = length positions ≤ 128
IsFitting (kept.Four positions) = length positions.value ≤ 128
IsFitting (kept.Five positions) = length positions.value ≤ 128
IsFitting (kept.Six positions) = length positions.value ≤ 128
IsFitting (kept.Numbers numbers) = length numbers.value.items ≤ 128
IsFitting (kept.Code coded) = 128 < length coded.value

-- the positions that are lent
abbrev pub positions_lent : Lent → List ℕ
positions_lent (lent.Numbers numbers) = numbers.now
positions_lent (lent.Code coded) = coded.now

-- at most 128 are lent as numbers
abbrev pub IsShort : Lent → Type 0
IsShort (lent.Numbers numbers) = length numbers.now ≤ 128
IsShort (lent.Code coded) = Unit {0}
