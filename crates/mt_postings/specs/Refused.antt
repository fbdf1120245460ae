-- What a refusal tells of the bits.
use Rattle.std.specs.Prelude.{ℕ, ◌≡◌, ◌⊎◌, Bool, List}
use Rattle.mt_store_spec.specs.Codes.{Unread, IsTooLarge, IsCut}
use Rattle.mt_store_spec.specs.Positions.{IsPast, IsTooLargeAt, IsCutAt, IsPaddingAt}
use Rattle.mt_postings.specs.declared.error.CodeError.{CodeError}
use Rattle.mt_postings.specs.declared.error.CodeError.TheVariants.{Cut, TooLarge}
use Rattle.mt_postings.specs.declared.error.DecodeError.{DecodeError}
use Rattle.mt_postings.specs.declared.error.DecodeError.TheVariants as decode

-- it names the place of the first unread bit, and says why no number is read there
abbrev pub IsRefused : Unread → CodeError → Type 0
IsRefused unread (Cut bit) = (bit ≡ unread.place) × IsCut unread.left
IsRefused unread (TooLarge bit) = (bit ≡ unread.place) × IsTooLarge unread.left

-- why no position of at least `least` is read at the first unread bit
abbrev pub IsStopped : ℕ → Unread → DecodeError → Type 0
IsStopped least unread (decode.Cut bit) = (bit ≡ unread.place) × IsCut unread.left
IsStopped least unread (decode.TooLarge bit) = (bit ≡ unread.place) × (IsTooLarge unread.left ⊎ IsPast least unread.left)
IsStopped least unread (decode.Padding bit) = ⊥
IsStopped least unread decode.NoMemory = ⊥

-- why these bits are not the codes of `count` positions; running out of memory says nothing of them
abbrev pub IsNoList : ℕ → List Bool → DecodeError → Type 0
IsNoList count all (decode.Cut bit) = IsCutAt count all bit
IsNoList count all (decode.TooLarge bit) = IsTooLargeAt count all bit
IsNoList count all (decode.Padding bit) = IsPaddingAt count all bit
IsNoList count all decode.NoMemory = Unit {0}
