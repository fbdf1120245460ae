-- The bytes of a number, joined one after another.
use Rattle.std.proofs.Common.{◌≡◌, ℕ, ◌+◌, ◌*◌, ◌/◌, ◌^◌, ◌<◌, fold, arith}
use Rattle.std.specs.Hash.{le_bytes}
use Rattle.mt_counts.specs.Hashing.{shifted}

pub four_joined : (last n : ℕ) → n < 2 ^ 32 → last / 4294967296 + n * 4294967296 ≡ fold shifted last (le_bytes 4 n)
unfolding le_bytes
four_joined last n few = omega (arith, few)
