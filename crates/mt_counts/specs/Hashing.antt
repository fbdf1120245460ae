-- What a hasher of pairs computes.
use Rattle.std.specs.Prelude.{ℕ, ◌+◌, ◌*◌, ◌/◌, ◌^◌, List, fold, bit_and, bit_xor}
use Rattle.mt_counts.specs.declared.hasher.PairHasher.{PairHasher}

-- the last eight bytes as a number, the first of them lowest, once another byte is written
abbrev pub shifted : ℕ → ℕ → ℕ
shifted last byte = last / 256 + byte * 2 ^ 56

-- once some bytes are written
abbrev pub join : PairHasher → List ℕ → PairHasher
join h bytes = record { last = fold shifted h.last bytes }

-- a product of 128 bits, its halves joined by xor
abbrev pub mixed : PairHasher → ℕ
mixed h =
    let product = bit_xor h.last 0x243f_6a88_85a3_08d3 * 0x9e37_79b9_7f4a_7c15 in
    bit_xor (bit_and product 0xFFFF_FFFF_FFFF_FFFF) (product / 2 ^ 64)
