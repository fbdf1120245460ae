-- The pseudo-random numbers of generated texts: a linear congruential generator of 64 bits, of which each draw gives the upper 31.
use Rattle.std.specs.Prelude.{ℕ, zero, suc, ◌+◌, ◌*◌, ◌/◌, ◌%◌, ◌^◌}

-- the generator's number behind one more draw
abbrev pub drawn : ℕ → ℕ
drawn number = (number * 6364136223846793005 + 1442695040888963407) % 2 ^ 64

-- the generator's number behind so many draws, where it begins with the seed
unfoldable pub behind_draws : ℕ → ℕ → ℕ
behind_draws seed zero = seed
behind_draws seed (suc count) = drawn (behind_draws seed count)

-- what a draw gives where the generator has this number behind it
abbrev pub upper_bits : ℕ → ℕ
upper_bits number = number / 2 ^ 33

-- what the draw at this place gives, counted from 0
abbrev pub draw : ℕ → ℕ → ℕ
draw seed place = upper_bits (behind_draws seed (place + 1))
