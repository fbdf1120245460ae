-- What falls away in a string.
use Rattle.std.specs.Prelude.{ℕ, ◌==◌, ◌||◌, Bool, not, cond}

abbrev pub is_plain : ℕ → Bool
is_plain b = not (b == 92)

-- a backslash before `"` falls away, and in a literal one before a backslash
abbrev pub falls : Bool → ℕ → Bool
falls literal b = cond literal (b == 34 || b == 92) (b == 34)

-- no backslash is printed before it
abbrev pub stays : Bool → ℕ → Bool
stays literal b = not (falls literal b)
