-- The items of a list, by their numbers.
use Rattle.std.proofs.Common.{zero, suc, inl, inr, List, [], ◌∷◌, sym, arith}
use Rattle.std.specs.List.{Contains}
use Rattle.mt_tally.specs.Counts.{IsAmong}

pub to_among : {X : Type 0} (xs : List X) (x : X) → Contains xs x → IsAmong x xs
to_among [] x (k, l, e) = absurd (omega (arith, l))
to_among (y ∷ ys) x (zero, l, e) = inl (sym e)
to_among (y ∷ ys) x (suc k, l, e) = inr (to_among ys x (k, omega (arith, l), e))

pub from_among : {X : Type 0} (xs : List X) (x : X) → IsAmong x xs → Contains xs x
from_among [] x m = absurd m
from_among (y ∷ ys) x (inl e) = (0, omega arith, sym e)
from_among (y ∷ ys) x (inr m) = let (k, l, e) = from_among ys x m in (suc k, omega (arith, l), e)
