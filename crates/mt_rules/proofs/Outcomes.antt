-- What calls return.
use Rattle.std.proofs.Common.{◌≡◌, Result, Ok, Err, OnOk, sym, ◌∙◌}
use Rattle.std.specs.Prelude.{IsErrAnd}

-- an error that was handed on is the one that came
pub same_error : {T E : Type 0} (r : Result T E) (e other : E) → IsErrAnd r (λ (own : E). own ≡ e) → r ≡ Err other → e ≡ other
same_error (Ok x) e other h is = absurd h
same_error (Err own) e other h is = let one : own ≡ other = cc in sym h ∙ one

pub on_ok : {T E : Type 0} (r : Result T E) (P : Type 0) → P → OnOk r P
on_ok (Ok x) P p = p
on_ok (Err e) P p = tt
