-- Where a text may be cut: round an ASCII byte.
use Rattle.std.proofs.Common.{◌≡◌, ℕ, ◌<◌, List, ◌∷◌, length, get_or, sym, ◌∙◌, subst, arith}
use Rattle.std.specs.Str.{IsUtf8, IsCharBoundary}
use Rattle.std.proofs.lemmas.Str.{IsCharBoundary-after_ascii}

-- behind the first byte
pub cut_first : (bytes seen rest : List ℕ) (b : ℕ) → IsUtf8 bytes → seen ≡ bytes → seen ≡ b ∷ rest → b < 128 → IsCharBoundary bytes 1
cut_first bytes seen rest b u s e small =
    let are : b ∷ rest ≡ bytes = sym e ∙ s in
    let some : 0 < length bytes = subst (λ xs. 0 < length xs) are (omega arith) in
    let low : get_or bytes 0 0 < 128 = subst (λ xs. get_or xs 0 0 < 128) are small in
    IsCharBoundary-after_ascii bytes 0 u some low
