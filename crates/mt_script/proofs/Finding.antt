-- What a search for a line feed tells.
use Rattle.std.proofs.Common.{refl, ◌≡◌, ℕ, ◌+◌, ◌-◌, ◌<◌, ◌≤◌, inl, inr, List, length, drop, get_or, arith, eq-eqb, eqb-true, sym, ◌∙◌, ap}
use Rattle.std.proofs.lemmas.Grind.{common_steps}
use Rattle.std.proofs.lemmas.Bool.{cases_lt}
use Rattle.memchr.specs.Find.{Nowhere, NoneBefore, Passes, is_byte}
use Rattle.mt_script.specs.Places.{NoFeed, Looked, LineAt}

-- a byte behind the place where the search began
behind : (bytes hay : List ℕ) (scanned k : ℕ) → hay ≡ drop scanned bytes → scanned ≤ k → get_or hay (k - scanned) 0 ≡ get_or bytes k 0
behind bytes hay scanned k e h = grind (arith, common_steps)

none_behind : (bytes hay : List ℕ) (scanned to at : ℕ) → hay ≡ drop scanned bytes → to ≡ scanned + at → Nowhere (Passes (is_byte 10) hay) 0 at → NoFeed bytes scanned to
none_behind bytes hay scanned to at e t none k h l =
    λ is. none (k - scanned) (omega arith) (omega arith) (eq-eqb _ _ (behind bytes hay scanned k e h ∙ is))

joined : (bytes : List ℕ) (line scanned to : ℕ) → NoFeed bytes line scanned → NoFeed bytes scanned to → NoFeed bytes line to
joined bytes line scanned to a b k h l = elim (cases_lt k scanned) [ inl low ↦ a k h low | inr high ↦ b k high l ]

pub line_none : (bytes hay : List ℕ) (line scanned : ℕ) → Looked bytes line scanned → hay ≡ drop scanned bytes →
    Nowhere (Passes (is_byte 10) hay) 0 (length hay) → NoFeed bytes line (length bytes)
line_none bytes hay line scanned l e none =
    let long : length bytes ≡ scanned + length hay = rw e (let w = l.within in grind (arith, common_steps)) in
    joined bytes line scanned (length bytes) l.none (none_behind bytes hay scanned (length bytes) (length hay) e long none)

pub line_some : (bytes hay : List ℕ) (line scanned at : ℕ) → Looked bytes line scanned → hay ≡ drop scanned bytes →
    NoneBefore (Passes (is_byte 10) hay) 0 (length hay) at → Passes (is_byte 10) hay at → LineAt bytes line (scanned + at)
line_some bytes hay line scanned at l e before hit =
    let long : length bytes ≡ scanned + length hay = rw e (let w = l.within in grind (arith, common_steps)) in
    let high : at < length hay = before.high in
    let same : (scanned + at) - scanned ≡ at = omega arith in
    let low = l.order in
    record {
      order = omega arith;
      within = omega arith;
      none = joined bytes line scanned (scanned + at) l.none (none_behind bytes hay scanned (scanned + at) at e refl before.before);
      feed = sym (behind bytes hay scanned (scanned + at) e (omega arith)) ∙ ap (λ n. get_or hay n 0) same ∙ eqb-true _ _ hit;
    }
