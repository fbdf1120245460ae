-- Checks in order: why something is refused, and for which cause first. A check is made for one world and one command or question; nothing here knows of either.
use Rattle.std.specs.Prelude.{◌≡◌, ◌⊎◌, List, [], ◌∷◌}
use Rattle.mt_session_spec.specs.Refusals.{Refusal}

-- the refusals that a check may give, each with its cause
abbrev pub Check : Type 1
Check = Refusal → Type 0

-- the check that gives this refusal where there is this cause
pub record When (cause : Type 0) (refusal given : Refusal) : Type 0 where
  pub is : given ≡ refusal
  pub there : cause

-- the check gives no refusal
abbrev pub Passes : Check → Type 0
Passes check = (refusal : Refusal) → check refusal → ⊥

-- one of the checks gives this refusal, and all before it pass
abbrev pub FirstStands : List Check → Refusal → Type 0
FirstStands [] refusal = ⊥
FirstStands (check ∷ later) refusal = check refusal ⊎ (Passes check × FirstStands later refusal)

-- all of the checks pass
abbrev pub NoneStands : List Check → Type 0
NoneStands [] = Unit {0}
NoneStands (check ∷ later) = Passes check × NoneStands later

-- ## What a check owes to the law that a command has one meaning

-- it gives one refusal at most
abbrev pub IsSingle : Check → Type 0
IsSingle check = (a b : Refusal) → check a → check b → a ≡ b

abbrev pub AreSingle : List Check → Type 0
AreSingle [] = Unit {0}
AreSingle (check ∷ later) = IsSingle check × AreSingle later
