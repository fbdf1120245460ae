-- What is known of values.
use Rattle.std.specs.Prelude.{ℕ, ◌≡◌, List, Bool}
use Rattle.std.specs.List.{All}
use Rattle.mt_pattern.specs.declared.known.Answer.{Answer}

-- what is known of values is what the test says of them
abbrev pub AreKnown : (test : List ℕ → Bool) → List Answer → Type 0
AreKnown test known = All (λ answer. answer.found ≡ test answer.value) known
