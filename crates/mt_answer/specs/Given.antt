-- What a grammar is refused for does not depend on how its bytes are given.
use Rattle.std.specs.Prelude.{ℕ, ◌≡◌, List}
use Rattle.std.proofs.Common.{subst}
use Rattle.mt_text_spec.specs.Registries.{Registry}
use Rattle.mt_grammar_spec.specs.GrammarFile.{FirstGrammarFault}
use Rattle.mt_grammar_spec.specs.ReadGrammar.{LacksRelation}
use Rattle.mt_session_spec.specs.Refusals.{Refusal}
use Rattle.mt_session_spec.specs.Ruling.{IsNoGrammar, BadLine, Unrelated}

-- bytes that are given are no grammar where the same bytes are none as the lines behind a command
pub given_no_grammar : (registry : Registry) (bytes : List ℕ) (Given : List ℕ → Type 0) (refusal : Refusal) → Given bytes → IsNoGrammar registry (λ given. given ≡ bytes) refusal →
    IsNoGrammar registry Given refusal
given_no_grammar registry bytes Given refusal given (BadLine read line cause same fault) =
    BadLine bytes line cause given (subst (λ (b : List ℕ). FirstGrammarFault registry b line cause) same fault)
given_no_grammar registry bytes Given refusal given (Unrelated read same lacks) = Unrelated bytes given (subst (λ (b : List ℕ). LacksRelation registry b) same lacks)
