-- What is so of generated texts.
use Rattle.std.specs.Prelude.{ℕ, ◌≤◌, List}
use Rattle.mt_text_spec.specs.Words.{IsName}
use Rattle.mt_text_spec.specs.Registries.{standard_registry}
use Rattle.mt_text_spec.specs.Texts.{ValidText, text_tokens_limit}
use Rattle.mt_file_spec.specs.Vertical.{Vertical}
use Rattle.mt_generate_spec.specs.Generated.{generated_text}
use Rattle.mt_generate_spec.specs.Verticals.{generated_vertical}

-- whatever is generated is valid under the standard registry
abbrev pub ValidTexts : Type 0
ValidTexts = (name : List ℕ) (seed tokens : ℕ) → IsName name → tokens ≤ text_tokens_limit → ValidText standard_registry (generated_text name seed tokens)

-- and the generated vertical is read as it there
abbrev pub ReadsBack : Type 0
ReadsBack = (name : List ℕ) (seed tokens : ℕ) → IsName name → tokens ≤ text_tokens_limit → Vertical standard_registry name (generated_vertical name seed tokens) (generated_text name seed tokens)
