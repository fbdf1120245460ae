-- `generate`: a text is made from a number, and held from now on.
use Rattle.std.specs.Prelude.{ℕ, List}
use Rattle.mt_generate_spec.specs.Verticals.{generated_vertical}
use Rattle.mt_session_spec.specs.World.{World}
use Rattle.mt_session_spec.specs.Settings.{Setting}
use Rattle.mt_session_spec.specs.Adding.{texting}
use Rattle.mt_session_spec.specs.Meaning.{Meaning}

-- `generate`: the generated vertical is the text of this name, as if it were the lines behind the command `text`. So it is read under the registry that holds, which
-- may name other columns and other structures than it has.
abbrev pub generating : Setting → World → List ℕ → ℕ → ℕ → Meaning
generating setting world name seed tokens = texting setting world name (generated_vertical name seed tokens)
