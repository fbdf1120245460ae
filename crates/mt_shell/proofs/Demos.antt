-- Runs over the script of a demo.
use Rattle.std.proofs.Common.{◌≡◌, ℕ, List, Option, None, Some, subst}
use Rattle.mt_generate_spec.specs.Demo.{demo_script}
use Rattle.mt_session_spec.specs.Runs.{Outside}
use Rattle.mt_session_spec.specs.Settings.{Setting}
use Rattle.mt_shell.specs.Demos.{reading, OverScript}
use Rattle.mt_shell.specs.Ends.{EndsAs}
use Rattle.mt_shell.specs.declared.top.Status.TheVariants.{NoMemory}
use Rattle.mt_shell.proofs.Endings.{nothing_read}

-- a run that finds no memory at its start, over whatever script
pub starved_ends : (setting : Setting) (demo : Option ℕ) (start : Outside) → OverScript demo (EndsAs setting NoMemory) start start
starved_ends setting None start = λ input h written k. nothing_read input written start h k
starved_ends setting (Some demo) start = (demo_script demo, λ input h written k. nothing_read input written (reading (demo_script demo) start) h k)

-- what is so of a run over these bytes is so over the demo's script, which they are
pub over_demo : (demo : ℕ) (bytes rest : List ℕ) (Holds : Outside → Outside → Type 0) (start end : Outside) → bytes ≡ demo_script demo → Holds (reading bytes start) (reading rest end) →
    OverScript (Some demo) Holds start end
over_demo demo bytes rest Holds start end same holds = (rest, subst (λ (b : List ℕ). Holds (reading b start) (reading rest end)) same holds)
