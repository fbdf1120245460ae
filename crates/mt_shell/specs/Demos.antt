-- Which script a run reads: that of the source, or with a demo that of the demo.
use Rattle.std.specs.Prelude.{ℕ, List, Option, None, Some}
use Rattle.mt_generate_spec.specs.Demo.{demo_script}
use Rattle.mt_session_spec.specs.Runs.{Outside}

-- the bytes of the script, where they are told: those of a demo are
abbrev pub script_of : Option ℕ → Option (List ℕ) → Option (List ℕ)
script_of None left = left
script_of (Some demo) left = Some (demo_script demo)

-- what is outside where these bytes are read in place of the source's: no read of them fails
abbrev pub reading : List ℕ → Outside → Outside
reading bytes start = record start { left = Some bytes; source_faults = 0 }

-- What is so of a run over its script: over the source, or over the script of a demo, of which some bytes may be left.
abbrev pub OverScript : Option ℕ → (Outside → Outside → Type 0) → Outside → Outside → Type 0
OverScript None Holds start end = Holds start end
OverScript (Some demo) Holds start end = (rest : List ℕ) × Holds (reading (demo_script demo) start) (reading rest end)
