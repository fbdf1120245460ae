-- The exit status of the program, by the status of its run.
use Rattle.std.specs.Prelude.{ℕ}
use Rattle.mt_shell.specs.declared.top.Status.{Status}
use Rattle.mt_shell.specs.declared.top.Status.TheVariants.{Done, Usage, SourceFault, SinkFault, ScriptTooLong, NoMemory}

-- 0 is the good end
abbrev pub exit_of : Status → ℕ
exit_of Done = 0
exit_of Usage = 2
exit_of SourceFault = 3
exit_of SinkFault = 4
exit_of ScriptTooLong = 5
exit_of NoMemory = 6
