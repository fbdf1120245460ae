-- `quit`: nothing changes, and the run ends with the reply.
use Rattle.std.specs.Prelude.{◌≡◌, []}
use Rattle.mt_session_spec.specs.World.{World}
use Rattle.mt_session_spec.specs.Refusals.{ok_line}
use Rattle.mt_session_spec.specs.Answers.{Answer, Last}
use Rattle.mt_session_spec.specs.Meaning.{Meaning, Exception, LoadsNone}

-- nothing changes, and the answer is the last
pub record Quits (world new : World) (answer : Answer) : Type 0 where
  pub same : new ≡ world
  pub says : answer ≡ Last ok_line

-- `quit`: no check, and the run ends
abbrev pub quitting : World → Meaning
quitting world = record { checks = []; Accepts = Quits world; Excepts = Exception world LoadsNone }
