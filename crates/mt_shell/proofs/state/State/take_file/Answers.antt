use Rattle.std.proofs.Common.{subst}
use Rattle.mt_session_spec.specs.World.{ValidHeld}
use Rattle.mt_shell.specs.Serves.{Kept}
use Rattle.mt_shell.specs.Fetches.{gained_of}
use Rattle.mt_shell.proofs.Adding.{add_absent, add_too_long, add_failed, add_starved, add_read}
use Rattle.mt_shell.proofs.state.State.take_file.Goals as goal

pub returns-in-Whole-clause-means : goal.returns-in-Whole-clause-means
returns-in-Whole-clause-means g c =
    rw c.in-Whole.is (λ files f. add_read (record { one_text = c.one_text.ensures; no_fault = c.no_text_with_fault.ensures }) g.setting c.args.self.now.held c.read_bytes.new.self.held c.args.name.now c.args.file.now c.in-Whole.bytes
    c.read_bytes.result files (subst (λ (k : Kept). ValidHeld k.held) c.self.view_is c.self.invariant.held).registry c.requires.1.1.1.1.1.1.1.0 f c.read_bytes.ensures.means)

pub returns-in-Absent-clause-means : goal.returns-in-Absent-clause-means
returns-in-Absent-clause-means g c = rw c.in-Absent.is (λ files a. add_absent g.setting c.args.self.now.held c.args.name.now c.args.file.now c.refused.result files c.requires.1.1.1.1.1.1.1.0 a (rw c.as_str.ensures at c.refused.ensures))

pub returns-in-TooLong-clause-means : goal.returns-in-TooLong-clause-means
returns-in-TooLong-clause-means g c = rw c.in-TooLong.is (λ files t. add_too_long g.setting c.args.self.now.held c.args.name.now c.args.file.now c.refused-in-TooLong.result files c.requires.1.1.1.1.1.1.1.0 t
    (rw c.as_str-in-TooLong.ensures at c.refused-in-TooLong.ensures))

pub returns-in-Failed-clause-means : goal.returns-in-Failed-clause-means
returns-in-Failed-clause-means g c = rw c.in-Failed.is (λ files f. add_failed g.setting c.args.self.now.held c.args.name.now c.args.file.now c.failed.result files c.requires.1.1.1.1.1.1.1.0 c.failed.ensures)

pub returns-in-NoMemory-clause-means : goal.returns-in-NoMemory-clause-means
returns-in-NoMemory-clause-means g c = λ files f. add_starved g.setting c.args.self.now.held c.args.name.now c.args.file.now files (gained_of c.args.file.now c.args.fetched)
