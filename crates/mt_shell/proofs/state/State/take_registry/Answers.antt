use Rattle.mt_shell.specs.Fetches.{gained_of}
use Rattle.mt_shell.proofs.Registering.{absent, too_long, failed_at, starved_at, whole, not_late}
use Rattle.mt_shell.proofs.state.State.take_registry.Goals as goal

pub returns-in-Whole-clause-means : goal.returns-in-Whole-clause-means
returns-in-Whole-clause-means g c = rw c.in-Whole.is (λ files f. whole c.one_registry_answer.ensures g.setting c.args.self.now.held c.read_registry.new.self.held c.args.file.now c.in-Whole.bytes c.read_registry.result files c.requires.1.1.1.1.0 f c.read_registry.ensures.means)

pub returns-in-Absent-clause-means : goal.returns-in-Absent-clause-means
returns-in-Absent-clause-means g c = rw c.in-Absent.is (λ files a. absent g.setting c.args.self.now.held c.args.file.now c.refused.result files c.requires.1.1.1.1.0 a (rw c.as_str.ensures at c.refused.ensures))

pub returns-in-TooLong-clause-means : goal.returns-in-TooLong-clause-means
returns-in-TooLong-clause-means g c = rw c.in-TooLong.is (λ files t. too_long g.setting c.args.self.now.held c.args.file.now c.refused-in-TooLong.result files c.requires.1.1.1.1.0 t (rw c.as_str-in-TooLong.ensures at c.refused-in-TooLong.ensures))

pub returns-in-Failed-clause-means : goal.returns-in-Failed-clause-means
returns-in-Failed-clause-means g c = rw c.in-Failed.is (λ files f. failed_at g.setting c.args.self.now.held c.args.file.now c.failed.result files c.requires.1.1.1.1.0 c.failed.ensures)

pub returns-in-NoMemory-clause-means : goal.returns-in-NoMemory-clause-means
returns-in-NoMemory-clause-means g c = λ files f. starved_at g.setting c.args.self.now.held c.args.file.now files (gained_of c.args.file.now c.args.fetched)

pub read_registry-requires-send-M : goal.read_registry-requires-send-M
read_registry-requires-send-M g c = λ κs h. (h.0, (h.1.0, (h.1.1, (c.requires.1.1.1.0, (not_late c.args.self.now.held c.requires.1.1.1.1.0, c.requires.1.1.1.1.1)))))
