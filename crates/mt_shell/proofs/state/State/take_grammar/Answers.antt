use Rattle.mt_shell.proofs.Ruling.{grammar_absent, grammar_failed, grammar_read, grammar_starved, grammar_too_long}
use Rattle.mt_shell.proofs.state.State.take_grammar.Goals as goal

pub returns-in-Whole-clause-means : goal.returns-in-Whole-clause-means
returns-in-Whole-clause-means g c = rw c.in-Whole.is (grammar_read g.setting c.args.self.now.held c.read_rules.new.self.held c.args.file.now c.in-Whole.bytes c.read_rules.result _ _ (rw c.as_slice.ensures at c.read_rules.ensures.means))

pub returns-in-Absent-clause-means : goal.returns-in-Absent-clause-means
returns-in-Absent-clause-means g c = rw c.in-Absent.is (grammar_absent g.setting c.args.self.now.held c.args.file.now c.refused.result _ (rw c.as_str.ensures at c.refused.ensures))

pub returns-in-TooLong-clause-means : goal.returns-in-TooLong-clause-means
returns-in-TooLong-clause-means g c = rw c.in-TooLong.is (grammar_too_long g.setting c.args.self.now.held c.args.file.now c.refused-in-TooLong.result _ (rw c.as_str-in-TooLong.ensures at c.refused-in-TooLong.ensures))

pub returns-in-Failed-clause-means : goal.returns-in-Failed-clause-means
returns-in-Failed-clause-means g c = rw c.in-Failed.is (grammar_failed g.setting c.args.self.now.held c.args.file.now c.failed.result _ c.failed.ensures)

pub returns-in-NoMemory-clause-means : goal.returns-in-NoMemory-clause-means
returns-in-NoMemory-clause-means g c = rw c.in-NoMemory.is (grammar_starved g.setting c.args.self.now.held c.args.file.now _)
