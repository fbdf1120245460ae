use Rattle.std.proofs.Common.{rules}
use Rattle.mt_places.proofs.Bits.{first_word}
use Rattle.mt_prepare.proofs.column_rows.WordsMarks.word.Goals as goal

pub returns-in-Some : goal.returns-in-Some
returns-in-Some c = first_word c.args.self.now.words.now c.args.at c.in-Some.word.now (search rules)

pub returns-in-None : goal.returns-in-None
returns-in-None c = first_word c.args.self.now.words.now c.args.at 0 (search rules)
