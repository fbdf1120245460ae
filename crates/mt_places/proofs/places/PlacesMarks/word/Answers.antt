use Rattle.std.proofs.Common.{rules}
use Rattle.mt_places.proofs.Bits.{first_word}
use Rattle.mt_places.proofs.places.PlacesMarks.word.Goals as goal

pub returns-in-Some-clause-word : goal.returns-in-Some-clause-word
returns-in-Some-clause-word c = first_word c.args.self.now c.args.at c.in-Some.word.now (search rules)

pub returns-in-None-clause-word : goal.returns-in-None-clause-word
returns-in-None-clause-word c = first_word c.args.self.now c.args.at 0 (search rules)
