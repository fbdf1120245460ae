use Rattle.mt_pattern.proofs.PlainMarks.{just}
use Rattle.mt_pattern.proofs.plain.own_number.Goals as goal

pub returns : goal.returns
returns c =
    just c.args.text.now c.requires.utf8 c.requires.plain c.args.lexicon.now c.place_of.result c.len-ascending.ensures.ascending c.place_of.ensures.found c.place_of.ensures.none c.requires.alone c.requires.whole
