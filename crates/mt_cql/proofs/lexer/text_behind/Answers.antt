use Rattle.std.proofs.lemmas.Str.{IsCharBoundary-after_ascii}
use Rattle.mt_cql.proofs.lexer.text_behind.Goals as goal

pub range_from-requires : goal.range_from-requires
range_from-requires c = λ h. IsCharBoundary-after_ascii c.args.text.now 0 c.utf8.text c.requires.some c.requires.ascii
