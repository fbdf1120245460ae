use Rattle.mt_vertical.proofs.structs.Structs.read_tag.Goals as goal
use Rattle.mt_vertical.proofs.LineRoles.{foreign_read}

pub returns-in-None : goal.returns-in-None
returns-in-None c = λ columns tokens line e s u f. foreign_read _ _ _ _ _ c.requires.valid s c.in-None.ensures.none line u f
