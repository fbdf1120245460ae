use Rattle.mt_shapes.proofs.parts.+add_part.Given as goal

abbrev pub decreases-add_part : goal.decreases-add_part
decreases-add_part g l = goal.size-add_part g l
