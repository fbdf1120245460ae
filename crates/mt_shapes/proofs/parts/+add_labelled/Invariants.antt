use Rattle.mt_shapes.proofs.parts.+add_labelled.Given as goal

abbrev pub decreases-add_labelled : goal.decreases-add_labelled
decreases-add_labelled g l = goal.size-add_labelled g l
