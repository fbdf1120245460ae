use Rattle.mt_tables.proofs.Small.{valid_registry}
use Rattle.mt_tables.proofs.show.show_joined.Goals as goal

pub show_segment-requires-clause-valid : goal.show_segment-requires-clause-valid
show_segment-requires-clause-valid c = rw c.in_ok-registry.ensures valid_registry
