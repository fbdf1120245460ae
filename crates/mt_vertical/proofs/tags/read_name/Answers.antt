use Rattle.mt_vertical.proofs.tags.read_name.Goals as goal
use Rattle.mt_vertical.proofs.Utf8.{cut_behind, name_small}

pub split_at-requires : goal.split_at-requires
split_at-requires c = cut_behind _ _ _ _ name_small c.utf8.text c.as_bytes-then-begins_identifier.ensures.value c.name_len.ensures.count c.name_len.ensures.within
