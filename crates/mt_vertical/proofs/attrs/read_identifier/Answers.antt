use Rattle.mt_vertical.proofs.attrs.read_identifier.Goals as goal
use Rattle.mt_vertical.proofs.Utf8.{cut_behind, identifier_small}

pub split_at-requires : goal.split_at-requires
split_at-requires c = cut_behind _ _ _ _ identifier_small c.utf8.text c.as_bytes-2.ensures.value c.identifier_len-n.ensures.count c.identifier_len-n.ensures.within
