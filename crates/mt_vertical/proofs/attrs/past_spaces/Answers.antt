use Rattle.mt_vertical.proofs.attrs.past_spaces.Goals as goal
use Rattle.mt_vertical.proofs.Utf8.{cut_behind, space_small}

pub split_at-requires : goal.split_at-requires
split_at-requires c = cut_behind _ _ _ _ space_small c.utf8.text c.as_bytes.ensures.value c.spaces_len.ensures.count c.spaces_len.ensures.within
