use Rattle.std.specs.Prelude.{string_bytes}
use Rattle.std.proofs.Common.{rules}
use Rattle.mt_base.proofs.Blocks.{pieces-append, AreEnds-append, ends_fit}
use Rattle.mt_base.proofs.strings.Strings.append.Goals as goal

pub push_ends-requires : goal.push_ends-requires
push_ends-requires c = rw (c.as_slice.ensures.value) (ends_fit (string_bytes c.other.inside.block) c.other.inside.ends.items _ _ c.other.invariant (search rules))

pub invariant_of-self-in-Ok : goal.invariant_of-self-in-Ok
invariant_of-self-in-Ok c =
    rw (c.in-Ok.ensures.bytes, c.in_default.ensures.ok, c.as_str-2.ensures.value, c.as_str-others.ensures.value, c.as_slice.ensures.value)
    (AreEnds-append (string_bytes c.self.inside.block) (string_bytes c.other.inside.block) 0 c.self.inside.ends.items c.other.inside.ends.items (rw (← c.as_str-others.ensures.value) c.as_str-others.utf8) c.self.invariant c.other.invariant)

pub returns-in-Ok-clause-ok : goal.returns-in-Ok-clause-ok
returns-in-Ok-clause-ok c =
    rw (c.in-Ok.ensures.bytes, c.in_default.ensures.ok, c.as_str-2.ensures.value, c.as_str-others.ensures.value, c.as_slice.ensures.value, ← c.self.view_is, ← c.other.view_is)
    (pieces-append (string_bytes c.self.inside.block) (string_bytes c.other.inside.block) 0 c.self.inside.ends.items c.other.inside.ends.items c.self.invariant)
