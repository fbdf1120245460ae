-- The bytes before this one are kept.
use Rattle.std.proofs.Common.{◌≡◌, take, string_bytes}
use Rattle.mt_registry.proofs.build.name_of.Given as goal

abbrev pub invariant-loop-b : goal.invariant-loop-b
invariant-loop-b l = string_bytes l.name ≡ take l.b-index l.b-items
