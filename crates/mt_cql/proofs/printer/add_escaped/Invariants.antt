use Rattle.std.proofs.Common.{◌≡◌, ◌++◌, length}
use denote.Text.{Utf8}
use denote.Shadow.{shadow}
use Rattle.std.specs.Prelude.{string_bytes}
use Rattle.mt_query_spec.specs.Printed.{escaped}
use Rattle.mt_cql.specs.Texts.{falls}
use Rattle.mt_cql.proofs.printer.add_escaped.Given as goal

abbrev pub invariant-loop-out : goal.invariant-loop-out
invariant-loop-out l = shadow (Utf8 l.rest) × (string_bytes l.out ++ escaped (falls l.literal) l.rest ≡ string_bytes l.initial.out ++ escaped (falls l.literal) l.text)

abbrev pub decreases-loop-out : goal.decreases-loop-out
decreases-loop-out l = length l.rest
