use Rattle.std.proofs.Common.{◌≡◌, ◌++◌, length, false}
use denote.Text.{Utf8}
use denote.Shadow.{shadow}
use Rattle.std.specs.Prelude.{string_bytes}
use Rattle.mt_query_spec.specs.Meaning as meaning
use Rattle.mt_cql.specs.Texts.{falls}
use Rattle.mt_cql.proofs.text.unescaped.Given as goal

abbrev pub invariant-loop-text : goal.invariant-loop-text
invariant-loop-text l = shadow (Utf8 l.rest) × (string_bytes l.text ++ meaning.unescaped (falls l.literal) false l.rest ≡ meaning.unescaped (falls l.literal) false l.content)

abbrev pub decreases-loop-text : goal.decreases-loop-text
decreases-loop-text l = length l.rest
