use Rattle.std.proofs.Common.{◌≡◌, ◌≤◌, ◌+◌, length}
use denote.Text.{Utf8}
use denote.Shadow.{shadow}
use Rattle.mt_query_spec.specs.Tokens.{tokens_from}
use Rattle.mt_cql.proofs.text_reader.next_token.Given as goal

abbrev pub invariant-loop-rest : goal.invariant-loop-rest
invariant-loop-rest l = shadow (Utf8 l.rest) × (tokens_from l.at 0 l.rest ≡ tokens_from l.fn.at 0 l.fn.text) × (l.at + length l.rest ≡ l.fn.at + length l.fn.text) × (length l.rest ≤ length l.fn.text)

abbrev pub decreases-loop-rest : goal.decreases-loop-rest
decreases-loop-rest l = length l.rest
