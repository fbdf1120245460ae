use Rattle.std.proofs.Common.{◌≡◌, ◌+◌, length}
use denote.Text.{Utf8}
use denote.Shadow.{shadow}
use Rattle.mt_query_spec.specs.Tokens.{tokens_of, tokens_from}
use Rattle.mt_query_laws.specs.Reading.{read}
use Rattle.mt_cql.specs.StateSeen.{state_seen}
use Rattle.mt_cql.proofs.TextLaws.{goes}
use Rattle.mt_cql.proofs.reader.Reader.read.Given as goal

abbrev pub invariant-loop-state : goal.invariant-loop-state
invariant-loop-state l =
    shadow (Utf8 l.rest)
    × (goes l.fn.self.registry.now l.fn.self.default (state_seen l.state) (tokens_from l.at 0 l.rest) (length l.fn.text)
    ≡ read l.fn.self.registry.now l.fn.self.default (tokens_of l.fn.text) (length l.fn.text))
    × (l.at + length l.rest ≡ length l.fn.text)

abbrev pub decreases-loop-state : goal.decreases-loop-state
decreases-loop-state l = length l.rest
