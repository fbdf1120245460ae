-- The tokens of the texts so far, which are few enough for the sum.
use Rattle.std.proofs.Common.{◌≡◌, ◌*◌, ◌≤◌, map, take, sum}
use Rattle.mt_shell.specs.Listed.{text_tokens}
use Rattle.mt_shell.proofs.state.listing.live_tokens.Given as goal

abbrev pub invariant-loop-number : goal.invariant-loop-number
invariant-loop-number l = record { counted : l.tokens ≡ sum (map (text_tokens l.segment) (take l.number-index l.numbers)); few : l.tokens ≤ 4294967296 * l.number-index }
