-- The rows of the tokens so far are there.
use Rattle.std.proofs.Common.{◌≡◌, ◌++◌}
use Rattle.mt_eval.specs.Every.{tokens_of}
use Rattle.mt_eval.proofs.every.push_tokens.Given as goal

abbrev pub invariant-loop-begin : goal.invariant-loop-begin
invariant-loop-begin l = l.out ≡ l.initial.out ++ tokens_of l.text l.begin
