-- The segments so far are added up.
use Rattle.std.proofs.Common.{◌≡◌, ℕ, [], List, take}
use Rattle.mt_report_spec.specs.Held.{LieInSome}
use Rattle.mt_frequencies.specs.Tokens.{AreAllPassed, told_tokens_with}
use Rattle.mt_frequencies.proofs.tokens.tokens_with.Given as goal

abbrev pub invariant-loop-number : goal.invariant-loop-number
invariant-loop-number l = (live : List (List ℕ)) → LieInSome l.segments live [] → AreAllPassed l.segments l.attr live l.passed → l.tokens ≡ told_tokens_with (take l.number l.segments) l.attr (take l.number live) l.one.value
