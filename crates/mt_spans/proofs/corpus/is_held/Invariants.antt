-- No text so far has the name.
use Rattle.std.proofs.Common.{◌≢◌, take}
use Rattle.std.specs.List.{All}
use Rattle.mt_spans.proofs.corpus.is_held.Given as goal

abbrev pub invariant-loop-text : goal.invariant-loop-text
invariant-loop-text l = All (λ text. text.name ≢ l.name) (take l.text-index l.texts)
