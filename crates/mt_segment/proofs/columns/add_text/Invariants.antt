-- The values of the tokens so far are added.
use Rattle.std.proofs.Common.{◌≡◌, ◌++◌, map, take}
use Rattle.mt_text_spec.specs.Texts.{value_of}
use Rattle.mt_segment.proofs.columns.add_text.Given as goal

abbrev pub invariant-loop-place : goal.invariant-loop-place
invariant-loop-place l = l.numbering ≡ l.initial.numbering ++ map (λ token. value_of token l.column) (take l.place l.text.tokens)
