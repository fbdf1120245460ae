-- What is counted so far, over the tokens so far.
use Rattle.std.proofs.Common.{◌≡◌, take}
use Rattle.std.specs.List.{count_by}
use Rattle.std.specs.Str.{bytes_eq}
use Rattle.mt_text_spec.specs.Texts.{value_of}
use Rattle.mt_base.proofs.tokens.Tokens.count_in.Given as goal

abbrev pub invariant-loop-place : goal.invariant-loop-place
invariant-loop-place l = l.found ≡ count_by (λ token. bytes_eq (value_of token l.column) l.value) (take l.place l.self.tokens)
