-- The values of the tokens so far are told.
use Rattle.std.proofs.Common.{◌≡◌, map, take}
use Rattle.mt_text_spec.specs.Texts.{value_of}
use Rattle.mt_vertical_tables.proofs.few.take_column.Given as goal

abbrev pub invariant-loop-token : goal.invariant-loop-token
invariant-loop-token l = l.sorter ≡ map (λ token. value_of token l.column) (take l.token l.rows.tokens)
