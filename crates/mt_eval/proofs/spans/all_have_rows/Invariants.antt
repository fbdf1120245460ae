-- Each of the spans so far has a row, and the text that was found last is listed.
use Rattle.std.proofs.Common.{take, IfSome}
use Rattle.std.specs.List.{All, Contains}
use Rattle.mt_eval.specs.Spans.{HasRow}
use Rattle.mt_eval.proofs.spans.all_have_rows.Given as goal

abbrev pub invariant-loop-span : goal.invariant-loop-span
invariant-loop-span l =
    record {
      have : All (HasRow l.texts) (take l.span-index l.spans);
      last_is : IfSome l.last (λ text. Contains l.texts text);
    }
