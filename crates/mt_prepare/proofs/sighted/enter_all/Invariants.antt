-- The text is entered for the tags before `at`.
use Rattle.std.proofs.Common.{◌≡◌, ℕ, ◌<◌, [], length, get_or}
use Rattle.mt_text_spec.specs.Queries as q
use Rattle.mt_prepare.specs.Resolved.{AreSpansOf}
use Rattle.mt_prepare.specs.TagRows.{AreRowsOf}
use Rattle.mt_prepare.specs.declared.tag_rows.TagRows.{TagRows}
use Rattle.mt_prepare.proofs.sighted.enter_all.Given as goal

abbrev pub invariant-loop-at : goal.invariant-loop-at
invariant-loop-at l =
    record {
      count : length l.tags ≡ length l.initial.tags;
      entered : (n : ℕ) (d : TagRows) (test : q.Test) → n < l.at → AreSpansOf l.segment (record { kind = get_or l.kinds n 0; test = test }) (get_or l.spans n [])
          → AreRowsOf l.segment l.text (record { kind = get_or l.kinds n 0; test = test }) (get_or l.spans n []) (get_or l.tags n d);
    }
