-- The lines of the spans before this one are written, and the last text was found.
use Rattle.std.proofs.Common.{◌≡◌, List, ◌++◌, map, take}
use Rattle.std.specs.List.{flat_map}
use Rattle.mt_text_spec.specs.Lines.{closed}
use Rattle.mt_text_spec.specs.Registries.{Registry}
use Rattle.mt_match_spec.specs.Values.{Images}
use Rattle.mt_corpus_spec.specs.Groups.{Group, corpus_of}
use Rattle.mt_report_spec.specs.Held.{StandFor}
use Rattle.mt_report_spec.specs.Lines.{query_line}
use Rattle.mt_reports.specs.Places.{IsAt}
use Rattle.mt_reports.proofs.lines.put_lines.Given as goal

abbrev pub invariant-loop-span : goal.invariant-loop-span
invariant-loop-span l = IsAt l.live l.at.segment l.at.before
    × ((images : Images) (registry : Registry) (groups : List Group) → StandFor images registry groups l.segments l.live → l.out ≡ l.fn.out ++ flat_map closed (map (query_line images registry (corpus_of groups)) (take l.span-index l.spans)))
