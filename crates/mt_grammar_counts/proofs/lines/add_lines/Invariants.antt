-- The rows of the queries of the relations so far are told.
use Rattle.std.proofs.Common.{◌≡◌, [], length, take}
use Rattle.std.specs.Prelude.{IfSome, MatchOption}
use Rattle.std.specs.List.{flat_map}
use Rattle.mt_text_spec.specs.Texts.{Text}
use Rattle.mt_match_spec.specs.Values.{Images}
use Rattle.mt_eval_spec.specs.Told.{told_tokens}
use Rattle.mt_prepare.specs.KnownRows.{AreKnownIn}
use Rattle.mt_instances.specs.Gains.{LabelsLie}
use Rattle.mt_instances.specs.Laws.{AreOfLines}
use Rattle.mt_grammar_counts.specs.Collecting.{AreButOne, OnlyGives, lines_of}
use Rattle.mt_grammar_counts.specs.Told.{Tells}
use Rattle.mt_grammar_counts.proofs.LineLists.{AllOf}
use Rattle.mt_grammar_counts.proofs.lines.add_lines.Given as goal

abbrev pub invariant-loop-i : goal.invariant-loop-i
invariant-loop-i g l = record {
  only : OnlyGives l.initial.collector l.collector;
  waiting : IfSome l.waiting (λ w. LabelsLie w.rows (told_tokens l.text.segment.now l.text.number));
  given : (images : Images) (of : Text) → Tells images l.text.registry.now l.text.segment.now l.text.number of → AreOfLines images l.text.registry.now of [] l.initial.collector.given →
      MatchOption l.waiting (AreOfLines images l.text.registry.now of (flat_map lines_of (take l.i l.grammar.relations)) l.collector.given)
      (λ w. AreButOne images l.text.registry.now of l.text.segment.now l.text.number (flat_map lines_of (take l.i l.grammar.relations)) w.relation.now w.rows l.collector.given);
  from : l.from ≡ length (flat_map (λ relation. relation.queries) (take l.i l.grammar.relations));
  rows : AreKnownIn l.text.segment.now l.scratch.lists.known;
  fit : (images : Images) (of : Text) → Tells images l.text.registry.now l.text.segment.now l.text.number of → AllOf images l.text.registry.now of (take l.i l.grammar.relations);
}
