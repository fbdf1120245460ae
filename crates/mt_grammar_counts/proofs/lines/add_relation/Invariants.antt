-- The rows of the queries so far are told.
use Rattle.std.proofs.Common.{List, ◌++◌, map, take}
use Rattle.std.specs.Prelude.{IfSome, MatchOption}
use Rattle.mt_text_spec.specs.Texts.{Text}
use Rattle.mt_match_spec.specs.Values.{Images}
use Rattle.mt_eval_spec.specs.Told.{told_tokens}
use Rattle.mt_prepare.specs.KnownRows.{AreKnownIn}
use Rattle.mt_instances.specs.Gains.{LabelsLie}
use Rattle.mt_instances.specs.Laws.{AreOfLines, Line}
use Rattle.mt_grammar_counts.specs.Collecting.{AreButOne, OnlyGives, line_of}
use Rattle.mt_grammar_counts.specs.Told.{Tells}
use Rattle.mt_grammar_counts.proofs.LineLists.{AllFitIn}
use Rattle.mt_grammar_counts.proofs.lines.add_relation.Given as goal

abbrev pub invariant-loop-i : goal.invariant-loop-i
invariant-loop-i g l = record {
  only : OnlyGives l.initial.collector l.collector;
  waiting : IfSome l.waiting (λ w. LabelsLie w.rows (told_tokens l.text.segment.now l.text.number));
  given : (images : Images) (of : Text) (lines : List Line) → Tells images l.text.registry.now l.text.segment.now l.text.number of →
      MatchOption l.initial.waiting (AreOfLines images l.text.registry.now of lines l.initial.collector.given)
      (λ w. AreButOne images l.text.registry.now of l.text.segment.now l.text.number lines w.relation.now w.rows l.initial.collector.given) →
      MatchOption l.waiting (AreOfLines images l.text.registry.now of (lines ++ map (line_of l.relation) (take l.i l.relation.queries)) l.collector.given)
      (λ w. AreButOne images l.text.registry.now of l.text.segment.now l.text.number (lines ++ map (line_of l.relation) (take l.i l.relation.queries)) w.relation.now w.rows l.collector.given);
  rows : AreKnownIn l.text.segment.now l.scratch.lists.known;
  fit : (images : Images) (of : Text) → Tells images l.text.registry.now l.text.segment.now l.text.number of → AllFitIn images l.text.registry.now of (take l.i l.relation.queries);
}
