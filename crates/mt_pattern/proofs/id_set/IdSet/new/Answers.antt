use Rattle.std.proofs.Common.{◌+◌, ◌/◌, ◌∙◌, ap, sym, arith}
use Rattle.mt_pattern.specs.Marks.{marks_from, size_of}
use Rattle.mt_pattern.proofs.Bits.{no_marks, none_in, none_AreMarks}
use Rattle.mt_pattern.proofs.id_set.IdSet.new.Goals as goal

pub returns : goal.returns
returns c = ap (λ w. marks_from w 0 c.args.count) c.in_ok-words.ensures ∙ no_marks (c.args.count / 64 + 1) 0 c.args.count

pub invariant_of-result : goal.invariant_of-result
invariant_of-result c =
    let zeros = c.in_ok-words.ensures in
    (none_AreMarks c.in_ok-words.words (c.args.count / 64 + 1) c.args.count zeros (omega arith), sym (ap (λ w. size_of (marks_from w 0 c.args.count)) zeros ∙ ap size_of (no_marks (c.args.count / 64 + 1) 0 c.args.count) ∙ none_in c.args.count))
