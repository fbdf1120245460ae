-- The parts of a line stand behind one another.
use Rattle.std.proofs.Common.{ℕ, ℤ, List, [], ◌∷◌, ◌++◌, w32, ap, ◌∙◌}
use Rattle.std.specs.Fmt.{decimal}
use Rattle.std.proofs.lemmas.Int.{to_z-of_z}
use Rattle.mt_reports.proofs.Joined.{on_ok}
use Rattle.mt_sketch_spec.specs.Score.{sixteenths_text}
use Rattle.mt_frequencies.proofs.Rows.{put_together}
use Rattle.mt_frequencies.proofs.lines.CollocateListed.put.Goals as goal

pub returns-clause-ok : goal.returns-clause-ok
returns-clause-ok c =
    on_ok c.push.result
    (λ last.
    rw (← c.self.view_is)
    (put_together c.args.out.now c.self.inside.value.now (9 ∷ decimal c.self.inside.both) (9 ∷ decimal c.self.inside.tokens) (9 ∷ sixteenths_text c.self.inside.score) (10 ∷ []) c.extend.new.self c.put_number.new.out c.put_tokens.new.out c.put_score.new.out
    c.push.new.self (c.in_ok-extend.ensures.ok ∙ ap (λ (bytes : List ℕ). c.args.out.now ++ bytes) c.as_bytes.ensures.value) c.in_ok-put_number.ensures.ok c.in_ok-put_tokens.ensures.ok
    (c.in_ok-put_score.ensures.ok ∙ ap (λ (score : ℤ). c.put_tokens.new.out ++ (9 ∷ sixteenths_text score)) (to_z-of_z w32 c.self.inside.score c.self.invariant)) last))
    c.push.ensures.ok
