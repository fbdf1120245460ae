use Rattle.std.proofs.Common.{ℕ, List, inl, subst}
use Rattle.std.specs.List.{Contains}
use Rattle.mt_counts.proofs.Entries.{pair_exact}
use Rattle.mt_instances.proofs.Filling.{put_only}
use Rattle.mt_instances.proofs.fills.Fills.set.Goals.{in-Ok, in-Err}
use Rattle.mt_instances.proofs.fills.Fills.set.Goals as goal

pub returns : goal.returns
returns c = rw (← c.self.view_is) (
    let old = c.self.inside.finals.entries in
    let new = c.insert.new.self.entries in
    λ x h. elim c.match-insert.branch [
      | in-Ok w ↦ put_only _ (c.args.name, c.args.value) c.args.number (pair_exact c.args.name c.args.value) old x (subst (λ (es : List ((ℕ × ℕ) × ℕ)). Contains es x) w.in-Ok.ensures.entries h)
      | in-Err w ↦ inl (subst (λ (es : List ((ℕ × ℕ) × ℕ)). Contains es x) w.in-Err.ensures.err h)
    ])
