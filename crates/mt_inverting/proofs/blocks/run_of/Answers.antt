use Rattle.std.proofs.Common.{◌≡◌, ℕ, ◌+◌, ◌-◌, ◌*◌, ◌≤◌, ◌⊎◌, length, take, drop, ap, arith, inl, inr}
use Rattle.mt_inverting.proofs.Runs.{run_is}
use Rattle.mt_inverting.proofs.blocks.run_of.Goals as goal
use Rattle.mt_inverting.proofs.blocks.run_of.Goals.{then-left-lt-RUN, else-left-lt-RUN}

pub returns-clause-run : goal.returns-clause-run
returns-clause-run c =
    let size = c.if-left-lt-RUN.size in
    let same : 65536 * c.args.number + size - 65536 * c.args.number ≡ size = omega arith in
    let which : (size ≡ 65536) ⊎ ((size ≡ length c.args.column.now - 65536 * c.args.number) × (size ≤ 65536)) = elim c.if-left-lt-RUN.branch [
      | then-left-lt-RUN w ↦ inr (w.size-is, omega (arith, w.size-is, w.if-left-lt-RUN.true))
      | else-left-lt-RUN w ↦ inl w.size-is
    ] in
    run_is c.args.column.now (take (65536 * c.args.number + size - 65536 * c.args.number) (drop (65536 * c.args.number) c.args.column.now)) c.args.number size c.requires (ap (λ (n : ℕ). take n (drop (65536 * c.args.number) c.args.column.now)) same) which
