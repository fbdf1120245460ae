use Rattle.std.proofs.Common.{◌≡◌, ◌∙◌, List, ℕ, length, ap, sym, arith}
use Rattle.mt_counts.proofs.Entries.{classes-keys, length-keys}
use Rattle.mt_counts.proofs.tally.Tally.raise_each.Goals as goal

pub invariant_of-self : goal.invariant_of-self
invariant_of-self c =
    let entries = c.self.inside.counts.entries in
    let news = c.raise_counts.new.counts.entries in
    let long : length news ≡ length entries = sym (length-keys news) ∙ ap (λ (ks : List (ℕ × ℕ)). length ks) c.raise_counts.ensures.keys ∙ length-keys entries in
    (rw (classes-keys entries news c.raise_counts.ensures.keys) c.self.invariant.0, omega (arith, long, c.self.invariant.1), omega (arith, c.raise_counts.ensures.sum, c.self.invariant.2), rw c.raise_counts.ensures.keys c.self.invariant.3)
