-- One count more.
use Rattle.std.proofs.Common.{◌≡◌, ℕ, zero, suc, ◌+◌, ◌<◌, List, [], ◌∷◌, ◌++◌, length, take, get_or, refl, sym, ◌∙◌, ap, arith}
use Rattle.mt_frequencies.specs.declared.seen.Seen.{Seen}
use Rattle.mt_frequencies.specs.Seen.{spans_seen}
use Rattle.mt_frequencies.proofs.spans.counts_of.Goals as goal

one_more : (all : List Seen) (i : ℕ) (seen : Seen) → i < length all → spans_seen (take (suc i) all) ≡ spans_seen (take i all) ++ (get_or all i seen).spans ∷ []
one_more [] i seen l = absurd (omega arith)
one_more (s ∷ all) zero seen l = refl
one_more (s ∷ all) (suc i) seen l = ap (λ (counts : List ℕ). s.spans ∷ counts) (one_more all i seen (omega arith))

pushed : (all : List Seen) (i : ℕ) (seen : Seen) (old new : List ℕ) → i < length all → old ≡ spans_seen (take i all) → new ≡ old ++ (get_or all i seen).spans ∷ [] → new ≡ spans_seen (take (i + 1) all)
pushed all i seen old new l so_far is =
    let next : suc i ≡ i + 1 = omega arith in
    is ∙ ap (λ (counts : List ℕ). counts ++ (get_or all i seen).spans ∷ []) so_far ∙ sym (one_more all i seen l) ∙ ap (λ (n : ℕ). spans_seen (take n all)) next

pub loop-one-preserved : goal.loop-one-preserved
loop-one-preserved c = pushed c.args.seen.now c.loop-one.one-index _ c.loop-one.counts.items c.push.new.self.items c.loop-one-test.true c.loop-one.invariant c.in_ok-push.ensures.items
