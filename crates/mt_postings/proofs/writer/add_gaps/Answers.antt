use Rattle.std.proofs.Common.{◌≡◌, ◌+◌, ◌-◌, ◌≤◌, ◌++◌, ◌∷◌, length, drop, get_or, sym, ap, ◌∙◌, subst, arith}
use Rattle.std.proofs.lemmas.List.{drop_more}
use Rattle.mt_store_spec.specs.Codes.{digits, delta, bits}
use Rattle.mt_store_spec.specs.Positions.{next_least}
use Rattle.mt_postings.specs.Following.{Follow}
use Rattle.mt_postings.proofs.Digits.{length-digits}
use Rattle.mt_postings.proofs.Keeping.{written_more}
use Rattle.mt_postings.proofs.Runs.{counted_more}
use Rattle.mt_postings.proofs.writer.add_gaps.Goals as goal

pub loop-position-preserved : goal.loop-position-preserved
loop-position-preserved c =
    let ps = c.args.positions.now in
    let i = c.loop-position.position-index in
    let inv = c.loop-position.invariant in
    let least = c.loop-position.next in
    let p = get_or ps i 0 in
    let rest = drop (i + 1) ps in
    let e : drop i ps ≡ p ∷ rest = drop_more ps i 0 c.loop-position-test.true in
    let f = subst (Follow least) e inv.follow in
    let low : least ≤ p = f.0 in
    let count = c.delta_word-word.result.1 in
    let word = c.delta_word-word.result.0 in
    let before = bits c.loop-position.bytes.items ++ digits c.loop-position.last.held c.loop-position.last.word in
    let now = bits c.add_bits.new.bytes.items ++ digits c.in_ok-last.last.held c.in_ok-last.last.word in
    let code = c.delta_word-word.ensures.code in
    let size : count ≡ length (delta (p - least + 1)) = sym (length-digits count word) ∙ ap length code in
    let made : now ≡ before ++ delta (p - least + 1) = c.in_ok-last.ensures.ok ∙ ap (λ x. before ++ x) code in
    let same = c.from-bits.ensures in
    let wide : c.from-bits.result ≡ length (delta (p - least + 1)) = same ∙ size in
    let few = c.delta_word-word.ensures.length in
    let most = inv.most in
    record {
      follow = f.2;
      below = c.in_ok-last.ensures.below;
      within = c.in_ok-last.ensures.within;
      room = c.in_ok-last.ensures.room;
      added = written_more before now least p (drop i ps) rest made e low ∙ inv.added;
      next = sym (ap (next_least least) e) ∙ inv.next;
      count = counted_more c.loop-position.bits c.from-bits.result least p (drop i ps) rest ps c.args.least wide e low inv.count;
      most = omega arith;
    }
