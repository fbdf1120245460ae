use Rattle.std.proofs.Common.{◌≡◌, ◌+◌, ◌-◌, ◌*◌, ◌/◌, ◌%◌, ◌^◌, ◌<◌, ◌++◌, bit_and, sym, ap, ◌∙◌, arith, rules, subst, Fits, w64}
use Rattle.std.specs.Int.{bytes_high_first}
use Rattle.std.proofs.lemmas.Nat.{one_shl, and_mask}
use Rattle.mt_store_spec.specs.Codes.{digits, bits}
use Rattle.mt_postings.proofs.Words.{put_more, put_full}
use Rattle.mt_postings.proofs.Deltas.{pow_monotone}
use Rattle.mt_postings.proofs.writer.add_bits.Goals as goal

pub overflow_add-more : goal.overflow_add-more
overflow_add-more c =
    let held = c.args.last.held in
    let p = put_more (bits c.args.bytes.now.items) held c.args.last.word c.args.count c.args.word c.if-held-lt64.true c.requires.within c.requires.fits in
    let m = pow_monotone (held + c.args.count) 64 (omega arith) in
    subst (λ x. Fits w64 (x + c.args.word)) (sym p.0) (let q = p.1 in omega arith)

pub overflow_add-full : goal.overflow_add-full
overflow_add-full c =
    let held = c.args.last.held in
    let p = put_full c.args.bytes.now.items held c.args.last.word c.args.count c.args.word (held + c.args.count - 64) c.requires.below (omega arith) (omega arith) c.requires.within c.requires.fits in
    subst (λ x. Fits w64 (x + c.args.word / 2 ^ (held + c.args.count - 64))) (sym p.0) (omega arith)

pub returns-then-held-lt64-clause-ok : goal.returns-then-held-lt64-clause-ok
returns-then-held-lt64-clause-ok c =
    let held = c.args.last.held in
    let front = bits c.args.bytes.now.items in
    let p = put_more front held c.args.last.word c.args.count c.args.word c.if-held-lt64.true c.requires.within c.requires.fits in
    ap (λ x. front ++ digits (held + c.args.count) (x + c.args.word)) p.0 ∙ p.2

pub returns-then-held-lt64-clause-within : goal.returns-then-held-lt64-clause-within
returns-then-held-lt64-clause-within c =
    let held = c.args.last.held in
    let p = put_more (bits c.args.bytes.now.items) held c.args.last.word c.args.count c.args.word c.if-held-lt64.true c.requires.within c.requires.fits in
    subst (λ x. x + c.args.word < 2 ^ (held + c.args.count)) (sym p.0) p.1

pub returns-in_ok-push_word-clause-ok : goal.returns-in_ok-push_word-clause-ok
returns-in_ok-push_word-clause-ok c =
    let held = c.args.last.held in
    let rest = held + c.args.count - 64 in
    let full = c.args.last.word * 2 ^ (64 - held) + c.args.word / 2 ^ rest in
    let p = put_full c.args.bytes.now.items held c.args.last.word c.args.count c.args.word rest c.requires.below (omega arith) (omega arith) c.requires.within c.requires.fits in
    let one : 1 * 2 ^ rest % 2 ^ 64 ≡ 2 ^ rest = one_shl rest 64 (omega arith) in
    let mask : bit_and c.args.word (1 * 2 ^ rest % 2 ^ 64 - 1) ≡ c.args.word % 2 ^ rest = ap (λ x. bit_and c.args.word (x - 1)) one ∙ and_mask c.args.word rest in
    let made : c.push_word.new.bytes.items ≡ c.args.bytes.now.items ++ bytes_high_first 8 full = (search rules) in
    ap (λ x. bits x ++ digits rest (bit_and c.args.word (1 * 2 ^ rest % 2 ^ 64 - 1))) made ∙ ap (λ x. bits (c.args.bytes.now.items ++ bytes_high_first 8 full) ++ digits rest x) mask ∙ p.3
