use Rattle.std.proofs.Common.{◌≡◌, ◌+◌, ◌-◌, ◌*◌, ◌/◌, ◌^◌, ◌++◌, [], take, replicate, false, sym, ap, ◌∙◌, arith, rules, append_assoc}
use Rattle.std.specs.Int.{bytes_high_first}
use Rattle.std.proofs.lemmas.List.{append-nil}
use Rattle.mt_store_spec.specs.Codes.{digits, bits}
use Rattle.mt_postings.proofs.Digits.{digits-none}
use Rattle.mt_postings.proofs.Words.{bits-append, put_last}
use Rattle.mt_postings.proofs.writer.BitWriter.finish.Goals as goal

pub returns-then-held-eq0 : goal.returns-then-held-eq0
returns-then-held-eq0 c =
    let none : digits c.self.inside.last.held c.self.inside.last.word ≡ [] = ap (λ k. digits k c.self.inside.last.word) c.if-held-eq0.true ∙ digits-none c.self.inside.last.word in
    let whole : bits c.self.inside.bytes.items ++ [] ≡ c.args.self = ap (λ x. bits c.self.inside.bytes.items ++ x) (sym none) ∙ c.self.view_is in
    (0, omega arith, ap bits c.from_vec.ensures ∙ sym (append-nil (bits c.self.inside.bytes.items)) ∙ whole ∙ sym (append-nil c.args.self))

pub returns : goal.returns
returns c =
    let held = c.self.inside.last.held in
    let count = (held + 7) / 8 in
    let front = bits c.self.inside.bytes.items in
    let p = put_last held c.self.inside.last.word count c.self.invariant.0 c.self.invariant.1 (omega arith) (omega arith) in
    let last : c.to_be_bytes-last.result ≡ bytes_high_first 8 (c.self.inside.last.word * 2 ^ (64 - held)) = c.to_be_bytes-last.ensures ∙ ap (bytes_high_first 8) p.0 in
    let made : c.from_vec-in-Ok.result ≡ c.self.inside.bytes.items ++ take count c.to_be_bytes-last.result = search rules in
    let all : bits c.from_vec-in-Ok.result ≡ front ++ (digits held c.self.inside.last.word ++ replicate (8 * count - held) false) = ap bits made ∙ bits-append c.self.inside.bytes.items (take count c.to_be_bytes-last.result) ∙ ap (λ x. front ++ bits (take count x)) last ∙ ap (λ x. front ++ x) p.1 in
    (8 * count - held, omega arith, all ∙ sym (append_assoc front (digits held c.self.inside.last.word) (replicate (8 * count - held) false)) ∙ ap (λ x. x ++ replicate (8 * count - held) false) c.self.view_is)
