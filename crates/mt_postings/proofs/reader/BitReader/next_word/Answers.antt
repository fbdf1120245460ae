use Rattle.std.proofs.Common.{◌^◌, ◌≡◌, ◌*◌, ◌/◌, ◌%◌, ◌++◌, take, drop, replicate, false, sym, ap, ◌∙◌, arith, subst}
use Rattle.std.proofs.lemmas.List.{length-drop, drop-drop, take_rest}
use Rattle.mt_store_spec.specs.Codes.{bits}
use Rattle.mt_postings.specs.Words.{Shows}
use Rattle.mt_postings.proofs.Words.{drop-bits, length-bits}
use Rattle.mt_postings.proofs.Heads.{word_moved}
use Rattle.mt_postings.proofs.reader.BitReader.next_word.Goals as goal

pub returns : goal.returns
returns c =
    let bytes = c.self.inside.bytes.now in
    let at = c.self.inside.at in
    let from = at / 8 in
    let skip = at % 8 in
    let rest = drop from bytes in
    let l = length-bits rest in
    let d = length-drop from bytes in
    let inv = c.self.invariant.0 in
    let m = word_moved c.first_word.result skip (bits rest) (omega arith) (omega arith) (c.first_word.ensures ∙ ap (λ x. take 64 (bits x ++ replicate 64 false)) (take_rest bytes from)) in
    let there : drop skip (bits rest) ≡ c.args.self.now.left = ap (drop skip) (sym (drop-bits from bytes)) ∙ drop-drop skip (8 * from) (bits bytes) ∙ ap (λ k. drop k (bits bytes)) (omega arith) ∙ ap (λ u. u.left) c.self.view_is in
    subst (λ x. Shows (c.first_word.result * 2 ^ skip % 2 ^ 64) x) there m
