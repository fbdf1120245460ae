use Rattle.std.proofs.Common.{◌≡◌, ◌+◌, ◌/◌, length, ap, ◌∙◌, sym, subst}
use Rattle.mt_store_spec.specs.Positions.{codes, IsCode}
use Rattle.mt_postings.proofs.Lengths.{code_length}
use Rattle.mt_postings.proofs.postings.Postings.code_len.Goals as goal

pub returns-in-Numbers : goal.returns-in-Numbers
returns-in-Numbers c = λ bytes code.
    let same : c.code_bits.result ≡ length (codes 0 c.args.self.now) = c.code_bits.ensures.exact ∙ ap (λ x. length (codes 0 x)) c.in-Numbers.ensures.all in
    code_length bytes c.args.self.now code ∙ ap (λ x. (x + 7) / 8) (sym same)

pub returns-in-Code : goal.returns-in-Code
returns-in-Code c = λ bytes code.
    code_length bytes c.args.self.now code ∙ sym (code_length c.code.result.now c.args.self.now (subst (IsCode c.code.result.now) c.in-Code.ensures.all c.code.ensures.code))
