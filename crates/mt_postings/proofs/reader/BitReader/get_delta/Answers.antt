use Rattle.std.proofs.Common.{ℕ, ◌≡◌, ◌+◌, ◌*◌, ◌≤◌, List, length, drop}
use Rattle.mt_store_spec.specs.Codes.{bits, Unread}
use Rattle.mt_postings.specs.Words.{Holds, Begins}
use Rattle.mt_postings.proofs.Refusals.{code_not_large, code_not_cut}
use Rattle.mt_postings.proofs.Heads.{Passed, passed, held_here}
use Rattle.mt_postings.proofs.reader.BitReader.get_delta.Goals as goal

-- what is passed by a code in the bits that are held
here : (bytes : List ℕ) (at held w n k : ℕ) (unread : Unread) → record { left = drop at (bits bytes); place = at } ≡ unread → at ≤ 8 * length bytes → Holds held w (drop at (bits bytes)) → Begins w n k → k ≤ held → Passed bytes at held w n k unread
here bytes at held w n k unread e a h b l = passed bytes at held w n k unread e a (held_here bytes at held w unread e h) b l

pub invariant_of-self : goal.invariant_of-self
invariant_of-self c =
    let p = here c.self.inside.bytes.now c.self.inside.at c.self.inside.held c.self.inside.word c.in-Some.n c.in-Some.length c.args.self.now c.self.view_is c.self.invariant.0 c.self.invariant.2 c.in-Some.ensures.code c.in-Some.ensures.within in
    (p.inside, c.self.invariant.1, p.holds)

pub returns-in-Some-clause-number : goal.returns-in-Some-clause-number
returns-in-Some-clause-number c =
    (here c.self.inside.bytes.now c.self.inside.at c.self.inside.held c.self.inside.word c.in-Some.n c.in-Some.length c.args.self.now c.self.view_is c.self.invariant.0 c.self.invariant.2 c.in-Some.ensures.code c.in-Some.ensures.within).number

pub returns-in-Some-clause-place : goal.returns-in-Some-clause-place
returns-in-Some-clause-place c =
    (here c.self.inside.bytes.now c.self.inside.at c.self.inside.held c.self.inside.word c.in-Some.n c.in-Some.length c.args.self.now c.self.view_is c.self.invariant.0 c.self.invariant.2 c.in-Some.ensures.code c.in-Some.ensures.within).place

pub returns-in-Some-clause-too_large : goal.returns-in-Some-clause-too_large
returns-in-Some-clause-too_large c =
    let p = here c.self.inside.bytes.now c.self.inside.at c.self.inside.held c.self.inside.word c.in-Some.n c.in-Some.length c.args.self.now c.self.view_is c.self.invariant.0 c.self.invariant.2 c.in-Some.ensures.code c.in-Some.ensures.within in
    (λ e. absurd cc, λ h. absurd (code_not_large c.in-Some.n c.args.self.now.left (drop (c.self.inside.at + c.in-Some.length) (bits c.self.inside.bytes.now)) c.in-Some.ensures.code.positive c.in-Some.ensures.code.small p.number h))

pub returns-in-Some-clause-cut : goal.returns-in-Some-clause-cut
returns-in-Some-clause-cut c =
    let p = here c.self.inside.bytes.now c.self.inside.at c.self.inside.held c.self.inside.word c.in-Some.n c.in-Some.length c.args.self.now c.self.view_is c.self.invariant.0 c.self.invariant.2 c.in-Some.ensures.code c.in-Some.ensures.within in
    (λ e. absurd cc, λ h. absurd (code_not_cut c.in-Some.n c.args.self.now.left (drop (c.self.inside.at + c.in-Some.length) (bits c.self.inside.bytes.now)) c.in-Some.ensures.code.positive p.number h))
