use Rattle.std.proofs.Common.{ℕ, ◌≡◌, ◌+◌, ◌-◌, ◌*◌, ◌≤◌, List, length, drop, min, Err, ap, arith}
use Rattle.mt_store_spec.specs.Codes.{bits, Unread}
use Rattle.mt_postings.specs.Words.{Shows, Begins}
use Rattle.mt_postings.proofs.Refusals.{code_not_large, code_not_cut}
use Rattle.mt_postings.proofs.Heads.{refused_too_large, refused_cut, left_length, Passed, passed, holds_shown}
use Rattle.mt_postings.proofs.reader.BitReader.get_from_bytes.Goals as goal

-- what is passed by a code in the word that was read
here : (bytes : List ℕ) (at held w n k : ℕ) (unread : Unread) → record { left = drop at (bits bytes); place = at } ≡ unread → at ≤ 8 * length bytes → held ≡ min (8 * length bytes - at) 57 → Shows w unread.left → Begins w n k → k ≤ held → Passed bytes at held w n k unread
here bytes at held w n k unread e a m s b l =
    let size = left_length bytes at unread e in
    passed bytes at held w n k unread e a (holds_shown held w unread.left (omega arith) (omega arith) s) b l

pub invariant_of-self : goal.invariant_of-self
invariant_of-self c =
    let p = here c.self.inside.bytes.now c.self.inside.at c.min-held.result c.next_word-word.result c.in-Some.n c.in-Some.length c.args.self.now c.self.view_is c.self.invariant.0 c.min-held.ensures c.next_word-word.ensures c.in-Some.ensures.code c.in-Some.ensures.within in
    (p.inside, c.self.invariant.1, p.holds)

pub refusal-requires-clause-none : goal.refusal-requires-clause-none
refusal-requires-clause-none c = λ n k b l m.
    let size = left_length c.self.inside.bytes.now c.self.inside.at c.args.self.now c.self.view_is in
    let e = c.min-held.ensures in
    c.in-None.ensures.none n k b (omega arith)

pub returns-in-Some-clause-number : goal.returns-in-Some-clause-number
returns-in-Some-clause-number c =
    (here c.self.inside.bytes.now c.self.inside.at c.min-held.result c.next_word-word.result c.in-Some.n c.in-Some.length c.args.self.now c.self.view_is c.self.invariant.0 c.min-held.ensures c.next_word-word.ensures c.in-Some.ensures.code c.in-Some.ensures.within).number

pub returns-in-Some-clause-place : goal.returns-in-Some-clause-place
returns-in-Some-clause-place c =
    (here c.self.inside.bytes.now c.self.inside.at c.min-held.result c.next_word-word.result c.in-Some.n c.in-Some.length c.args.self.now c.self.view_is c.self.invariant.0 c.min-held.ensures c.next_word-word.ensures c.in-Some.ensures.code c.in-Some.ensures.within).place

pub returns-in-Some-clause-too_large : goal.returns-in-Some-clause-too_large
returns-in-Some-clause-too_large c =
    let p = here c.self.inside.bytes.now c.self.inside.at c.min-held.result c.next_word-word.result c.in-Some.n c.in-Some.length c.args.self.now c.self.view_is c.self.invariant.0 c.min-held.ensures c.next_word-word.ensures c.in-Some.ensures.code c.in-Some.ensures.within in
    (λ e. absurd cc, λ h. absurd (code_not_large c.in-Some.n c.args.self.now.left (drop (c.self.inside.at + c.in-Some.length) (bits c.self.inside.bytes.now)) c.in-Some.ensures.code.positive c.in-Some.ensures.code.small p.number h))

pub returns-in-Some-clause-cut : goal.returns-in-Some-clause-cut
returns-in-Some-clause-cut c =
    let p = here c.self.inside.bytes.now c.self.inside.at c.min-held.result c.next_word-word.result c.in-Some.n c.in-Some.length c.args.self.now c.self.view_is c.self.invariant.0 c.min-held.ensures c.next_word-word.ensures c.in-Some.ensures.code c.in-Some.ensures.within in
    (λ e. absurd cc, λ h. absurd (code_not_cut c.in-Some.n c.args.self.now.left (drop (c.self.inside.at + c.in-Some.length) (bits c.self.inside.bytes.now)) c.in-Some.ensures.code.positive p.number h))

pub returns-in-None-clause-too_large : goal.returns-in-None-clause-too_large
returns-in-None-clause-too_large c =
    let h = refused_too_large c.args.self.now c.refusal.result c.refusal.ensures in
    (λ e. h.0 cc, λ e. ap Err (h.1 e))

pub returns-in-None-clause-cut : goal.returns-in-None-clause-cut
returns-in-None-clause-cut c =
    let h = refused_cut c.args.self.now c.refusal.result c.refusal.ensures in
    (λ e. h.0 cc, λ e. ap Err (h.1 e))
