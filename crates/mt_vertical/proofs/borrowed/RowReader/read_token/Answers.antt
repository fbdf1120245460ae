use Rattle.std.proofs.Common.{ℕ, ap, subst, length, refl, arith}
use Rattle.mt_file_spec.specs.VerticalLines.{columns, first_columns}
use Rattle.mt_vertical.specs.Readers.{State, AreShort, HasLong}
use Rattle.mt_vertical.proofs.borrowed.RowReader.read_token.Goals as goal
use Rattle.mt_vertical.proofs.LineRoles.{token_many, token_long, token_read, token_did}

pub returns-then-len-eq-TEXT_TOKENS_LIMIT : goal.returns-then-len-eq-TEXT_TOKENS_LIMIT
returns-then-len-eq-TEXT_TOKENS_LIMIT c = λ registry v s t.
    token_many registry _ _ s t (omega (arith, c.len.ensures, c.if-len-eq-TEXT_TOKENS_LIMIT.true, ap (λ (state : State). length state.tokens) c.self.view_is))

pub returns-then-not-branch : goal.returns-then-not-branch
returns-then-not-branch c = λ registry v s t.
    let P : ℕ → Type 0 = λ n. HasLong (first_columns n (columns c.args.line.now)) in
    token_long registry _ _ v s t
    (subst P (ap (λ (state : State). state.columns) c.self.view_is) (c.in_ok-push.ensures.long c.if-not-branch.true))
    (λ e. omega (arith, c.len.ensures, c.if-len-eq-TEXT_TOKENS_LIMIT.false, ap (λ (state : State). length state.tokens) c.self.view_is, e))

pub returns : goal.returns
returns c = λ registry v s t.
    let P : ℕ → Type 0 = λ n. AreShort (first_columns n (columns c.args.line.now)) in
    token_read registry _ _ _ v s t (token_did _ _ _ _ c.args.line.now c.self.view_is c.push.ensures.columns (c.in_ok-push.ensures.added c.if-not-branch.false) refl refl)
    (subst P (ap (λ (state : State). state.columns) c.self.view_is) (c.in_ok-push.ensures.short c.if-not-branch.false))
    (λ e. omega (arith, c.len.ensures, c.if-len-eq-TEXT_TOKENS_LIMIT.false, ap (λ (state : State). length state.tokens) c.self.view_is, e))
