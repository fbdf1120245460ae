use Rattle.std.proofs.Common.{rules, ◌≡◌, ◌∙◌, ◌+◌, ◌++◌, ◌∷◌, [], ap, sym, length}
use Rattle.mt_base.specs.Rows as spec
use Rattle.mt_base.proofs.Rows.{rows-push}
use Rattle.mt_base.proofs.tokens.Tokens.push.Goals as goal

pub returns-clause-ok : goal.returns-clause-ok
returns-clause-ok c =
    let r : length c.args.row.now ≡ c.self.inside.columns = c.requires ∙ sym (ap (λ t. t.columns) c.self.view_is) in
    let n : c.in-Some.count ≡ c.self.inside.count + 1 = search rules in
    ap (λ k. spec.rows c.self.inside.columns k c.append.new.self) n
    ∙ ap (spec.rows c.self.inside.columns (c.self.inside.count + 1)) c.in_ok-append.ensures.ok
    ∙ rows-push c.self.inside.columns c.self.inside.count c.self.inside.values c.args.row.now c.self.invariant r
    ∙ ap (λ t. t.tokens ++ record { values = c.args.row.now } ∷ []) c.self.view_is
