use Rattle.std.proofs.Common.{ℕ, ◌≡◌, ◌↔◌, ap, ◌∙◌, subst}
use Rattle.std.specs.List.{Contains, flat_map}
use Rattle.std.specs.Result.{IfOk}
use Rattle.std.proofs.lemmas.List.{take_all}
use Rattle.mt_postings.proofs.postings.Postings.union_of.Goals as goal

pub returns-clause-members : goal.returns-clause-members
returns-clause-members c =
    let whole : c.loop-list.union ≡ flat_map (λ list. list.now) c.args.lists.now = c.loop-list.invariant ∙ ap (flat_map (λ list. list.now)) (take_all c.loop-list.list-index c.args.lists.now c.loop-list-test.false) in
    subst (λ x. IfOk c.finish.result (λ all. (p : ℕ) → Contains all p ↔ Contains x p)) whole c.finish.ensures.members
