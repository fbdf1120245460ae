use Rattle.std.proofs.Common.{◌≡◌, ◌<◌, ◌++◌, length, sym, ap, ◌∙◌, subst}
use Rattle.std.specs.Result.{OnOk, OnErr}
use Rattle.mt_store_spec.specs.Positions.{ArePositions}
use Rattle.mt_postings.specs.Forms.{positions_kept, IsFitting}
use Rattle.mt_postings.proofs.Gathered.{after_append}
use Rattle.mt_postings.proofs.postings.Postings.append.Goals as goal

pub append-requires : goal.append-requires
append-requires c =
    let held : c.deref_mut.result.now ≡ c.args.self.now = c.deref_mut.ensures.value ∙ ap positions_kept (sym c.in-Code.is) ∙ c.self.view_is in
    subst (λ x. ArePositions (x ++ c.args.more.now)) (sym held) c.requires

pub invariant_of-self : goal.invariant_of-self
invariant_of-self c =
    let held : c.deref_mut.result.now ≡ c.args.self.now = c.deref_mut.ensures.value ∙ ap positions_kept (sym c.in-Code.is) ∙ c.self.view_is in
    let long : 128 < length c.deref_mut.result.now = subst (λ x. 128 < length x) (sym c.deref_mut.ensures.value) (subst IsFitting c.in-Code.is c.self.invariant.1) in
    let valid : ArePositions c.deref_mut.result.now = subst ArePositions (c.self.view_is ∙ sym held) c.self.invariant.0 in
    after_append c.append.result c.deref_mut.result.now c.args.more.now c.append.new.self c.append.ensures.ok c.append.ensures.err (subst (λ x. ArePositions (x ++ c.args.more.now)) (sym held) c.requires) valid long

pub returns-in-Code-clause-ok : goal.returns-in-Code-clause-ok
returns-in-Code-clause-ok c =
    let held : c.deref_mut.result.now ≡ c.args.self.now = c.deref_mut.ensures.value ∙ ap positions_kept (sym c.in-Code.is) ∙ c.self.view_is in
    subst (λ x. OnOk c.append.result (c.append.new.self ≡ x ++ c.args.more.now)) held c.append.ensures.ok

pub returns-in-Code-clause-err : goal.returns-in-Code-clause-err
returns-in-Code-clause-err c =
    let held : c.deref_mut.result.now ≡ c.args.self.now = c.deref_mut.ensures.value ∙ ap positions_kept (sym c.in-Code.is) ∙ c.self.view_is in
    subst (λ x. OnErr c.append.result (c.append.new.self ≡ x)) held c.append.ensures.err
