use Rattle.std.proofs.Common.{◌<◌, ◌≤◌, length, sym, ap, ◌∙◌, subst}
use Rattle.mt_postings.proofs.kept.keep_apart.Goals as goal

pub returns-then-positions-le-SHORT-clause-all : goal.returns-then-positions-le-SHORT-clause-all
returns-then-positions-le-SHORT-clause-all c = ap (λ v. v.items) c.in_ok-new.ensures.ok ∙ c.in_ok-from_slice.ensures.items

pub returns-then-positions-le-SHORT-clause-fitting : goal.returns-then-positions-le-SHORT-clause-fitting
returns-then-positions-le-SHORT-clause-fitting c = subst (λ x. length x ≤ 128) (sym (ap (λ v. v.items) c.in_ok-new.ensures.ok ∙ c.in_ok-from_slice.ensures.items)) c.if-positions-le-SHORT.true

pub returns-clause-all : goal.returns-clause-all
returns-clause-all c = c.in_ok-new-2.ensures.ok ∙ c.in_ok-from_slice-2.ensures

pub returns-clause-fitting : goal.returns-clause-fitting
returns-clause-fitting c = subst (λ x. 128 < length x) (sym (c.in_ok-new-2.ensures.ok ∙ c.in_ok-from_slice-2.ensures)) c.if-positions-le-SHORT.false
