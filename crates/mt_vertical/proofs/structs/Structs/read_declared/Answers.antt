use Rattle.std.proofs.Common.{get_or, refl, ◌∙◌, ap}
use Rattle.mt_vertical.proofs.structs.Structs.read_declared.Goals as goal
use Rattle.mt_vertical.proofs.Steps.{at_none, at_some}
use Rattle.mt_vertical.proofs.LineRoles.{did_kinds, opening_read, empty_read, closing_read, opening_long, empty_long}

pub returns-in_default : goal.returns-in_default
returns-in_default c = λ columns tokens line e s u f.
    opening_long _ _ _ _ _ _ _ c.requires.valid c.in-Opening.is c.requires.declared (c.get-declared.ensures ∙ ap (λ ks. get_or ks c.args.kind c.get-declared.result.now) c.kinds.ensures)
    (at_none _ c.in_default.is c.in_ok-values-in-Opening.ensures.long) line u f

pub returns-in_default-2 : goal.returns-in_default-2
returns-in_default-2 c = λ columns tokens line e s u f.
    empty_long _ _ _ _ _ _ _ c.requires.valid c.in-Empty.is c.requires.declared (c.get-declared.ensures ∙ ap (λ ks. get_or ks c.args.kind c.get-declared.result.now) c.kinds.ensures)
    (at_none _ c.in_default-2.is c.in_ok-values-in-Empty.ensures.long) line u f

pub returns-in_ok-open-in-Opening : goal.returns-in_ok-open-in-Opening
returns-in_ok-open-in-Opening c = λ columns tokens line e s u f.
    opening_read _ _ _ _ _ _ _ _ _ c.requires.valid s c.in-Opening.is c.requires.declared (c.get-declared.ensures ∙ ap (λ ks. get_or ks c.args.kind c.get-declared.result.now) c.kinds.ensures)
    (at_some _ _ _ c.in-Some.is c.in_ok-values-in-Opening.ensures.read) (at_some _ _ _ c.in-Some.is c.in_ok-values-in-Opening.ensures.short)
    (did_kinds columns _ tokens _ _ _ e refl c.in_ok-open-in-Opening.ensures) line u f

pub returns-in_ok-stand-in-Empty : goal.returns-in_ok-stand-in-Empty
returns-in_ok-stand-in-Empty c = λ columns tokens line e s u f.
    empty_read _ _ _ _ _ _ _ _ _ c.requires.valid s c.in-Empty.is c.requires.declared (c.get-declared.ensures ∙ ap (λ ks. get_or ks c.args.kind c.get-declared.result.now) c.kinds.ensures)
    (at_some _ _ _ c.in-Some-2.is c.in_ok-values-in-Empty.ensures.read) (at_some _ _ _ c.in-Some-2.is c.in_ok-values-in-Empty.ensures.short)
    (did_kinds columns _ tokens _ _ _ e refl c.in_ok-stand-in-Empty.ensures) line u f

pub returns-in_ok-end-in-Closing : goal.returns-in_ok-end-in-Closing
returns-in_ok-end-in-Closing c = λ columns tokens line e s u f.
    closing_read _ _ _ _ _ _ _ _ c.requires.valid s c.in-Closing.is c.requires.declared (c.get-declared.ensures ∙ ap (λ ks. get_or ks c.args.kind c.get-declared.result.now) c.kinds.ensures)
    (did_kinds columns _ tokens _ _ _ e refl c.in_ok-end-in-Closing.ensures) line u f
