use Rattle.std.proofs.Common.{◌≡◌, ◌+◌, ◌-◌, ◌++◌, ◌∷◌, [], sym, ap, ◌∙◌, subst, arith, append_assoc}
use Rattle.std.proofs.lemmas.List.{length-append}
use Rattle.mt_store_spec.specs.Positions.{next_least}
use Rattle.mt_postings.specs.Kept.{AreEntries}
use Rattle.mt_postings.specs.declared.coded.Entry.{Entry}
use Rattle.mt_postings.proofs.Runs.{run_more}
use Rattle.mt_postings.proofs.coded.note.Goals as goal

pub returns-in_ok-push : goal.returns-in_ok-push
returns-in_ok-push c = λ ps run before some few e a.
    let n = length-append ps run in
    let k = e.number_is in
    let z = c.if-end-eq0.true in
    let low = c.requires in
    let entry : Entry = record { position = c.args.end.now.least - 1; bit = c.args.end.now.bit } in
    let last : c.args.end.now.least - 1 + 1 ≡ next_least 0 (ps ++ run) = let l = e.least_is in omega arith in
    let now : before ++ c.push.new.self.items ≡ (before ++ c.args.entries.now.items) ++ entry ∷ [] = ap (λ x. before ++ x) c.in_ok-push.ensures.items ∙ sym (append_assoc before c.args.entries.now.items (entry ∷ [])) in
    subst (AreEntries (ps ++ run)) (sym now) (run_more ps run (before ++ c.args.entries.now.items) entry some (omega arith) last e.bit_is a)
