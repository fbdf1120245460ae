use Rattle.std.proofs.Common.{arith, ap, w32}
use Rattle.std.proofs.lemmas.Int.{to_z-of_z}
use Rattle.mt_report_spec.specs.Counts.{Frequency}
use Rattle.mt_frequencies.proofs.Collocated.{collocate_made}
use Rattle.mt_frequencies.proofs.collocate.Collocate.new.Goals as goal

pub returns : goal.returns
returns c = λ scores are.
    collocate_made scores are c.args.spans c.args.tokens c.one.inside.spans c.one.inside.value.now c.score.result _ _ _ c.args.one.now (to_z-of_z w32 c.score.result (record { sfits = c.score.type_inv })) c.score.ensures
    (omega (arith, c.from-3.ensures)) (omega (arith, c.from.ensures, c.from-2.ensures)) (omega (arith, c.requires.some, ap (λ (one : Frequency). one.spans) c.one.view_is)) c.one.view_is
