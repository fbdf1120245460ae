use Rattle.std.proofs.Common.{◌∙◌, arith}
use Rattle.mt_registry.proofs.RegistryGroups.{sound_of}
use Rattle.std.proofs.lemmas.Result.{err_from_is_err_and}
use Rattle.mt_registry.proofs.RegistryLaws.{only_memory}
use Rattle.mt_registry.proofs.RegistryValid.{valid_read}
use Rattle.mt_registry.proofs.read_registry.Goals as goal

pub registry_of-requires : goal.registry_of-requires
registry_of-requires c = sound_of c.args.mappers.now c.args.bytes.now _ c.in_ok-reader.ensures.faultless (c.as_slice.ensures.value ∙ c.in_ok-reader.ensures.read)

pub returns-clause-valid : goal.returns-clause-valid
returns-clause-valid c = valid_read c.args.mappers.now c.args.bytes.now _ _ _ c.in_ok-reader.ensures.faultless (c.as_slice.ensures.value ∙ c.in_ok-reader.ensures.read) c.in_ok-registry.ensures c.base_count.ensures (omega (arith, c.if-base_count-eq0.false))

pub returns-in_err-reader-clause-only : goal.returns-in_err-reader-clause-only
returns-in_err-reader-clause-only c = λ registry read.
    let p = err_from_is_err_and c.from_residual.result c.from_residual.ensures.1 in
    rw (p.1, p.2) (only_memory c.args.mappers.now c.args.bytes.now registry _ read c.in_err-reader.ensures.refused)
