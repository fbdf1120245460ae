use Rattle.mt_registry.proofs.RegistryFaults.{first_fault_of, same_unclosed}
use Rattle.mt_registry.proofs.read_file.Goals as goal

pub returns-in-Some-clause-refused : goal.returns-in-Some-clause-refused
returns-in-Some-clause-refused c =
    (first_fault_of c.args.mappers.now c.args.bytes.now _ _ _ _ c.in_ok-reader.ensures.statements c.in_ok-reader.ensures.refused
    (same_unclosed c.args.bytes.now _ _ c.in_ok-reader.ensures.opened c.in_ok-reader.ensures.number) c.in-Some.ensures)

pub returns-clause-faultless : goal.returns-clause-faultless
returns-clause-faultless c = first_fault_of c.args.mappers.now c.args.bytes.now _ _ _ _ c.in_ok-reader.ensures.statements c.in_ok-reader.ensures.refused
    (same_unclosed c.args.bytes.now _ _ c.in_ok-reader.ensures.opened c.in_ok-reader.ensures.number) c.in-None.ensures
