-- What the statements before this one declare is kept.
use Rattle.std.proofs.Common.{◌≡◌, map, take}
use Rattle.std.specs.List.{filter}
use Rattle.mt_file_spec.specs.RegistryFile.{gives, Attribute, attr_of}
use Rattle.mt_registry.proofs.build.attrs_of.Given as goal

abbrev pub invariant-loop-statement : goal.invariant-loop-statement
invariant-loop-statement l = l.attrs ≡ map (attr_of l.all) (filter (gives Attribute 0) (take l.statement-index l.all))
