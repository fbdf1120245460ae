-- What the statements before this one declare is kept.
use Rattle.std.proofs.Common.{◌≡◌, map, take}
use Rattle.std.specs.List.{filter}
use Rattle.mt_file_spec.specs.RegistryFile.{gives, Attribute}
use Rattle.mt_registry.proofs.build.names_in.Given as goal

abbrev pub invariant-loop-statement : goal.invariant-loop-statement
invariant-loop-statement l = l.names ≡ map (λ attribute. attribute.value) (filter (gives Attribute l.line) (take l.statement-index l.all))
