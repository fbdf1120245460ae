use Rattle.std.proofs.Common.{rules}
use Rattle.mt_file_spec.specs.RegistryFile.{form_of}
use Rattle.mt_registry.proofs.form.form_of.Goals as goal

pub returns : goal.returns
unfolding form_of
returns c = search rules
