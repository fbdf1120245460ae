use Rattle.mt_file_spec.specs.RegistryFile.{form_of}
use Rattle.mt_registry.proofs.RegistryForms.{read_form, form_written}
use Rattle.mt_registry.proofs.laws.forms_are_written.Goals as goal

pub returns : goal.returns
unfolding form_of
returns c = record { read = read_form; written = form_written }
