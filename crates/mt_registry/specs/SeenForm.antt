-- What contracts see of the form of a line.
use Rattle.mt_file_spec.specs.RegistryFile.{Form, Skipped, Closing, Entry, Formless}
use Rattle.mt_registry.specs.declared.form.Form.{Form as RustForm}
use Rattle.mt_registry.specs.declared.form.Form.TheVariants as rust

abbrev pub form_seen : RustForm → Form
form_seen rust.Skipped = Skipped
form_seen rust.Closing = Closing
form_seen (rust.Entry key value opens) = Entry key.now value.now opens
form_seen rust.Formless = Formless
