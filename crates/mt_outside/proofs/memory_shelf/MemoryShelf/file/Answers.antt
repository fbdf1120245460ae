use Rattle.std.proofs.Common.{◌∙◌, ap}
use Rattle.mt_outside.specs.Memory.{files_of}
use Rattle.mt_outside.proofs.Entries.{found}
use Rattle.mt_outside.proofs.memory_shelf.MemoryShelf.file.Goals as goal

-- src/memory_shelf.rt:69:5
pub returns : goal.returns
returns c = c.get.ensures.value ∙ found c.self.inside.files.entries c.args.name.now ∙ ap (λ shelf. files_of shelf.entries c.args.name.now) c.self.view_is
