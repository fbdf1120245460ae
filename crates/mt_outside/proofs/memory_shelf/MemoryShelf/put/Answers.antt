use Rattle.std.proofs.Common.{◌∙◌, ap, refl, rules}
use Rattle.mt_outside.specs.Memory.{files_of}
use Rattle.mt_outside.proofs.Entries.{stored, files_with}
use Rattle.mt_outside.proofs.memory_shelf.MemoryShelf.put.Goals as goal

-- src/memory_shelf.rt:58:5
pub returns-in-Ok-clause-ok : goal.returns-in-Ok-clause-ok
returns-in-Ok-clause-ok c =
    let entries = stored c.self.inside.files.entries c.insert.new.self.entries c.in_ok-key.key c.extend.new.self c.args.name.now c.args.bytes.now c.in-Ok.ensures.entries (search rules) (search rules) in
    rw (← c.self.view_is, entries) refl

pub returns-in-Ok-clause-files : goal.returns-in-Ok-clause-files
returns-in-Ok-clause-files c = ap (λ shelf. files_of shelf.entries) (returns-in-Ok-clause-ok c) ∙ files_with c.args.self.now.entries c.args.name.now c.args.bytes.now
