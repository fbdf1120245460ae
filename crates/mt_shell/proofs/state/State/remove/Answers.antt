use Rattle.std.proofs.Common.{rules, refl, ◌∙◌}
use Rattle.mt_shell.proofs.Meanings.{not_true}
use Rattle.mt_shell.proofs.Removing.{removed, none_removed, removed_not, serves_less}
use Rattle.mt_shell.proofs.state.State.remove.Goals as goal

pub returns-then-not-holds-clause-means : goal.returns-then-not-holds-clause-means
returns-then-not-holds-clause-means g c = none_removed g.setting c.args.self.now.held c.args.name.now c.refused.result (λ h. not_true (c.if-not-holds.ensures.1 h)) (rw c.as_str.ensures at c.refused.ensures)

pub returns-in_default-clause-means : goal.returns-in_default-clause-means
returns-in_default-clause-means g c = removed_not g.setting c.args.self.now.held c.args.self.now.held c.args.name.now refl

pub returns-in_default-remove_counted-clause-means : goal.returns-in_default-remove_counted-clause-means
returns-in_default-remove_counted-clause-means g c = removed_not g.setting c.args.self.now.held c.remove_counted.new.self.held c.args.name.now c.in_default-remove_counted.ensures.err

pub returns-clause-means : goal.returns-clause-means
returns-clause-means g c =
    removed g.setting c.args.self.now.held c.remove_counted.new.self.held c.args.name.now c.in-Ok-remove_counted.tokens c.from_vec.result c.in-Ok-remove_counted.ensures.ok c.in-Ok-remove_counted.ensures.tokens
    (c.from_vec.ensures ∙ c.write_tokens.ensures)

pub returns-clause-serves : goal.returns-clause-serves
returns-clause-serves g c = λ mappers s. serves_less g.setting mappers c.args.self.now c.remove_counted.new.self c.args.name.now c.in-Ok-remove_counted.ensures.ok c.remove_counted.ensures.taken s

pub remove_counted-requires-sync-R : goal.remove_counted-requires-sync-R
remove_counted-requires-sync-R g c = λ κs h. (h.0, (h.1.0, (h.1.1, (c.requires.1.1.1.0, search rules))))
