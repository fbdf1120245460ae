use Rattle.std.proofs.Common.{◌∙◌, ap, map, rules}
use Rattle.mt_shell.proofs.Registering.{good, bad_line, baseless, unread, names_are}
use Rattle.mt_shell.proofs.state.State.read_registry.Goals as goal

pub returns-in_default-clause-means : goal.returns-in_default-clause-means
returns-in_default-clause-means g c = unread g.setting c.args.self.now.held c.args.bytes.now

pub keep_registry-requires-send-M : goal.keep_registry-requires-send-M
keep_registry-requires-send-M g c κs within =
    let same = c.in-Ok.ensures ∙ ap (map g.M.Mapper.called) c.deref.ensures.value in
    let there = c.mappers_are_at_hand.ensures (map g.M.Mapper.called c.args.mappers.now.items) c.args.bytes.now c.in-Ok-read_registry.registry (rw (c.as_slice.ensures, same) at c.in-Ok-read_registry.ensures.read) in
    (search rules, (search rules, (search rules, (search rules, (search rules, (there, (search rules, search rules)))))))

pub returns-in-Ok-read_registry-clause-means : goal.returns-in-Ok-read_registry-clause-means
returns-in-Ok-read_registry-clause-means g c =
    let same = c.in-Ok.ensures ∙ ap (map g.M.Mapper.called) c.deref.ensures.value ∙ names_are g.M.Mapper.called g.M.Mapper.image c.args.mappers.now.items g.setting c.args.self.now c.requires.1.1.1.1.1 c.requires.1.1.1.1.0 in
    good g.setting c.args.self.now.held c.keep_registry.new.self.held c.args.bytes.now c.in-Ok-read_registry.registry c.keep_registry.result (rw (c.as_slice.ensures, same) at c.in-Ok-read_registry.ensures.read) c.keep_registry.ensures.means

pub returns-in-Err-Bad-clause-means : goal.returns-in-Err-Bad-clause-means
returns-in-Err-Bad-clause-means g c =
    let same = c.in-Ok.ensures ∙ ap (map g.M.Mapper.called) c.deref.ensures.value ∙ names_are g.M.Mapper.called g.M.Mapper.image c.args.mappers.now.items g.setting c.args.self.now c.requires.1.1.1.1.1 c.requires.1.1.1.1.0 in
    bad_line g.setting c.args.self.now.held c.args.bytes.now c.in-Err-Bad.line.line _ c.refused.result (rw (c.in-Err-Bad.field-0-is, c.as_slice.ensures, same) at c.in-Err-Bad.ensures.refused) c.refused.ensures

pub returns-in-Err-NoAttribute-clause-means : goal.returns-in-Err-NoAttribute-clause-means
returns-in-Err-NoAttribute-clause-means g c =
    let same = c.in-Ok.ensures ∙ ap (map g.M.Mapper.called) c.deref.ensures.value ∙ names_are g.M.Mapper.called g.M.Mapper.image c.args.mappers.now.items g.setting c.args.self.now c.requires.1.1.1.1.1 c.requires.1.1.1.1.0 in
    baseless g.setting c.args.self.now.held c.args.bytes.now c.refused-in-Err-NoAttribute.result (rw (c.in-Err-NoAttribute.field-0-is, c.as_slice.ensures, same) at c.in-Err-NoAttribute.ensures.refused)
    c.refused-in-Err-NoAttribute.ensures

pub returns-clause-means : goal.returns-clause-means
returns-clause-means g c = unread g.setting c.args.self.now.held c.args.bytes.now
