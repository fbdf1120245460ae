use Rattle.std.proofs.Common.{length, option_map, sym, ◌∙◌, ap, subst}
use Rattle.mt_vertical.specs.Causes.{text_cause_of}
use Rattle.mt_vertical.specs.Readers.{State, IsRead, IsSound, state_of}
use Rattle.mt_vertical.proofs.reader.Reader.read_tag.Goals as goal

pub read_tag-requires-clause-count : goal.read_tag-requires-clause-count
read_tag-requires-clause-count c = ap (λ (state : State). length state.kinds) c.self.view_is ∙ c.requires.sound.count

pub returns : goal.returns
returns c = λ line u f.
    let P : State → Type 0 = λ old. IsRead c.args.registry.now old line (state_of c.self.inside.tokens.columns c.self.inside.tokens.tokens c.read_tag.new.self) (option_map text_cause_of c.in_ok-cause.cause) in
    subst P c.self.view_is (c.in_ok-cause.ensures _ _ line c.len-place.ensures (subst (λ (old : State). IsSound c.args.registry.now old) (sym c.self.view_is) c.requires.sound) u f)
