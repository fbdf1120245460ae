use Rattle.std.proofs.Common.{refl}
use Rattle.mt_vertical.proofs.Outlines.{counted, counted_long, counted_many}
use Rattle.mt_vertical.proofs.outline.OutlineReader.count_token.Goals as goal

pub returns-then-self-eq-TEXT_TOKENS_LIMIT : goal.returns-then-self-eq-TEXT_TOKENS_LIMIT
returns-then-self-eq-TEXT_TOKENS_LIMIT c = counted_many c.args.registry.now c.args.self.now.tokens c.args.self.now.structs c.args.line.now c.requires.token c.if-self-eq-TEXT_TOKENS_LIMIT.true

pub returns-then-has_long_value : goal.returns-then-has_long_value
returns-then-has_long_value c =
    counted_long c.args.registry.now c.args.self.now.tokens c.args.self.now.structs c.args.line.now c.requires.valid c.requires.token (c.has_long_value.ensures.long c.if-has_long_value.true) c.if-self-eq-TEXT_TOKENS_LIMIT.false

pub returns : goal.returns
returns c =
    counted c.args.registry.now c.args.self.now.tokens c.args.self.now.structs c.args.line.now _ c.requires.valid c.requires.token (c.has_long_value.ensures.short c.if-has_long_value.false) c.if-self-eq-TEXT_TOKENS_LIMIT.false refl
