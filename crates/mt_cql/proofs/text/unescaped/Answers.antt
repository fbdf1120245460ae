use Rattle.std.proofs.Common.{◌≡◌, ◌+◌, ◌<◌, Option, None, Some, false, length, drop}
use Rattle.std.specs.Prelude.{string_bytes, IfSome, IfNone}
use Rattle.std.specs.List.{prefix_len}
use Rattle.mt_query_spec.specs.Meaning as meaning
use Rattle.mt_cql.specs.Texts.{falls, is_plain}
use Rattle.mt_cql.proofs.Unescaping.{no_slash, one_slash}
use Rattle.mt_cql.proofs.text.unescaped.Goals as goal

if_none : {X P : Type 0} (o : Option X) → o ≡ None → IfNone o P → P
if_none None e h = h
if_none (Some x) e h = cc

if_some : {X : Type 0} (P : X → Type 0) (o : Option X) (x : X) → o ≡ Some x → IfSome o P → P x
if_some P None x e h = cc
if_some P (Some y) x e h = let k : y ≡ x = cc in rw (← k) h

pub returns-in-None : goal.returns-in-None
returns-in-None c =
    no_slash (falls c.args.literal) (string_bytes c.loop-text.text) (string_bytes c.add.new.text) (meaning.unescaped (falls c.args.literal) false c.args.content.now) c.loop-text.rest.now
    c.cut.result.0.now c.loop-text.invariant.1 c.cut.ensures.front (if_none c.cut.result.1 c.in-None.is c.cut.ensures.none) c.in_ok-add.ensures

pub loop-text-preserved : goal.loop-text-preserved
loop-text-preserved c =
    let s = if_some (λ more. (prefix_len is_plain c.loop-text.rest.now < length c.loop-text.rest.now) × (more.now ≡ drop (prefix_len is_plain c.loop-text.rest.now + 1) c.loop-text.rest.now))
    c.cut.result.1 c.in-Some.more c.in-Some.is c.cut.ensures.some in (
      c.in_ok-rest-in-Some.ensures.utf8,
      one_slash (falls c.args.literal) (string_bytes c.loop-text.text) (string_bytes c.add.new.text) (string_bytes c.add_taken.new.text) (meaning.unescaped (falls c.args.literal) false c.args.content.now)
          c.loop-text.rest.now c.cut.result.0.now c.in-Some.more.now c.in_ok-rest-in-Some.rest.now c.loop-text.invariant.1 c.cut.ensures.front s.0 s.1 c.in_ok-add.ensures c.in_ok-rest-in-Some.ensures.ok,
    )
