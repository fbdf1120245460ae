use Rattle.std.proofs.Common.{◌++◌, refl, sym, length, get_or}
use Rattle.std.specs.Prelude.{string_bytes}
use Rattle.std.proofs.lemmas.Bool.{eqb-true}
use Rattle.mt_query_spec.specs.Printed.{escaped}
use Rattle.mt_cql.specs.Texts.{falls}
use Rattle.mt_cql.proofs.Escaping.{no_mark, one_mark, back_marked, mark_ascii, some_bytes}
use Rattle.mt_cql.proofs.printer.add_escaped.Goals as goal

pub returns-then-is_empty : goal.returns-then-is_empty
returns-then-is_empty c =
    no_mark c.args.literal (string_bytes c.loop-out.out) (string_bytes c.add.new.text) (string_bytes c.args.out.now ++ escaped (falls c.args.literal) c.args.text.now) c.loop-out.rest.now
    c.cut_kept.result.0.now c.cut_kept.result.1.now c.loop-out.invariant.1 c.cut_kept.ensures.front c.cut_kept.ensures.back
    (eqb-true (length c.cut_kept.result.1.now) 0 (sym c.if-is_empty.ensures)) c.in_ok-add.ensures

pub text_behind-rest-requires-clause-ascii : goal.text_behind-rest-requires-clause-ascii
text_behind-rest-requires-clause-ascii c =
    mark_ascii c.args.literal (get_or c.cut_kept.result.1.now 0 0)
    (back_marked c.args.literal c.loop-out.rest.now c.cut_kept.result.1.now c.cut_kept.ensures.back (some_bytes (length c.cut_kept.result.1.now) c.if-is_empty.ensures))

pub loop-out-preserved : goal.loop-out-preserved
loop-out-preserved c =
    let some = some_bytes (length c.cut_kept.result.1.now) c.if-is_empty.ensures in (
      c.text_behind-rest.utf8,
      one_mark c.args.literal (string_bytes c.loop-out.out) (string_bytes c.add.new.text) (string_bytes c.add-in-loop-out.new.text)
          (string_bytes c.args.out.now ++ escaped (falls c.args.literal) c.args.text.now) c.loop-out.rest.now c.cut_kept.result.0.now c.cut_kept.result.1.now c.mark.result.now
          c.text_behind-rest.result.now c.loop-out.invariant.1 c.cut_kept.ensures.front c.cut_kept.ensures.back c.in_ok-add.ensures some
          (back_marked c.args.literal c.loop-out.rest.now c.cut_kept.result.1.now c.cut_kept.ensures.back some)
          (rw (c.mark.ensures, c.byte_at.ensures, c.as_bytes.ensures.value) refl) c.in_ok-add-2.ensures c.text_behind-rest.ensures,
    )
