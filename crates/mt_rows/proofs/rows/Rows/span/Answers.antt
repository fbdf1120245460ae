use Rattle.std.proofs.Common.{◌<◌, ap, length, refl, arith}
use Rattle.std.proofs.lemmas.Option.{slice_get_read}
use Rattle.mt_rows.proofs.Joined.{joined_length, span_at}
use Rattle.mt_rows.proofs.rows.Rows.span.Goals as goal

pub index-requires : goal.index-requires
index-requires c = omega (arith, c.requires, c.self.inside.spans.ok.0, joined_length c.self.inside.spans.items c.self.inside.labels, ap length c.self.view_is)

pub returns : goal.returns
returns c =
    let spans = c.self.inside.spans.items in
    let labels = c.self.inside.labels in
    let within : c.args.i < length spans = omega (arith, c.requires, joined_length spans labels, ap length c.self.view_is) in
    rw (← c.self.view_is) (span_at spans labels c.args.i c.index.result.now (slice_get_read spans (length spans) c.args.i c.index.result.now refl within c.index.ensures))
