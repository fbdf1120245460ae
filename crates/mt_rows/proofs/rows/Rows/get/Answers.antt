use Rattle.std.proofs.Common.{◌<◌, ap, length, refl, sym, arith}
use Rattle.std.proofs.lemmas.Option.{slice_get_read}
use Rattle.mt_rows.proofs.Joined.{joined_length, labelled_at, plain_at}
use Rattle.mt_rows.proofs.rows.Rows.get.Goals as goal

pub index-span-requires : goal.index-span-requires
index-span-requires c = omega (arith, c.requires, c.self.inside.spans.ok.0, joined_length c.self.inside.spans.items c.self.inside.labels, ap length c.self.view_is)

pub returns-in-Some : goal.returns-in-Some
returns-in-Some c =
    let spans = c.self.inside.spans.items in
    let labels = c.self.inside.labels in
    let within : c.args.i < length spans = omega (arith, c.requires, joined_length spans labels, ap length c.self.view_is) in
    rw (← c.self.view_is, c.new.ensures)
    (labelled_at spans labels c.args.i c.index-span.result.now c.in-Some.labels (slice_get_read spans (length spans) c.args.i c.index-span.result.now refl within c.index-span.ensures) (sym c.in-Some.ensures))

pub returns-in-None : goal.returns-in-None
returns-in-None c =
    let spans = c.self.inside.spans.items in
    let labels = c.self.inside.labels in
    let within : c.args.i < length spans = omega (arith, c.requires, joined_length spans labels, ap length c.self.view_is) in
    rw (← c.self.view_is, c.unlabelled.ensures)
    (plain_at spans labels c.args.i c.index-span.result.now (slice_get_read spans (length spans) c.args.i c.index-span.result.now refl within c.index-span.ensures) (sym c.in-None.ensures))
