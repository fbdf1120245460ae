use Rattle.std.proofs.Common.{◌≡◌, length, arith}
use Rattle.mt_cql.specs.Shape.{shape}
use Rattle.mt_prepare.proofs.Sights.{sights_made}
use Rattle.mt_prepare.proofs.sighted.Sighted.new.Goals as goal

pub returns-clause-sighted : goal.returns-clause-sighted
returns-clause-sighted g c =
    let count : length c.in_ok-tags.tags.items ≡ length c.add_kinds.new.kinds.items = omega (arith, c.in_ok-tags.ensures, c.len.ensures, c.add_kinds.new.kinds.ok.0) in
    sights_made c.args.segment.now (shape c.args.expr.now) c.args.ready.now (record { rows = c.in_ok-rows.rows; tags = c.in_ok-tags.tags; kinds = c.add_kinds.new.kinds }) c.requires.ready c.requires.names
    (rw c.as_slice.ensures at c.in_ok-rows.ensures.rows) (rw c.new-kinds.ensures.items at c.in_ok-add_kinds.ensures) count
