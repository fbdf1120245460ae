use Rattle.std.proofs.Common.{◌∙◌, arith, sym}
use Rattle.mt_vertical_tables.proofs.Packing.{told}
use Rattle.mt_vertical_tables.proofs.known.number_at.Goals as goal

pub returns-then-key : goal.returns-then-key
returns-then-key c = λ seen value all packs.
    told seen c.args.known.now (record { low = 0; high = 0; number = 0 }) c.args.place c.args.key value all packs (omega (arith, c.if-place-known.false)) (sym c.key.ensures ∙ c.if-key.true)
