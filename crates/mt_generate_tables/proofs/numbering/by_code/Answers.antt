use Rattle.std.proofs.Common.{◌≡◌, ℕ, length, get_or, subst, refl, arith}
use Rattle.mt_generate_tables.specs.Coded.{IsTableOf}
use Rattle.mt_generate_tables.proofs.Codes.{no_table, one_put}
use Rattle.mt_generate_tables.proofs.numbering.by_code.Goals as goal

pub loop-place-init : goal.loop-place-init
loop-place-init c = no_table c.args.codes.now c.args.numbers.now c.in_ok-table.table.items (c.in_ok-table.ensures.items_if_clones_equal (λ y e. e))

pub loop-place-preserved : goal.loop-place-preserved
loop-place-preserved c =
    let place = c.loop-place.place in
    one_put c.args.codes.now c.args.numbers.now c.loop-place.table.items place (get_or c.args.codes.now place 0) (get_or c.args.numbers.now place 0) c.loop-place.invariant c.requires.low c.loop-place-test.true refl refl

pub returns : goal.returns
returns c = let e : c.loop-place.place ≡ length c.args.codes.now = omega (arith, c.loop-place.auto.place-end, c.loop-place-test.false) in subst (λ (n : ℕ). IsTableOf c.args.codes.now c.args.numbers.now n c.loop-place.table.items) e c.loop-place.invariant
