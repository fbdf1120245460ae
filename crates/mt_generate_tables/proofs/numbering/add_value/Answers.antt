use Rattle.std.proofs.Common.{◌≡◌, ℕ, List, [], get_or, length, sym, ◌∙◌, ap, arith}
use Rattle.std.proofs.lemmas.Option.{get_or_from_slice_get}
use Rattle.mt_text_spec.specs.Texts.{Token, value_of}
use Rattle.mt_generate_tables.specs.Coded.{token_coded}
use Rattle.mt_generate_tables.proofs.numbering.add_value.Goals as goal

pub get-requires : goal.get-requires
get-requires c = let three : length c.make_row.new.row ≡ 3 = ap length c.in_ok-make_row.ensures in omega (arith, three, c.requires.column)

pub returns-clause-seen : goal.returns-clause-seen
returns-clause-seen c =
    let is : c.get.result.now ≡ value_of (token_coded c.args.code) c.args.column =
    sym (get_or_from_slice_get c.make_row.new.row c.args.column c.get.result.now [] c.get.ensures) ∙ ap (λ (r : List (List ℕ)). get_or r c.args.column []) (c.in_ok-make_row.ensures ∙ ap (λ (t : Token). t.values) c.drawn_of.ensures) in
    rw is at c.add.ensures.values

pub returns-clause-number : goal.returns-clause-number
returns-clause-number c =
    let is : c.get.result.now ≡ value_of (token_coded c.args.code) c.args.column =
    sym (get_or_from_slice_get c.make_row.new.row c.args.column c.get.result.now [] c.get.ensures) ∙ ap (λ (r : List (List ℕ)). get_or r c.args.column []) (c.in_ok-make_row.ensures ∙ ap (λ (t : Token). t.values) c.drawn_of.ensures) in
    rw is at c.add.ensures.number
