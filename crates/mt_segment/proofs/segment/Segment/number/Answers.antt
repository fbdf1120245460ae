use Rattle.std.proofs.Common.{◌≡◌, None, Some, length, get_or, ap, ap₂, arith, sym, ◌∙◌}
use Rattle.mt_segment_spec.specs.Tables.{AttrTables, Tables}
use Rattle.mt_segment.specs.Lists.{groups}
use Rattle.mt_segment.specs.Numbers.{base_in, numbers_in}
use Rattle.mt_segment.proofs.Lookups.{IsRead, in_column, its_base, in_base_column, in_table, number_read}
use Rattle.mt_segment.proofs.segment.Segment.number.Goals as goal
use Rattle.mt_segment.proofs.segment.Segment.number.Goals.{After-tables, In-Mapped, After-as_slice-in-Mapped}

-- the tables of the attribute are read
its : (c : After-tables) → IsRead (record { texts = c.self.inside.texts; attrs = c.self.inside.attrs; structs = groups (length c.self.inside.texts) c.self.inside.kinds c.self.inside.structs }) c.args.attr c.get-tables.result.now
its c = record { within = omega (arith, c.requires.attr, ap (λ (t : Tables). length t.attrs) c.self.view_is); is = c.get-tables.ensures }

-- it is a mapped one
mapped : (c : In-Mapped) → c.get-tables.result.now.base ≡ Some c.in-Mapped.base
mapped c = ap (λ (t : AttrTables). t.base) (sym c.tables.view_is) ∙ ap base_in c.in-Mapped.is

its_table : (c : In-Mapped) → c.in-Mapped.table ≡ c.get-tables.result.now.numbers
its_table c = sym (ap numbers_in c.in-Mapped.is) ∙ ap (λ (t : AttrTables). t.numbers) c.tables.view_is

-- and the numbers of its base are read
under : (c : After-as_slice-in-Mapped) → c.as_slice-in-Mapped.result.now ≡ c.get.result.now.numbers
under c = c.as_slice-in-Mapped.ensures ∙ ap (λ (t : AttrTables). t.numbers) c.behind-self.view_is

pub bounds-as_slice-pos : goal.bounds-as_slice-pos
bounds-as_slice-pos c =
    let none : c.get-tables.result.now.base ≡ None = ap (λ (t : AttrTables). t.base) (sym c.tables.view_is) ∙ ap base_in c.in-Base.is in
    omega (arith, in_column _ _ (c.tables_are_whole.ensures _ c.self.invariant.0) c.self.view_is _ c.args.pos _ (its (goal.at.bounds-as_slice-pos c).After-tables) none c.requires.pos, ap length (c.as_slice.ensures ∙ ap (λ (t : AttrTables). t.numbers) c.tables.view_is))

pub get-requires : goal.get-requires
get-requires c =
    let at = goal.at.get-requires c in
    (its_base _ (c.tables_are_whole.ensures _ c.self.invariant.0) _ _ _ (its at.After-tables) (mapped at.In-Mapped)).0

pub bounds-as_slice-pos-in-Mapped : goal.bounds-as_slice-pos-in-Mapped
bounds-as_slice-pos-in-Mapped c =
    let at = goal.at.bounds-as_slice-pos-in-Mapped c in
    omega (arith, in_base_column _ _ (c.tables_are_whole.ensures _ c.self.invariant.0) c.self.view_is _ _ c.args.pos _ _ (its at.After-tables) (mapped at.In-Mapped) c.get.ensures c.requires.pos, ap length (under at.After-as_slice-in-Mapped))

pub get-requires-in-Mapped : goal.get-requires-in-Mapped
get-requires-in-Mapped c =
    let at = goal.at.get-requires-in-Mapped c in
    rw (its_table at.In-Mapped)
    (in_table _ _ (c.tables_are_whole.ensures _ c.self.invariant.0) c.self.view_is _ _ c.args.pos _ _ _ (its at.After-tables) (mapped at.In-Mapped) c.get.ensures c.requires.pos (ap (λ ns. get_or ns c.args.pos 0) (under at.After-as_slice-in-Mapped)))

pub returns-in-Mapped-clause-number : goal.returns-in-Mapped-clause-number
returns-in-Mapped-clause-number c =
    let at = goal.at.returns-in-Mapped-clause-number c in
    c.get-in-Mapped.ensures ∙ ap₂ (λ ns us. get_or ns (get_or us c.args.pos 0) 0) (its_table at.In-Mapped) (under at.After-as_slice-in-Mapped)
    ∙ number_read _ _ (c.tables_are_whole.ensures _ c.self.invariant.0) c.self.view_is _ _ c.args.pos _ _ (its at.After-tables) (mapped at.In-Mapped) c.get.ensures
