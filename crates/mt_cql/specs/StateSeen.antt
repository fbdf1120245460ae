-- What the state of a query that is being read stands for.
use Rattle.std.specs.Prelude.{ℕ, List, Option, None, Some, map, Result, Bool, true, false, not, nat_eq, ◌&&◌, is_none, length}
use Rattle.mt_query_spec.specs.Trees as tree
use Rattle.mt_cql.specs.declared.parts.Part.{Part}
use Rattle.mt_cql.specs.declared.parts.FiltersPart.{FiltersPart}
use Rattle.mt_cql.specs.declared.query.FilterKind.{FilterKind}
use Rattle.mt_cql.specs.declared.query.FilterKind.TheVariants as kind
use Rattle.mt_text_spec.specs.Queries.{Query}
use Rattle.mt_query_spec.specs.Verdicts.{Refusal}
use Rattle.mt_query_spec.specs.Verdicts as v
use Rattle.mt_cql.specs.declared.query.Cause.{Cause}
use Rattle.mt_cql.specs.declared.reader.Reader.{Reader}
use Rattle.mt_cql.specs.declared.state.Group.{Group}
use Rattle.mt_cql.specs.declared.state.Op.{Op}
use Rattle.mt_cql.specs.declared.state.Head.{Head}
use Rattle.mt_cql.specs.declared.state.Counting.{Counting}
use Rattle.mt_cql.specs.declared.state.Counting.TheVariants as counting
use Rattle.mt_cql.specs.declared.state.Side.{Side}
use Rattle.mt_cql.specs.declared.state.SideState.{SideState}
use Rattle.mt_cql.specs.declared.state.SideState.TheVariants as side_state
use Rattle.mt_cql.specs.declared.state.Condition.{Condition}
use Rattle.mt_cql.specs.declared.state.Condition.TheVariants as condition
use Rattle.mt_cql.specs.declared.conds.Written.{Written}
use Rattle.mt_cql.specs.declared.state.State.{State}
use Rattle.mt_cql.specs.declared.state.Phase.{Phase}
use Rattle.mt_cql.specs.declared.state.Phase.TheVariants as phase
use Rattle.mt_query_laws.specs.Parts as p
use Rattle.mt_query_laws.specs.Exprs as e
use Rattle.mt_query_laws.specs.Reading.{PartState}
use Rattle.mt_cql.specs.Read.{part_seen, filters_seen, conds_seen, label_seen, cause_seen}
use Rattle.mt_cql.specs.TestSeen.{tests_seen}

abbrev pub maybe_part_seen : Option Part → Option p.Part
maybe_part_seen None = None
maybe_part_seen (Some part) = Some (part_seen part)

abbrev pub maybe_filters_seen : Option FiltersPart → Option p.FiltersPart
maybe_filters_seen None = None
maybe_filters_seen (Some filters) = Some (filters_seen filters)

abbrev pub group_seen : Group → e.Group p.Parts
group_seen group = record { sequence = maybe_part_seen group.sequence; branches = maybe_part_seen group.branches }

abbrev pub op_at : ℕ → FilterKind → tree.Op
op_at at kind.Within = tree.Within at
op_at at kind.NotWithin = tree.NotWithin at
op_at at kind.Containing = tree.Containing at
op_at at kind.NotContaining = tree.NotContaining at

abbrev pub whole_op_seen : Op → tree.Op
whole_op_seen op = op_at op.at op.kind

abbrev pub maybe_op_seen : Option Op → Option tree.Op
maybe_op_seen None = None
maybe_op_seen (Some op) = Some (whole_op_seen op)

abbrev pub head_seen : Head → e.Head p.Parts p.FilterParts
head_seen head = record { choice = part_seen head.choice; filters = maybe_filters_seen head.filters; op = whole_op_seen head.op }

-- what stands round what was read last
abbrev pub around_of : State → e.Around p.Parts p.FilterParts
around_of state = record { groups = map group_seen state.groups; heads = map head_seen state.heads }

-- where an item stands
abbrev pub place_of : State → e.Place p.Parts p.FilterParts
place_of state = record { before = group_seen state.before; around = around_of state }

-- the filters behind a choice, where there are any
abbrev pub filters_where : Bool → FiltersPart → Option p.FiltersPart
filters_where true filters = Some (filters_seen filters)
filters_where false filters = None

-- the choice that was read, with the filters behind it
abbrev pub asked_of : State → e.Asked p.Parts p.FilterParts
asked_of state = record { choice = part_seen state.part; filters = filters_where state.has_filters state.filters }

abbrev pub counting_seen : Counting → e.Counting
counting_seen counting.Opened = e.Opened
counting_seen (counting.Least n_at n) = e.Least n_at n
counting_seen (counting.LeastComma n_at n) = e.LeastComma n_at n
counting_seen (counting.Most n_at n m_at m) = e.Most n_at n m_at m

abbrev pub side_seen : Side → e.Side
side_seen side = record { at = side.at; number = side.number; name_at = side.name_at; name = side.name.now }

abbrev pub side_state_seen : SideState → e.SideState
side_state_seen side_state.Started = e.Started
side_state_seen (side_state.Numbered at number) = e.Numbered at number
side_state_seen (side_state.Dotted at number) = e.Dotted at number

abbrev pub condition_seen : Condition → e.Condition
condition_seen (condition.Left side) = e.Left (side_state_seen side)
condition_seen (condition.LeftRead left) = e.LeftRead (side_seen left)
condition_seen (condition.Right left equal right) = e.Right (side_seen left) equal (side_state_seen right)

abbrev pub maybe_condition_seen : Option Condition → Option e.Condition
maybe_condition_seen None = None
maybe_condition_seen (Some cond) = Some (condition_seen cond)

-- a condition that was read
abbrev pub cond_tree_seen : Written → tree.CondTree
cond_tree_seen written = e.cond_tree (side_seen written.left) written.equal (side_seen written.right)

-- what an op filters, and the heads outside, where it may stand
abbrev pub filtered_now : Bool → State → Option (e.Asked p.Parts p.FilterParts × List (e.Head p.Parts p.FilterParts))
filtered_now true state = Some (asked_of state, map head_seen state.heads)
filtered_now false state = None

-- the head of the query with its filters, where it may end
abbrev pub asked_now : Bool → State → Option (e.Asked p.Parts p.FilterParts)
asked_now true state = Some (asked_of state)
asked_now false state = None

-- whether a `(` behind an op, with this before it and these outside, opens an operand with filters
abbrev pub opens : Group → List Group → List Head → Bool
opens group groups heads = nat_eq (length groups) 0 && not (nat_eq (length heads) 0) && is_none group.sequence && is_none group.branches

abbrev pub at_phase : Phase → State → PartState
at_phase phase.Wanted state = e.Wanted (place_of state)
at_phase (phase.LabelRead at number) state = e.LabelRead at number (place_of state)
at_phase (phase.LabelDone at number) state = e.LabelDone at number (place_of state)
at_phase (phase.TokenOpened label) state = e.TokenOpened (label_seen label) (place_of state)
at_phase (phase.InToken label) state = e.InToken (label_seen label) (tests_seen state.tests) (place_of state)
at_phase phase.TagOpened state = e.TagOpened (place_of state)
at_phase (phase.TagNamed tag) state = e.TagNamed tag.at tag.name.now (place_of state)
at_phase (phase.InTag tag) state = e.InTag tag.at tag.name.now (tests_seen state.tests) (place_of state)
at_phase phase.ClosingOpened state = e.ClosingOpened (place_of state)
at_phase (phase.ClosingNamed tag) state = e.ClosingNamed tag.at tag.name.now (place_of state)
at_phase phase.AtomRead state = e.AtomRead (part_seen state.part) (place_of state)
at_phase (phase.InRepeat at counting) state = e.InRepeat (part_seen state.part) at (counting_seen counting) (place_of state)
at_phase phase.ItemRead state = e.ItemRead (part_seen state.part) (maybe_part_seen state.before.branches) (around_of state)
at_phase phase.FiltersRead state = e.FiltersRead (part_seen state.part) (filters_seen state.filters) (map head_seen state.heads)
at_phase phase.BangRead state = e.BangRead (asked_of state) (map head_seen state.heads)
at_phase (phase.InCond cond) state = e.InCond (asked_of state) (conds_seen state.conds) (condition_seen cond)
at_phase phase.CondRead state = e.CondRead (asked_of state) (conds_seen state.conds)

abbrev pub state_seen : State → PartState
state_seen state = at_phase state.phase state

-- where the reading stands then, where a query goes on
abbrev pub next : Bool → State → Option PartState
next true state = Some (state_seen state)
next false state = None

-- how a query is built under a registry and an attribute of bare strings
abbrev pub ways : Reader → e.Ways (λ of. p.TestParts) p.Parts p.FilterParts p.CondsPart (Result Query Refusal)
ways reader = p.part_ways reader.registry.now reader.default

-- a place at fault with its cause
abbrev pub fault_seen : Option (ℕ × Cause) → Option (ℕ × v.Cause)
fault_seen None = None
fault_seen (Some fault) = Some (fault.0, cause_seen fault.1)
