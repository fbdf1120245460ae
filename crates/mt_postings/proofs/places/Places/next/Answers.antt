use Rattle.std.proofs.Common.{◌-◌, arith, sym, ◌∙◌}
use Rattle.mt_postings.specs.Kept.{positions_in}
use Rattle.mt_postings.proofs.Placing.{stepped, not_refused}
use Rattle.mt_postings.proofs.places.Places.next.Goals as goal

pub overflow_add-position : goal.overflow_add-position
overflow_add-position c =
    let i = c.self.inside in
    let s = stepped i.entries.now i.count i.passed i.least i.reader c.get_delta.new.self (positions_in (i.count - i.passed) i.least i.reader.left) c.in-Ok.gap c.self.invariant c.if-self.false c.in-Ok.ensures.positive c.in-Ok.ensures.number c.in-Ok.ensures.place in
    let b = s.small in
    omega arith

pub overflow_add-self : goal.overflow_add-self
overflow_add-self c =
    let i = c.self.inside in
    let s = stepped i.entries.now i.count i.passed i.least i.reader c.get_delta.new.self (positions_in (i.count - i.passed) i.least i.reader.left) c.in-Ok.gap c.self.invariant c.if-self.false c.in-Ok.ensures.positive c.in-Ok.ensures.number c.in-Ok.ensures.place in
    let b = s.small in
    omega arith

pub invariant_of-self : goal.invariant_of-self
invariant_of-self c =
    let i = c.self.inside in
    (stepped i.entries.now i.count i.passed i.least i.reader c.get_delta.new.self (positions_in (i.count - i.passed) i.least i.reader.left) c.in-Ok.gap c.self.invariant c.if-self.false c.in-Ok.ensures.positive c.in-Ok.ensures.number c.in-Ok.ensures.place).placed

pub unreachable-requires : goal.unreachable-requires
unreachable-requires c =
    let i = c.self.inside in
    not_refused i.entries.now i.count i.passed i.least i.reader (positions_in (i.count - i.passed) i.least i.reader.left) c.in-Err.field-0 c.self.invariant c.if-self.false c.in-Err.ensures.err

pub returns : goal.returns
returns c =
    let i = c.self.inside in
    sym c.self.view_is ∙ (stepped i.entries.now i.count i.passed i.least i.reader c.get_delta.new.self (positions_in (i.count - i.passed) i.least i.reader.left) c.in-Ok.gap c.self.invariant c.if-self.false c.in-Ok.ensures.positive c.in-Ok.ensures.number c.in-Ok.ensures.place).gives
