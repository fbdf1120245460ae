use Rattle.std.proofs.Common.{List, sym, subst}
use Rattle.mt_text_spec.specs.Texts.{Row}
use Rattle.mt_search.specs.Finds.{AreInOrder}
use Rattle.mt_search.proofs.Finding.{found_none, none_in_order}
use Rattle.mt_search.proofs.found.Found.new.Goals as goal

pub returns-clause-order : goal.returns-clause-order
returns-clause-order c = subst (λ (rows : List Row). AreInOrder rows 0) (sym c.new.ensures) none_in_order

pub returns-clause-finds : goal.returns-clause-finds
returns-clause-finds c = λ images registry. found_none images registry c.args.query.now c.new.result c.in_ok-whole_rooms.field-0 c.new.ensures c.in_ok-whole_rooms.ensures
