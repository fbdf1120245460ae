use Rattle.std.proofs.Common.{◌≡◌, take}
use Rattle.std.specs.List.{flat_map}
use Rattle.mt_postings.proofs.postings.Postings.union_of.Given as goal

abbrev pub invariant-loop-list : goal.invariant-loop-list
invariant-loop-list l = l.union ≡ flat_map (λ list. list.now) (take l.list-index l.lists)
