use Rattle.std.proofs.Common.{ℕ, List, length, map, subst, sym}
use Rattle.std.specs.List.{All}
use Rattle.mt_count_spec.specs.Instances.{Instance}
use Rattle.mt_instances.specs.Counting.{AddsEach}
use Rattle.mt_instances.specs.Entries.{instance_of}
use Rattle.mt_instances.specs.Gathered.{value_in}
use Rattle.mt_instances.specs.Numbered.{IsEntryIn}
use Rattle.mt_instances.proofs.Numbered.{entries_in}
use Rattle.mt_instances.proofs.counter.count_all.Goals as goal

pub count-requires-clause-entries : goal.count-requires-clause-entries
count-requires-clause-entries c =
    let places = length c.args.words.now.numbers.now in
    let old = c.args.instances.now in
    let entries = c.take-entries.result.items in
    let all = entries_in old.names places entries old.given c.take-entries.ensures.named c.take-entries.ensures.taken c.requires.lie in
    subst (λ (names : List (List ℕ)). All (IsEntryIn names places) entries) (sym c.take-entries.ensures.names) all

pub returns-clause-ok : goal.returns-clause-ok
returns-clause-ok c =
    let values = value_in c.args.words.now.lexicon.now c.args.words.now.numbers.now in
    let old = c.args.instances.now in
    let a = c.args.counter.now.noted.counted in
    let b = c.count.new.counter.noted.counted in
    let named = subst (λ (names : List (List ℕ)). AddsEach values (map (instance_of names) c.take-entries.result.items) a b) c.take-entries.ensures.names c.in_ok-room.ensures.ok in
    subst (λ (given : List Instance). AddsEach values given a b) c.take-entries.ensures.taken named
