use Rattle.std.proofs.Common.{ℕ, List, length, subst, sym, ◌∙◌}
use Rattle.std.specs.List.{All}
use Rattle.mt_instances.specs.Gains.{LiesIn}
use Rattle.mt_instances.specs.Gathered.{value_in}
use Rattle.mt_instances.specs.Counting.{AddsEach}
use Rattle.mt_instances.specs.Collected.{Collected, CountsEach}
use Rattle.mt_instances.proofs.Settling.{lie_settled, emptied, ended, counts_each}
use Rattle.mt_instances.proofs.collector.Collector.finish_text.Goals as goal

pub count_all-requires-clause-lie : goal.count_all-requires-clause-lie
count_all-requires-clause-lie c =
    subst (λ (numbers : List ℕ). All (LiesIn (length numbers)) c.settle.new.self.given) (sym c.as_slice.ensures.value)
    (lie_settled (length c.self.inside.numbers.items) c.self.inside.gathered.instances.given c.settle.new.self.given c.settle.ensures.same c.self.invariant.gathered_is.lie)

pub invariant_of-self : goal.invariant_of-self
invariant_of-self c = record {
  gathered_is = emptied c.self.inside.lexicon.now c.self.inside.numbers.items c.self.inside.gathered c.count_all.new.instances (c.count_all.ensures.names ∙ c.settle.ensures.names) c.count_all.ensures.given c.self.invariant.gathered_is;
  ready = c.in_err-count_all.ensures.ready;
}

pub invariant_of-self-2 : goal.invariant_of-self-2
invariant_of-self-2 c = record {
  gathered_is = ended c.self.inside.lexicon.now c.self.inside.numbers.items c.clear.new.self.items c.self.inside.gathered c.count_all.new.instances c.clear.ensures.items (c.count_all.ensures.names ∙ c.settle.ensures.names) c.count_all.ensures.given c.self.invariant.gathered_is;
  ready = c.in_ok-count_all.ensures.ready;
}

pub returns-clause-ok : goal.returns-clause-ok
returns-clause-ok c =
    let old = c.self.inside in
    let adds = subst (λ (numbers : List ℕ). AddsEach (value_in old.lexicon.now numbers) c.settle.new.self.given old.counter.noted.counted c.count_all.new.counter.noted.counted) c.as_slice.ensures.value c.in_ok-count_all.ensures.ok in
    subst (λ (s : Collected). CountsEach s.lexicon s.numbers s.given s.counted c.count_all.new.counter.noted.counted) c.self.view_is
    (counts_each old.lexicon.now old.numbers.items old.gathered.instances.given c.settle.new.self.given old.counter.noted.counted c.count_all.new.counter.noted.counted c.settle.ensures.once c.settle.ensures.same c.self.invariant.gathered_is.lie adds)
