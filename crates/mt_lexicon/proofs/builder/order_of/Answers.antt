use Rattle.std.proofs.Common.{◌≡◌, ◌∙◌, List, ℕ, map, ap, arith}
use Rattle.std.proofs.lemmas.List.{take_all}
use Rattle.mt_lexicon.specs.declared.builder.Entry.{Entry}
use Rattle.mt_lexicon.proofs.Sorted.{numbers_sorted}
use Rattle.mt_lexicon.proofs.builder.order_of.Goals as goal

pub returns : goal.returns
returns c =
    let items = c.deref-entry-items.result.now in
    let numbers : List Entry → List ℕ = map (λ entry. entry.number) in
    let all : c.loop-entry.order.items ≡ numbers c.in_ok-entries.entries.items =
    c.loop-entry.invariant ∙ ap numbers (take_all c.loop-entry.entry-index items (omega arith) ∙ c.deref-entry-items.ensures.value) in
    numbers_sorted (λ (entry : Entry). (entry.value.now, entry.number)) c.args.values.now c.in_ok-entries.entries.items c.loop-entry.order.items all c.in_ok-entries.ensures
