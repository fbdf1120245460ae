use Rattle.std.proofs.Common.{List, sym, subst, rules}
use Rattle.std.specs.Ordering.{is_lt}
use Rattle.std.proofs.lemmas.List.Sorted.{ranks_by, answers_always}
use Rattle.mt_counts.specs.Tallies.{ListsOnce}
use Rattle.mt_counts.specs.Counted.{Counted}
use Rattle.mt_counts.specs.Listed.{IsHead}
use Rattle.mt_counts.specs.declared.listing.Head.{Head}
use Rattle.mt_sketch.specs.Told.{AreHeadings, frequencies_of}
use Rattle.mt_sketch.proofs.Heads.{head_cmp, head_total, headings_told}
use Rattle.mt_sketch.proofs.relations.headings.Goals as goal

pub returns : goal.returns
returns c =
    let counted = subst (λ (counted : Counted). ListsOnce (IsHead counted c.args.lemma.now) c.in_ok-heads.field-0) c.counts.ensures c.in_ok-heads.ensures in
    let listed = subst (λ (heads : List Head). ListsOnce (IsHead c.args.triples.now c.args.lemma.now) heads) (sym c.into_vec-heads.ensures) counted in
    let sorted = c.sort_unstable_by.ensures.sorted (λ a b. is_lt (head_cmp a b)) (ranks_by head_total (λ (h : Head). h)) (answers_always _ _ _ (λ f a r g h. search rules)) in
    subst (AreHeadings (frequencies_of c.args.triples.now) c.args.lemma.now) (sym c.from_vec.ensures)
    (headings_told c.args.triples.now c.args.lemma.now c.into_vec-heads.result.items c.sort_unstable_by.new.self.items listed c.sort_unstable_by.ensures.permutation sorted)
