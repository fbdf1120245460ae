use Rattle.std.proofs.Common.{◌≡◌, ◌<◌, ◌∙◌, List, ℕ, length, get_or, sym, ap, subst, arith}
use Rattle.std.specs.List.{All, Contains}
use Rattle.mt_triples.proofs.Telling.{if_ok_so}
use Rattle.mt_counts.proofs.Numbering.{distinct_in}
use Rattle.mt_word_sketch_spec.specs.Ranks.{FirstRanked}
use Rattle.mt_word_sketch_spec.specs.Order.{ranked_of}
use Rattle.mt_thesaurus.specs.declared.placed.Placed.{Placed}
use Rattle.mt_thesaurus.specs.Scores.{Scores}
use Rattle.mt_thesaurus.specs.Sums.{part_of}
use Rattle.mt_thesaurus.specs.Told.{AreOthers, AreFirstAlike, IsSmall, weighed_all}
use Rattle.mt_thesaurus.proofs.Telling.{Found, below_all, read_is, zero_told, none_first, found_distinct, found_first, found_small}
use Rattle.mt_thesaurus.proofs.contexts.Contexts.alike_at.Given.{Over}
use Rattle.mt_thesaurus.proofs.contexts.Contexts.alike_at.Goals as goal

low_at : (g : Over) (c : goal.After-new g) → c.args.lemma < length c.self.inside.words.keys
low_at g c = subst (λ (s : Scores). c.args.lemma < length s.words) (sym c.self.view_is) c.requires

pub returns-then-index-eq0-clause-are : goal.returns-then-index-eq0-clause-are
returns-then-index-eq0-clause-are g c =
    let i = c.self.inside in
    let none = sym (read_is i.sums.items c.args.lemma c.index.result.now (omega (arith, low_at g c, c.self.invariant.count)) c.index.ensures) ∙ c.if-index-eq0.true in
    λ f word there are. none_first f word c.args.max c.new.result (zero_told i.words.keys i.by_word i.by_context i.sums.items c.args.self.now c.self.invariant c.self.view_is c.args.lemma c.requires none f word there are) c.new.ensures

pub first_ranked-requires-clause-below : goal.first_ranked-requires-clause-below
first_ranked-requires-clause-below g c =
    below_all c.deref.result.now c.in_ok-numbers.numbers.items c.deref-2.result.now c.args.lemma (length c.deref.result.now) (length c.self.inside.words.keys) c.in_ok-numbers.ensures c.deref-2.ensures.value
    (omega (arith, ap length c.deref.ensures.value, c.in_ok-parts.ensures.count, c.len.ensures.len))

pub first_ranked-requires-clause-parts : goal.first_ranked-requires-clause-parts
first_ranked-requires-clause-parts g c = omega (arith, ap length c.deref-3.ensures.value, c.in_ok-parts.ensures.count, c.len.ensures.len)

pub first_ranked-requires-clause-sums : goal.first_ranked-requires-clause-sums
first_ranked-requires-clause-sums g c = omega (arith, ap length c.deref-4.ensures.value, c.self.invariant.count)

pub first_ranked-requires-clause-some : goal.first_ranked-requires-clause-some
first_ranked-requires-clause-some g c =
    let i = c.self.inside in
    let l = c.args.lemma in
    let low : l < length i.words.keys = subst (λ (s : Scores). l < length s.words) (sym c.self.view_is) c.requires in
    let read = read_is i.sums.items l c.index.result.now (omega (arith, low, c.self.invariant.count)) c.index.ensures in
    let some : 0 < get_or i.sums.items l 0 = omega (arith, read, c.if-index-eq0.false) in
    subst (λ (ss : List ℕ). 0 < get_or ss l 0) (sym c.deref-4.ensures.value) some

pub returns-clause-are : goal.returns-clause-are
returns-clause-are g c = λ f word there are.
    let i = c.self.inside in
    let l = c.args.lemma in
    let low : l < length i.words.keys = subst (λ (s : Scores). l < length s.words) (sym c.self.view_is) c.requires in
    let read = read_is i.sums.items l c.index.result.now (omega (arith, low, c.self.invariant.count)) c.index.ensures in
    let found : Found i.words.keys i.by_word i.by_context i.sums.items c.in_ok-parts.parts.items c.in_ok-numbers.numbers.items l = record {
      some = omega (arith, read, c.if-index-eq0.false);
      parts_are = λ word. c.in_ok-parts.ensures.parts word ∙ ap (λ (own : List Placed). part_of own i.by_context word) c.of-own.ensures.is;
      small = c.in_ok-parts.ensures.small;
      even = omega (arith, c.in_ok-parts.ensures.count, c.len.ensures.len);
      others = subst (λ (ps : List ℕ). AreOthers ps l (length ps) c.in_ok-numbers.numbers.items) c.deref.ensures.value c.in_ok-numbers.ensures;
    } in
    let all = weighed_all i.words.keys c.deref-3.result.now c.deref-4.result.now l c.deref-2.result.now in
    let same : all ≡ weighed_all i.words.keys c.in_ok-parts.parts.items i.sums.items l c.in_ok-numbers.numbers.items = λ j. weighed_all i.words.keys (c.deref-3.ensures.value j) (c.deref-4.ensures.value j) l (c.deref-2.ensures.value j) in
    let distinct = found_distinct i.words.keys i.by_word i.by_context i.sums.items c.in_ok-parts.parts.items c.in_ok-numbers.numbers.items l found (distinct_in i.words.keys c.len.ensures.unique) all same in
    if_ok_so {P = λ out. FirstRanked ranked_of (Contains all) c.args.max out} {Q = λ out. AreFirstAlike f word c.args.max out} c.first_ranked.result
    (λ out first. found_first i.words.keys i.by_word i.by_context i.sums.items c.in_ok-parts.parts.items c.in_ok-numbers.numbers.items l found c.self.invariant c.args.self.now c.self.view_is f word there are all same c.args.max out first)
    (c.first_ranked.ensures distinct)

pub returns-clause-small : goal.returns-clause-small
returns-clause-small g c =
    let i = c.self.inside in
    let l = c.args.lemma in
    let low : l < length i.words.keys = subst (λ (s : Scores). l < length s.words) (sym c.self.view_is) c.requires in
    let read = read_is i.sums.items l c.index.result.now (omega (arith, low, c.self.invariant.count)) c.index.ensures in
    let found : Found i.words.keys i.by_word i.by_context i.sums.items c.in_ok-parts.parts.items c.in_ok-numbers.numbers.items l = record {
      some = omega (arith, read, c.if-index-eq0.false);
      parts_are = λ word. c.in_ok-parts.ensures.parts word ∙ ap (λ (own : List Placed). part_of own i.by_context word) c.of-own.ensures.is;
      small = c.in_ok-parts.ensures.small;
      even = omega (arith, c.in_ok-parts.ensures.count, c.len.ensures.len);
      others = subst (λ (ps : List ℕ). AreOthers ps l (length ps) c.in_ok-numbers.numbers.items) c.deref.ensures.value c.in_ok-numbers.ensures;
    } in
    let all = weighed_all i.words.keys c.deref-3.result.now c.deref-4.result.now l c.deref-2.result.now in
    let same : all ≡ weighed_all i.words.keys c.in_ok-parts.parts.items i.sums.items l c.in_ok-numbers.numbers.items = λ j. weighed_all i.words.keys (c.deref-3.ensures.value j) (c.deref-4.ensures.value j) l (c.deref-2.ensures.value j) in
    let distinct = found_distinct i.words.keys i.by_word i.by_context i.sums.items c.in_ok-parts.parts.items c.in_ok-numbers.numbers.items l found (distinct_in i.words.keys c.len.ensures.unique) all same in
    if_ok_so {P = λ out. FirstRanked ranked_of (Contains all) c.args.max out} {Q = λ out. All IsSmall out} c.first_ranked.result
    (λ out first. found_small i.words.keys i.by_word i.by_context i.sums.items c.in_ok-parts.parts.items c.in_ok-numbers.numbers.items l found all same c.args.max out first)
    (c.first_ranked.ensures distinct)
