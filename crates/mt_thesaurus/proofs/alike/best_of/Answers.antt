use Rattle.std.proofs.Common.{ℕ, List, [], ◌∷◌, ◌++◌, take, sym, ◌∙◌, subst}
use Rattle.mt_word_sketch_spec.specs.Order.{Weighed}
use Rattle.mt_ranks.specs.Bests.{IsBest}
use Rattle.mt_thesaurus.specs.Told.{weighed_all}
use Rattle.mt_thesaurus.proofs.Choosing.{word_more}
use Rattle.mt_thesaurus.proofs.alike.best_of.Goals as goal

pub loop-number-preserved : goal.loop-number-preserved
loop-number-preserved c =
    let i = c.loop-number.invariant in
    let words = c.args.words.now.keys in
    let parts = c.args.parts.now in
    let sums = c.args.sums.now in
    let l = c.args.lemma in
    let k = c.loop-number.number-index in
    let numbers = c.args.numbers.now in
    let seen = weighed_all words parts sums l (take k numbers) in
    let new = c.offer.new.self.words in
    let before = subst (λ (m : ℕ). IsBest m seen c.loop-number.chosen.words) (sym i.max) i.best in
    let after = subst (λ (m : ℕ). IsBest m (seen ++ c.borrowed.result ∷ []) new) i.max (c.in_ok-offer.ensures.best seen before) in
    let is = c.borrowed.ensures ∙ (λ j. record { word = c.as_str.ensures j; part = (c.fraction-similar.ensures j).part; whole = (c.fraction-similar.ensures j).whole }) in
    record {
      max = c.offer.ensures.max ∙ i.max;
      best = subst (λ (ws : List Weighed). IsBest c.args.max ws new) (word_more words parts sums l numbers k 0 c.borrowed.result c.in-Some.word.now c.loop-number-test.true (sym c.in-Some.ensures.key) is) after;
    }
