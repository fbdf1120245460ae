use Rattle.std.proofs.Common.{◌≡◌, ◌++◌, ◌∙◌, List, [], ◌∷◌, append-nil, sym, ap, subst}
use Rattle.std.specs.List.{AllZip, Contains}
use Rattle.std.specs.Result.{IfOk}
use Rattle.mt_word_sketch_spec.specs.Ranks.{FirstRanked}
use Rattle.mt_word_sketch_spec.specs.Order.{Weighed, ranked_of}
use Rattle.mt_ranks.specs.Bests.{AreDistinct, IsBest}
use Rattle.mt_thesaurus.specs.Told.{weighed_all}
use Rattle.mt_thesaurus.proofs.alike.first_ranked.Goals as goal

pub returns : goal.returns
returns c = λ distinct.
    let all = weighed_all c.args.words.now.keys c.args.parts.now c.args.sums.now c.args.lemma c.args.numbers.now in
    let one : all ++ [] ≡ all = append-nil all in
    let lists = c.in_ok-push.ensures.items ∙ ap (λ (ls : List (List Weighed)). ls ++ c.in_ok-best.best ∷ []) c.new-lists.ensures.items in
    let best = subst (λ (ls : List (List Weighed)). AllZip (IsBest c.args.max) (all ∷ []) ls) (sym lists) (c.in_ok-best.ensures, tt) in
    subst (λ (ws : List Weighed). IfOk c.first_of_all.result (λ shown. FirstRanked ranked_of (Contains ws) c.args.max shown)) one (c.first_of_all.ensures (all ∷ []) best (subst AreDistinct (sym one) distinct))
