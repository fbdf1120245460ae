use Rattle.std.proofs.Common.{◌≡◌, ◌++◌, ◌∙◌, map, length, ap, ap₂}
use Rattle.std.proofs.lemmas.List.{length-map, with_items_is}
use Rattle.mt_lexicon.specs.Joins.{renumbered}
use Rattle.mt_lexicon.proofs.merger.join_merged.Goals as goal

pub returns : goal.returns
returns c =
    let first : c.renumber_all.new.all ≡ map (renumbered c.in_ok-joined.joined.first) c.args.first.renumberings.items =
    c.renumber_all.ensures ∙ ap (map (renumbered c.in_ok-joined.joined.first)) c.as_mut_slice.ensures.value in
    let second : c.renumber_all-2.new.all ≡ map (renumbered c.in_ok-joined.joined.second) c.args.second.renumberings.items =
    c.renumber_all-2.ensures ∙ ap (map (renumbered c.in_ok-joined.joined.second)) c.as_mut_slice-2.ensures.value in
    let first_len = ap length c.renumber_all.ensures ∙ length-map c.as_mut_slice.result.now (renumbered c.in_ok-joined.joined.first) ∙ c.as_mut_slice.ensures.len in
    let second_len = ap length c.renumber_all-2.ensures ∙ length-map c.as_mut_slice-2.result.now (renumbered c.in_ok-joined.joined.second) ∙ c.as_mut_slice-2.ensures.len in
    record {
      of_first = c.in_ok-joined.joined.first;
      of_second = c.in_ok-joined.joined.second;
      joined = c.in_ok-joined.ensures;
      go_on = c.in_ok-append.ensures.items
          ∙ ap₂ ◌++◌ (with_items_is c.args.first.renumberings c.renumber_all.new.all first_len ∙ first) (with_items_is c.args.second.renumberings c.renumber_all-2.new.all second_len ∙ second);
    }
