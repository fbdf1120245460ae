use Rattle.std.proofs.Common.{List, ℕ, sym, subst}
use Rattle.mt_store_spec.specs.Lexicons.{IsLexiconOf}
use Rattle.mt_segment.proofs.Renumbered.{numbers_within}
use Rattle.mt_vertical_tables.proofs.BothNumbered.{stand_for}
use Rattle.mt_vertical_tables.proofs.numbered.Numbered.new.Goals as goal

pub invariant_of-result : goal.invariant_of-result
invariant_of-result c =
    let lexicon = c.in_ok-lexicon.lexicon in
    let numbers = c.in_ok-lexicon.ensures.numbers in (
      subst (λ (vs : List (List ℕ)). IsLexiconOf vs lexicon) (sym (stand_for lexicon c.args.numbering c.in_ok-lexicon.numbers.items numbers)) c.in_ok-lexicon.ensures.lexicon,
      numbers_within c.in_ok-lexicon.numbers.items c.args.numbering lexicon numbers,
    )

pub returns : goal.returns
returns c = stand_for c.in_ok-lexicon.lexicon c.args.numbering c.in_ok-lexicon.numbers.items c.in_ok-lexicon.ensures.numbers
