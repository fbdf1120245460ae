use Rattle.std.proofs.Common.{◌≡◌, ℕ, List, None, length, take, refl, ap, subst, arith}
use Rattle.mt_store_spec.specs.Lexicons.{IsLexiconOf, Renumbers}
use Rattle.mt_segment_spec.specs.Tables.{column_values}
use Rattle.mt_segment.specs.Parts.{AreInverted}
use Rattle.mt_segment.proofs.Valued.{column_fits, column_all, numbers_few, numbers_low, base_made}
use Rattle.mt_segment.proofs.columns.numbered_tables.Goals as goal

pub add_text-requires : goal.add_text-requires
add_text-requires c =
    let e : length c.loop-text.numbering ≡ length (column_values c.args.column (take c.loop-text.text-index c.args.texts.now)) = ap length c.loop-text.invariant in
    omega (arith, e, column_fits c.args.column c.args.texts.now c.loop-text.text-index c.text-item.result c.loop-text-test.true c.text-item.is, c.requires)

pub postings_of-requires-clause-short : goal.postings_of-requires-clause-short
postings_of-requires-clause-short c =
    let all : c.loop-text.numbering ≡ column_values c.args.column c.args.texts.now = column_all c.args.column c.args.texts.now c.loop-text.text-index c.loop-text.numbering c.loop-text.invariant c.loop-text-test.false in
    omega (arith, numbers_few c.in_ok-lexicon.numbers c.as_slice.result.now c.loop-text.numbering c.in_ok-lexicon.lexicon c.args.column c.args.texts.now c.in_ok-lexicon.ensures.numbers all c.as_slice.ensures, c.requires)

pub postings_of-requires-clause-numbers : goal.postings_of-requires-clause-numbers
postings_of-requires-clause-numbers c =
    numbers_low c.in_ok-lexicon.numbers c.as_slice.result.now c.loop-text.numbering c.in_ok-lexicon.lexicon c.len.result c.in_ok-lexicon.ensures.numbers c.as_slice.ensures c.len.ensures.number

pub returns : goal.returns
returns c =
    let all : c.loop-text.numbering ≡ column_values c.args.column c.args.texts.now = column_all c.args.column c.args.texts.now c.loop-text.text-index c.loop-text.numbering c.loop-text.invariant c.loop-text-test.false in
    let lexicon : IsLexiconOf (column_values c.args.column c.args.texts.now) c.in_ok-lexicon.lexicon = subst (λ (vs : List (List ℕ)). IsLexiconOf vs c.in_ok-lexicon.lexicon) all c.in_ok-lexicon.ensures.lexicon in
    let numbers : Renumbers c.in_ok-lexicon.numbers (column_values c.args.column c.args.texts.now) c.in_ok-lexicon.lexicon =
    subst (λ (vs : List (List ℕ)). Renumbers c.in_ok-lexicon.numbers vs c.in_ok-lexicon.lexicon) all c.in_ok-lexicon.ensures.numbers in
    let lists : AreInverted c.in_ok-lexicon.numbers (length c.in_ok-lexicon.lexicon) c.in_ok-postings.postings =
    subst (λ (n : ℕ). AreInverted c.in_ok-lexicon.numbers n c.in_ok-postings.postings) c.len.ensures.number
    (subst (λ (ns : List ℕ). AreInverted ns c.len.result c.in_ok-postings.postings) c.as_slice.ensures c.in_ok-postings.ensures) in
    rw c.new-2.ensures (base_made (record { base = None; lexicon = c.in_ok-lexicon.lexicon; numbers = c.in_ok-lexicon.numbers; postings = c.in_ok-postings.postings }) (column_values c.args.column c.args.texts.now) refl lexicon numbers lists)
