use Rattle.std.proofs.Common.{◌≡◌, ◌∙◌, None, List, ℕ, sym, subst, length, refl}
use Rattle.mt_store_spec.specs.Lexicons.{Renumbers}
use Rattle.mt_segment.specs.Parts.{AreInverted}
use Rattle.mt_segment.proofs.Valued.{base_made, numbers_low}
use Rattle.mt_generate_tables.specs.Coded.{values_of}
use Rattle.mt_generate_tables.proofs.segment.tables.Goals as goal

pub postings_by_runs-requires-clause-numbers : goal.postings_by_runs-requires-clause-numbers
postings_by_runs-requires-clause-numbers g c κs within = numbers_low c.in_ok-lexicon.numbers.items c.as_slice.result.now _ c.in_ok-lexicon.lexicon c.len.result c.in_ok-lexicon.ensures.numbers c.as_slice.ensures.value c.len.ensures.number

pub returns : goal.returns
returns g c =
    let values = values_of c.args.column c.args.draws.now in
    let lexicon = c.in_ok-lexicon.lexicon in
    let column : c.new.result ≡ c.in_ok-lexicon.numbers.items = c.new.ensures ∙ c.from_vec.ensures in
    let read : c.as_slice.result.now ≡ c.new.result = c.as_slice.ensures.value ∙ sym column in
    let numbers : Renumbers c.new.result values lexicon = rw column c.in_ok-lexicon.ensures.numbers in
    let lists : AreInverted c.new.result (length lexicon) c.in_ok-postings.postings =
    subst (λ (n : ℕ). AreInverted c.new.result n c.in_ok-postings.postings) c.len.ensures.number (subst (λ (ns : List ℕ). AreInverted ns c.len.result c.in_ok-postings.postings) read c.in_ok-postings.ensures) in
    base_made (record { base = None; lexicon = lexicon; numbers = c.new.result; postings = c.in_ok-postings.postings }) values refl c.in_ok-lexicon.ensures.lexicon numbers lists
