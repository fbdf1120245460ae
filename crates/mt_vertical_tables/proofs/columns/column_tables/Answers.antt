use Rattle.std.proofs.Common.{◌≡◌, ◌∙◌, ℕ, List, None, length, refl, ap, sym, subst, arith}
use Rattle.mt_store_spec.specs.Lexicons.{Renumbers}
use Rattle.mt_segment.specs.Parts.{AreInverted}
use Rattle.mt_segment.proofs.Valued.{numbers_low, base_made}
use Rattle.mt_vertical_tables.proofs.columns.column_tables.Goals as goal

pub postings_beside-requires-clause-short : goal.postings_beside-requires-clause-short
postings_beside-requires-clause-short g c κs within = omega (arith, ap length c.as_slice.ensures.value, c.into_parts-lexicon.ensures.numbers.count, c.in_ok-number_beside.ensures.few)

pub postings_beside-requires-clause-numbers : goal.postings_beside-requires-clause-numbers
postings_beside-requires-clause-numbers g c κs within =
    numbers_low c.into_parts-lexicon.result.1.items c.as_slice.result.now c.in_ok-number_beside.field-0 c.into_parts-lexicon.result.0 c.len.result c.into_parts-lexicon.ensures.numbers c.as_slice.ensures.value c.len.ensures.number

pub returns : goal.returns
returns g c =
    let lexicon = c.into_parts-lexicon.result.0 in
    let values = c.in_ok-number_beside.field-0 in
    let column : c.new-column.result ≡ c.into_parts-lexicon.result.1.items = c.new-column.ensures ∙ c.from_vec.ensures in
    let read : c.as_slice.result.now ≡ c.new-column.result = c.as_slice.ensures.value ∙ sym column in
    let numbers : Renumbers c.new-column.result values lexicon = rw column c.into_parts-lexicon.ensures.numbers in
    let lists : AreInverted c.new-column.result (length lexicon) c.in_ok-postings.postings =
    subst (λ (n : ℕ). AreInverted c.new-column.result n c.in_ok-postings.postings) c.len.ensures.number (subst (λ (ns : List ℕ). AreInverted ns c.len.result c.in_ok-postings.postings) read c.in_ok-postings.ensures) in
    record {
      values = values;
      are = c.in_ok-number_beside.ensures.values;
      made = rw c.of_base.ensures (base_made (record { base = None; lexicon = lexicon; numbers = c.new-column.result; postings = c.in_ok-postings.postings }) values refl c.into_parts-lexicon.ensures.lexicon numbers lists);
    }
