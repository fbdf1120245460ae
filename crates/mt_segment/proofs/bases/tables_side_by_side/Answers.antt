use Rattle.std.proofs.Common.{◌≡◌, ◌∙◌, ◌-◌, ◌<◌, ◌≤◌, ℕ, List, length, ap, subst, arith, IfOk}
use Rattle.std.specs.List.{AllZip, range_with_len}
use Rattle.mt_text_spec.specs.Texts.{corpus_tokens_limit, total_tokens}
use Rattle.rayon.specs.Numbers.{nat_range}
use Rattle.rayon.proofs.ToStd.{nat_range-All}
use Rattle.mt_segment.specs.Building.{HaveBases}
use Rattle.mt_segment.proofs.Beside.{IsMade, bases_made, where_ok}
use Rattle.mt_segment.proofs.bases.tables_side_by_side.Goals as goal

pub collect-requires-clause-ready : goal.collect-requires-clause-ready
collect-requires-clause-ready g c κs within =
    let ends = c.into_par_iter.ensures in
    let inside = nat_range-All (λ i. (i < length c.args.attrs.now) × (total_tokens c.args.texts.now ≤ corpus_tokens_limit)) 0 (length c.args.attrs.now) (λ i low high. (high, c.requires)) in
    rw (c.map.ensures.base, c.map.ensures.f, c.with_min_len.ensures.base, ends.0, ends.1) (λ k d lt. (inside k d lt, λ y p. tt))

pub returns : goal.returns
returns g c =
    let attrs = c.args.attrs.now in
    let texts = c.args.texts.now in
    let ends = c.into_par_iter.ensures in
    let whole : length attrs - 0 ≡ length attrs = omega arith in
    let made = c.in_ok-made.ensures in
    let chain = rw (c.map.ensures.base, c.map.ensures.f, c.with_min_len.ensures.base) at made.1 in
    let numbers : chain.0 ≡ range_with_len 0 (length attrs) = chain.1 ∙ (λ i. nat_range (ends.0 i) (ends.1 i)) ∙ ap (range_with_len 0) whole in
    where_ok c.in_ok-made.made _ (λ tables. HaveBases attrs texts tables.items (length attrs)) _ made.2
    (λ tables held. rw held.2 (bases_made _ attrs texts made.0 held.0 (subst (λ (ns : List ℕ). AllZip (λ number r. IfOk r (IsMade attrs texts number)) ns made.0) numbers chain.2) held.1))
