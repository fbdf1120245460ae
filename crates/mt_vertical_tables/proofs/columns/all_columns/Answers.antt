use Rattle.std.proofs.Common.{◌≡◌, ◌∙◌, ◌-◌, ℕ, List, ap, subst, arith, IfOk}
use Rattle.std.specs.Str.Lines.{lines}
use Rattle.std.specs.List.{AllZip, range_with_len}
use Rattle.rayon.specs.Numbers.{nat_range}
use Rattle.mt_segment.proofs.Beside.{where_ok}
use Rattle.mt_vertical_tables.specs.Columns.{AreColumns, IsColumnOf}
use Rattle.mt_vertical_tables.proofs.Beside.{columns_made}
use Rattle.mt_vertical_tables.proofs.columns.all_columns.Goals as goal

pub returns : goal.returns
returns g c =
    let ls = lines c.args.text.now in
    let ends = c.into_par_iter.ensures in
    let whole : c.args.count - 0 ≡ c.args.count = omega arith in
    let made = c.in_ok-made.ensures in
    let chain = rw (c.map.ensures.base, c.map.ensures.f, c.with_min_len.ensures.base) at made.1 in
    let numbers : chain.0 ≡ range_with_len 0 c.args.count = chain.1 ∙ (λ i. nat_range (ends.0 i) (ends.1 i)) ∙ ap (range_with_len 0) whole in
    where_ok c.in_ok-made.made _ (λ tables. AreColumns ls c.args.count tables.items) _ made.2
    (λ tables held. rw held.2 (columns_made _ ls c.args.count made.0 held.0 (subst (λ (ns : List ℕ). AllZip (λ column r. IfOk r (IsColumnOf ls column)) ns made.0) numbers chain.2) held.1))
