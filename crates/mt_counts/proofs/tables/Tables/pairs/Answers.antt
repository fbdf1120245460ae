use Rattle.std.proofs.Common.{ℕ, List, subst, map}
use Rattle.std.specs.Map.{keys_of}
use Rattle.mt_counts.specs.Tables.{counted, text_at, row_at}
use Rattle.mt_counts.specs.Tallies.{ListsOnce}
use Rattle.mt_counts.specs.Listed.{IsPair, pair_at}
use Rattle.mt_counts.proofs.Lists.{places_within}
use Rattle.mt_counts.proofs.Seconds.{pairs_exact}
use Rattle.mt_counts.proofs.Sums.{row_is}
use Rattle.mt_counts.proofs.tables.Tables.pairs.Goals as goal

pub add_pairs-requires-clause-places : goal.add_pairs-requires-clause-places
add_pairs-requires-clause-places c = places_within c.args.self.now.both c.args.row c.in_ok-places.places.items c.as_slice.result.now c.in_ok-places.ensures c.as_slice.ensures.value

pub returns : goal.returns
returns c = λ name word is.
    let t = c.args.self.now in
    let at = row_is t.rows c.args.row c.get-name.result.0 (record { count = c.get-name.result.1; there = c.get-name.ensures }) in
    let all = pairs_exact t c.args.row c.requires.inside c.requires.row c.len.ensures.distinct c.len-2.ensures.distinct c.len-3.ensures.once c.len-4.ensures.once c.in_ok-places.places.items c.in_ok-places.ensures in
    let named = subst (λ (k : ℕ × ℕ). ListsOnce (IsPair (counted t) (text_at t.names (row_at (keys_of t.rows) c.args.row).1) (text_at t.words (row_at (keys_of t.rows) c.args.row).0)) (map (pair_at t.words t.both t.columns k.1) c.in_ok-places.places.items)) at all in
    let asked = subst (λ (k : List ℕ × List ℕ). ListsOnce (IsPair (counted t) k.0 k.1) (map (pair_at t.words t.both t.columns c.get-name.result.0.1) c.in_ok-places.places.items)) is named in
    rw (c.in_ok-add_pairs.ensures, c.new-pairs.ensures, c.as_slice.ensures.value) asked
