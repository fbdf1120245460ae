use Rattle.std.proofs.Common.{◌≡◌, ◌<◌, ℕ, List, [], map, length, get_or, refl, ap, sym, ◌≤◌, arith}
use Rattle.std.proofs.lemmas.List.{length-map}
use Rattle.std.proofs.lemmas.Option.{get_or_from_slice_get}
use Rattle.mt_store_spec.specs.Lexicons.{IsLexiconOf, Renumbers}
use Rattle.mt_lexicon.specs.Entries.{IsSortedNumbering}
use Rattle.mt_lexicon.proofs.Sorted.{PlacesUpTo, none, nothing_placed, places_more, pair_of, all_placed, number_within}
use Rattle.mt_lexicon.proofs.builder.arranged.Goals as goal

-- a number with its value
abbrev pair : List (List ℕ) → ℕ → List ℕ × ℕ
pair values number = (get_or values number [], number)

pub loop-number-init : goal.loop-number-init
loop-number-init c =
    nothing_placed (map (pair c.args.seen.now) c.args.order.now) _ c.in_ok-numbers.numbers.items c.in_ok-values.ensures
    (omega (arith, c.in_ok-numbers.ensures.len, length-map c.args.order.now (pair c.args.seen.now)))

-- a number of the order is one of a value
number_low : (seen : List (List ℕ)) (order : List ℕ) (q : ℕ) → IsSortedNumbering seen (map (pair seen) order) → q < length order → get_or order q 0 < length (map (pair seen) order)
number_low seen order q h l =
    let e : get_or order q 0 ≡ (get_or (map (pair seen) order) q none).1 = ap (λ (p : List ℕ × ℕ). p.1) (pair_of (pair seen) order q 0 l) in
    rw e (number_within seen (map (pair seen) order) h q (omega (arith, length-map order (pair seen))))

pub index_mut-requires : goal.index_mut-requires
index_mut-requires c = omega (arith, number_low c.args.seen.now c.args.order.now c.loop-number.number-index c.requires.order c.loop-number-test.true, c.loop-number.invariant.count)

pub get-requires : goal.get-requires
get-requires c = omega (arith, number_low c.args.seen.now c.args.order.now c.loop-number.number-index c.requires.order c.loop-number-test.true, c.requires.order.count)

pub loop-number-preserved : goal.loop-number-preserved
loop-number-preserved c =
    let pairs = map (pair c.args.seen.now) c.args.order.now in
    let here : c.get.result.now ≡ get_or c.args.seen.now (get_or c.args.order.now c.loop-number.number-index 0) [] =
    sym (get_or_from_slice_get c.args.seen.now (get_or c.args.order.now c.loop-number.number-index 0) c.get.result.now [] c.get.ensures) in
    places_more c.args.seen.now pairs c.loop-number.values c.push.new.self c.loop-number.numbers.items c.loop-number.number-index c.len.result _ _ c.requires.order c.loop-number.invariant
    (omega (arith, length-map c.args.order.now (pair c.args.seen.now), c.loop-number-test.true)) c.len.ensures (pair_of (pair c.args.seen.now) c.args.order.now c.loop-number.number-index 0 c.loop-number-test.true) (rw (← here) c.in_ok-push.ensures.ok)

-- all values are there
all : (seen : List (List ℕ)) (order numbers : List ℕ) (texts lexicon : List (List ℕ)) (i : ℕ) → IsSortedNumbering seen (map (pair seen) order) → PlacesUpTo (map (pair seen) order) texts numbers i → length order ≤ i → i ≤ length order → lexicon ≡ texts →
    IsLexiconOf seen lexicon × Renumbers numbers seen lexicon
all seen order numbers texts lexicon i h places l m e = all_placed seen (map (pair seen) order) texts lexicon numbers i h places (omega (arith, length-map order (pair seen))) e

pub from_strings-requires-clause-ascending : goal.from_strings-requires-clause-ascending
from_strings-requires-clause-ascending c =
    (all c.args.seen.now c.args.order.now c.loop-number.numbers.items c.loop-number.values c.loop-number.values c.loop-number.number-index c.requires.order c.loop-number.invariant c.loop-number-test.false c.loop-number.auto.number-index-end refl).0.ascending

pub returns-clause-lexicon : goal.returns-clause-lexicon
returns-clause-lexicon c =
    (all c.args.seen.now c.args.order.now c.loop-number.numbers.items c.loop-number.values c.from_strings.result c.loop-number.number-index c.requires.order c.loop-number.invariant c.loop-number-test.false c.loop-number.auto.number-index-end c.from_strings.ensures).0

pub returns-clause-numbers : goal.returns-clause-numbers
returns-clause-numbers c =
    rw c.from_vec.ensures (all c.args.seen.now c.args.order.now c.loop-number.numbers.items c.loop-number.values c.from_strings.result c.loop-number.number-index c.requires.order c.loop-number.invariant c.loop-number-test.false c.loop-number.auto.number-index-end c.from_strings.ensures).1
