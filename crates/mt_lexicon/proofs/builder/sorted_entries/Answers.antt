use Rattle.std.proofs.Common.{ℕ, List, map}
use Rattle.std.specs.Ordering.{nat_cmp, ordering_then}
use Rattle.std.specs.declared.cmp.Ordering.{Ordering}
use Rattle.std.specs.Cmp.Lexicographic.{slice_cmp}
use Rattle.std.proofs.lemmas.List.Sorted.{IsPermutation-map, All-permutation}
use Rattle.mt_lexicon.specs.declared.builder.Entry.{Entry}
use Rattle.mt_lexicon.specs.Entries.{BeginsBy, by_value}
use Rattle.mt_lexicon.proofs.FirstBytes.{not_before}
use Rattle.mt_lexicon.proofs.Sorted.{numbering_sorted, sorted_map}
use Rattle.mt_lexicon.proofs.builder.sorted_entries.Goals as goal

abbrev pair : Entry → List ℕ × ℕ
pair entry = (entry.value.now, entry.number)

abbrev Begins : Entry → Type 0
Begins entry = BeginsBy entry.value.now entry.first

abbrev by_all : Entry → Entry → Ordering
by_all a b = ordering_then (nat_cmp a.first b.first) (ordering_then (slice_cmp nat_cmp a.value.now b.value.now) (nat_cmp a.number b.number))

pub returns : goal.returns
returns c =
    let entries = c.in_ok-entries.entries.items in
    let sorted = c.sort_unstable.new.self.items in
    numbering_sorted c.args.values.now (map pair entries) (map pair sorted) c.in_ok-entries.ensures.numbering c.requires.distinct
    (IsPermutation-map pair entries sorted c.sort_unstable.ensures.permutation)
    (sorted_map pair Begins by_all by_value (λ x y h k up. not_before x.value.now y.value.now x.number y.number x.first y.first h k up) sorted
    (All-permutation Begins entries sorted c.sort_unstable.ensures.permutation c.in_ok-entries.ensures.first) c.sort_unstable.ensures.sorted)
