-- The entries so far are those of the values so far.
use Rattle.std.proofs.Common.{map}
use Rattle.std.specs.List.{All}
use Rattle.mt_lexicon.specs.Entries.{IsNumbering, BeginsBy}
use Rattle.mt_lexicon.proofs.builder.numbered_entries.Given as goal

abbrev pub invariant-loop-number : goal.invariant-loop-number
invariant-loop-number l = record {
  numbering : IsNumbering l.values l.number (map (λ entry. (entry.value.now, entry.number)) l.entries.items);
  first : All (λ entry. BeginsBy entry.value.now entry.first) l.entries.items;
}
