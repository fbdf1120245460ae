use Rattle.std.proofs.lemmas.List.Filters.{dedup_is}
use Rattle.mt_counts.specs.contracts.note.NoteOrd.TheImpl.Laws.{total-law, matches_eq-law}
use Rattle.mt_counts.specs.contracts.note.NoteEq.TheImpl.Laws as own
use Rattle.mt_instances.proofs.Distinct.{kept_once, kept_same}
use Rattle.mt_instances.proofs.Exact.{exact_entry}
use Rattle.mt_instances.proofs.entry.keep_distinct.Goals as goal

pub returns-clause-once : goal.returns-clause-once
returns-clause-once c = rw (dedup_is _ _ _ c.dedup.ensures.filtered) (kept_once total-law own.laws-law matches_eq-law exact_entry c.sort_unstable.new.self.items c.sort_unstable.ensures.sorted)

pub returns-clause-same : goal.returns-clause-same
returns-clause-same c =
    rw (dedup_is _ _ _ c.dedup.ensures.filtered) (kept_same total-law own.laws-law matches_eq-law exact_entry c.args.entries.now.items c.sort_unstable.new.self.items c.sort_unstable.ensures.permutation)
