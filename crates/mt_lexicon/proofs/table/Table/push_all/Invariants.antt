-- The hashes up to the index are added.
use Rattle.std.proofs.Common.{◌≡◌, take}
use Rattle.mt_lexicon.specs.Hashed.{hashes}
use Rattle.mt_lexicon.proofs.table.Table.push_all.Given as goal

abbrev pub invariant-loop-link : goal.invariant-loop-link
invariant-loop-link l = record { added : l.self.0 ≡ hashes (take l.link-index l.links); buckets : l.self.1 ≡ l.initial.self.1 }
