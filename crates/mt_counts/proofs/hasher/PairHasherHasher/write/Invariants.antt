-- So many bytes are joined.
use Rattle.std.proofs.Common.{◌≡◌, take, fold}
use Rattle.mt_counts.specs.Hashing.{shifted}
use Rattle.mt_counts.proofs.hasher.PairHasherHasher.write.Given as goal

abbrev pub invariant-loop-byte : goal.invariant-loop-byte
invariant-loop-byte l = l.last ≡ fold shifted l.fn.self.last (take l.byte-index l.bytes)
