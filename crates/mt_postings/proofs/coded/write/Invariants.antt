use Rattle.std.proofs.Common.{ℕ, ◌≡◌, ◌+◌, ◌*◌, ◌≤◌, ◌++◌, List, length}
use Rattle.mt_store_spec.specs.Positions.{codes}
use Rattle.mt_postings.specs.Following.{Follow}
use Rattle.mt_postings.specs.Kept.{IsEnd, AreEntries}
use Rattle.mt_postings.specs.declared.coded.Entry.{Entry}
use Rattle.mt_postings.proofs.coded.write.Given as goal

abbrev pub invariant-loop-rest : goal.invariant-loop-rest
invariant-loop-rest l = record {
  taken : List ℕ;
  split : taken ++ l.rest ≡ l.more;
  follow : Follow l.end.least l.rest;
  count : l.end.count ≡ l.initial.end.count + length taken;
  short : l.end.bit ≤ l.initial.end.bit + 42 * length taken;
  written : l.writer ++ codes l.end.least l.rest ≡ l.initial.writer ++ codes l.initial.end.least l.more;
  ends : (ps : List ℕ) → IsEnd ps l.initial.end.count l.initial.end.least l.initial.end.bit → IsEnd (ps ++ taken) l.end.count l.end.least l.end.bit;
  entries : (ps : List ℕ) (before : List Entry) → IsEnd ps l.initial.end.count l.initial.end.least l.initial.end.bit → AreEntries ps before → AreEntries (ps ++ taken) (before ++ l.entries.items);
}

abbrev pub decreases-loop-rest : goal.decreases-loop-rest
decreases-loop-rest l = length l.rest
