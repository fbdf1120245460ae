-- Of whatever tables the parts are: the first of them are put together, and the parts of the others are left.
use Rattle.std.proofs.Common.{List}
use Rattle.mt_segment_spec.specs.Tables.{AttrTables}
use Rattle.mt_segment.specs.Joined.{AreJoined}
use Rattle.mt_segment.proofs.Parted.{IsPartedAt}
use Rattle.mt_segment.proofs.joining.join.Given as goal

abbrev pub invariant-loop-attr : goal.invariant-loop-attr
invariant-loop-attr l =
    (t : List AttrTables) → AreJoined l.attrs t l.fn.lexicons l.fn.columns l.fn.tables l.fn.postings → IsPartedAt l.attrs t l.attr-index l.all l.lexicons l.columns l.tables l.postings
