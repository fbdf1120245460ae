use Rattle.std.proofs.Common.{sym, ◌≡◌, get_or, ◌∷◌, ◌<◌, subst, ℕ}
use Rattle.std.specs.Str.{IsCharBoundary}
use Rattle.mt_base.proofs.Blocks.{end_at, start_at, piece_at}
use Rattle.mt_base.proofs.strings.piece.Goals as goal

pub range-requires : goal.range-requires
range-requires c =
    let s : c.start_of-from.result ≡ get_or (0 ∷ c.args.ends.now) c.args.place 0 = c.start_of-from.ensures in
    let P : ℕ → Type 0 = λ n. 0 < n → IsCharBoundary c.args.block.now n in
    record {
      start_le_end = rw s (end_at c.args.block.now 0 c.args.ends.now c.args.place c.requires.ends c.requires.place).0;
      start_boundary = subst P (sym s) (start_at c.args.block.now c.args.ends.now c.args.place c.requires.ends c.requires.place);
      end_boundary = (end_at c.args.block.now 0 c.args.ends.now c.args.place c.requires.ends c.requires.place).1;
    }

pub returns : goal.returns
returns c = rw (c.range.ensures.value, c.start_of-from.ensures) (piece_at c.args.block.now 0 c.args.ends.now c.args.place c.requires.place)
