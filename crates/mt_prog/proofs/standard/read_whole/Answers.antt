use Rattle.std.proofs.Common.{rules, sym, subst, arith}
use Rattle.std.specs.Io.KnownBytes.{Consumes}
use Rattle.mt_prog.proofs.Blocks.{none_yet, one_more, room_left, as_long, at_end, beyond}
use Rattle.mt_prog.proofs.standard.read_whole.Goals as goal

-- src/standard.rt:189:5
pub loop-room-init : goal.loop-room-init
loop-room-init g c = record {
  room = search rules;
  block = search rules;
  bytes = subst (Consumes _ _) (sym c.truncate.ensures) (none_yet (g.R.Read.remaining c.args.reader.now));
}

pub returns-in-0-clause-told : goal.returns-in-0-clause-told
returns-in-0-clause-told g c = λ all is. at_end (g.R.Read.remaining c.args.reader.now) (g.R.Read.remaining c.loop-room.reader) (g.R.Read.remaining c.read_block.new.reader) c.in_ok-n.n c.loop-room.out c.read_block.new.out all c.args.limit
    c.loop-room.invariant.bytes c.in_ok-n.ensures.read c.in-0.is is (omega (arith, c.loop-room.invariant.room, c.loop-room-test.true))

pub loop-room-preserved : goal.loop-room-preserved
loop-room-preserved g c = record {
  room = room_left (g.R.Read.remaining c.loop-room.reader) (g.R.Read.remaining c.read_block.new.reader) c.in_ok-n.n c.loop-room.room c.args.limit c.loop-room.out c.read_block.new.out c.in_ok-n.ensures.read c.loop-room.invariant.room (omega (arith, c.in_ok-n.ensures.within, c.min.ensures));
  block = as_long c.loop-room.block.len 262144 c.read_block.new.block c.loop-room.block.items c.deref_mut.result.now c.loop-room.block.ok.0 c.deref_mut.ensures.value c.in_ok-n.ensures.block c.loop-room.invariant.block;
  bytes = one_more (g.R.Read.remaining c.args.reader.now) (g.R.Read.remaining c.loop-room.reader) (g.R.Read.remaining c.read_block.new.reader) c.in_ok-n.n c.loop-room.out c.read_block.new.out c.loop-room.invariant.bytes c.in_ok-n.ensures.read;
}

-- src/standard.rt:174:1
pub returns-clause-told : goal.returns-clause-told
returns-clause-told g c = λ all is. beyond (g.R.Read.remaining c.args.reader.now) (g.R.Read.remaining c.loop-room.reader) c.loop-room.out all c.args.limit c.loop-room.room c.loop-room.invariant.bytes c.loop-room.invariant.room (omega (arith, c.loop-room-test.false)) is
