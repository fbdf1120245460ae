use Rattle.std.proofs.Common.{◌<◌, length, arith}
use Rattle.mt_counts.proofs.Turning.{turning_more}
use Rattle.mt_instances.specs.Gathered.{value_in}
use Rattle.mt_instances.specs.Numbered.{IsNumbered}
use Rattle.mt_instances.proofs.Numbered.{entry_still, learns_then, numbered_still}
use Rattle.mt_instances.proofs.counter.number_all.Goals as goal

pub numbered-requires-clause-entry : goal.numbered-requires-clause-entry
numbered-requires-clause-entry c =
    let values = value_in c.args.words.now.lexicon.now c.args.words.now.numbers.now in
    let l : c.loop-k.k < length c.loop-k.entries = omega arith in
    entry_still (IsNumbered c.loop-k.counter.noted c.args.instances.now.names values) c.args.instances.now.names (length c.args.words.now.numbers.now) c.args.entries.now c.loop-k.entries c.loop-k.k _ l c.requires.entries c.loop-k.invariant.turning

pub returns-in_err-note-clause-learns : goal.returns-in_err-note-clause-learns
returns-in_err-note-clause-learns c = learns_then c.args.counter.now.noted c.loop-k.counter.noted c.numbered.new.counter.noted c.loop-k.invariant.learns c.in_err-note.ensures.learns

pub loop-k-preserved : goal.loop-k-preserved
loop-k-preserved c =
    let values = value_in c.args.words.now.lexicon.now c.args.words.now.numbers.now in
    let names = c.args.instances.now.names in
    let now = c.loop-k.counter.noted in
    let next = c.numbered.new.counter.noted in
    let l : c.loop-k.k < length c.loop-k.entries = omega arith in
    record {
      ready = c.in_ok-note.ensures.ready;
      learns = learns_then c.args.counter.now.noted now next c.loop-k.invariant.learns c.in_ok-note.ensures.learns;
      turning = turning_more (IsNumbered now names values) (IsNumbered next names values) c.args.entries.now c.loop-k.entries c.loop-k.k _ c.in_ok-note.note l (λ entry note h. numbered_still now next values c.in_ok-note.ensures.learns names entry note h) c.loop-k.invariant.turning c.in_ok-note.ensures.numbered;
    }
