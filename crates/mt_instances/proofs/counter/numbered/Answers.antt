use Rattle.std.proofs.Common.{length}
use Rattle.mt_counts.specs.Tables.{text_at}
use Rattle.mt_counts.proofs.Numbering.{begins_at}
use Rattle.mt_instances.specs.Gathered.{value_in}
use Rattle.mt_instances.proofs.Numbered.{first_in, second_in, learns_then, word_still}
use Rattle.mt_instances.proofs.counter.numbered.Goals as goal

pub word_at-requires-clause-place : goal.word_at-requires-clause-place
word_at-requires-clause-place c = first_in c.args.instances.now.names (length c.args.words.now.numbers.now) c.args.entry c.requires.entry

pub second_at-requires-clause-place : goal.second_at-requires-clause-place
second_at-requires-clause-place c = second_in c.args.instances.now.names (length c.args.words.now.numbers.now) c.args.entry c.requires.entry

pub returns-in_err-first-clause-learns : goal.returns-in_err-first-clause-learns
returns-in_err-first-clause-learns c = learns_then c.args.counter.now.noted c.name_of.new.counter.noted c.word_at.new.counter.noted c.in_ok-name.ensures.learns c.in_err-first.ensures.learns

pub returns-in_err-second-clause-learns : goal.returns-in_err-second-clause-learns
returns-in_err-second-clause-learns c =
    let named = learns_then c.args.counter.now.noted c.name_of.new.counter.noted c.word_at.new.counter.noted c.in_ok-name.ensures.learns c.in_ok-first.ensures.learns in
    learns_then c.args.counter.now.noted c.word_at.new.counter.noted c.second_at.new.counter.noted named c.in_err-second.ensures.learns

pub returns-clause-learns : goal.returns-clause-learns
returns-clause-learns c =
    let named = learns_then c.args.counter.now.noted c.name_of.new.counter.noted c.word_at.new.counter.noted c.in_ok-name.ensures.learns c.in_ok-first.ensures.learns in
    learns_then c.args.counter.now.noted c.word_at.new.counter.noted c.second_at.new.counter.noted named c.in_ok-second.ensures.learns

pub returns-clause-numbered : goal.returns-clause-numbered
returns-clause-numbered c =
    let values = value_in c.args.words.now.lexicon.now c.args.words.now.numbers.now in
    let named = c.name_of.new.counter.noted in
    let one = c.word_at.new.counter.noted in
    let two = c.second_at.new.counter.noted in
    let more = learns_then named one two c.in_ok-first.ensures.learns c.in_ok-second.ensures.learns in
    record {
      name = begins_at named.names two.names c.in_ok-name.name (text_at c.args.instances.now.names c.args.entry.name) more.names c.in_ok-name.ensures.name;
      first = word_still one two values c.in_ok-second.ensures.learns c.args.entry.first c.in_ok-first.first c.in_ok-first.ensures.word;
      second = c.in_ok-second.ensures.word;
    }
