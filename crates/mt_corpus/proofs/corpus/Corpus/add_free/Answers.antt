use Rattle.std.proofs.Common.{map}
use Rattle.mt_segment.specs.Mappers.{calls_due}
use Rattle.mt_corpus_spec.specs.Decoded.{images_in}
use Rattle.mt_corpus.proofs.Calls.{calls_stay, taken_either}
use Rattle.mt_corpus.proofs.corpus.Corpus.add_free.Goals as goal

pub keep-requires : goal.keep-requires
keep-requires g c = record {
  text = c.args.text;
  may = record { valid = c.requires.text; made = c.in_ok-segment.ensures.made; free = c.requires.free; room = c.requires.room };
}

pub returns-clause-ok : goal.returns-clause-ok
returns-clause-ok g c = c.keep.ensures.ok c.args.text (record { valid = c.requires.text; made = c.in_ok-segment.ensures.made; free = c.requires.free; room = c.requires.room })

pub returns-clause-taken : goal.returns-clause-taken
returns-clause-taken g c = λ images agree by.
    taken_either c.args.self.now c.keep.new.self (images_in c.args.self.now.registry c.in_ok-segment.segment) images c.keep.result c.keep.ensures.taken c.keep.ensures.err (c.in_ok-segment.ensures.images images agree) by

pub returns-clause-calls : goal.returns-clause-calls
returns-clause-calls g c = λ t are.
    calls_stay (calls_due (map g.M.Mapper.called c.args.mappers.now) t.attrs c.args.self.now.registry.attrs) (map g.M.Mapper.calls c.args.mappers.now) (map g.M.Mapper.calls c.build.new.mappers) c.in_ok-segment.segment c.keep.result
    (c.in_ok-segment.ensures.calls t are)
