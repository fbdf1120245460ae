use Rattle.std.proofs.Common.{Err, refl, sym, subst}
use Rattle.mt_counts.specs.Counted.{Counted}
use Rattle.mt_triples.specs.CountsOf.{AreCountsOf}
use Rattle.mt_corpus_spec.specs.Groups.{corpus_of}
use Rattle.mt_rules.specs.Ruled.{AreOver}
use Rattle.mt_rules.proofs.Overs.{ruled_by}
use Rattle.mt_rules.proofs.Checks.{reads_rules}
use Rattle.mt_rules.proofs.Declines.{many_declines, starved_declines}
use Rattle.mt_rules.proofs.reading.counted.Goals as goal

pub returns-in-Ok-clause-reads : goal.returns-in-Ok-clause-reads
returns-in-Ok-clause-reads g c = λ bytes read.
    let corpus = c.args.corpus.now in
    let over : AreOver corpus (ruled_by c.args.grammar c.new.result) = record {
      valid = c.requires.valid;
      counts = λ images by.
          subst (λ (counted : Counted). AreCountsOf images corpus.registry c.args.grammar (corpus_of corpus.groups) counted) (sym c.new.ensures) (c.in-Ok.ensures.counts images by);
      room = λ images by. c.in-Ok.ensures.room images by;
    } in
    reads_rules c.one_grammar.ensures c.one_grammar_answer.ensures c.patterns_are_told.ensures corpus bytes c.args.grammar c.new.result read c.requires.whole over

pub returns-in-Err-TooManyRows-clause-declined : goal.returns-in-Err-TooManyRows-clause-declined
returns-in-Err-TooManyRows-clause-declined g c = λ bytes read.
    many_declines c.one_grammar.ensures c.one_grammar_answer.ensures c.patterns_are_told.ensures c.args.corpus.now bytes c.args.grammar _ read c.requires.whole
    (λ images by. c.in-Err-TooManyRows.ensures.too_many images by (λ k. Err (c.in-Err-TooManyRows.field-0-is k)))

pub returns-clause-declined : goal.returns-clause-declined
returns-clause-declined g c = λ bytes read. starved_declines c.args.corpus.now bytes _ _ refl
