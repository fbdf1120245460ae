use Rattle.std.proofs.Common.{sym, subst}
use Rattle.mt_corpus_spec.specs.Images.{Corpus, AreImagesBy}
use Rattle.mt_corpus_spec.specs.Segments.{StandFor}
use Rattle.mt_corpus.proofs.Segments.{all_marks, all_tables}
use Rattle.mt_corpus.proofs.corpus.Corpus.held.Goals as goal

pub returns-clause-stand : goal.returns-clause-stand
returns-clause-stand c = λ images by. let k = c.self.invariant in
    subst (λ (v : Corpus). StandFor images v.registry v.groups c.self.inside.segments c.self.inside.live) c.self.view_is (record {
      valid = k.valid;
      tables = all_tables c.texts_are_decoded.ensures c.numbers_are_live.ensures c.self.inside.registry c.images_are_decoded.ensures images c.self.inside.segments c.self.inside.live k.tables k.numbers (subst (λ (v : Corpus). AreImagesBy images v.taken) (sym c.self.view_is) by);
      marks = all_marks c.texts_are_decoded.ensures c.numbers_are_live.ensures c.self.inside.registry c.self.inside.segments c.self.inside.live k.tables k.numbers;
    })
