use Rattle.std.proofs.Common.{rules, ◌∷◌, [], ap, sym, subst, map, IfOk}
use Rattle.mt_text_spec.specs.Registries.{Registry, ValidRegistry}
use Rattle.mt_segment_spec.specs.Tables.{AreTablesOf}
use Rattle.mt_corpus_spec.specs.Images.{Corpus}
use Rattle.mt_segment.specs.Mappers.{AreThere, image_by, named}
use Rattle.mt_corpus.proofs.Calls.{images_taken}
use Rattle.mt_corpus.proofs.corpus.Corpus.build.Goals as goal

pub build-requires-clause-mappers : goal.build-requires-clause-mappers
build-requires-clause-mappers g c =
    let h : AreThere (map g.M.Mapper.called c.args.mappers.now) c.self.inside.registry.attrs = subst (λ (v : Corpus). AreThere (map g.M.Mapper.called c.args.mappers.now) v.registry.attrs) (sym c.self.view_is) c.requires.mappers in
    search (rules, h)

pub returns-clause-images : goal.returns-clause-images
returns-clause-images g c = λ images agree.
    images_taken c.images_are_decoded.ensures c.args.self.now.registry c.args.text images (named g.M.Mapper.called g.M.Mapper.image c.args.mappers.now) c.build.result
    (subst (λ (v : Corpus). ValidRegistry v.registry) c.self.view_is c.self.invariant.valid)
    (subst (λ (v : Corpus). IfOk c.build.result (λ segment. AreTablesOf (image_by (named g.M.Mapper.called g.M.Mapper.image c.args.mappers.now)) v.registry (c.args.text ∷ []) segment)) c.self.view_is c.build.ensures.tables)
    agree
