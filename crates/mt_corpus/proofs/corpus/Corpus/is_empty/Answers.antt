use Rattle.std.proofs.Common.{ap, ◌∙◌, length, nat_eq}
use Rattle.std.specs.List.{list_all}
use Rattle.mt_corpus_spec.specs.Images.{Corpus}
use Rattle.mt_corpus.proofs.Segments.{all_marks}
use Rattle.mt_corpus.proofs.Empty.{empty_tells}
use Rattle.mt_corpus_spec.specs.Decoded.{groups_in}
use Rattle.mt_corpus.proofs.corpus.Corpus.is_empty.Goals as goal

pub returns : goal.returns
returns c =
    let inside = c.self.inside in
    empty_tells c.live_texts_are_numbered.ensures c.args.self.now.groups (groups_in inside.registry inside.segments inside.live) inside.live c.are_empty.result (ap (λ (v : Corpus). v.groups) c.self.view_is)
    (all_marks c.texts_are_decoded.ensures c.numbers_are_live.ensures inside.registry inside.segments inside.live c.self.invariant.tables c.self.invariant.numbers) (c.are_empty.ensures ∙ ap (list_all (λ ns. nat_eq (length ns) 0)) c.as_slice.ensures)
