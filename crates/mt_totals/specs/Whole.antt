-- Groups of texts of which none was removed.
use Rattle.std.specs.Prelude.{◌≡◌, true}
use Rattle.std.specs.List.{All}
use Rattle.mt_match_spec.specs.Values.{Images}
use Rattle.mt_corpus_spec.specs.Groups.{Group}
use Rattle.mt_corpus_spec.specs.Images.{Corpus, AreImagesBy}

-- each text of a group is live
abbrev pub IsWhole : Group → Type 0
IsWhole group = All (λ member. member.1 ≡ true) group

-- each text that a corpus keeps is live, under any images that agree with those taken
abbrev pub IsWholeCorpus : Corpus → Type 0
IsWholeCorpus corpus = (images : Images) → AreImagesBy images corpus.taken → All IsWhole corpus.groups
