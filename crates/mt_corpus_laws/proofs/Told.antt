-- The tables of a group of valid texts tell of these texts.
use Rattle.std.proofs.Common.{◌≡◌, sym, ◌∙◌, subst}
use Rattle.mt_text_spec.specs.Texts.{ValidCorpus}
use Rattle.mt_corpus_spec.specs.Groups.{all_texts}
use Rattle.mt_decode_laws.specs.Laws.{TextsAreDecoded}
use Rattle.mt_corpus_laws.specs.Joined.{GroupsAreTold}

pub groups_told : TextsAreDecoded → GroupsAreTold
groups_told decoded images registry group tables texts are under =
    let by = under.by in
    let same : by.corpus ≡ all_texts group = sym (decoded under.images registry by.corpus tables by.texts.texts by.are) ∙ decoded images registry (all_texts group) tables texts are in
    record { registry_valid = by.valid; valid = subst (ValidCorpus registry) same by.texts; are = are }
