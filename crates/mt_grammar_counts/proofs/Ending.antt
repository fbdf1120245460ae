-- Counts over no texts, over one text, and over a whole corpus.
use Rattle.std.proofs.Common.{◌≡◌, ℕ, zero, suc, ◌<◌, List, [], ◌∷◌, length, get_or, slice_get, slice_index, Some, Result, Ok, Err, refl, sym, ◌∙◌, ap, subst, arith}
use Rattle.std.specs.Result.{IsErrAnd}
use Rattle.mt_text_spec.specs.Registries.{Registry, ValidRegistry}
use Rattle.mt_text_spec.specs.Texts.{Text, ValidCorpus, ValidText}
use Rattle.mt_text_spec.specs.Queries.{Grammar}
use Rattle.mt_match_spec.specs.Values.{Images}
use Rattle.mt_count_spec.specs.Counts.{OverNone}
use Rattle.mt_segment_spec.specs.Tables.{Tables, AreTablesUnder}
use Rattle.mt_corpus_spec.specs.Images.{Corpus, AreImagesBy}
use Rattle.mt_corpus_spec.specs.Decoded.{images_in}
use Rattle.mt_decode_laws.specs.Laws.{ImagesAreDecoded}
use Rattle.mt_triples.specs.CountsOf.{AreCountsOf}
use Rattle.mt_corpus.specs.Held.{IsMadeOf}
use Rattle.mt_corpus.specs.Added.{MayBeKept}
use Rattle.mt_corpus.specs.Named.{IsTextAt, SplitsAt}
use Rattle.mt_instances.specs.Collected.{Collected}
use Rattle.mt_grammar_counts.specs.Told.{TellAll, Tells}

-- ---- no texts

counts_none : (images : Images) (registry : Registry) (grammar : Grammar) → AreCountsOf images registry grammar [] (record { both = []; first = []; second = []; alone = [] })
counts_none images registry grammar = record { both = λ name x y. OverNone; first = λ name x. OverNone; second = λ name y. OverNone; alone = λ name x. OverNone }

pub nothing_counted : (lexicon : List (List ℕ)) (collected : Collected) → collected ≡ record { lexicon = lexicon; numbers = []; given = []; counted = record { both = []; first = []; second = []; alone = [] } } →
    (images : Images) (registry : Registry) (grammar : Grammar) → AreCountsOf images registry grammar [] collected.counted
nothing_counted lexicon collected is images registry grammar = subst (λ (c : Collected). AreCountsOf images registry grammar [] c.counted) (sym is) (counts_none images registry grammar)

-- ---- one text

pub tells_all : (images : Images) (registry : Registry) (tables : Tables) (number : ℕ) (text : Text) → Tells images registry tables number text → TellAll images registry tables (number ∷ []) (text ∷ [])
tells_all images registry tables number text tells = record {
  corpus = tells.corpus;
  tell = tells.tell;
  count = refl;
  each = at;
}
  where
    at : (k : ℕ) → k < 1 → slice_get (text ∷ []) k ≡ slice_get tells.corpus (slice_index (number ∷ []) k)
    at zero l = sym tells.there
    at (suc k) l = absurd (omega (arith, l))

-- ---- a text that may be kept

valid_alone : (registry : Registry) (text : Text) → ValidText registry text → ValidCorpus registry (text ∷ [])
valid_alone registry text v = record { few = omega arith; short = omega (arith, v.short); texts = one; distinct = λ i j d l m. absurd (omega (arith, l, m)) }
  where
    one : (k : ℕ) (d : Text) → k < 1 → ValidText registry (get_or (text ∷ []) k d)
    one zero d l = v
    one (suc k) d l = absurd (omega (arith, l))

pub made_under : (registry : Registry) (text : Text) (tables : Tables) → ValidRegistry registry → ValidText registry text → IsMadeOf registry text tables → AreTablesUnder registry tables
made_under registry text tables valid v made = record {
  images = made.images;
  by = record { valid = valid; corpus = text ∷ []; texts = valid_alone registry text v; some = omega arith; are = made.are };
}

pub first_within : (registry : Registry) (text : Text) (tables : Tables) → IsMadeOf registry text tables → 0 < length tables.texts
first_within registry text tables made = let long = ap length made.are.texts in omega (arith, long)

pub tells_added : ImagesAreDecoded → (images : Images) (corpus : Corpus) (text : Text) (tables : Tables) → ValidRegistry corpus.registry → MayBeKept corpus text tables → AreImagesBy images (images_in corpus.registry tables) →
    Tells images corpus.registry tables 0 text
tells_added law images corpus text tables valid may by = record {
  corpus = text ∷ [];
  tell = record {
    registry_valid = valid;
    valid = valid_alone corpus.registry text may.valid;
    are = (law may.made.images corpus.registry (text ∷ []) tables valid may.made.are).others images by;
  };
  there = refl;
}

-- ---- a text of a name

pub tells_named : (images : Images) (corpus : Corpus) (name : List ℕ) (tables : Tables) (number : ℕ) → ValidRegistry corpus.registry → (is : IsTextAt corpus name tables number) (split : SplitsAt corpus.groups name) → AreImagesBy images corpus.taken →
    Tells images corpus.registry tables number split.text
tells_named images corpus name tables number valid is split by = record {
  corpus = is.texts;
  tell = record { registry_valid = valid; valid = is.valid; are = is.are images by };
  there = is.there ∙ ap Some (sym (is.only split));
}

-- ---- errors that are handed on

abbrev error_or : {T E : Type 0} → E → Result T E → E
error_or d (Ok x) = d
error_or d (Err e) = e

pub same_error : {T E : Type 0} (r : Result T E) (e other : E) → IsErrAnd r (λ (own : E). own ≡ e) → r ≡ Err other → e ≡ other
same_error (Ok x) e other h is = absurd h
same_error (Err own) e other h is = sym h ∙ ap (error_or own) is
