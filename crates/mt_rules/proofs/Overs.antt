-- What is held over a corpus that changes.
use Rattle.std.proofs.Common.{◌≡◌, ℕ, List, [], ◌∷◌, ◌++◌, Some, None, sym, ap, ◌∙◌, subst, append-nil}
use Rattle.mt_text_spec.specs.Registries.{Registry}
use Rattle.mt_text_spec.specs.Texts.{Text}
use Rattle.mt_text_spec.specs.Queries.{Grammar}
use Rattle.mt_match_spec.specs.Values.{Images}
use Rattle.mt_grammar_spec.specs.ValidGrammar.{ValidGrammar}
use Rattle.mt_segment_spec.specs.Tables.{Tables}
use Rattle.mt_count_spec.specs.Counts.{HasRoom, IsF, IsF1}
use Rattle.mt_count_laws.specs.Laws.{OneCount, OneUnaryCount}
use Rattle.mt_counts.specs.Counted.{Counted, f, f_first, f_second, f1}
use Rattle.mt_triples.specs.CountsOf.{AreCountsOf}
use Rattle.mt_corpus_spec.specs.Groups.{corpus_of, without}
use Rattle.mt_corpus_spec.specs.Images.{Corpus, Image, AreImagesBy}
use Rattle.mt_corpus_spec.specs.Decoded.{images_in}
use Rattle.mt_corpus.specs.Named.{SplitsAt}
use Rattle.mt_rules.specs.Ruled.{Ruled, AreOver}
use Rattle.mt_rules.specs.Keeping.{HaveImages, IsCountedAlone, KeepsAlone}
use Rattle.mt_rules.proofs.Lists.{corpus_more, left_part, right_part}
use Rattle.mt_rules.proofs.Rooms.{room_both, room_rest}

abbrev pub ruled_by : Grammar → Counted → Ruled
ruled_by grammar counted = record { grammar = grammar; counted = counted }

-- ## Counts that are added and taken away

-- counts of some texts and of others make those of both
abbrev pub AddUp : (a b sum : Counted) → Type 0
AddUp a b sum = (images : Images) (registry : Registry) (grammar : Grammar) (corpus others : List Text) → AreCountsOf images registry grammar corpus a → AreCountsOf images registry grammar others b →
    AreCountsOf images registry grammar (corpus ++ others) sum

-- counts of all texts less those of some make those of the others
abbrev pub LeaveRest : (sum part rest : Counted) → Type 0
LeaveRest sum part rest = (images : Images) (registry : Registry) (grammar : Grammar) (before texts behind : List Text) → AreCountsOf images registry grammar (before ++ texts ++ behind) sum →
    AreCountsOf images registry grammar texts part → AreCountsOf images registry grammar (before ++ behind) rest

-- the same counts
abbrev pub CountSame : (a b : Counted) → Type 0
CountSame a b = (images : Images) (registry : Registry) (grammar : Grammar) (corpus : List Text) → AreCountsOf images registry grammar corpus a → AreCountsOf images registry grammar corpus b

-- what counts the same under some images counts the same under any
same_counts : OneCount → OneUnaryCount → (known images : Images) (registry : Registry) (grammar : Grammar) (corpus : List Text) (a b : Counted) → AreCountsOf known registry grammar corpus a →
    AreCountsOf known registry grammar corpus b → AreCountsOf images registry grammar corpus a → AreCountsOf images registry grammar corpus b
same_counts one unary known images registry grammar corpus a b of_a of_b is = record {
  both = λ name x y. subst (λ (n : ℕ). IsF images registry grammar corpus name (Some x) (Some y) n)
      (one known registry grammar corpus name (Some x) (Some y) (f a name x y) (f b name x y) (of_a.both name x y) (of_b.both name x y)) (is.both name x y);
  first = λ name x. subst (λ (n : ℕ). IsF images registry grammar corpus name (Some x) None n)
      (one known registry grammar corpus name (Some x) None (f_first a name x) (f_first b name x) (of_a.first name x) (of_b.first name x)) (is.first name x);
  second = λ name y. subst (λ (n : ℕ). IsF images registry grammar corpus name None (Some y) n)
      (one known registry grammar corpus name None (Some y) (f_second a name y) (f_second b name y) (of_a.second name y) (of_b.second name y)) (is.second name y);
  alone = λ name x. subst (λ (n : ℕ). IsF1 images registry grammar corpus name (Some x) n)
      (unary known registry grammar corpus name (Some x) (f1 a name x) (f1 b name x) (of_a.alone name x) (of_b.alone name x)) (is.alone name x);
}

-- ## The corpus as it was

pub over_same : (corpus : Corpus) (grammar : Grammar) (a b : Counted) → CountSame a b → AreOver corpus (ruled_by grammar a) → AreOver corpus (ruled_by grammar b)
over_same corpus grammar a b same over = record { valid = over.valid; counts = λ images by. same images corpus.registry grammar (corpus_of corpus.groups) (over.counts images by); room = over.room }

-- counts of a text were added and taken back
pub over_back : OneCount → OneUnaryCount → (corpus : Corpus) (grammar : Grammar) (a b sum back : Counted) (text : Text) (tables : Tables) → HaveImages corpus tables → IsCountedAlone corpus grammar text tables b →
    AddUp a b sum → LeaveRest sum b back → AreOver corpus (ruled_by grammar a) → AreOver corpus (ruled_by grammar back)
over_back one unary corpus grammar a b sum back text tables have alone adds leaves over = record {
  valid = over.valid;
  counts = λ images by. same_counts one unary have.images images corpus.registry grammar (corpus_of corpus.groups) a back here again (over.counts images by);
  room = over.room;
}
  where
    here : AreCountsOf have.images corpus.registry grammar (corpus_of corpus.groups) a
    here = over.counts have.images have.taken

    its : AreCountsOf have.images corpus.registry grammar (text ∷ []) b
    its = alone.counts have.images have.more

    both : AreCountsOf have.images corpus.registry grammar (corpus_of corpus.groups ++ text ∷ [] ++ []) sum
    both = subst (λ (ts : List Text). AreCountsOf have.images corpus.registry grammar ts sum) (sym (append-nil (corpus_of corpus.groups ++ text ∷ [])))
        (adds have.images corpus.registry grammar (corpus_of corpus.groups) (text ∷ []) here its)

    again : AreCountsOf have.images corpus.registry grammar (corpus_of corpus.groups) back
    again =
        subst (λ (ts : List Text). AreCountsOf have.images corpus.registry grammar ts back) (append-nil (corpus_of corpus.groups))
        (leaves have.images corpus.registry grammar (corpus_of corpus.groups) (text ∷ []) [] both its)

-- ## A text more

module _ (old new : Corpus) (text : Text) (tables : Tables) (keeps : KeepsAlone old text tables new) where
  moved : (P : Registry → List Text → Type 0) → P old.registry (corpus_of old.groups ++ text ∷ []) → P new.registry (corpus_of new.groups)
  moved P p =
      subst (λ (r : Registry). P r (corpus_of new.groups)) (sym keeps.registry)
      (subst (λ (ts : List Text). P old.registry ts) (sym (ap corpus_of keeps.groups ∙ corpus_more old.groups text)) p)

  taken_both : (images : Images) → AreImagesBy images new.taken → AreImagesBy images (old.taken ++ images_in old.registry tables)
  taken_both images by = subst (λ (taken : List Image). AreImagesBy images taken) keeps.taken by

  taken_old : (images : Images) → AreImagesBy images new.taken → AreImagesBy images old.taken
  taken_old images by = left_part (λ (each : Image). images each.mapper each.value ≡ each.image) old.taken (images_in old.registry tables) (taken_both images by)

  taken_more : (images : Images) → AreImagesBy images new.taken → AreImagesBy images (images_in old.registry tables)
  taken_more images by = right_part (λ (each : Image). images each.mapper each.value ≡ each.image) old.taken (images_in old.registry tables) (taken_both images by)

  pub over_more : (grammar : Grammar) (a b sum : Counted) → IsCountedAlone old grammar text tables b → AddUp a b sum → AreOver old (ruled_by grammar a) → AreOver new (ruled_by grammar sum)
  over_more grammar a b sum alone adds over = record {
    valid = subst (λ (r : Registry). ValidGrammar r grammar) (sym keeps.registry) over.valid;
    counts = λ images by. moved (λ (r : Registry) (ts : List Text). AreCountsOf images r grammar ts sum)
        (adds images old.registry grammar (corpus_of old.groups) (text ∷ []) (over.counts images (taken_old images by)) (alone.counts images (taken_more images by)));
    room = λ images by. moved (λ (r : Registry) (ts : List Text). HasRoom images r grammar ts)
        (room_both images old.registry grammar (corpus_of old.groups) (text ∷ []) (over.room images (taken_old images by)) (alone.room images (taken_more images by)));
  }

-- ## A text less

module _ (old new : Corpus) (name : List ℕ) (split : SplitsAt old.groups name) (is : new ≡ record old { groups = without name old.groups }) where
  pub over_less : (grammar : Grammar) (a b rest : Counted) → ((images : Images) → AreImagesBy images old.taken → AreCountsOf images old.registry grammar (split.text ∷ []) b) → LeaveRest a b rest →
      AreOver old (ruled_by grammar a) → AreOver new (ruled_by grammar rest)
  over_less grammar a b rest its leaves over = subst (λ (corpus : Corpus). AreOver corpus (ruled_by grammar rest)) (sym is) (record {
    valid = over.valid;
    counts = λ images by. subst (λ (ts : List Text). AreCountsOf images old.registry grammar ts rest) (sym split.rest)
        (leaves images old.registry grammar split.before (split.text ∷ []) split.behind (subst (λ (ts : List Text). AreCountsOf images old.registry grammar ts a) split.all (over.counts images by)) (its images by));
    room = λ images by. subst (λ (ts : List Text). HasRoom images old.registry grammar ts) (sym split.rest)
        (room_rest images old.registry grammar split.before split.behind split.text (subst (λ (ts : List Text). HasRoom images old.registry grammar ts) split.all (over.room images by)));
  })
