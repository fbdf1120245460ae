-- The text of a name, among the texts of a corpus and in its segment.
use Rattle.std.proofs.Common.{◌≡◌, ◌≢◌, ℕ, zero, suc, ◌+◌, ◌<◌, ◌≤◌, ◌⊎◌, inl, inr, Bool, true, false, cond, not, List, [], ◌∷◌, ◌++◌, length, map, get_or, slice_get, Option, Some, refl, sym, ◌∙◌, ap, ap₂, subst, arith}
use Rattle.std.specs.List.{All, AllPairs, AllZip, filter, flat_map}
use Rattle.std.specs.Str.{bytes_eq}
use Rattle.std.specs.Cmp.Lexicographic.{bytes_decides}
use Rattle.std.proofs.lemmas.Bool.{cases_lt, false_from_ne_true}
use Rattle.std.proofs.lemmas.List.{length-map}
use Rattle.std.proofs.lemmas.List.Elements.{All-head, All-tail}
use Rattle.std.proofs.lemmas.Option.{same_Some, slice_get_within, get_or_from_slice_get}
use Rattle.mt_text_spec.specs.Registries.{Registry}
use Rattle.mt_text_spec.specs.Texts.{Text, ValidCorpus}
use Rattle.mt_segment_spec.specs.Tables.{Tables, AreTablesOf, AreTablesUnder, heads_of}
use Rattle.mt_corpus_spec.specs.Groups.{Group, ValidGroups, corpus_of, without}
use Rattle.mt_corpus_spec.specs.Images.{Corpus, Image, AreImagesBy}
use Rattle.mt_corpus_spec.specs.Decoded.{group_in, groups_in, images_in, taken_in, texts_in}
use Rattle.mt_decode_laws.specs.Laws.{TextsAreDecoded, ImagesAreDecoded, NumbersAreLive}
use Rattle.mt_corpus.specs.Held.{AreLive, IsHeld, IsLiveAt, IsNamedAt}
use Rattle.mt_corpus.specs.Named.{IsTextAt, SplitsAt}
use Rattle.mt_corpus.proofs.Has.{Has, has_left, has_right}
use Rattle.mt_corpus.proofs.Holding.{place_within}
use Rattle.mt_corpus.proofs.Live.{text_at}
use Rattle.mt_corpus.proofs.Segments.{decoded, left_part, right_part}
use Rattle.mt_corpus.proofs.Sizes.{at_mark}
use Rattle.mt_corpus.proofs.Struck.{corpus_struck, pairs_from_map}

-- ---- a list of texts whose names differ

abbrev AreApart : List Text → Type 0
AreApart texts = AllPairs (λ (text later : Text). text.name ≢ later.name) texts

one_named : (texts : List Text) (a b : Text) → AreApart texts → Has texts a → Has texts b → a.name ≡ b.name → a ≡ b
one_named texts a b apart ha hb same = by (cases_lt ha.at hb.at) (cases_lt hb.at ha.at)
  where
    is : (c : Text) (h : Has texts c) → get_or texts h.at a ≡ c
    is c h = get_or_from_slice_get texts h.at c a h.there

    by : (ha.at < hb.at) ⊎ (hb.at ≤ ha.at) → (hb.at < ha.at) ⊎ (ha.at ≤ hb.at) → a ≡ b
    by (inl l) other = absurd (apart ha.at hb.at a l (slice_get_within texts hb.at b hb.there) (ap (λ (t : Text). t.name) (is a ha) ∙ same ∙ sym (ap (λ (t : Text). t.name) (is b hb))))
    by (inr l) (inl m) = absurd (apart hb.at ha.at a m (slice_get_within texts ha.at a ha.there) (ap (λ (t : Text). t.name) (is b hb) ∙ sym same ∙ sym (ap (λ (t : Text). t.name) (is a ha))))
    by (inr l) (inr m) = let e : ha.at ≡ hb.at = omega arith in sym (is a ha) ∙ ap (λ (k : ℕ). get_or texts k a) e ∙ is b hb

module _ (name : List ℕ) where
  abbrev others : List Text → List Text
  others texts = filter (λ text. not (bytes_eq text.name name)) texts

  all_others : (texts : List Text) → All (λ text. text.name ≢ name) texts → others texts ≡ texts
  all_others [] all = refl
  all_others (text ∷ texts) all =
      let off : bytes_eq text.name name ≡ false = false_from_ne_true (bytes_eq text.name name) (λ on. All-head (λ text. text.name ≢ name) text texts all ((bytes_decides text.name name).0 on)) in
      ap (λ b. cond (not b) (text ∷ others texts) (others texts)) off ∙ ap (λ (ts : List Text). text ∷ ts) (all_others texts (All-tail (λ text. text.name ≢ name) text texts all))

  record Parts (texts : List Text) (text : Text) : Type 0 where
    pub before : List Text
    pub behind : List Text
    pub all : texts ≡ before ++ text ∷ [] ++ behind
    pub rest : others texts ≡ before ++ behind

  parts : (texts : List Text) (k : ℕ) (text : Text) → AreApart texts → slice_get texts k ≡ Some text → text.name ≡ name → Parts texts text
  parts [] k text apart at named = cc
  parts (one ∷ texts) zero text apart at named =
      let is : one ≡ text = same_Some one text at in
      let on : bytes_eq one.name name ≡ true = (bytes_decides one.name name).1 (ap (λ (t : Text). t.name) is ∙ named) in
      record {
        before = [];
        behind = texts;
        all = ap (λ (t : Text). t ∷ texts) is;
        rest =
            ap (λ b. cond (not b) (one ∷ others texts) (others texts)) on
            ∙ all_others texts (λ j d l e. apart 0 (suc j) d (omega arith) (omega (arith, l)) (ap (λ (t : Text). t.name) is ∙ named ∙ sym e));
      }
  parts (one ∷ texts) (suc k) text apart at named =
      let more = parts texts k text (λ i j d l m. apart (suc i) (suc j) d (omega (arith, l)) (omega (arith, m))) at named in
      let there : get_or texts k text ≡ text = get_or_from_slice_get texts k text text at in
      let off : bytes_eq one.name name ≡ false = false_from_ne_true (bytes_eq one.name name)
      (λ on. apart 0 (suc k) text (omega arith) (let l = slice_get_within texts k text at in omega (arith, l)) ((bytes_decides one.name name).0 on ∙ sym named ∙ sym (ap (λ (t : Text). t.name) there))) in
      record {
        before = one ∷ more.before;
        behind = more.behind;
        all = ap (λ (ts : List Text). one ∷ ts) more.all;
        rest = ap (λ b. cond (not b) (one ∷ others texts) (others texts)) off ∙ ap (λ (ts : List Text). one ∷ ts) more.rest;
      }

-- ---- the corpus

module _ (registry : Registry) (groups : List Group) (valid : ValidGroups registry groups) (name : List ℕ) where
  apart_names : AreApart (corpus_of groups)
  apart_names = pairs_from_map (λ (a b : List ℕ). a ≢ b) (λ (text : Text). text.name) (corpus_of groups) valid.distinct

  pub splits : (place : ℕ × ℕ) → IsNamedAt groups place name → SplitsAt groups name
  splits place is =
      let has = text_at groups place is.text is.live in
      let p = parts name (corpus_of groups) has.at is.text apart_names has.there is.named in
      record { text = is.text; before = p.before; behind = p.behind; named = is.named; all = p.all; rest = corpus_struck name groups ∙ p.rest }

  pub only_split : (place : ℕ × ℕ) (is : IsNamedAt groups place name) (other : SplitsAt groups name) → other.text ≡ is.text
  only_split place is other =
      one_named (corpus_of groups) other.text is.text apart_names
      (subst (λ (ts : List Text). Has ts other.text) (sym other.all) (has_left (other.before ++ other.text ∷ []) other.behind other.text (has_right other.before (other.text ∷ []) other.text (record { at = 0; there = refl }))))
      (text_at groups place is.text is.live) (other.named ∙ sym is.named)

-- ---- its segment

abbrev Agrees : (images : List ℕ → List ℕ → List ℕ) → Image → Type 0
Agrees images each = images each.mapper each.value ≡ each.image

abbrev head_of : Text → List ℕ × ℕ
head_of text = (text.name, length text.tokens)

record Stands (registry : Registry) (taken : List Image) (tables : Tables) (number : ℕ) (text : Text) : Type 0 where
  pub texts : List Text
  pub valid : ValidCorpus registry texts
  pub under : AreTablesUnder registry tables
  pub are : (images : List ℕ → List ℕ → List ℕ) → AreImagesBy images taken → AreTablesOf images registry texts tables
  pub there : slice_get texts number ≡ Some text
  pub within : number < length tables.texts

in_tables : (corpus : List Text) (tables : Tables) (t : ℕ) → tables.texts ≡ heads_of corpus → t < length corpus → t < length tables.texts
in_tables corpus tables t e l = omega (arith, l, ap length e, length-map corpus head_of)

part_of : {X Y : Type 0} (P : Y → Type 0) (f : X → List Y) (xs : List X) (i : ℕ) (d : X) → i < length xs → All P (flat_map f xs) → All P (f (get_or xs i d))
part_of P f [] i d l all = absurd (omega (arith, l))
part_of P f (x ∷ xs) zero d l all = left_part P (f x) (flat_map f xs) all
part_of P f (x ∷ xs) (suc i) d l all = part_of P f xs i d (omega (arith, l)) (right_part P (f x) (flat_map f xs) all)

-- the group of the segment with a number
group_at : (registry : Registry) (segments : List Tables) (live : List (List ℕ)) (s : ℕ) (group : Group) (d : Tables) → AllZip AreLive segments live → slice_get (groups_in registry segments live) s ≡ Some group →
    group_in registry (get_or segments s d) (get_or live s []) ≡ group
group_at registry [] live s group d are e = cc
group_at registry (tables ∷ segments) [] s group d are e = absurd are
group_at registry (tables ∷ segments) (ns ∷ live) zero group d are e = same_Some (group_in registry tables ns) group e
group_at registry (tables ∷ segments) (ns ∷ live) (suc s) group d are e = group_at registry segments live s group d are.1 e

module _ (law : TextsAreDecoded) (numbers : NumbersAreLive) (images_law : ImagesAreDecoded) (registry : Registry) (tables : Tables) (one : AreTablesUnder registry tables) where
  text_there : (live : List ℕ) (t : ℕ) (text : Text) → slice_get (group_in registry tables live) t ≡ Some (text, true) → slice_get one.by.corpus t ≡ Some text
  text_there live t text at = ap (λ (ts : List Text). slice_get ts t) (sym (decoded law numbers registry tables one)) ∙ at_mark (texts_in registry tables) 0 t live text at

  tables_are : (images : List ℕ → List ℕ → List ℕ) → AreImagesBy images (images_in registry tables) → AreTablesOf images registry one.by.corpus tables
  tables_are images by = (images_law one.images registry one.by.corpus tables one.by.valid one.by.are).others images by

  stands_one : (taken : List Image) (live : List ℕ) (t : ℕ) (text : Text) → ((images : List ℕ → List ℕ → List ℕ) → AreImagesBy images taken → AreImagesBy images (images_in registry tables)) →
      slice_get (group_in registry tables live) t ≡ Some (text, true) → Stands registry taken tables t text
  stands_one taken live t text part at = record {
    texts = one.by.corpus;
    valid = one.by.texts;
    under = one;
    are = λ images by. tables_are images (part images by);
    there = text_there live t text at;
    within = in_tables one.by.corpus tables t one.by.are.texts (slice_get_within one.by.corpus t text (text_there live t text at));
  }

stands : TextsAreDecoded → NumbersAreLive → ImagesAreDecoded → (registry : Registry) (segments : List Tables) (live : List (List ℕ)) (s t : ℕ) (text : Text) (group : Group) (d : Tables) → All (AreTablesUnder registry) segments → AllZip AreLive segments live →
    s < length segments → slice_get (groups_in registry segments live) s ≡ Some group → slice_get group t ≡ Some (text, true) → Stands registry (taken_in registry segments) (get_or segments s d) t text
stands law numbers images_law registry segments live s t text group d under are l e f =
    stands_one law numbers images_law registry (get_or segments s d) (under s d l) (taken_in registry segments) (get_or live s []) t text
    (λ images by. part_of (Agrees images) (images_in registry) segments s d l by)
    (ap (λ (g : Group). slice_get g t) (group_at registry segments live s group d are e) ∙ f)

module _ (registry : Registry) (segments : List Tables) (live : List (List ℕ)) (places : List ℕ → Option (ℕ × ℕ)) (texts tokens : ℕ) (h : IsHeld registry segments live places texts tokens)
    (name : List ℕ) (place : ℕ × ℕ) (at : Some place ≡ places name) where
  abbrev there : IsNamedAt (groups_in registry segments live) place name
  there = h.named.only name place (sym at)

  pub splits_there : SplitsAt (groups_in registry segments live) name
  splits_there = splits registry (groups_in registry segments live) h.groups name place there

  pub found_there : TextsAreDecoded → NumbersAreLive → ImagesAreDecoded → (tables : Tables) → tables ≡ get_or segments place.0 tables →
      IsTextAt (record { registry = registry; groups = groups_in registry segments live; taken = taken_in registry segments }) name tables place.1
  found_there law numbers images_law tables e =
      let s = subst (λ (t : Tables). Stands registry (taken_in registry segments) t place.1 there.text) (sym e)
      (stands law numbers images_law registry segments live place.0 place.1 there.text there.live.group tables h.tables h.numbers (place_within registry segments live places texts tokens h name place at) there.live.there there.live.live) in
      record {
        texts = s.texts;
        valid = s.valid;
        under = s.under;
        are = s.are;
        text = there.text;
        there = s.there;
        within = s.within;
        split = splits_there;
        only = only_split registry (groups_in registry segments live) h.groups name place there;
      }
