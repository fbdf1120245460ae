-- Segments and the groups to which they are decoded.
use Rattle.std.proofs.Common.{◌≡◌, ℕ, zero, suc, ◌+◌, ◌==◌, ◌&&◌, ◌||◌, not, Bool, true, false, cond, List, [], ◌∷◌, ◌++◌, length, length-append, map, set, get_or, slice_get, Option, Some, refl, sym, ◌∙◌, ap, ap₂, subst, arith}
use Rattle.std.specs.List.{All, AllZip, filter}
use Rattle.std.specs.Str.{bytes_eq}
use Rattle.std.specs.Cmp.Lexicographic.{bytes_decides}
use Rattle.std.proofs.lemmas.Bool.{false_from_ne_true, eqb-true, eq-eqb}
use Rattle.std.proofs.lemmas.Bool.Decides.{nat_tests}
use Rattle.std.proofs.lemmas.List.{get_or-append-add, get_or_append_left, length-map}
use Rattle.std.proofs.lemmas.List.Elements.{All-head, All-tail}
use Rattle.std.proofs.lemmas.Option.{same_Some}
use Rattle.mt_text_spec.specs.Registries.{Registry}
use Rattle.mt_text_spec.specs.Texts.{Text}
use Rattle.mt_segment_spec.specs.Tables.{Tables, AreTablesOf, AreTablesUnder}
use Rattle.mt_corpus_spec.specs.Groups.{Group, all_texts, alone, struck, without}
use Rattle.mt_corpus_spec.specs.Images.{Image, AreImagesBy}
use Rattle.mt_corpus_spec.specs.Segments.{live_numbers}
use Rattle.mt_corpus_spec.specs.Decoded.{group_in, groups_in, images_in, is_among, marked, taken_in, texts_in}
use Rattle.mt_decode_laws.specs.Laws.{IsMarked, TextsAreDecoded, ImagesAreDecoded, NumbersAreLive}
use Rattle.mt_corpus.specs.Held.{AreLive, IsLiveAt, TellPlaces}

-- ---- a segment stands for its group

module _ (texts : TextsAreDecoded) (numbers : NumbersAreLive) (registry : Registry) (tables : Tables) (under : AreTablesUnder registry tables) where
  pub decoded : texts_in registry tables ≡ under.by.corpus
  decoded = texts under.images registry under.by.corpus tables under.by.texts.texts under.by.are

  heads_long : length tables.texts ≡ length (texts_in registry tables)
  heads_long = ap length under.by.are.texts ∙ length-map under.by.corpus (λ (t : Text). (t.name, length t.tokens)) ∙ ap length (sym decoded)

  module _ (live : List ℕ) (are : AreLive tables live) where
    marks : IsMarked (texts_in registry tables) live
    marks = numbers (texts_in registry tables) live are.ascending (λ k d l. let low = are.within k d l in omega (arith, low, heads_long))

    pub group_texts : all_texts (group_in registry tables live) ≡ under.by.corpus
    group_texts = marks.texts_are ∙ decoded

    pub group_live : live_numbers 0 (group_in registry tables live) ≡ live
    group_live = marks.live_are

-- a text of a group, with whether it is live
abbrev member : Text → Bool → Text × Bool
member text live = (text, live)

pub left_part : {X : Type 0} (P : X → Type 0) (xs ys : List X) → All P (xs ++ ys) → All P xs
left_part P xs ys h = λ k d l. subst P (get_or_append_left xs ys d k l) (h k d (omega (arith, l, length-append xs ys)))

pub right_part : {X : Type 0} (P : X → Type 0) (xs ys : List X) → All P (xs ++ ys) → All P ys
right_part P xs ys h = λ k d l. subst P (get_or-append-add xs ys k d) (h (length xs + k) d (omega (arith, l, length-append xs ys)))

-- ---- all segments stand for their groups

module _ (texts : TextsAreDecoded) (numbers : NumbersAreLive) (registry : Registry) where
  pub all_marks : (segments : List Tables) (live : List (List ℕ)) → All (AreTablesUnder registry) segments → AllZip AreLive segments live → live ≡ map (live_numbers 0) (groups_in registry segments live)
  all_marks [] [] under are = refl
  all_marks [] (ns ∷ live) under are = absurd are
  all_marks (tables ∷ segments) [] under are = absurd are
  all_marks (tables ∷ segments) (ns ∷ live) under are =
      ap₂ (λ (n : List ℕ) (more : List (List ℕ)). n ∷ more) (sym (group_live texts numbers registry tables (All-head (AreTablesUnder registry) tables segments under) ns are.0))
      (all_marks segments live (All-tail (AreTablesUnder registry) tables segments under) are.1)

  module _ (images_law : ImagesAreDecoded) (images : List ℕ → List ℕ → List ℕ) where
    pub all_tables : (segments : List Tables) (live : List (List ℕ)) → All (AreTablesUnder registry) segments → AllZip AreLive segments live → AreImagesBy images (taken_in registry segments) →
        AllZip (λ group tables. AreTablesOf images registry (all_texts group) tables) (groups_in registry segments live) segments
    all_tables [] [] under are by = tt
    all_tables [] (ns ∷ live) under are by = absurd are
    all_tables (tables ∷ segments) [] under are by = absurd are
    all_tables (tables ∷ segments) (ns ∷ live) under are by =
        let one = All-head (AreTablesUnder registry) tables segments under in
        let its = images_law one.images registry one.by.corpus tables one.by.valid one.by.are in
        let made : AreTablesOf images registry one.by.corpus tables = its.others images (left_part (λ (each : Image). images each.mapper each.value ≡ each.image) (images_in registry tables) (taken_in registry segments) by) in (
          subst (λ (ts : List Text). AreTablesOf images registry ts tables) (sym (group_texts texts numbers registry tables one ns are.0)) made,
          all_tables segments live (All-tail (AreTablesUnder registry) tables segments under) are.1 (right_part (λ (each : Image). images each.mapper each.value ≡ each.image) (images_in registry tables) (taken_in registry segments) by),
        )

-- ---- a segment more

pub groups_long : (registry : Registry) (segments : List Tables) (live : List (List ℕ)) → AllZip AreLive segments live → length (groups_in registry segments live) ≡ length segments
groups_long registry [] [] are = refl
groups_long registry [] (ns ∷ live) are = absurd are
groups_long registry (tables ∷ segments) [] are = absurd are
groups_long registry (tables ∷ segments) (ns ∷ live) are = ap suc (groups_long registry segments live are.1)

pub groups_more : (registry : Registry) (segments : List Tables) (live : List (List ℕ)) (tables : Tables) (ns : List ℕ) → AllZip AreLive segments live →
    groups_in registry (segments ++ tables ∷ []) (live ++ ns ∷ []) ≡ groups_in registry segments live ++ group_in registry tables ns ∷ []
groups_more registry [] [] tables ns are = refl
groups_more registry [] (n ∷ live) tables ns are = absurd are
groups_more registry (t ∷ segments) [] tables ns are = absurd are
groups_more registry (t ∷ segments) (n ∷ live) tables ns are = ap (λ (gs : List Group). group_in registry t n ∷ gs) (groups_more registry segments live tables ns are.1)

pub group_alone : (registry : Registry) (tables : Tables) (text : Text) → texts_in registry tables ≡ text ∷ [] → group_in registry tables (0 ∷ []) ≡ alone text
group_alone registry tables text e = ap (λ (ts : List Text). marked 0 ts (0 ∷ [])) e

-- ---- a number less

among_filter : (live : List ℕ) (t k : ℕ) → is_among (filter (λ n. not (n == t)) live) k ≡ is_among live k && not (k == t)
among_filter [] t k = refl
among_filter (n ∷ live) t k = by (n == t) refl (among_filter live t k)
  where
    apart : (b : Bool) → (k == t) ≡ b → (n == t) ≡ false → is_among (filter (λ n. not (n == t)) live) k ≡ is_among live k && not b → ((n == k) || is_among (filter (λ n. not (n == t)) live) k) ≡ (((n == k) || is_among live k) && not b)
    apart true e off h =
        let none : (n == k) ≡ false = false_from_ne_true (n == k) (λ f. let g : (n == t) ≡ true = eq-eqb n t (eqb-true n k f ∙ eqb-true k t e) in cc) in
        ap₂ (λ (a b : Bool). a || b) none h ∙ last (is_among live k) ∙ sym (last ((n == k) || is_among live k))
      where
        last : (c : Bool) → (c && false) ≡ false
        last true = refl
        last false = refl
    apart false e off h = ap (λ b. (n == k) || b) (h ∙ whole (is_among live k)) ∙ sym (whole ((n == k) || is_among live k))
      where
        whole : (c : Bool) → (c && true) ≡ c
        whole true = refl
        whole false = refl

    by : (b : Bool) → (n == t) ≡ b → is_among (filter (λ n. not (n == t)) live) k ≡ is_among live k && not (k == t) → is_among (filter (λ n. not (n == t)) (n ∷ live)) k ≡ ((n == k) || is_among live k) && not (k == t)
    by true on h =
        ap (λ b. is_among (cond (not b) (n ∷ filter (λ n. not (n == t)) live) (filter (λ n. not (n == t)) live)) k) on ∙ h ∙ same (n == k) refl
      where
        same : (b : Bool) → (n == k) ≡ b → (is_among live k && not (k == t)) ≡ ((b || is_among live k) && not (k == t))
        same true e = let f : (k == t) ≡ true = eq-eqb k t (sym (eqb-true n k e) ∙ eqb-true n t on) in ap (λ b. is_among live k && not b) f ∙ last (is_among live k) ∙ ap (λ b. not b) (sym f)
          where
            last : (c : Bool) → (c && false) ≡ false
            last true = refl
            last false = refl
        same false e = refl
    by false off h = ap (λ b. is_among (cond (not b) (n ∷ filter (λ n. not (n == t)) live) (filter (λ n. not (n == t)) live)) k) off ∙ apart (k == t) refl off h

module _ (name : List ℕ) where
  -- a group where no live text has the name
  untouched : (group : Group) → ((k : ℕ) (text : Text) → slice_get group k ≡ Some (text, true) → bytes_eq text.name name ≡ false) → map (struck name) group ≡ group
  untouched [] other = refl
  untouched ((text, live) ∷ group) other = ap₂ (λ (b : Bool) (members : Group). (text, b) ∷ members) (by live (other 0 text)) (untouched group (λ k t e. other (suc k) t e))
    where
      by : (b : Bool) → (Some (member text b) ≡ Some (member text true) → bytes_eq text.name name ≡ false) → (b && not (bytes_eq text.name name)) ≡ b
      by true h = ap not (h refl)
      by false h = refl

  untouched_all : (groups : List Group) → ((place : ℕ × ℕ) (text : Text) → IsLiveAt groups place text → bytes_eq text.name name ≡ false) → without name groups ≡ groups
  untouched_all [] other = refl
  untouched_all (group ∷ groups) other =
      ap₂ (λ (g : Group) (gs : List Group). g ∷ gs) (untouched group (λ k t e. other (0, k) t (record { group = group; there = refl; live = e })))
      (untouched_all groups (λ place t h. other (suc place.0, place.1) t (record { group = h.group; there = h.there; live = h.live })))

  -- the group where one has it
  dropped : (texts : List Text) (first t : ℕ) (live : List ℕ) → ((k : ℕ) (text : Text) → slice_get (marked first texts live) k ≡ Some (text, true) → bytes_eq text.name name ≡ (first + k == t)) →
      marked first texts (filter (λ n. not (n == t)) live) ≡ map (struck name) (marked first texts live)
  dropped [] first t live same = refl
  dropped (text ∷ texts) first t live same =
      ap₂ (λ (b : Bool) (members : Group). (text, b) ∷ members) (among_filter live t first ∙ by (is_among live first) (same 0 text))
      (dropped texts (first + 1) t live (λ k one e. same (suc k) one e ∙ (let f : first + suc k ≡ first + 1 + k = omega arith in ap (λ n. n == t) f)))
    where
      by : (b : Bool) → (Some (member text b) ≡ Some (member text true) → bytes_eq text.name name ≡ (first + 0 == t)) → (b && not (first == t)) ≡ (b && not (bytes_eq text.name name))
      by true h = let f : first + 0 ≡ first = omega arith in ap not (sym (h refl ∙ ap (λ n. n == t) f))
      by false h = refl

  pub dropped_all : (registry : Registry) (segments : List Tables) (live : List (List ℕ)) (s t : ℕ) → AllZip AreLive segments live →
      ((place : ℕ × ℕ) (text : Text) → IsLiveAt (groups_in registry segments live) place text → bytes_eq text.name name ≡ ((place.0 == s) && (place.1 == t))) →
      groups_in registry segments (set live s (filter (λ n. not (n == t)) (get_or live s []))) ≡ without name (groups_in registry segments live)
  dropped_all registry [] [] s t are same = refl
  dropped_all registry [] (ns ∷ live) s t are same = absurd are
  dropped_all registry (tables ∷ segments) [] s t are same = absurd are
  dropped_all registry (tables ∷ segments) (ns ∷ live) zero t are same =
      ap₂ (λ (g : Group) (gs : List Group). g ∷ gs)
      (dropped (texts_in registry tables) 0 t ns (λ k text e. same (0, k) text (record { group = group_in registry tables ns; there = refl; live = e }) ∙ (let f : 0 + k ≡ k = omega arith in ap (λ n. n == t) (sym f))))
      (sym (untouched_all (groups_in registry segments live) (λ place text h. same (suc place.0, place.1) text (record { group = h.group; there = h.there; live = h.live }) ∙ ap (λ b. b && (place.1 == t)) (behind place.0))))
    where
      behind : (n : ℕ) → (suc n == 0) ≡ false
      behind n = grind (arith, nat_tests)
  dropped_all registry (tables ∷ segments) (ns ∷ live) (suc s) t are same =
      ap₂ (λ (g : Group) (gs : List Group). g ∷ gs)
      (sym (untouched (group_in registry tables ns) (λ k text e. same (0, k) text (record { group = group_in registry tables ns; there = refl; live = e }) ∙ ap (λ b. b && (k == t)) (before s))))
      (dropped_all registry segments live s t are.1 (λ place text h. same (suc place.0, place.1) text (record { group = h.group; there = h.there; live = h.live }) ∙ ap (λ b. b && (place.1 == t)) (next place.0 s)))
    where
      before : (n : ℕ) → (0 == suc n) ≡ false
      before n = grind (arith, nat_tests)

      next : (m n : ℕ) → (suc m == suc n) ≡ (m == n)
      next m n = grind (arith, nat_tests)

  -- the name is that of the text at its place, and of no other
  pub only_there : (groups : List Group) (places : List ℕ → Option (ℕ × ℕ)) (s t : ℕ) → TellPlaces groups places → places name ≡ Some (s, t) → (place : ℕ × ℕ) (text : Text) → IsLiveAt groups place text →
      bytes_eq text.name name ≡ ((place.0 == s) && (place.1 == t))
  only_there groups places s t tell at place text h = by (bytes_eq text.name name) refl
    where
      here : place.0 ≡ s → place.1 ≡ t → text.name ≡ name
      here e f =
          let is = tell.only name (s, t) at in
          let group : h.group ≡ is.live.group = same_Some h.group is.live.group (sym h.there ∙ ap (slice_get groups) e ∙ is.live.there) in
          let member = same_Some (text, true) (is.text, true) (sym h.live ∙ ap₂ (λ (g : Group) (k : ℕ). slice_get g k) group f ∙ is.live.live) in
          ap (λ (m : Text × Bool). m.0.name) member ∙ is.named

      by : (b : Bool) → bytes_eq text.name name ≡ b → bytes_eq text.name name ≡ ((place.0 == s) && (place.1 == t))
      by true on =
          let told : places name ≡ Some place = ap places (sym ((bytes_decides text.name name).0 on)) ∙ tell.known place text h in
          let is = same_Some place (s, t) (sym told ∙ at) in
          on ∙ sym (ap₂ (λ (a b : Bool). a && b) (eq-eqb place.0 s (ap (λ (p : ℕ × ℕ). p.0) is)) (eq-eqb place.1 t (ap (λ (p : ℕ × ℕ). p.1) is)))
      by false off = off ∙ sym (no (place.0 == s) (place.1 == t) refl refl)
        where
          no : (a b : Bool) → (place.0 == s) ≡ a → (place.1 == t) ≡ b → (a && b) ≡ false
          no true true e f = let g : bytes_eq text.name name ≡ true = (bytes_decides text.name name).1 (here (eqb-true place.0 s e) (eqb-true place.1 t f)) in cc
          no true false e f = refl
          no false b e f = refl
