-- Groups once the text of a name is removed.
use Rattle.std.proofs.Common.{◌≡◌, ◌≢◌, ℕ, ◌<◌, ◌≤◌, Bool, true, false, cond, not, List, [], ◌∷◌, ◌++◌, length, map, get_or, slice_get, Option, None, Some, option_map, refl, sym, ◌∙◌, ap, ap₂, subst, arith}
use Rattle.std.specs.List.{All, AllPairs, filter}
use Rattle.std.specs.Str.{bytes_eq}
use Rattle.std.specs.Cmp.Lexicographic.{bytes_decides}
use Rattle.std.proofs.lemmas.Bool.{and_parts, false_from_ne_true, not-true}
use Rattle.std.proofs.lemmas.List.{get_or-map, length-map}
use Rattle.std.proofs.lemmas.List.Elements.{filter-append}
use Rattle.std.proofs.lemmas.List.Kept.{AllPairs-filter}
use Rattle.std.proofs.lemmas.Option.{same_Some, slice_get-map}
use Rattle.mt_text_spec.specs.Registries.{Registry}
use Rattle.mt_text_spec.specs.Texts.{Text, ValidText, total_tokens}
use Rattle.mt_corpus_spec.specs.Groups.{Group, ValidGroups, all_texts, corpus_of, kept_texts, live_texts, struck, without}
use Rattle.mt_corpus.specs.Held.{IsLiveAt, IsNamedAt, TellPlaces}

-- ---- pairs of what is made of items

pub pairs_from_map : {X Y : Type 0} (R : Y → Y → Type 0) (f : X → Y) (xs : List X) → AllPairs R (map f xs) → AllPairs (λ x y. R (f x) (f y)) xs
pairs_from_map R f xs h = λ i j d l m.
    let first : i < length xs = omega arith in
    subst (λ y. R (f (get_or xs i d)) y) (get_or-map f xs j d (f d) m) (subst (λ x. R x (get_or (map f xs) j (f d))) (get_or-map f xs i d (f d) first) (h i j (f d) l (omega (arith, length-map xs f))))

pub pairs_to_map : {X Y : Type 0} (R : Y → Y → Type 0) (f : X → Y) (xs : List X) → ((i j : ℕ) (d : X) → i < j → j < length xs → R (f (get_or xs i d)) (f (get_or xs j d))) → AllPairs R (map f xs)
pairs_to_map R f [] h = λ i j d l m. absurd (omega (arith, m))
pairs_to_map R f (x ∷ xs) h = λ i j d l m.
    let second : j < length (x ∷ xs) = omega (arith, m, length-map xs f) in
    let first : i < length (x ∷ xs) = omega arith in
    subst (λ y. R (get_or (map f (x ∷ xs)) i d) y) (sym (get_or-map f (x ∷ xs) j x d second)) (subst (λ z. R z (f (get_or (x ∷ xs) j x))) (sym (get_or-map f (x ∷ xs) i x d first)) (h i j x l second))

abbrev Differ : List ℕ → List ℕ → Type 0
Differ a b = a ≢ b

-- ---- one group

module _ (name : List ℕ) where
  live_struck : (group : Group) → live_texts (map (struck name) group) ≡ filter (λ text. not (bytes_eq text.name name)) (live_texts group)
  live_struck [] = refl
  live_struck ((text, true) ∷ group) = by (not (bytes_eq text.name name)) (live_struck group)
    where
      by : (b : Bool) → live_texts (map (struck name) group) ≡ filter (λ t. not (bytes_eq t.name name)) (live_texts group) →
          live_texts ((text, b) ∷ map (struck name) group) ≡ cond b (text ∷ filter (λ t. not (bytes_eq t.name name)) (live_texts group)) (filter (λ t. not (bytes_eq t.name name)) (live_texts group))
      by true h = ap (λ ts. text ∷ ts) h
      by false h = h
  live_struck ((text, false) ∷ group) = live_struck group

  all_struck : (group : Group) → all_texts (map (struck name) group) ≡ all_texts group
  all_struck [] = refl
  all_struck (member ∷ group) = ap (λ ts. member.0 ∷ ts) (all_struck group)

  -- ---- all groups

  pub corpus_struck : (groups : List Group) → corpus_of (without name groups) ≡ filter (λ text. not (bytes_eq text.name name)) (corpus_of groups)
  corpus_struck [] = refl
  corpus_struck (group ∷ groups) = ap₂ (λ (a b : List Text). a ++ b) (live_struck group) (corpus_struck groups) ∙ sym (filter-append (λ (text : Text). not (bytes_eq text.name name)) (live_texts group) (corpus_of groups))

  pub kept_struck : (groups : List Group) → kept_texts (without name groups) ≡ kept_texts groups
  kept_struck [] = refl
  kept_struck (group ∷ groups) = ap₂ (λ (a b : List Text). a ++ b) (all_struck group) (kept_struck groups)

  pub valid_struck : (registry : Registry) (groups : List Group) → ValidGroups registry groups → ValidGroups registry (without name groups)
  valid_struck registry groups v = record {
    texts = subst (All (ValidText registry)) (sym (kept_struck groups)) v.texts;
    distinct =
        subst (λ (ts : List Text). AllPairs (λ (a b : List ℕ). a ≢ b) (map (λ text. text.name) ts)) (sym (corpus_struck groups)) (pairs_to_map Differ (λ (text : Text). text.name) (filter (λ text. not (bytes_eq text.name name)) (corpus_of groups))
        (AllPairs-filter (λ (text later : Text). text.name ≢ later.name) (λ (text : Text). not (bytes_eq text.name name)) (corpus_of groups) (pairs_from_map Differ (λ (text : Text). text.name) (corpus_of groups) v.distinct)));
    few = subst (λ (ts : List Text). length ts ≤ 65536) (sym (kept_struck groups)) v.few;
    short = subst (λ (ts : List Text). total_tokens ts ≤ 4194304) (sym (kept_struck groups)) v.short;
    some = λ k d l.
        let low : k < length groups = omega (arith, l, length-map groups (λ (group : Group). map (struck name) group)) in
        subst (λ (g : Group). 0 < length g) (sym (get_or-map (λ (group : Group). map (struck name) group) groups k d d low)) (omega (arith, length-map (get_or groups k d) (struck name), v.some k d low));
  }

  -- ---- places

  pub was_live : (groups : List Group) (place : ℕ × ℕ) (text : Text) → IsLiveAt (without name groups) place text → IsLiveAt groups place text × (bytes_eq text.name name ≡ false)
  was_live groups place text h =
      let (old, there, is) = was (slice_get groups place.0) refl (sym (slice_get-map (λ (group : Group). map (struck name) group) groups place.0) ∙ h.there) in
      let member = had old (slice_get old place.1) refl (sym (slice_get-map (struck name) old place.1) ∙ ap (λ (g : Group). slice_get g place.1) is ∙ h.live) in
      (record { group = old; there = there; live = member.0 }, member.1)
    where
      was : (o : Option Group) → slice_get groups place.0 ≡ o → option_map (λ (group : Group). map (struck name) group) o ≡ Some h.group → (old : Group) × (slice_get groups place.0 ≡ Some old) × (map (struck name) old ≡ h.group)
      was None e f = cc
      was (Some old) e f = (old, e, same_Some (map (struck name) old) h.group f)

      had : (old : Group) (o : Option (Text × Bool)) → slice_get old place.1 ≡ o → option_map (struck name) o ≡ Some (text, true) → (slice_get old place.1 ≡ Some (text, true)) × (bytes_eq text.name name ≡ false)
      had old None e f = cc
      had old (Some (one, live)) e f =
          let g = same_Some (struck name (one, live)) (text, true) f in
          let is : one ≡ text = ap (λ (m : Text × Bool). m.0) g in
          let parts = and_parts live (not (bytes_eq one.name name)) (ap (λ (m : Text × Bool). m.1) g) in
          (e ∙ ap₂ (λ (t : Text) (b : Bool). Some (t, b)) is parts.0, not-true (bytes_eq text.name name) (ap (λ (t : Text). not (bytes_eq t.name name)) (sym is) ∙ parts.1))

  pub still_live : (groups : List Group) (place : ℕ × ℕ) (text : Text) → IsLiveAt groups place text → bytes_eq text.name name ≡ false → IsLiveAt (without name groups) place text
  still_live groups place text h other = record {
    group = map (struck name) h.group;
    there = slice_get-map (λ (group : Group). map (struck name) group) groups place.0 ∙ ap (option_map (λ (group : Group). map (struck name) group)) h.there;
    live = slice_get-map (struck name) h.group place.1 ∙ ap (option_map (struck name)) h.live ∙ ap (λ (b : Bool). Some (text, not b)) other;
  }

  -- what a table tells once the name is taken out
  pub places_struck : (groups : List Group) (places new : List ℕ → Option (ℕ × ℕ)) → TellPlaces groups places → ((q : List ℕ) → new q ≡ cond (bytes_eq name q) None (places q)) → TellPlaces (without name groups) new
  places_struck groups places new tell updates = record {
    known = λ place text h.
        let (old, other) = was_live groups place text h in
        let off : bytes_eq name text.name ≡ false = ne name text.name (λ e. let f : bytes_eq text.name name ≡ true = (bytes_decides text.name name).1 (sym e) in cc) in
        updates text.name ∙ ap (λ b. cond b None (places text.name)) off ∙ tell.known place text old;
    only = λ q place e. by q place (bytes_eq name q) refl (sym (updates q) ∙ e);
  }
    where
      ne : (a b : List ℕ) → (a ≡ b → ⊥) → bytes_eq a b ≡ false
      ne a b h = false_from_ne_true (bytes_eq a b) (λ e. h ((bytes_decides a b).0 e))

      by : (q : List ℕ) (place : ℕ × ℕ) (b : Bool) → bytes_eq name q ≡ b → cond (bytes_eq name q) None (places q) ≡ Some place → IsNamedAt (without name groups) place q
      by q place true on e = let f : None ≡ Some place = ap (λ b. cond b None (places q)) (sym on) ∙ e in cc
      by q place false off e =
          let is = tell.only q place (ap (λ b. cond b None (places q)) (sym off) ∙ e) in
          let other : bytes_eq is.text.name name ≡ false = ne is.text.name name (λ f. let g : bytes_eq name q ≡ true = (bytes_decides name q).1 (sym f ∙ is.named) in cc) in
          record { text = is.text; live = still_live groups place is.text is.live other; named = is.named }
