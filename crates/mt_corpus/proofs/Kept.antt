-- The first items of each name that passes: how they are found from the back, and that they are found by their names as before.
use Rattle.std.proofs.Common.{◌≡◌, ℕ, ◌+◌, ◌-◌, ◌<◌, ◌≤◌, ◌&&◌, ◌||◌, Bool, true, false, not, List, [], ◌∷◌, ◌++◌, length, map, take, drop, get_or, slice_get, Some, refl, sym, ◌∙◌, ap, ap₂, subst, arith, append_assoc, length-append, length-take, is_some}
use Rattle.std.specs.List.{Contains, list_any}
use Rattle.std.specs.Str.{bytes_eq}
use Rattle.std.specs.Cmp.Lexicographic.{bytes_decides}
use Rattle.std.proofs.lemmas.Bool.{cond-true, cond-false}
use Rattle.std.proofs.lemmas.List.{take_at, drop_at, get_or_at, drop_more, take_all, drop_all, append-nil}
use Rattle.std.proofs.lemmas.Grind.{take_at_read}
use Rattle.std.proofs.lemmas.List.Folds.{list_any-append, list_any_at}
use Rattle.std.proofs.lemmas.Option.{slice_get-get_or, get_or_from_slice_get}
use Rattle.std.proofs.lemmas.List.Elements.{Contains-get_or}
use Rattle.std.proofs.lemmas.Map.Views.{Contains-from_any}
use Rattle.mt_text_spec.specs.Registries.{Attr, Registry}
use Rattle.mt_segment.specs.Mappers.{AreThere, image_by, named}
use Rattle.mt_corpus.specs.Keeping.{AgreeWith, firsts, is_first, is_named}

module _ {X : Type 0} (called : X → List ℕ) (passes : List ℕ → Bool) where
  first_taken : (before : List X) (x : X) (xs : List X) → is_first called passes before x ≡ true → firsts called passes before (x ∷ xs) ≡ x ∷ firsts called passes (before ++ x ∷ []) xs
  unfolding firsts
  first_taken before x xs t = cond-true (is_first called passes before x) (x ∷ firsts called passes (before ++ x ∷ []) xs) (firsts called passes (before ++ x ∷ []) xs) t

  first_dropped : (before : List X) (x : X) (xs : List X) → is_first called passes before x ≡ false → firsts called passes before (x ∷ xs) ≡ firsts called passes (before ++ x ∷ []) xs
  unfolding firsts
  first_dropped before x xs f = cond-false (is_first called passes before x) (x ∷ firsts called passes (before ++ x ∷ []) xs) (firsts called passes (before ++ x ∷ []) xs) f

  none_kept : (before : List X) → firsts called passes before [] ≡ []
  unfolding firsts
  none_kept before = refl

  -- ---- from the back

  -- the items before this place, and those that are kept of the others
  abbrev pub kept_from : List X → ℕ → List X
  kept_from xs n = take n xs ++ firsts called passes (take n xs) (drop n xs)

  -- one place earlier
  pub record Turn (xs ys : List X) (n : ℕ) : Type 0 where
    pub item : X
    pub there : slice_get ys n ≡ Some item
    pub kept : is_first called passes (take n ys) item ≡ true → ys ≡ kept_from xs n
    pub dropped : is_first called passes (take n ys) item ≡ false → take n ys ++ drop (n + 1) ys ≡ kept_from xs n

  turn_with : (d : X) (xs ys : List X) (n : ℕ) → n < length xs → ys ≡ kept_from xs (n + 1) → Turn xs ys n
  turn_with d xs ys n l e = record {
    item = item;
    there = ap (λ (all : List X). slice_get all n) whole ∙ slice_get-get_or (before ++ item ∷ others) n d within ∙ ap Some (get_or_at before item others d n at);
    kept = λ t. whole ∙ ap (λ (all : List X). before ++ all) (sym (first_taken before item after (subst (λ (all : List X). is_first called passes all item ≡ true) front t)) ∙ sym here);
    dropped = λ f. ap₂ (λ (all more : List X). all ++ more) front back ∙ ap (λ (all : List X). before ++ all) (sym (first_dropped before item after (subst (λ (all : List X). is_first called passes all item ≡ false) front f)) ∙ sym here);
  }
    where
      item : X
      item = get_or xs n d

      before : List X
      before = take n xs

      after : List X
      after = drop (n + 1) xs

      others : List X
      others = firsts called passes (before ++ item ∷ []) after

      at : length (take n xs) ≡ n
      at = omega (arith, length-take n xs)

      here : firsts called passes (take n xs) (drop n xs) ≡ firsts called passes (take n xs) (get_or xs n d ∷ drop (n + 1) xs)
      here = ap (firsts called passes (take n xs)) (drop_more xs n d l)

      split : ys ≡ (take n xs ++ get_or xs n d ∷ []) ++ firsts called passes (take n xs ++ get_or xs n d ∷ []) (drop (n + 1) xs)
      split = e ∙ ap (λ (all : List X). all ++ firsts called passes all (drop (n + 1) xs)) (take_at_read xs n d l).1

      whole : ys ≡ before ++ item ∷ others
      whole = split ∙ append_assoc before (item ∷ []) others

      within : n < length (before ++ item ∷ others)
      within = omega (arith, length-append before (item ∷ others), at)

      front : take n ys ≡ before
      front = ap (take n) whole ∙ take_at before (item ∷ others) n at

      back : drop (n + 1) ys ≡ others
      back = ap (drop (n + 1)) split ∙ drop_at (before ++ item ∷ []) others (n + 1) (omega (arith, length-append before (item ∷ []), at))

  pub turn : (xs ys : List X) (n : ℕ) → n < length xs → ys ≡ kept_from xs (n + 1) → Turn xs ys n
  turn [] ys n l e = absurd (omega arith)
  turn (x ∷ xs) ys n l e = turn_with x (x ∷ xs) ys n l e

  pub turn_back : (xs ys : List X) (n : ℕ) → 0 < n → n ≤ length xs → ys ≡ kept_from xs n → Turn xs ys (n - 1)
  turn_back xs ys n some l e =
      let same : n ≡ n - 1 + 1 = omega arith in
      turn xs ys (n - 1) (omega arith) (e ∙ ap (kept_from xs) same)

  -- what is said of the item there
  pub answered : (xs ys shown : List X) (n : ℕ) (b : Bool) (t : Turn xs ys n) → shown ≡ ys → ((x : X) → slice_get shown n ≡ Some x → b ≡ is_first called passes (take n shown) x) → is_first called passes (take n ys) t.item ≡ b
  answered xs ys shown n b t same says = sym (says t.item (ap (λ (all : List X). slice_get all n) same ∙ t.there) ∙ ap (λ (all : List X). is_first called passes (take n all) t.item) same)

  -- nothing is done at the end of the items, and all at their begin
  pub nothing_done : (xs : List X) (n : ℕ) → n ≡ length xs → xs ≡ kept_from xs n
  nothing_done xs n e =
      sym (ap₂ (λ (front back : List X). front ++ firsts called passes front back) (take_all n xs (omega arith)) (drop_all n xs (omega arith)) ∙ ap (λ (back : List X). xs ++ back) (none_kept xs) ∙ append-nil xs)

  pub all_done : (xs ys : List X) (n : ℕ) → n ≡ 0 → ys ≡ kept_from xs n → ys ≡ firsts called passes [] xs
  all_done xs ys n none e = e ∙ ap (kept_from xs) none

  -- ---- one item

  pub is_first_by : (xs : List X) (n : ℕ) (x item : X) (name : List ℕ) (any : Bool) → slice_get xs n ≡ Some x → item ≡ get_or xs n item → name ≡ called item → passes name ≡ true →
      any ≡ list_any (λ earlier. bytes_eq name (called earlier)) (take n xs) → not any ≡ is_first called passes (take n xs) x
  is_first_by xs n x item name any there is e named is_any =
      let same : name ≡ called x = e ∙ ap called (is ∙ get_or_from_slice_get xs n x item there) in
      sym (subst (λ (m : List ℕ). (passes m && not (list_any (λ earlier. bytes_eq m (called earlier)) (take n xs))) ≡ not any) same (ap₂ (λ (a b : Bool). a && not b) named (sym is_any)))

  pub not_first_by : (xs : List X) (n : ℕ) (x item : X) (name : List ℕ) → slice_get xs n ≡ Some x → item ≡ get_or xs n item → name ≡ called item → passes name ≡ false → false ≡ is_first called passes (take n xs) x
  not_first_by xs n x item name there is e named =
      let same : name ≡ called x = e ∙ ap called (is ∙ get_or_from_slice_get xs n x item there) in
      sym (ap (λ (b : Bool). b && not (list_any (λ earlier. bytes_eq (called x) (called earlier)) (take n xs))) (ap passes (sym same) ∙ named))

  -- ---- by name

  module _ {R : Type 0} (name : List ℕ) (named : passes name ≡ true) (found : List X → R) (here : X → R)
      (hit : (x : X) (xs : List X) → bytes_eq name (called x) ≡ true → found (x ∷ xs) ≡ here x)
      (miss : (x : X) (xs : List X) → bytes_eq name (called x) ≡ false → found (x ∷ xs) ≡ found xs) where
    pub same_found : (before xs : List X) → list_any (λ earlier. bytes_eq name (called earlier)) before ≡ false → found (firsts called passes before xs) ≡ found xs
    same_found before [] none = ap found (none_kept before)
    same_found before (x ∷ xs) none = by (bytes_eq name (called x)) refl (same_found (before ++ x ∷ []) xs)
      where
        more : bytes_eq name (called x) ≡ false → list_any (λ earlier. bytes_eq name (called earlier)) (before ++ x ∷ []) ≡ false
        more f = list_any-append (λ earlier. bytes_eq name (called earlier)) before (x ∷ []) ∙ ap₂ (λ (a b : Bool). a || (b || false)) none f

        passed : bytes_eq name (called x) ≡ true → is_first called passes before x ≡ true
        passed t =
            let same : name ≡ called x = (bytes_decides name (called x)).0 t in
            subst (λ (n : List ℕ). (passes n && not (list_any (λ earlier. bytes_eq n (called earlier)) before)) ≡ true) same (ap₂ (λ (a b : Bool). a && not b) named none)

        over : bytes_eq name (called x) ≡ false → (b : Bool) → is_first called passes before x ≡ b → found (firsts called passes before (x ∷ xs)) ≡ found (firsts called passes (before ++ x ∷ []) xs)
        over f true t = ap found (first_taken before x xs t) ∙ miss x (firsts called passes (before ++ x ∷ []) xs) f
        over f false t = ap found (first_dropped before x xs t)

        by : (b : Bool) → bytes_eq name (called x) ≡ b → (list_any (λ earlier. bytes_eq name (called earlier)) (before ++ x ∷ []) ≡ false → found (firsts called passes (before ++ x ∷ []) xs) ≡ found xs) → found (firsts called passes before (x ∷ xs)) ≡ found (x ∷ xs)
        by true t others = ap found (first_taken before x xs (passed t)) ∙ hit x (firsts called passes (before ++ x ∷ []) xs) t ∙ sym (hit x xs t)
        by false f others = over f (is_first called passes before x) refl ∙ others (more f) ∙ sym (miss x xs f)

-- ---- mappers by name

module _ {M : Type 0} (called : M → List ℕ) (image : M → List ℕ → List ℕ) (registry : Registry) (mappers : List M) where
  -- an attribute that has a mapper names it
  names_it : (attr : Attr) → Contains registry.attrs attr → is_some attr.base ≡ true → is_named registry attr.mapper ≡ true
  names_it attr (k, l, e) some =
      list_any_at (λ (other : Attr). is_some other.base && bytes_eq other.mapper attr.mapper) registry.attrs k attr l
      (ap (λ (other : Attr). is_some other.base && bytes_eq other.mapper attr.mapper) e ∙ ap₂ (λ (a b : Bool). a && b) some ((bytes_decides attr.mapper attr.mapper).1 refl))

  pub same_images : AgreeWith (image_by (named called image mappers)) (named called image (firsts called (is_named registry) [] mappers)) registry
  same_images = record { each = λ attr there some value. ap (λ (f : List ℕ → List ℕ). f value) (sym (by attr (names_it attr there some))) }
    where
      by : (attr : Attr) → is_named registry attr.mapper ≡ true → image_by (named called image (firsts called (is_named registry) [] mappers)) attr.mapper ≡ image_by (named called image mappers) attr.mapper
      by attr t =
          same_found called (is_named registry) attr.mapper t (λ ms. image_by (named called image ms) attr.mapper) image
          (λ x xs h. cond-true (bytes_eq attr.mapper (called x)) (image x) (image_by (named called image xs) attr.mapper) h)
          (λ x xs h. cond-false (bytes_eq attr.mapper (called x)) (image x) (image_by (named called image xs) attr.mapper) h)
          [] mappers refl

  pub still_there : AreThere (map called mappers) registry.attrs → AreThere (map called (firsts called (is_named registry) [] mappers)) registry.attrs
  still_there all k d l base some =
      let attr = get_or registry.attrs k d in
      let t = names_it attr (Contains-get_or registry.attrs k d l) (ap is_some some) in
      let (j, m, e) = all k d l base some in
      let any = list_any_at (bytes_eq attr.mapper) (map called mappers) j attr.mapper m ((bytes_decides attr.mapper (get_or (map called mappers) j attr.mapper)).1 (sym e)) in
      Contains-from_any {eq = bytes_eq} (λ x y h. (bytes_decides x y).0 h) attr.mapper (map called (firsts called (is_named registry) [] mappers))
      (same_found called (is_named registry) attr.mapper t (λ ms. list_any (bytes_eq attr.mapper) (map called ms)) (λ x. true)
      (λ x xs h. ap (λ (b : Bool). b || list_any (bytes_eq attr.mapper) (map called xs)) h)
      (λ x xs h. ap (λ (b : Bool). b || list_any (bytes_eq attr.mapper) (map called xs)) h)
      [] mappers refl
      ∙ any)
