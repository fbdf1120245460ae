-- Lists in one block, and lists in groups.
use Rattle.std.proofs.Common.{◌≡◌, ℕ, zero, suc, ◌+◌, ◌-◌, ◌*◌, ◌<◌, ◌≤◌, List, [], ◌∷◌, ◌++◌, length, length-append, take, drop, get_or, refl, sym, ◌∙◌, ap, ap₂, arith, append-nil}
use Rattle.std.specs.Prelude.{slice_range}
use Rattle.std.specs.List.{All, flat_map}
use Rattle.std.proofs.Math.Nat.{suc-mul}
use Rattle.std.proofs.lemmas.List.{take_all, drop_all, drop-append-le, take-append-le, length-drop, get_or-drop, drop-drop}
use Rattle.mt_segment.specs.Lists.{parts, AreBegins, groups}

-- ---- places that do not fall

pub farther : (from n m : ℕ) (begins : List ℕ) → AreBegins from n begins → n ≤ m → AreBegins from m begins
farther from n m [] h l = omega (arith, h)
farther from n m (b ∷ begins) (low, h) l = (low, farther b n m begins h l)

earlier : (less from n : ℕ) (begins : List ℕ) → AreBegins from n begins → less ≤ from → AreBegins less n begins
earlier less from n [] h l = omega (arith, h)
earlier less from n (b ∷ begins) (low, h) l = (omega (arith, low), h)

within : (from n : ℕ) (begins : List ℕ) (i : ℕ) → AreBegins from n begins → (from ≤ get_or begins i n) × (get_or begins i n ≤ n)
within from n [] i h = (h, omega arith)
within from n (b ∷ begins) zero (low, h) = let w = within b n begins 0 h in (low, omega (arith, w.0, w.1))
within from n (b ∷ begins) (suc i) (low, h) = let w = within b n begins i h in (omega (arith, low, w.0), w.1)

pub at_most : (n : ℕ) (begins : List ℕ) (i : ℕ) → AreBegins 0 n begins → get_or begins i n ≤ n
at_most n begins i h = (within 0 n begins i h).1

pub rises : (from n : ℕ) (begins : List ℕ) (i j : ℕ) → AreBegins from n begins → i ≤ j → get_or begins i n ≤ get_or begins j n
rises from n [] i j h l = omega arith
rises from n (b ∷ begins) zero zero h l = omega arith
rises from n (b ∷ begins) zero (suc j) (low, h) l = (within b n begins j h).0
rises from n (b ∷ begins) (suc i) zero h l = absurd (omega arith)
rises from n (b ∷ begins) (suc i) (suc j) (low, h) l = rises b n begins i j h (omega arith)

dropped : (from n : ℕ) (begins : List ℕ) (i : ℕ) → AreBegins from n begins → AreBegins 0 n (drop i begins)
dropped from n begins zero h = earlier 0 from n begins h (omega arith)
dropped from n [] (suc i) h = omega (arith, h)
dropped from n (b ∷ begins) (suc i) (low, h) = dropped b n begins i h

pub begins_push : (from n : ℕ) (begins : List ℕ) → AreBegins from n begins → AreBegins from n (begins ++ n ∷ [])
begins_push from n [] h = (h, omega arith)
begins_push from n (b ∷ begins) (low, h) = (low, begins_push b n begins h)

-- ---- lists

no_end : {X : Type 0} (before : List X) (last : X) → [] ≡ before ++ last ∷ [] → ⊥
no_end [] last e = cc
no_end (x ∷ before) last e = cc

module _ {X : Type 0} where
  pub length-parts : (block : List X) (begins : List ℕ) → length (parts block begins) ≡ length begins
  length-parts block [] = refl
  length-parts block (b ∷ []) = refl
  length-parts block (b ∷ c ∷ begins) = ap suc (length-parts block (c ∷ begins))

  -- one list more, with no items yet
  pub parts_begin : (block : List X) (from : ℕ) (begins : List ℕ) → AreBegins from (length block) begins → parts block (begins ++ length block ∷ []) ≡ parts block begins ++ [] ∷ []
  parts_begin block from [] h = ap (λ (list : List X). list ∷ []) (drop_all (length block) block (omega arith))
  parts_begin block from (b ∷ []) (low, h) =
      ap₂ (λ (list last : List X). list ∷ last ∷ []) (take_all (length block - b) (drop b block) (omega (arith, length-drop b block))) (drop_all (length block) block (omega arith))
  parts_begin block from (b ∷ c ∷ begins) (low, h) = ap (λ (lists : List (List X)). slice_range block b c ∷ lists) (parts_begin block b (c ∷ begins) h)

  -- one item more in the last list
  range_kept : (block : List X) (item : X) (b c : ℕ) → b ≤ c → c ≤ length block → slice_range (block ++ item ∷ []) b c ≡ slice_range block b c
  range_kept block item b c l m =
      ap (take (c - b)) (drop-append-le b block (item ∷ []) (omega arith)) ∙ take-append-le (c - b) (drop b block) (item ∷ []) (omega (arith, length-drop b block))

  pub parts_push : (block : List X) (item : X) (from : ℕ) (begins : List ℕ) (before : List (List X)) (last : List X) → AreBegins from (length block) begins → parts block begins ≡ before ++ last ∷ [] →
      parts (block ++ item ∷ []) begins ≡ before ++ (last ++ item ∷ []) ∷ []
  parts_push block item from [] before last h e = absurd (no_end before last e)
  parts_push block item from (b ∷ []) [] last (low, h) e =
      let same : drop b block ≡ last = cc in
      ap (λ (list : List X). list ∷ []) (drop-append-le b block (item ∷ []) h ∙ ap (λ (list : List X). list ++ item ∷ []) same)
  parts_push block item from (b ∷ []) (x ∷ before) last (low, h) e = absurd (no_end before last cc)
  parts_push block item from (b ∷ c ∷ begins) [] last (low, h) e =
      let none : parts block (c ∷ begins) ≡ [] = cc in
      absurd (omega (arith, ap length none, length-parts block (c ∷ begins)))
  parts_push block item from (b ∷ c ∷ begins) (x ∷ before) last (low, h) e =
      let head : slice_range block b c ≡ x = cc in
      let rest : parts block (c ∷ begins) ≡ before ++ last ∷ [] = cc in
      let few : c ≤ length block = omega (arith, (within c (length block) begins 0 h.1).0, (within c (length block) begins 0 h.1).1) in
      ap₂ (λ (list : List X) (lists : List (List X)). list ∷ lists) (range_kept block item b c h.0 few ∙ head) (parts_push block item b (c ∷ begins) before last h rest)

  take_more_items : (n m : ℕ) (xs : List X) → take (n + m) xs ≡ take n xs ++ take m (drop n xs)
  take_more_items zero m xs = let e : 0 + m ≡ m = omega arith in ap (λ (k : ℕ). take k xs) e
  take_more_items (suc n) m [] = take_all (suc n + m) [] (omega arith) ∙ sym (take_all m [] (omega arith))
  take_more_items (suc n) m (x ∷ xs) = let e : suc n + m ≡ suc (n + m) = omega arith in ap (λ (k : ℕ). take k (x ∷ xs)) e ∙ ap (λ (ys : List X). x ∷ ys) (take_more_items n m xs)

  none_in : (block : List X) (b : ℕ) → [] ≡ slice_range block b b
  none_in block b = let e : 0 ≡ b - b = omega arith in ap (λ (n : ℕ). take n (drop b block)) e

  -- the items of lists that follow each other
  ranges_joined : (block : List X) (a b c : ℕ) → a ≤ b → b ≤ c → slice_range block a b ++ slice_range block b c ≡ slice_range block a c
  ranges_joined block a b c l m =
      let all : (b - a) + (c - b) ≡ c - a = omega arith in
      let on : a + (b - a) ≡ b = omega arith in
      ap (λ (rest : List X). slice_range block a b ++ take (c - b) rest) (ap (λ (n : ℕ). drop n block) (sym on) ∙ sym (drop-drop (b - a) a block))
      ∙ sym (take_more_items (b - a) (c - b) (drop a block)) ∙ ap (λ (n : ℕ). take n (drop a block)) all

  first_parts : (block : List X) (from : ℕ) (begins : List ℕ) (k : ℕ) → AreBegins from (length block) begins →
      flat_map (λ list. list) (take k (parts block begins)) ≡ slice_range block (get_or begins 0 (length block)) (get_or begins k (length block))
  first_parts block from [] k h = ap (flat_map (λ list. list)) (take_all k [] (omega arith)) ∙ none_in block (length block)
  first_parts block from (b ∷ begins) zero h = none_in block b
  first_parts block from (b ∷ []) (suc k) (low, h) =
      ap (λ (lists : List (List X)). drop b block ++ flat_map (λ list. list) lists) (take_all k [] (omega arith)) ∙ append-nil (drop b block) ∙ sym (take_all (length block - b) (drop b block) (omega (arith, length-drop b block)))
  first_parts block from (b ∷ c ∷ begins) (suc k) (low, h) =
      ap (λ (items : List X). slice_range block b c ++ items) (first_parts block b (c ∷ begins) k h)
      ∙ ranges_joined block b c (get_or (c ∷ begins) k (length block)) h.0 (rises b (length block) (c ∷ begins) 0 k h (omega arith))

  parts_from : (block : List X) (begins : List ℕ) (i : ℕ) → drop i (parts block begins) ≡ parts block (drop i begins)
  parts_from block [] zero = refl
  parts_from block [] (suc i) = refl
  parts_from block (b ∷ begins) zero = refl
  parts_from block (b ∷ []) (suc i) = drop_all i [] (omega arith) ∙ sym (ap (parts block) (drop_all i [] (omega arith)))
  parts_from block (b ∷ c ∷ begins) (suc i) = parts_from block (c ∷ begins) i

  pub joined_parts : (block : List X) (begins : List ℕ) (i j : ℕ) → AreBegins 0 (length block) begins → i ≤ j →
      slice_range block (get_or begins i (length block)) (get_or begins j (length block)) ≡ flat_map (λ list. list) (take (j - i) (drop i (parts block begins)))
  joined_parts block begins i j h l =
      let none : i + 0 ≡ i = omega arith in
      let end : i + (j - i) ≡ j = omega arith in
      sym (
      ap (λ (lists : List (List X)). flat_map (λ list. list) (take (j - i) lists)) (parts_from block begins i)
      ∙ first_parts block 0 (drop i begins) (j - i) (dropped 0 (length block) begins i h)
      ∙ ap₂ (slice_range block) (get_or-drop i begins 0 (length block) ∙ ap (λ (n : ℕ). get_or begins n (length block)) none) (get_or-drop i begins (j - i) (length block) ∙ ap (λ (n : ℕ). get_or begins n (length block)) end)
      )

  pub one_list : (lists : List (List X)) (i j : ℕ) → j ≡ i + 1 → i < length lists → flat_map (λ list. list) (take (j - i) (drop i lists)) ≡ get_or lists i []
  one_list lists i j e l =
      let one : j - i ≡ 1 = omega arith in
      let none : i + 0 ≡ i = omega arith in
      ap (λ (k : ℕ). flat_map (λ list. list) (take k (drop i lists))) one ∙ first (drop i lists) (omega (arith, length-drop i lists)) ∙ get_or-drop i lists 0 [] ∙ ap (λ (n : ℕ). get_or lists n []) none
    where
      first : (xs : List (List X)) → 0 < length xs → flat_map (λ list. list) (take 1 xs) ≡ get_or xs 0 []
      first [] l = absurd (omega arith)
      first (x ∷ xs) l = append-nil x

-- ---- groups

module _ {X : Type 0} where
  pub length-groups : (size count : ℕ) (lists : List X) → length (groups size count lists) ≡ count
  length-groups size zero lists = refl
  length-groups size (suc count) lists = ap suc (length-groups size count (drop size lists))

  pub group_at : (size count : ℕ) (lists : List X) (number : ℕ) → number < count → get_or (groups size count lists) number [] ≡ take size (drop (number * size) lists)
  group_at size zero lists number l = absurd (omega arith)
  group_at size (suc count) lists zero l = let e : 0 ≡ 0 * size = omega arith in ap (λ (n : ℕ). take size (drop n lists)) e
  group_at size (suc count) lists (suc number) l =
      let e : size + number * size ≡ suc number * size = omega (arith, suc-mul number size) in
      group_at size count (drop size lists) number (omega arith) ∙ ap (take size) (drop-drop (number * size) size lists ∙ ap (λ (n : ℕ). drop n lists) e)

  -- one group more
  pub group_more : (size count : ℕ) (lists more : List X) → length lists ≡ count * size → length more ≡ size → groups size (suc count) (lists ++ more) ≡ groups size count lists ++ more ∷ []
  group_more size zero [] more e f = ap (λ (list : List X). list ∷ []) (take_all size more (omega (arith, f)))
  group_more size zero (x ∷ lists) more e f = absurd (omega (arith, e))
  group_more size (suc count) lists more e f =
      let few : size ≤ length lists = omega (arith, e, suc-mul count size) in
      ap₂ (λ (list : List X) (others : List (List X)). list ∷ others) (take-append-le size lists more few)
      (ap (groups size (suc count)) (drop-append-le size lists more few) ∙ group_more size count (drop size lists) more (omega (arith, e, suc-mul count size, length-drop size lists)) f)

  -- groups put one behind the other are those groups
  pub groups_joined : (size : ℕ) (lists : List (List X)) → All (λ list. length list ≡ size) lists → groups size (length lists) (flat_map (λ list. list) lists) ≡ lists
  groups_joined size [] h = refl
  groups_joined size (list ∷ lists) h =
      let here : length list ≡ size = h 0 list (omega arith) in
      let rest = flat_map (λ (l : List X). l) lists in
      ap₂ (λ (first : List X) (others : List (List X)). first ∷ others) (take-append-le size list rest (omega (arith, here)) ∙ take_all size list (omega (arith, here)))
      (ap (groups size (length lists)) (drop-append-le size list rest (omega (arith, here)) ∙ ap (λ (l : List X). l ++ rest) (drop_all size list (omega (arith, here))))
      ∙ groups_joined size lists (λ k d l. h (suc k) d (omega arith)))

  pub joined_length : (size : ℕ) (lists : List (List X)) → All (λ list. length list ≡ size) lists → length (flat_map (λ list. list) lists) ≡ length lists * size
  joined_length size [] h = omega arith
  joined_length size (list ∷ lists) h =
      let rest = flat_map (λ (l : List X). l) lists in
      omega (arith, length-append list rest, h 0 list (omega arith), joined_length size lists (λ k d l. h (suc k) d (omega arith)), suc-mul (length lists) size)
