-- Counts by texts are counts by the numbers that stand for them.
use Rattle.std.proofs.Common.{◌≡◌, ℕ, ◌<◌, Bool, true, false, ◌&&◌, Option, Some, None, IfNone, List, [], length, map, slice_get, refl, sym, ap, subst, ◌∙◌}
use Rattle.std.specs.Map.{keys_of}
use Rattle.std.specs.Str.{bytes_eq}
use Rattle.std.proofs.lemmas.Bool.{and_parts, and_from, eq-eqb}
use Rattle.std.proofs.lemmas.Option.{get_or_from_slice_get, slice_get-get_or}
use Rattle.mt_counts.specs.Names.{AreDistinct}
use Rattle.mt_counts.specs.Totals.{total, is_key, count_at}
use Rattle.mt_counts.specs.Tallies.{IsAt, AreOnce, HasKeysBelow}
use Rattle.mt_counts.specs.Counted.{is_two, is_three}
use Rattle.mt_counts.specs.Tables.{text_at, row_at, named_word, three_of, by_name, by_row}
use Rattle.mt_counts.proofs.Entries.{pair_exact, pair_passes}
use Rattle.mt_counts.proofs.Lists.{bytes_same, bytes_own, same_text, two_same, two_own}
use Rattle.mt_counts.proofs.Sums.{row_stands, row_is, stands}
use Rattle.mt_counts.proofs.Totals.{total-map, total-same, total-none, total-one}

both_ways : (a b : Bool) → (a ≡ true → b ≡ true) → (b ≡ true → a ≡ true) → a ≡ b
both_ways true b f g = sym (f refl)
both_ways false true f g = g refl
both_ways false false f g = refl

never : (b : Bool) → (b ≡ true → ⊥) → b ≡ false
never true f = absurd (f refl)
never false f = refl

-- ---- counts of pairs of numbers

pub count_there : (entries : List ((ℕ × ℕ) × ℕ)) (key : ℕ × ℕ) (count place : ℕ) → AreOnce entries → slice_get entries place ≡ Some (key, count) → count_at entries key ≡ count
count_there entries key count place once there = total-one (is_key key) entries key count place there (pair_passes key.0 key.1) (λ other m k e ne. never (is_key key other) (λ h. ne (only_here other m k e h)))
  where
    only_here : (other : ℕ × ℕ) (m k : ℕ) → slice_get entries k ≡ Some (other, m) → is_key key other ≡ true → k ≡ place
    only_here other m k e h = once key k place (subst (λ (o : ℕ × ℕ). IsAt entries o k) (pair_exact key.0 key.1 other h) (stands entries other m k e)) (stands entries key count place there)

pub count_nowhere : (entries : List ((ℕ × ℕ) × ℕ)) (key : ℕ × ℕ) → ((place : ℕ) → IsAt entries key place → ⊥) → count_at entries key ≡ 0
count_nowhere entries key none = total-none (is_key key) entries (λ other m k e. never (is_key key other) (λ h. none k (subst (λ (o : ℕ × ℕ). IsAt entries o k) (pair_exact key.0 key.1 other h) (stands entries other m k e))))

-- what is found at the place of a key
pub count_found : (entries : List ((ℕ × ℕ) × ℕ)) (key : ℕ × ℕ) (place : ℕ) (entry : (ℕ × ℕ) × ℕ) → AreOnce entries → IsAt entries key place → slice_get entries place ≡ Some entry → entry.1 ≡ count_at entries key
count_found entries key place entry once at there =
    let same : Some entry ≡ Some (key, at.count) = sym there ∙ at.there in
    let is : entry ≡ (key, at.count) = cc in
    ap (λ (e : (ℕ × ℕ) × ℕ). e.1) is ∙ sym (count_there entries key at.count place once at.there)

pub none_so : {T : Type 0} (o : Option T) (P Q : Type 0) → (P → Q) → IfNone o P → IfNone o Q
none_so None P Q f h = f h
none_so (Some x) P Q f h = h

-- ---- counts by texts

by_texts : {L : Type 0} (d : ℕ × ℕ → L) (test : L → Bool) (entries : List ((ℕ × ℕ) × ℕ)) (key : ℕ × ℕ) → ((k : ℕ × ℕ) (place : ℕ) → IsAt entries k place → test (d k) ≡ is_key key k) →
    total test (map (λ e. (d e.0, e.1)) entries) ≡ count_at entries key
by_texts d test entries key same = total-map d test entries ∙ total-same (λ k. test (d k)) (is_key key) entries (λ k n place e. same k place (stands entries k n place e))

by_no_text : {L : Type 0} (d : ℕ × ℕ → L) (test : L → Bool) (entries : List ((ℕ × ℕ) × ℕ)) → ((k : ℕ × ℕ) (place : ℕ) → IsAt entries k place → test (d k) ≡ true → ⊥) → total test (map (λ e. (d e.0, e.1)) entries) ≡ 0
by_no_text d test entries none = total-map d test entries ∙ total-none (λ k. test (d k)) entries (λ k n place e. never (test (d k)) (none k place (stands entries k n place e)))

text_there : (texts : List (List ℕ)) (n : ℕ) (text : List ℕ) → n < length texts → text ≡ text_at texts n → slice_get texts n ≡ Some text
text_there texts n text l e = slice_get-get_or texts n [] l ∙ ap Some (sym e)

pub text_is : (texts : List (List ℕ)) (n : ℕ) (text : List ℕ) → slice_get texts n ≡ Some text → text_at texts n ≡ text
text_is texts n text e = get_or_from_slice_get texts n text [] e

-- ---- of a name with a word

module _ (names words : List (List ℕ)) (entries : List ((ℕ × ℕ) × ℕ)) (below : HasKeysBelow (length words) (length names) entries) (name word : List ℕ) where
  pub name_counts : (w n : ℕ) → AreDistinct names → AreDistinct words → slice_get names n ≡ Some name → slice_get words w ≡ Some word → total (is_two name word) (by_name names words entries) ≡ count_at entries (w, n)
  name_counts w n names_differ words_differ is_name is_word =
      by_texts (named_word names words) (is_two name word) entries (w, n) (λ k place at. both_ways (is_two name word (named_word names words k)) (is_key (w, n) k) (on k place at) (back k))
    where
      on : (k : ℕ × ℕ) (place : ℕ) → IsAt entries k place → is_two name word (named_word names words k) ≡ true → is_key (w, n) k ≡ true
      on k place at h =
          let low = below k place at in
          let same = two_same name word (named_word names words k) h in
          let first = words_differ word w k.0 is_word (text_there words k.0 word low.0 same.1) in
          let second = names_differ name n k.1 is_name (text_there names k.1 name low.1 same.0) in
          and_from _ _ (eq-eqb w k.0 first) (eq-eqb n k.1 second)

      back : (k : ℕ × ℕ) → is_key (w, n) k ≡ true → is_two name word (named_word names words k) ≡ true
      back k h =
          let is : k ≡ (w, n) = pair_exact w n k h in
          let texts : named_word names words (w, n) ≡ (name, word) = λ i. (text_is names n name is_name i, text_is words w word is_word i) in
          ap (λ (key : List ℕ × List ℕ). is_two name word key) (ap (named_word names words) is ∙ texts) ∙ two_own name word

  pub no_name : ((number : ℕ) → slice_get names number ≡ Some name → ⊥) → total (is_two name word) (by_name names words entries) ≡ 0
  no_name none = by_no_text (named_word names words) (is_two name word) entries (λ k place at h. none k.1 (text_there names k.1 name (below k place at).1 (two_same name word (named_word names words k) h).0))

  pub no_word : ((number : ℕ) → slice_get words number ≡ Some word → ⊥) → total (is_two name word) (by_name names words entries) ≡ 0
  no_word none = by_no_text (named_word names words) (is_two name word) entries (λ k place at h. none k.0 (text_there words k.0 word (below k place at).0 (two_same name word (named_word names words k) h).1))

-- ---- of a name with two words

pub three_same : (name x y : List ℕ) (key : List ℕ × List ℕ × List ℕ) → is_three name x y key ≡ true → (name ≡ key.0) × (x ≡ key.1) × (y ≡ key.2)
three_same name x y key h =
    let front = and_parts (bytes_eq name key.0 && bytes_eq x key.1) (bytes_eq y key.2) h in
    let parts = and_parts (bytes_eq name key.0) (bytes_eq x key.1) front.0 in
    (bytes_same name key.0 parts.0, bytes_same x key.1 parts.1, bytes_same y key.2 front.1)

pub three_own : (name x y : List ℕ) → is_three name x y (name, x, y) ≡ true
three_own name x y = and_from (bytes_eq name name && bytes_eq x x) (bytes_eq y y) (and_from (bytes_eq name name) (bytes_eq x x) (bytes_own name) (bytes_own x)) (bytes_own y)

module _ (names words : List (List ℕ)) (rows both : List ((ℕ × ℕ) × ℕ)) (below_rows : HasKeysBelow (length words) (length names) rows) (below : HasKeysBelow (length rows) (length words) both) where
  -- rows of the same texts are one
  same_row : (a b : ℕ) → AreDistinct names → AreDistinct words → AreOnce rows → a < length rows → b < length rows → named_word names words (row_at (keys_of rows) a) ≡ named_word names words (row_at (keys_of rows) b) → a ≡ b
  same_row a b names_differ words_differ once l m e =
      let first = row_at (keys_of rows) a in
      let second = row_at (keys_of rows) b in
      let at_first = row_stands rows a l in
      let at_second = row_stands rows b m in
      let low = below_rows first a at_first in
      let high = below_rows second b at_second in
      let word : first.0 ≡ second.0 = same_text words first.0 second.0 words_differ low.0 high.0 (ap (λ (k : List ℕ × List ℕ). k.1) e) in
      let name : first.1 ≡ second.1 = same_text names first.1 second.1 names_differ low.1 high.1 (ap (λ (k : List ℕ × List ℕ). k.0) e) in
      let is : first ≡ second = λ i. (word i, name i) in
      once second a b (subst (λ (k : ℕ × ℕ). IsAt rows k a) is at_first) at_second

  -- what a key stands for where its texts are these
  three_on : (name x y : List ℕ) (k : ℕ × ℕ) → is_three name x y (three_of names words (keys_of rows) k) ≡ true → (named_word names words (row_at (keys_of rows) k.0) ≡ (name, x)) × (y ≡ text_at words k.1)
  three_on name x y k h = let same = three_same name x y (three_of names words (keys_of rows) k) h in (λ i. (sym same.0 i, sym same.1 i), same.2)

  module _ (name x y : List ℕ) where
    pub three_counts : (row second : ℕ) → AreDistinct names → AreDistinct words → AreOnce rows → row < length rows → named_word names words (row_at (keys_of rows) row) ≡ (name, x) → slice_get words second ≡ Some y →
        total (is_three name x y) (by_row names words (keys_of rows) both) ≡ count_at both (row, second)
    three_counts row second names_differ words_differ once l is_row is_word =
        by_texts (three_of names words (keys_of rows)) (is_three name x y) both (row, second) (λ k place at. both_ways (is_three name x y (three_of names words (keys_of rows) k)) (is_key (row, second) k) (on k place at) (back k))
      where
        on : (k : ℕ × ℕ) (place : ℕ) → IsAt both k place → is_three name x y (three_of names words (keys_of rows) k) ≡ true → is_key (row, second) k ≡ true
        on k place at h =
            let low = below k place at in
            let same = three_on name x y k h in
            let first = same_row row k.0 names_differ words_differ once l low.0 (is_row ∙ sym same.0) in
            let other = words_differ y second k.1 is_word (text_there words k.1 y low.1 same.1) in
            and_from _ _ (eq-eqb row k.0 first) (eq-eqb second k.1 other)

        back : (k : ℕ × ℕ) → is_key (row, second) k ≡ true → is_three name x y (three_of names words (keys_of rows) k) ≡ true
        back k h =
            let is : k ≡ (row, second) = pair_exact row second k h in
            let texts : three_of names words (keys_of rows) (row, second) ≡ (name, x, y) = λ i. ((is_row i).0, (is_row i).1, text_is words second y is_word i) in
            ap (λ (key : List ℕ × List ℕ × List ℕ). is_three name x y key) (ap (three_of names words (keys_of rows)) is ∙ texts) ∙ three_own name x y

    pub no_row : ((row : ℕ) → row < length rows → named_word names words (row_at (keys_of rows) row) ≡ (name, x) → ⊥) → total (is_three name x y) (by_row names words (keys_of rows) both) ≡ 0
    no_row none = by_no_text (three_of names words (keys_of rows)) (is_three name x y) both (λ k place at h. none k.0 (below k place at).0 (three_on name x y k h).0)

    -- a second word that counts has a place in the row
    pub second_placed : (row : ℕ) → AreDistinct names → AreDistinct words → AreOnce rows → row < length rows → named_word names words (row_at (keys_of rows) row) ≡ (name, x) → (k : ℕ × ℕ) (place : ℕ) → IsAt both k place →
        is_three name x y (three_of names words (keys_of rows) k) ≡ true → (k.0 ≡ row) × (text_at words k.1 ≡ y)
    second_placed row names_differ words_differ once l is_row k place at h =
        let same = three_on name x y k h in
        (same_row k.0 row names_differ words_differ once (below k place at).0 l (same.0 ∙ sym is_row), sym same.1)

-- ---- rows

pub row_named : (names words : List (List ℕ)) (rows : List ((ℕ × ℕ) × ℕ)) (name word : List ℕ) (number first row : ℕ) → slice_get names number ≡ Some name → slice_get words first ≡ Some word → IsAt rows (first, number) row →
    named_word names words (row_at (keys_of rows) row) ≡ (name, word)
row_named names words rows name word number first row is_name is_word at =
    ap (named_word names words) (row_is rows row (first, number) at) ∙ (λ i. (text_is names number name is_name i, text_is words first word is_word i))

module _ (names words : List (List ℕ)) (rows : List ((ℕ × ℕ) × ℕ)) (below : HasKeysBelow (length words) (length names) rows) (name word : List ℕ) (row : ℕ) (within : row < length rows)
    (is : named_word names words (row_at (keys_of rows) row) ≡ (name, word)) where
  pub row_has_name : slice_get names (row_at (keys_of rows) row).1 ≡ Some name
  row_has_name = text_there names (row_at (keys_of rows) row).1 name (below (row_at (keys_of rows) row) row (row_stands rows row within)).1 (sym (ap (λ (k : List ℕ × List ℕ). k.0) is))

  pub row_has_word : slice_get words (row_at (keys_of rows) row).0 ≡ Some word
  row_has_word = text_there words (row_at (keys_of rows) row).0 word (below (row_at (keys_of rows) row) row (row_stands rows row within)).0 (sym (ap (λ (k : List ℕ × List ℕ). k.1) is))

  pub row_stands_so : (number first : ℕ) → AreDistinct names → AreDistinct words → slice_get names number ≡ Some name → slice_get words first ≡ Some word → IsAt rows (first, number) row
  row_stands_so number first names_differ words_differ is_name is_word =
      let n = names_differ name (row_at (keys_of rows) row).1 number row_has_name is_name in
      let w = words_differ word (row_at (keys_of rows) row).0 first row_has_word is_word in
      let key : row_at (keys_of rows) row ≡ (first, number) = λ i. (w i, n i) in
      subst (λ (k : ℕ × ℕ). IsAt rows k row) key (row_stands rows row within)
