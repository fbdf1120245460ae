-- What stands together, by the numbers of words and contexts.
use Rattle.std.proofs.Common.{◌≡◌, ℕ, zero, suc, ◌+◌, ◌<◌, Bool, true, false, if◌then◌else◌, Option, Some, None, List, [], ◌∷◌, length, map, slice_get, refl, sym, ap, subst, ◌∙◌, arith}
use Rattle.std.specs.List.{Contains}
use Rattle.std.specs.Option.{option_map}
use Rattle.std.specs.Map.{keys_of}
use Rattle.std.proofs.lemmas.Option.{slice_get_within, slice_get-map, get_or_from_slice_get, slice_get-get_or}
use Rattle.mt_counts.specs.Names.{AreDistinct}
use Rattle.mt_counts.specs.Totals.{is_key, count_at}
use Rattle.mt_counts.specs.Tallies.{IsAt, AreOnce, HasKeysBelow}
use Rattle.mt_counts.specs.Counted.{is_three, f, f_second}
use Rattle.mt_counts.specs.Tables.{text_at, row_at, three_of, named_word, counted, AreInside}
use Rattle.mt_counts.specs.Listed.{entry_at}
use Rattle.mt_counts.specs.Numbered.{IsEntryOf, HasEntry, IsNumberingOf, place_of, entry_of, numbering_of}
use Rattle.mt_counts.specs.declared.tables.Tables.{Tables}
use Rattle.mt_counts.specs.declared.numbered.Entry.{Entry}
use Rattle.mt_counts.proofs.Entries.{pair_exact, pair_passes}
use Rattle.mt_counts.proofs.Lists.{same_text, total-some}
use Rattle.mt_counts.proofs.Growing.{same_key}
use Rattle.mt_counts.proofs.Sums.{row_stands, row_is, stands}
use Rattle.mt_counts.proofs.Keys.{name_counts, three_counts, three_same, count_there}
use Rattle.mt_counts.proofs.Totals.{total-map}

-- ---- the place of a key

pub place_there : (es : List ((ℕ × ℕ) × ℕ)) (key : ℕ × ℕ) (place : ℕ) → AreOnce es → IsAt es key place → place_of es key ≡ place
place_there [] key place once at = absurd (omega (arith, slice_get_within [] place (key, at.count) at.there))
place_there (e ∷ es) key zero once at =
    let is : ◌≡◌ {A = (ℕ × ℕ) × ℕ} e (key, at.count) = cc in
    ap (λ (b : Bool). if b then 0 else 1 + place_of es key) (ap (λ (x : (ℕ × ℕ) × ℕ). is_key key x.0) is ∙ pair_passes key.0 key.1)
place_there (e ∷ es) key (suc k) once at =
    by (is_key key e.0) refl
    (place_there es key k (λ other i j p q. let same : suc i ≡ suc j = once other (suc i) (suc j) (record { count = p.count; there = p.there }) (record { count = q.count; there = q.there }) in omega (arith, same)) (record { count = at.count; there = at.there }))
  where
    by : (b : Bool) → is_key key e.0 ≡ b → place_of es key ≡ k → (if b then 0 else 1 + place_of es key) ≡ suc k
    by true h rest = once key 0 (suc k) (record { count = e.1; there = ap (λ (x : ℕ × ℕ). Some (x, e.1)) (pair_exact key.0 key.1 e.0 h) }) at
    by false h rest = omega (arith, rest)

pub place_nowhere : (es : List ((ℕ × ℕ) × ℕ)) (key : ℕ × ℕ) → ((place : ℕ) → IsAt es key place → ⊥) → place_of es key ≡ length es
place_nowhere [] key none = refl
place_nowhere (e ∷ es) key none = by (is_key key e.0) refl (place_nowhere es key (λ place at. none (suc place) (record { count = at.count; there = at.there })))
  where
    by : (b : Bool) → is_key key e.0 ≡ b → place_of es key ≡ length es → (if b then 0 else 1 + place_of es key) ≡ suc (length es)
    by true h rest = absurd (none 0 (record { count = e.1; there = ap (λ (x : ℕ × ℕ). Some (x, e.1)) (pair_exact key.0 key.1 e.0 h) }))
    by false h rest = omega (arith, rest)

-- a key that counts has its place
counts_there : (es : List ((ℕ × ℕ) × ℕ)) (key : ℕ × ℕ) → AreOnce es → 0 < count_at es key → IsAt es key (place_of es key)
counts_there es key once some =
    let h = total-some (is_key key) es some in
    let at : IsAt es key h.place = subst (λ (k : ℕ × ℕ). IsAt es k h.place) (pair_exact key.0 key.1 h.key h.passes) (stands es h.key h.count h.place h.there) in
    subst (IsAt es key) (sym (place_there es key h.place once at)) at

-- ---- what is mapped

pub some_map : {A B : Type 0} (v : A → B) (xs : List A) (k : ℕ) (y : B) → slice_get (map v xs) k ≡ Some y → (x : A) × (slice_get xs k ≡ Some x) × (v x ≡ y)
some_map {A} {B} v xs k y h = by (slice_get xs k) refl (sym (slice_get-map v xs k) ∙ h)
  where
    by : (o : Option A) → slice_get xs k ≡ o → option_map v o ≡ Some y → (x : A) × (slice_get xs k ≡ Some x) × (v x ≡ y)
    by (Some x) e h = (x, e, cc)
    by None e h = let wrong : ⊥ = cc in absurd wrong

pub map_there : {A B : Type 0} (v : A → B) (xs : List A) (k : ℕ) (x : A) → slice_get xs k ≡ Some x → slice_get (map v xs) k ≡ Some (v x)
map_there v xs k x h = slice_get-map v xs k ∙ ap (λ (o : Option _). option_map v o) h

contains_at : {A : Type 0} (xs : List A) (k : ℕ) (x : A) → slice_get xs k ≡ Some x → Contains xs x
contains_at xs k x h = (k, slice_get_within xs k x h, get_or_from_slice_get xs k x x h)

at_contains : {A : Type 0} (xs : List A) (x : A) (h : Contains xs x) → slice_get xs h.0 ≡ Some x
at_contains xs x h = slice_get-get_or xs h.0 x h.1 ∙ ap Some h.2

-- ---- the numbering

module _ (t : Tables) (inside : AreInside t) (names_differ : AreDistinct t.names) (words_differ : AreDistinct t.words) (rows_once : AreOnce t.rows) (both_once : AreOnce t.both) (columns_once : AreOnce t.columns) where
  abbrev row_of : (ℕ × ℕ) × ℕ → ℕ × ℕ
  row_of e = row_at (keys_of t.rows) e.0.0

  context_of : (ℕ × ℕ) × ℕ → List ℕ × List ℕ
  context_of e = named_word t.names t.words e.0

  low_both : (e : (ℕ × ℕ) × ℕ) (place : ℕ) → slice_get t.both place ≡ Some e → (e.0.0 < length t.rows) × (e.0.1 < length t.words)
  low_both e place h = inside.both e.0 place (record { count = e.1; there = h })

  low_row : (e : (ℕ × ℕ) × ℕ) (place : ℕ) → slice_get t.both place ≡ Some e → ((row_of e).0 < length t.words) × ((row_of e).1 < length t.names)
  low_row e place h = inside.rows (row_of e) e.0.0 (row_stands t.rows e.0.0 (low_both e place h).0)

  contexts_differ : (context : List ℕ × List ℕ) (i j : ℕ) → slice_get (numbering_of t).contexts i ≡ Some context → slice_get (numbering_of t).contexts j ≡ Some context → i ≡ j
  contexts_differ context i j h k =
      let one = some_map (λ (e : (ℕ × ℕ) × ℕ). named_word t.names t.words e.0) t.columns i context h in
      let other = some_map (λ (e : (ℕ × ℕ) × ℕ). named_word t.names t.words e.0) t.columns j context k in
      let a = one.0 in
      let b = other.0 in
      let at_a : IsAt t.columns a.0 i = record { count = a.1; there = one.1 } in
      let at_b : IsAt t.columns b.0 j = record { count = b.1; there = other.1 } in
      let low = inside.columns a.0 i at_a in
      let high = inside.columns b.0 j at_b in
      let texts : named_word t.names t.words a.0 ≡ named_word t.names t.words b.0 = one.2 ∙ sym other.2 in
      let word : a.0.0 ≡ b.0.0 = same_text t.words a.0.0 b.0.0 words_differ low.0 high.0 (ap (λ (k : List ℕ × List ℕ). k.1) texts) in
      let name : a.0.1 ≡ b.0.1 = same_text t.names a.0.1 b.0.1 names_differ low.1 high.1 (ap (λ (k : List ℕ × List ℕ). k.0) texts) in
      let key : a.0 ≡ b.0 = λ i. (word i, name i) in
      columns_once b.0 i j (subst (λ (k : ℕ × ℕ). IsAt t.columns k i) key at_a) at_b

  pub is_entry : (e : (ℕ × ℕ) × ℕ) (place : ℕ) → slice_get t.both place ≡ Some e → IsEntryOf (counted t) (numbering_of t) (entry_of t e)
  is_entry e place h =
      let low = low_both e place h in
      let key = row_of e in
      let here = low_row e place h in
      let name = text_at t.names key.1 in
      let word = text_at t.words key.0 in
      let second = text_at t.words e.0.1 in
      let name_is = slice_get-get_or t.names key.1 [] here.1 in
      let word_is = slice_get-get_or t.words key.0 [] here.0 in
      let second_is = slice_get-get_or t.words e.0.1 [] low.1 in
      let row = row_stands t.rows e.0.0 low.0 in
      let left : (entry_at t.rows e.0.0).1 ≡ row.count = ap (λ (x : (ℕ × ℕ) × ℕ). x.1) (get_or_from_slice_get t.rows e.0.0 (key, row.count) ((0, 0), 0) row.there) in
      record {
        name = name;
        word = word;
        second = second;
        word_is = word_is;
        context_is = λ some.
            let at = counts_there t.columns (e.0.1, key.1) columns_once some in
            map_there (λ (x : (ℕ × ℕ) × ℕ). named_word t.names t.words x.0) t.columns (place_of t.columns (e.0.1, key.1)) ((e.0.1, key.1), at.count) at.there;
        both_is = sym (three_counts t.names t.words t.rows t.both inside.rows inside.both name word second e.0.0 e.0.1 names_differ words_differ rows_once low.0 refl second_is ∙ count_there t.both e.0 e.1 place both_once h);
        left_is = left ∙ sym (name_counts t.names t.words t.rows inside.rows name word key.0 key.1 names_differ words_differ name_is word_is ∙ count_there t.rows key row.count e.0.0 rows_once row.there);
        right_is = sym (name_counts t.names t.words t.columns inside.columns name second e.0.1 key.1 names_differ words_differ name_is second_is);
      }

  told : (entry : Entry) → Contains (numbering_of t).entries entry → IsEntryOf (counted t) (numbering_of t) entry
  told entry h =
      let from = some_map (entry_of t) t.both h.0 entry (at_contains (map (entry_of t) t.both) entry h) in
      subst (IsEntryOf (counted t) (numbering_of t)) from.2 (is_entry from.0 h.0 from.1)

  each : (name word second : List ℕ) → 0 < f (counted t) name word second → 0 < f_second (counted t) name second → HasEntry (numbering_of t) name word second
  unfolding is_entry
  each name word second some right =
      let test : List ℕ × List ℕ × List ℕ → Bool = is_three name word second in
      let three = three_of t.names t.words (keys_of t.rows) in
      let h = total-some (λ k. test (three k)) t.both (subst (λ (n : ℕ). 0 < n) (total-map three test t.both) some) in
      let same = three_same name word second (three h.key) h.passes in
      let is = is_entry (h.key, h.count) h.place h.there in
      let entry = entry_of t (h.key, h.count) in
      let name_is : name ≡ is.name = same.0 in
      let word_is : word ≡ is.word = same.1 in
      let second_is : second ≡ is.second = same.2 in
      let counts : entry.right ≡ f_second (counted t) name second = is.right_is ∙ sym (λ i. f_second (counted t) (name_is i) (second_is i)) in
      let positive : 0 < entry.right = subst (λ (n : ℕ). 0 < n) (sym counts) right in
      record {
        entry = entry;
        there = contains_at (map (entry_of t) t.both) h.place entry (map_there (entry_of t) t.both h.place (h.key, h.count) h.there);
        some = positive;
        word_is = is.word_is ∙ ap Some (sym word_is);
        context_is = is.context_is positive ∙ (λ i. Some (sym name_is i, sym second_is i));
      }

  once : (i j : ℕ) (one other : Entry) → slice_get (numbering_of t).entries i ≡ Some one → slice_get (numbering_of t).entries j ≡ Some other → one.word ≡ other.word → one.context ≡ other.context →
      0 < one.right → 0 < other.right → i ≡ j
  once i j one other h k word context some more =
      let from = some_map (entry_of t) t.both i one h in
      let back = some_map (entry_of t) t.both j other k in
      let a = from.0 in
      let b = back.0 in
      let first : 0 < (entry_of t a).right = subst (λ (e : Entry). 0 < e.right) (sym from.2) some in
      let second : 0 < (entry_of t b).right = subst (λ (e : Entry). 0 < e.right) (sym back.2) more in
      let at_a = counts_there t.columns (a.0.1, (row_of a).1) columns_once first in
      let at_b = counts_there t.columns (b.0.1, (row_of b).1) columns_once second in
      let place : place_of t.columns (a.0.1, (row_of a).1) ≡ place_of t.columns (b.0.1, (row_of b).1) = ap (λ (e : Entry). e.context) from.2 ∙ context ∙ ap (λ (e : Entry). e.context) (sym back.2) in
      let key : ◌≡◌ {A = ℕ × ℕ} (a.0.1, (row_of a).1) (b.0.1, (row_of b).1) =
      same_key t.columns (a.0.1, (row_of a).1) (b.0.1, (row_of b).1) (place_of t.columns (b.0.1, (row_of b).1)) (subst (IsAt t.columns (a.0.1, (row_of a).1)) place at_a) at_b in
      let words : (row_of a).0 ≡ (row_of b).0 = ap (λ (e : Entry). e.word) from.2 ∙ word ∙ ap (λ (e : Entry). e.word) (sym back.2) in
      let names : (row_of a).1 ≡ (row_of b).1 = ap (λ (k : ℕ × ℕ). k.1) key in
      let row_key : row_of a ≡ row_of b = λ i. (words i, names i) in
      let row_a = row_stands t.rows a.0.0 (low_both a i from.1).0 in
      let row_b = row_stands t.rows b.0.0 (low_both b j back.1).0 in
      let rows : a.0.0 ≡ b.0.0 = rows_once (row_of b) a.0.0 b.0.0 (subst (λ (k : ℕ × ℕ). IsAt t.rows k a.0.0) row_key row_a) row_b in
      let seconds : a.0.1 ≡ b.0.1 = ap (λ (k : ℕ × ℕ). k.0) key in
      let both : a.0 ≡ b.0 = λ i. (rows i, seconds i) in
      both_once b.0 i j (subst (λ (k : ℕ × ℕ). IsAt t.both k i) both (record { count = a.1; there = from.1 })) (record { count = b.1; there = back.1 })

  pub is_numbering : IsNumberingOf (counted t) (numbering_of t)
  is_numbering = record { words_once = words_differ; contexts_once = contexts_differ; told = told; each = each; once = once }

pub pair_at_place : (t : Tables) (place row second word name both left context right : ℕ) → slice_get t.both place ≡ Some ((row, second), both) → slice_get t.rows row ≡ Some ((word, name), left) → context ≡ place_of t.columns (second, name) →
    right ≡ count_at t.columns (second, name) → slice_get (numbering_of t).entries place ≡ Some (record { word = word; context = context; both = both; left = left; right = right })
pair_at_place t place row second word name both left context right there is number counts =
    let key : row_at (keys_of t.rows) row ≡ (word, name) = row_is t.rows row (word, name) (record { count = left; there = is }) in
    let lefts : (entry_at t.rows row).1 ≡ left = ap (λ (x : (ℕ × ℕ) × ℕ). x.1) (get_or_from_slice_get t.rows row ((word, name), left) ((0, 0), 0) is) in
    map_there (entry_of t) t.both place ((row, second), both) there ∙
    (λ i. Some (record { word = (key i).0; context = place_of t.columns (second, (key i).1); both = both; left = lefts i; right = count_at t.columns (second, (key i).1) })) ∙
    (λ i. Some (record { word = word; context = sym number i; both = both; left = left; right = sym counts i }))

pub first_below : (entries : List ((ℕ × ℕ) × ℕ)) (groups members place : ℕ) (key : ℕ × ℕ) (count : ℕ) → HasKeysBelow groups members entries → slice_get entries place ≡ Some (key, count) → key.0 < groups
first_below entries groups members place key count below there = (below key place (record { count = count; there = there })).0
