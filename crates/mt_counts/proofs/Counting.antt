-- What a block of notes counts under, and what is counted there.
use Rattle.std.proofs.Common.{◌≡◌, ℕ, zero, suc, ◌+◌, ◌<◌, ◌≤◌, Bool, Option, None, Some, List, [], ◌∷◌, ◌++◌, length, map, take, get_or, refl, sym, ap, subst, ◌∙◌, arith}
use Rattle.std.specs.Prelude.{IfSome}
use Rattle.std.specs.List.{All, AllZip, flat_map}
use Rattle.std.specs.Map.{keys_of}
use Rattle.std.proofs.lemmas.Grind.{flat_map-append}
use Rattle.std.proofs.lemmas.List.{take_more, map-append}
use Rattle.std.proofs.lemmas.List.Elements.{All-nil, All-cons, All-head, All-tail, All-append}
use Rattle.std.proofs.lemmas.Option.{slice_get_within}
use Rattle.std.proofs.lemmas.Slice.Zip.{AllZip-long}
use Rattle.mt_counts.specs.Totals.{total, total_of_all, AddUp}
use Rattle.mt_counts.specs.Tallies.{AreKeysBelow, Grows, HasKeysBelow, IsAt, each_once}
use Rattle.mt_counts.specs.Counted.{IsSum}
use Rattle.mt_counts.specs.Tables.{AreGrown, by_row, counted, named_word, text_at, three_of}
use Rattle.mt_counts.specs.Notes.{IsNoteIn, alone_of, columns_of, key_of_one, key_of_two, noted, pairs_of, rows_of, with_one, with_two}
use Rattle.mt_counts.specs.declared.note.Note.{Note}
use Rattle.mt_counts.specs.declared.tables.Tables.{Tables}
use Rattle.mt_counts.proofs.Entries.{grows_none}
use Rattle.mt_counts.proofs.Joined.{both_texts, first_texts, second_texts, alone_texts}
use Rattle.mt_counts.proofs.Numbering.{begins_none}
use Rattle.mt_counts.proofs.Sums.{inside_more, row_is}
use Rattle.mt_counts.proofs.Taking.{left}
use Rattle.mt_counts.proofs.Totals.{total-append, total-map}

-- ---- lists that are made item by item

pub flat_more : {X A : Type 0} (f : X → List A) (xs : List X) (k : ℕ) (d : X) (made more : List A) → k < length xs → made ≡ flat_map f (take k xs) → more ≡ made ++ f (get_or xs k d) → more ≡ flat_map f (take (k + 1) xs)
flat_more {X} {A} f xs k d made more l is next =
    next ∙ ap (λ (ys : List A). ys ++ f (get_or xs k d)) is ∙ sym (ap (flat_map f) (take_more xs k d l) ∙ flat_map-append f (take k xs) (get_or xs k d ∷ []) ∙ ap (λ (ys : List A). flat_map f (take k xs) ++ ys) (one (f (get_or xs k d))))
  where
    one : (ys : List A) → ys ++ [] ≡ ys
    one [] = refl
    one (y ∷ ys) = ap (λ (zs : List A). y ∷ zs) (one ys)

pub map_more : {X A : Type 0} (f : X → A) (xs : List X) (k : ℕ) (d : X) (made more : List A) → k < length xs → made ≡ map f (take k xs) → more ≡ made ++ f (get_or xs k d) ∷ [] → more ≡ map f (take (k + 1) xs)
map_more {X} {A} f xs k d made more l is next =
    next ∙ ap (λ (ys : List A). ys ++ f (get_or xs k d) ∷ []) is ∙ sym (ap (λ (ys : List X). map f ys) (take_more xs k d l) ∙ map-append f (take k xs) (get_or xs k d ∷ []))

no_pairs : (rows : List ℕ) (columns : List (ℕ × ℕ)) → pairs_of (take 0 rows) columns ≡ []
no_pairs [] columns = refl
no_pairs (row ∷ rows) columns = refl

pairs_next : (rows : List ℕ) (columns : List (ℕ × ℕ)) (k d : ℕ) (e : ℕ × ℕ) → length rows ≡ length columns → k < length rows →
    pairs_of (take (suc k) rows) (take (suc k) columns) ≡ pairs_of (take k rows) (take k columns) ++ (get_or rows k d, (get_or columns k e).0) ∷ []
pairs_next [] columns k d e same l = absurd (omega (arith, l))
pairs_next (row ∷ rows) [] k d e same l = absurd (omega (arith, same))
pairs_next (row ∷ rows) (column ∷ columns) zero d e same l = ap (λ (ks : List (ℕ × ℕ)). (row, column.0) ∷ ks) (no_pairs rows (take 0 columns))
pairs_next (row ∷ rows) (column ∷ columns) (suc k) d e same l = ap (λ (ks : List (ℕ × ℕ)). (row, column.0) ∷ ks) (pairs_next rows columns k d e (omega (arith, same)) (omega (arith, l)))

pub pairs_none : (rows : List ℕ) (columns : List (ℕ × ℕ)) (pairs : List (ℕ × ℕ)) → pairs ≡ [] → pairs ≡ pairs_of (take 0 rows) (take 0 columns)
pairs_none rows columns pairs e = e ∙ sym (no_pairs rows (take 0 columns))

pub pairs_more : (rows : List ℕ) (columns : List (ℕ × ℕ)) (k d : ℕ) (e : ℕ × ℕ) (made more : List (ℕ × ℕ)) → length rows ≡ length columns → k < length rows → made ≡ pairs_of (take k rows) (take k columns) →
    more ≡ made ++ (get_or rows k d, (get_or columns k e).0) ∷ [] → more ≡ pairs_of (take (k + 1) rows) (take (k + 1) columns)
pairs_more rows columns k d e made more same l is next =
    let count : k + 1 ≡ suc k = omega arith in
    let step : pairs_of (take (k + 1) rows) (take (k + 1) columns) ≡ pairs_of (take k rows) (take k columns) ++ (get_or rows k d, (get_or columns k e).0) ∷ [] =
    ap (λ (n : ℕ). pairs_of (take n rows) (take n columns)) count ∙ pairs_next rows columns k d e same l in
    next ∙ ap (λ (ks : List (ℕ × ℕ)). ks ++ (get_or rows k d, (get_or columns k e).0) ∷ []) is ∙ sym step

-- ---- keys are below the numbers of names, words and rows

flat_below : (P : Note → Type 0) (f : Note → List (ℕ × ℕ)) (g m : ℕ) (notes : List Note) → ((note : Note) → P note → AreKeysBelow g m (f note)) → All P notes → AreKeysBelow g m (flat_map f notes)
flat_below P f g m [] h all = All-nil (λ (key : ℕ × ℕ). (key.0 < g) × (key.1 < m))
flat_below P f g m (note ∷ notes) h all = All-append (λ (key : ℕ × ℕ). (key.0 < g) × (key.1 < m)) (f note) (flat_map f notes) (h note (All-head P note notes all)) (flat_below P f g m notes h (All-tail P note notes all))

one_below : (g m : ℕ) (key : ℕ × ℕ) → (key.0 < g) × (key.1 < m) → AreKeysBelow g m (key ∷ [])
one_below g m key h = All-cons (λ (key : ℕ × ℕ). (key.0 < g) × (key.1 < m)) key [] h (All-nil (λ (key : ℕ × ℕ). (key.0 < g) × (key.1 < m)))

none_below : (g m : ℕ) → AreKeysBelow g m []
none_below g m = All-nil (λ (key : ℕ × ℕ). (key.0 < g) × (key.1 < m))

two_below : (g m : ℕ) (o : Option ℕ) (key : ℕ → ℕ × ℕ) → IfSome o (λ second. ((key second).0 < g) × ((key second).1 < m)) → AreKeysBelow g m (key_of_two o key)
two_below g m None key h = none_below g m
two_below g m (Some second) key h = one_below g m (key second) h

one_alone : (g m : ℕ) (o : Option ℕ) (key : ℕ × ℕ) → (key.0 < g) × (key.1 < m) → AreKeysBelow g m (key_of_one o key)
one_alone g m None key h = one_below g m key h
one_alone g m (Some second) key h = none_below g m

some_with : (o : Option ℕ) (P Q : ℕ → Type 0) → ((n : ℕ) → P n → Q n) → IfSome o P → IfSome o Q
some_with None P Q f h = h
some_with (Some n) P Q f h = f n h

module _ (names words : List (List ℕ)) (notes : List Note) (fine : All (IsNoteIn names words) notes) where
  pub rows_below : AreKeysBelow (length words) (length names) (rows_of notes)
  rows_below = flat_below (IsNoteIn names words) (λ note. key_of_two note.second (λ second. (note.first, note.name))) (length words) (length names) notes
      (λ note h. two_below (length words) (length names) note.second (λ second. (note.first, note.name)) (some_with note.second (λ second. second < length words) _ (λ second l. (h.first, h.name)) h.second)) fine

  pub columns_below : AreKeysBelow (length words) (length names) (columns_of notes)
  columns_below = flat_below (IsNoteIn names words) (λ note. key_of_two note.second (λ second. (second, note.name))) (length words) (length names) notes
      (λ note h. two_below (length words) (length names) note.second (λ second. (second, note.name)) (some_with note.second (λ second. second < length words) _ (λ second l. (l, h.name)) h.second)) fine

  pub alone_below : AreKeysBelow (length words) (length names) (alone_of notes)
  alone_below = flat_below (IsNoteIn names words) (λ note. key_of_one note.second (note.first, note.name)) (length words) (length names) notes
      (λ note h. one_alone (length words) (length names) note.second (note.first, note.name) (h.first, h.name)) fine

pub pairs_below : (rows : List ((ℕ × ℕ) × ℕ)) (keys columns : List (ℕ × ℕ)) (places : List ℕ) (g m : ℕ) → AllZip (IsAt rows) keys places → AreKeysBelow g m columns → AreKeysBelow (length rows) g (pairs_of places columns)
pairs_below rows [] columns [] g m z h = none_below (length rows) g
pairs_below rows [] columns (place ∷ places) g m z h = absurd z
pairs_below rows (key ∷ keys) columns [] g m z h = absurd z
pairs_below rows (key ∷ keys) [] (place ∷ places) g m z h = none_below (length rows) g
pairs_below rows (key ∷ keys) (column ∷ columns) (place ∷ places) g m z h =
    All-cons (λ (key : ℕ × ℕ). (key.0 < length rows) × (key.1 < g)) (place, column.0) (pairs_of places columns)
    (slice_get_within rows place (key, z.0.count) z.0.there, (All-head (λ (key : ℕ × ℕ). (key.0 < g) × (key.1 < m)) column columns h).0)
    (pairs_below rows keys columns places g m z.1 (All-tail (λ (key : ℕ × ℕ). (key.0 < g) × (key.1 < m)) column columns h))

-- ---- pairs are added to tables

module _ (t : Tables) (rows both columns alone : List ((ℕ × ℕ) × ℕ)) where
  abbrev pub with : Tables
  with = record { names = t.names; words = t.words; rows = rows; both = both; columns = columns; alone = alone }

  pub grown_by : Grows t.rows rows → Grows t.both both → Grows t.columns columns → Grows t.alone alone → (HasKeysBelow (length t.words) (length t.names) t.rows → HasKeysBelow (length t.words) (length t.names) rows) →
      (HasKeysBelow (length rows) (length t.words) t.both → HasKeysBelow (length rows) (length t.words) both) →
      (HasKeysBelow (length t.words) (length t.names) t.columns → HasKeysBelow (length t.words) (length t.names) columns) →
      (HasKeysBelow (length t.words) (length t.names) t.alone → HasKeysBelow (length t.words) (length t.names) alone) → AreGrown t with
  grown_by r b c a keep_rows keep_both keep_columns keep_alone = record {
    names = begins_none t.names;
    words = begins_none t.words;
    rows = r;
    both = b;
    columns = c;
    alone = a;
    inside = inside_more t with (begins_none t.names) (begins_none t.words) r keep_rows keep_both keep_columns keep_alone;
  }

pub grown_none : (t : Tables) → AreGrown t t
grown_none t = grown_by t t.rows t.both t.columns t.alone (grows_none t.rows) (grows_none t.both) (grows_none t.columns) (grows_none t.alone) (λ h. h) (λ h. h) (λ h. h) (λ h. h)

-- ---- places and their number

pub places_within : (entries : List ((ℕ × ℕ) × ℕ)) (keys : List (ℕ × ℕ)) (places : List ℕ) → AllZip (IsAt entries) keys places → All (λ place. place < length entries) places
places_within entries [] [] z = All-nil (λ (place : ℕ). place < length entries)
places_within entries [] (place ∷ places) z = absurd z
places_within entries (key ∷ keys) [] z = absurd z
places_within entries (key ∷ keys) (place ∷ places) z = All-cons (λ (place : ℕ). place < length entries) place places (slice_get_within entries place (key, z.0.count) z.0.there) (places_within entries keys places z.1)

two_few : (o : Option ℕ) (key : ℕ → ℕ × ℕ) (rest : List (ℕ × ℕ)) (n : ℕ) → length rest ≤ n → length (key_of_two o key ++ rest) ≤ suc n
two_few None key rest n l = omega (arith, l)
two_few (Some second) key rest n l = omega (arith, l)

one_few : (o : Option ℕ) (key : ℕ × ℕ) (rest : List (ℕ × ℕ)) (n : ℕ) → length rest ≤ n → length (key_of_one o key ++ rest) ≤ suc n
one_few None key rest n l = omega (arith, l)
one_few (Some second) key rest n l = omega (arith, l)

pub rows_few : (notes : List Note) → length (rows_of notes) ≤ length notes
rows_few [] = omega arith
rows_few (note ∷ notes) = two_few note.second (λ second. (note.first, note.name)) (rows_of notes) (length notes) (rows_few notes)

pub columns_few : (notes : List Note) → length (columns_of notes) ≤ length notes
columns_few [] = omega arith
columns_few (note ∷ notes) = two_few note.second (λ second. (second, note.name)) (columns_of notes) (length notes) (columns_few notes)

pub alone_few : (notes : List Note) → length (alone_of notes) ≤ length notes
alone_few [] = omega arith
alone_few (note ∷ notes) = one_few note.second (note.first, note.name) (alone_of notes) (length notes) (alone_few notes)

pub pairs_few : (rows : List ℕ) (columns : List (ℕ × ℕ)) → length (pairs_of rows columns) ≤ length columns
pairs_few [] columns = omega arith
pairs_few (row ∷ rows) [] = omega arith
pairs_few (row ∷ rows) (column ∷ columns) = omega (arith, pairs_few rows columns)

two_long : (o : Option ℕ) (f g : ℕ → ℕ × ℕ) (xs ys : List (ℕ × ℕ)) → length xs ≡ length ys → length (key_of_two o f ++ xs) ≡ length (key_of_two o g ++ ys)
two_long None f g xs ys e = e
two_long (Some second) f g xs ys e = ap suc e

-- as many rows as columns
pub as_many : (notes : List Note) → length (rows_of notes) ≡ length (columns_of notes)
as_many [] = refl
as_many (note ∷ notes) = two_long note.second (λ second. (note.first, note.name)) (λ second. (second, note.name)) (rows_of notes) (columns_of notes) (as_many notes)

-- places of rows are as many as the columns
pub long_as : (entries : List ((ℕ × ℕ) × ℕ)) (notes : List Note) (keys : List (ℕ × ℕ)) (places others : List ℕ) (columns : List (ℕ × ℕ)) → keys ≡ rows_of notes → others ≡ places → columns ≡ columns_of notes → AllZip (IsAt entries) keys places →
    length others ≡ length columns
long_as entries notes keys places others columns k o c z =
    ap (λ (ps : List ℕ). length ps) o ∙ AllZip-long (IsAt entries) keys places z ∙ ap (λ (ks : List (ℕ × ℕ)). length ks) k ∙ as_many notes ∙ sym (ap (λ (ks : List (ℕ × ℕ)). length ks) c)

pub placed_as : (entries : List ((ℕ × ℕ) × ℕ)) (keys : List (ℕ × ℕ)) (places others : List ℕ) → others ≡ places → AllZip (IsAt entries) keys places → AllZip (IsAt entries) keys others
placed_as entries keys places others e z = subst (λ (ps : List ℕ). AllZip (IsAt entries) keys ps) (sym e) z

pub keys_as : (g m : ℕ) (keys others : List (ℕ × ℕ)) → others ≡ keys → AreKeysBelow g m keys → AreKeysBelow g m others
keys_as g m keys others e h = subst (λ (ks : List (ℕ × ℕ)). AreKeysBelow g m ks) (sym e) h

-- there is room for so many places
pub room_for_places : (entries : List ((ℕ × ℕ) × ℕ)) (keys : List (ℕ × ℕ)) (places : List ℕ) (more limit : ℕ) → AllZip (IsAt entries) keys places → length keys ≤ more → total_of_all entries + more < limit → total_of_all entries + length places < limit
room_for_places entries keys places more limit z l room = omega (arith, l, room, AllZip-long (IsAt entries) keys places z)

-- ---- what is counted is the sum

each_append : {K : Type 0} (p : K → Bool) (xs ys : List K) → total p (each_once (xs ++ ys)) ≡ total p (each_once xs) + total p (each_once ys)
each_append {K} p xs ys = ap (λ (es : List (K × ℕ)). total p es) (map-append (λ (k : K). (k, 1)) xs ys) ∙ total-append p (each_once xs) (each_once ys)

flat_named : {L : Type 0} (q : ℕ × ℕ → Bool) (p : L → Bool) (f : Note → List (ℕ × ℕ)) (g : Note → List (L × ℕ)) (notes : List Note) → ((note : Note) → total q (each_once (f note)) ≡ total p (g note)) → total q (each_once (flat_map f notes)) ≡ total p (flat_map g notes)
flat_named q p f g [] same = refl
flat_named q p f g (note ∷ notes) same = omega (arith, each_append q (f note) (flat_map f notes), total-append p (g note) (flat_map g notes), same note, flat_named q p f g notes same)

two_named : {L : Type 0} (d : ℕ × ℕ → L) (p : L → Bool) (o : Option ℕ) (key : ℕ → ℕ × ℕ) → total (λ k. p (d k)) (each_once (key_of_two o key)) ≡ total p (with_two o (λ second. d (key second)))
two_named d p None key = refl
two_named d p (Some second) key = refl

one_named : {L : Type 0} (d : ℕ × ℕ → L) (p : L → Bool) (o : Option ℕ) (key : ℕ × ℕ) → total (λ k. p (d k)) (each_once (key_of_one o key)) ≡ total p (with_one o (d key))
one_named d p None key = refl
one_named d p (Some second) key = refl

module _ (names words : List (List ℕ)) (rows : List ((ℕ × ℕ) × ℕ)) (p : List ℕ × List ℕ × List ℕ → Bool) where
  pairs_step : (o : Option ℕ) (first name : ℕ) (keys columns : List (ℕ × ℕ)) (places : List ℕ) (rest : ℕ) →
      ((places : List ℕ) → AllZip (IsAt rows) keys places → total (λ k. p (three_of names words (keys_of rows) k)) (each_once (pairs_of places columns)) ≡ rest) →
      AllZip (IsAt rows) (key_of_two o (λ second. (first, name)) ++ keys) places →
      total (λ k. p (three_of names words (keys_of rows) k)) (each_once (pairs_of places (key_of_two o (λ second. (second, name)) ++ columns))) ≡ total p (with_two o (λ second. (text_at names name, text_at words first, text_at words second))) + rest
  pairs_step None first name keys columns places rest h z = omega (arith, h places z)
  pairs_step (Some second) first name keys columns [] rest h z = absurd z
  pairs_step (Some second) first name keys columns (place ∷ places) rest h z =
      let here : total (λ k. p (three_of names words (keys_of rows) k)) (((place, second), 1) ∷ []) ≡ total p (((text_at names name, text_at words first, text_at words second), 1) ∷ []) =
      ap (λ (k : ℕ × ℕ). total p (((text_at names k.1, text_at words k.0, text_at words second), 1) ∷ [])) (row_is rows place (first, name) z.0) in
      omega (arith, here, h places z.1)

  pairs_named : (notes : List Note) (places : List ℕ) → AllZip (IsAt rows) (rows_of notes) places →
      total (λ k. p (three_of names words (keys_of rows) k)) (each_once (pairs_of places (columns_of notes))) ≡ total p (flat_map (both_texts names words) notes)
  pairs_named [] [] z = refl
  pairs_named [] (place ∷ places) z = absurd z
  pairs_named (note ∷ notes) places z =
      pairs_step note.second note.first note.name (rows_of notes) (columns_of notes) places (total p (flat_map (both_texts names words) notes)) (λ more y. pairs_named notes more y) z ∙
      sym (total-append p (both_texts names words note) (flat_map (both_texts names words) notes))

named_sum : {L : Type 0} (d : ℕ × ℕ → L) (p : L → Bool) (keys : List (ℕ × ℕ)) (more : ℕ) (old new : List ((ℕ × ℕ) × ℕ)) → AddUp old (each_once keys) new → total (λ k. p (d k)) (each_once keys) ≡ more →
    total p (map (λ e. (d e.0, e.1)) new) ≡ total p (map (λ e. (d e.0, e.1)) old) + more
named_sum d p keys more old new h same = omega (arith, total-map d p new, total-map d p old, h (λ k. p (d k)), same)

pub raised_sum : (t : Tables) (rows both columns alone : List ((ℕ × ℕ) × ℕ)) (row_keys : keys_of rows ≡ keys_of t.rows) (notes : List Note) (places : List ℕ) → AllZip (IsAt t.rows) (rows_of notes) places →
    AddUp t.rows (each_once (rows_of notes)) rows → AddUp t.both (each_once (pairs_of places (columns_of notes))) both → AddUp t.columns (each_once (columns_of notes)) columns → AddUp t.alone (each_once (alone_of notes)) alone →
    IsSum (counted t) (noted t.names t.words notes) (counted (left t rows both columns alone row_keys))
raised_sum t rows both columns alone row_keys notes places z r b c a = record {
  both = λ p. subst (λ (ks : List (ℕ × ℕ)). total p (by_row t.names t.words ks both) ≡ total p (counted t).both + total p (flat_map (both_texts t.names t.words) notes)) (sym row_keys)
      (named_sum (three_of t.names t.words (keys_of t.rows)) p (pairs_of places (columns_of notes)) (total p (flat_map (both_texts t.names t.words) notes)) t.both both b (pairs_named t.names t.words t.rows p notes places z));
  first = λ p. named_sum (named_word t.names t.words) p (rows_of notes) (total p (flat_map (first_texts t.names t.words) notes)) t.rows rows r
      (flat_named (λ k. p (named_word t.names t.words k)) p (λ note. key_of_two note.second (λ second. (note.first, note.name))) (first_texts t.names t.words) notes (λ note. two_named (named_word t.names t.words) p note.second (λ second. (note.first, note.name))));
  second = λ p. named_sum (named_word t.names t.words) p (columns_of notes) (total p (flat_map (second_texts t.names t.words) notes)) t.columns columns c
      (flat_named (λ k. p (named_word t.names t.words k)) p (λ note. key_of_two note.second (λ second. (second, note.name))) (second_texts t.names t.words) notes (λ note. two_named (named_word t.names t.words) p note.second (λ second. (second, note.name))));
  alone = λ p. named_sum (named_word t.names t.words) p (alone_of notes) (total p (flat_map (alone_texts t.names t.words) notes)) t.alone alone a
      (flat_named (λ k. p (named_word t.names t.words k)) p (λ note. key_of_one note.second (note.first, note.name)) (alone_texts t.names t.words) notes (λ note. one_named (named_word t.names t.words) p note.second (note.first, note.name)));
}
