-- What tables count after they have grown, and after counts of others were added.
use Rattle.std.proofs.Common.{◌≡◌, ℕ, ◌+◌, ◌<◌, ◌≤◌, Bool, Some, List, [], length, map, get_or, slice_get, sym, ap, ◌∙◌, arith, length-append}
use Rattle.std.specs.Map.{keys_of}
use Rattle.std.proofs.lemmas.List.{get_or_append_left}
use Rattle.std.proofs.lemmas.Option.{get_or_from_slice_get, slice_get-get_or}
use Rattle.mt_counts.specs.Totals.{total}
use Rattle.mt_counts.specs.Names.{Begins, AreRenumbered}
use Rattle.mt_counts.specs.Tallies.{IsAt, Grows, HasKeysBelow}
use Rattle.mt_counts.specs.Counted.{Counted, IsSum, HaveSame}
use Rattle.mt_counts.specs.Tables.{text_at, row_at, three_of, named_word, counted, AreInside, AreGrown}
use Rattle.mt_counts.specs.declared.tables.Tables.{Tables}
use Rattle.mt_counts.proofs.Entries.{get_or-keys, grows_none}
use Rattle.mt_counts.proofs.Numbering.{begins_none}
use Rattle.mt_counts.proofs.Totals.{total-map, total-same, total-grown}
use Rattle.mt_counts.proofs.Growing.{at_keys, grows_at}

-- ---- texts and rows by their numbers

pub text_grown : (old new : List (List ℕ)) (n : ℕ) → Begins old new → n < length old → text_at new n ≡ text_at old n
text_grown old new n h l = ap (λ (xs : List (List ℕ)). get_or xs n []) h.are ∙ get_or_append_left old h.more [] n l

pub longer : (old new : List (List ℕ)) → Begins old new → length old ≤ length new
longer old new h = omega (arith, ap (λ (xs : List (List ℕ)). length xs) h.are, length-append old h.more)

more_pairs : (old new : List ((ℕ × ℕ) × ℕ)) → Grows old new → length old ≤ length new
more_pairs old new h = omega (arith, ap (λ (xs : List ((ℕ × ℕ) × ℕ)). length xs) h.are, length-append old h.more)

pub text_moved : (old new : List (List ℕ)) (numbers : List ℕ) (n : ℕ) → AreRenumbered old new numbers → n < length old → text_at new (get_or numbers n 0) ≡ text_at old n
text_moved old new numbers n h l = get_or_from_slice_get new (get_or numbers n 0) (text_at old n) [] (h.each n (text_at old n) (slice_get-get_or old n [] l))

-- the row with a number is what stands there
pub row_stands : (rows : List ((ℕ × ℕ) × ℕ)) (n : ℕ) → n < length rows → IsAt rows (row_at (keys_of rows) n) n
row_stands rows n l =
    let entry = get_or rows n ((0, 0), 0) in
    record { count = entry.1; there = slice_get-get_or rows n ((0, 0), 0) l ∙ ap (λ (k : ℕ × ℕ). Some (k, entry.1)) (sym (get_or-keys rows n (0, 0) 0)) }

pub row_is : (rows : List ((ℕ × ℕ) × ℕ)) (n : ℕ) (key : ℕ × ℕ) → IsAt rows key n → row_at (keys_of rows) n ≡ key
row_is rows n key at = get_or-keys rows n (0, 0) 0 ∙ ap (λ (e : (ℕ × ℕ) × ℕ). e.0) (get_or_from_slice_get rows n (key, at.count) ((0, 0), 0) at.there)

row_grown : (old new : List ((ℕ × ℕ) × ℕ)) (n : ℕ) → Grows old new → n < length old → row_at (keys_of new) n ≡ row_at (keys_of old) n
row_grown old new n h l = row_is new n (row_at (keys_of old) n) (grows_at old new (row_at (keys_of old) n) n h (row_stands old n l))

pub stands : {K : Type 0} (es : List (K × ℕ)) (key : K) (n k : ℕ) → slice_get es k ≡ Some (key, n) → IsAt es key k
stands es key n k e = record { count = n; there = e }

-- ---- names and words are added, and pairs without a count

module _ (old new : Tables) (inside : AreInside old) (grown : AreGrown old new) where
  three_same : (key : ℕ × ℕ) → key.0 < length old.rows → key.1 < length old.words → three_of new.names new.words (keys_of new.rows) key ≡ three_of old.names old.words (keys_of old.rows) key
  three_same key l m =
      let row = row_at (keys_of old.rows) key.0 in
      let below = inside.rows row key.0 (row_stands old.rows key.0 l) in
      let same = row_grown old.rows new.rows key.0 grown.rows l in
      let name = ap (λ (r : ℕ × ℕ). text_at new.names r.1) same ∙ text_grown old.names new.names row.1 grown.names below.1 in
      let first = ap (λ (r : ℕ × ℕ). text_at new.words r.0) same ∙ text_grown old.words new.words row.0 grown.words below.0 in
      let second = text_grown old.words new.words key.1 grown.words m in
      λ i. (name i, first i, second i)

  named_same : (key : ℕ × ℕ) → key.0 < length old.words → key.1 < length old.names → named_word new.names new.words key ≡ named_word old.names old.words key
  named_same key l m = let name = text_grown old.names new.names key.1 grown.names m in let word = text_grown old.words new.words key.0 grown.words l in λ i. (name i, word i)

  -- totals of pairs that have grown, under names that stay
  same_total : {L : Type 0} (c d : ℕ × ℕ → L) (p : L → Bool) (before behind : List ((ℕ × ℕ) × ℕ)) (g m : ℕ) → Grows before behind → HasKeysBelow g m before → ((key : ℕ × ℕ) → key.0 < g → key.1 < m → d key ≡ c key) →
      total p (map (λ e. (d e.0, e.1)) behind) ≡ total p (map (λ e. (c e.0, e.1)) before)
  same_total c d p before behind g m grows below same =
      total-map d p behind ∙ total-grown (λ k. p (d k)) before behind grows ∙
      total-same (λ k. p (d k)) (λ k. p (c k)) before (λ key n k e. let low = below key k (stands before key n k e) in ap p (same key low.0 low.1)) ∙ sym (total-map c p before)

  pub grown_same : HaveSame (counted old) (counted new)
  grown_same = record {
    both = λ p. same_total (three_of old.names old.words (keys_of old.rows)) (three_of new.names new.words (keys_of new.rows)) p old.both new.both (length old.rows) (length old.words) grown.both inside.both three_same;
    first = λ p. same_total (named_word old.names old.words) (named_word new.names new.words) p old.rows new.rows (length old.words) (length old.names) grown.rows inside.rows named_same;
    second = λ p. same_total (named_word old.names old.words) (named_word new.names new.words) p old.columns new.columns (length old.words) (length old.names) grown.columns inside.columns named_same;
    alone = λ p. same_total (named_word old.names old.words) (named_word new.names new.words) p old.alone new.alone (length old.words) (length old.names) grown.alone inside.alone named_same;
  }

-- keys that stay are inside as before
keys_below : (old new : List ((ℕ × ℕ) × ℕ)) (g m n o : ℕ) → keys_of new ≡ keys_of old → g ≡ n → m ≡ o → HasKeysBelow g m old → HasKeysBelow n o new
keys_below old new g m n o same e f h key k at = let low = h key k (at_keys new old key k (sym same) at) in (omega (arith, low.0, e), omega (arith, low.1, f))

-- keys that were inside are inside where there are more names, words and rows
wider : (old : List ((ℕ × ℕ) × ℕ)) (g m n o : ℕ) → g ≤ n → m ≤ o → HasKeysBelow g m old → HasKeysBelow n o old
wider old g m n o e f h key k at = let low = h key k at in (omega (arith, low.0, e), omega (arith, low.1, f))

pub inside_longer : (old new : Tables) → Begins old.names new.names → Begins old.words new.words → length old.rows ≤ length new.rows →
    (HasKeysBelow (length new.words) (length new.names) old.rows → HasKeysBelow (length new.words) (length new.names) new.rows) →
    (HasKeysBelow (length new.rows) (length new.words) old.both → HasKeysBelow (length new.rows) (length new.words) new.both) →
    (HasKeysBelow (length new.words) (length new.names) old.columns → HasKeysBelow (length new.words) (length new.names) new.columns) →
    (HasKeysBelow (length new.words) (length new.names) old.alone → HasKeysBelow (length new.words) (length new.names) new.alone) → AreInside old → AreInside new
inside_longer old new names words r keep_rows keep_both keep_columns keep_alone inside =
    let n = longer old.names new.names names in
    let w = longer old.words new.words words in
    record {
      rows = keep_rows (wider old.rows (length old.words) (length old.names) (length new.words) (length new.names) w n inside.rows);
      both = keep_both (wider old.both (length old.rows) (length old.words) (length new.rows) (length new.words) r w inside.both);
      columns = keep_columns (wider old.columns (length old.words) (length old.names) (length new.words) (length new.names) w n inside.columns);
      alone = keep_alone (wider old.alone (length old.words) (length old.names) (length new.words) (length new.names) w n inside.alone);
    }

pub inside_more : (old new : Tables) → Begins old.names new.names → Begins old.words new.words → Grows old.rows new.rows →
    (HasKeysBelow (length new.words) (length new.names) old.rows → HasKeysBelow (length new.words) (length new.names) new.rows) →
    (HasKeysBelow (length new.rows) (length new.words) old.both → HasKeysBelow (length new.rows) (length new.words) new.both) →
    (HasKeysBelow (length new.words) (length new.names) old.columns → HasKeysBelow (length new.words) (length new.names) new.columns) →
    (HasKeysBelow (length new.words) (length new.names) old.alone → HasKeysBelow (length new.words) (length new.names) new.alone) → AreInside old → AreInside new
inside_more old new names words rows keep_rows keep_both keep_columns keep_alone = inside_longer old new names words (more_pairs old.rows new.rows rows) keep_rows keep_both keep_columns keep_alone

-- more names and words
pub texts_more : (t : Tables) (names words : List (List ℕ)) → Begins t.names names → Begins t.words words → AreGrown t (record { names = names; words = words; rows = t.rows; both = t.both; columns = t.columns; alone = t.alone })
texts_more t names words h g =
    let new : Tables = record { names = names; words = words; rows = t.rows; both = t.both; columns = t.columns; alone = t.alone } in
    record {
      names = h;
      words = g;
      rows = grows_none t.rows;
      both = grows_none t.both;
      columns = grows_none t.columns;
      alone = grows_none t.alone;
      inside = inside_more t new h g (grows_none t.rows) (λ b. b) (λ b. b) (λ b. b) (λ b. b);
    }

pub names_more : (t : Tables) (names : List (List ℕ)) → Begins t.names names → AreGrown t (record { names = names; words = t.words; rows = t.rows; both = t.both; columns = t.columns; alone = t.alone })
names_more t names h = texts_more t names t.words h (begins_none t.words)

-- what is grown first and added to then is the sum
pub sum_behind : (old mid t new : Counted) → HaveSame old mid → IsSum mid t new → IsSum old t new
sum_behind old mid t new same sum = record {
  both = λ p. sum.both p ∙ ap (λ (n : ℕ). n + total p t.both) (same.both p);
  first = λ p. sum.first p ∙ ap (λ (n : ℕ). n + total p t.first) (same.first p);
  second = λ p. sum.second p ∙ ap (λ (n : ℕ). n + total p t.second) (same.second p);
  alone = λ p. sum.alone p ∙ ap (λ (n : ℕ). n + total p t.alone) (same.alone p);
}
