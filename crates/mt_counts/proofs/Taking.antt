-- Counts that are taken away.
use Rattle.std.proofs.Common.{◌≡◌, ℕ, ◌+◌, ◌≤◌, Bool, true, false, List, [], ◌∷◌, length, map, refl, sym, ap, subst, ◌∙◌, arith, if◌then◌else◌}
use Rattle.std.specs.Map.{keys_of}
use Rattle.mt_counts.specs.Totals.{total, IsLowered, AddUp}
use Rattle.mt_counts.specs.Tallies.{IsAt, IsRaised, HasKeysBelow}
use Rattle.mt_counts.specs.Counted.{Counted, IsSum, IsWithin, is_two, is_three}
use Rattle.mt_counts.specs.Notes.{two_counted, one_counted}
use Rattle.mt_counts.proofs.Keys.{three_own}
use Rattle.mt_counts.proofs.Lists.{two_own}
use Rattle.mt_counts.specs.Tables.{by_name, by_row, counted, AreInside}
use Rattle.mt_counts.specs.declared.tables.Tables.{Tables}
use Rattle.mt_counts.proofs.Entries.{length-keys}
use Rattle.mt_counts.proofs.Growing.{at_keys, keys_raised}
use Rattle.mt_counts.proofs.Totals.{part, total-map, total-raised, raised_key}

nothing_taken : {K : Type 0} (p : K → Bool) (key : K) (by : ℕ) → by ≡ 0 → total p ((key, by) ∷ []) ≡ 0
nothing_taken p key by e = ap (λ (n : ℕ). total p ((key, n) ∷ [])) e ∙ zero_part (p key)
  where
    zero_part : (b : Bool) → (if b then 0 else 0) + 0 ≡ 0
    zero_part true = refl
    zero_part false = refl

-- nothing is taken from a key that counts nothing
pub lowered_none : {K : Type 0} (entries : List (K × ℕ)) (key : K) (by count : ℕ) → count ≡ 0 → by ≤ count → IsLowered key by entries entries
lowered_none entries key by count none l p = omega (arith, nothing_taken p key by (omega (arith, none, l)))

-- a count that is lowered at its place
pub lowered_there : (old new : List ((ℕ × ℕ) × ℕ)) (key : ℕ × ℕ) (place by : ℕ) → IsAt old key place → IsRaised new place by old → IsLowered key by old new
lowered_there old new key place by at raised p =
    let is = raised_key new old place by raised key (at_keys old new key place (sym (keys_raised new old place by raised)) at) in
    let one : part p raised.key by ≡ part p key by = ap (λ (k : ℕ × ℕ). part p k by) is in
    omega (arith, total-raised p new old place by raised, one)

-- the same of what the numbers stand for
pub lowered_texts : {L : Type 0} (d : ℕ × ℕ → L) (key : ℕ × ℕ) (text : L) (by : ℕ) (old new : List ((ℕ × ℕ) × ℕ)) → d key ≡ text → IsLowered key by old new → IsLowered text by (map (λ e. (d e.0, e.1)) old) (map (λ e. (d e.0, e.1)) new)
lowered_texts {L} d key text by old new is lowered p =
    let one : total p ((text, by) ∷ []) ≡ total (λ k. p (d k)) ((key, by) ∷ []) = ap (λ (t : L). total p ((t, by) ∷ [])) (sym is) in
    omega (arith, total-map d p old, total-map d p new, lowered (λ k. p (d k)), one)

pub keys_below : (old new : List ((ℕ × ℕ) × ℕ)) (g m : ℕ) → keys_of new ≡ keys_of old → HasKeysBelow g m old → HasKeysBelow g m new
keys_below old new g m same below key k at = below key k (at_keys new old key k (sym same) at)

-- ---- whole tables

module _ (t : Tables) (rows both columns alone : List ((ℕ × ℕ) × ℕ)) (row_keys : keys_of rows ≡ keys_of t.rows) where
  abbrev pub left : Tables
  left = record { names = t.names; words = t.words; rows = rows; both = both; columns = columns; alone = alone }

  pub left_inside : keys_of both ≡ keys_of t.both → keys_of columns ≡ keys_of t.columns → keys_of alone ≡ keys_of t.alone → AreInside t → AreInside left
  left_inside both_keys column_keys alone_keys inside =
      let many : length rows ≡ length t.rows = sym (length-keys rows) ∙ ap (λ (ks : List (ℕ × ℕ)). length ks) row_keys ∙ length-keys t.rows in
      record {
        rows = keys_below t.rows rows (length t.words) (length t.names) row_keys inside.rows;
        both = subst (λ (n : ℕ). HasKeysBelow n (length t.words) both) (sym many) (keys_below t.both both (length t.rows) (length t.words) both_keys inside.both);
        columns = keys_below t.columns columns (length t.words) (length t.names) column_keys inside.columns;
        alone = keys_below t.alone alone (length t.words) (length t.names) alone_keys inside.alone;
      }

-- ---- one count

counts_one : {K : Type 0} (test : K → Bool) (key : K) → test key ≡ true → total test ((key, 1) ∷ []) ≡ 1
counts_one test key own = ap (λ (b : Bool). (if b then 1 else 0) + 0) own

has_one : {K : Type 0} (test : K → Bool) (key : K) (entries : List (K × ℕ)) → test key ≡ true → total test ((key, 1) ∷ []) ≤ total test entries → 1 ≤ total test entries
has_one test key entries own l = omega (arith, l, counts_one test key own)

-- what counts nothing has no part
pub has_none : {K : Type 0} (test : K → Bool) (key : K) (entries : List (K × ℕ)) → test key ≡ true → total test ((key, 1) ∷ []) ≤ total test entries → total test entries ≡ 0 → ⊥
has_none test key entries own l none = omega (arith, l, none, counts_one test key own)

takes_one : {K : Type 0} (key : K) (old new : List (K × ℕ)) → IsLowered key 1 old new → AddUp ((key, 1) ∷ []) new old
takes_one key old new lowered p = omega (arith, lowered p)

-- one count of a name with two words is taken, and one of a unary name with its word
module _ (t : Tables) (name first second : List ℕ) (rows both columns : List ((ℕ × ℕ) × ℕ)) (row_keys : keys_of rows ≡ keys_of t.rows) where
  pub two_taken : (1 ≤ total (is_three name first second) (counted t).both → IsLowered (name, first, second) 1 (counted t).both (by_row t.names t.words (keys_of t.rows) both)) →
      (1 ≤ total (is_two name first) (counted t).first → IsLowered (name, first) 1 (counted t).first (by_name t.names t.words rows)) →
      (1 ≤ total (is_two name second) (counted t).second → IsLowered (name, second) 1 (counted t).second (by_name t.names t.words columns)) →
      IsWithin (two_counted name first second) (counted t) → IsSum (two_counted name first second) (counted (left t rows both columns t.alone row_keys)) (counted t)
  two_taken lower_both lower_first lower_second within = record {
    both = λ p. subst (λ (ks : List (ℕ × ℕ)). total p (counted t).both ≡ total p (two_counted name first second).both + total p (by_row t.names t.words ks both)) (sym row_keys)
        (takes_one (name, first, second) (counted t).both (by_row t.names t.words (keys_of t.rows) both) (lower_both (has_one (is_three name first second) (name, first, second) (counted t).both (three_own name first second) (within.both name first second))) p);
    first = takes_one (name, first) (counted t).first (by_name t.names t.words rows) (lower_first (has_one (is_two name first) (name, first) (counted t).first (two_own name first) (within.first name first)));
    second = takes_one (name, second) (counted t).second (by_name t.names t.words columns) (lower_second (has_one (is_two name second) (name, second) (counted t).second (two_own name second) (within.second name second)));
    alone = λ p. omega arith;
  }

pub one_taken : (t : Tables) (name word : List ℕ) (alone : List ((ℕ × ℕ) × ℕ)) → (1 ≤ total (is_two name word) (counted t).alone → IsLowered (name, word) 1 (counted t).alone (by_name t.names t.words alone)) →
    IsWithin (one_counted name word) (counted t) → IsSum (one_counted name word) (counted (left t t.rows t.both t.columns alone refl)) (counted t)
one_taken t name word alone lower_alone within = record {
  both = λ p. omega arith;
  first = λ p. omega arith;
  second = λ p. omega arith;
  alone = takes_one (name, word) (counted t).alone (by_name t.names t.words alone) (lower_alone (has_one (is_two name word) (name, word) (counted t).alone (two_own name word) (within.alone name word)));
}

-- under other names for what is taken
pub taken_as : (a b old new : Counted) → a ≡ b → (IsWithin a old → IsSum a new old) → IsWithin b old → IsSum b new old
taken_as a b old new e h = subst (λ (k : Counted). IsWithin k old → IsSum k new old) e h
