-- Bits in words: none at first, one set, one read.
use Rattle.std.proofs.Common.{◌≡◌, ◌≢◌, ℕ, zero, suc, ◌+◌, ◌-◌, ◌*◌, ◌/◌, ◌%◌, ◌^◌, ◌<◌, ◌≤◌, ◌==◌, ◌⊎◌, inl, inr, Bool, true, false, List, ◌∷◌, length, get_or, set, replicate, slice_get, Some, bit_and, bit_or, ◌↔◌, refl, sym, ◌∙◌, ap, ap₂, subst, cond, [], arith, w64}
use Rattle.std.specs.Int.{bit_at}
use Rattle.std.proofs.lemmas.Bool.{cases_eq, cases_lt}
use Rattle.std.proofs.lemmas.List.{length-replicate, get_or-replicate, get_or-set_same, get_or-set_other, length-set, get_or_past}
use Rattle.std.proofs.Math.Nat.{add-zero}
use Rattle.std.proofs.lemmas.Option.{slice_get_within, slice_get-get_or, same_Some}
use Rattle.std.proofs.lemmas.Nat.Bits.{bit_at-zero, bit_at-trailing_zeros, bit_at_above, shr_and_one, bit_at_set_same, bit_at_set_other}
use Rattle.std.specs.Int.{trailing_zeros}
use Rattle.std.proofs.lemmas.List.Sums.{sum_by-set, count_by-le-length}
use Rattle.std.proofs.lemmas.List.Folds.{sum_by-replicate}
use Rattle.std.proofs.lemmas.Nat.{shr-shr, shr_le}
use Rattle.mt_pattern.specs.Marks.{is_set, marks_from, AreMarks, IsNext, IsNextWord, NoneFrom, size_of}

-- ---- marks

pub length-marks : (words : List ℕ) (id count : ℕ) → length (marks_from words id count) ≡ count
length-marks words id zero = refl
length-marks words id (suc count) = omega (arith, length-marks words (id + 1) count)

-- the mark at a place
pub mark_at : (words : List ℕ) (id count k : ℕ) → k < count → slice_get (marks_from words id count) k ≡ Some (is_set words (id + k))
mark_at words id zero k l = absurd (omega arith)
mark_at words id (suc count) zero l = ap (λ n. Some (is_set words n)) (sym (add-zero id))
mark_at words id (suc count) (suc k) l =
    let e : id + 1 + k ≡ id + suc k = omega arith in
    mark_at words (id + 1) count k (omega arith) ∙ ap (λ n. Some (is_set words n)) e

-- words with the same bits from a number on have the same marks
same_marks : (words others : List ℕ) (id count : ℕ) → ((j : ℕ) → id ≤ j → is_set words j ≡ is_set others j) → marks_from words id count ≡ marks_from others id count
same_marks words others id zero h = refl
same_marks words others id (suc count) h = ap₂ ◌∷◌ (h id (omega arith)) (same_marks words others (id + 1) count (λ j l. h j (omega arith)))

-- words that differ in one bit, which is set now
pub one_more : (words others : List ℕ) (id count k : ℕ) → k < count → is_set others (id + k) ≡ true → ((j : ℕ) → j ≢ id + k → is_set others j ≡ is_set words j) →
    marks_from others id count ≡ set (marks_from words id count) k true
one_more words others id zero k l here else = absurd (omega arith)
one_more words others id (suc count) zero l here else =
    let e : id + 0 ≡ id = omega arith in
    ap₂ ◌∷◌ (sym (ap (is_set others) e) ∙ here) (same_marks others words (id + 1) count (λ j m. else j (λ f. absurd (omega arith))))
one_more words others id (suc count) (suc k) l here else =
    let e : id + suc k ≡ id + 1 + k = omega arith in
    ap₂ ◌∷◌ (else id (λ f. absurd (omega arith))) (one_more words others (id + 1) count k (omega arith) (sym (ap (is_set others) e) ∙ here) (λ j m. else j (λ f. m (f ∙ e))))

-- ---- one bit

-- a word that is set at a bit
abbrev pub with_bit : List ℕ → ℕ → List ℕ
with_bit words id = set words (id / 64) (bit_or (get_or words (id / 64) 0) (1 * 2 ^ (id % 64) % 2 ^ 64))

small : (id : ℕ) → id % 64 < 64
small id = omega arith

pub set_here : (words : List ℕ) (id : ℕ) → id / 64 < length words → is_set (with_bit words id) id ≡ true
set_here words id l =
    let e = get_or-set_same words (id / 64) (bit_or (get_or words (id / 64) 0) (1 * 2 ^ (id % 64) % 2 ^ 64)) 0 l in
    ap (λ w. bit_at w (id % 64) == 1) e ∙ ap (λ b. b == 1) (bit_at_set_same w64 (get_or words (id / 64) 0) (id % 64) (small id))

pub others_stay : (words : List ℕ) (id j : ℕ) → id / 64 < length words → j ≢ id → is_set (with_bit words id) j ≡ is_set words j
others_stay words id j l n = by (cases_eq (j / 64) (id / 64))
  where
    new : ℕ
    new = bit_or (get_or words (id / 64) 0) (1 * 2 ^ (id % 64) % 2 ^ 64)

    by : (j / 64 ≡ id / 64) ⊎ (j / 64 ≢ id / 64) → is_set (with_bit words id) j ≡ is_set words j
    by (inr other) = ap (λ w. bit_at w (j % 64) == 1) (get_or-set_other words (id / 64) (j / 64) new 0 other)
    by (inl same) =
        let apart : j % 64 ≢ id % 64 = λ e. n (omega arith) in
        ap (λ k. bit_at (get_or (with_bit words id) k 0) (j % 64) == 1) same
        ∙ ap (λ w. bit_at w (j % 64) == 1) (get_or-set_same words (id / 64) new 0 l)
        ∙ ap (λ b. b == 1) (bit_at_set_other w64 (get_or words (id / 64) 0) (id % 64) (small id) (j % 64) apart)
        ∙ sym (ap (λ k. bit_at (get_or words k 0) (j % 64) == 1) same)

-- ---- none

abbrev pub zeros : ℕ → List ℕ
zeros n = replicate n 0

length-zeros : (n : ℕ) → length (zeros n) ≡ n
length-zeros n = let none : ℕ = 0 in length-replicate n none

zeros_at : (n k : ℕ) → get_or (zeros n) k 0 ≡ 0
zeros_at n k = by (cases_lt k n)
  where
    by : (k < n) ⊎ (n ≤ k) → get_or (zeros n) k 0 ≡ 0
    by (inl l) = get_or-replicate n k 0 0 l
    by (inr l) = get_or_past (zeros n) k 0 (omega (arith, length-zeros n))

none_set : (n id : ℕ) → is_set (zeros n) id ≡ false
none_set n id = ap (λ w. bit_at w (id % 64) == 1) (zeros_at n (id / 64)) ∙ ap (λ b. b == 1) (bit_at-zero (id % 64))

pub no_marks : (n id count : ℕ) → marks_from (zeros n) id count ≡ replicate count false
no_marks n id zero = refl
no_marks n id (suc count) = ap₂ ◌∷◌ (none_set n id) (no_marks n (id + 1) count)

pub none_AreMarks : (words : List ℕ) (n count : ℕ) → words ≡ zeros n → count ≤ 64 * n → AreMarks words count
none_AreMarks words n count e l = record {
  room = omega (arith, ap length e, length-zeros n);
  clear = λ id _. ap (λ w. is_set w id) e ∙ none_set n id;
}

-- ---- for `insert`

pub inserted : (words new : List ℕ) (count id : ℕ) → AreMarks words count → id < count → new ≡ with_bit words id → marks_from new 0 count ≡ set (marks_from words 0 count) id true
inserted words new count id are l e =
    let within : id / 64 < length words = omega (arith, are.room) in
    let z : 0 + id ≡ id = omega arith in
    ap (λ w. marks_from w 0 count) e ∙ one_more words (with_bit words id) 0 count id l (ap (is_set (with_bit words id)) z ∙ set_here words id within) (λ j n. others_stay words id j within (λ f. n (f ∙ sym z)))

pub inserted_AreMarks : (words new : List ℕ) (count id : ℕ) → AreMarks words count → id < count → new ≡ with_bit words id → AreMarks new count
inserted_AreMarks words new count id are l e =
    let within : id / 64 < length words = omega (arith, are.room) in
    record {
      room = omega (arith, are.room, ap length e, length-set words (id / 64) (bit_or (get_or words (id / 64) 0) (1 * 2 ^ (id % 64) % 2 ^ 64)));
      clear = λ j m. ap (λ w. is_set w j) e ∙ others_stay words id j within (λ f. absurd (omega arith)) ∙ are.clear j m;
    }

-- ---- for `has`

-- a mark that is there and set is that of a bit that is set
pub is_marked : (words : List ℕ) (count id : ℕ) → AreMarks words count → is_set words id ≡ true → slice_get (marks_from words 0 count) id ≡ Some true
is_marked words count id are on = by (cases_lt id count)
  where
    z : (id : ℕ) → 0 + id ≡ id
    z id = omega arith

    by : (id < count) ⊎ (count ≤ id) → slice_get (marks_from words 0 count) id ≡ Some true
    by (inl l) = mark_at words 0 count id l ∙ ap (λ b. Some b) (ap (is_set words) (z id) ∙ on)
    by (inr l) = let no = are.clear id l in cc

pub is_bit : (words : List ℕ) (count id : ℕ) → slice_get (marks_from words 0 count) id ≡ Some true → is_set words id ≡ true
is_bit words count id on =
    let l : id < count = omega (arith, length-marks words 0 count, slice_get_within (marks_from words 0 count) id true on) in
    let e = mark_at words 0 count id l in
    let z : 0 + id ≡ id = omega arith in
    let same : is_set words (0 + id) ≡ true = cc in
    ap (is_set words) (sym z) ∙ same

-- what is read of the word of a number
pub reads : (words seen : List ℕ) (count id word : ℕ) (marks : List Bool) → AreMarks words count → marks_from words 0 count ≡ marks → seen ≡ words → word ≡ get_or seen (id / 64) 0 →
    (bit_and (word / 2 ^ (id % 64)) 1 == 1) ≡ true ↔ slice_get marks id ≡ Some true
reads words seen count id word marks are view same e =
    let here : (bit_and (word / 2 ^ (id % 64)) 1 == 1) ≡ is_set words id =
    ap (λ b. b == 1) (shr_and_one word (id % 64)) ∙ ap (λ w. bit_at w (id % 64) == 1) (e ∙ ap (λ w. get_or w (id / 64) 0) same) in (
      λ h. ap (λ m. slice_get m id) (sym view) ∙ is_marked words count id are (sym here ∙ h),
      λ h. here ∙ is_bit words count id (ap (λ m. slice_get m id) view ∙ h),
    )

-- ---- for `next_from`

-- the bit of a number, by its word and its place there
set_by_word : (words : List ℕ) (at k : ℕ) → k < 64 → is_set words (64 * at + k) ≡ (bit_at (get_or words at 0) k == 1)
set_by_word words at k l =
    let word : (64 * at + k) / 64 ≡ at = omega arith in
    let place : (64 * at + k) % 64 ≡ k = omega arith in
    ap₂ (λ w p. bit_at (get_or words w 0) p == 1) word place

not_in_empty : (words : List ℕ) (id : ℕ) → get_or words (id / 64) 0 ≡ 0 → is_set words id ≡ false
not_in_empty words id e = ap (λ w. bit_at w (id % 64) == 1) e ∙ ap (λ b. b == 1) (bit_at-zero (id % 64))

-- what is left of a word
left_bit : (word k i : ℕ) → bit_at (word / 2 ^ k) i ≡ bit_at word (k + i)
left_bit word k i = ap (λ n. n % 2) (shr-shr word k i)

-- the first bit of a word that is set, where all before it that count are not
first_in_word : (words : List ℕ) (count from at k : ℕ) → AreMarks words count → k < 64 → bit_at (get_or words at 0) k ≡ 1 → from ≤ 64 * at + k →
    ((id : ℕ) → from ≤ id → id < 64 * at + k → is_set words id ≡ false) → IsNext (marks_from words 0 count) from (64 * at + k)
first_in_word words count from at k are l on later none = record {
  later = later;
  marked = is_marked words count (64 * at + k) are (set_by_word words at k l ∙ ap (λ b. b == 1) on);
  least = λ id after marked. by id after marked (cases_lt id (64 * at + k));
}
  where
    by : (id : ℕ) → from ≤ id → slice_get (marks_from words 0 count) id ≡ Some true → (id < 64 * at + k) ⊎ (64 * at + k ≤ id) → 64 * at + k ≤ id
    by id after marked (inr l) = l
    by id after marked (inl l) = let no = none id after l in let yes = is_bit words count id marked in cc

pub next_here : (words : List ℕ) (count id word rest : ℕ) → AreMarks words count → word ≡ get_or words (id / 64) 0 → word < 2 ^ 64 → rest ≡ word / 2 ^ (id % 64) → 0 < rest →
    IsNext (marks_from words 0 count) id (id + trailing_zeros w64 rest)
next_here words count id word rest are is fits e some =
    subst (λ n. IsNext (marks_from words 0 count) id n) sums (first_in_word words count id (id / 64) (id % 64 + zeros_of) are below on (omega arith) none)
  where
    zeros_of : ℕ
    zeros_of = trailing_zeros w64 rest

    less : rest < 2 ^ 64
    less = omega (arith, e, fits, shr_le word (id % 64))

    lowest : (zeros_of < 64) × (bit_at rest zeros_of ≡ 1) × ((i : ℕ) → i < zeros_of → bit_at rest i ≡ 0)
    lowest = bit_at-trailing_zeros w64 rest some less

    at_word : (i : ℕ) → bit_at rest i ≡ bit_at (get_or words (id / 64) 0) (id % 64 + i)
    at_word i = ap (λ n. bit_at n i) e ∙ left_bit word (id % 64) i ∙ ap (λ w. bit_at w (id % 64 + i)) is

    on : bit_at (get_or words (id / 64) 0) (id % 64 + zeros_of) ≡ 1
    on = sym (at_word zeros_of) ∙ lowest.1

    below : id % 64 + zeros_of < 64
    below = inside (cases_lt (id % 64 + zeros_of) 64)
      where
        inside : (id % 64 + zeros_of < 64) ⊎ (64 ≤ id % 64 + zeros_of) → id % 64 + zeros_of < 64
        inside (inl l) = l
        inside (inr m) = absurd (omega (arith, on, bit_at_above (get_or words (id / 64) 0) 64 (id % 64 + zeros_of) (subst (λ w. w < 2 ^ 64) is fits) m))

    sums : 64 * (id / 64) + (id % 64 + zeros_of) ≡ id + zeros_of
    sums = omega arith

    none : (j : ℕ) → id ≤ j → j < 64 * (id / 64) + (id % 64 + zeros_of) → is_set words j ≡ false
    none j after before =
        let place : j ≡ 64 * (id / 64) + (id % 64 + (j - id)) = omega arith in
        let off : bit_at (get_or words (id / 64) 0) (id % 64 + (j - id)) ≡ 0 = sym (at_word (j - id)) ∙ lowest.2 (j - id) (omega arith) in
        ap (is_set words) place ∙ set_by_word words (id / 64) (id % 64 + (j - id)) (omega (arith, below)) ∙ ap (λ b. b == 1) off

-- nothing is left of the word of a number
rest_empty : (words : List ℕ) (id word : ℕ) → word ≡ get_or words (id / 64) 0 → word / 2 ^ (id % 64) ≡ 0 → (j : ℕ) → id ≤ j → j / 64 ≡ id / 64 → is_set words j ≡ false
rest_empty words id word is none j after same =
    let place : j ≡ 64 * (id / 64) + (id % 64 + (j - id)) = omega arith in
    let small : id % 64 + (j - id) < 64 = omega arith in
    ap (is_set words) place ∙ set_by_word words (id / 64) (id % 64 + (j - id)) small
    ∙ ap (λ b. b == 1) (sym (ap (λ w. bit_at w (id % 64 + (j - id))) is) ∙ sym (left_bit word (id % 64) (j - id)) ∙ ap (λ n. bit_at n (j - id)) none ∙ bit_at-zero (j - id))

none_between : (words : List ℕ) (id word at : ℕ) → word ≡ get_or words (id / 64) 0 → word / 2 ^ (id % 64) ≡ 0 → ((place : ℕ) → id / 64 + 1 ≤ place → place < at → get_or words place 0 ≡ 0) →
    (j : ℕ) → id ≤ j → j / 64 < at → is_set words j ≡ false
none_between words id word at is none between j after l = by (cases_lt (id / 64) (j / 64))
  where
    by : (id / 64 < j / 64) ⊎ (j / 64 ≤ id / 64) → is_set words j ≡ false
    by (inl m) = not_in_empty words j (between (j / 64) (omega arith) l)
    by (inr m) = rest_empty words id word is none j after (omega arith)

pub next_later : (words : List ℕ) (count id word at : ℕ) → AreMarks words count → word ≡ get_or words (id / 64) 0 → word / 2 ^ (id % 64) ≡ 0 → get_or words at 0 < 2 ^ 64 →
    IsNextWord words (id / 64 + 1) at → IsNext (marks_from words 0 count) id (64 * at + trailing_zeros w64 (get_or words at 0))
next_later words count id word at are is none fits next =
    first_in_word words count id at (trailing_zeros w64 (get_or words at 0)) are lowest.0 lowest.1 (omega (arith, next.later)) before
  where
    lowest : (trailing_zeros w64 (get_or words at 0) < 64) × (bit_at (get_or words at 0) (trailing_zeros w64 (get_or words at 0)) ≡ 1) × ((i : ℕ) → i < trailing_zeros w64 (get_or words at 0) → bit_at (get_or words at 0) i ≡ 0)
    lowest = bit_at-trailing_zeros w64 (get_or words at 0) next.some fits

    in_word : (j : ℕ) → j / 64 ≡ at → j < 64 * at + trailing_zeros w64 (get_or words at 0) → is_set words j ≡ false
    in_word j same less =
        let place : j ≡ 64 * at + (j - 64 * at) = omega arith in
        ap (is_set words) place ∙ set_by_word words at (j - 64 * at) (omega arith) ∙ ap (λ b. b == 1) (lowest.2 (j - 64 * at) (omega arith))

    before : (j : ℕ) → id ≤ j → j < 64 * at + trailing_zeros w64 (get_or words at 0) → is_set words j ≡ false
    before j after less = by (cases_lt (j / 64) at)
      where
        by : (j / 64 < at) ⊎ (at ≤ j / 64) → is_set words j ≡ false
        by (inl l) = none_between words id word at is none next.none j after l
        by (inr l) = in_word j (omega (arith, lowest.0)) less

pub no_later : (words : List ℕ) (count id word : ℕ) → AreMarks words count → word ≡ get_or words (id / 64) 0 → word / 2 ^ (id % 64) ≡ 0 →
    ((place : ℕ) → id / 64 + 1 ≤ place → get_or words place 0 ≡ 0) → NoneFrom (marks_from words 0 count) id
no_later words count id word are is none between = λ j after marked.
    let no = none_between words id word (j / 64 + 1) is none (λ place l _. between place l) j after (omega arith) in
    let yes = is_bit words count j marked in cc

-- ---- how many are in a set

pub one_larger : (marks : List Bool) (id : ℕ) → id < length marks → ¬ (slice_get marks id ≡ Some true) → size_of (set marks id true) ≡ size_of marks + 1
one_larger marks id l new =
    let off : get_or marks id false ≡ false = by (get_or marks id false) refl in
    omega (arith, sum_by-set (λ (mark : Bool). cond mark 1 0) marks id true false l, ap {B = ℕ} (λ (mark : Bool). cond mark 1 0) off)
  where
    by : (b : Bool) → get_or marks id false ≡ b → get_or marks id false ≡ false
    by false e = e
    by true e = absurd (new (slice_get-get_or marks id false l ∙ ap (λ (b : Bool). Some b) e))

pub set_again : (marks : List Bool) (id : ℕ) → slice_get marks id ≡ Some true → marks ≡ set marks id true
set_again [] zero e = cc
set_again [] (suc id) e = cc
set_again (x ∷ marks) zero e = ap (λ (b : Bool). b ∷ marks) (same_Some x true e)
set_again (x ∷ marks) (suc id) e = ap (λ (l : List Bool). x ∷ l) (set_again marks id e)

pub none_in : (count : ℕ) → size_of (replicate count false) ≡ 0
none_in count = sum_by-replicate (λ (mark : Bool). cond mark 1 0) count false ∙ omega arith

-- a set that gains a number
pub grown : (words new : List ℕ) (count id size : ℕ) → AreMarks words count → id < count → size ≡ size_of (marks_from words 0 count) → ¬ (slice_get (marks_from words 0 count) id ≡ Some true) → new ≡ with_bit words id →
    size + 1 ≡ size_of (marks_from new 0 count)
grown words new count id size are l is off e =
    omega (arith, is, ap size_of (inserted words new count id are l e), one_larger (marks_from words 0 count) id (omega (arith, length-marks words 0 count)) off)

pub room_left : (words : List ℕ) (count id size : ℕ) → id < count → size ≡ size_of (marks_from words 0 count) → ¬ (slice_get (marks_from words 0 count) id ≡ Some true) → size + 1 ≤ count
room_left words count id size l is off =
    let marks : List Bool = marks_from words 0 count in
    omega (arith, is, one_larger marks id (omega (arith, length-marks words 0 count)) off, count_by-le-length (λ (mark : Bool). mark) (set marks id true), length-set marks id true, length-marks words 0 count)

pub next_within : (words : List ℕ) (count from found : ℕ) → IsNext (marks_from words 0 count) from found → found < count
next_within words count from found next = omega (arith, length-marks words 0 count, slice_get_within (marks_from words 0 count) found true next.marked)
