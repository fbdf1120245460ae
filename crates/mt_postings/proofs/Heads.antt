-- What the word before a reader tells of the next code.
use Rattle.std.proofs.Common.{ℕ, zero, suc, ◌≡◌, ◌≢◌, ◌+◌, ◌-◌, ◌*◌, ◌/◌, ◌%◌, ◌^◌, ◌<◌, ◌≤◌, ◌⊎◌, Bool, true, false, List, [], ◌∷◌, ◌++◌, length, replicate, take, drop, get_or, refl, sym, ap, ◌∙◌, subst, inl, inr, arith, append_assoc}
use Rattle.std.specs.Int.{from_be_bytes, w64}
use Rattle.std.proofs.Math.Nat.{mod-eq_of_lt}
use Rattle.std.proofs.Math.Seq.{take-append-add}
use Rattle.std.proofs.lemmas.Nat.{shl_whole, shr_below, shr_split, pow_pos, pow-add, mod_below, be_bytes_8, le-div, shr-shr, leading_top}
use lib.Count.{count_leading_zeros}
use Rattle.std.proofs.lemmas.Bool.{cases_lt}
use Rattle.std.proofs.lemmas.List.{length-append, length-replicate, append-nil, take_at, drop_at, take-append-le, take-take, take-append-drop, take-replicate, length-drop, drop-drop, length-take-le, drop-append-le, drop-take, replicate-append-replicate, append_cancel_right, get_or-take, get_or_past, get_or_append_left, get_or-append_right, get_or-replicate, length-take}
use Rattle.mt_store_spec.specs.Codes.{digits, log2, gamma, delta, bits, IsTooLarge, SixZeros, Passes32, IsCut, Unread}
use Rattle.mt_postings.specs.Words.{Shows, Holds, Begins}
use Rattle.mt_postings.specs.Refused.{IsRefused}
use Rattle.mt_postings.specs.declared.error.CodeError.{CodeError}
use Rattle.mt_postings.specs.declared.error.CodeError.TheVariants.{Cut, TooLarge}
use Rattle.mt_postings.proofs.Digits.{length-digits, digits-add, digits_joined, digits-same, digits-zero}
use Rattle.mt_postings.proofs.Deltas.{delta_same, pow_more, pow_monotone, log2_is, gamma_digits, delta_digits, length-gamma, gamma_parts}
use Rattle.mt_postings.proofs.Refusals.{not_large, log2_below, code_not_large}
use Rattle.mt_postings.proofs.Words.{bits-be, bits-append, length-bits, take-bits}

-- eight bytes as a word
pub be_word : (bs : List ℕ) (n : ℕ) → length bs ≡ 8 → ((i : ℕ) → get_or bs i 0 < 256) → n ≡ from_be_bytes w64 bs → digits 64 n ≡ bits bs
be_word bs n l small e = sym (bits-be 8 n) ∙ ap bits (be_bytes_8 bs n l small e)

-- a word moved up
moved : (word skip : ℕ) → digits 64 (word * 2 ^ skip % 2 ^ 64) ≡ drop skip (digits 64 word ++ replicate skip false)
moved word skip =
    let z : 0 < 2 ^ skip = pow_pos skip in
    let x = word * 2 ^ skip in
    let zs = replicate skip false in
    let order : skip + 64 ≡ 64 + skip = omega arith in
    let plus : x ≡ word * 2 ^ skip + 0 = omega arith in
    let one : digits (64 + skip) x ≡ digits 64 word ++ zs = ap (digits (64 + skip)) plus ∙ digits_joined 64 skip word 0 z ∙ ap (λ y. digits 64 word ++ y) (digits-zero skip) in
    let two : digits (64 + skip) x ≡ digits skip (x / 2 ^ 64) ++ digits 64 x = ap (λ k. digits k x) (sym order) ∙ digits-add skip 64 x in
    let low : digits 64 (x % 2 ^ 64) ≡ digits 64 x = digits-same 64 (x % 2 ^ 64) x (mod-eq_of_lt (mod_below x (2 ^ 64) (pow_pos 64))) in
    let left : drop skip (digits 64 word ++ zs) ≡ digits 64 x = ap (drop skip) (sym one ∙ two) ∙ drop_at (digits skip (x / 2 ^ 64)) (digits 64 x) skip (length-digits skip (x / 2 ^ 64)) in
    low ∙ sym left

-- the bits that are left of it
moved_front : (word skip count : ℕ) → skip + count ≤ 64 → take count (digits 64 (word * 2 ^ skip % 2 ^ 64)) ≡ take count (drop skip (digits 64 word))
moved_front word skip count h =
    let lw = length-digits 64 word in
    let cut : drop skip (digits 64 word ++ replicate skip false) ≡ drop skip (digits 64 word) ++ replicate skip false = drop-append-le skip (digits 64 word) (replicate skip false) (omega arith) in
    let ld = length-drop skip (digits 64 word) in
    ap (take count) (moved word skip ∙ cut) ∙ take-append-le count (drop skip (digits 64 word)) (replicate skip false) (omega arith)

-- a word that begins at a byte, moved to a bit in that byte
pub word_moved : (word skip : ℕ) (all : List Bool) → skip < 8 → skip ≤ length all → digits 64 word ≡ take 64 (all ++ replicate 64 false) → Shows (word * 2 ^ skip % 2 ^ 64) (drop skip all)
word_moved word skip all s there e =
    let a = all ++ replicate 64 false in
    let whole : skip + (64 - skip) ≡ 64 = omega arith in
    let inner : drop skip (digits 64 word) ≡ take (64 - skip) (drop skip a) = ap (drop skip) (e ∙ ap (λ k. take k a) (sym whole)) ∙ drop-take skip (64 - skip) a in
    let short : take 57 (take (64 - skip) (drop skip a)) ≡ take 57 (drop skip a) = take-take 57 (64 - skip) (drop skip a) (omega arith) in
    let last : drop skip a ≡ drop skip all ++ replicate 64 false = drop-append-le skip all (replicate 64 false) there in
    record {
      fits = mod_below (word * 2 ^ skip) (2 ^ 64) (pow_pos 64);
      same = moved_front word skip 57 (omega arith) ∙ ap (take 57) inner ∙ short ∙ ap (take 57) last;
    }

-- ---- bits held in a word

pub holds_none : (left : List Bool) → Holds 0 0 left
holds_none left = record { fits = omega arith; few = omega arith; within = omega arith; same = refl }

pub holds_shown : (count w : ℕ) (left : List Bool) → count ≤ 57 → count ≤ length left → Shows w left → Holds count w left
holds_shown count w left few there s =
    record {
      fits = s.fits;
      few = omega arith;
      within = there;
      same = sym (take-take count 57 (digits 64 w) few) ∙ ap (take count) s.same ∙ take-take count 57 (left ++ replicate 64 false) few ∙ take-append-le count left (replicate 64 false) there;
    }

pub holds_passed : (count k w : ℕ) (left : List Bool) → k ≤ count → Holds count w left → Holds (count - k) (w * 2 ^ k % 2 ^ 64) (drop k left)
holds_passed count k w left l h =
    let few = h.few in
    let within = h.within in
    let d = length-drop k left in
    let sum : k + (count - k) ≡ count = omega arith in
    let inner : take (count - k) (drop k (digits 64 w)) ≡ drop k (take count (digits 64 w)) = sym (drop-take k (count - k) (digits 64 w)) ∙ ap (λ x. drop k (take x (digits 64 w))) sum in
    let outer : drop k (take count left) ≡ take (count - k) (drop k left) = ap (λ x. drop k (take x left)) (sym sum) ∙ drop-take k (count - k) left in
    record {
      fits = mod_below (w * 2 ^ k) (2 ^ 64) (pow_pos 64);
      few = omega arith;
      within = omega arith;
      same = moved_front w k (count - k) (omega arith) ∙ inner ∙ ap (drop k) h.same ∙ outer;
    }

-- a code in the bits that are held is the next
pub held_next : (count w n k : ℕ) (left : List Bool) → Holds count w left → Begins w n k → k ≤ count → left ≡ delta n ++ drop k left
held_next count w n k left h b l =
    let few = h.few in
    let e : 64 ≡ k + (64 - k) = omega arith in
    let a : take k (digits 64 w) ≡ digits k (w / 2 ^ (64 - k)) = ap (take k) (ap (λ x. digits x w) e ∙ digits-add k (64 - k) w) ∙ take_at (digits k (w / 2 ^ (64 - k))) (digits (64 - k) w) k (length-digits k (w / 2 ^ (64 - k))) in
    let t : take k left ≡ digits k (w / 2 ^ (64 - k)) = sym (take-take k count left l) ∙ ap (take k) (sym h.same) ∙ take-take k count (digits 64 w) l ∙ a in
    sym (take-append-drop k left) ∙ ap (λ x. x ++ drop k left) (t ∙ sym b.code)

pub held_length : (w n k : ℕ) → Begins w n k → length (delta n) ≡ k
held_length w n k b = ap length b.code ∙ length-digits k (w / 2 ^ (64 - k))

-- the first digits of the word are the first bits, with zeros after the last
pub shows_first : (k w : ℕ) (left : List Bool) → k ≤ 57 → Shows w left → digits k (w / 2 ^ (64 - k)) ≡ take k (left ++ replicate 64 false)
shows_first k w left few s =
    let e : 64 ≡ k + (64 - k) = omega arith in
    let a : digits 64 w ≡ digits k (w / 2 ^ (64 - k)) ++ digits (64 - k) w = ap (λ x. digits x w) e ∙ digits-add k (64 - k) w in
    let b : take k (digits 64 w) ≡ digits k (w / 2 ^ (64 - k)) = ap (take k) a ∙ take_at (digits k (w / 2 ^ (64 - k))) (digits (64 - k) w) k (length-digits k (w / 2 ^ (64 - k))) in
    sym b ∙ sym (take-take k 57 (digits 64 w) few) ∙ ap (take k) s.same ∙ take-take k 57 (left ++ replicate 64 false) few

pub shows_whole : (k w : ℕ) (left : List Bool) → k ≤ 57 → k ≤ length left → Shows w left → left ≡ digits k (w / 2 ^ (64 - k)) ++ drop k left
shows_whole k w left few there s =
    let a = shows_first k w left few s in
    let b = take-append-le k left (replicate 64 false) there in
    sym (take-append-drop k left) ∙ ap (λ x. x ++ drop k left) (sym (a ∙ b))

pub shows_part : (k w : ℕ) (left : List Bool) → k ≤ 57 → length left ≤ k → Shows w left → left ++ replicate (k - length left) false ≡ digits k (w / 2 ^ (64 - k))
shows_part k w left few short s =
    let a = shows_first k w left few s in
    let e : k ≡ length left + (k - length left) = omega arith in
    let b : take k (left ++ replicate 64 false) ≡ left ++ take (k - length left) (replicate 64 false) = ap (λ x. take x (left ++ replicate 64 false)) e ∙ take-append-add left (replicate 64 false) (k - length left) in
    let c : take (k - length left) (replicate 64 false) ≡ replicate (k - length left) false = take-replicate (k - length left) 64 false (omega arith) in
    sym (a ∙ b ∙ ap (λ x. left ++ x) c)

-- the word begins with so many zeros, at most five, and then a one
pub record Head (w z : ℕ) : Type 0 where
  pub few : z < 6
  pub low : 2 ^ (63 - z) ≤ w
  pub high : w < 2 ^ (64 - z)

pub big_head : (w r : ℕ) → w < 2 * 2 ^ r → (w / 2 ^ 58 ≡ 0 → ⊥) → 58 ≤ r
big_head w r b d =
    elim (cases_lt r 58) [
      | inl l ↦ let p = pow_monotone (r + 1) 58 (omega arith) in let q = pow_more r in absurd (d (omega arith))
      | inr g ↦ g
    ]

pub head_of : (w r : ℕ) → 2 ^ r ≤ w → w < 2 * 2 ^ r → r < 64 → (w / 2 ^ 58 ≡ 0 → ⊥) → Head w (63 - r)
head_of w r a b c d =
    let big = big_head w r b d in
    let e : 63 - (63 - r) ≡ r = omega arith in
    let f : 64 - (63 - r) ≡ r + 1 = omega arith in
    let q = pow_more r in
    record { few = omega arith; low = rw e a; high = rw f (omega arith) }

-- the gamma number, as it is where zeros follow the last bit
pub gamma_value : (w z : ℕ) → Head w z → (2 ^ z ≤ w / 2 ^ (64 - (2 * z + 1))) × (w / 2 ^ (64 - (2 * z + 1)) < 2 ^ (z + 1)) × (digits (2 * z + 1) (w / 2 ^ (64 - (2 * z + 1))) ≡ gamma (w / 2 ^ (64 - (2 * z + 1))))
gamma_value w z h =
    let k = 64 - (2 * z + 1) in
    let few = h.few in
    let e : 63 - z ≡ z + k = omega arith in
    let f : 64 - z ≡ (z + 1) + k = omega arith in
    let low : 2 ^ z * 2 ^ k ≤ w = subst (λ x. x ≤ w) (ap (λ x. 2 ^ x) e ∙ pow-add 2 z k) h.low in
    let a : 2 ^ z ≤ w / 2 ^ k = le-div (2 ^ z) w (2 ^ k) (pow_pos k) low in
    let b : w / 2 ^ k < 2 ^ (z + 1) = shr_below w (z + 1) k (subst (λ x. w < 2 ^ x) f h.high) in
    (a, b, sym (gamma_digits z (w / 2 ^ k) a b))

-- the number that the whole code gives
pub record CodeValue (w z g : ℕ) : Type 0 where
  pub shifted : (g - 1) * 2 ^ (g - 1) % 2 ^ 64 ≡ (g - 1) * 2 ^ (g - 1)
  pub above : (g - 1) * 2 ^ (g - 1) ≤ w / 2 ^ (64 - (2 * z + 1 + (g - 1)))
  pub positive : 1 ≤ w / 2 ^ (64 - (2 * z + 1 + (g - 1))) - (g - 1) * 2 ^ (g - 1)
  pub fits : w / 2 ^ (64 - (2 * z + 1 + (g - 1))) - (g - 1) * 2 ^ (g - 1) < 2 ^ 32
  pub code : delta (w / 2 ^ (64 - (2 * z + 1 + (g - 1))) - (g - 1) * 2 ^ (g - 1)) ≡ digits (2 * z + 1 + (g - 1)) (w / 2 ^ (64 - (2 * z + 1 + (g - 1))))

pub code_value : (w z g : ℕ) → Head w z → w / 2 ^ (64 - (2 * z + 1)) ≡ g → g ≤ 32 → CodeValue w z g
code_value w z g h is small =
    let few = h.few in
    let gv = gamma_value w z h in
    let glow : 2 ^ z ≤ g = subst (λ x. 2 ^ z ≤ x) is gv.0 in
    let ghigh : g < 2 ^ (z + 1) = subst (λ x. x < 2 ^ (z + 1)) is gv.1 in
    let zp = pow_pos z in
    let low = g - 1 in
    let len = 2 * z + 1 + low in
    let v = w / 2 ^ (64 - len) in
    let up : v / 2 ^ low ≡ g = shr-shr w (64 - len) low ∙ ap (λ x. w / 2 ^ x) (omega arith) ∙ is in
    let split : v / 2 ^ low * 2 ^ low + v % 2 ^ low ≡ v = shr_split v low in
    let split' : g * 2 ^ low + v % 2 ^ low ≡ v = ap (λ x. x * 2 ^ low + v % 2 ^ low) (sym up) ∙ split in
    let r : v % 2 ^ low < 2 ^ low = mod_below v (2 ^ low) (pow_pos low) in
    let g' : g ≡ low + 1 = omega arith in
    let prod : g * 2 ^ low ≡ low * 2 ^ low + 2 ^ low = ap (λ x. x * 2 ^ low) g' ∙ grind arith in
    let more = pow_more low in
    let n = v - low * 2 ^ low in
    let nis : n ≡ 2 ^ low + v % 2 ^ low = omega arith in
    let nlow : 2 ^ low ≤ n = omega arith in
    let nhigh : n < 2 ^ (low + 1) = omega arith in
    let sum : low * 2 ^ low + n ≡ v = omega arith in
    let top : 2 ^ (low + 1) ≤ 2 ^ 32 = pow_monotone (low + 1) 32 (omega arith) in
    let lp = pow_pos low in
    let d = delta_digits low z n nlow nhigh (omega arith) (omega arith) in
    record {
      shifted = shl_whole low 32 low 64 (omega arith) (omega arith);
      above = omega arith;
      positive = omega arith;
      fits = omega arith;
      code = d ∙ ap (digits len) sum;
    }

-- ---- the answers

none_left : (a b : List Bool) → 0 < length a → a ++ b ≢ []
none_left [] b l e = omega arith
none_left (x ∷ a) b l e = cc

one_left : (a b : List Bool) → a ++ true ∷ b ≢ []
one_left [] b e = cc
one_left (x ∷ a) b e = cc

zeros_some : (n : ℕ) (b : List Bool) → 0 < n → replicate n false ++ b ≢ []
zeros_some n b l = none_left (replicate n false) b (let k = length-replicate n false in omega arith)

-- the bits end inside a gamma code
pub cut_gamma : (left : List Bool) (g : ℕ) → 1 ≤ g → log2 g < 6 → length left < length (gamma g) → left ++ replicate (length (gamma g) - length left) false ≡ gamma g → IsCut left
unfolding delta
cut_gamma left g p few short e =
    let n = 2 ^ (g - 1) in
    let pos : 1 ≤ n = pow_pos (g - 1) in
    let more = pow_more (g - 1) in
    let l : log2 n ≡ g - 1 = log2_is (g - 1) n (omega arith) (omega arith) in
    let l' : log2 n + 1 ≡ g = omega arith in
    let zs = replicate (length (gamma g) - length left) false in
    let code : left ++ (zs ++ digits (log2 n) n) ≡ gamma (log2 n + 1) ++ digits (log2 n) n = sym (append_assoc left zs (digits (log2 n) n)) ∙ ap (λ x. x ++ digits (log2 n) n) (e ∙ ap gamma (sym l')) in
    let code' : left ++ (zs ++ digits (log2 n) n) ≡ gamma g ++ digits (log2 n) n = code ∙ ap (λ x. gamma x ++ digits (log2 n) n) l' in
    record {
      number = n;
      missing = zs ++ digits (log2 n) n;
      positive = pos;
      inside = zeros_some (length (gamma g) - length left) (digits (log2 n) n) (omega arith);
      code = code;
      no_larger = not_large left (zs ++ digits (log2 n) n) (digits (log2 n) n) g p few code' (inr short);
    }

-- the bits end inside a code
pub cut_code : (left : List Bool) (n k : ℕ) → 1 ≤ n → n < 2 ^ 32 → 0 < k → left ++ replicate k false ≡ delta n → IsCut left
unfolding delta
cut_code left n k p u some e =
    let few : log2 n < 32 = log2_below 32 n p u in
    let fewer : log2 (log2 n + 1) < 6 = log2_below 6 (log2 n + 1) (omega arith) (omega arith) in
    record {
      number = n;
      missing = replicate k false;
      positive = p;
      inside = λ x. zeros_some k [] some (append-nil (replicate k false) ∙ x);
      code = e;
      no_larger = not_large left (replicate k false) (digits (log2 n) n) (log2 n + 1) (omega arith) fewer e (inl (omega arith));
    }

-- fewer than six zeros may begin the code of a number of 32 digits
few_zeros_cut : (left : List Bool) (n : ℕ) → left ≡ replicate (length left) false → length left < 6 → 2 ^ 31 ≤ n → n < 2 ^ 32 → IsCut left
unfolding delta
few_zeros_cut left n zs short low high =
    let l : log2 n ≡ 31 = log2_is 31 n low high in
    let l' : log2 n + 1 ≡ 32 = omega arith in
    let five : log2 (log2 n + 1) ≡ 5 = ap log2 l' ∙ log2_is 5 32 (omega arith) (omega arith) in
    let g = log2 n + 1 in
    let rest = digits (log2 n) n in
    let m = length left in
    let end : List Bool = true ∷ (digits (log2 g) g ++ rest) in
    let gap = replicate (5 - m) false in
    let parts : gamma g ≡ replicate 5 false ++ true ∷ digits (log2 g) g = gamma_parts g (omega arith) ∙ ap (λ x. replicate x false ++ true ∷ digits (log2 g) g) five in
    let code : gamma g ++ rest ≡ replicate 5 false ++ end = ap (λ x. x ++ rest) parts ∙ append_assoc (replicate 5 false) (true ∷ digits (log2 g) g) rest in
    let sum : m + (5 - m) ≡ 5 = omega arith in
    let two : replicate m false ++ gap ≡ replicate 5 false = replicate-append-replicate m (5 - m) false ∙ ap (λ x. replicate x false) sum in
    let whole : left ++ (gap ++ end) ≡ gamma g ++ rest = ap (λ x. x ++ (gap ++ end)) zs ∙ sym (append_assoc (replicate m false) gap end) ∙ ap (λ x. x ++ end) two ∙ sym code in
    record {
      number = n;
      missing = gap ++ end;
      positive = omega arith;
      inside = λ x. one_left gap (digits (log2 g) g ++ rest) x;
      code = whole;
      no_larger = not_large left (gap ++ end) rest g (omega arith) (omega arith) whole (inl (omega arith));
    }

pub zeros_cut : (w : ℕ) (left : List Bool) → Shows w left → w / 2 ^ 58 ≡ 0 → length left < 6 → IsCut left
zeros_cut w left s z short =
    let k = 6 - length left in
    let sum : length left + k ≡ 6 = omega arith in
    let a : left ++ replicate k false ≡ replicate 6 false = shows_part 6 w left (omega arith) (omega arith) s ∙ ap (digits 6) z ∙ digits-zero 6 in
    let b : replicate (length left) false ++ replicate k false ≡ replicate 6 false = replicate-append-replicate (length left) k false ∙ ap (λ x. replicate x false) sum in
    few_zeros_cut left (2 ^ 31) (append_cancel_right left (replicate (length left) false) (replicate k false) (a ∙ sym b)) short (omega arith) (omega arith)

pub six_zeros : (w : ℕ) (left : List Bool) → Shows w left → w / 2 ^ 58 ≡ 0 → 6 ≤ length left → IsTooLarge left
six_zeros w left s z there =
    SixZeros (drop 6 left) (shows_whole 6 w left (omega arith) there s ∙ ap (λ x. digits 6 x ++ drop 6 left) z ∙ ap (λ x. x ++ drop 6 left) (digits-zero 6))

pub head_cut : (w z : ℕ) (left : List Bool) → Shows w left → Head w z → length left < 2 * z + 1 → IsCut left
head_cut w z left s h short =
    let g = w / 2 ^ (64 - (2 * z + 1)) in
    let v = gamma_value w z h in
    let zp = pow_pos z in
    let few = h.few in
    let l : log2 g ≡ z = log2_is z g v.0 v.1 in
    let n : length (gamma g) ≡ 2 * z + 1 = length-gamma g ∙ ap (λ x. 2 * x + 1) l in
    let p = shows_part (2 * z + 1) w left (omega arith) (omega arith) s in
    let whole : left ++ replicate (length (gamma g) - length left) false ≡ gamma g = ap (λ x. left ++ replicate (x - length left) false) n ∙ p ∙ v.2 in
    cut_gamma left g (omega arith) (omega arith) (omega arith) whole

pub head_large : (w z : ℕ) (left : List Bool) → Shows w left → Head w z → 2 * z + 1 ≤ length left → 32 < w / 2 ^ (64 - (2 * z + 1)) → IsTooLarge left
head_large w z left s h there large =
    let v = gamma_value w z h in
    let few = h.few in
    Passes32 (w / 2 ^ (64 - (2 * z + 1))) (drop (2 * z + 1) left) large (shows_whole (2 * z + 1) w left (omega arith) there s ∙ ap (λ x. x ++ drop (2 * z + 1) left) v.2)

pub rest_cut : (w z g : ℕ) (left : List Bool) → Shows w left → Head w z → CodeValue w z g → g ≤ 32 → length left < 2 * z + 1 + (g - 1) → IsCut left
rest_cut w z g left s h c small short =
    let few = h.few in
    let len = 2 * z + 1 + (g - 1) in
    cut_code left (w / 2 ^ (64 - len) - (g - 1) * 2 ^ (g - 1)) (len - length left) c.positive c.fits (omega arith) (shows_part len w left (omega arith) (omega arith) s ∙ sym c.code)

pub whole_code : (w z g : ℕ) (left : List Bool) → Shows w left → Head w z → CodeValue w z g → g ≤ 32 → 2 * z + 1 + (g - 1) ≤ length left → left ≡ delta (w / 2 ^ (64 - (2 * z + 1 + (g - 1))) - (g - 1) * 2 ^ (g - 1)) ++ drop (2 * z + 1 + (g - 1)) left
whole_code w z g left s h c small there =
    let few = h.few in
    let len = 2 * z + 1 + (g - 1) in
    shows_whole len w left (omega arith) there s ∙ ap (λ x. x ++ drop len left) (sym c.code)

pub code_length : (w z g : ℕ) → CodeValue w z g → length (delta (w / 2 ^ (64 - (2 * z + 1 + (g - 1))) - (g - 1) * 2 ^ (g - 1))) ≡ 2 * z + 1 + (g - 1)
code_length w z g c = ap length c.code ∙ length-digits (2 * z + 1 + (g - 1)) (w / 2 ^ (64 - (2 * z + 1 + (g - 1))))

length-take-short : (n : ℕ) (xs : List ℕ) → length (take n xs) ≤ n
length-take-short n xs = let l = length-take n xs in omega arith

all_bytes_taken : (bytes : List ℕ) → ((i : ℕ) → get_or bytes i 0 < 256) → (i : ℕ) → get_or (take 8 bytes) i 0 < 256
all_bytes_taken bytes small i =
    elim (cases_lt i 8) [
      | inl l ↦ subst (λ x. x < 256) (sym (get_or-take 8 bytes i 0 l)) (small i)
      | inr g ↦ let l = length-take-short 8 bytes in subst (λ x. x < 256) (sym (get_or_past (take 8 bytes) i 0 (omega arith))) (omega arith)
    ]

-- the first word of eight bytes or more
pub first_eight : (bytes chunk : List ℕ) (n : ℕ) → 8 ≤ length bytes → chunk ≡ take 8 bytes → ((i : ℕ) → get_or bytes i 0 < 256) → n ≡ from_be_bytes w64 chunk → digits 64 n ≡ take 64 (bits bytes ++ replicate 64 false)
first_eight bytes chunk n long same small e =
    let t : length (take 8 bytes) ≡ 8 = length-take-le 8 bytes long in
    let b = length-bits bytes in
    let a = take-append-le 64 (bits bytes) (replicate 64 false) (omega arith) in
    be_word (take 8 bytes) n t (all_bytes_taken bytes small) (e ∙ ap (from_be_bytes w64) same) ∙ sym (take-bits 8 bytes) ∙ sym a

bits-zeros : (n : ℕ) → bits (replicate n 0) ≡ replicate (8 * n) false
bits-zeros zero = refl
bits-zeros (suc n) =
    let e : 8 * suc n ≡ 8 + 8 * n = omega arith in
    let z = digits-zero 8 in
    let r = replicate-append-replicate 8 (8 * n) false in
    rw (e, z, bits-zeros n) r

all_bytes_padded : (bytes : List ℕ) (k : ℕ) → ((i : ℕ) → get_or bytes i 0 < 256) → (i : ℕ) → get_or (bytes ++ replicate k 0) i 0 < 256
all_bytes_padded bytes k small i =
    elim (cases_lt i (length bytes)) [
      | inl l ↦ subst (λ x. x < 256) (sym (get_or_append_left bytes (replicate k 0) 0 i l)) (small i)
      | inr g ↦ elim (cases_lt (i - length bytes) k) [
        | inl m ↦ subst (λ x. x < 256) (sym (get_or-append_right bytes (replicate k 0) (length bytes) i 0 refl g ∙ get_or-replicate k (i - length bytes) 0 0 m)) (omega arith)
        | inr n ↦ let l = length-append bytes (replicate k 0) in let r = length-replicate {A = ℕ} k 0 in subst (λ x. x < 256) (sym (get_or_past (bytes ++ replicate k 0) i 0 (omega arith))) (omega arith)
      ]
    ]

-- and of fewer
pub fewer_than_eight : (bytes padded : List ℕ) (n : ℕ) → length bytes < 8 → padded ≡ bytes ++ replicate (8 - length bytes) 0 → ((i : ℕ) → get_or bytes i 0 < 256) → n ≡ from_be_bytes w64 padded → digits 64 n ≡ take 64 (bits bytes ++ replicate 64 false)
fewer_than_eight bytes padded n short same small e =
    let k = 8 - length bytes in
    let l = length-append bytes (replicate k 0) in
    let r = length-replicate {A = ℕ} k 0 in
    let b = length-bits bytes in
    let w : digits 64 n ≡ bits (bytes ++ replicate k 0) = be_word (bytes ++ replicate k 0) n (omega arith) (all_bytes_padded bytes k small) (e ∙ ap (from_be_bytes w64) same) in
    let p : bits (bytes ++ replicate k 0) ≡ bits bytes ++ replicate (8 * k) false = bits-append bytes (replicate k 0) ∙ ap (λ x. bits bytes ++ x) (bits-zeros k) in
    let sum : 64 ≡ length (bits bytes) + 8 * k = omega arith in
    let t : take 64 (bits bytes ++ replicate 64 false) ≡ bits bytes ++ take (8 * k) (replicate 64 false) = ap (λ x. take x (bits bytes ++ replicate 64 false)) sum ∙ take-append-add (bits bytes) (replicate 64 false) (8 * k) in
    let c : take (8 * k) (replicate 64 false) ≡ replicate (8 * k) false = take-replicate (8 * k) 64 false (omega arith) in
    w ∙ p ∙ sym (t ∙ ap (λ x. bits bytes ++ x) c)

-- ---- what the word begins with

begins_list : (w n k : ℕ) → Begins w n k → k ≤ 57 → digits 64 w ≡ delta n ++ digits (64 - k) w
begins_list w n k b l =
    let e : 64 ≡ k + (64 - k) = omega arith in
    ap (λ x. digits x w) e ∙ digits-add k (64 - k) w ∙ ap (λ x. x ++ digits (64 - k) w) (sym b.code)

shows_itself : (w : ℕ) → w < 2 ^ 64 → Shows w (digits 64 w)
shows_itself w f =
    let l = length-digits 64 w in
    record { fits = f; same = sym (take-append-le 57 (digits 64 w) (replicate 64 false) (omega arith)) }

pub begins_no_zeros : (w n k : ℕ) → w < 2 ^ 64 → w / 2 ^ 58 ≡ 0 → Begins w n k → k ≤ 57 → ⊥
begins_no_zeros w n k f z b l =
    let d = length-digits 64 w in
    code_not_large n (digits 64 w) (digits (64 - k) w) b.positive b.small (begins_list w n k b l) (six_zeros w (digits 64 w) (shows_itself w f) z (omega arith))

pub begins_no_large : (w z n k : ℕ) → w < 2 ^ 64 → Head w z → 32 < w / 2 ^ (64 - (2 * z + 1)) → Begins w n k → k ≤ 57 → ⊥
begins_no_large w z n k f h large b l =
    let d = length-digits 64 w in
    let few = h.few in
    code_not_large n (digits 64 w) (digits (64 - k) w) b.positive b.small (begins_list w n k b l) (head_large w z (digits 64 w) (shows_itself w f) h (omega arith) large)

pub begins_value : (w z g : ℕ) → CodeValue w z g → Begins w (w / 2 ^ (64 - (2 * z + 1 + (g - 1))) - (g - 1) * 2 ^ (g - 1)) (2 * z + 1 + (g - 1))
begins_value w z g c = record { positive = c.positive; small = c.fits; code = c.code }

-- the same, by the code's length
pub record CodeAt (w g len : ℕ) : Type 0 where
  pub some : 1 ≤ g
  pub long : 1 ≤ len
  pub few : len ≤ 57
  pub shifted : (g - 1) * 2 ^ (g - 1) % 2 ^ 64 ≡ (g - 1) * 2 ^ (g - 1)
  pub above : (g - 1) * 2 ^ (g - 1) ≤ w / 2 ^ (64 - len)
  pub fits : w / 2 ^ (64 - len) - (g - 1) * 2 ^ (g - 1) < 2 ^ 32
  pub begins : Begins w (w / 2 ^ (64 - len) - (g - 1) * 2 ^ (g - 1)) len

pub code_at : (w z g : ℕ) → Head w z → w / 2 ^ (63 - 2 * z) ≡ g → g ≤ 32 → CodeAt w g (2 * z + g)
code_at w z g head e small =
    let few = head.few in
    let is : w / 2 ^ (64 - (2 * z + 1)) ≡ g = ap (λ x. w / 2 ^ x) (omega arith) ∙ e in
    let low : 2 ^ z ≤ g = subst (λ x. 2 ^ z ≤ x) is (gamma_value w z head).0 in
    let p = pow_pos z in
    let v : CodeValue w z g = code_value w z g head is small in
    let l : 2 * z + 1 + (g - 1) ≡ 2 * z + g = omega arith in
    record {
      some = omega arith;
      long = omega arith;
      few = omega arith;
      shifted = v.shifted;
      above = subst (λ x. (g - 1) * 2 ^ (g - 1) ≤ w / 2 ^ (64 - x)) l v.above;
      fits = subst (λ x. w / 2 ^ (64 - x) - (g - 1) * 2 ^ (g - 1) < 2 ^ 32) l v.fits;
      begins = subst (λ x. Begins w (w / 2 ^ (64 - x) - (g - 1) * 2 ^ (g - 1)) x) l (begins_value w z g v);
    }

-- a word that is not small begins with few zeros
pub leading_head : (w : ℕ) → w < 2 ^ 64 → (w / 2 ^ 58 ≡ 0 → ⊥) → Head w (count_leading_zeros 64 w)
leading_head w fits big =
    let some : 0 < w = elim (cases_lt 0 w) [
      | inl l ↦ l
      | inr g ↦ absurd (big (omega arith))
    ] in
    let t = leading_top 64 w some fits in
    let j = t.0 in
    let sum = t.1 in
    let high = big_head w j (let m = pow_more j in let h = t.3 in omega arith) big in
    let e : 63 - count_leading_zeros 64 w ≡ j = omega arith in
    let f : 64 - count_leading_zeros 64 w ≡ suc j = omega arith in
    record { few = omega arith; low = rw e t.2; high = rw f t.3 }

pub begins_one : (w n m k l : ℕ) → Begins w n k → Begins w m l → k ≤ 57 → l ≤ 57 → k ≡ l
begins_one w n m k l b c p q =
    let s = delta_same n m (digits (64 - k) w) (digits (64 - l) w) b.positive c.positive (sym (begins_list w n k b p) ∙ begins_list w m l c q) in
    sym (held_length w n k b) ∙ ap (λ x. length (delta x)) s.0 ∙ held_length w m l c

-- where no code is there as far as the bits go, they end inside the last one
pub last_cut : (w z g : ℕ) (left : List Bool) → Shows w left → Head w z → CodeValue w z g → g ≤ 32 → ((n k : ℕ) → Begins w n k → k ≤ 57 → k ≤ length left → ⊥) → IsCut left
last_cut w z g left s h c small none =
    let few = h.few in
    elim (cases_lt (length left) (2 * z + 1 + (g - 1))) [
      | inl l ↦ rest_cut w z g left s h c small l
      | inr there ↦ absurd (none (w / 2 ^ (64 - (2 * z + 1 + (g - 1))) - (g - 1) * 2 ^ (g - 1)) (2 * z + 1 + (g - 1)) (begins_value w z g c) (omega arith) there)
    ]

-- ---- the reader

open_refusal : (unread : Unread) (e : CodeError) → IsRefused unread e → ((e ≡ TooLarge unread.place) × IsTooLarge unread.left) ⊎ ((e ≡ Cut unread.place) × IsCut unread.left)
open_refusal unread (Cut bit) h = inr (ap Cut h.0, h.1)
open_refusal unread (TooLarge bit) h = inl (ap TooLarge h.0, h.1)

-- each refusal comes exactly where its reason holds
pub refused_too_large : (unread : Unread) (e : CodeError) → IsRefused unread e → (e ≡ TooLarge unread.place → IsTooLarge unread.left) × (IsTooLarge unread.left → e ≡ TooLarge unread.place)
refused_too_large unread e h =
    elim (open_refusal unread e h) [ inl w ↦ (λ _. w.1, λ _. w.0) | inr w ↦ (λ x. let a = w.0 in absurd cc, λ x. absurd (w.1.no_larger x)) ]

pub refused_cut : (unread : Unread) (e : CodeError) → IsRefused unread e → (e ≡ Cut unread.place → IsCut unread.left) × (IsCut unread.left → e ≡ Cut unread.place)
refused_cut unread e h =
    elim (open_refusal unread e h) [ inl w ↦ (λ x. let a = w.0 in absurd cc, λ x. absurd (x.no_larger w.1)) | inr w ↦ (λ _. w.1, λ _. w.0) ]

pub left_length : (bytes : List ℕ) (at : ℕ) (unread : Unread) → record { left = drop at (bits bytes); place = at } ≡ unread → 8 * length bytes - at ≡ length unread.left
left_length bytes at unread e =
    let l : length unread.left ≡ length (bits bytes) - at = ap (λ u. length u.left) (sym e) ∙ length-drop at (bits bytes) in
    let k = length-bits bytes in
    omega arith

-- What a reader is where it has passed a code of k bits.
pub record Passed (bytes : List ℕ) (at count w n k : ℕ) (unread : Unread) : Type 0 where
  pub inside : at + k ≤ 8 * length bytes
  pub holds : Holds (count - k) (w * 2 ^ k % 2 ^ 64) (drop (at + k) (bits bytes))
  pub number : unread.left ≡ delta n ++ drop (at + k) (bits bytes)
  pub place : at + k ≡ unread.place + length (delta n)

pub passed : (bytes : List ℕ) (at count w n k : ℕ) (unread : Unread) → record { left = drop at (bits bytes); place = at } ≡ unread → at ≤ 8 * length bytes → Holds count w unread.left → Begins w n k → k ≤ count → Passed bytes at count w n k unread
passed bytes at count w n k unread e a h b l =
    let size = left_length bytes at unread e in
    let within = h.within in
    let left : unread.left ≡ drop at (bits bytes) = ap (λ u. u.left) (sym e) in
    let rest : drop k unread.left ≡ drop (at + k) (bits bytes) = ap (drop k) left ∙ drop-drop k at (bits bytes) in
    let place : at ≡ unread.place = ap (λ u. u.place) e in
    let code = held_length w n k b in
    record {
      inside = omega arith;
      holds = subst (λ x. Holds (count - k) (w * 2 ^ k % 2 ^ 64) x) rest (holds_passed count k w unread.left l h);
      number = held_next count w n k unread.left h b l ∙ ap (λ x. delta n ++ x) rest;
      place = omega arith;
    }

pub held_here : (bytes : List ℕ) (at count w : ℕ) (unread : Unread) → record { left = drop at (bits bytes); place = at } ≡ unread → Holds count w (drop at (bits bytes)) → Holds count w unread.left
held_here bytes at count w unread e h = subst (λ x. Holds count w x) (ap (λ u. u.left) e) h
