-- Binary digits of numbers as lists of bits.
use Rattle.std.proofs.Common.{ℕ, zero, suc, ◌≡◌, ◌+◌, ◌*◌, ◌/◌, ◌%◌, ◌^◌, ◌<◌, ◌≤◌, ◌==◌, true, false, [], ◌∷◌, ◌++◌, length, replicate, refl, sym, ap, ◌∙◌, arith, add-one}
use Rattle.std.proofs.Math.Nat.{pow-suc}
use Rattle.std.proofs.lemmas.Nat.{shr-shr, mod-pow-add, shr_high, mod_low, pow_pos, same_from_place, mod_below, div_below, le-div}
use Rattle.std.proofs.lemmas.Bool.Decides.{nat_tests}
use Rattle.mt_store_spec.specs.Codes.{digits}

pub length-digits : (k n : ℕ) → length (digits k n) ≡ k
unfolding digits
length-digits zero n = refl
length-digits (suc k) n = ap suc (length-digits k n)

pub digits-none : (n : ℕ) → digits 0 n ≡ []
unfolding digits
digits-none n = refl

-- the high digits and then the low ones
pub digits-add : (a b n : ℕ) → digits (a + b) n ≡ digits a (n / 2 ^ b) ++ digits b n
unfolding digits
digits-add zero b n =
    let e : zero + b ≡ b = omega arith in
    rw e refl
digits-add (suc a) b n =
    let e : suc a + b ≡ suc (a + b) = omega arith in
    let f : b + a ≡ a + b = omega arith in
    let g : n / 2 ^ b / 2 ^ a ≡ n / 2 ^ (a + b) = shr-shr n b a ∙ ap (λ x. n / 2 ^ x) f in
    rw (e, g) (ap (λ xs. (n / 2 ^ (a + b) % 2 == 1) ∷ xs) (digits-add a b n))

-- only the low digits of a number count
pub digits-same : (k a b : ℕ) → a % 2 ^ k ≡ b % 2 ^ k → digits k a ≡ digits k b
unfolding digits
digits-same zero a b h = refl
digits-same (suc k) a b h =
    let e : suc k ≡ 1 + k = omega arith in
    let fa : a % 2 ^ suc k ≡ (a / 2 ^ k % 2 ^ 1) * 2 ^ k + a % 2 ^ k = rw e (mod-pow-add a 1 k) in
    let fb : b % 2 ^ suc k ≡ (b / 2 ^ k % 2 ^ 1) * 2 ^ k + b % 2 ^ k = rw e (mod-pow-add b 1 k) in
    let s = same_from_place (a / 2 ^ k % 2) (a % 2 ^ k) (b / 2 ^ k % 2) (b % 2 ^ k) (2 ^ k) (mod_below a (2 ^ k) (pow_pos k)) (mod_below b (2 ^ k) (pow_pos k)) (sym fa ∙ h ∙ fb) in
    let here : (a / 2 ^ k % 2 == 1) ≡ (b / 2 ^ k % 2 == 1) = ap (λ x. x == 1) s.0 in
    let rest : digits k a ≡ digits k b = digits-same k a b s.1 in
    cc

bit_same : (x y : ℕ) → (x % 2 == 1) ≡ (y % 2 == 1) → x % 2 ≡ y % 2
bit_same x y h = grind (arith, nat_tests)

-- and they are told by the list
pub same_from_digits : (k a b : ℕ) → digits k a ≡ digits k b → a % 2 ^ k ≡ b % 2 ^ k
unfolding digits
same_from_digits zero a b h = omega arith
same_from_digits (suc k) a b h =
    let e : suc k ≡ 1 + k = omega arith in
    let fa : a % 2 ^ suc k ≡ (a / 2 ^ k % 2 ^ 1) * 2 ^ k + a % 2 ^ k = rw e (mod-pow-add a 1 k) in
    let fb : b % 2 ^ suc k ≡ (b / 2 ^ k % 2 ^ 1) * 2 ^ k + b % 2 ^ k = rw e (mod-pow-add b 1 k) in
    let here : (a / 2 ^ k % 2 == 1) ≡ (b / 2 ^ k % 2 == 1) = cc in
    let rest : digits k a ≡ digits k b = cc in
    let x : a / 2 ^ k % 2 ≡ b / 2 ^ k % 2 = bit_same (a / 2 ^ k) (b / 2 ^ k) here in
    let y : a % 2 ^ k ≡ b % 2 ^ k = same_from_digits k a b rest in
    rw (fa, fb, x, y) refl

pub digits-zero : (k : ℕ) → digits k 0 ≡ replicate k false
unfolding digits
digits-zero zero = refl
digits-zero (suc k) =
    let e : 0 / 2 ^ k ≡ 0 = omega arith in
    rw (e, digits-zero k) refl

-- two numbers put together: the digits of the first and then those of the second
pub digits_joined : (a b m n : ℕ) → n < 2 ^ b → digits (a + b) (m * 2 ^ b + n) ≡ digits a m ++ digits b n
digits_joined a b m n h =
    let e : (m * 2 ^ b + n) / 2 ^ b ≡ m = shr_high m b n h in
    let f : digits b (m * 2 ^ b + n) ≡ digits b n = digits-same b (m * 2 ^ b + n) n (mod_low m b n h ∙ sym (mod_low 0 b n h) ∙ ap (λ x. x % 2 ^ b) (omega arith)) in
    digits-add a b (m * 2 ^ b + n) ∙ rw (e, f) refl

-- a number of few digits has zeros before them
pub digits_padded : (a b n : ℕ) → n < 2 ^ b → digits (a + b) n ≡ replicate a false ++ digits b n
digits_padded a b n h =
    let e : n ≡ 0 * 2 ^ b + n = omega arith in
    let j : digits (a + b) (0 * 2 ^ b + n) ≡ digits a 0 ++ digits b n = digits_joined a b 0 n h in
    let z : digits a 0 ≡ replicate a false = digits-zero a in
    let g : digits (a + b) n ≡ digits (a + b) (0 * 2 ^ b + n) = ap (λ x. digits (a + b) x) e in
    cc

-- the highest digit of a number that has so many
pub digits_top : (k n : ℕ) → 2 ^ k ≤ n → n < 2 ^ (k + 1) → digits (k + 1) n ≡ true ∷ digits k n
unfolding digits
digits_top k n l u =
    let two : 2 ^ (k + 1) ≡ 2 ^ k * 2 = rw (add-one, pow-suc) refl in
    let low : 1 ≤ n / 2 ^ k = le-div 1 n (2 ^ k) (pow_pos k) (omega arith) in
    let high : n / 2 ^ k < 2 = div_below n (2 ^ k) 2 (pow_pos k) (omega arith) in
    let one : n / 2 ^ k ≡ 1 = omega arith in
    rw (add-one, one) refl
