-- Words of 64 bits as the digits that they hold.
use Rattle.std.proofs.Common.{ℕ, zero, suc, ◌≡◌, ◌+◌, ◌-◌, ◌*◌, ◌/◌, ◌%◌, ◌^◌, ◌<◌, ◌≤◌, Bool, false, List, [], ◌∷◌, ◌++◌, length, replicate, take, drop, get_or, refl, sym, ap, ◌∙◌, subst, arith, append_assoc}
use Rattle.std.specs.Int.{byte_at, bytes_high_first}
use Rattle.std.proofs.lemmas.Nat.{shl_whole, shr_below, pow_pos, pow-add, mod_below, mul-add-lt}
use Rattle.std.proofs.lemmas.List.{length-append, take-replicate, take-append-le, take_at}
use Rattle.std.proofs.Math.Seq.{drop-append-add, take-append-add}
use Rattle.std.proofs.Math.Nat.{pow-suc, mod-eq_of_lt}
use Rattle.mt_store_spec.specs.Codes.{digits, bits}
use Rattle.mt_postings.proofs.Digits.{length-digits, digits-add, digits_joined, digits-same, digits-zero, digits-none}

pub bits-append : (a b : List ℕ) → bits (a ++ b) ≡ bits a ++ bits b
bits-append [] b = refl
bits-append (x ∷ a) b = ap (λ xs. digits 8 x ++ xs) (bits-append a b) ∙ sym (append_assoc (digits 8 x) (bits a) (bits b))

pub length-bits : (a : List ℕ) → length (bits a) ≡ 8 * length a
length-bits [] = refl
length-bits (x ∷ a) =
    let h = length-append (digits 8 x) (bits a) in
    let k = length-digits 8 x in
    let r = length-bits a in
    omega arith

-- the bits of a list's later bytes, and of its first
pub drop-bits : (n : ℕ) (a : List ℕ) → drop (8 * n) (bits a) ≡ bits (drop n a)
drop-bits zero a = refl
drop-bits (suc n) [] = let e : 8 * suc n ≡ suc (8 * n + 7) = omega arith in rw e refl
drop-bits (suc n) (x ∷ a) =
    let e : 8 * suc n ≡ length (digits 8 x) + 8 * n = let l = length-digits 8 x in omega arith in
    rw e (drop-append-add (digits 8 x) (bits a) (8 * n) ∙ drop-bits n a)

pub take-bits : (n : ℕ) (a : List ℕ) → take (8 * n) (bits a) ≡ bits (take n a)
take-bits zero a = refl
take-bits (suc n) [] = let e : 8 * suc n ≡ suc (8 * n + 7) = omega arith in rw e refl
take-bits (suc n) (x ∷ a) =
    let e : 8 * suc n ≡ length (digits 8 x) + 8 * n = let l = length-digits 8 x in omega arith in
    rw e (take-append-add (digits 8 x) (bits a) (8 * n) ∙ ap (λ xs. digits 8 x ++ xs) (take-bits n a))

pow_256 : (k : ℕ) → 256 ^ k ≡ 2 ^ (8 * k)
pow_256 zero = refl
pow_256 (suc k) =
    let e : 8 * suc k ≡ 8 + 8 * k = omega arith in
    let h = pow_256 k in
    let p = pow-add 2 8 (8 * k) in
    let q : 256 ^ suc k ≡ 256 ^ k * 256 = pow-suc 256 k in
    rw e (omega arith)

byte_is : (k n : ℕ) → byte_at k n ≡ n / 2 ^ (8 * k) % 2 ^ 8
byte_is zero n = let e : n / 1 ≡ n = omega arith in ap (λ x. x % 256) (sym e)
byte_is (suc k) n = ap (λ x. n / x % 256) (pow_256 (suc k))

-- the bytes of a word, the highest first, are its digits
pub bits-be : (k n : ℕ) → bits (bytes_high_first k n) ≡ digits (8 * k) n
bits-be zero n = sym (digits-none n)
bits-be (suc k) n =
    let e : 8 * suc k ≡ 8 + 8 * k = omega arith in
    let b : byte_at k n ≡ n / 2 ^ (8 * k) % 2 ^ 8 = byte_is k n in
    let s : digits 8 (n / 2 ^ (8 * k) % 2 ^ 8) ≡ digits 8 (n / 2 ^ (8 * k)) = digits-same 8 (n / 2 ^ (8 * k) % 2 ^ 8) (n / 2 ^ (8 * k)) (mod-eq_of_lt (mod_below (n / 2 ^ (8 * k)) (2 ^ 8) (pow_pos 8))) in
    let r = bits-be k n in
    let j : digits (8 + 8 * k) n ≡ digits 8 (n / 2 ^ (8 * k)) ++ digits (8 * k) n = digits-add 8 (8 * k) n in
    rw (e, b, s, r) (sym j)

-- a word that still has room takes more bits at its low end
pub put_more : (front : List Bool) (held word count more : ℕ) → held + count < 64 → word < 2 ^ held → more < 2 ^ count → (word * 2 ^ count % 2 ^ 64 ≡ word * 2 ^ count) × (word * 2 ^ count + more < 2 ^ (held + count)) × (front ++ digits (held + count) (word * 2 ^ count + more) ≡ front ++ digits held word ++ digits count more)
put_more front held word count more room w m =
    let whole = shl_whole word held count 64 w (omega arith) in
    let fits = mul-add-lt word (2 ^ count) more (2 ^ held) w m in
    let e : 2 ^ count * 2 ^ held ≡ 2 ^ (held + count) = sym (pow-add 2 count held) ∙ ap (λ x. 2 ^ x) (omega arith) in
    let j = digits_joined held count word more m in
    (whole, rw (← e) fits, rw j (sym (append_assoc front (digits held word) (digits count more))))

-- a word is filled up, and what is left over stays
pub put_full : (bytes : List ℕ) (held word count more rest : ℕ) → held < 64 → held + count ≡ 64 + rest → count < 64 → word < 2 ^ held → more < 2 ^ count → (word * 2 ^ (64 - held) % 2 ^ 64 ≡ word * 2 ^ (64 - held)) × (word * 2 ^ (64 - held) + more / 2 ^ rest < 2 ^ 64) × (more % 2 ^ rest < 2 ^ rest) × (bits (bytes ++ bytes_high_first 8 (word * 2 ^ (64 - held) + more / 2 ^ rest)) ++ digits rest (more % 2 ^ rest) ≡ bits bytes ++ digits held word ++ digits count more)
put_full bytes held word count more rest part sum few w m =
    let free = 64 - held in
    let c : count ≡ free + rest = omega arith in
    let whole = shl_whole word held free 64 w (omega arith) in
    let high : more / 2 ^ rest < 2 ^ free = shr_below more free rest (subst (λ x. more < 2 ^ x) c m) in
    let fits = mul-add-lt word (2 ^ free) (more / 2 ^ rest) (2 ^ held) w high in
    let k : held + free ≡ 64 = omega arith in
    let k' : free + held ≡ 64 = omega arith in
    let e : 2 ^ free * 2 ^ held ≡ 2 ^ 64 = sym (pow-add 2 free held) ∙ ap (λ x. 2 ^ x) k' in
    let j : digits 64 (word * 2 ^ free + more / 2 ^ rest) ≡ digits held word ++ digits free (more / 2 ^ rest) = ap (λ x. digits x (word * 2 ^ free + more / 2 ^ rest)) (sym k) ∙ digits_joined held free word (more / 2 ^ rest) high in
    let b = bits-be 8 (word * 2 ^ free + more / 2 ^ rest) in
    let split : digits count more ≡ digits free (more / 2 ^ rest) ++ digits rest more = ap (λ x. digits x more) c ∙ digits-add free rest more in
    let low : more % 2 ^ rest < 2 ^ rest = mod_below more (2 ^ rest) (pow_pos rest) in
    let s : digits rest (more % 2 ^ rest) ≡ digits rest more = digits-same rest (more % 2 ^ rest) more (mod-eq_of_lt low) in
    let front : bits (bytes ++ bytes_high_first 8 (word * 2 ^ free + more / 2 ^ rest)) ≡ bits bytes ++ (digits held word ++ digits free (more / 2 ^ rest)) = bits-append bytes (bytes_high_first 8 (word * 2 ^ free + more / 2 ^ rest)) ∙ ap (λ x. bits bytes ++ x) (b ∙ j) in
    (whole, omega (arith, fits, e), low, rw (front, s, split) (simp append_assoc))

-- the last bytes, filled up by zeros
pub put_last : (held word n : ℕ) → held < 64 → word < 2 ^ held → held ≤ 8 * n → 8 * n ≤ 64 → (word * 2 ^ (64 - held) % 2 ^ 64 ≡ word * 2 ^ (64 - held)) × (bits (take n (bytes_high_first 8 (word * 2 ^ (64 - held)))) ≡ digits held word ++ replicate (8 * n - held) false)
put_last held word n part w low high =
    let free = 64 - held in
    let whole = shl_whole word held free 64 w (omega arith) in
    let k : held + free ≡ 64 = omega arith in
    let zero_fits : 0 < 2 ^ free = pow_pos free in
    let plus : word * 2 ^ free ≡ word * 2 ^ free + 0 = omega arith in
    let j : digits 64 (word * 2 ^ free) ≡ digits held word ++ digits free 0 = ap (λ x. digits x (word * 2 ^ free)) (sym k) ∙ ap (λ x. digits (held + free) x) plus ∙ digits_joined held free word 0 zero_fits in
    let z = digits-zero free in
    let b : bits (bytes_high_first 8 (word * 2 ^ free)) ≡ digits held word ++ replicate free false = bits-be 8 (word * 2 ^ free) ∙ j ∙ ap (λ x. digits held word ++ x) z in
    let l : 8 * n ≡ length (digits held word) + (8 * n - held) = let e = length-digits held word in omega arith in
    let t : take (8 * n) (digits held word ++ replicate free false) ≡ digits held word ++ take (8 * n - held) (replicate free false) = ap (λ x. take x (digits held word ++ replicate free false)) l ∙ (take-append-add (digits held word) (replicate free false) (8 * n - held)) in
    let r : take (8 * n - held) (replicate free false) ≡ replicate (8 * n - held) false = take-replicate (8 * n - held) free false (omega arith) in
    (whole, sym (take-bits n (bytes_high_first 8 (word * 2 ^ free))) ∙ ap (take (8 * n)) b ∙ t ∙ ap (λ x. digits held word ++ x) r)

-- the first bits of bytes, as the digits of the first
pub first_digits : (count byte : ℕ) (rest bytes : List ℕ) → count < 8 → bytes ≡ byte ∷ rest → digits count (byte / 2 ^ (8 - count)) ≡ take count (bits bytes)
first_digits count byte rest bytes few e =
    let sum : count + (8 - count) ≡ 8 = omega arith in
    let d : digits 8 byte ≡ digits count (byte / 2 ^ (8 - count)) ++ digits (8 - count) byte = ap (λ k. digits k byte) (sym sum) ∙ digits-add count (8 - count) byte in
    let l = length-digits 8 byte in
    sym (ap (λ x. take count (bits x)) e ∙ take-append-le count (digits 8 byte) (bits rest) (omega arith) ∙ ap (take count) d ∙ take_at (digits count (byte / 2 ^ (8 - count))) (digits (8 - count) byte) count (length-digits count (byte / 2 ^ (8 - count))))

pub first_fits : (count byte : ℕ) → count < 8 → byte < 256 → byte / 2 ^ (8 - count) < 2 ^ count
first_fits count byte few small =
    let sum : count + (8 - count) ≡ 8 = omega arith in
    shr_below byte count (8 - count) (subst (λ k. byte < 2 ^ k) (sym sum) small)

pub first_none : (count : ℕ) (bytes : List ℕ) → count ≤ 8 * length bytes → length bytes ≡ 0 → (digits count 0 ≡ take count (bits bytes)) × (0 < 2 ^ count)
first_none count bytes l e =
    let z : count ≡ 0 = omega arith in
    let p : 0 < 2 ^ count = pow_pos count in
    (ap (λ k. digits k 0) z ∙ digits-none 0 ∙ ap (λ k. take k (bits bytes)) (sym z), p)

pub first_small : (byte : ℕ) (rest bytes : List ℕ) → bytes ≡ byte ∷ rest → get_or bytes 0 0 < 256 → byte < 256
first_small byte rest bytes e l = subst (λ x. get_or x 0 0 < 256) e l
