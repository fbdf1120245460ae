-- What is so of the strings and numbers that are tokens of a text.
use Rattle.std.proofs.Common.{ℕ, zero, suc, ◌+◌, ◌-◌, ◌*◌, ◌^◌, ◌≡◌, ◌<◌, ◌≤◌, Bool, true, false, List, [], ◌∷◌, ◌++◌, None, Some, Option, Ok, Err, refl, ap, arith, length, take, nat_lt, subst}
use Rattle.std.specs.Prelude.{cond, ◌==◌}
use Rattle.std.specs.List.{prefix_len}
use Rattle.std.specs.Char.{is_ascii_digit}
use Rattle.std.specs.Option.{option_map}
use Rattle.std.proofs.lemmas.Bool.Decides.{nat_tests}
use Rattle.std.proofs.lemmas.List.{length-take}
use Rattle.std.proofs.Math.Nat.{pow-le-pow_right}
use Rattle.mt_text_spec.specs.Words.{is_identifier_start, is_identifier_byte}
use Rattle.mt_query_spec.specs.Tokens.{Token, Quoted, Number, Word, OpenCurly, Mark, Unlexed, NoToken, NoEnd, tokens_from, lexeme, string_length, decimal_value}
use Rattle.mt_query_spec.specs.Tokens as t
use Rattle.mt_query_spec.specs.Verdicts.{plain}
use Rattle.mt_query_laws.proofs.Digits.{digit_range, value_step}
use Rattle.mt_query_laws.proofs.Lexing.{Passes}

-- a string ends at its own quote, and a number has at most nine digits
abbrev pub Sound : Token → Type 0
Sound (Quoted content) = string_length false (content ++ 34 ∷ []) ≡ Some (length content)
Sound (Number at n) = n < 10 ^ 9
Sound (Word at name) = Unit {0}
Sound (OpenCurly at) = Unit {0}
Sound (Mark sign) = Unit {0}

abbrev pub AllSound : List Token → Type 0
AllSound [] = Unit {0}
AllSound (token ∷ tokens) = Sound token × AllSound tokens

pub sound_front : (xs ys : List Token) → AllSound (xs ++ ys) → AllSound xs
sound_front [] ys h = tt
sound_front (x ∷ xs) ys h = (h.0, sound_front xs ys h.1)

pub sound_back : (xs ys : List Token) → AllSound (xs ++ ys) → AllSound ys
sound_back [] ys h = h
sound_back (x ∷ xs) ys h = sound_back xs ys h.1

-- ## Strings

pub shorter : (o : Option ℕ) (n : ℕ) → option_map suc o ≡ Some (suc n) → o ≡ Some n
shorter None n h = cc
shorter (Some k) n h = cc

pub never_zero : (o : Option ℕ) → option_map suc o ≡ Some 0 → ⊥
never_zero None h = cc
never_zero (Some k) h = let e : suc k ≡ 0 = cc in absurd (omega arith)

ends_at_quote : (taken : Bool) (rest : List ℕ) (n : ℕ) → string_length taken rest ≡ Some n → string_length taken (take n rest ++ 34 ∷ []) ≡ Some (length (take n rest))
ends_at_quote taken [] n h = cc
ends_at_quote true (b ∷ rest) zero h = absurd (never_zero (string_length false rest) h)
ends_at_quote true (b ∷ rest) (suc n) h = ap (option_map suc) (ends_at_quote false rest n (shorter (string_length false rest) n h))
ends_at_quote false (b ∷ rest) zero h = refl
ends_at_quote false (b ∷ rest) (suc n) h = go (b == 34) refl h (λ k. ends_at_quote (b == 92) rest n k)
  where
    go : (q : Bool) → (b == 34) ≡ q → cond q (Some 0) (option_map suc (string_length (b == 92) rest)) ≡ Some (suc n)
        → (string_length (b == 92) rest ≡ Some n → string_length (b == 92) (take n rest ++ 34 ∷ []) ≡ Some (length (take n rest)))
        → cond (b == 34) (Some 0) (option_map suc (string_length (b == 92) (take n rest ++ 34 ∷ []))) ≡ Some (suc (length (take n rest)))
    go true e h k = let z : 0 ≡ suc n = cc in absurd (omega arith)
    go false e h k = rw e (ap (option_map suc) (k (shorter (string_length (b == 92) rest) n h)))

string_sound : (rest : List ℕ) (found : Token × ℕ) → t.string_at rest ≡ Ok found → Sound found.0
string_sound rest found h = go (string_length false rest) refl h
  where
    go : (o : Option ℕ) → string_length false rest ≡ o → ◌≡◌ {A = t.Lexeme} (elim o [ Some n ↦ Ok (Quoted (take n rest), suc n) | None ↦ Err NoEnd ]) (Ok found) → Sound found.0
    go None e h = cc
    go (Some n) e h =
        let k : ◌≡◌ {A = Token × ℕ} (Quoted (take n rest), suc n) found = cc in
        subst (λ (f : Token × ℕ). Sound f.0) k (ends_at_quote false rest n e)

-- ## Numbers

pub passes_prefix : (P : ℕ → Bool) (bytes : List ℕ) → Passes P (take (prefix_len P bytes) bytes)
passes_prefix P [] = tt
passes_prefix P (b ∷ bytes) = go (P b) refl (passes_prefix P bytes)
  where
    go : (q : Bool) → P b ≡ q → Passes P (take (prefix_len P bytes) bytes) → Passes P (take (cond q (1 + prefix_len P bytes) 0) (b ∷ bytes))
    go true e h = subst (λ n. Passes P (take n (b ∷ bytes))) (let s : suc (prefix_len P bytes) ≡ 1 + prefix_len P bytes = omega arith in s) (e, h)
    go false e h = tt

value_small : (digits : List ℕ) (v i : ℕ) → Passes is_ascii_digit digits → v + 1 ≤ 10 ^ i → decimal_value v digits + 1 ≤ 10 ^ (i + length digits)
value_small [] v i h l = subst (λ n. v + 1 ≤ 10 ^ n) (let s : i ≡ i + 0 = omega arith in s) l
value_small (b ∷ digits) v i h l =
    let r = digit_range b h.0 in
    let s : 10 * v + (b - 48) + 1 ≤ 10 ^ (i + 1) = let k = value_step i v (b - 48) (omega (arith, r.1)) l in omega arith in
    subst (λ n. decimal_value (10 * v + (b - 48)) digits + 1 ≤ 10 ^ n) (let s : (i + 1) + length digits ≡ i + suc (length digits) = omega arith in s)
    (value_small digits (10 * v + (b - 48)) (i + 1) h.1 s)

nine_digits : (digits : List ℕ) → Passes is_ascii_digit digits → length digits ≤ 9 → decimal_value 0 digits < 10 ^ 9
nine_digits digits h l =
    let s = value_small digits 0 0 h (omega arith) in
    let p : 10 ^ (0 + length digits) ≤ 10 ^ 9 = pow-le-pow_right {n = 10} (omega arith) {i = 0 + length digits} {j = 9} (omega arith) in
    omega arith

number_sound : (at b : ℕ) (rest : List ℕ) (found : Token × ℕ) → is_ascii_digit b ≡ true → t.number_at at b rest ≡ Ok found → Sound found.0
number_sound at b rest found d h = go (nat_lt (prefix_len is_ascii_digit rest) 9) refl h
  where
    n : ℕ
    n = prefix_len is_ascii_digit rest

    go : (q : Bool) → nat_lt (prefix_len is_ascii_digit rest) 9 ≡ q
        → ◌≡◌ {A = t.Lexeme} (cond q (Ok (Number at (decimal_value 0 (b ∷ take (prefix_len is_ascii_digit rest) rest)), prefix_len is_ascii_digit rest)) (Err NoToken)) (Ok found) → Sound found.0
    go true e h =
        let k : ◌≡◌ {A = Token × ℕ} (Number at (decimal_value 0 (b ∷ take (prefix_len is_ascii_digit rest) rest)), prefix_len is_ascii_digit rest) found = cc in
        let l : prefix_len is_ascii_digit rest < 9 = grind (arith, nat_tests) in
        subst (λ (f : Token × ℕ). Sound f.0) k
        (nine_digits (b ∷ take (prefix_len is_ascii_digit rest) rest) (d, passes_prefix is_ascii_digit rest) (omega (arith, length-take (prefix_len is_ascii_digit rest) rest)))
    go false e h = cc

-- ## Words and signs

word_sound : (at b : ℕ) (rest : List ℕ) (found : Token × ℕ) → t.word_at at b rest ≡ Ok found → Sound found.0
word_sound at b rest found h = go (nat_lt (prefix_len is_identifier_byte rest) 64) (prefix_len is_identifier_byte rest) h
  where
    go : (q : Bool) (n : ℕ) → ◌≡◌ {A = t.Lexeme} (cond q (Ok (Word at (b ∷ take n rest), n)) (Err NoToken)) (Ok found) → Sound found.0
    go true n h = let k : ◌≡◌ {A = Token × ℕ} (Word at (b ∷ take n rest), n) found = cc in subst (λ (f : Token × ℕ). Sound f.0) k tt
    go false n h = cc

sign_sound : (at b : ℕ) (rest : List ℕ) (found : Token × ℕ) → t.sign_at at b rest ≡ Ok found → Sound found.0
sign_sound at b rest found h = go (b == 123) (t.long_sign b rest) (t.sign_of b) h
  where
    marked : (sign : t.Sign) (n : ℕ) → ◌≡◌ {A = t.Lexeme} (Ok (Mark sign, n)) (Ok found) → Sound found.0
    marked sign n h = let k : ◌≡◌ {A = Token × ℕ} (Mark sign, n) found = cc in subst (λ (f : Token × ℕ). Sound f.0) k tt

    go : (q : Bool) (long : Option (t.Sign × ℕ)) (short : Option t.Sign)
        → ◌≡◌ {A = t.Lexeme} (cond q (Ok (OpenCurly at, 0)) (elim long [
          | Some f ↦ Ok (Mark f.0, f.1)
          | None ↦ elim short [ Some sign ↦ Ok (Mark sign, 0) | None ↦ Err NoToken ]
        ])) (Ok found) → Sound found.0
    go true long short h = let k : ◌≡◌ {A = Token × ℕ} (OpenCurly at, 0) found = cc in subst (λ (f : Token × ℕ). Sound f.0) k tt
    go false (Some f) short h = marked f.0 f.1 h
    go false None (Some sign) h = marked sign 0 h
    go false None None h = cc

lexeme_sound : (at b : ℕ) (rest : List ℕ) (found : Token × ℕ) → lexeme at b rest ≡ Ok found → Sound found.0
unfolding lexeme
lexeme_sound at b rest found h = go (b == 34) (is_ascii_digit b) refl (is_identifier_start b) h
  where
    go : (q d : Bool) → is_ascii_digit b ≡ d → (w : Bool)
        → cond q (t.string_at rest) (cond d (t.number_at at b rest) (cond w (t.word_at at b rest) (t.sign_at at b rest))) ≡ Ok found → Sound found.0
    go true d e w h = string_sound rest found h
    go false true e w h = number_sound at b rest found e h
    go false false e true h = word_sound at b rest found h
    go false false e false h = sign_sound at b rest found h

-- all tokens of a text are sound
pub tokens_sound : (at within : ℕ) (text : List ℕ) → AllSound (plain (tokens_from at within text).tokens)
unfolding tokens_from
tokens_sound at within [] = tt
tokens_sound at (suc within) (b ∷ rest) = tokens_sound (suc at) within rest
tokens_sound at zero (b ∷ rest) = go (t.is_blank b) (lexeme at b rest) refl (tokens_sound (suc at) zero rest) (λ n. tokens_sound (suc at) n rest)
  where
    go : (q : Bool) (found : t.Lexeme) → lexeme at b rest ≡ found → AllSound (plain (tokens_from (suc at) zero rest).tokens)
        → ((n : ℕ) → AllSound (plain (tokens_from (suc at) n rest).tokens))
        → AllSound (plain (cond q (tokens_from (suc at) zero rest) (elim found [
          | Ok f ↦ t.preceded (at, f.0) (tokens_from (suc at) f.1 rest)
          | Err why ↦ record { tokens = []; stop = Some (at, why) }
        ])).tokens)
    go true found e k again = k
    go false (Ok f) e k again = (lexeme_sound at b rest f e, again f.1)
    go false (Err why) e k again = tt
