-- The tokens of a text that is put together from pieces.
use Rattle.std.proofs.Common.{ℕ, suc, ◌+◌, ◌-◌, ◌*◌, ◌/◌, ◌%◌, ◌^◌, ◌≡◌, ◌<◌, ◌≤◌, Bool, true, false, List, [], ◌∷◌, ◌++◌, Some, Option, Ok, refl, sym, ◌∙◌, ap, arith, length, length-append, get_or, nat_lt, append_assoc}
use Rattle.std.specs.Prelude.{cond, codes, decimal, ◌==◌}
use Rattle.std.specs.List.{prefix_len, AllPass}
use Rattle.std.specs.Char.{is_ascii_digit}
use Rattle.std.proofs.lemmas.Bool.Decides.{nat_tests}
use Rattle.std.proofs.Math.Seq.{take-append_seam}
use Rattle.std.proofs.lemmas.Fmt.{decimal_by_steps, length-decimal-le}
use Rattle.mt_text_spec.specs.Words.{is_identifier_start, is_identifier_byte, IsIdentifier}
use Rattle.mt_query_spec.specs.Tokens.{Token, Quoted, Number, Word, OpenCurly, Mark, Sign, Unlexed, tokens_from, lexeme, string_length, decimal_value}
use Rattle.mt_query_spec.specs.Tokens as t
use Rattle.mt_query_spec.specs.Verdicts.{plain}

-- the tokens without their places, and where the lexing stops
abbrev pub Lexed : Type 0
Lexed = List Token × Option (ℕ × Unlexed)

abbrev pub lexed : ℕ → List ℕ → Lexed
lexed at text = (plain (tokens_from at 0 text).tokens, (tokens_from at 0 text).stop)

abbrev pub before : List Token → Lexed → Lexed
before tokens l = (tokens ++ l.0, l.1)

-- the place behind some bytes
abbrev pub past : List ℕ → ℕ → ℕ
past [] at = at
past (b ∷ bytes) at = past bytes (suc at)

pub past_append : (xs ys : List ℕ) (at : ℕ) → past (xs ++ ys) at ≡ past ys (past xs at)
past_append [] ys at = refl
past_append (x ∷ xs) ys at = past_append xs ys (suc at)

-- some bytes at a place, before a rest, are these tokens
pub record Spells (at : ℕ) (bytes rest : List ℕ) (tokens : List Token) : Type 0 where
  pub is : lexed at (bytes ++ rest) ≡ before tokens (lexed (past bytes at) rest)

pub then : {at : ℕ} {xs ys rest : List ℕ} {s u : List Token} → Spells at xs (ys ++ rest) s → Spells (past xs at) ys rest u → Spells at (xs ++ ys) rest (s ++ u)
then {at = at} {xs = xs} {ys = ys} {rest = rest} {s = s} {u = u} a b = record {
  is = ap (lexed at) (append_assoc xs ys rest) ∙ a.is ∙ ap (before s) b.is
      ∙ ap (λ (x : List Token). (x, (lexed (past ys (past xs at)) rest).1)) (sym (append_assoc s u (lexed (past ys (past xs at)) rest).0))
      ∙ ap (λ p. before (s ++ u) (lexed p rest)) (sym (past_append xs ys at));
}

-- ## Signs and blanks

pub none : (at : ℕ) (rest : List ℕ) → Spells at [] rest []
none at rest = record { is = refl }

pub blank : (at : ℕ) (rest : List ℕ) → Spells at (codes " ") rest []
unfolding tokens_from
blank at rest = record { is = refl }

pub open_square : (at : ℕ) (rest : List ℕ) → Spells at (codes "[") rest (Mark t.OpenSquare ∷ [])
unfolding tokens_from lexeme
open_square at rest = record { is = refl }

pub close_square : (at : ℕ) (rest : List ℕ) → Spells at (codes "]") rest (Mark t.CloseSquare ∷ [])
unfolding tokens_from lexeme
close_square at rest = record { is = refl }

pub closing_tag : (at : ℕ) (rest : List ℕ) → Spells at (codes "</") rest (Mark t.ClosingTag ∷ [])
unfolding tokens_from lexeme
closing_tag at rest = record { is = refl }

-- ## Lexemes

skip : (xs rest : List ℕ) (at : ℕ) → tokens_from at (length xs) (xs ++ rest) ≡ tokens_from (past xs at) 0 rest
unfolding tokens_from
skip [] rest at = refl
skip (x ∷ xs) rest at = skip xs rest (suc at)

-- what begins with a byte that is no blank
pub lexeme_spells : (at b : ℕ) (xs rest : List ℕ) (token : Token) → t.is_blank b ≡ false → lexeme at b (xs ++ rest) ≡ Ok (token, length xs) → Spells at (b ∷ xs) rest (token ∷ [])
unfolding tokens_from
lexeme_spells at b xs rest token h e =
    let k : tokens_from at 0 (b ∷ (xs ++ rest)) ≡ t.preceded (at, token) (tokens_from (past xs (suc at)) 0 rest) = rw (h, e, skip xs rest (suc at)) refl in
    record { is = ap (λ (s : t.Tokens). (plain s.tokens, s.stop)) k }

-- each byte passes a test
abbrev pub Passes : (ℕ → Bool) → List ℕ → Type 0
Passes P [] = Unit {0}
Passes P (b ∷ bytes) = (P b ≡ true) × Passes P bytes

pub passes_from : (P : ℕ → Bool) (bytes : List ℕ) → AllPass P bytes → Passes P bytes
passes_from P [] h = tt
passes_from P (b ∷ bytes) h = (h 0 0 (omega arith), passes_from P bytes (λ k d l. h (suc k) d (omega arith)))

passes_append : (P : ℕ → Bool) (xs ys : List ℕ) → Passes P xs → Passes P ys → Passes P (xs ++ ys)
passes_append P [] ys h k = k
passes_append P (x ∷ xs) ys h k = (h.0, passes_append P xs ys h.1 k)

stops : (P : ℕ → Bool) (rest : List ℕ) → P (get_or rest 0 0) ≡ false → prefix_len P rest ≡ 0
stops P [] h = refl
stops P (b ∷ rest) h = ap (λ q. cond q (1 + prefix_len P rest) 0) h

-- so many bytes pass, where the next one does not
prefix_all : (P : ℕ → Bool) (xs rest : List ℕ) → Passes P xs → P (get_or rest 0 0) ≡ false → prefix_len P (xs ++ rest) ≡ length xs
prefix_all P [] rest h k = stops P rest k
prefix_all P (x ∷ xs) rest h k =
    ap (λ q. cond q (1 + prefix_len P (xs ++ rest)) 0) h.0 ∙ ap (λ n. 1 + n) (prefix_all P xs rest h.1 k) ∙ (let e : 1 + length xs ≡ suc (length xs) = omega arith in e)

-- ## Words

-- what an identifier begins with is no blank, no quote and no digit
start_no_blank : (b : ℕ) → is_identifier_start b ≡ true → t.is_blank b ≡ false
start_no_blank b h = grind (arith, nat_tests)

start_no_quote : (b : ℕ) → is_identifier_start b ≡ true → (b == 34) ≡ false
start_no_quote b h = grind (arith, nat_tests)

start_no_digit : (b : ℕ) → is_identifier_start b ≡ true → is_ascii_digit b ≡ false
start_no_digit b h = grind (arith, nat_tests)

below : (n k : ℕ) → n < k → nat_lt n k ≡ true
below n k h = grind (arith, nat_tests)

word_lexeme : (at b : ℕ) (xs rest : List ℕ) → is_identifier_start b ≡ true → Passes is_identifier_byte xs → length xs < 64 → is_identifier_byte (get_or rest 0 0) ≡ false
    → lexeme at b (xs ++ rest) ≡ Ok (Word at (b ∷ xs), length xs)
unfolding lexeme
word_lexeme at b xs rest h each short end =
    rw (start_no_quote b h, start_no_digit b h, h, prefix_all is_identifier_byte xs rest each end, below (length xs) 64 short, take-append_seam xs rest) refl

pub word : (at : ℕ) (name rest : List ℕ) → IsIdentifier name → is_identifier_byte (get_or rest 0 0) ≡ false → Spells at name rest (Word at name ∷ [])
word at [] rest h end = absurd (omega (arith, h.some))
word at (b ∷ xs) rest h end =
    lexeme_spells at b xs rest (Word at (b ∷ xs)) (start_no_blank b h.first)
    (word_lexeme at b xs rest h.first (passes_from is_identifier_byte (b ∷ xs) h.each).1 (omega (arith, h.short)) end)

-- ## Numbers

digit_true : (b : ℕ) → 48 ≤ b → b ≤ 57 → is_ascii_digit b ≡ true
digit_true b l h = grind (arith, nat_tests)

value_append : (v : ℕ) (xs ys : List ℕ) → decimal_value v (xs ++ ys) ≡ decimal_value (decimal_value v xs) ys
value_append v [] ys = refl
value_append v (x ∷ xs) ys = value_append (10 * v + (x - 48)) xs ys

-- digits that write a number
pub record Writes (n : ℕ) (digits : List ℕ) : Type 0 where
  pub value : decimal_value 0 digits ≡ n
  pub each : Passes is_ascii_digit digits
  pub some : 0 < length digits

pub decimal_writes : (n : ℕ) → n < 2 ^ 64 → Writes n (decimal n)
decimal_writes = decimal_by_steps Writes
    (λ n h. record { value = omega arith; each = (digit_true (48 + n) (omega arith) (omega arith), tt); some = omega arith })
    (λ n ds h w. record {
      value = value_append 0 ds ((48 + n % 10) ∷ []) ∙ ap (λ v. decimal_value v ((48 + n % 10) ∷ [])) w.value ∙ (let e : 10 * (n / 10) + ((48 + n % 10) - 48) ≡ n = omega arith in e);
      each = passes_append is_ascii_digit ds ((48 + n % 10) ∷ []) w.each (digit_true (48 + n % 10) (omega arith) (omega arith), tt);
      some = omega (arith, length-append ds ((48 + n % 10) ∷ []));
    })

digit_no_blank : (b : ℕ) → is_ascii_digit b ≡ true → t.is_blank b ≡ false
digit_no_blank b h = grind (arith, nat_tests)

digit_no_quote : (b : ℕ) → is_ascii_digit b ≡ true → (b == 34) ≡ false
digit_no_quote b h = grind (arith, nat_tests)

number_lexeme : (at b : ℕ) (xs rest : List ℕ) → is_ascii_digit b ≡ true → Passes is_ascii_digit xs → length xs < 9 → is_ascii_digit (get_or rest 0 0) ≡ false
    → lexeme at b (xs ++ rest) ≡ Ok (Number at (decimal_value 0 (b ∷ xs)), length xs)
unfolding lexeme
number_lexeme at b xs rest h each short end =
    rw (digit_no_quote b h, h, prefix_all is_ascii_digit xs rest each end, below (length xs) 9 short, take-append_seam xs rest) refl

digits_spell : (at n : ℕ) (digits rest : List ℕ) → Writes n digits → length digits ≤ 9 → is_ascii_digit (get_or rest 0 0) ≡ false → Spells at digits rest (Number at n ∷ [])
digits_spell at n [] rest w short end = absurd (omega (arith, w.some))
digits_spell at n (b ∷ xs) rest w short end =
    lexeme_spells at b xs rest (Number at n) (digit_no_blank b w.each.0)
    (number_lexeme at b xs rest w.each.0 w.each.1 (omega arith) end ∙ ap (λ v. Ok (Number at v, length xs)) w.value)

pub number : (at n : ℕ) (rest : List ℕ) → n < 10 ^ 9 → is_ascii_digit (get_or rest 0 0) ≡ false → Spells at (decimal n) rest (Number at n ∷ [])
number at n rest h end =
    let l : n < 2 ^ 64 = omega arith in
    digits_spell at n (decimal n) rest (decimal_writes n l) (length-decimal-le 9 n (omega arith) h l) end

-- ## Strings

string_lexeme : (content rest : List ℕ) → string_length false (content ++ 34 ∷ rest) ≡ Some (length content)
    → t.string_at (content ++ 34 ∷ rest) ≡ Ok (Quoted content, length (content ++ 34 ∷ []))
string_lexeme content rest h =
    rw (h, t.string_at, take-append_seam content (34 ∷ rest)) (ap (λ n. Ok (Quoted content, n)) (let e : suc (length content) ≡ length (content ++ 34 ∷ []) = omega (arith, length-append content (34 ∷ [])) in e))

-- a string whose content ends at its quote
pub string : (at : ℕ) (content rest : List ℕ) → string_length false (content ++ 34 ∷ rest) ≡ Some (length content) → Spells at (codes "\"" ++ (content ++ codes "\"")) rest (Quoted content ∷ [])
unfolding lexeme
string at content rest h =
    lexeme_spells at 34 (content ++ 34 ∷ []) rest (Quoted content) refl (ap t.string_at (append_assoc content (34 ∷ []) rest) ∙ string_lexeme content rest h)
