-- A text that is parsed as a number and begins with neither a sign nor a zero is how the number is written.
use Rattle.std.proofs.Common.{◌≡◌, ◌<◌, ◌≤◌, ◌^◌, ◌+◌, ◌∙◌, ◌∷◌, ℕ, List, [], length, get_or, Result, Ok, inl, inr, sym, ap, subst, arith}
use Rattle.std.specs.Fmt.{decimal}
use Rattle.std.specs.Str.Parse.{ParsesUnsigned, digits_value}
use Rattle.std.proofs.lemmas.Bool.{cases_lt}
use Rattle.std.proofs.lemmas.Str.Parse.{IsNumeralModel, numerals_by_value, tells_by_index, parse_plain}
use Rattle.std.specs.Int.{IsInRange}
use Rattle.std.proofs.lemmas.Fmt.{decimal-digits_value, digits_value-decimal, parse-decimal, first_decimal, decimal_digit}
use Rattle.mt_words.specs.Words.{IsNumberTo}

own : IsNumeralModel (λ ds. (i : ℕ) → i < length ds → IsInRange 48 57 (get_or ds i 0)) (digits_value 10)
own = numerals_by_value _ tells_by_index

-- what was parsed
pub parsed_is_number : (E : Type 0) (greatest number : ℕ) (text : List ℕ) (result : Result ℕ E) → result ≡ Ok number → ParsesUnsigned 32 10 text result
    → 48 < get_or text 0 0 → number ≤ greatest → IsNumberTo greatest text number
parsed_is_number E greatest number text result ok parsed first high =
    let r = parse_plain own {E = E} 32 text (Ok number) (subst (λ (y : Result ℕ E). ParsesUnsigned 32 10 text y) ok parsed) (λ (e : get_or text 0 0 ≡ 43). omega arith) in
    let small : digits_value 10 text < 2 ^ 32 = r.0.2 in
    let is : decimal (digits_value 10 text) ≡ text = decimal-digits_value own text r.0.0 r.0.1 (λ (e : get_or text 0 0 ≡ 48). absurd (omega arith)) (omega (arith, small)) in
    let written : text ≡ decimal number = sym is ∙ ap decimal (sym r.1) in
    record { written = written; least = positive number written; most = high }
  where
    positive : (n : ℕ) → text ≡ decimal n → 1 ≤ n
    positive n e = elim (cases_lt 0 n) [
      | inl low ↦ omega arith
      | inr none ↦
          let digit : decimal n ≡ (48 + n) ∷ [] = decimal_digit n (omega arith) in
          let at : get_or text 0 0 ≡ 48 + n = ap (λ t. get_or t 0 0) (e ∙ digit) in
          absurd (omega arith)
    ]

-- how a number begins
pub first_of_number : (greatest number : ℕ) (text : List ℕ) → greatest < 2 ^ 32 → IsNumberTo greatest text number → 48 < get_or text 0 0
first_of_number greatest number text small n =
    let high = n.most in let low = n.least in
    rw n.written (first_decimal number (omega arith) (omega arith))

-- a number is parsed
pub number_is_parsed : (E : Type 0) (greatest number : ℕ) (text : List ℕ) (r : Result ℕ E) → greatest < 2 ^ 32 → IsNumberTo greatest text number → ParsesUnsigned 32 10 text r → r ≡ Ok number
number_is_parsed E greatest number text r small n p =
    let high = n.most in
    parse-decimal {E = E} 32 number text r (omega arith) (omega arith) n.written p

-- a text writes one number
pub one_number : (greatest one other : ℕ) (text : List ℕ) → greatest < 2 ^ 32 → IsNumberTo greatest text one → IsNumberTo greatest text other → one ≡ other
one_number greatest one other text small a b =
    let a_most = a.most in let b_most = b.most in
    sym (digits_value-decimal own one (omega arith)) ∙ (ap (digits_value 10) (sym a.written ∙ b.written) ∙ digits_value-decimal own other (omega arith))
