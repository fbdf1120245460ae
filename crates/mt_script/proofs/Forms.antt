-- The words of a command line: each is read exactly where it has its form.
use Rattle.std.proofs.lemmas.Int.{ints}
use Rattle.std.proofs.Common.{to_z, of_z, w32, ◌-ℤ◌, ◌≤ℤ◌, ◌≡◌, ◌≢◌, ℕ, zero, suc, lit<, Bor, Result, Ok, Err, MatchResult, MatchOption, ◌<◌, ◌≤◌, ◌^◌, ◌==◌, inl, inr, Bool, true, false, not, ◌||◌, if◌then◌else◌, List, [], ◌∷◌, ◌++◌, length, drop, get_or, arith, refl, sym, ◌∙◌, ap, subst, Option, Some, None, IsTrue, ℤ, pos, neg_ℤ, nat_lt, nat_le}
use Rattle.std.specs.Char.{is_ascii_digit}
use Rattle.std.specs.Prelude.{int_le, nat_eq}
use Rattle.std.specs.Cmp.Lexicographic.{pointwise, bytes_decides}
use Rattle.std.specs.Fmt.{decimal}
use Rattle.std.specs.Int.{IsInRange}
use Rattle.std.specs.Str.Parse.{digits_value}
use Rattle.std.proofs.lemmas.Bool.{and_from, and_parts, or_left, or_right, or_cases, not_from_false, not-true, lt-ltb, ltb-true, le-leb, leb-true, eq-eqb, eqb-true, ne_eqb, eqb-false, cases_Bool, cases_lt, false_from_ne_true}
use Rattle.std.proofs.lemmas.List.Sums.{AllPass-from_list_all, list_all-from_AllPass}
use Rattle.std.proofs.lemmas.List.Elements.{All-from_get_or}
use Rattle.std.proofs.lemmas.Str.Parse.{IsNumeralModel, numerals_by_value, tells_by_index, parse_digits}
use Rattle.std.proofs.lemmas.Str.Pattern.{IsSplitOnceResult, split_parts}
use Rattle.std.specs.Str.Parse.{ParsesUnsigned}
use Rattle.std.proofs.lemmas.Fmt.{digits_decimal, decimal_nonempty, decimal_digit, first_decimal, digits_value-decimal, decimal-digits_value}
use Rattle.mt_text_spec.specs.Words.{IsName, IsIdentifier, is_name_byte, is_identifier_byte}
use Rattle.mt_script_spec.specs.Commands.{IsSavedName, IsSmall, IsSigned, IsWithin}
use Rattle.mt_script.specs.Headers.{IsDecimal}
use Rattle.mt_script.specs.declared.words.Unread.{Unread}
use Rattle.mt_script.specs.Reading.{Reads, ◌>>=◌, cut, is_name, is_identifier, is_decimal, name_at, saved_name_at, identifier_at, decimal_at, number_at, small_at, plus_at, minus_at, signed_at, rest_at}

-- ## Steps

-- what a step that succeeds was made of
pub then_some : {A B P : Type 0} → (o : Option A) (f : A → Option B) (y : B) → o >>= f ≡ Some y → ((x : A) → o ≡ Some x → f x ≡ Some y → P) → P
then_some None f y e k = cc
then_some (Some x) f y e k = k x refl e

pub if_some : {A P : Type 0} → (b : Bool) (o : Option A) (y : A) → (if b then o else None) ≡ Some y → (b ≡ true → o ≡ Some y → P) → P
if_some true o y e k = k refl e
if_some false o y e k = cc

pub same : {A : Type 0} → (x y : A) → Some x ≡ Some y → x ≡ y
same x y e = cc

pub joined : {words x y a b : List ℕ} → words ≡ x ++ 32 ∷ y → x ≡ a → y ≡ b → words ≡ a ++ 32 ∷ b
joined e f g = cc

-- one word is spelled as another
pub spelled : (word text : List ℕ) → pointwise nat_eq word text ≡ true → word ≡ text
spelled word text t = (bytes_decides word text).0 t

-- ## Spaces

-- no byte of a word is a space
abbrev pub NoSpace : List ℕ → Type 0
NoSpace word = (i : ℕ) → i < length word → get_or word i 0 ≢ 32

later : (b : ℕ) (word : List ℕ) → NoSpace (b ∷ word) → NoSpace word
later b word n i l = n (suc i) (omega arith)

pub cut_at : (word rest : List ℕ) → NoSpace word → cut (word ++ 32 ∷ rest) ≡ Some (word, rest)
unfolding cut
cut_at [] rest n = refl
cut_at (b ∷ word) rest n = let other : (b == 32) ≡ false = ne_eqb b 32 (n 0 (omega arith)) in rw (other, cut_at word rest (later b word n)) refl

pub cut_none : (word : List ℕ) → NoSpace word → cut word ≡ None
unfolding cut
cut_none [] n = refl
cut_none (b ∷ word) n = let other : (b == 32) ≡ false = ne_eqb b 32 (n 0 (omega arith)) in rw (other, cut_none word (later b word n)) refl

cut_step : (b : ℕ) (bytes : List ℕ) (t : Bool) (o : Option (List ℕ × List ℕ)) (parts : List ℕ × List ℕ) → (b == 32) ≡ t → ((p : List ℕ × List ℕ) → o ≡ Some p → bytes ≡ p.0 ++ 32 ∷ p.1) →
    (if t then Some ([], bytes) else o >>= (λ p. Some (b ∷ p.0, p.1))) ≡ Some parts → b ∷ bytes ≡ parts.0 ++ 32 ∷ parts.1
cut_step b bytes true o parts e more r = let is : ([], bytes) ≡ parts = same _ _ r in let space : b ≡ 32 = eqb-true b 32 e in rw (← is, space) refl
cut_step b bytes false None parts e more r = cc
cut_step b bytes false (Some p) parts e more r = let is : (b ∷ p.0, p.1) ≡ parts = same _ _ r in rw (← is) (ap (λ s. b ∷ s) (more p refl))

pub cut_parts : (bytes : List ℕ) (parts : List ℕ × List ℕ) → cut bytes ≡ Some parts → bytes ≡ parts.0 ++ 32 ∷ parts.1
unfolding cut
cut_parts [] parts e = cc
cut_parts (b ∷ bytes) parts e = cut_step b bytes (b == 32) (cut bytes) parts refl (λ p r. cut_parts bytes p r) e

-- what `split_once` tells
pub split_result : (words : List ℕ) (r : Option (Bor (List ℕ) × Bor (List ℕ))) → IsSplitOnceResult 32 words r →
    MatchOption r (cut words ≡ None) (λ parts. cut words ≡ Some (parts.0.now, parts.1.now))
split_result words None s = cut_none words (split_parts 32 words None s (lit< tt))
split_result words (Some parts) s = let p = split_parts 32 words (Some parts) s (lit< tt) in rw p.0 (cut_at parts.0.now parts.1.now p.1)

-- ## Names

pub name_true : (word : List ℕ) → IsName word → is_name word ≡ true
unfolding is_name
name_true word n = and_from _ _ (lt-ltb _ _ n.some) (and_from _ _ (le-leb _ _ n.short) (and_from _ _ n.first (list_all-from_AllPass is_name_byte word n.each)))

pub name_from : (word : List ℕ) → is_name word ≡ true → IsName word
unfolding is_name
name_from word e =
    let a = and_parts _ _ e in let b = and_parts _ _ a.1 in let d = and_parts _ _ b.1 in
    record { some = ltb-true _ _ a.0; short = leb-true _ _ b.0; first = d.0; each = AllPass-from_list_all is_name_byte word d.1 }

pub name_at_yes : (word : List ℕ) → IsName word → name_at word ≡ Some word
unfolding name_at
name_at_yes word n = rw (name_true word n) refl

pub name_at_no : (word : List ℕ) → (IsName word → ⊥) → name_at word ≡ None
unfolding name_at
name_at_no word n = let f : is_name word ≡ false = false_from_ne_true _ (λ e. n (name_from word e)) in rw f refl

pub name_gives : (word name : List ℕ) → name_at word ≡ Some name → (word ≡ name) × IsName name
unfolding name_at
name_gives word name e = if_some (is_name word) (Some word) name e (λ t s. let is = same word name s in (is, subst IsName is (name_from word t)))

pub saved_name_at_yes : (word : List ℕ) → IsSavedName word → saved_name_at word ≡ Some word
unfolding saved_name_at
saved_name_at_yes word n = rw (le-leb (length word) 56 n.shorter, name_at_yes word n.name) refl

pub saved_name_gives : (word name : List ℕ) → saved_name_at word ≡ Some name → (word ≡ name) × IsSavedName name
unfolding saved_name_at
saved_name_gives word name e = if_some (nat_le (length word) 56) (name_at word) name e (λ t s.
    let g = name_gives word name s in
    let short : length word ≤ 56 = leb-true _ _ t in
    (g.0, record { name = g.1; shorter = rw (← g.0) short }))

pub name_plain : (name : List ℕ) → IsName name → NoSpace name
name_plain name n i h = λ is. let P : ℕ → Type 0 = λ b. is_name_byte b ≡ true in let t : is_name_byte 32 ≡ true = subst P is (n.each i 0 h) in cc

-- ## Identifiers

pub identifier_true : (word : List ℕ) → IsIdentifier word → is_identifier word ≡ true
unfolding is_identifier
identifier_true word n = and_from _ _ (lt-ltb _ _ n.some) (and_from _ _ (le-leb _ _ n.short) (and_from _ _ n.first (list_all-from_AllPass is_identifier_byte word n.each)))

pub identifier_from : (word : List ℕ) → is_identifier word ≡ true → IsIdentifier word
unfolding is_identifier
identifier_from word e =
    let a = and_parts _ _ e in let b = and_parts _ _ a.1 in let d = and_parts _ _ b.1 in
    record { some = ltb-true _ _ a.0; short = leb-true _ _ b.0; first = d.0; each = AllPass-from_list_all is_identifier_byte word d.1 }

pub identifier_false : (word : List ℕ) → (IsIdentifier word → ⊥) → is_identifier word ≡ false
identifier_false word n = false_from_ne_true _ (λ e. n (identifier_from word e))

pub identifier_at_yes : (word : List ℕ) → IsIdentifier word → identifier_at word ≡ Some word
unfolding identifier_at
identifier_at_yes word n = rw (identifier_true word n) refl

pub identifier_at_no : (word : List ℕ) → (IsIdentifier word → ⊥) → identifier_at word ≡ None
unfolding identifier_at
identifier_at_no word n = rw (identifier_false word n) refl

pub identifier_gives : (word name : List ℕ) → identifier_at word ≡ Some name → (word ≡ name) × IsIdentifier name
unfolding identifier_at
identifier_gives word name e = if_some (is_identifier word) (Some word) name e (λ t s. let is = same word name s in (is, subst IsIdentifier is (identifier_from word t)))

pub identifier_plain : (name : List ℕ) → IsIdentifier name → NoSpace name
identifier_plain name n i h = λ is. let P : ℕ → Type 0 = λ b. is_identifier_byte b ≡ true in let t : is_identifier_byte 32 ≡ true = subst P is (n.each i 0 h) in cc

-- ## Numbers

own : IsNumeralModel (λ ds. (i : ℕ) → i < length ds → IsInRange 48 57 (get_or ds i 0)) (digits_value 10)
own = numerals_by_value _ tells_by_index

alone : (n : ℕ) → n < 2 ^ 64 → get_or (decimal n) 0 0 ≡ 48 → length (decimal n) ≡ 1
alone n h e = elim (cases_lt 0 n) [
  | inl low ↦ absurd (let l : 48 < get_or (decimal n) 0 0 = first_decimal n low h in omega (arith, l, e))
  | inr high ↦ ap length (decimal_digit n (omega arith))
]

pub decimal_is : (n : ℕ) → n < 2 ^ 64 → IsDecimal (decimal n)
decimal_is n h = record { some = decimal_nonempty n h; lead = alone n h; each = digits_decimal own n h }

pub decimal_plain : (n : ℕ) → n < 2 ^ 64 → NoSpace (decimal n)
decimal_plain n h i l = λ is. let r : IsInRange 48 57 (get_or (decimal n) i 0) = digits_decimal own n h i l in let low = r.0 in omega arith

digit_from : (c : ℕ) → IsInRange 48 57 c → is_ascii_digit c ≡ true
digit_from c r = and_from _ _ (le-leb _ _ r.0) (le-leb _ _ r.1)

digit_to : (c : ℕ) → is_ascii_digit c ≡ true → IsInRange 48 57 c
digit_to c e = let p = and_parts _ _ e in (leb-true _ _ p.0, leb-true _ _ p.1)

lead_true : (b n : ℕ) → (b ≡ 48 → n ≡ 1) → (not (b == 48) || n == 1) ≡ true
lead_true b n h = elim (cases_Bool (b == 48)) [
  | inl nought ↦ or_right _ _ (eq-eqb n 1 (h (eqb-true b 48 nought)))
  | inr other ↦ or_left _ _ (not_from_false _ other)
]

lead_from : (b n : ℕ) → (not (b == 48) || n == 1) ≡ true → b ≡ 48 → n ≡ 1
lead_from b n e z = elim (or_cases _ _ e) [
  | inl other ↦ absurd (eqb-false b 48 (not-true _ other) z)
  | inr one ↦ eqb-true n 1 one
]

pub decimal_true : (word : List ℕ) → IsDecimal word → is_decimal word ≡ true
unfolding is_decimal
decimal_true word d = and_from _ _ (lt-ltb _ _ d.some) (and_from _ _ (lead_true _ _ d.lead)
    (list_all-from_AllPass is_ascii_digit word (All-from_get_or (λ b. is_ascii_digit b ≡ true) word 0 (λ i l. digit_from _ (d.each i l)))))

pub decimal_from : (word : List ℕ) → is_decimal word ≡ true → IsDecimal word
unfolding is_decimal
decimal_from word e =
    let a = and_parts _ _ e in let b = and_parts _ _ a.1 in
    record { some = ltb-true _ _ a.0; lead = lead_from _ _ b.0; each = λ i l. digit_to _ (AllPass-from_list_all is_ascii_digit word b.1 i 0 l) }

value_back : (n : ℕ) → n < 2 ^ 64 → digits_value 10 (decimal n) ≡ n
value_back n h = digits_value-decimal own n h

pub decimal_at_yes : (n : ℕ) → n < 2 ^ 64 → decimal_at (decimal n) ≡ Some n
unfolding decimal_at
decimal_at_yes n h = rw (decimal_true (decimal n) (decimal_is n h), value_back n h, lt-ltb n (2 ^ 64) h) refl

pub decimal_at_no : (word : List ℕ) → (IsDecimal word → ⊥) → decimal_at word ≡ None
unfolding decimal_at
decimal_at_no word n = let f : is_decimal word ≡ false = false_from_ne_true _ (λ e. n (decimal_from word e)) in rw f refl

-- what `parse` tells
pub parsed : {E : Type 0} → (word : List ℕ) (r : Result ℕ E) → IsDecimal word → ParsesUnsigned 64 10 word r → MatchResult r (λ n. decimal_at word ≡ Some n) (λ e. decimal_at word ≡ None)
unfolding decimal_at
parsed {E = E} word (Ok n) d p =
    let r = parse_digits own {E = E} 64 word (Ok n) p d.each in
    rw (decimal_true word d, lt-ltb (digits_value 10 word) (2 ^ 64) r.0.1, r.1) refl
parsed {E = E} word (Err e) d p =
    let r = parse_digits own {E = E} 64 word (Err e) p d.each in
    let large : nat_lt (digits_value 10 word) (2 ^ 64) ≡ false = false_from_ne_true _ (λ t. r (d.some, ltb-true _ _ t)) in
    rw (decimal_true word d, large) refl

pub decimal_gives : (word : List ℕ) (n : ℕ) → decimal_at word ≡ Some n → (word ≡ decimal n) × (n < 2 ^ 64)
unfolding decimal_at
decimal_gives word n e = if_some (is_decimal word) _ n e (λ t s. if_some (nat_lt (digits_value 10 word) (2 ^ 64)) _ n s (λ below v.
    let d = decimal_from word t in
    let small : digits_value 10 word < 2 ^ 64 = ltb-true _ _ below in
    let is : digits_value 10 word ≡ n = same _ _ v in
    (sym (decimal-digits_value own word d.each d.some d.lead small) ∙ ap decimal is, rw (← is) small)))

pub number_at_yes : (least most n : ℕ) → least ≤ n → n ≤ most → most < 2 ^ 64 → number_at least most (decimal n) ≡ Some n
unfolding number_at
number_at_yes least most n low high m = rw (decimal_at_yes n (omega arith), le-leb least n low, le-leb n most high) refl

pub number_gives : (least most : ℕ) (word : List ℕ) (n : ℕ) → number_at least most word ≡ Some n → (word ≡ decimal n) × IsWithin least most n
unfolding number_at
number_gives least most word n e = then_some (decimal_at word) _ n e (λ m d s. if_some (nat_le least m) _ n s (λ low t. if_some (nat_le m most) _ n t (λ high v.
    let is : m ≡ n = same _ _ v in
    ((decimal_gives word m d).0 ∙ ap decimal is, record { low = rw (← is) (leb-true _ _ low); high = rw (← is) (leb-true _ _ high) }))))

pub small_at_yes : (n : ℕ) → IsSmall n → small_at (decimal n) ≡ Some n
unfolding small_at
small_at_yes n h = number_at_yes 0 999999999 n (omega arith) (omega arith) (omega arith)

pub small_gives : (word : List ℕ) (n : ℕ) → small_at word ≡ Some n → (word ≡ decimal n) × IsSmall n
unfolding small_at
small_gives word n e = let g = number_gives 0 999999999 word n e in let high : n ≤ 999999999 = g.1.high in (g.0, omega arith)

pub small_plain : (n : ℕ) → IsSmall n → NoSpace (decimal n)
small_plain n h = decimal_plain n (omega arith)

pub within_plain : (least most n : ℕ) → IsWithin least most n → most < 2 ^ 64 → NoSpace (decimal n)
within_plain least most n w m = decimal_plain n (let high = w.high in omega arith)

-- ## Signed numbers

pub order_from : (a b : ℤ) → int_le a b ≡ true → a ≤ℤ b
order_from a b e = grind (arith, ints)

pub order_true : (a b : ℤ) → a ≤ℤ b → int_le a b ≡ true
order_true a b h = grind (arith, ints)

no_sign : (n : ℕ) → n < 2 ^ 64 → (get_or (decimal n) 0 0 == 45) ≡ false
no_sign n h = ne_eqb _ 45 (λ is. let r : IsInRange 48 57 (get_or (decimal n) 0 0) = digits_decimal own n h 0 (decimal_nonempty n h) in let low = r.0 in omega arith)

pub signed_at_yes : (most : ℕ) (word : List ℕ) (z : ℤ) → most < 2 ^ 64 → IsSigned most word z → signed_at most word ≡ Some z
unfolding signed_at
signed_at_yes most word z m s = elim s.is [
  | inl plain ↦ rw (plain.0, plain.1, no_sign s.size (let low = s.low in omega arith), number_at_yes 0 most s.size (omega arith) s.low m) refl
  | inr minus ↦ rw (minus.0, minus.1, number_at_yes 0 most s.size (omega arith) s.low m) refl
]

begins : (word : List ℕ) (b : ℕ) → get_or word 0 0 ≡ b → b ≢ 0 → word ≡ b ∷ drop 1 word
begins [] b e n = absurd (n (sym e))
begins (x ∷ xs) b e n = ap (λ y. y ∷ xs) e

sign_step : (most : ℕ) (word : List ℕ) (z : ℤ) (t : Bool) → (get_or word 0 0 == 45) ≡ t →
    (if t then minus_at most (drop 1 word) else plus_at most word) ≡ Some z → IsSigned most word z
sign_step most word z true e r = then_some (number_at 0 most (drop 1 word)) _ z r (λ n d s.
    let g = number_gives 0 most (drop 1 word) n d in
    record { size = n; low = g.1.high; is = inr (begins word 45 (eqb-true _ 45 e) (λ z. omega arith) ∙ ap (λ w. 45 ∷ w) g.0, sym (same _ _ s)) })
sign_step most word z false e r = then_some (number_at 0 most word) _ z r (λ n d s.
    let g = number_gives 0 most word n d in
    record { size = n; low = g.1.high; is = inl (g.0, sym (same _ _ s)) })

pub signed_gives : (most : ℕ) (word : List ℕ) (z : ℤ) → signed_at most word ≡ Some z → IsSigned most word z
unfolding signed_at
signed_gives most word z e = sign_step most word z (get_or word 0 0 == 45) refl e

behind_sign : (digits : List ℕ) → NoSpace digits → NoSpace (45 ∷ digits)
behind_sign digits n zero l = λ is. omega arith
behind_sign digits n (suc i) l = n i (omega arith)

pub signed_plain : (most : ℕ) (word : List ℕ) (z : ℤ) → most < 2 ^ 64 → IsSigned most word z → NoSpace word
signed_plain most word z m s =
    let small : s.size < 2 ^ 64 = (let low = s.low in omega arith) in
    elim s.is [
      | inl plain ↦ subst NoSpace (sym plain.0) (decimal_plain s.size small)
      | inr minus ↦ subst NoSpace (sym minus.0) (behind_sign (decimal s.size) (decimal_plain s.size small))
    ]

-- what `strip_prefix` tells
pub stripped_some : (most : ℕ) (word digits : List ℕ) (r : Result ℤ Unread) → word ≡ 45 ∷ digits → Reads (λ z. z) r (minus_at most digits) → Reads (λ z. z) r (signed_at most word)
unfolding signed_at
stripped_some most word digits r e h = rw e h

pub stripped_none : (most : ℕ) (word : List ℕ) (r : Result ℤ Unread) → ((rest : List ℕ) → word ≢ 45 ∷ rest) → Reads (λ z. z) r (plus_at most word) → Reads (λ z. z) r (signed_at most word)
unfolding signed_at
stripped_none most word r none h =
    let other : (get_or word 0 0 == 45) ≡ false = false_from_ne_true _ (λ t. none (drop 1 word) (begins word 45 (eqb-true _ 45 t) (λ z. omega arith))) in
    rw other h

pub plus_is : (n : ℕ) → n ≤ 1000 → pos n ≡ to_z w32 n
plus_is n h = omega (arith, ints)

pub minus_is : (n : ℕ) → n ≤ 1000 → neg_ℤ (pos n) ≡ to_z w32 (of_z w32 (pos 0 -ℤ to_z w32 n))
minus_is n h = omega (arith, ints)

-- ## The rest of a line

pub rest_at_yes : (rest : List ℕ) → rest ≢ [] → rest_at rest ≡ Some rest
unfolding rest_at
rest_at_yes [] n = absurd (n refl)
rest_at_yes (b ∷ bytes) n = refl

pub rest_gives : (words rest : List ℕ) → rest_at words ≡ Some rest → (words ≡ rest) × (rest ≢ [])
unfolding rest_at
rest_gives [] rest e = cc
rest_gives (b ∷ bytes) rest e = let is : b ∷ bytes ≡ rest = same _ _ e in (is, λ none. let both : b ∷ bytes ≡ [] = is ∙ none in cc)

pub not_true : IsTrue false → ⊥
not_true h = cc
