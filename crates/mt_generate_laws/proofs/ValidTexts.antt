-- What is generated is a valid text.
use Rattle.std.proofs.Common.{◌≡◌, ◌≢◌, ℕ, zero, suc, length-append, ◌+◌, ◌*◌, ◌%◌, ◌^◌, ◌<◌, ◌≤◌, inl, inr, Bool, true, false, List, [], ◌∷◌, length, map, get_or, codes, decimal, refl, sym, subst, arith}
use Rattle.std.specs.List.{All, AllPairs, range_with_len}
use Rattle.std.specs.Str.{IsAscii}
use Rattle.std.proofs.lemmas.Fmt.{decimal_by_steps, length-decimal-le}
use Rattle.std.proofs.lemmas.Str.{IsUtf8-from_ascii}
use Rattle.std.proofs.lemmas.List.Elements.{All-nil, All-cons, All-tail, All-append, All-weaker}
use Rattle.std.proofs.lemmas.List.Kept.{AllPairs-cons}
use Rattle.std.proofs.lemmas.List.FromFn.{get_or-map-range_with_len, length-map-range_with_len}
use Rattle.mt_text_spec.specs.Words.{IsName, is_name_byte}
use Rattle.mt_text_spec.specs.Registries.{standard_registry}
use Rattle.mt_text_spec.specs.Texts.{ValidValue, ValidToken, ValidStructSpan, ComesBefore, ValidText, text_tokens_limit}
use Rattle.mt_generate_spec.specs.Draws.{draw}
use Rattle.mt_generate_spec.specs.Generated.{rank_of, lemma_of, tag_of, word_of, token_of, token_at, sentence_count, sentence, document, generated_text}

-- ## Values

-- a byte that is seen when it is printed
abbrev pub IsSeen : ℕ → Type 0
IsSeen b = (32 < b) × (b < 128)

pub one_seen : (b : ℕ) → IsSeen b → All IsSeen (b ∷ [])
one_seen b h = All-cons IsSeen b [] h (All-nil IsSeen)

pub ascii : (bytes : List ℕ) → All IsSeen bytes → IsAscii bytes
ascii [] seen i = omega arith
ascii (b ∷ bytes) seen zero = (seen 0 0 (omega arith)).1
ascii (b ∷ bytes) seen (suc i) = ascii bytes (All-tail IsSeen b bytes seen) i

valid_value : (bytes : List ℕ) → All IsSeen bytes → length bytes ≤ 1024 → ValidValue bytes
valid_value bytes seen short = record {
  text = IsUtf8-from_ascii bytes (ascii bytes seen);
  short = short;
  plain = All-weaker IsSeen (λ b. (b ≢ 10) × (b ≢ 9)) (λ b h. ((λ e. absurd (omega (arith, e, h.0))), (λ e. absurd (omega (arith, e, h.0))))) bytes seen;
}

pub digits_seen : (n : ℕ) → n < 2 ^ 64 → All IsSeen (decimal n)
digits_seen = decimal_by_steps (λ n ds. All IsSeen ds) (λ n h. one_seen (48 + n) (omega arith, omega arith))
    (λ n ds h before. All-append IsSeen ds ((48 + n % 10) ∷ []) before (one_seen (48 + n % 10) (omega arith, omega arith)))

pub rank_small : (a b : ℕ) → rank_of a b < 1000
rank_small a b = grind arith

pub lemma_seen : (rank : ℕ) → rank < 1000 → All IsSeen (lemma_of rank)
lemma_seen rank h = All-cons IsSeen 108 (decimal rank) (omega arith, omega arith) (digits_seen rank (omega arith))

pub lemma_short : (rank : ℕ) → rank < 1000 → length (lemma_of rank) ≤ 4
lemma_short rank h = omega (arith, length-decimal-le 3 rank (omega arith) (omega arith) (omega arith))

word_valid : (rank : ℕ) (plural : Bool) → rank < 1000 → ValidValue (word_of rank plural)
word_valid rank true h = valid_value (word_of rank true) (All-append IsSeen (lemma_of rank) (codes "s") (lemma_seen rank h) (one_seen 115 (omega arith, omega arith))) (omega (arith, length-append (lemma_of rank) (codes "s"), lemma_short rank h))
word_valid rank false h = valid_value (word_of rank false) (All-append IsSeen (lemma_of rank) [] (lemma_seen rank h) (All-nil IsSeen)) (omega (arith, length-append (lemma_of rank) [], lemma_short rank h))

one_letter : (b : ℕ) → IsSeen b → ValidValue (b ∷ [])
one_letter b h = valid_value (b ∷ []) (one_seen b h) (omega arith)

of_four : (n : ℕ) → n < 4 → ValidValue (get_or (codes "NJVD") n 0 ∷ [])
of_four zero h = one_letter 78 (omega arith, omega arith)
of_four (suc zero) h = one_letter 74 (omega arith, omega arith)
of_four (suc (suc zero)) h = one_letter 86 (omega arith, omega arith)
of_four (suc (suc (suc zero))) h = one_letter 68 (omega arith, omega arith)
of_four (suc (suc (suc (suc n)))) h = absurd (omega arith)

tag_valid : (rank : ℕ) → ValidValue (tag_of rank)
tag_valid rank = of_four (rank % 4) (omega arith)

token_valid : (rank : ℕ) (plural : Bool) → rank < 1000 → ValidToken standard_registry (token_of rank plural)
token_valid rank plural h = record {
  count = refl;
  each = All-cons ValidValue (word_of rank plural) (tag_of rank ∷ lemma_of rank ∷ []) (word_valid rank plural h)
      (All-cons ValidValue (tag_of rank) (lemma_of rank ∷ []) (tag_valid rank)
      (All-cons ValidValue (lemma_of rank) [] (valid_value (lemma_of rank) (lemma_seen rank h) (omega (arith, lemma_short rank h))) (All-nil ValidValue)));
}

token_at_valid : (seed place : ℕ) → ValidToken standard_registry (token_at seed place)
unfolding token_at
token_at_valid seed place = token_valid _ _ (rank_small (draw seed (3 * place)) (draw seed (3 * place + 1)))

name_valid : (name : List ℕ) → IsName name → ValidValue name
name_valid name is = valid_value name (All-weaker (λ b. is_name_byte b ≡ true) IsSeen seen name is.each) (omega (arith, is.short))
  where
    seen : (b : ℕ) → is_name_byte b ≡ true → IsSeen b
    seen b h = (grind arith, grind arith)

-- ## Lists made of numbers

made_each : {X : Type 0} (P : X → Type 0) (f : ℕ → X) (count : ℕ) → ((n : ℕ) → n < count → P (f n)) → All P (map f (range_with_len 0 count))
made_each P f count each k d low =
    let inside : k < count = subst (λ n. k < n) (length-map-range_with_len f 0 count) low in
    let e : 0 + k ≡ k = omega arith in
    subst P (sym (get_or-map-range_with_len f 0 count k k d inside e)) (each k inside)

made_pairs : {X : Type 0} (R : X → X → Type 0) (f : ℕ → X) (count : ℕ) → ((m n : ℕ) → m < n → R (f m) (f n)) → AllPairs R (map f (range_with_len 0 count))
made_pairs R f count pairs i j d before low =
    let inside : j < count = subst (λ n. j < n) (length-map-range_with_len f 0 count) low in
    let first : i < count = omega arith in
    let ei : 0 + i ≡ i = omega arith in
    let ej : 0 + j ≡ j = omega arith in
    subst (λ x. R x (get_or (map f (range_with_len 0 count)) j d)) (sym (get_or-map-range_with_len f 0 count i i d first ei)) (subst (R (f i)) (sym (get_or-map-range_with_len f 0 count j j d inside ej)) (pairs i j before))

-- ## Structures

document_valid : (name : List ℕ) (tokens : ℕ) → IsName name → ValidStructSpan standard_registry tokens (document name tokens)
document_valid name tokens is = record {
  kind = record { name = codes "doc"; attrs = codes "id" ∷ [] };
  declared = refl;
  order = omega arith;
  inside = omega arith;
  count = refl;
  each = All-cons ValidValue name [] (name_valid name is) (All-nil ValidValue);
}

sentence_valid : (tokens number : ℕ) → number < sentence_count tokens → ValidStructSpan standard_registry tokens (sentence tokens number)
sentence_valid tokens number low = record {
  kind = record { name = codes "s"; attrs = [] };
  declared = refl;
  order = omega arith;
  inside = omega arith;
  count = refl;
  each = All-nil ValidValue;
}

in_order : (tokens m n : ℕ) → m < n → ComesBefore (sentence tokens m) (sentence tokens n)
in_order tokens m n before = inr (refl, omega arith)

pub valid_text : (name : List ℕ) (seed tokens : ℕ) → IsName name → tokens ≤ text_tokens_limit → ValidText standard_registry (generated_text name seed tokens)
valid_text name seed tokens is few =
    let sentences = map (sentence tokens) (range_with_len 0 (sentence_count tokens)) in
    let many : length (map (token_at seed) (range_with_len 0 tokens)) ≡ tokens = length-map-range_with_len (token_at seed) 0 tokens in
    let structs : All (ValidStructSpan standard_registry tokens) (document name tokens ∷ sentences) = All-cons (ValidStructSpan standard_registry tokens) (document name tokens) sentences (document_valid name tokens is)
    (made_each (ValidStructSpan standard_registry tokens) (sentence tokens) (sentence_count tokens) (sentence_valid tokens)) in
    record {
      named = is;
      short = subst (λ n. n ≤ text_tokens_limit) (sym many) few;
      tokens = made_each (ValidToken standard_registry) (token_at seed) tokens (λ n h. token_at_valid seed n);
      structs = subst (λ n. All (ValidStructSpan standard_registry n) (document name tokens ∷ sentences)) (sym many) structs;
      ordered = AllPairs-cons ComesBefore (document name tokens) sentences (made_each (ComesBefore (document name tokens)) (sentence tokens) (sentence_count tokens) (λ n h. inl (omega arith)))
          (made_pairs ComesBefore (sentence tokens) (sentence_count tokens) (in_order tokens));
    }
