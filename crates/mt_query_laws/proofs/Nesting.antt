-- How deep a text nests is how deep its tokens do.
use Rattle.std.proofs.Common.{ℕ, zero, suc, ◌+◌, ◌-◌, ◌≡◌, ◌<◌, Bool, true, false, List, [], ◌∷◌, ◌++◌, None, Some, Option, Ok, Err, refl, ◌∙◌, ap, arith, take, nat_lt, subst}
use Rattle.std.specs.Prelude.{cond, ◌==◌, ◌&&◌, max, slice_index}
use Rattle.std.specs.List.{prefix_len}
use Rattle.std.specs.Char.{is_ascii_digit}
use Rattle.std.specs.Option.{option_map}
use Rattle.std.proofs.lemmas.Bool.{eqb-true}
use Rattle.std.proofs.lemmas.Bool.Decides.{nat_tests}
use Rattle.mt_text_spec.specs.Words.{is_identifier_start, is_identifier_byte}
use Rattle.mt_query_spec.specs.Tokens.{Token, Quoted, Number, Word, OpenCurly, Mark, Sign, Unlexed, NoToken, NoEnd, Nesting, nested, nesting_from, deepest, tokens_from, tokens_of, lexeme, string_length, decimal_value}
use Rattle.mt_query_spec.specs.Tokens as t
use Rattle.mt_query_spec.specs.Verdicts.{plain}
use Rattle.mt_query_laws.proofs.SoundTokens.{shorter, never_zero, passes_prefix}
use Rattle.mt_query_laws.proofs.Lexing.{Passes}

-- outside strings, inside one
abbrev pub outside : ℕ → ℕ → Nesting
outside opened most = record { opened = opened; most = most; in_string = false; taken = false }

abbrev pub inside : ℕ → ℕ → Bool → Nesting
inside opened most taken = record { opened = opened; most = most; in_string = true; taken = taken }

abbrev pub opened_by : ℕ → Token → ℕ
opened_by o (Mark t.OpenRound) = o + 1
opened_by o (Mark t.CloseRound) = o - 1
opened_by o _ = o

abbrev pub most_by : ℕ → ℕ → Token → ℕ
most_by o m (Mark t.OpenRound) = max m (o + 1)
most_by o m _ = m

-- behind some tokens
abbrev pub nesting_of : ℕ → ℕ → List Token → Nesting
nesting_of o m [] = outside o m
nesting_of o m (token ∷ tokens) = nesting_of (opened_by o token) (most_by o m token) tokens

-- ## Bytes that change nothing

abbrev pub Flat : ℕ → Type 0
Flat b = (o m : ℕ) → nested (outside o m) b ≡ outside o m

pub flat : (b : ℕ) → (b == 34) ≡ false → (b == 40) ≡ false → (b == 41) ≡ false → Flat b
flat b p q r o m = rw (p, q, r) refl

pub blank_flat : (b : ℕ) → t.is_blank b ≡ true → Flat b
blank_flat b h = flat b (grind (arith, nat_tests)) (grind (arith, nat_tests)) (grind (arith, nat_tests))

pub digit_flat : (b : ℕ) → is_ascii_digit b ≡ true → Flat b
digit_flat b h = flat b (grind (arith, nat_tests)) (grind (arith, nat_tests)) (grind (arith, nat_tests))

pub word_flat : (b : ℕ) → is_identifier_byte b ≡ true → Flat b
word_flat b h = flat b (grind (arith, nat_tests)) (grind (arith, nat_tests)) (grind (arith, nat_tests))

pub start_flat : (b : ℕ) → is_identifier_start b ≡ true → Flat b
start_flat b h = flat b (grind (arith, nat_tests)) (grind (arith, nat_tests)) (grind (arith, nat_tests))

pub all_flat : (P : ℕ → Bool) → ((b : ℕ) → P b ≡ true → Flat b) → (bytes : List ℕ) → Passes P bytes → (o m : ℕ) (rest : List ℕ)
    → nesting_from (outside o m) (bytes ++ rest) ≡ nesting_from (outside o m) rest
all_flat P f [] h o m rest = refl
all_flat P f (b ∷ bytes) h o m rest = ap (λ s. nesting_from s (bytes ++ rest)) (f b h.0 o m) ∙ all_flat P f bytes h.1 o m rest

front_flat : (P : ℕ → Bool) → ((b : ℕ) → P b ≡ true → Flat b) → (bytes : List ℕ) → Passes P bytes → (o m : ℕ) → nesting_from (outside o m) bytes ≡ outside o m
front_flat P f [] h o m = refl
front_flat P f (b ∷ bytes) h o m = ap (λ s. nesting_from s bytes) (f b h.0 o m) ∙ front_flat P f bytes h.1 o m

-- ## Strings

pub string_nests : (taken : Bool) (rest : List ℕ) (n o m : ℕ) → string_length taken rest ≡ Some n → nesting_from (inside o m taken) (take (suc n) rest) ≡ outside o m
string_nests taken [] n o m h = cc
string_nests true (b ∷ rest) zero o m h = absurd (never_zero (string_length false rest) h)
string_nests true (b ∷ rest) (suc n) o m h = string_nests false rest n o m (shorter (string_length false rest) n h)
string_nests false (b ∷ rest) zero o m h = go (b == 34) refl h
  where
    go : (q : Bool) → (b == 34) ≡ q → cond q (Some 0) (option_map suc (string_length (b == 92) rest)) ≡ Some 0 → nested (inside o m false) b ≡ outside o m
    go true e h = let k : b ≡ 34 = eqb-true b 34 e in ap (nested (inside o m false)) k
    go false e h = absurd (never_zero (string_length (b == 92) rest) h)
string_nests false (b ∷ rest) (suc n) o m h = go (b == 34) refl h (λ k. string_nests (b == 92) rest n o m k)
  where
    go : (q : Bool) → (b == 34) ≡ q → cond q (Some 0) (option_map suc (string_length (b == 92) rest)) ≡ Some (suc n)
        → (string_length (b == 92) rest ≡ Some n → nesting_from (inside o m (b == 92)) (take (suc n) rest) ≡ outside o m)
        → nesting_from (nested (inside o m false) b) (take (suc n) rest) ≡ outside o m
    go true e h k = let z : 0 ≡ suc n = cc in absurd (omega arith)
    go false e h k = rw e (k (shorter (string_length (b == 92) rest) n h))

-- ## Signs

-- a byte nests as its sign does
abbrev NestsAs : ℕ → Sign → Type 0
NestsAs b sign = (o m : ℕ) → nested (outside o m) b ≡ outside (opened_by o (Mark sign)) (most_by o m (Mark sign))

one_sign : (b k : ℕ) (s sign : Sign) (others : Option Sign) → NestsAs k s → (others ≡ Some sign → NestsAs b sign) → cond (b == k) (Some s) others ≡ Some sign → NestsAs b sign
one_sign b k s sign others h later e = go (b == k) refl e
  where
    go : (q : Bool) → (b == k) ≡ q → cond q (Some s) others ≡ Some sign → NestsAs b sign
    go true e h' o m = let a : s ≡ sign = cc in ap (nested (outside o m)) (eqb-true b k e) ∙ h o m ∙ ap (λ x. outside (opened_by o (Mark x)) (most_by o m (Mark x))) a
    go false e h' o m = later h' o m

sign_nests : (b : ℕ) (sign : Sign) → t.sign_of b ≡ Some sign → NestsAs b sign
sign_nests b sign =
    one_sign b 61 t.Is sign _ (λ o m. refl) (one_sign b 33 t.Bang sign _ (λ o m. refl) (one_sign b 60 t.TagBegin sign _ (λ o m. refl) (one_sign b 62 t.TagEnd sign _ (λ o m. refl)
    (one_sign b 91 t.OpenSquare sign _ (λ o m. refl) (one_sign b 93 t.CloseSquare sign _ (λ o m. refl) (one_sign b 40 t.OpenRound sign _ (λ o m. refl)
    (one_sign b 41 t.CloseRound sign _ (λ o m. refl) (one_sign b 125 t.CloseCurly sign _ (λ o m. refl) (one_sign b 44 t.Comma sign _ (λ o m. refl) (one_sign b 58 t.Colon sign _ (λ o m. refl)
    (one_sign b 46 t.Dot sign _ (λ o m. refl) (one_sign b 124 t.Bar sign _ (λ o m. refl) (one_sign b 38 t.And sign _ (λ o m. refl) (one_sign b 42 t.Star sign _ (λ o m. refl)
    (one_sign b 43 t.Plus sign _ (λ o m. refl) (one_sign b 63 t.Question sign _ (λ o m. refl) (λ e. cc)))))))))))))))))

-- what a lexeme's bytes change is what its token changes
abbrev LexemeNests : ℕ → List ℕ → Token × ℕ → Type 0
LexemeNests b rest found = (o m : ℕ) → nesting_from (nested (outside o m) b) (take found.1 rest) ≡ outside (opened_by o found.0) (most_by o m found.0)

both_are : (b k c l : ℕ) → (b == k && c == l) ≡ true → (b ≡ k) × (c ≡ l)
both_are b k c l h = go (b == k) refl h
  where
    go : (q : Bool) → (b == k) ≡ q → (q && c == l) ≡ true → (b ≡ k) × (c ≡ l)
    go true e f = (eqb-true b k e, eqb-true c l f)
    go false e f = cc

one_more : (b k l : ℕ) (rest : List ℕ) → (b ≡ k) × (slice_index rest 0 ≡ l) → 0 < l → Flat k → Flat l → (o m : ℕ) → nesting_from (nested (outside o m) b) (take 1 rest) ≡ outside o m
one_more b k l [] h p f g o m = let z : 0 ≡ l = h.1 in absurd (omega arith)
one_more b k l (c ∷ rest) h p f g o m = ap (λ x. nested (nested (outside o m) x) c) h.0 ∙ ap (λ s. nested s c) (f o m) ∙ ap (nested (outside o m)) h.1 ∙ g o m

two_more : (b : ℕ) (rest : List ℕ) → (b ≡ 33) × (slice_index rest 0 ≡ 61) → slice_index rest 1 ≡ 61 → (o m : ℕ) → nesting_from (nested (outside o m) b) (take 2 rest) ≡ outside o m
two_more b [] h k o m = absurd (omega (arith, h.1))
two_more b (c ∷ []) h k o m = absurd (omega (arith, k))
two_more b (c ∷ d ∷ rest) h k o m = rw (h.0, h.1, k) refl

long_nests : (b : ℕ) (rest : List ℕ) (found : Sign × ℕ) → t.long_sign b rest ≡ Some found → LexemeNests b rest (Mark found.0, found.1)
long_nests b rest found h =
    go (b == 33 && slice_index rest 0 == 61) refl (slice_index rest 1 == 61) refl (b == 61 && slice_index rest 0 == 61) refl (b == 60 && slice_index rest 0 == 47) refl
    (b == 47 && slice_index rest 0 == 62) refl h
  where
    is : (f : Sign × ℕ) → ◌≡◌ {A = Option (Sign × ℕ)} (Some f) (Some found) → LexemeNests b rest (Mark f.0, f.1) → LexemeNests b rest (Mark found.0, found.1)
    is f e n = let k : ◌≡◌ {A = Sign × ℕ} f found = cc in subst (λ (x : Sign × ℕ). LexemeNests b rest (Mark x.0, x.1)) k n

    go : (p : Bool) → (b == 33 && slice_index rest 0 == 61) ≡ p → (q : Bool) → (slice_index rest 1 == 61) ≡ q → (r : Bool) → (b == 61 && slice_index rest 0 == 61) ≡ r
        → (s : Bool) → (b == 60 && slice_index rest 0 == 47) ≡ s → (u : Bool) → (b == 47 && slice_index rest 0 == 62) ≡ u
        → cond p (cond q (Some (t.Differs, 2)) (Some (t.IsNot, 1))) (cond r (Some (t.Same, 1)) (cond s (Some (t.ClosingTag, 1)) (cond u (Some (t.WholeEnd, 1)) None))) ≡ Some found
        → LexemeNests b rest (Mark found.0, found.1)
    go true e true f r g s i u j h = is (t.Differs, 2) h (two_more b rest (both_are b 33 (slice_index rest 0) 61 e) (eqb-true (slice_index rest 1) 61 f))
    go true e false f r g s i u j h = is (t.IsNot, 1) h (one_more b 33 61 rest (both_are b 33 (slice_index rest 0) 61 e) (omega arith) (λ o m. refl) (λ o m. refl))
    go false e q f true g s i u j h = is (t.Same, 1) h (one_more b 61 61 rest (both_are b 61 (slice_index rest 0) 61 g) (omega arith) (λ o m. refl) (λ o m. refl))
    go false e q f false g true i u j h = is (t.ClosingTag, 1) h (one_more b 60 47 rest (both_are b 60 (slice_index rest 0) 47 i) (omega arith) (λ o m. refl) (λ o m. refl))
    go false e q f false g false i true j h = is (t.WholeEnd, 1) h (one_more b 47 62 rest (both_are b 47 (slice_index rest 0) 62 j) (omega arith) (λ o m. refl) (λ o m. refl))
    go false e q f false g false i false j h = cc

sign_at_nests : (at b : ℕ) (rest : List ℕ) (found : Token × ℕ) → t.sign_at at b rest ≡ Ok found → LexemeNests b rest found
sign_at_nests at b rest found h = go (b == 123) refl (t.long_sign b rest) refl (t.sign_of b) refl h
  where
    is : (f : Token × ℕ) → ◌≡◌ {A = t.Lexeme} (Ok f) (Ok found) → LexemeNests b rest f → LexemeNests b rest found
    is f e n = let k : ◌≡◌ {A = Token × ℕ} f found = cc in subst (LexemeNests b rest) k n

    go : (q : Bool) → (b == 123) ≡ q → (long : Option (Sign × ℕ)) → t.long_sign b rest ≡ long → (short : Option Sign) → t.sign_of b ≡ short
        → ◌≡◌ {A = t.Lexeme} (cond q (Ok (OpenCurly at, 0)) (elim long [
          | Some f ↦ Ok (Mark f.0, f.1)
          | None ↦ elim short [ Some sign ↦ Ok (Mark sign, 0) | None ↦ Err NoToken ]
        ])) (Ok found) → LexemeNests b rest found
    go true e long l short s h = is (OpenCurly at, 0) h (λ o m. ap (nested (outside o m)) (eqb-true b 123 e))
    go false e (Some f) l short s h = is (Mark f.0, f.1) h (long_nests b rest f l)
    go false e None l (Some sign) s h = is (Mark sign, 0) h (sign_nests b sign s)
    go false e None l None s h = cc

number_nests : (at b : ℕ) (rest : List ℕ) (found : Token × ℕ) → is_ascii_digit b ≡ true → t.number_at at b rest ≡ Ok found → LexemeNests b rest found
number_nests at b rest found d h = go (nat_lt (prefix_len is_ascii_digit rest) 9) h
  where
    go : (q : Bool)
        → ◌≡◌ {A = t.Lexeme} (cond q (Ok (Number at (decimal_value 0 (b ∷ take (prefix_len is_ascii_digit rest) rest)), prefix_len is_ascii_digit rest)) (Err NoToken)) (Ok found)
        → LexemeNests b rest found
    go true h =
        let k : ◌≡◌ {A = Token × ℕ} (Number at (decimal_value 0 (b ∷ take (prefix_len is_ascii_digit rest) rest)), prefix_len is_ascii_digit rest) found = cc in
        subst (LexemeNests b rest) k (λ o m.
        ap (λ s. nesting_from s (take (prefix_len is_ascii_digit rest) rest)) (digit_flat b d o m)
        ∙ front_flat is_ascii_digit digit_flat (take (prefix_len is_ascii_digit rest) rest) (passes_prefix is_ascii_digit rest) o m)
    go false h = cc

word_nests : (at b : ℕ) (rest : List ℕ) (found : Token × ℕ) → is_identifier_start b ≡ true → t.word_at at b rest ≡ Ok found → LexemeNests b rest found
word_nests at b rest found d h = go (nat_lt (prefix_len is_identifier_byte rest) 64) h
  where
    go : (q : Bool) → ◌≡◌ {A = t.Lexeme} (cond q (Ok (Word at (b ∷ take (prefix_len is_identifier_byte rest) rest), prefix_len is_identifier_byte rest)) (Err NoToken)) (Ok found)
        → LexemeNests b rest found
    go true h =
        let k : ◌≡◌ {A = Token × ℕ} (Word at (b ∷ take (prefix_len is_identifier_byte rest) rest), prefix_len is_identifier_byte rest) found = cc in
        subst (LexemeNests b rest) k (λ o m.
        ap (λ s. nesting_from s (take (prefix_len is_identifier_byte rest) rest)) (start_flat b d o m)
        ∙ front_flat is_identifier_byte word_flat (take (prefix_len is_identifier_byte rest) rest) (passes_prefix is_identifier_byte rest) o m)
    go false h = cc

string_at_nests : (b : ℕ) (rest : List ℕ) (found : Token × ℕ) → (b == 34) ≡ true → t.string_at rest ≡ Ok found → LexemeNests b rest found
string_at_nests b rest found q h = go (string_length false rest) refl h
  where
    go : (l : Option ℕ) → string_length false rest ≡ l → ◌≡◌ {A = t.Lexeme} (elim l [ Some n ↦ Ok (Quoted (take n rest), suc n) | None ↦ Err NoEnd ]) (Ok found) → LexemeNests b rest found
    go None e h = cc
    go (Some n) e h =
        let k : ◌≡◌ {A = Token × ℕ} (Quoted (take n rest), suc n) found = cc in
        subst (LexemeNests b rest) k (λ o m. ap (λ x. nesting_from (nested (outside o m) x) (take (suc n) rest)) (eqb-true b 34 q) ∙ string_nests false rest n o m e)

lexeme_nests : (at b : ℕ) (rest : List ℕ) (found : Token × ℕ) → lexeme at b rest ≡ Ok found → LexemeNests b rest found
unfolding lexeme
lexeme_nests at b rest found h = go (b == 34) refl (is_ascii_digit b) refl (is_identifier_start b) refl h
  where
    go : (q : Bool) → (b == 34) ≡ q → (d : Bool) → is_ascii_digit b ≡ d → (w : Bool) → is_identifier_start b ≡ w
        → cond q (t.string_at rest) (cond d (t.number_at at b rest) (cond w (t.word_at at b rest) (t.sign_at at b rest))) ≡ Ok found → LexemeNests b rest found
    go true a d e w f h = string_at_nests b rest found a h
    go false a true e w f h = number_nests at b rest found e h
    go false a false e true f h = word_nests at b rest found f h
    go false a false e false f h = sign_at_nests at b rest found h

-- ## Texts

nests_from : (text : List ℕ) (at within : ℕ) (s : Nesting) (o m : ℕ) → (tokens_from at within text).stop ≡ None → nesting_from s (take within text) ≡ outside o m
    → nesting_from s text ≡ nesting_of o m (plain (tokens_from at within text).tokens)
unfolding tokens_from
nests_from [] at zero s o m h e = e
nests_from [] at (suc within) s o m h e = e
nests_from (b ∷ rest) at (suc within) s o m h e = nests_from rest (suc at) within (nested s b) o m h e
nests_from (b ∷ rest) at zero s o m h e =
    ap (λ x. nesting_from (nested x b) rest) e ∙ go (t.is_blank b) refl (lexeme at b rest) refl h (λ k x. nests_from rest (suc at) zero (nested (outside o m) b) o m x k)
    (λ n p r k x. nests_from rest (suc at) n (nested (outside o m) b) p r x k)
  where
    go : (q : Bool) → t.is_blank b ≡ q → (found : t.Lexeme) → lexeme at b rest ≡ found
        → (cond q (tokens_from (suc at) zero rest) (elim found [
          | Ok f ↦ t.preceded (at, f.0) (tokens_from (suc at) f.1 rest)
          | Err why ↦ record { tokens = []; stop = Some (at, why) }
        ])).stop ≡ None
        → (nested (outside o m) b ≡ outside o m → (tokens_from (suc at) zero rest).stop ≡ None
        → nesting_from (nested (outside o m) b) rest ≡ nesting_of o m (plain (tokens_from (suc at) zero rest).tokens))
        → ((n p r : ℕ) → nesting_from (nested (outside o m) b) (take n rest) ≡ outside p r → (tokens_from (suc at) n rest).stop ≡ None
        → nesting_from (nested (outside o m) b) rest ≡ nesting_of p r (plain (tokens_from (suc at) n rest).tokens))
        → nesting_from (nested (outside o m) b) rest ≡ nesting_of o m (plain (cond q (tokens_from (suc at) zero rest) (elim found [
          | Ok f ↦ t.preceded (at, f.0) (tokens_from (suc at) f.1 rest)
          | Err why ↦ record { tokens = []; stop = Some (at, why) }
        ])).tokens)
    go true a found l h k again = k (blank_flat b a o m) h
    go false a (Ok f) l h k again = again f.1 (opened_by o f.0) (most_by o m f.0) (lexeme_nests at b rest f l o m) h
    go false a (Err why) l h k again = cc

-- how deep a text nests that is all tokens
pub deepest_of : (text : List ℕ) → (tokens_of text).stop ≡ None → deepest text ≡ (nesting_of 0 0 (plain (tokens_of text).tokens)).most
deepest_of text h = ap (λ (s : Nesting). s.most) (nests_from text 0 0 (outside 0 0) 0 0 h refl)
