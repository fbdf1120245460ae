-- Where a token ends in its text, and the tokens behind it.
use Rattle.std.proofs.Common.{ℕ, zero, suc, ◌+◌, ◌≡◌, ◌<◌, ◌≤◌, Bool, true, false, List, [], ◌∷◌, None, Some, Option, Ok, Err, refl, sym, ◌∙◌, ap, subst, arith, length, drop, take, get_or}
use Rattle.std.specs.Prelude.{cond, nat_lt, slice_index, ◌==◌, ◌&&◌}
use Rattle.std.specs.List.{prefix_len}
use Rattle.std.specs.Char.{is_ascii_digit}
use Rattle.std.proofs.lemmas.Bool.{eqb-true}
use Rattle.std.proofs.lemmas.List.Sums.{prefix_len_passes, prefix_len-le-length}
use Rattle.mt_text_spec.specs.Words.{is_identifier_start, is_identifier_byte}
use Rattle.mt_query_spec.specs.Tokens.{Token, Quoted, Number, Word, OpenCurly, Mark, Sign, Lexeme, NoEnd, NoToken, string_length, decimal_value, sign_of, long_sign, sign_at, string_at, number_at, word_at, lexeme, tokens_from}
use Rattle.mt_query_spec.specs.Tokens as t
use Rattle.mt_cql.proofs.Strings.{string_ends}
use Rattle.mt_cql.proofs.Words.{LastOf, digit_range, word_ascii, start_ascii}

-- ## The last byte of a token is ASCII

either_way : {P A : Type 0} (c : Bool) (x y f : A) → (c ≡ true → x ≡ f → P) → (c ≡ false → y ≡ f → P) → cond c x y ≡ f → P
either_way true x y f first other h = first refl h
either_way false x y f first other h = other refl h

second_true : (a b : Bool) → (a && b) ≡ true → b ≡ true
second_true true b h = h
second_true false b h = cc

at_first : (b n : ℕ) (rest : List ℕ) → b < 128 → n ≡ 0 → LastOf (b ∷ rest) n
at_first b n rest a z = subst (λ k. LastOf (b ∷ rest) k) (sym z) (record { within = omega arith; ascii = a })

-- a byte that is there, and is ASCII
seen_at : (b k : ℕ) (rest : List ℕ) (i n : ℕ) → 0 < k → k < 128 → get_or rest i 0 ≡ k → n ≡ suc i → LastOf (b ∷ rest) n
seen_at b k rest i n some a e z = subst (λ m. LastOf (b ∷ rest) m) (sym z) (record { within = within rest i e; ascii = omega (arith, e, a) })
  where
    within : (rest : List ℕ) (i : ℕ) → get_or rest i 0 ≡ k → suc i < suc (length rest)
    within [] i e = absurd (omega (arith, some, e))
    within (c ∷ rest) zero e = omega arith
    within (c ∷ rest) (suc i) e = let w = within rest i e in omega (arith, w)

byte_or : (b k : ℕ) (s : Sign) (others found : Option Sign) → k < 128 → (others ≡ found → b < 128) → cond (b == k) (Some s) others ≡ found → b < 128
byte_or b k s others found a again h = either_way (b == k) (Some s) others found (λ e x. let q : b ≡ k = eqb-true b k e in omega (arith, q, a)) (λ e x. again x) h

sign_ascii : (b : ℕ) (s : Sign) → sign_of b ≡ Some s → b < 128
sign_ascii b s = byte_or b 61 t.Is _ (Some s) (omega arith) (byte_or b 33 t.Bang _ (Some s) (omega arith) (byte_or b 60 t.TagBegin _ (Some s) (omega arith)
    (byte_or b 62 t.TagEnd _ (Some s) (omega arith) (byte_or b 91 t.OpenSquare _ (Some s) (omega arith) (byte_or b 93 t.CloseSquare _ (Some s) (omega arith)
    (byte_or b 40 t.OpenRound _ (Some s) (omega arith) (byte_or b 41 t.CloseRound _ (Some s) (omega arith) (byte_or b 125 t.CloseCurly _ (Some s) (omega arith)
    (byte_or b 44 t.Comma _ (Some s) (omega arith) (byte_or b 58 t.Colon _ (Some s) (omega arith) (byte_or b 46 t.Dot _ (Some s) (omega arith)
    (byte_or b 124 t.Bar _ (Some s) (omega arith) (byte_or b 38 t.And _ (Some s) (omega arith) (byte_or b 42 t.Star _ (Some s) (omega arith)
    (byte_or b 43 t.Plus _ (Some s) (omega arith) (byte_or b 63 t.Question None (Some s) (omega arith) (λ h. cc)))))))))))))))))

long_last : (b : ℕ) (rest : List ℕ) (found : Sign × ℕ) → long_sign b rest ≡ Some found → LastOf (b ∷ rest) found.1
long_last b rest found h =
    either_way (b == 33 && slice_index rest 0 == 61) (cond (slice_index rest 1 == 61) (Some (t.Differs, 2)) (Some (t.IsNot, 1))) _ (Some found)
    (λ e x. either_way (slice_index rest 1 == 61) (Some (t.Differs, 2)) (Some (t.IsNot, 1)) (Some found)
    (λ d y. let z : 2 ≡ found.1 = cc in seen_at b 61 rest 1 found.1 (omega arith) (omega arith) (eqb-true (slice_index rest 1) 61 d) (sym z))
    (λ d y. let z : 1 ≡ found.1 = cc in seen_at b 61 rest 0 found.1 (omega arith) (omega arith) (eqb-true (slice_index rest 0) 61 (second_true (b == 33) (slice_index rest 0 == 61) e)) (sym z)) x)
    (λ e x. either_way (b == 61 && slice_index rest 0 == 61) (Some (t.Same, 1)) _ (Some found)
    (λ d y. let z : 1 ≡ found.1 = cc in seen_at b 61 rest 0 found.1 (omega arith) (omega arith) (eqb-true (slice_index rest 0) 61 (second_true (b == 61) (slice_index rest 0 == 61) d)) (sym z))
    (λ d y. either_way (b == 60 && slice_index rest 0 == 47) (Some (t.ClosingTag, 1)) _ (Some found)
    (λ g w. let z : 1 ≡ found.1 = cc in seen_at b 47 rest 0 found.1 (omega arith) (omega arith) (eqb-true (slice_index rest 0) 47 (second_true (b == 60) (slice_index rest 0 == 47) g)) (sym z))
    (λ g w. either_way (b == 47 && slice_index rest 0 == 62) (Some (t.WholeEnd, 1)) None (Some found)
    (λ i v. let z : 1 ≡ found.1 = cc in seen_at b 62 rest 0 found.1 (omega arith) (omega arith) (eqb-true (slice_index rest 0) 62 (second_true (b == 47) (slice_index rest 0 == 62) i)) (sym z))
    (λ i v. cc) w) y) x) h

-- one lexeme has one length
one_length : (l : Lexeme) (a b : Token) (k n : ℕ) → l ≡ Ok (a, k) → l ≡ Ok (b, n) → k ≡ n
one_length l a b k n h e = let p : ◌≡◌ {A = Token × ℕ} (a, k) (b, n) = cc in ap (λ q. q.1) p

sign_last : (at b : ℕ) (rest : List ℕ) (token : Token) (n : ℕ) → sign_at at b rest ≡ Ok (token, n) → LastOf (b ∷ rest) n
sign_last at b rest token n h = either_way (b == 123) _ _ (Ok (token, n))
    (λ e x. let q : b ≡ 123 = eqb-true b 123 e in let z : 0 ≡ n = one_length (Ok (OpenCurly at, 0)) (OpenCurly at) token 0 n refl x in at_first b n rest (omega (arith, q)) (sym z))
    (λ e x. long (long_sign b rest) refl x) h
  where
    sign_found : Option Sign → Lexeme
    sign_found None = Err NoToken
    sign_found (Some sign) = Ok (Mark sign, 0)

    found_of : Option (Sign × ℕ) → Lexeme
    found_of None = sign_found (sign_of b)
    found_of (Some found) = Ok (Mark found.0, found.1)

    one : (o : Option Sign) → sign_of b ≡ o → sign_found o ≡ Ok (token, n) → LastOf (b ∷ rest) n
    one None e x = cc
    one (Some sign) e x = let z : 0 ≡ n = one_length (Ok (Mark sign, 0)) (Mark sign) token 0 n refl x in at_first b n rest (sign_ascii b sign e) (sym z)

    long : (o : Option (Sign × ℕ)) → long_sign b rest ≡ o → found_of o ≡ Ok (token, n) → LastOf (b ∷ rest) n
    long (Some found) e x = let z : found.1 ≡ n = one_length (Ok (Mark found.0, found.1)) (Mark found.0) token found.1 n refl x in subst (λ k. LastOf (b ∷ rest) k) z (long_last b rest found e)
    long None e x = one (sign_of b) refl x

string_last : (b : ℕ) (rest : List ℕ) (token : Token) (n : ℕ) → string_at rest ≡ Ok (token, n) → LastOf (b ∷ rest) n
string_last b rest token n h = go (string_length false rest) refl h
  where
    found_of : Option ℕ → Lexeme
    found_of None = Err NoEnd
    found_of (Some k) = Ok (Quoted (take k rest), suc k)

    go : (o : Option ℕ) → string_length false rest ≡ o → found_of o ≡ Ok (token, n) → LastOf (b ∷ rest) n
    go None e x = cc
    go (Some k) e x =
        let z : suc k ≡ n = one_length (Ok (Quoted (take k rest), suc k)) (Quoted (take k rest)) token (suc k) n refl x in
        let s = string_ends false rest k e in
        seen_at b 34 rest k n (omega arith) (omega arith) s.quote (sym z)

-- the first byte passes, or the last of those behind it does
run_last : (P : ℕ → Bool) (b : ℕ) (rest : List ℕ) (n : ℕ) → ((c : ℕ) → P c ≡ true → c < 128) → b < 128 → n ≡ prefix_len P rest → LastOf (b ∷ rest) n
run_last P b rest n ascii a e = record {
  within = let l = prefix_len-le-length P rest in omega (arith, e, l);
  ascii = go n (omega arith);
}
  where
    go : (k : ℕ) → k ≤ n → get_or (b ∷ rest) k 0 < 128
    go zero h = a
    go (suc k) h = ascii (get_or rest k 0) (prefix_len_passes P rest k 0 (omega (arith, e, h)))

number_last : (at b : ℕ) (rest : List ℕ) (token : Token) (n : ℕ) → is_ascii_digit b ≡ true → number_at at b rest ≡ Ok (token, n) → LastOf (b ∷ rest) n
number_last at b rest token n d h = either_way (nat_lt (prefix_len is_ascii_digit rest) 9) _ _ (Ok (token, n))
    (λ e x. let z : prefix_len is_ascii_digit rest ≡ n = one_length _ _ token (prefix_len is_ascii_digit rest) n refl x in
    run_last is_ascii_digit b rest n (λ c p. let r = digit_range c p in omega (arith, r.1)) (let r = digit_range b d in omega (arith, r.1)) (sym z))
    (λ e x. cc) h

name_last : (at b : ℕ) (rest : List ℕ) (token : Token) (n : ℕ) → is_identifier_start b ≡ true → word_at at b rest ≡ Ok (token, n) → LastOf (b ∷ rest) n
name_last at b rest token n d h = either_way (nat_lt (prefix_len is_identifier_byte rest) 64) _ _ (Ok (token, n))
    (λ e x. let z : prefix_len is_identifier_byte rest ≡ n = one_length _ _ token (prefix_len is_identifier_byte rest) n refl x in run_last is_identifier_byte b rest n word_ascii (start_ascii b d) (sym z))
    (λ e x. cc) h

byte_last : (at b : ℕ) (rest : List ℕ) (token : Token) (n : ℕ) → lexeme at b rest ≡ Ok (token, n) → LastOf (b ∷ rest) n
unfolding lexeme
byte_last at b rest token n h = either_way (b == 34) _ _ (Ok (token, n)) (λ e x. string_last b rest token n x)
    (λ e x. either_way (is_ascii_digit b) _ _ (Ok (token, n)) (λ d y. number_last at b rest token n d y)
    (λ d y. either_way (is_identifier_start b) _ _ (Ok (token, n)) (λ w z. name_last at b rest token n w z) (λ w z. sign_last at b rest token n z) y) x) h

-- where a token ends in a text, an ASCII byte stands
pub lexeme_last : (at : ℕ) (text : List ℕ) (token : Token) (n : ℕ) → 0 < length text → lexeme at (get_or text 0 0) (drop 1 text) ≡ Ok (token, n) → LastOf text n
lexeme_last at [] token n some h = absurd (omega arith)
lexeme_last at (b ∷ rest) token n some h = byte_last at b rest token n h

-- ## The tokens behind a place

pub moved_on : (at n : ℕ) (rest : List ℕ) → tokens_from at n rest ≡ tokens_from (at + n) 0 (drop n rest)
unfolding tokens_from
moved_on at zero rest = ap (λ k. tokens_from k 0 rest) (omega arith)
moved_on at (suc n) [] = refl
moved_on at (suc n) (b ∷ rest) = moved_on (suc at) n rest ∙ ap (λ k. tokens_from k 0 (drop n rest)) (let e : suc at + n ≡ at + suc n = omega arith in e)
