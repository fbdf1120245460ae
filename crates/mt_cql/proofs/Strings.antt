-- Where a string ends.
use Rattle.std.proofs.Common.{ℕ, suc, ◌+◌, ◌≡◌, ◌≢◌, ◌<◌, Bool, true, false, List, [], ◌∷◌, None, Some, Option, refl, sym, ◌∙◌, ap, arith, length, drop, get_or, eqb, add-one}
use Rattle.std.specs.Prelude.{cond}
use Rattle.std.specs.Option.{option_map}
use Rattle.std.proofs.lemmas.Bool.{eqb-true}
use Rattle.std.proofs.lemmas.Bool.Decides.{nat_tests}
use Rattle.std.proofs.Math.Seq.{drop-cons}
use Rattle.mt_query_spec.specs.Tokens.{string_length}

not_equal : (a b : ℕ) → a ≢ b → eqb a b ≡ false
not_equal a b h = grind (arith, nat_tests)

-- a length that is counted from further on
abbrev pub counted : ℕ → Option ℕ → Option ℕ
counted n None = None
counted n (Some k) = Some (n + k)

pub counted_none : (o : Option ℕ) → counted 0 o ≡ o
counted_none None = refl
counted_none (Some k) = ap Some (omega arith)

counted_more : (n : ℕ) (o : Option ℕ) → counted n (option_map suc o) ≡ counted (n + 1) o
counted_more n None = refl
counted_more n (Some k) = ap Some (omega arith)

dropped : (bytes : List ℕ) (i : ℕ) → i < length bytes → drop i bytes ≡ get_or bytes i 0 ∷ drop (i + 1) bytes
dropped bytes i h = drop-cons bytes i 0 h ∙ ap (λ n. get_or bytes i 0 ∷ drop n bytes) (sym (add-one i))

pub taken_step : (bytes : List ℕ) (i : ℕ) (total : Option ℕ) (was now : Bool) → i < length bytes → was ≡ true → now ≡ false → counted i (string_length was (drop i bytes)) ≡ total
    → counted (i + 1) (string_length now (drop (i + 1) bytes)) ≡ total
taken_step bytes i total was now h w n e =
    ap (λ x. counted (i + 1) (string_length x (drop (i + 1) bytes))) n
    ∙ sym (ap (λ x. counted i (string_length x (drop i bytes))) w ∙ ap (λ x. counted i (string_length true x)) (dropped bytes i h) ∙ counted_more i (string_length false (drop (i + 1) bytes))) ∙ e

pub ends_there : (bytes : List ℕ) (i : ℕ) (total : Option ℕ) (was : Bool) → i < length bytes → was ≡ false → get_or bytes i 0 ≡ 34 → counted i (string_length was (drop i bytes)) ≡ total → Some i ≡ total
ends_there bytes i total was h w q e =
    let k : counted i (string_length false (34 ∷ drop (i + 1) bytes)) ≡ Some i = ap Some (omega arith) in
    sym k ∙ sym (ap (λ x. counted i (string_length x (drop i bytes))) w ∙ ap (λ x. counted i (string_length false x)) (dropped bytes i h ∙ ap (λ b. b ∷ drop (i + 1) bytes) q)) ∙ e

pub goes_on : (bytes : List ℕ) (i : ℕ) (total : Option ℕ) (was now : Bool) → i < length bytes → was ≡ false → get_or bytes i 0 ≢ 34 → now ≡ eqb (get_or bytes i 0) 92
    → counted i (string_length was (drop i bytes)) ≡ total → counted (i + 1) (string_length now (drop (i + 1) bytes)) ≡ total
goes_on bytes i total was now h w q n e =
    ap (λ x. counted (i + 1) (string_length x (drop (i + 1) bytes))) n
    ∙ sym (ap (λ x. counted i (string_length x (drop i bytes))) w
    ∙ ap (λ x. counted i (string_length false x)) (dropped bytes i h)
    ∙ ap (λ c. counted i (cond c (Some 0) (option_map suc (string_length (eqb (get_or bytes i 0) 92) (drop (i + 1) bytes))))) (not_equal (get_or bytes i 0) 34 q)
    ∙ counted_more i (string_length (eqb (get_or bytes i 0) 92) (drop (i + 1) bytes))) ∙ e

-- the quote stands there
pub record EndsAt (bytes : List ℕ) (n : ℕ) : Type 0 where
  pub within : n < length bytes
  pub quote : get_or bytes n 0 ≡ 34

further : (b : ℕ) (bytes : List ℕ) (o : Option ℕ) (n : ℕ) → ((k : ℕ) → o ≡ Some k → EndsAt bytes k) → option_map suc o ≡ Some n → EndsAt (b ∷ bytes) n
further b bytes None n k h = cc
further b bytes (Some m) n k h =
    let e = k m refl in
    let s : suc m ≡ n = cc in
    record { within = omega (arith, e.within); quote = ap (λ i. get_or (b ∷ bytes) i 0) (sym s) ∙ e.quote }

pub string_ends : (taken : Bool) (bytes : List ℕ) (n : ℕ) → string_length taken bytes ≡ Some n → EndsAt bytes n
string_ends taken [] n h = cc
string_ends true (b ∷ bytes) n h = further b bytes (string_length false bytes) n (λ k e. string_ends false bytes k e) h
string_ends false (b ∷ bytes) n h = go (eqb b 34) refl h (λ k e. string_ends (eqb b 92) bytes k e)
  where
    go : (quote : Bool) → eqb b 34 ≡ quote → cond quote (Some 0) (option_map suc (string_length (eqb b 92) bytes)) ≡ Some n
        → ((k : ℕ) → string_length (eqb b 92) bytes ≡ Some k → EndsAt bytes k) → EndsAt (b ∷ bytes) n
    go true e h again = let z : 0 ≡ n = cc in record { within = omega (arith, z); quote = ap (λ i. get_or (b ∷ bytes) i 0) (sym z) ∙ eqb-true b 34 e }
    go false e h again = further b bytes (string_length (eqb b 92) bytes) n again h
