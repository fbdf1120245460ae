-- What is said of a text, one token after another.
use Rattle.std.proofs.Common.{ℕ, suc, ◌+◌, ◌≡◌, ◌<◌, ◌≤◌, true, false, List, [], ◌∷◌, None, Some, Ok, Err, refl, sym, ◌∙◌, ap, arith, length, drop, get_or, add-one}
use Rattle.std.proofs.Math.Seq.{drop-cons}
use Rattle.std.proofs.lemmas.Bool.Decides.{nat_tests}
use Rattle.mt_text_spec.specs.Registries.{Registry}
use Rattle.mt_query_spec.specs.Tokens as t
use Rattle.mt_query_spec.specs.Tokens.{Tokens, Unlexed, Nesting, nested, nesting_from, is_blank, lexeme, tokens_from, preceded}
use Rattle.mt_query_spec.specs.Verdicts.{Syntax, NoQuery, unlexed_cause}
use Rattle.mt_cql.specs.declared.text_reader.Next.{Next}
use Rattle.mt_cql.specs.declared.text_reader.Next.TheVariants.{End, Token, Bad}
use Rattle.mt_cql.specs.TextSeen.{IsBehind}
use Rattle.mt_query_laws.specs.Exprs.{start, step, finish}
use Rattle.mt_query_laws.specs.Parts.{part_ways}
use Rattle.mt_query_laws.specs.Reading.{Answer, PartState, or_refused, end_of, read_from, read}
use Rattle.mt_cql.proofs.Cutting.{moved_on}

-- ## The front of a text

pub first_bad : (at : ℕ) (text : List ℕ) (why : Unlexed) → 0 < length text → is_blank (get_or text 0 0) ≡ false → lexeme at (get_or text 0 0) (drop 1 text) ≡ Err why
    → tokens_from at 0 text ≡ record { tokens = []; stop = Some (at, why) }
unfolding tokens_from
first_bad at [] why some blank e = absurd (omega arith)
first_bad at (b ∷ rest) why some blank e = rw (blank, e) refl

pub first_token : (at : ℕ) (text : List ℕ) (token : t.Token) (n : ℕ) → 0 < length text → is_blank (get_or text 0 0) ≡ false → lexeme at (get_or text 0 0) (drop 1 text) ≡ Ok (token, n)
    → tokens_from at 0 text ≡ preceded (at, token) (tokens_from (at + 1 + n) 0 (drop (n + 1) text))
unfolding tokens_from
first_token at [] token n some blank e = absurd (omega arith)
first_token at (b ∷ rest) token n some blank e =
    rw (blank, e) (ap (preceded (at, token)) (moved_on (suc at) n rest
    ∙ ap (λ k. tokens_from k 0 (drop n rest)) (let k : suc at + n ≡ at + 1 + n = omega arith in k)
    ∙ ap (λ k. tokens_from (at + 1 + n) 0 (drop k (b ∷ rest))) (let k : suc n ≡ n + 1 = omega arith in k)))

pub one_blank : (at : ℕ) (text : List ℕ) → 0 < length text → is_blank (get_or text 0 0) ≡ true → tokens_from at 0 text ≡ tokens_from (at + 1) 0 (drop 1 text)
unfolding tokens_from
one_blank at [] some blank = absurd (omega arith)
one_blank at (b ∷ rest) some blank = rw blank (ap (λ k. tokens_from k 0 rest) (let k : suc at ≡ at + 1 = omega arith in k))

pub blank_there : (text : List ℕ) → is_blank (get_or text 0 0) ≡ true → 0 < length text
blank_there [] h = cc
blank_there (b ∷ text) h = omega arith

pub blank_is_ascii : (b : ℕ) → is_blank b ≡ true → b < 128
blank_is_ascii b h = grind (arith, nat_tests)

pub less_is_left : (text : List ℕ) → 0 < length text → length (drop 1 text) + 1 ≡ length text
less_is_left [] h = absurd (omega arith)
less_is_left (b ∷ text) h = omega arith

pub behind_wider : (total other bound wider : ℕ) (next : Next) → total ≡ other → bound ≤ wider → IsBehind total bound next → IsBehind other wider next
behind_wider total other bound wider End e l h = h
behind_wider total other bound wider (Bad at why) e l h = h
behind_wider total other bound wider (Token at token end rest) e l h = (h.0 ∙ e, omega (arith, h.1, l), h.2)

-- ## One token after another

module _ (registry : Registry) (default : ℕ) where
  -- what is said of tokens behind a state
  abbrev pub goes : PartState → Tokens → ℕ → Answer
  goes state tokens end = read_from registry default state tokens.tokens tokens.stop end

  pub begins : (state : PartState) (tokens : Tokens) (end : ℕ) → state ≡ start (part_ways registry default) → goes state tokens end ≡ read registry default tokens end
  unfolding read
  begins state tokens end e = ap (λ x. goes x tokens end) e

  pub ended : (state : PartState) (tokens : Tokens) (end : ℕ) (total : Answer) → tokens ≡ record { tokens = []; stop = None } → goes state tokens end ≡ total
      → or_refused (finish (part_ways registry default) state) end ≡ total
  unfolding read_from end_of
  ended state tokens end total t h = sym (ap (λ x. goes state x end) t) ∙ h

  pub stopped : (state : PartState) (tokens : Tokens) (end at : ℕ) (why : Unlexed) (total : Answer) → tokens ≡ record { tokens = []; stop = Some (at, why) }
      → goes state tokens end ≡ total → total ≡ Err (Syntax at (unlexed_cause why))
  unfolding read_from end_of
  stopped state tokens end at why total t h = sym h ∙ ap (λ x. goes state x end) t

  pub stuck_at : (state : PartState) (tokens others : Tokens) (end at : ℕ) (token : t.Token) (total : Answer) → tokens ≡ preceded (at, token) others
      → step (part_ways registry default) state token ≡ None → goes state tokens end ≡ total → total ≡ Err (Syntax at NoQuery)
  unfolding read_from
  stuck_at state tokens others end at token total t s h = sym h ∙ ap (λ x. goes state x end) t ∙ rw s refl

  pub stepped : (state next : PartState) (tokens others : Tokens) (end at : ℕ) (token : t.Token) (total : Answer) → tokens ≡ preceded (at, token) others
      → step (part_ways registry default) state token ≡ Some next → goes state tokens end ≡ total → goes next others end ≡ total
  unfolding read_from
  stepped state next tokens others end at token total t s h = sym (ap (λ x. goes state x end) t ∙ rw s refl) ∙ h

-- ## Nesting

pub nested_more : (bytes : List ℕ) (i : ℕ) (before behind total : Nesting) → i < length bytes → behind ≡ nested before (get_or bytes i 0)
    → nesting_from before (drop i bytes) ≡ total → nesting_from behind (drop (i + 1) bytes) ≡ total
nested_more bytes i before behind total h e k =
    ap (λ x. nesting_from x (drop (i + 1) bytes)) e ∙ ap (λ n. nesting_from (nested before (get_or bytes i 0)) (drop n bytes)) (add-one i)
    ∙ sym (ap (nesting_from before) (drop-cons bytes i 0 h)) ∙ k
