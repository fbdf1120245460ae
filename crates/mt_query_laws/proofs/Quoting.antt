-- A text that is printed as a string is read from it again.
use Rattle.std.proofs.Common.{ℕ, suc, ◌≡◌, Bool, true, false, List, [], ◌∷◌, ◌++◌, Some, refl, sym, ◌∙◌, ap, length}
use Rattle.std.specs.Prelude.{cond, not, ◌==◌, ◌||◌, ◌&&◌}
use Rattle.std.specs.Option.{option_map}
use Rattle.std.proofs.lemmas.Bool.{eqb-true}
use Rattle.mt_query_spec.specs.Tokens.{string_length}
use Rattle.mt_query_spec.specs.Meaning.{unescaped}
use Rattle.mt_query_spec.specs.Printed.{escaped}
use Rattle.mt_query_spec.specs.Valid.{is_pattern_text}

abbrev quote : ℕ → Bool
quote b = b == 34

abbrev marks : ℕ → Bool
marks b = b == 34 || b == 92

both_true : (p q : Bool) → (not p && q) ≡ true → (p ≡ false) × (q ≡ true)
both_true true q h = cc
both_true false q h = (refl, h)

-- ## Patterns

pub pattern_length : (taken : Bool) (text rest : List ℕ) → is_pattern_text taken text ≡ true → string_length taken (escaped quote text ++ 34 ∷ rest) ≡ Some (length (escaped quote text))
pattern_length true [] rest h = cc
pattern_length false [] rest h = refl
pattern_length true (b ∷ text) rest h =
    let s = both_true (b == 34) (is_pattern_text false text) h in
    rw s.0 (ap (option_map suc) (pattern_length false text rest s.1))
pattern_length false (b ∷ text) rest h = go (b == 34) refl (pattern_length (b == 92) text rest h)
  where
    go : (q : Bool) → (b == 34) ≡ q → string_length (b == 92) (escaped quote text ++ 34 ∷ rest) ≡ Some (length (escaped quote text))
        → string_length false (cond q (92 ∷ b ∷ escaped quote text) (b ∷ escaped quote text) ++ 34 ∷ rest) ≡ Some (length (cond q (92 ∷ b ∷ escaped quote text) (b ∷ escaped quote text)))
    go true e k =
        let l : string_length false (escaped quote text ++ 34 ∷ rest) ≡ Some (length (escaped quote text)) = ap (λ c. string_length (c == 92) (escaped quote text ++ 34 ∷ rest)) (sym (eqb-true b 34 e)) ∙ k in
        ap (λ x. option_map suc (option_map suc x)) l
    go false e k = rw e (ap (option_map suc) k)

pub pattern_kept : (text : List ℕ) (taken : Bool) → is_pattern_text taken text ≡ true → unescaped quote taken (escaped quote text) ≡ cond taken (92 ∷ text) text
pattern_kept [] true h = cc
pattern_kept [] false h = refl
pattern_kept (b ∷ text) true h =
    let s = both_true (b == 34) (is_pattern_text false text) h in
    rw (s.0, s.0) (ap (λ x. 92 ∷ b ∷ x) (pattern_kept text false s.1))
pattern_kept (b ∷ text) false h = go (b == 34) refl (b == 92) refl (pattern_kept text (b == 92) h)
  where
    go : (q : Bool) → (b == 34) ≡ q → (s : Bool) → (b == 92) ≡ s → unescaped quote (b == 92) (escaped quote text) ≡ cond (b == 92) (92 ∷ text) text
        → unescaped quote false (cond q (92 ∷ b ∷ escaped quote text) (b ∷ escaped quote text)) ≡ b ∷ text
    go true e s f k =
        let c : 34 ≡ b = sym (eqb-true b 34 e) in
        let l : unescaped quote false (escaped quote text) ≡ text = ap (λ c. unescaped quote (c == 92) (escaped quote text)) c ∙ k ∙ ap (λ c. cond (c == 92) (92 ∷ text) text) (sym c) in
        rw e (ap (λ x. b ∷ x) l)
    go false e true f k =
        let l : unescaped quote true (escaped quote text) ≡ 92 ∷ text = ap (λ c. unescaped quote c (escaped quote text)) (sym f) ∙ k ∙ ap (λ c. cond c (92 ∷ text) text) f in
        rw f (l ∙ ap (λ x. x ∷ text) (sym (eqb-true b 92 f)))
    go false e false f k =
        let l : unescaped quote false (escaped quote text) ≡ text = ap (λ c. unescaped quote c (escaped quote text)) (sym f) ∙ k ∙ ap (λ c. cond c (92 ∷ text) text) f in
        rw f (ap (λ x. b ∷ x) l)

-- ## Literals

neither : (p q : Bool) → (p || q) ≡ false → (p ≡ false) × (q ≡ false)
neither true q h = cc
neither false q h = (refl, h)

pub literal_length : (text rest : List ℕ) → string_length false (escaped marks text ++ 34 ∷ rest) ≡ Some (length (escaped marks text))
literal_length [] rest = refl
literal_length (b ∷ text) rest = go (marks b) refl (literal_length text rest)
  where
    go : (q : Bool) → marks b ≡ q → string_length false (escaped marks text ++ 34 ∷ rest) ≡ Some (length (escaped marks text))
        → string_length false (cond q (92 ∷ b ∷ escaped marks text) (b ∷ escaped marks text) ++ 34 ∷ rest) ≡ Some (length (cond q (92 ∷ b ∷ escaped marks text) (b ∷ escaped marks text)))
    go true e k = ap (λ x. option_map suc (option_map suc x)) k
    go false e k = let s = neither (b == 34) (b == 92) e in rw (s.0, s.1) (ap (option_map suc) k)

pub literal_kept : (text : List ℕ) → unescaped marks false (escaped marks text) ≡ text
literal_kept [] = refl
literal_kept (b ∷ text) = go (marks b) refl (literal_kept text)
  where
    go : (q : Bool) → marks b ≡ q → unescaped marks false (escaped marks text) ≡ text → unescaped marks false (cond q (92 ∷ b ∷ escaped marks text) (b ∷ escaped marks text)) ≡ b ∷ text
    go true e k = rw e (ap (λ x. b ∷ x) k)
    go false e k = let s = neither (b == 34) (b == 92) e in rw s.1 (ap (λ x. b ∷ x) k)
