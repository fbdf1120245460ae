-- What a string writes, up to its backslashes.
use Rattle.std.proofs.Common.{ℕ, zero, suc, ◌+◌, ◌≡◌, ◌<◌, Bool, true, false, List, [], ◌∷◌, ◌++◌, refl, sym, ◌∙◌, ap, arith, length, take, drop, get_or, eqb, append_assoc, append-nil}
use Rattle.std.specs.Prelude.{cond, not}
use Rattle.std.specs.List.{prefix_len}
use Rattle.std.proofs.lemmas.Bool.{eqb-true}
use Rattle.std.proofs.lemmas.List.Sums.{prefix_len-le-length, prefix_len_stops}
use Rattle.std.proofs.Math.Seq.{drop-length}
use Rattle.std.proofs.lemmas.Bool.Decides.{nat_tests}
use Rattle.mt_query_spec.specs.Meaning.{unescaped}
use Rattle.mt_cql.specs.Texts.{is_plain, falls}

-- up to the first backslash all bytes stay
pub plain_front : (F : ℕ → Bool) (text : List ℕ) → unescaped F false text ≡ take (prefix_len is_plain text) text ++ unescaped F false (drop (prefix_len is_plain text) text)
plain_front F [] = refl
plain_front F (b ∷ text) = go (eqb b 92) refl (plain_front F text)
  where
    go : (q : Bool) → eqb b 92 ≡ q → unescaped F false text ≡ take (prefix_len is_plain text) text ++ unescaped F false (drop (prefix_len is_plain text) text)
        → cond q (unescaped F true text) (b ∷ unescaped F false text)
        ≡ take (cond (not q) (1 + prefix_len is_plain text) 0) (b ∷ text) ++ unescaped F false (drop (cond (not q) (1 + prefix_len is_plain text) 0) (b ∷ text))
    go true e h = sym (ap (λ q. cond q (unescaped F true text) (b ∷ unescaped F false text)) e)
    go false e h =
        ap (λ x. b ∷ x) h ∙ ap (λ n. take n (b ∷ text) ++ unescaped F false (drop n (b ∷ text))) (let s : suc (prefix_len is_plain text) ≡ 1 + prefix_len is_plain text = omega arith in s)

-- a backslash
pub slash_front : (F : ℕ → Bool) (text : List ℕ) (n : ℕ) → n < length text → get_or text n 0 ≡ 92 → unescaped F false (drop n text) ≡ unescaped F true (drop (n + 1) text)
slash_front F [] n h e = absurd (omega arith)
slash_front F (b ∷ text) zero h e = ap (λ x. unescaped F false (x ∷ text)) e
slash_front F (b ∷ text) (suc n) h e =
    slash_front F text n (omega arith) e ∙ ap (λ m. unescaped F true (drop m (b ∷ text))) (let s : suc (n + 1) ≡ suc n + 1 = omega arith in s)

-- a byte that is no backslash, behind one before which it stays
pub kept_front : (F : ℕ → Bool) (b : ℕ) (text : List ℕ) → F b ≡ false → eqb b 92 ≡ false → unescaped F true (b ∷ text) ≡ 92 ∷ unescaped F false (b ∷ text)
kept_front F b text f e = ap (λ q. cond q (b ∷ unescaped F false text) (92 ∷ b ∷ unescaped F false text)) f
    ∙ sym (ap (λ q. 92 ∷ cond q (unescaped F true text) (b ∷ unescaped F false text)) e)

pub fallen_front : (F : ℕ → Bool) (b : ℕ) (text : List ℕ) → F b ≡ true → unescaped F true (b ∷ text) ≡ b ∷ unescaped F false text
fallen_front F b text f = ap (λ q. cond q (b ∷ unescaped F false text) (92 ∷ b ∷ unescaped F false text)) f

pub stayed_front : (F : ℕ → Bool) (b : ℕ) (text : List ℕ) → F b ≡ false → unescaped F true (b ∷ text) ≡ 92 ∷ b ∷ unescaped F false text
stayed_front F b text f = ap (λ q. cond q (b ∷ unescaped F false text) (92 ∷ b ∷ unescaped F false text)) f

-- the byte behind the plain ones
pub record SlashAt (text : List ℕ) (n : ℕ) : Type 0 where
  pub within : n < length text
  pub slash : get_or text n 0 ≡ 92

not_plain : (b : ℕ) → is_plain b ≡ false → b ≡ 92
not_plain b h = eqb-true b 92 (go (eqb b 92) h)
  where
    go : (q : Bool) → not q ≡ false → q ≡ true
    go true h = refl
    go false h = cc

pub slash_at : (text : List ℕ) (n : ℕ) → n ≡ prefix_len is_plain text → (n ≡ length text → ⊥) → SlashAt text n
slash_at text n e other =
    let l : n < length text = omega (arith, e, prefix_len-le-length is_plain text) in
    record { within = l; slash = not_plain (get_or text n 0) (ap (λ i. is_plain (get_or text i 0)) e ∙ prefix_len_stops is_plain text 0 (omega (arith, e))) }

-- the first byte of a text, where it is not 0
first_byte : (rest : List ℕ) (b : ℕ) → get_or rest 0 0 ≡ b → 0 < b → rest ≡ b ∷ drop 1 rest
first_byte [] b h l = absurd (omega arith)
first_byte (c ∷ rest) b h l = ap (λ x. x ∷ rest) h

-- a byte before which the backslash falls away
pub fallen : (F : ℕ → Bool) (old new rest behind : List ℕ) (b : ℕ) → get_or rest 0 0 ≡ b → 0 < b → F b ≡ true → new ≡ old ++ b ∷ [] → behind ≡ drop 1 rest
    → new ++ unescaped F false behind ≡ old ++ unescaped F true rest
fallen F old new rest behind b h l f n d =
    ap (λ x. x ++ unescaped F false behind) n ∙ append_assoc old (b ∷ []) (unescaped F false behind) ∙ ap (λ x. old ++ b ∷ unescaped F false x) d
    ∙ ap (λ x. old ++ x) (sym (fallen_front F b (drop 1 rest) f) ∙ sym (ap (unescaped F true) (first_byte rest b h l)))

-- a byte before which it stays
pub stayed : (F : ℕ → Bool) (old new rest behind : List ℕ) (b : ℕ) → get_or rest 0 0 ≡ b → 0 < b → F b ≡ false → new ≡ old ++ 92 ∷ b ∷ [] → behind ≡ drop 1 rest
    → new ++ unescaped F false behind ≡ old ++ unescaped F true rest
stayed F old new rest behind b h l f n d =
    ap (λ x. x ++ unescaped F false behind) n ∙ append_assoc old (92 ∷ b ∷ []) (unescaped F false behind) ∙ ap (λ x. old ++ 92 ∷ b ∷ unescaped F false x) d
    ∙ ap (λ x. old ++ x) (sym (stayed_front F b (drop 1 rest) f) ∙ sym (ap (unescaped F true) (first_byte rest b h l)))

no_fall : (literal : Bool) (b : ℕ) → (b ≡ 34 → ⊥) → (b ≡ 92 → ⊥) → falls literal b ≡ false
no_fall true b p r = grind (arith, nat_tests)
no_fall false b p r = grind (arith, nat_tests)

-- any other byte, or none
other_front : (literal : Bool) (rest : List ℕ) → (get_or rest 0 0 ≡ 34 → ⊥) → (get_or rest 0 0 ≡ 92 → ⊥) → unescaped (falls literal) true rest ≡ 92 ∷ unescaped (falls literal) false rest
other_front literal [] p r = refl
other_front literal (b ∷ rest) p r = kept_front (falls literal) b rest (no_fall literal b p r) (grind (arith, nat_tests))

pub other : (literal : Bool) (old new rest : List ℕ) → (get_or rest 0 0 ≡ 34 → ⊥) → (get_or rest 0 0 ≡ 92 → ⊥) → new ≡ old ++ 92 ∷ []
    → new ++ unescaped (falls literal) false rest ≡ old ++ unescaped (falls literal) true rest
other literal old new rest p r n =
    ap (λ x. x ++ unescaped (falls literal) false rest) n ∙ append_assoc old (92 ∷ []) (unescaped (falls literal) false rest) ∙ ap (λ x. old ++ x) (sym (other_front literal rest p r))

-- from one backslash to the next
pub one_slash : (F : ℕ → Bool) (old middle new all rest front more behind : List ℕ) → old ++ unescaped F false rest ≡ all → front ≡ take (prefix_len is_plain rest) rest
    → prefix_len is_plain rest < length rest → more ≡ drop (prefix_len is_plain rest + 1) rest → middle ≡ old ++ front
    → new ++ unescaped F false behind ≡ middle ++ unescaped F true more → new ++ unescaped F false behind ≡ all
one_slash F old middle new all rest front more behind h f l m e k =
    let s = slash_at rest (prefix_len is_plain rest) refl (λ x. let y = x in absurd (omega arith)) in
    k ∙ ap (λ x. x ++ unescaped F true more) (e ∙ ap (λ x. old ++ x) f) ∙ append_assoc old (take (prefix_len is_plain rest) rest) (unescaped F true more)
    ∙ ap (λ x. old ++ (take (prefix_len is_plain rest) rest ++ x)) (ap (unescaped F true) m ∙ sym (slash_front F rest (prefix_len is_plain rest) l s.slash))
    ∙ ap (λ x. old ++ x) (sym (plain_front F rest)) ∙ h

-- no backslash more
pub no_slash : (F : ℕ → Bool) (old new all rest front : List ℕ) → old ++ unescaped F false rest ≡ all → front ≡ take (prefix_len is_plain rest) rest
    → length rest ≡ prefix_len is_plain rest → new ≡ old ++ front → new ≡ all
no_slash F old new all rest front h f l n =
    n ∙ ap (λ x. old ++ x) (f ∙ sym (append-nil (take (prefix_len is_plain rest) rest)) ∙ ap (λ x. take (prefix_len is_plain rest) rest ++ x)
    (ap (unescaped F false) (sym (drop-length rest) ∙ ap (λ k. drop k rest) l)) ∙ sym (plain_front F rest)) ∙ h
