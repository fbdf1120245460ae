-- What a text is escaped to, up to its marks.
use Rattle.std.proofs.Common.{ℕ, zero, suc, ◌+◌, ◌-◌, ◌≡◌, ◌<◌, ◌≤◌, Bool, true, false, List, [], ◌∷◌, ◌++◌, refl, sym, ◌∙◌, ap, arith, length, take, drop, get_or, eqb, append_assoc, append-nil}
use Rattle.std.specs.Prelude.{cond, not, codes, ◌==◌}
use Rattle.std.specs.List.{prefix_len}
use Rattle.std.proofs.lemmas.Bool.{eqb-true}
use Rattle.std.proofs.lemmas.List.{get_or-drop, length-drop}
use Rattle.std.proofs.lemmas.List.Sums.{prefix_len-le-length, prefix_len_stops}
use Rattle.std.proofs.lemmas.Bool.Decides.{nat_tests}
use Rattle.mt_query_spec.specs.Printed.{escaped}
use Rattle.mt_cql.specs.Texts.{falls, stays}

-- up to the first mark all bytes stay
pub kept_front : (literal : Bool) (text : List ℕ)
    → escaped (falls literal) text ≡ take (prefix_len (stays literal) text) text ++ escaped (falls literal) (drop (prefix_len (stays literal) text) text)
kept_front literal [] = refl
kept_front literal (b ∷ text) = go (falls literal b) refl (kept_front literal text)
  where
    go : (q : Bool) → falls literal b ≡ q
        → escaped (falls literal) text ≡ take (prefix_len (stays literal) text) text ++ escaped (falls literal) (drop (prefix_len (stays literal) text) text)
        → cond q (92 ∷ b ∷ escaped (falls literal) text) (b ∷ escaped (falls literal) text)
        ≡ take (cond (not q) (1 + prefix_len (stays literal) text) 0) (b ∷ text) ++ escaped (falls literal) (drop (cond (not q) (1 + prefix_len (stays literal) text) 0) (b ∷ text))
    go true e h = sym (ap (λ q. cond q (92 ∷ b ∷ escaped (falls literal) text) (b ∷ escaped (falls literal) text)) e)
    go false e h =
        ap (λ x. b ∷ x) h
        ∙ ap (λ n. take n (b ∷ text) ++ escaped (falls literal) (drop n (b ∷ text))) (let s : suc (prefix_len (stays literal) text) ≡ 1 + prefix_len (stays literal) text = omega arith in s)

not_stays : (literal : Bool) (b : ℕ) → stays literal b ≡ false → falls literal b ≡ true
not_stays literal b h = go (falls literal b) h
  where
    go : (q : Bool) → not q ≡ false → q ≡ true
    go true h = refl
    go false h = cc

-- the byte behind them is a mark
pub mark_at : (literal : Bool) (text : List ℕ) (n : ℕ) → n ≡ prefix_len (stays literal) text → n < length text → falls literal (get_or text n 0) ≡ true
mark_at literal text n e l =
    not_stays literal (get_or text n 0) (ap (λ i. stays literal (get_or text i 0)) e ∙ prefix_len_stops (stays literal) text 0 (omega (arith, e)))

pub mark_ascii : (literal : Bool) (b : ℕ) → falls literal b ≡ true → b < 128
mark_ascii true b h = grind (arith, nat_tests)
mark_ascii false b h = grind (arith, nat_tests)

pub kept_within : (literal : Bool) (text : List ℕ) (n : ℕ) → n ≡ prefix_len (stays literal) text → n ≤ length text
kept_within literal text n e = omega (arith, e, prefix_len-le-length (stays literal) text)

-- a mark with its backslash
pub mark_bytes : (literal : Bool) (b : ℕ) → falls literal b ≡ true → cond (b == 34) (codes "\\\"") (codes "\\\\") ≡ 92 ∷ b ∷ []
mark_bytes literal b h = go (eqb b 34) refl
  where
    slash : (literal : Bool) → eqb b 34 ≡ false → falls literal b ≡ true → b ≡ 92
    slash true e h = grind (arith, nat_tests)
    slash false e h = cc

    go : (q : Bool) → eqb b 34 ≡ q → cond q (codes "\\\"") (codes "\\\\") ≡ 92 ∷ b ∷ []
    go true e = ap (λ x. 92 ∷ x ∷ []) (sym (eqb-true b 34 e))
    go false e = ap (λ x. 92 ∷ x ∷ []) (sym (slash literal e h))

first_byte : (text : List ℕ) → (length text ≡ 0 → ⊥) → text ≡ get_or text 0 0 ∷ drop 1 text
first_byte [] h = absurd (h refl)
first_byte (b ∷ text) h = refl

mark_front : (literal : Bool) (b : ℕ) (text : List ℕ) → falls literal b ≡ true → escaped (falls literal) (b ∷ text) ≡ (92 ∷ b ∷ []) ++ escaped (falls literal) text
mark_front literal b text h = ap (λ q. cond q (92 ∷ b ∷ escaped (falls literal) text) (b ∷ escaped (falls literal) text)) h

-- from one mark to the next
pub one_mark : (literal : Bool) (old middle new all rest front back mark behind : List ℕ) → old ++ escaped (falls literal) rest ≡ all
    → front ≡ take (prefix_len (stays literal) rest) rest → back ≡ drop (prefix_len (stays literal) rest) rest → middle ≡ old ++ front
    → (length back ≡ 0 → ⊥) → falls literal (get_or back 0 0) ≡ true → mark ≡ cond (get_or back 0 0 == 34) (codes "\\\"") (codes "\\\\")
    → new ≡ middle ++ mark → behind ≡ drop 1 back → new ++ escaped (falls literal) behind ≡ all
one_mark literal old middle new all rest front back mark behind h f e m some falling k n d =
    ap (λ x. x ++ escaped (falls literal) behind) (n ∙ ap (λ x. middle ++ x) (k ∙ mark_bytes literal (get_or back 0 0) falling))
    ∙ append_assoc middle (92 ∷ get_or back 0 0 ∷ []) (escaped (falls literal) behind)
    ∙ ap (λ x. middle ++ (92 ∷ get_or back 0 0 ∷ escaped (falls literal) x)) d
    ∙ ap (λ x. middle ++ x) (sym (mark_front literal (get_or back 0 0) (drop 1 back) falling) ∙ ap (escaped (falls literal)) (sym (first_byte back some) ∙ e))
    ∙ ap (λ x. x ++ escaped (falls literal) (drop (prefix_len (stays literal) rest) rest)) (m ∙ ap (λ x. old ++ x) f)
    ∙ append_assoc old (take (prefix_len (stays literal) rest) rest) (escaped (falls literal) (drop (prefix_len (stays literal) rest) rest))
    ∙ ap (λ x. old ++ x) (sym (kept_front literal rest)) ∙ h

no_bytes : (text : List ℕ) → length text ≡ 0 → text ≡ []
no_bytes [] h = refl
no_bytes (b ∷ text) h = absurd (omega (arith, h))

-- no mark more
pub no_mark : (literal : Bool) (old new all rest front back : List ℕ) → old ++ escaped (falls literal) rest ≡ all → front ≡ take (prefix_len (stays literal) rest) rest
    → back ≡ drop (prefix_len (stays literal) rest) rest → length back ≡ 0 → new ≡ old ++ front → new ≡ all
no_mark literal old new all rest front back h f e none n =
    n ∙ ap (λ x. old ++ x) (f ∙ sym (append-nil (take (prefix_len (stays literal) rest) rest))
    ∙ ap (λ x. take (prefix_len (stays literal) rest) rest ++ escaped (falls literal) x) (sym (no_bytes back none) ∙ e) ∙ sym (kept_front literal rest)) ∙ h

-- what stands behind the kept bytes begins with a mark
pub back_marked : (literal : Bool) (rest back : List ℕ) → back ≡ drop (prefix_len (stays literal) rest) rest → (length back ≡ 0 → ⊥) → falls literal (get_or back 0 0) ≡ true
back_marked literal rest back e some =
    let l : prefix_len (stays literal) rest < length rest = below (length back) (length rest) (prefix_len (stays literal) rest) some (ap length e ∙ length-drop (prefix_len (stays literal) rest) rest) in
    ap (λ x. falls literal (get_or x 0 0)) e ∙ ap (falls literal) (get_or-drop (prefix_len (stays literal) rest) rest 0 0)
    ∙ ap (λ i. falls literal (get_or rest i 0)) (let s : prefix_len (stays literal) rest + 0 ≡ prefix_len (stays literal) rest = omega arith in s)
    ∙ mark_at literal rest (prefix_len (stays literal) rest) refl l
  where
    below : (a b n : ℕ) → (a ≡ 0 → ⊥) → a ≡ b - n → n < b
    below zero b n h e = absurd (h refl)
    below (suc a) b n h e = omega arith

pub some_bytes : (n : ℕ) → false ≡ (n == 0) → n ≡ 0 → ⊥
some_bytes n h e = let k : (n == 0) ≡ true = ap (λ m. m == 0) e in cc
