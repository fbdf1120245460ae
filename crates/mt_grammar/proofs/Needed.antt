-- When a label that a kind needs stands nowhere.
use Rattle.std.proofs.Common.{◌≡◌, ℕ, ◌≤◌, inl, inr, Bool, true, false, not, ◌&&◌, refl, sym, ◌∙◌, ap, subst, arith}
use Rattle.std.specs.Prelude.{IsTrue}
use Rattle.std.proofs.lemmas.Bool.{cases_lt}
use Rattle.mt_text_spec.specs.Queries.{Expr, Query, RelationKind, Trinary, Unary}
use Rattle.mt_query_spec.specs.Valid.{has_label}
use Rattle.mt_grammar_spec.specs.GrammarFile.{Needs, LacksLabel}

stands : (label n : ℕ) (head : Expr) → label ≡ n → has_label n head ≡ true → has_label label head ≡ false → ⊥
stands label n head e t f = let s : has_label n head ≡ false = subst (λ (m : ℕ). has_label m head ≡ false) e f in cc

one : (kind : RelationKind) (query : Query) (a : Bool) → ((label : ℕ) → Needs kind label → label ≡ 1) → Needs kind 1 → has_label 1 query.head ≡ a →
    (IsTrue (not a) → LacksLabel kind query) × (LacksLabel kind query → IsTrue (not a))
one kind query true only n1 e = (λ t. cc, λ h. absurd (stands h.label 1 query.head (only h.label h.needed) e h.nowhere))
one kind query false only n1 e = (λ _. record { label = 1; needed = n1; nowhere = e }, λ _. refl)

both : (kind : RelationKind) (query : Query) (a b : Bool) → ((label : ℕ) → Needs kind label → (1 ≤ label) × (label ≤ 2)) → Needs kind 1 → Needs kind 2 → has_label 1 query.head ≡ a → has_label 2 query.head ≡ b →
    (IsTrue (not (a && b)) → LacksLabel kind query) × (LacksLabel kind query → IsTrue (not (a && b)))
both kind query false b only n1 n2 e f = (λ _. record { label = 1; needed = n1; nowhere = e }, λ _. refl)
both kind query true false only n1 n2 e f = (λ _. record { label = 2; needed = n2; nowhere = f }, λ _. refl)
both kind query true true only n1 n2 e f = (λ t. cc, λ h. absurd (some h.label (only h.label h.needed) h.nowhere))
  where
    some : (label : ℕ) → (1 ≤ label) × (label ≤ 2) → has_label label query.head ≡ false → ⊥
    some label l nowhere = elim (cases_lt label 2) [ inl low ↦ stands label 1 query.head (omega (arith, low, l.0)) e nowhere | inr high ↦ stands label 2 query.head (omega (arith, high, l.1)) f nowhere ]

all_three : (query : Query) (a b c : Bool) → has_label 1 query.head ≡ a → has_label 2 query.head ≡ b → has_label 3 query.head ≡ c →
    (IsTrue (not ((a && b) && c)) → LacksLabel Trinary query) × (LacksLabel Trinary query → IsTrue (not ((a && b) && c)))
all_three query false b c e f g = (λ _. record { label = 1; needed = (omega arith, omega arith); nowhere = e }, λ _. refl)
all_three query true false c e f g = (λ _. record { label = 2; needed = (omega arith, omega arith); nowhere = f }, λ _. refl)
all_three query true true false e f g = (λ _. record { label = 3; needed = (omega arith, omega arith); nowhere = g }, λ _. refl)
all_three query true true true e f g = (λ t. cc, λ h. absurd (some h.label h.needed h.nowhere))
  where
    some : (label : ℕ) → (1 ≤ label) × (label ≤ 3) → has_label label query.head ≡ false → ⊥
    some label l nowhere = elim (cases_lt label 2) [
      | inl low ↦ stands label 1 query.head (omega (arith, low, l.0)) e nowhere
      | inr high ↦ elim (cases_lt label 3) [ inl low ↦ stands label 2 query.head (omega (arith, high, low)) f nowhere | inr top ↦ stands label 3 query.head (omega (arith, top, l.1)) g nowhere ]
    ]

pub lacks_one : (query : Query) (head : Expr) (r : Bool) → head ≡ query.head → r ≡ has_label 1 head → (IsTrue (not r) → LacksLabel Unary query) × (LacksLabel Unary query → IsTrue (not r))
lacks_one query head r s e = one Unary query r (λ label h. h) refl (ap (has_label 1) (sym s) ∙ sym e)

pub lacks_pair : (kind : RelationKind) (query : Query) (head : Expr) (r : Bool) → ((label : ℕ) → Needs kind label → (1 ≤ label) × (label ≤ 2)) → Needs kind 1 → Needs kind 2 → head ≡ query.head →
    r ≡ (has_label 1 head && has_label 2 head) → (IsTrue (not r) → LacksLabel kind query) × (LacksLabel kind query → IsTrue (not r))
lacks_pair kind query head r only n1 n2 s e =
    subst (λ (x : Bool). (IsTrue (not x) → LacksLabel kind query) × (LacksLabel kind query → IsTrue (not x))) (sym e)
    (both kind query (has_label 1 head) (has_label 2 head) only n1 n2 (ap (has_label 1) (sym s)) (ap (has_label 2) (sym s)))

pub lacks_three : (query : Query) (head : Expr) (r t : Bool) → head ≡ query.head → r ≡ (has_label 1 head && has_label 2 head) → t ≡ has_label 3 head →
    (IsTrue (not (r && t)) → LacksLabel Trinary query) × (LacksLabel Trinary query → IsTrue (not (r && t)))
lacks_three query head r t s e f =
    subst (λ (x : Bool). (IsTrue (not (x && t)) → LacksLabel Trinary query) × (LacksLabel Trinary query → IsTrue (not (x && t)))) (sym e)
    (all_three query (has_label 1 head) (has_label 2 head) t (ap (has_label 1) (sym s)) (ap (has_label 2) (sym s)) (ap (has_label 3) (sym s) ∙ sym f))
