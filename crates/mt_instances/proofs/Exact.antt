-- Entries are equal where all their numbers are.
use Rattle.std.proofs.Common.{◌≡◌, ℕ, true, ◌&&◌, Option, Some, None, refl, ap, nat_eq, eqb-true}
use Rattle.std.specs.Option.{option_eq}
use Rattle.std.proofs.lemmas.Bool.{and_parts}
use Rattle.mt_counts.specs.declared.note.Note.{Note}

exact_option : (p q : Option ℕ) → option_eq nat_eq p q ≡ true → p ≡ q
exact_option None None e = refl
exact_option None (Some q) e = cc
exact_option (Some p) None e = cc
exact_option (Some p) (Some q) e = ap Some (eqb-true p q e)

pub exact_entry : (x y : Note) → (nat_eq x.name y.name && (nat_eq x.first y.first && option_eq nat_eq x.second y.second)) ≡ true → x ≡ y
exact_entry x y e =
    let front = and_parts (nat_eq x.name y.name) (nat_eq x.first y.first && option_eq nat_eq x.second y.second) e in
    let rest = and_parts (nat_eq x.first y.first) (option_eq nat_eq x.second y.second) front.1 in
    let name = eqb-true x.name y.name front.0 in
    let first = eqb-true x.first y.first rest.0 in
    let second = exact_option x.second y.second rest.1 in
    λ i. record { name = name i; first = first i; second = second i }
