-- What is kept of a kind's instances stands for those that the lines begin.
use Rattle.std.proofs.Common.{◌≡◌, ℕ, zero, suc, ◌+◌, ◌<◌, ◌≤◌, Bool, true, false, ◌==◌, List, [], ◌∷◌, ◌++◌, length, take, get_or, refl, sym, ◌∙◌, ap, arith, append_assoc, Option, None, Some}
use Rattle.std.proofs.lemmas.Grind.{common_steps}
use Rattle.mt_text_spec.specs.Texts.{StructSpan}
use Rattle.mt_file_spec.specs.VerticalLines.{Role, Passes, Opens, Stands, Closes, Gives}
use Rattle.mt_file_spec.specs.Vertical.{past, is_tag_of, next_place, begun, instances_from, instances_in}
use Rattle.mt_vertical.specs.Readers.{Began, Kept, closed_at, ended, step, gathered}
use Rattle.mt_vertical.proofs.Filled.{gathered_push}

-- the open instance, which ends at the next tag of its kind
abbrev open_ended : ℕ → ℕ → List Role → Option Began → List StructSpan
open_ended kind place after None = []
open_ended kind place after (Some began) = (record { kind = kind; begin = began.begin; end = next_place kind place after; values = began.values }) ∷ []

-- whatever lines follow, the instances are those that have ended, the open one, and those of the lines that follow
pub record Stands_for (kind place : ℕ) (roles : List Role) (k : Kept) : Type 0 where
  pub are : (after : List Role) → instances_from kind 0 (roles ++ after) ≡ k.done ++ (open_ended kind place after k.open_one ++ instances_from kind place after)

pub none_yet : (kind : ℕ) → Stands_for kind 0 [] (record { done = []; open_one = None })
none_yet kind = record { are = λ after. refl }

-- what a line does to what follows it
abbrev After : ℕ → ℕ → Role → List Role → Kept → Kept → Type 0
After kind place role after old new =
    old.done ++ (open_ended kind place (role ∷ after) old.open_one ++ instances_from kind place (role ∷ after))
    ≡ new.done ++ (open_ended kind (past place role) after new.open_one ++ instances_from kind (past place role) after)

-- a line that is no tag of the kind
other : (kind place : ℕ) (role : Role) (after : List Role) (k : Kept) (o : Option Began) → is_tag_of kind role ≡ false → begun kind place after role ≡ [] →
    k.done ++ (open_ended kind place (role ∷ after) o ++ instances_from kind place (role ∷ after)) ≡ k.done ++ (open_ended kind (past place role) after o ++ instances_from kind (past place role) after)
other kind place role after k None t b = rw b refl
other kind place role after k (Some began) t b = rw (t, b) refl

-- a tag of the kind ends the open instance
ends_open : (kind place : ℕ) (role : Role) (after : List Role) (o : Option Began) → is_tag_of kind role ≡ true → open_ended kind place (role ∷ after) o ≡ closed_at kind place o
ends_open kind place role after None t = refl
ends_open kind place role after (Some began) t = rw t refl

closes : (kind place : ℕ) (role : Role) (after : List Role) (k : Kept) → is_tag_of kind role ≡ true →
    k.done ++ (open_ended kind place (role ∷ after) k.open_one ++ (begun kind place after role ++ instances_from kind (past place role) after))
    ≡ (k.done ++ closed_at kind place k.open_one) ++ (begun kind place after role ++ instances_from kind (past place role) after)
closes kind place role after k t =
    ap (λ s. k.done ++ (s ++ (begun kind place after role ++ instances_from kind (past place role) after))) (ends_open kind place role after k.open_one t)
    ∙ sym (append_assoc k.done (closed_at kind place k.open_one) (begun kind place after role ++ instances_from kind (past place role) after))

opens_case : (b : Bool) (kind place number : ℕ) (values : List (List ℕ)) (after : List Role) (k : Kept) → (number == kind) ≡ b → After kind place (Opens number values) after k (step kind place (Opens number values) k)
opens_case true kind place number values after k e = closes kind place (Opens number values) after k e ∙ rw e refl
opens_case false kind place number values after k e = other kind place (Opens number values) after k k.open_one e (rw e refl) ∙ rw e refl

stands_case : (b : Bool) (kind place number : ℕ) (values : List (List ℕ)) (after : List Role) (k : Kept) → (number == kind) ≡ b → After kind place (Stands number values) after k (step kind place (Stands number values) k)
stands_case true kind place number values after k e =
    closes kind place (Stands number values) after k e
    ∙ rw e (sym (append_assoc (k.done ++ closed_at kind place k.open_one) ((record { kind = kind; begin = place; end = place; values = values }) ∷ []) (instances_from kind place after)))
stands_case false kind place number values after k e = other kind place (Stands number values) after k k.open_one e (rw e refl) ∙ rw e refl

closes_case : (b : Bool) (kind place number : ℕ) (after : List Role) (k : Kept) → (number == kind) ≡ b → After kind place (Closes number) after k (step kind place (Closes number) k)
closes_case true kind place number after k e = closes kind place (Closes number) after k e ∙ rw e refl
closes_case false kind place number after k e = other kind place (Closes number) after k k.open_one e refl ∙ rw e refl

after_line : (kind place : ℕ) (role : Role) (after : List Role) (k : Kept) → After kind place role after k (step kind place role k)
after_line kind place Passes after k = other kind place Passes after k k.open_one refl refl
after_line kind place (Opens number values) after k = opens_case (number == kind) kind place number values after k refl
after_line kind place (Stands number values) after k = stands_case (number == kind) kind place number values after k refl
after_line kind place (Closes number) after k = closes_case (number == kind) kind place number after k refl
after_line kind place (Gives token) after k = other kind place (Gives token) after k k.open_one refl refl

-- a line more
pub line_more : (kind place : ℕ) (roles : List Role) (role : Role) (k : Kept) → Stands_for kind place roles k → Stands_for kind (past place role) (roles ++ role ∷ []) (step kind place role k)
line_more kind place roles role k s = record {
  are = λ after. ap (instances_from kind 0) (append_assoc roles (role ∷ []) after) ∙ s.are (role ∷ after) ∙ after_line kind place role after k;
}

append_nil : {A : Type 0} → (xs : List A) → xs ++ [] ≡ xs
append_nil [] = refl
append_nil (x ∷ xs) = ap (λ ys. x ∷ ys) (append_nil xs)

at_end : (kind place : ℕ) (o : Option Began) → open_ended kind place [] o ≡ closed_at kind place o
at_end kind place None = refl
at_end kind place (Some began) = refl

-- behind the last line
pub all_ended : (kind place : ℕ) (roles : List Role) (k : Kept) → Stands_for kind place roles k → (ended kind place k).done ≡ instances_from kind 0 roles
all_ended kind place roles k s =
    sym (ap (instances_from kind 0) (sym (append_nil roles)) ∙ s.are [] ∙ ap (λ xs. k.done ++ xs) (append_nil (open_ended kind place [] k.open_one) ∙ at_end kind place k.open_one))

take_more : (ks : List Kept) (n : ℕ) (d : Kept) → n < length ks → take (n + 1) ks ≡ take n ks ++ get_or ks n d ∷ []
take_more ks n d l = grind (arith, common_steps)

taken_len : (ks : List Kept) (n : ℕ) → n ≤ length ks → length (take n ks) ≡ n
taken_len ks n l = grind (arith, common_steps)

gathered_first : (n place : ℕ) (roles : List Role) (ks : List Kept) (d : Kept) → n ≤ length ks → ((kind : ℕ) → kind < length ks → Stands_for kind place roles (get_or ks kind d)) →
    gathered 0 place (take n ks) ≡ instances_in n roles
gathered_first zero place roles ks d l each = refl
gathered_first (suc n) place roles ks d l each =
    let low : n < length ks = omega arith in
    let more : suc n ≡ n + 1 = omega arith in
    let count : 0 + length (take n ks) ≡ n = omega (arith, taken_len ks n (omega arith)) in
    ap (λ m. gathered 0 place (take m ks)) more ∙ ap (gathered 0 place) (take_more ks n d low) ∙ gathered_push 0 place (take n ks) (get_or ks n d)
    ∙ ap (λ m. gathered 0 place (take n ks) ++ (ended m place (get_or ks n d)).done) count
    ∙ ap (λ xs. xs ++ (ended n place (get_or ks n d)).done) (gathered_first n place roles ks d (omega arith) each)
    ∙ ap (λ xs. instances_in n roles ++ xs) (all_ended n place roles (get_or ks n d) (each n low))

take_all : (ks : List Kept) → take (length ks) ks ≡ ks
take_all ks = grind (arith, common_steps)

-- the instances of all kinds
pub gathered_all : (place : ℕ) (roles : List Role) (ks : List Kept) (d : Kept) → ((kind : ℕ) → kind < length ks → Stands_for kind place roles (get_or ks kind d)) →
    gathered 0 place ks ≡ instances_in (length ks) roles
gathered_all place roles ks d each = ap (gathered 0 place) (sym (take_all ks)) ∙ gathered_first (length ks) place roles ks d (omega arith) each
