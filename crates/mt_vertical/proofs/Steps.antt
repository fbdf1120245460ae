-- What a step of reading was made of, and bytes in front that pass.
use Rattle.std.proofs.Common.{◌≡◌, ℕ, suc, ◌<◌, Bool, true, false, if◌then◌else◌, List, [], ◌∷◌, ◌++◌, length, take, drop, get_or, refl, sym, ◌∙◌, ap, subst, arith, Option, None, Some, IfSome, IfNone}
use Rattle.std.specs.List.{All, AllPass, prefix_len}
use Rattle.std.proofs.lemmas.Grind.{common_steps}
use Rattle.std.proofs.lemmas.List.{take-append-drop}
use Rattle.std.proofs.lemmas.List.Elements.{All-from_get_or}
use Rattle.std.proofs.lemmas.List.Sums.{prefix_len_passes}
use Rattle.mt_vertical.specs.TagReading.{◌>>=◌, starts}

-- ## Steps

pub then_some : {A B P : Type 0} → (o : Option A) (f : A → Option B) (y : B) → o >>= f ≡ Some y → ((x : A) → o ≡ Some x → f x ≡ Some y → P) → P
then_some None f y e k = cc
then_some (Some x) f y e k = k x refl e

pub if_some : {A P : Type 0} → (b : Bool) (o : Option A) (y : A) → (if b then o else None) ≡ Some y → (b ≡ true → o ≡ Some y → P) → P
if_some true o y e k = k refl e
if_some false o y e k = cc

pub same : {A : Type 0} → (x y : A) → Some x ≡ Some y → x ≡ y
same x y e = cc

pub none_some : {A P : Type 0} → (o : Option A) (x : A) → o ≡ None → o ≡ Some x → P
none_some {A} o x e f = let h : ◌≡◌ {A = Option A} None (Some x) = sym e ∙ f in cc

pub some_once : {A : Type 0} → (o : Option A) (x y : A) → o ≡ Some x → o ≡ Some y → x ≡ y
some_once o x y e f = same x y (sym e ∙ f)

pub in_none : {A : Type 0} → (r : Option A) {P : Type 0} → P → IfNone r P
in_none None p = p
in_none (Some x) p = tt

pub some_then : {A : Type 0} → (r : Option A) {P Q : A → Type 0} → IfSome r P → ((x : A) → P x → Q x) → IfSome r Q
some_then None h k = tt
some_then (Some x) h k = k x h

pub none_then : {A : Type 0} → (r : Option A) {P Q : Type 0} → IfNone r P → (P → Q) → IfNone r Q
none_then None h k = k h
none_then (Some x) h k = tt

pub at_none : {A P : Type 0} → (o : Option A) → o ≡ None → IfNone o P → P
at_none None e p = p
at_none (Some x) e p = cc

pub at_some : {A : Type 0} → (P : A → Type 0) (o : Option A) (x : A) → o ≡ Some x → IfSome o P → P x
at_some {A} P o x e p = let Q : Option A → Type 0 = λ o. IfSome o P in subst Q e p

-- ## All that pass

pub all_tail : {X : Type 0} → (P : X → Type 0) (x : X) (xs : List X) → All P (x ∷ xs) → All P xs
all_tail P x xs all k d l = all (suc k) d (omega arith)

pub all_head : {X : Type 0} → (P : X → Type 0) (x : X) (xs : List X) → All P (x ∷ xs) → P x
all_head P x xs all = all 0 x (omega arith)

-- ## Bytes in front

pub front_of : (p : ℕ → Bool) (xs ys : List ℕ) → AllPass p xs → starts p ys ≡ false → prefix_len p (xs ++ ys) ≡ length xs
front_of p [] [] all stop = refl
front_of p [] (y ∷ ys) all stop = rw stop refl
front_of p (x ∷ xs) ys all stop =
    rw (all_head (λ b. p b ≡ true) x xs all, front_of p xs ys (all_tail (λ b. p b ≡ true) x xs all) stop) (omega arith)

pub take_front : (xs ys : List ℕ) → take (length xs) (xs ++ ys) ≡ xs
take_front xs ys = grind (arith, common_steps)

drop_front : (xs ys : List ℕ) → drop (length xs) (xs ++ ys) ≡ ys
drop_front xs ys = grind (arith, common_steps)

pub taken : (p : ℕ → Bool) (xs ys : List ℕ) → AllPass p xs → starts p ys ≡ false → take (prefix_len p (xs ++ ys)) (xs ++ ys) ≡ xs
taken p xs ys all stop = ap (λ n. take n (xs ++ ys)) (front_of p xs ys all stop) ∙ take_front xs ys

pub left_of : (p : ℕ → Bool) (xs ys : List ℕ) → AllPass p xs → starts p ys ≡ false → drop (prefix_len p (xs ++ ys)) (xs ++ ys) ≡ ys
left_of p xs ys all stop = ap (λ n. drop n (xs ++ ys)) (front_of p xs ys all stop) ∙ drop_front xs ys

-- what passes in front, and what stands behind it
pub parts : (p : ℕ → Bool) (bytes : List ℕ) → bytes ≡ take (prefix_len p bytes) bytes ++ drop (prefix_len p bytes) bytes
parts p bytes = sym (take-append-drop (prefix_len p bytes) bytes)

at_front : (xs : List ℕ) (n k : ℕ) → k < n → get_or (take n xs) k 0 ≡ get_or xs k 0
at_front xs n k h = grind (arith, common_steps)

taken_len : (xs : List ℕ) (n k : ℕ) → k < length (take n xs) → k < n
taken_len xs n k h = grind (arith, common_steps)

pub front_passes : (p : ℕ → Bool) (bytes : List ℕ) → AllPass p (take (prefix_len p bytes) bytes)
front_passes p bytes = All-from_get_or (λ b. p b ≡ true) (take (prefix_len p bytes) bytes) 0 (λ k l.
    let low = taken_len bytes (prefix_len p bytes) k l in
    ap p (at_front bytes (prefix_len p bytes) k low) ∙ prefix_len_passes p bytes k 0 low)

-- one passes where the first does
pub some_pass : (p : ℕ → Bool) (bytes : List ℕ) → starts p bytes ≡ true → 0 < length (take (prefix_len p bytes) bytes)
some_pass p [] e = cc
some_pass p (b ∷ bytes) e = rw e (grind (arith, common_steps))
