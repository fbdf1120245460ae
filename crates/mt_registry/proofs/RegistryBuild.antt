-- What the loops that build a registry keep.
use Rattle.std.proofs.Common.{ℕ, ◌≡◌, ◌+◌, ◌<◌, ◌≤◌, Bool, true, false, cond, not, ◌==◌, ◌&&◌, Some, List, [], ◌∷◌, ◌++◌, length, map, take, get_or, nat_eq, refl, sym, ◌∙◌, ap, subst, arith}
use Rattle.std.specs.List.{filter, find, Contains}
use Rattle.std.specs.Cmp.Lexicographic.{pointwise}
use Rattle.std.proofs.lemmas.Grind.{common_steps}
use Rattle.std.proofs.lemmas.List.Elements.{filter_more}
use Rattle.std.proofs.lemmas.List.Sums.{prefix_len-le-length}
use Rattle.std.proofs.lemmas.List.{take_more}
use Rattle.mt_text_spec.specs.Words.{IsIdentifier, is_identifier_byte}
use Rattle.mt_file_spec.specs.RegistryFile.{Keyword, Attribute, Structure, Dynamic, FromAttr, WsAttr, Statement, same_keyword, gives, attributes_of, number_of}
use Rattle.mt_registry.specs.Sound.{IsSound, IsKnown}
use Rattle.mt_registry.proofs.Splits.{found, find_all}

pub number_within : (name : List ℕ) (all : List Statement) → number_of name all ≤ length (attributes_of all)
number_within name all = prefix_len-le-length (λ s. not (pointwise nat_eq s.value name)) (attributes_of all)

is_small : (b : ℕ) → is_identifier_byte b ≡ true → b < 128
is_small b e = grind (arith, common_steps)

-- a name with one byte more, which is a character
pub one_more_byte : (name seen old new code : List ℕ) (k ch : ℕ) → IsIdentifier name → seen ≡ name → k < length seen → ch ≡ get_or seen k 0 → (ch < 128 → code ≡ ch ∷ []) → old ≡ take k seen →
    new ≡ old ++ code → new ≡ take (k + 1) seen
one_more_byte name seen old new code k ch good s l e spelled o n =
    let at : get_or seen k 0 ≡ get_or name k 0 = ap (λ bs. get_or bs k 0) s in
    let small : ch < 128 = omega (arith, e, at, is_small (get_or name k 0) (good.each k 0 (omega (arith, l, ap length s)))) in
    n ∙ ap (λ bs. bs ++ code) o ∙ ap (λ c. take k seen ++ c) (spelled small ∙ ap (λ x. x ∷ []) e) ∙ sym (take_more seen k 0 l)

pub all_bytes : (seen old : List ℕ) (k : ℕ) → old ≡ take k seen → length seen ≤ k → old ≡ seen
all_bytes seen old k o l = o ∙ grind (arith, common_steps)

map-append : {A B : Type 0} (f : A → B) (xs ys : List A) → map f (xs ++ ys) ≡ map f xs ++ map f ys
map-append f [] ys = refl
map-append f (x ∷ xs) ys = ap (λ zs. f x ∷ zs) (map-append f xs ys)

-- one more that passes, or does not
pub one_kept : {A B : Type 0} (f : A → B) (p : A → Bool) (xs : List A) (i : ℕ) (x : A) → i < length xs → x ≡ get_or xs i x → p x ≡ true →
    map f (filter p (take (i + 1) xs)) ≡ map f (filter p (take i xs)) ++ f x ∷ []
one_kept f p xs i x l e t =
    ap (map f) (filter_more p xs i x l ∙ ap (λ y. filter p (take i xs) ++ cond (p y) (y ∷ []) []) (sym e) ∙ ap (λ b. filter p (take i xs) ++ cond b (x ∷ []) []) t)
    ∙ map-append f (filter p (take i xs)) (x ∷ [])

pub one_dropped : {A B : Type 0} (f : A → B) (p : A → Bool) (xs : List A) (i : ℕ) (x : A) → i < length xs → x ≡ get_or xs i x → p x ≡ false →
    map f (filter p (take (i + 1) xs)) ≡ map f (filter p (take i xs))
one_dropped f p xs i x l e t =
    ap (map f) (filter_more p xs i x l ∙ ap (λ y. filter p (take i xs) ++ cond (p y) (y ∷ []) []) (sym e) ∙ ap (λ b. filter p (take i xs) ++ cond b (x ∷ []) []) t)
    ∙ map-append f (filter p (take i xs)) [] ∙ (let n : map f (filter p (take i xs)) ++ [] ≡ map f (filter p (take i xs)) = grind (arith, common_steps) in n)

is_dynamic : (keyword : Keyword) (rest : Bool) → (same_keyword Dynamic keyword && rest) ≡ true → keyword ≡ Dynamic
is_dynamic Attribute rest e = cc
is_dynamic Structure rest e = cc
is_dynamic Dynamic rest e = refl
is_dynamic FromAttr rest e = cc
is_dynamic WsAttr rest e = cc

-- the mapper that is found is at hand
pub mapper_is_known : (mappers : List (List ℕ)) (all : List Statement) (place : ℕ) (statement : Statement) (name : List ℕ) → IsSound mappers all →
    find (gives Dynamic place) all ≡ Some statement → name ≡ statement.value → Contains mappers name
mapper_is_known mappers all place statement name sound e is =
    let f = found (gives Dynamic place) all statement e in
    subst (λ (n : List ℕ). Contains mappers n) (sym is)
    (find_all (IsKnown mappers) (gives Dynamic place) all statement sound.known e (is_dynamic statement.keyword (statement.place == place) f.passes))
