-- Lists that grow at their end.
use Rattle.std.proofs.Common.{◌≡◌, ℕ, ◌+◌, ◌<◌, ◌≤◌, Bool, true, List, [], ◌∷◌, ◌++◌, length, map, take, get_or, refl, sym, ◌∙◌, ap, subst, arith, append_assoc, append-nil, Option, None, Some, is_none}
use Rattle.std.specs.List.{All}
use Rattle.std.proofs.lemmas.List.{take_more, take_all}
use Rattle.std.proofs.lemmas.List.Elements.{All-push}
use Rattle.mt_text_spec.specs.Registries.{Attr, is_base}

-- ---- parts of what is left

pub part_more : {X Y : Type 0} (f : X → Y) (xs new all : List Y) (old rest : List X) (x : X) (y : Y) → new ≡ xs ++ y ∷ [] → y ≡ f x → old ≡ x ∷ rest → xs ++ map f old ≡ all → new ++ map f rest ≡ all
part_more f xs new all old rest x y more is next e =
    ap (λ ys. ys ++ map f rest) (more ∙ ap (λ z. xs ++ z ∷ []) is) ∙ append_assoc xs (f x ∷ []) (map f rest) ∙ ap (λ zs. xs ++ map f zs) (sym next) ∙ e

pub parts_done : {X Y : Type 0} (f : X → Y) (xs all : List Y) (rest : List X) → length rest ≡ 0 → xs ++ map f rest ≡ all → xs ≡ all
parts_done f xs all [] none e = sym (append-nil xs) ∙ e
parts_done f xs all (x ∷ rest) none e = absurd (omega (arith, none))

-- ---- attributes

none_from : (base : Option ℕ) (b : Bool) → b ≡ is_none base → b ≡ true → base ≡ None
none_from None b e t = refl
none_from (Some n) b e t = cc

pub bases_more : (attrs : List Attr) (i : ℕ) (attr : Attr) (b : Bool) → i < length attrs → attr ≡ get_or attrs i attr → b ≡ is_base attr → b ≡ true → All (λ attr. attr.base ≡ None) (take i attrs) →
    All (λ attr. attr.base ≡ None) (take (i + 1) attrs)
bases_more attrs i attr b l is e t h =
    subst (λ (xs : List Attr). All (λ attr. attr.base ≡ None) xs) (ap (λ (a : Attr). take i attrs ++ a ∷ []) is ∙ sym (take_more attrs i attr l)) (All-push (λ (a : Attr). a.base ≡ None) (take i attrs) attr h (none_from attr.base b e t))

pub bases_all : (attrs : List Attr) (i : ℕ) → length attrs ≤ i → All (λ attr. attr.base ≡ None) (take i attrs) → All (λ attr. attr.base ≡ None) attrs
bases_all attrs i l h = subst (λ (xs : List Attr). All (λ attr. attr.base ≡ None) xs) (take_all i attrs l) h
