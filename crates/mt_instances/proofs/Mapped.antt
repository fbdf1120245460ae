-- Instances by their entries: each stands for another one, where names differ.
use Rattle.std.proofs.Common.{◌≡◌, ℕ, zero, suc, ◌<◌, ◌⊎◌, inl, inr, Option, Some, None, List, [], ◌∷◌, length, map, slice_get, refl, ap, subst, ◌∙◌, arith}
use Rattle.std.specs.List.{Contains}
use Rattle.std.proofs.lemmas.List.Elements.{All-head, All-tail, All-contains, All-weaker, All-contains_itself}
use Rattle.std.proofs.lemmas.Option.{slice_get-get_or}
use Rattle.mt_count_spec.specs.Counts.{EachOnce}
use Rattle.mt_counts.specs.Names.{AreDistinct}
use Rattle.mt_counts.specs.Tables.{text_at}
use Rattle.mt_counts.specs.declared.note.Note.{Note}
use Rattle.mt_instances.specs.Entries.{instance_at, instance_of, AreNamed}
use Rattle.mt_instances.specs.Members.{HaveSameItems}

-- ---- members of a list, also of one that is mapped

pub at_head : {X : Type 0} (x : X) (xs : List X) → Contains (x ∷ xs) x
at_head x xs = (0, omega arith, refl)

pub behind : {X : Type 0} (x y : X) (xs : List X) → Contains xs y → Contains (x ∷ xs) y
behind x y xs (k, l, e) = (suc k, omega (arith, l), e)

pub either : {X : Type 0} (x y : X) (xs : List X) → Contains (x ∷ xs) y → (x ≡ y) ⊎ Contains xs y
either x y xs (zero, l, e) = inl e
either x y xs (suc k, l, e) = inr (k, omega (arith, l), e)

pub mapped : {X Y : Type 0} (f : X → Y) (xs : List X) (x : X) → Contains xs x → Contains (map f xs) (f x)
mapped f [] x h = absurd (omega (arith, h.1))
mapped {X} {Y} f (y ∷ xs) x h = by (either y x xs h) (mapped f xs x)
  where
    by : (y ≡ x) ⊎ Contains xs x → (Contains xs x → Contains (map f xs) (f x)) → Contains (f y ∷ map f xs) (f x)
    by (inl e) rest = subst (λ (z : X). Contains (f y ∷ map f xs) (f z)) e (at_head (f y) (map f xs))
    by (inr g) rest = behind (f y) (f x) (map f xs) (rest g)

pub record Origin {X Y : Type 0} (f : X → Y) (xs : List X) (y : Y) : Type 0 where
  pub item : X
  pub there : Contains xs item
  pub is : f item ≡ y

pub origin : {X Y : Type 0} (f : X → Y) (xs : List X) (y : Y) → Contains (map f xs) y → Origin f xs y
origin f [] y h = absurd (omega (arith, h.1))
origin {X} {Y} f (x ∷ xs) y h = by (either (f x) y (map f xs) h) (origin f xs y)
  where
    by : (f x ≡ y) ⊎ Contains (map f xs) y → (Contains (map f xs) y → Origin f xs y) → Origin f (x ∷ xs) y
    by (inl e) rest = record { item = x; there = at_head x xs; is = e }
    by (inr g) rest = let o = rest g in record { item = o.item; there = behind x o.item xs o.there; is = o.is }

pub mapped_same : {X Y : Type 0} (f : X → Y) (xs ys : List X) → HaveSameItems xs ys → HaveSameItems (map f xs) (map f ys)
mapped_same {X} {Y} f xs ys h = record { to = λ y c. on xs ys h.to y c; from = λ y c. on ys xs h.from y c }
  where
    on : (xs ys : List X) → ((x : X) → Contains xs x → Contains ys x) → (y : Y) → Contains (map f xs) y → Contains (map f ys) y
    on xs ys to y c = let o = origin f xs y c in subst (Contains (map f ys)) o.is (mapped f ys o.item (to o.item o.there))

-- ---- instances

pub named_same : (names : ℕ) (xs ys : List Note) → HaveSameItems xs ys → AreNamed names xs → AreNamed names ys
named_same names xs ys h named =
    All-weaker (Contains ys) (λ (e : Note). e.name < names) (λ e c. All-contains (λ (x : Note). x.name < names) xs e named (h.from e c)) ys (All-contains_itself ys)

record SameParts (n m : List ℕ) (a b : ℕ) (p q : Option ℕ) : Type 0 where
  name : n ≡ m
  first : a ≡ b
  second : p ≡ q

same_parts : (n m : List ℕ) (a b : ℕ) (p q : Option ℕ) → instance_at n a p ≡ instance_at m b q → SameParts n m a b p q
same_parts n m a b None None e = record { name = cc; first = cc; second = refl }
same_parts n m a b None (Some q) e = cc
same_parts n m a b (Some p) None e = cc
same_parts n m a b (Some p) (Some q) e = record { name = cc; first = cc; second = let same : p ≡ q = cc in ap Some same }

there_at : (names : List (List ℕ)) (n : ℕ) → n < length names → slice_get names n ≡ Some (text_at names n)
there_at names n l = slice_get-get_or names n [] l

same_entry : (names : List (List ℕ)) → AreDistinct names → (e f : Note) → e.name < length names → f.name < length names → instance_of names e ≡ instance_of names f → e ≡ f
same_entry names distinct e f l m h =
    let parts = same_parts (text_at names e.name) (text_at names f.name) e.first f.first e.second f.second h in
    let name = distinct (text_at names f.name) e.name f.name (there_at names e.name l ∙ ap Some parts.name) (there_at names f.name m) in
    λ i. record { name = name i; first = parts.first i; second = parts.second i }

pub instances_once : (names : List (List ℕ)) (entries : List Note) → AreDistinct names → AreNamed (length names) entries → EachOnce entries → EachOnce (map (instance_of names) entries)
instances_once names [] distinct named once = tt
instances_once names (e ∷ entries) distinct named once =
    let rest = All-tail (λ (x : Note). x.name < length names) e entries named in
    let here = All-head (λ (x : Note). x.name < length names) e entries named in (
      λ h. let o = origin (instance_of names) entries (instance_of names e) h in
          once.0 (subst (Contains entries) (same_entry names distinct o.item e (All-contains (λ (x : Note). x.name < length names) entries o.item rest o.there) here o.is) o.there),
      instances_once names entries distinct rest once.1,
    )
