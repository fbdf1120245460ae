-- Values that are marked one after another.
use Rattle.std.proofs.Common.{◌≡◌, ℕ, suc, ◌+◌, ◌-◌, ◌<◌, ◌≤◌, Bool, true, false, List, [], ◌∷◌, ◌++◌, length, map, take, get_or, set, replicate, slice_get, Some, refl, sym, ◌∙◌, ap, ap₂, subst, arith}
use Rattle.std.specs.Bool.{OnTrue, OnFalse}
use Rattle.std.specs.List.{AllZip}
use Rattle.std.proofs.lemmas.List.{append-nil, append_assoc, length-map, length-set, length-take-le, map_more, take_more, take_all}
use Rattle.std.proofs.lemmas.Option.{slice_get_within, get_or_from_slice_get}

-- the values before a place are marked as the test says, and no later one is marked
abbrev pub Marked : (List ℕ → Bool) → List (List ℕ) → ℕ → List Bool → Type 0
Marked test values id marks = marks ≡ map test (take id values) ++ replicate (length values - id) false

pub none_marked : (test : List ℕ → Bool) (values : List (List ℕ)) (count : ℕ) → count ≡ length values → Marked test values 0 (replicate count false)
none_marked test values count e = ap (λ n. replicate n false) (e ∙ less_none (length values))
  where
    less_none : (n : ℕ) → n ≡ n - 0
    less_none n = omega arith

set_at_seam : (front back : List Bool) (b c : Bool) → set (front ++ b ∷ back) (length front) c ≡ front ++ c ∷ back
set_at_seam [] back b c = refl
set_at_seam (x ∷ front) back b c = ap (λ (l : List Bool). x ∷ l) (set_at_seam front back b c)

-- the marks at a place: what the test says before it, one that is not set, and the others
opened : (test : List ℕ → Bool) (values : List (List ℕ)) (id : ℕ) (marks : List Bool) → Marked test values id marks → id < length values →
    marks ≡ map test (take id values) ++ false ∷ replicate (length values - (id + 1)) false
opened test values id marks h l =
    let n : length values - id ≡ suc (length values - (id + 1)) = omega arith in
    h ∙ ap (λ k. map test (take id values) ++ replicate k false) n

more : (test : List ℕ → Bool) (values : List (List ℕ)) (id : ℕ) (value : List ℕ) (b : Bool) → slice_get values id ≡ Some value → test value ≡ b →
    map test (take id values) ++ b ∷ replicate (length values - (id + 1)) false ≡ map test (take (id + 1) values) ++ replicate (length values - (id + 1)) false
more test values id value b at e =
    let here : get_or values id [] ≡ value = get_or_from_slice_get values id value [] at in
    let l : id < length values = slice_get_within values id value at in
    let rest : List Bool = replicate (length values - (id + 1)) false in
    let one : map test (take id values) ++ b ∷ [] ≡ map test (take (id + 1) values) = ap (λ c. map test (take id values) ++ c ∷ []) (sym e ∙ ap test (sym here)) ∙ sym (map_more test values id [] l) in
    sym (append_assoc (map test (take id values)) (b ∷ []) rest) ∙ ap (λ front. front ++ rest) one

not_marked : (test : List ℕ → Bool) (values : List (List ℕ)) (id : ℕ) (marks : List Bool) (value : List ℕ) → Marked test values id marks → slice_get values id ≡ Some value →
    test value ≡ false → Marked test values (id + 1) marks
not_marked test values id marks value h at e =
    opened test values id marks h (slice_get_within values id value at) ∙ more test values id value false at e

one_marked : (test : List ℕ → Bool) (values : List (List ℕ)) (id : ℕ) (marks : List Bool) (value : List ℕ) → Marked test values id marks → slice_get values id ≡ Some value →
    test value ≡ true → Marked test values (id + 1) (set marks id true)
one_marked test values id marks value h at e =
    let l : id < length values = slice_get_within values id value at in
    let front : List Bool = map test (take id values) in
    let n : id ≡ length front = sym (length-map (take id values) test ∙ length-take-le id values (omega arith)) in
    ap (λ m. set m id true) (opened test values id marks h l) ∙ ap (λ k. set (front ++ false ∷ replicate (length values - (id + 1)) false) k true) n
    ∙ set_at_seam front (replicate (length values - (id + 1)) false) false true ∙ more test values id value true at e

pub marked_if : (test : List ℕ → Bool) (values : List (List ℕ)) (id : ℕ) (marks new : List Bool) (value : List ℕ) (b : Bool) → Marked test values id marks →
    slice_get values id ≡ Some value → b ≡ test value → OnTrue b (new ≡ set marks id true) → OnFalse b (new ≡ marks) → Marked test values (id + 1) new
marked_if test values id marks new value true h at e on off = on ∙ one_marked test values id marks value h at (sym e)
marked_if test values id marks new value false h at e on off = off ∙ not_marked test values id marks value h at (sym e)

pub sized : (new marks : List Bool) (id : ℕ) (b : Bool) → OnTrue b (new ≡ set marks id true) → OnFalse b (new ≡ marks) → length new ≡ length marks
sized new marks id true on off = ap length on ∙ length-set marks id true
sized new marks id false on off = ap length off

pub all_marked : (test : List ℕ → Bool) (values : List (List ℕ)) (id : ℕ) (marks : List Bool) → Marked test values id marks → length values ≤ id → marks ≡ map test values
all_marked test values id marks h l =
    let n : length values - id ≡ 0 = omega arith in
    h ∙ ap₂ (λ front k. map test front ++ replicate k false) (take_all id values l) n ∙ append-nil (map test values)

-- ---- one set for each lexicon

-- one more pair of two lists that go together
pub one_more_pair : {X Y : Type 0} (R : X → Y → Type 0) (xs : List X) (ys : List Y) (x : X) (y : Y) → AllZip R xs ys → R x y → AllZip R (xs ++ x ∷ []) (ys ++ y ∷ [])
one_more_pair R [] [] x y all one = (one, tt)
one_more_pair R [] (b ∷ ys) x y all one = absurd all
one_more_pair R (a ∷ xs) [] x y all one = absurd all
one_more_pair R (a ∷ xs) (b ∷ ys) x y all one = (all.0, one_more_pair R xs ys x y all.1 one)

take_one_more : {X : Type 0} (xs : List X) (at : ℕ) (x : X) → at < length xs → x ≡ get_or xs at x → take (at + 1) xs ≡ take at xs ++ x ∷ []
take_one_more {X = X} xs at x l e = take_more xs at x l ∙ ap (λ (y : X). take at xs ++ y ∷ []) (sym e)

-- the pairs before a place, and that at it
pub next_pair : {X Y : Type 0} (R : X → Y → Type 0) (xs : List X) (ys : List Y) (at : ℕ) (x : X) (y : Y) → at < length xs → x ≡ get_or xs at x → AllZip R (take at xs) ys → R x y →
    AllZip R (take (at + 1) xs) (ys ++ y ∷ [])
next_pair {X = X} R xs ys at x y l e all one = subst (λ (front : List X). AllZip R front (ys ++ y ∷ [])) (sym (take_one_more xs at x l e)) (one_more_pair R (take at xs) ys x y all one)

-- what is mapped before a place, and what is at it
pub next_mapped : {X Y : Type 0} (f : X → Y) (xs : List X) (ys : List Y) (at : ℕ) (x : X) (y : Y) → at < length xs → x ≡ get_or xs at x → ys ≡ map f (take at xs) → y ≡ f x →
    ys ++ y ∷ [] ≡ map f (take (at + 1) xs)
next_mapped {Y = Y} f xs ys at x y l e before is =
    ap₂ (λ (front : List Y) (z : Y). front ++ z ∷ []) before (is ∙ ap f e) ∙ sym (map_more f xs at x l)

pub whole_mapped : {X Y : Type 0} (f : X → Y) (xs : List X) (ys : List Y) (at : ℕ) → length xs ≤ at → ys ≡ map f (take at xs) → ys ≡ map f xs
whole_mapped f xs ys at l is = is ∙ ap (map f) (take_all at xs l)

pub pairs_of : {X Y : Type 0} (f : X → Y) (R : X → Y → Type 0) (xs : List X) → ((x : X) → R x (f x)) → AllZip R xs (map f xs)
pairs_of f R [] h = tt
pairs_of f R (x ∷ xs) h = (h x, pairs_of f R xs h)

-- the only pair
pub only_pair : {X Y : Type 0} (R : X → Y → Type 0) (x : X) (ys front : List Y) (y : Y) → AllZip R (x ∷ []) ys → ys ≡ front ++ y ∷ [] → R x y
only_pair R x [] front y all e = absurd all
only_pair R x (a ∷ b ∷ ys) front y all e = absurd all.1
only_pair R x (a ∷ []) [] y all e =
    let same : a ≡ y = cc in
    subst (R x) same all.0
only_pair R x (a ∷ []) (b ∷ []) y all e = cc
only_pair R x (a ∷ []) (b ∷ d ∷ front) y all e = cc
