-- Items are moved to the front of their list as they are kept.
use Rattle.std.proofs.Common.{◌≡◌, ℕ, ◌+◌, ◌≤◌, ◌<◌, Bool, true, false, List, [], ◌∷◌, ◌++◌, length, take, drop, set, get_or, refl, ap, ap₂, sym, ◌∙◌, append_assoc, append-nil, length-set, arith}
use Rattle.std.proofs.lemmas.List.{take_more, drop_more, take-set, drop_all, drop-set-lt, get_or-set_same}
use Rattle.mt_rows.specs.Marks.{kept}

pub kept_none : {X : Type 0} (marks : List Bool) → kept {X = X} marks [] ≡ []
kept_none [] = refl
kept_none (mark ∷ marks) = refl

pub kept_short : {X Y : Type 0} (marks : List Bool) (xs : List X) (ys : List Y) → length xs ≤ length ys → length (kept marks xs) ≤ length (kept marks ys)
kept_short [] xs ys l = omega arith
kept_short (mark ∷ marks) [] ys l = omega arith
kept_short (mark ∷ marks) (x ∷ xs) [] l = absurd (omega (arith, l))
kept_short (true ∷ marks) (x ∷ xs) (y ∷ ys) l = let h = kept_short marks xs ys (omega (arith, l)) in omega (arith, h)
kept_short (false ∷ marks) (x ∷ xs) (y ∷ ys) l = kept_short marks xs ys (omega (arith, l))

-- of the first i items those that are kept stand in the first places, and the others are as they were
pub record Keeping {X : Type 0} (marks : List Bool) (old now : List X) (count i : ℕ) : Type 0 where
  pub behind : count ≤ i
  pub within : i ≤ length now
  pub long : length now ≡ length old
  pub left : take count now ++ kept (drop i marks) (drop i now) ≡ kept marks old

pub keeping_none : {X : Type 0} (marks : List Bool) (old : List X) → Keeping marks old old 0 0
keeping_none marks old = record { behind = omega arith; within = omega arith; long = refl; left = refl }

-- the marks and the items from number i on
opened : {X : Type 0} (marks : List Bool) (now : List X) (i : ℕ) (x : X) (d : Bool) → i < length now → i < length marks → x ≡ get_or now i x →
    kept (drop i marks) (drop i now) ≡ kept (get_or marks i d ∷ drop (i + 1) marks) (x ∷ drop (i + 1) now)
opened marks now i x d inside marked is = ap₂ kept (drop_more marks i d marked) (drop_more now i x inside ∙ ap (λ y. y ∷ drop (i + 1) now) (sym is))

kept_skip : {X : Type 0} (mark : Bool) (marks : List Bool) (x : X) (xs : List X) → mark ≡ false → kept (mark ∷ marks) (x ∷ xs) ≡ kept marks xs
kept_skip true marks x xs e = cc
kept_skip false marks x xs e = refl

kept_take : {X : Type 0} (mark : Bool) (marks : List Bool) (x : X) (xs : List X) → mark ≡ true → kept (mark ∷ marks) (x ∷ xs) ≡ x ∷ kept marks xs
kept_take true marks x xs e = refl
kept_take false marks x xs e = cc

skipped : {X : Type 0} (marks : List Bool) (now : List X) (i : ℕ) (d : Bool) → i < length now → i < length marks → get_or marks i d ≡ false →
    kept (drop (i + 1) marks) (drop (i + 1) now) ≡ kept (drop i marks) (drop i now)
skipped marks [] i d inside marked e = absurd (omega (arith, inside))
skipped marks (y ∷ ys) i d inside marked e =
    let now = y ∷ ys in
    sym (ap₂ kept (drop_more marks i d marked) (drop_more now i y inside) ∙ kept_skip (get_or marks i d) (drop (i + 1) marks) (get_or now i y) (drop (i + 1) now) e)

-- an item was put behind those that are kept
put : {X : Type 0} (now : List X) (count i : ℕ) (x : X) → count ≤ i → i < length now → take (count + 1) (set now count x) ≡ take count now ++ x ∷ []
put now count i x behind inside =
    let room : count < length now = omega (arith, behind, inside) in
    take_more (set now count x) count x (omega (arith, room, length-set now count x)) ∙ ap₂ (λ a y. a ++ y ∷ []) (take-set now count x) (get_or-set_same now count x x room)

pub keeping_skip : {X : Type 0} (marks : List Bool) (old now : List X) (count i : ℕ) (x : X) (d : Bool) → Keeping marks old now count i → i < length now → length old ≤ length marks → get_or marks i d ≡ false →
    Keeping marks old (set now count x) count (i + 1)
keeping_skip marks old now count i x d k inside enough e =
    let rest : drop (i + 1) (set now count x) ≡ drop (i + 1) now = drop-set-lt (i + 1) now count x (omega (arith, k.behind)) in
    record {
      behind = omega (arith, k.behind);
      within = omega (arith, inside, length-set now count x);
      long = length-set now count x ∙ k.long;
      left = ap₂ (λ a b. a ++ kept (drop (i + 1) marks) b) (take-set now count x) rest ∙ ap (λ b. take count now ++ b) (skipped marks now i d inside (omega (arith, inside, enough, k.long)) e) ∙ k.left;
    }

pub keeping_take : {X : Type 0} (marks : List Bool) (old now : List X) (count i : ℕ) (x : X) (d : Bool) → Keeping marks old now count i → i < length now → length old ≤ length marks → x ≡ get_or now i x → get_or marks i d ≡ true →
    Keeping marks old (set now count x) (count + 1) (i + 1)
keeping_take marks old now count i x d k inside enough is e =
    let marked : i < length marks = omega (arith, inside, enough, k.long) in
    let rest : drop (i + 1) (set now count x) ≡ drop (i + 1) now = drop-set-lt (i + 1) now count x (omega (arith, k.behind)) in
    let more = kept (drop (i + 1) marks) (drop (i + 1) now) in
    let turned : kept (drop i marks) (drop i now) ≡ x ∷ more =
    opened marks now i x d inside marked is ∙ kept_take (get_or marks i d) (drop (i + 1) marks) x (drop (i + 1) now) e in
    record {
      behind = omega (arith, k.behind);
      within = omega (arith, inside, length-set now count x);
      long = length-set now count x ∙ k.long;
      left = ap₂ (λ a b. a ++ kept (drop (i + 1) marks) b) (put now count i x k.behind inside) rest ∙ append_assoc (take count now) (x ∷ []) more ∙ ap (λ b. take count now ++ b) (sym turned) ∙ k.left;
    }

pub keeping_all : {X : Type 0} (marks : List Bool) (old now : List X) (count i : ℕ) → Keeping marks old now count i → length now ≤ i → take count now ≡ kept marks old
keeping_all marks old now count i k l =
    sym (append-nil (take count now)) ∙ ap (λ rest. take count now ++ rest) (sym (ap (kept (drop i marks)) (drop_all i now l) ∙ kept_none (drop i marks))) ∙ k.left
