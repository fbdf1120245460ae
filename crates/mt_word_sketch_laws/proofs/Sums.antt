-- Sums over everything that something holds of.
use Rattle.std.proofs.Common.{◌≡◌, ◌≢◌, ℕ, ◌+◌, ◌≤◌, inl, inr, List, [], ◌∷◌, ◌++◌, length, refl, sym, ◌∙◌, ap, subst, arith}
use Rattle.std.specs.List.{Contains, sum_by}
use Rattle.std.proofs.lemmas.List.Sums.{sum_by-cons}
use Rattle.mt_text_spec.specs.Texts.{Text}
use Rattle.mt_match_laws.proofs.Members.{Member, to_member, from_member}
use Rattle.mt_match_laws.proofs.Deciding.{Decision}
use Rattle.mt_count_spec.specs.Counts.{EachOnce, Number, Summed, OverNone, OverOne}
use Rattle.mt_word_sketch_spec.specs.Thesaurus.{AddUp}

-- a list, cut at one of its items
record Cut {X : Type 0} (x : X) (ys : List X) : Type 0 where
  pub front : List X
  pub back : List X
  pub are : ys ≡ front ++ x ∷ back

cut : {X : Type 0} (x : X) (ys : List X) → Member x ys → Cut x ys
cut x [] m = absurd m
cut x (y ∷ ys) (inl e) = record { front = []; back = ys; are = ap (λ z. z ∷ ys) (sym e) }
cut x (y ∷ ys) (inr m) = let c = cut x ys m in record { front = y ∷ c.front; back = c.back; are = ap (λ zs. y ∷ zs) c.are }

-- without that item the others are still there
others : {X : Type 0} (x z : X) (front back : List X) → z ≢ x → Member z (front ++ x ∷ back) → Member z (front ++ back)
others x z [] back ne (inl e) = absurd (ne e)
others x z [] back ne (inr m) = m
others x z (y ∷ front) back ne (inl e) = inl e
others x z (y ∷ front) back ne (inr m) = inr (others x z front back ne m)

parted : {X : Type 0} (w : X → ℕ) (front back : List X) (x : X) → sum_by w (front ++ x ∷ back) ≡ w x + sum_by w (front ++ back)
parted w [] back x = sum_by-cons w x back
parted w (y ∷ front) back x =
    let rest = parted w front back x in
    let here = sum_by-cons w y (front ++ x ∷ back) in
    let there = sum_by-cons w y (front ++ back) in
    omega (arith, rest, here, there)

-- things of which each is taken once add up to no more than those among which all of them are
no_more : {X : Type 0} (w : X → ℕ) (xs ys : List X) → EachOnce xs → ((x : X) → Member x xs → Member x ys) → sum_by w xs ≤ sum_by w ys
no_more w [] ys once h = omega arith
no_more {X} w (x ∷ xs) ys once h =
    let c = cut x ys (h x (inl refl)) in
    let rest : sum_by w xs ≤ sum_by w (c.front ++ c.back) =
    no_more w xs (c.front ++ c.back) once.1
    (λ z m. others x z c.front c.back (λ e. once.0 (subst (λ v. Contains xs v) e (from_member xs z m))) (subst (λ (all : List X). Member z all) c.are (h z (inr m)))) in
    let whole : sum_by w ys ≡ w x + sum_by w (c.front ++ c.back) = ap (λ (all : List X). sum_by w all) c.are ∙ parted w c.front c.back x in
    let here = sum_by-cons w x xs in
    omega (arith, rest, whole, here)

pub one_total : {X : Type 0} (P : X → Type 0) (w : X → ℕ) (a b : ℕ) → AddUp P w a → AddUp P w b → a ≡ b
one_total P w a b h k =
    let low = no_more w h.all k.all h.once (λ x m. to_member k.all x (k.each x (h.only x (from_member h.all x m)))) in
    let high = no_more w k.all h.all k.once (λ x m. to_member h.all x (h.each x (k.only x (from_member k.all x m)))) in
    let there = h.are in
    let here = k.are in
    omega (arith, low, high, there, here)

-- each of them is within the sum
within_sum : {X : Type 0} (w : X → ℕ) (xs : List X) (x : X) → Member x xs → w x ≤ sum_by w xs
within_sum w [] x m = absurd m
within_sum w (y ∷ ys) x (inl e) = let here = sum_by-cons w y ys in omega (arith, ap w e, here)
within_sum w (y ∷ ys) x (inr m) = let rest = within_sum w ys x m in let here = sum_by-cons w y ys in omega (arith, rest, here)

pub one_within : {X : Type 0} (P : X → Type 0) (w : X → ℕ) (a : ℕ) (x : X) → AddUp P w a → P x → w x ≤ a
one_within P w a x h p = let within = within_sum w h.all x (to_member h.all x (h.each x p)) in let are = h.are in omega (arith, within, are)

-- ---- numbers of things

ones : {X : Type 0} (xs : List X) → sum_by (λ x. 1) xs ≡ length xs
ones [] = refl
ones {X} (x ∷ xs) = let rest = ones xs in let here = sum_by-cons (λ (y : X). 1) x xs in omega (arith, rest, here)

-- what is so of no more things has no greater number
fewer : {X : Type 0} (P Q : X → Type 0) (a b : ℕ) → ((x : X) → P x → Q x) → Number P a → Number Q b → a ≤ b
fewer P Q a b on h k =
    let low = no_more (λ x. 1) h.all k.all h.once (λ x m. to_member k.all x (k.each x (on x (h.only x (from_member h.all x m))))) in
    let left = ones h.all in
    let right = ones k.all in
    let there = h.are in
    let here = k.are in
    omega (arith, low, left, right, there, here)

sums_within : (Of In : Text → ℕ → Type 0) → ((text : Text) (a b : ℕ) → Of text a → In text b → a ≤ b) → (corpus : List Text) (a b : ℕ) → Summed Of corpus a → Summed In corpus b → a ≤ b
sums_within Of In within [] a b OverNone OverNone = omega arith
sums_within Of In within (text ∷ corpus) a b (OverOne t c here rest h r) (OverOne t' c' here' rest' h' r') =
    let one = within text here here' h h' in
    let more = sums_within Of In within corpus rest rest' r r' in
    omega (arith, one, more)

pub numbers_within : {X : Type 0} (P Q : Text → X → Type 0) (corpus : List Text) (a b : ℕ) → ((text : Text) (x : X) → P text x → Q text x) → Summed (λ text here. Number (P text) here) corpus a →
    Summed (λ text here. Number (Q text) here) corpus b → a ≤ b
numbers_within P Q corpus a b on h k = sums_within (λ text here. Number (P text) here) (λ text here. Number (Q text) here) (λ text m n. fewer (P text) (Q text) m n (on text)) corpus a b h k

-- ---- gathering

-- everything with one of these keys that something holds of, each once
pub record Gathered {X Y : Type 0} (key : Y → X) (Q : Y → Type 0) (xs : List X) : Type 0 where
  pub all : List Y
  pub once : EachOnce all
  pub among : (y : Y) → Member y all → Member (key y) xs
  pub only : (y : Y) → Member y all → Q y
  pub each : (y : Y) → Q y → Member (key y) xs → Member y all

-- one with a key
pub record Found {X Y : Type 0} (key : Y → X) (Q : Y → Type 0) (x : X) : Type 0 where
  pub item : Y
  pub is : key item ≡ x
  pub so : Q item

pub gather : {X Y : Type 0} (key : Y → X) (Q : Y → Type 0) → ((x : X) → Decision (Found key Q x)) → ((y z : Y) → Q y → Q z → key y ≡ key z → y ≡ z) → (xs : List X) → EachOnce xs → Gathered key Q xs
gather key Q find one [] once = record { all = []; once = tt; among = λ y m. absurd m; only = λ y m. absurd m; each = λ y q m. absurd m }
gather {X} {Y} key Q find one (x ∷ xs) once = by (find x) (gather key Q find one xs once.1)
  where
    by : Decision (Found key Q x) → Gathered key Q xs → Gathered key Q (x ∷ xs)
    by (inl found) rest = record {
      all = found.item ∷ rest.all;
      once = (λ there. once.0 (from_member xs x (subst (λ (z : X). Member z xs) found.is (rest.among found.item (to_member rest.all found.item there)))), rest.once);
      among = λ y m. elim m [ inl e ↦ inl (ap key e ∙ found.is) | inr n ↦ inr (rest.among y n) ];
      only = λ y m. elim m [ inl e ↦ subst Q (sym e) found.so | inr n ↦ rest.only y n ];
      each = λ y q m. elim m [ inl e ↦ inl (one y found.item q found.so (e ∙ sym found.is)) | inr n ↦ inr (rest.each y q n) ];
    }
    by (inr none) rest = record {
      all = rest.all;
      once = rest.once;
      among = λ y m. inr (rest.among y m);
      only = rest.only;
      each = λ y q m. elim m [ inl e ↦ absurd (none (record { item = y; is = e; so = q })) | inr n ↦ rest.each y q n ];
    }

-- where every one of them has such a key, they add up
pub add_gathered : {X Y : Type 0} (key : Y → X) (Q : Y → Type 0) (w : Y → ℕ) (xs : List X) (all : Gathered key Q xs) → ((y : Y) → Q y → Member (key y) xs) → AddUp Q w (sum_by w all.all)
add_gathered key Q w xs all keyed = record {
  all = all.all;
  once = all.once;
  only = λ y h. all.only y (to_member all.all y h);
  each = λ y q. from_member all.all y (all.each y q (keyed y q));
  are = refl;
}
