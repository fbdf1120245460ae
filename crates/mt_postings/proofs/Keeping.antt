-- Lists that are kept as their codes: their codes tell them, and one may be added to.
use Rattle.std.proofs.Common.{ℕ, zero, suc, ◌≡◌, ◌+◌, ◌-◌, ◌*◌, ◌/◌, ◌%◌, ◌<◌, ◌≤◌, Bool, true, false, List, [], ◌∷◌, ◌++◌, length, take, drop, replicate, refl, sym, ap, ◌∙◌, subst, inl, inr, arith, append_assoc}
use Rattle.std.proofs.lemmas.Bool.{cases_order}
use Rattle.std.proofs.lemmas.List.{length-append, length-replicate, append-nil, take-append-le, get_or_append_left, length_push, drop_at, take_at, length-drop, take-append-drop, length-take-le}
use Rattle.std.proofs.Math.Seq.{take-append-add}
use Rattle.mt_store_spec.specs.Codes.{delta, bits}
use Rattle.mt_store_spec.specs.Positions.{ArePositions, next_least, codes, IsCode}
use Rattle.mt_postings.specs.Kept.{begins_with, number, positions_in, IsEnd, IsEntry, AreEntries, IsKept}
use Rattle.mt_postings.specs.declared.coded.Entry.{Entry}
use Rattle.mt_postings.proofs.Deltas.{delta_same}
use Rattle.mt_postings.proofs.Words.{length-bits, bits-append}
use Rattle.mt_postings.proofs.Ascending.{From, from_start, positions_from, length_positions}
use Rattle.mt_postings.proofs.Coding.{codes_short, codes_push, next_push}

-- ---- what the bits tell

begins_append : (a r : List Bool) → begins_with a (a ++ r) ≡ true
begins_append [] r = refl
begins_append (true ∷ a) r = begins_append a r
begins_append (false ∷ a) r = begins_append a r

begins_split : (a b : List Bool) → begins_with a b ≡ true → (r : List Bool) × (b ≡ a ++ r)
begins_split [] b h = (b, refl)
begins_split (x ∷ a) [] h = absurd cc
begins_split (true ∷ a) (true ∷ b) h = let r = begins_split a b h in (r.0, ap (λ x. true ∷ x) r.1)
begins_split (true ∷ a) (false ∷ b) h = absurd cc
begins_split (false ∷ a) (true ∷ b) h = absurd cc
begins_split (false ∷ a) (false ∷ b) h = let r = begins_split a b h in (r.0, ap (λ x. false ∷ x) r.1)

number_found : (most : ℕ) (left : List Bool) → begins_with (delta (suc most)) left ≡ true → number (suc most) left ≡ suc most
unfolding number
number_found most left h = rw h refl

number_passed : (most : ℕ) (left : List Bool) → begins_with (delta (suc most)) left ≡ false → number (suc most) left ≡ number most left
unfolding number
number_passed most left h = rw h refl

number_by : (most n : ℕ) (r : List Bool) → 1 ≤ n → n ≤ suc most → (n ≤ most → number most (delta n ++ r) ≡ n) → (b : Bool) → begins_with (delta (suc most)) (delta n ++ r) ≡ b → number (suc most) (delta n ++ r) ≡ n
number_by most n r p l less true e =
    let s = begins_split (delta (suc most)) (delta n ++ r) e in
    let d = delta_same n (suc most) r s.0 p (omega arith) s.1 in
    number_found most (delta n ++ r) e ∙ sym d.0
number_by most n r p l less false e =
    elim (cases_order n (suc most)) [
      | inl same ↦
          let b : begins_with (delta (suc most)) (delta n ++ r) ≡ true = subst (λ x. begins_with (delta x) (delta n ++ r) ≡ true) same (begins_append (delta n) r) in
          absurd cc
      | inr o ↦ elim o [
        | inl below ↦ number_passed most (delta n ++ r) e ∙ less (omega arith)
        | inr more ↦ absurd (omega arith)
      ]
    ]

number_told : (most n : ℕ) (r : List Bool) → 1 ≤ n → n ≤ most → number most (delta n ++ r) ≡ n
number_told zero n r p l = absurd (omega arith)
number_told (suc most) n r p l = number_by most n r p l (λ k. number_told most n r p k) (begins_with (delta (suc most)) (delta n ++ r)) refl

-- the positions are read from their codes
pub read_is : (least : ℕ) (ps : List ℕ) (count : ℕ) (left rest : List Bool) → From least ps → count ≡ length ps → left ≡ codes least ps ++ rest → positions_in count least left ≡ ps
unfolding positions_in
read_is least [] zero left rest f c e = refl
read_is least [] (suc count) left rest f c e = absurd (omega arith)
read_is least (p ∷ ps) zero left rest f c e = absurd (omega arith)
read_is least (p ∷ ps) (suc count) left rest f c e =
    let low = f.0 in
    let high = f.1 in
    let gap = p + 1 - least in
    let spelt : left ≡ delta gap ++ (codes (p + 1) ps ++ rest) = e ∙ append_assoc (delta gap) (codes (p + 1) ps) rest in
    let n : number 4294967295 left ≡ gap = ap (number 4294967295) spelt ∙ number_told 4294967295 gap (codes (p + 1) ps ++ rest) (omega arith) (omega arith) in
    let here : least + number 4294967295 left - 1 ≡ p = omega arith in
    let next : least + number 4294967295 left ≡ p + 1 = omega arith in
    let after : drop (length (delta (number 4294967295 left))) left ≡ codes (p + 1) ps ++ rest = ap (λ x. drop (length (delta x)) left) n ∙ ap (drop (length (delta gap))) spelt ∙ drop_at (delta gap) (codes (p + 1) ps ++ rest) (length (delta gap)) refl in
    let tail : positions_in count (least + number 4294967295 left) (drop (length (delta (number 4294967295 left))) left) ≡ ps = ap (λ x. positions_in count x (drop (length (delta (number 4294967295 left))) left)) next ∙ read_is (p + 1) ps count (drop (length (delta (number 4294967295 left))) left) rest f.2 (omega arith) after in
    cc

-- ---- one list after another

pub next_append : (least : ℕ) (a b : List ℕ) → next_least least (a ++ b) ≡ next_least (next_least least a) b
next_append least [] b = refl
next_append least (p ∷ a) b = next_append (p + 1) a b

pub codes_append : (least : ℕ) (a b : List ℕ) → codes least (a ++ b) ≡ codes least a ++ codes (next_least least a) b
codes_append least [] b = refl
codes_append least (p ∷ a) b =
    ap (λ x. delta (p + 1 - least) ++ x) (codes_append (p + 1) a b) ∙ sym (append_assoc (delta (p + 1 - least)) (codes (p + 1) a) (codes (next_least (p + 1) a) b))

from_rest : (least : ℕ) (a b : List ℕ) → From least (a ++ b) → From (next_least least a) b
from_rest least [] b f = f
from_rest least (p ∷ a) b f = from_rest (p + 1) a b f.2

-- what follows positions
pub follow_rest : (a b : List ℕ) → ArePositions (a ++ b) → From (next_least 0 a) b
follow_rest a b v = from_rest 0 a b (from_start (a ++ b) v)

-- ---- entries

pub entry_kept : (ps more : List ℕ) (place : ℕ) (e : Entry) → IsEntry ps place e → IsEntry (ps ++ more) place e
entry_kept ps more place e h =
    let w = h.within in
    let n = length-append ps more in
    record {
      within = omega arith;
      position_is = h.position_is ∙ sym (get_or_append_left ps more 0 place w);
      bit_is = h.bit_is ∙ ap (λ x. length (codes 0 x)) (sym (take-append-le (place + 1) ps more (omega arith)));
    }

pub no_entries : AreEntries [] []
no_entries = record { number_is = omega arith; each = λ k d l. absurd (omega arith) }

-- ---- ends

pub no_end : IsEnd [] 0 0 0
no_end = record { number_is = refl; least_is = refl; bit_is = refl }

-- one position more
pub end_more : (ps : List ℕ) (p count least bit n : ℕ) → least ≤ p → n ≡ length (delta (p - least + 1)) → IsEnd ps count least bit → IsEnd (ps ++ p ∷ []) (count + 1) (p + 1) (bit + n)
end_more ps p count least bit n l e h =
    let c = h.number_is in
    let b = h.bit_is in
    let k = length_push ps p in
    let gap : length (delta (p + 1 - next_least 0 ps)) ≡ n = ap (λ x. length (delta (p + 1 - x))) (sym h.least_is) ∙ ap (λ x. length (delta x)) (omega arith) ∙ sym e in
    let s : length (codes 0 (ps ++ p ∷ [])) ≡ length (codes 0 ps) + length (delta (p + 1 - next_least 0 ps)) = ap length (codes_push 0 p ps) ∙ length-append (codes 0 ps) (delta (p + 1 - next_least 0 ps)) in
    record { number_is = omega arith; least_is = sym (next_push 0 p ps); bit_is = omega arith }

pub end_short : (ps : List ℕ) (count least bit : ℕ) → ArePositions ps → IsEnd ps count least bit → (count ≤ 4294967295) × (bit ≤ 17179869180) × (least ≤ 4294967295)
end_short ps count least bit a h =
    let c = h.number_is in
    let b = h.bit_is in
    let s = codes_short 0 ps (from_start ps a) in
    let l = length_positions ps a in
    let f : From (next_least 0 ps) [] = follow_rest ps [] (subst ArePositions (sym (append-nil ps)) a) in
    let e = h.least_is in
    (omega arith, omega arith, omega arith)

-- ---- a kept list

pub kept_told : (ps bytes : List ℕ) (count : ℕ) → IsCode bytes ps → count ≡ length ps → positions_in count 0 (bits bytes) ≡ ps
kept_told ps bytes count c n = read_is 0 ps count (bits bytes) (replicate c.padding false) (from_start ps c.valid) n c.spelt

-- the whole bytes of a code and the bits after them
pub code_cut : (ps bytes : List ℕ) (bit : ℕ) → IsCode bytes ps → bit ≡ length (codes 0 ps) → (bit / 8 ≤ length bytes) × (bit % 8 ≤ 8 * length (drop (bit / 8) bytes)) × (codes 0 ps ≡ bits (take (bit / 8) bytes) ++ take (bit % 8) (bits (drop (bit / 8) bytes)))
code_cut ps bytes bit c b =
    let zs = replicate c.padding false in
    let a = ap length c.spelt ∙ length-append (codes 0 ps) zs in
    let z = length-replicate c.padding false in
    let l = length-bits bytes in
    let w = bit / 8 in
    let r = bit % 8 in
    let d = length-drop w bytes in
    let front : take bit (bits bytes) ≡ codes 0 ps = ap (take bit) c.spelt ∙ take_at (codes 0 ps) zs bit (sym b) in
    let split : bits bytes ≡ bits (take w bytes) ++ bits (drop w bytes) = ap bits (sym (take-append-drop w bytes)) ∙ bits-append (take w bytes) (drop w bytes) in
    let t = length-take-le w bytes (omega arith) in
    let lt = length-bits (take w bytes) in
    let e : bit ≡ length (bits (take w bytes)) + r = omega arith in
    let cut : take bit (bits bytes) ≡ bits (take w bytes) ++ take r (bits (drop w bytes)) = ap (take bit) split ∙ ap (λ x. take x (bits (take w bytes) ++ bits (drop w bytes))) e ∙ take-append-add (bits (take w bytes)) (bits (drop w bytes)) r in
    (omega arith, omega arith, sym front ∙ cut)

-- the code of a longer list
pub code_more : (ps more front tail : List ℕ) (begun written : List Bool) → ArePositions (ps ++ more) → codes 0 ps ≡ bits front ++ begun → written ≡ begun ++ codes (next_least 0 ps) more → (padding : ℕ) × (padding < 8) × (bits tail ≡ written ++ replicate padding false) → IsCode (front ++ tail) (ps ++ more)
code_more ps more front tail begun written v c w p =
    let zs = replicate p.0 false in
    let next = codes (next_least 0 ps) more in
    let t : bits tail ≡ (begun ++ next) ++ zs = p.2 ∙ ap (λ x. x ++ zs) w in
    let whole : bits front ++ ((begun ++ next) ++ zs) ≡ codes 0 (ps ++ more) ++ zs =
    sym (append_assoc (bits front) (begun ++ next) zs) ∙ ap (λ x. x ++ zs) (sym (append_assoc (bits front) begun next) ∙ ap (λ x. x ++ next) (sym c) ∙ sym (codes_append 0 ps more)) in
    record { valid = v; padding = p.0; short = p.1; spelt = bits-append front tail ∙ ap (λ x. bits front ++ x) t ∙ whole }

-- one code more
pub written_more : (written now : List Bool) (least p : ℕ) (left rest : List ℕ) → now ≡ written ++ delta (p - least + 1) → left ≡ p ∷ rest → least ≤ p → now ++ codes (p + 1) rest ≡ written ++ codes least left
written_more written now least p left rest n e l =
    let gap : delta (p - least + 1) ≡ delta (p + 1 - least) = ap delta (omega arith) in
    ap (λ x. x ++ codes (p + 1) rest) n ∙ append_assoc written (delta (p - least + 1)) (codes (p + 1) rest) ∙ ap (λ x. written ++ (x ++ codes (p + 1) rest)) gap ∙ ap (λ x. written ++ codes least x) (sym e)

-- what is kept after more positions
pub kept_more : (ps more bytes tail now : List ℕ) (es new all : List Entry) (count least bit count' least' bit' : ℕ) (begun written : List Bool) → IsKept ps bytes es count least bit → ArePositions (ps ++ more) → begun ≡ take (bit % 8) (bits (drop (bit / 8) bytes)) → written ≡ begun ++ codes least more → (padding : ℕ) × (padding < 8) × (bits tail ≡ written ++ replicate padding false) → now ≡ take (bit / 8) bytes ++ tail → IsEnd (ps ++ more) count' least' bit' → AreEntries (ps ++ more) (es ++ new) → all ≡ es ++ new → IsKept (ps ++ more) now all count' least' bit'
kept_more ps more bytes tail now es new all count least bit count' least' bit' begun written k v b w p n ends e a =
    let cut = code_cut ps bytes bit k.code k.ends.bit_is in
    let c : codes 0 ps ≡ bits (take (bit / 8) bytes) ++ begun = cut.2 ∙ ap (λ x. bits (take (bit / 8) bytes) ++ x) (sym b) in
    let w' : written ≡ begun ++ codes (next_least 0 ps) more = w ∙ ap (λ x. begun ++ codes x more) k.ends.least_is in
    record {
      code = subst (λ x. IsCode x (ps ++ more)) (sym n) (code_more ps more (take (bit / 8) bytes) tail begun written v c w' p);
      ends = ends;
      entries_are = subst (AreEntries (ps ++ more)) (sym a) e;
    }

-- and how it is seen
pub kept_is : (ps bytes : List ℕ) (es : List Entry) (count least bit : ℕ) → IsKept ps bytes es count least bit → positions_in count 0 (bits bytes) ≡ ps
kept_is ps bytes es count least bit k = kept_told ps bytes count k.code k.ends.number_is

pub kept_view : (ps bytes : List ℕ) (es : List Entry) (count least bit : ℕ) → IsKept ps bytes es count least bit → IsKept (positions_in count 0 (bits bytes)) bytes es count least bit
kept_view ps bytes es count least bit k = subst (λ x. IsKept x bytes es count least bit) (sym (kept_is ps bytes es count least bit k)) k

pub kept_none : (bytes : List ℕ) (es : List Entry) → bytes ≡ [] → es ≡ [] → IsKept [] bytes es 0 0 0
kept_none bytes es b e =
    subst (λ x. IsKept [] x es 0 0 0) (sym b) (subst (λ x. IsKept [] [] x 0 0 0) (sym e) (record {
      code = record { valid = positions_from 0 [] (omega arith); padding = 0; short = omega arith; spelt = refl };
      ends = no_end;
      entries_are = no_entries;
    }))
