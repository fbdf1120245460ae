-- Kept lists to which a run of positions is added, which has no 128th position but perhaps its last.
use Rattle.std.proofs.Common.{ℕ, zero, suc, ◌≡◌, ◌+◌, ◌-◌, ◌*◌, ◌/◌, ◌%◌, ◌<◌, ◌≤◌, Bool, List, [], ◌∷◌, ◌++◌, length, take, drop, get_or, refl, sym, ap, ◌∙◌, subst, inl, inr, arith, append_assoc}
use Rattle.std.proofs.lemmas.Bool.{cases_lt}
use Rattle.std.proofs.lemmas.List.{length-append, take_all, take-append-drop, get_or_append_left, get_or_push, length_push}
use Rattle.mt_store_spec.specs.Codes.{delta}
use Rattle.mt_store_spec.specs.Positions.{next_least, codes}
use Rattle.mt_postings.specs.Following.{Follow}
use Rattle.mt_postings.specs.Kept.{IsEnd, IsEntry, AreEntries}
use Rattle.mt_postings.specs.declared.coded.Entry.{Entry}
use Rattle.mt_postings.proofs.Keeping.{next_append, codes_append, entry_kept}

-- ---- what follows a run

pub follow_run : (least : ℕ) (run later : List ℕ) → Follow least (run ++ later) → Follow (next_least least run) later
follow_run least [] later f = f
follow_run least (p ∷ run) later f = follow_run (p + 1) run later f.2

pub follow_front : (least : ℕ) (run later : List ℕ) → Follow least (run ++ later) → least ≤ 4294967295 → Follow least run
follow_front least [] later f l = l
follow_front least (p ∷ run) later f l = (f.0, f.1, let low = f.1 in follow_front (p + 1) run later f.2 (omega arith))

pub follow_low : (least : ℕ) (ps : List ℕ) → Follow least ps → least ≤ 4294967295
follow_low least [] f = f
follow_low least (p ∷ ps) f = let low = f.0 in let high = f.1 in omega arith

-- the least that follows is one more than the last
pub next_last : (least k : ℕ) (ps : List ℕ) → length ps ≡ suc k → next_least least ps ≡ get_or ps k 0 + 1
next_last least k [] l = absurd (omega arith)
next_last least zero (p ∷ []) l = refl
next_last least (suc k) (p ∷ []) l = absurd (omega arith)
next_last least zero (p ∷ (q ∷ ps)) l = absurd (omega arith)
next_last least (suc k) (p ∷ (q ∷ ps)) l = next_last (p + 1) k (q ∷ ps) (omega arith)

pub next_some : (least : ℕ) (ps : List ℕ) → 1 ≤ length ps → 1 ≤ next_least least ps
next_some least [] l = absurd (omega arith)
next_some least (p ∷ []) l = omega arith
next_some least (p ∷ (q ∷ ps)) l = next_some (p + 1) (q ∷ ps) (omega arith)

-- ---- ends and entries

pub end_run : (ps run : List ℕ) (count least bit count' least' bit' : ℕ) → IsEnd ps count least bit → count' ≡ count + length run → least' ≡ next_least least run → bit' ≡ bit + length (codes least run) → IsEnd (ps ++ run) count' least' bit'
end_run ps run count least bit count' least' bit' e c l b =
    let n = length-append ps run in
    let number = e.number_is in
    let s : length (codes 0 (ps ++ run)) ≡ length (codes 0 ps) + length (codes (next_least 0 ps) run) = ap length (codes_append 0 ps run) ∙ length-append (codes 0 ps) (codes (next_least 0 ps) run) in
    let g : length (codes least run) ≡ length (codes (next_least 0 ps) run) = ap (λ x. length (codes x run)) e.least_is in
    let bits = e.bit_is in
    record {
      number_is = omega arith;
      least_is = l ∙ ap (λ x. next_least x run) e.least_is ∙ sym (next_append 0 ps run);
      bit_is = omega arith;
    }

pub run_same : (ps run : List ℕ) (es : List Entry) → length ps % 128 + length run < 128 → AreEntries ps es → AreEntries (ps ++ run) es
run_same ps run es few a =
    let n = length-append ps run in
    let m = a.number_is in
    let t : (length ps + length run) / 128 ≡ length ps / 128 = omega arith in
    record { number_is = omega arith; each = λ k d l. entry_kept ps run (128 * k + 127) (get_or es k d) (a.each k d l) }

pub run_more : (ps run : List ℕ) (es : List Entry) (e : Entry) → 1 ≤ length run → length ps % 128 + length run ≡ 128 → e.position + 1 ≡ next_least 0 (ps ++ run) → e.bit ≡ length (codes 0 (ps ++ run)) → AreEntries ps es → AreEntries (ps ++ run) (es ++ e ∷ [])
run_more ps run es e some z at bit a =
    let n = length-append ps run in
    let m = a.number_is in
    let k = length_push es e in
    let size : length (ps ++ run) ≡ 128 * length es + 128 = omega arith in
    let last = next_last 0 (128 * length es + 127) (ps ++ run) (omega arith) in
    let here : IsEntry (ps ++ run) (128 * length es + 127) e = record {
      within = omega arith;
      position_is = omega arith;
      bit_is = bit ∙ ap (λ x. length (codes 0 x)) (sym (take_all (128 * length es + 127 + 1) (ps ++ run) (omega arith)));
    } in
    record {
      number_is = omega arith;
      each = λ i d l. elim (cases_lt i (length es)) [
        | inl b ↦ subst (λ x. IsEntry (ps ++ run) (128 * i + 127) x) (sym (get_or_append_left es (e ∷ []) d i b)) (entry_kept ps run (128 * i + 127) (get_or es i d) (a.each i d b))
        | inr g ↦
            let same : length es ≡ i = omega arith in
            subst (λ x. IsEntry (ps ++ run) (128 * i + 127) x) (sym (get_or_push es e d i same)) (subst (λ j. IsEntry (ps ++ run) (128 * j + 127) e) same here)
      ];
    }

-- the codes that are written, and those of the positions that are left
pub written_run : (written now all : List Bool) (least : ℕ) (run later : List ℕ) → now ≡ written ++ codes least run → written ++ codes least (run ++ later) ≡ all → now ++ codes (next_least least run) later ≡ all
written_run written now all least run later n e =
    ap (λ x. x ++ codes (next_least least run) later) n ∙ append_assoc written (codes least run) (codes (next_least least run) later) ∙ ap (λ x. written ++ x) (sym (codes_append least run later)) ∙ e

-- one code more, counted
pub counted_more : (bits n least p : ℕ) (left rest all : List ℕ) (from : ℕ) → n ≡ length (delta (p - least + 1)) → left ≡ p ∷ rest → least ≤ p → bits + length (codes least left) ≡ length (codes from all) → bits + n + length (codes (p + 1) rest) ≡ length (codes from all)
counted_more bits n least p left rest all from e s l h =
    let gap : length (delta (p - least + 1)) ≡ length (delta (p + 1 - least)) = ap (λ x. length (delta x)) (omega arith) in
    let c : length (codes least left) ≡ length (delta (p + 1 - least)) + length (codes (p + 1) rest) = ap (λ x. length (codes least x)) s ∙ length-append (delta (p + 1 - least)) (codes (p + 1) rest) in
    omega arith

-- ---- a list that is cut

pub cut_joined : (n : ℕ) (all front back : List ℕ) → front ≡ take n all → back ≡ drop n all → front ++ back ≡ all
cut_joined n all front back f b = ap (λ x. x ++ back) f ∙ ap (λ x. take n all ++ x) b ∙ take-append-drop n all
