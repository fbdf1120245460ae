-- A place in a kept list: its next position, and another place behind an entry.
use Rattle.std.proofs.Common.{ℕ, zero, suc, ◌≡◌, ◌+◌, ◌-◌, ◌*◌, ◌/◌, ◌^◌, ◌<◌, ◌≤◌, Bool, List, [], ◌∷◌, ◌++◌, length, take, drop, get_or, replicate, false, refl, sym, ap, ◌∙◌, subst, inl, inr, arith, append_assoc}
use Rattle.std.proofs.lemmas.Bool.{cases_lt}
use Rattle.std.proofs.lemmas.Bool.Decides.{nat_tests}
use Rattle.std.proofs.lemmas.List.{length-append, nil_from_length, length-drop, length-take-le, take_more, take-append-drop, get_or-append-add, drop_at, drop_more, drop_all}
use Rattle.std.proofs.Math.Seq.{take-append-add}
use Rattle.mt_store_spec.specs.Codes.{delta, bits, log2, Unread}
use Rattle.mt_store_spec.specs.Positions.{ArePositions, next_least, codes, IsCode, from_least}
use Rattle.mt_postings.specs.Refused.{IsRefused}
use Rattle.mt_postings.specs.declared.error.CodeError.{CodeError}
use Rattle.mt_postings.specs.declared.error.CodeError.TheVariants.{Cut, TooLarge}
use Rattle.mt_postings.specs.Kept.{positions_in, IsEnd, AreEntries, IsPlaced, IsNear}
use Rattle.mt_postings.specs.declared.coded.Entry.{Entry}
use Rattle.mt_postings.proofs.Deltas.{delta_same}
use Rattle.mt_postings.proofs.Refusals.{code_not_large, code_not_cut}
use Rattle.mt_postings.proofs.Ascending.{From, length_positions, not_below}
use Rattle.mt_postings.proofs.Seeks.{from_least_is, power_le}
use Rattle.mt_postings.proofs.Coding.{next_push}
use Rattle.mt_postings.proofs.Keeping.{read_is, follow_rest, end_more, no_end, codes_append, next_append, kept_told}

pub placed_first : (entries : List Entry) (count : ℕ) (bytes ps : List ℕ) (unread : Unread) → unread ≡ record { left = bits bytes; place = 0 } → IsCode bytes ps → count ≡ length ps → AreEntries ps entries → IsPlaced entries count 0 0 unread (positions_in (count - 0) 0 unread.left)
placed_first entries count bytes ps unread u c n e =
    let some : count - 0 ≡ count = omega arith in
    let told : positions_in (count - 0) 0 unread.left ≡ ps = ap (λ x. positions_in x 0 unread.left) some ∙ ap (λ v. positions_in count 0 v.left) u ∙ kept_told ps bytes count c n in
    let begins : unread.place ≡ 0 = ap (λ v. v.place) u in
    subst (IsPlaced entries count 0 0 unread) (sym told) (record {
      before = [];
      valid = c.valid;
      number_is = n ∙ omega arith;
      ends = subst (IsEnd [] 0 0) (sym begins) no_end;
      rest = replicate c.padding false;
      spelt = ap (λ v. v.left) u ∙ c.spelt;
      entries_are = e;
    })

pub placed_none : (entries : List Entry) (count passed least : ℕ) (unread : Unread) (view : List ℕ) → IsPlaced entries count passed least unread view → count ≤ passed → view ≡ []
placed_none entries count passed least unread view h l =
    let n = h.number_is in
    let p = h.ends.number_is in
    nil_from_length view (omega arith)

-- the positions that are left follow the least
placed_follow : (entries : List Entry) (count passed least : ℕ) (unread : Unread) (view : List ℕ) (h : IsPlaced entries count passed least unread view) → From least view
placed_follow entries count passed least unread view h = subst (λ x. From x view) (sym h.ends.least_is) (follow_rest h.before view h.valid)

-- What a reader is where the next code was read.
pub record Stepped (entries : List Entry) (count passed least : ℕ) (new : Unread) (view : List ℕ) (n : ℕ) : Type 0 where
  pub gives : view ≡ (least + (n - 1)) ∷ positions_in (count - (passed + 1)) (least + (n - 1) + 1) new.left
  pub placed : IsPlaced entries count (passed + 1) (least + (n - 1) + 1) new (positions_in (count - (passed + 1)) (least + (n - 1) + 1) new.left)
  pub small : least + (n - 1) < 4294967295

pub stepped : (entries : List Entry) (count passed least : ℕ) (unread new : Unread) (view : List ℕ) (n : ℕ) → IsPlaced entries count passed least unread view → passed < count → 1 ≤ n → unread.left ≡ delta n ++ new.left → new.place ≡ unread.place + length (delta n) → Stepped entries count passed least new view n
stepped entries count passed least unread new [] n h l pos code place =
    let a = h.number_is in
    let b = h.ends.number_is in
    absurd (omega arith)
stepped entries count passed least unread new (p ∷ ps) n h l pos code place =
    let f = placed_follow entries count passed least unread (p ∷ ps) h in
    let low = f.0 in
    let high = f.1 in
    let a = h.number_is in
    let b = h.ends.number_is in
    let gap = p + 1 - least in
    let spelt : unread.left ≡ delta gap ++ (codes (p + 1) ps ++ h.rest) = h.spelt ∙ append_assoc (delta gap) (codes (p + 1) ps) h.rest in
    let d = delta_same n gap new.left (codes (p + 1) ps ++ h.rest) pos (omega arith) (sym code ∙ spelt) in
    let same = d.0 in
    let here : least + (n - 1) ≡ p = omega arith in
    let next : least + (n - 1) + 1 ≡ p + 1 = omega arith in
    let told : positions_in (count - (passed + 1)) (least + (n - 1) + 1) new.left ≡ ps = ap (λ x. positions_in (count - (passed + 1)) x new.left) next ∙ read_is (p + 1) ps (count - (passed + 1)) new.left h.rest f.2 (omega arith) d.1 in
    let whole : (h.before ++ p ∷ []) ++ ps ≡ h.before ++ p ∷ ps = append_assoc h.before (p ∷ []) ps in
    let k = length-append h.before (p ∷ []) in
    let size : length (delta n) ≡ length (delta (p - least + 1)) = ap (λ x. length (delta x)) (omega arith) in
    let ends : IsEnd (h.before ++ p ∷ []) (passed + 1) (p + 1) new.place = subst (IsEnd (h.before ++ p ∷ []) (passed + 1) (p + 1)) (sym place) (end_more h.before p passed least unread.place (length (delta n)) low size h.ends) in
    let placed : IsPlaced entries count (passed + 1) (p + 1) new ps = record {
      before = h.before ++ p ∷ [];
      valid = subst ArePositions (sym whole) h.valid;
      number_is = omega arith;
      ends = ends;
      rest = h.rest;
      spelt = d.1;
      entries_are = subst (λ x. AreEntries x entries) (sym whole) h.entries_are;
    } in
    let gives : p ∷ ps ≡ (least + (n - 1)) ∷ positions_in (count - (passed + 1)) (least + (n - 1) + 1) new.left = cc in
    let there : IsPlaced entries count (passed + 1) (least + (n - 1) + 1) new ps = subst (λ x. IsPlaced entries count (passed + 1) x new ps) (sym next) placed in
    record {
      gives = gives;
      placed = subst (IsPlaced entries count (passed + 1) (least + (n - 1) + 1) new) (sym told) there;
      small = omega arith;
    }

code_next : (entries : List Entry) (count passed least : ℕ) (unread : Unread) (view : List ℕ) → IsPlaced entries count passed least unread view → passed < count → (n : ℕ) × (r : List Bool) × (1 ≤ n) × (n < 2 ^ 32) × (unread.left ≡ delta n ++ r)
code_next entries count passed least unread [] h l =
    let a = h.number_is in
    let b = h.ends.number_is in
    absurd (omega arith)
code_next entries count passed least unread (p ∷ ps) h l =
    let f = placed_follow entries count passed least unread (p ∷ ps) h in
    let low = f.0 in
    let high = f.1 in
    (p + 1 - least, codes (p + 1) ps ++ h.rest, omega arith, omega arith, h.spelt ∙ append_assoc (delta (p + 1 - least)) (codes (p + 1) ps) h.rest)

refuted : (unread : Unread) (n : ℕ) (r : List Bool) (e : CodeError) → 1 ≤ n → n < 2 ^ 32 → unread.left ≡ delta n ++ r → IsRefused unread e → ⊥
refuted unread n r (Cut bit) p u c h = code_not_cut n unread.left r p c h.1
refuted unread n r (TooLarge bit) p u c h = code_not_large n unread.left r p u c h.1

pub not_refused : (entries : List Entry) (count passed least : ℕ) (unread : Unread) (view : List ℕ) (e : CodeError) → IsPlaced entries count passed least unread view → passed < count → IsRefused unread e → ⊥
not_refused entries count passed least unread view e h l x =
    let k = code_next entries count passed least unread view h l in
    refuted unread k.0 k.1 e k.2 k.3 k.4 x

-- ---- from a place on, a position is near

abbrev pub zero_entry : Entry
zero_entry = record { position = 0; bit = 0 }

pub near_here : (entries : List Entry) (count passed least : ℕ) (unread : Unread) (view : List ℕ) (first target : ℕ) → IsPlaced entries count passed least unread view → first ≡ passed / 128 → ((d : Entry) → first < length entries → target ≤ (get_or entries first d).position) → IsNear target view
near_here entries count passed least unread view first target h f stop =
    let n = h.number_is in
    let b = h.ends.number_is in
    let w = length-append h.before view in
    let m = h.entries_are.number_is in
    elim (cases_lt first (length entries)) [
      | inl l ↦
          let e = h.entries_are.each first zero_entry l in
          let inside = e.within in
          let k = 128 * first + 127 - passed in
          let sum : 128 * first + 127 ≡ length h.before + k = omega arith in
          let at : (get_or entries first zero_entry).position ≡ get_or view k 0 = e.position_is ∙ ap (λ x. get_or (h.before ++ view) x 0) sum ∙ get_or-append-add h.before view k 0 in
          let t = stop zero_entry l in
          inr (k, omega arith, omega arith, omega arith)
      | inr g ↦ inl (omega arith)
    ]

-- What a reader is where it has gone to the end of an entry's position.
pub record Jumped (entries : List Entry) (count passed least : ℕ) (unread : Unread) (view : List ℕ) (behind : ℕ) (e : Entry) : Type 0 where
  pub later : unread.place ≤ e.bit
  pub within : e.bit ≤ unread.place + length unread.left
  pub fits : 128 * behind ≤ count
  pub small : e.position < 4294967295
  pub ahead : passed ≤ 128 * behind
  pub placed : IsPlaced entries count (128 * behind) (e.position + 1) (record { left = drop (e.bit - unread.place) unread.left; place = e.bit }) (drop (128 * behind - passed) view)
  pub told : positions_in (count - 128 * behind) (e.position + 1) (drop (e.bit - unread.place) unread.left) ≡ drop (128 * behind - passed) view
  pub below : (j : ℕ) → j < 128 * behind - passed → get_or view j 0 ≤ e.position

-- the positions up to a place
up_to : (all : List ℕ) (j : ℕ) → j < length all → next_least 0 (take (j + 1) all) ≡ get_or all j 0 + 1
up_to all j l = ap (next_least 0) (take_more all j 0 l) ∙ next_push 0 (get_or all j 0) (take j all)

pub jumped : (entries : List Entry) (count passed least : ℕ) (unread : Unread) (view : List ℕ) (behind : ℕ) (d : Entry) → IsPlaced entries count passed least unread view → passed / 128 < behind → behind ≤ length entries → Jumped entries count passed least unread view behind (get_or entries (behind - 1) d)
jumped entries count passed least unread view behind d h ahead l =
    let all = h.before ++ view in
    let e = get_or entries (behind - 1) d in
    let k = h.entries_are.each (behind - 1) d (omega arith) in
    let w = length-append h.before view in
    let n = h.number_is in
    let b = h.ends.number_is in
    let inside = k.within in
    let j = 128 * (behind - 1) + 127 in
    let c = 128 * behind - passed in
    let s : j + 1 ≡ length h.before + c = omega arith in
    let front : take (j + 1) all ≡ h.before ++ take c view = ap (λ x. take x all) s ∙ take-append-add h.before view c in
    let split : take c view ++ drop c view ≡ view = take-append-drop c view in
    let whole : (h.before ++ take c view) ++ drop c view ≡ all = append_assoc h.before (take c view) (drop c view) ∙ ap (λ x. h.before ++ x) split in
    let place : e.bit ≡ length (codes 0 (h.before ++ take c view)) = k.bit_is ∙ ap (λ x. length (codes 0 x)) front in
    let pass = codes least (take c view) in
    let bit : e.bit ≡ unread.place + length pass = place ∙ ap length (codes_append 0 h.before (take c view)) ∙ length-append (codes 0 h.before) (codes (next_least 0 h.before) (take c view)) ∙ ap (λ x. length (codes 0 h.before) + length (codes x (take c view))) (sym h.ends.least_is) ∙ ap (λ x. x + length pass) (sym h.ends.bit_is) in
    let nl : next_least 0 (h.before ++ take c view) ≡ e.position + 1 = ap (next_least 0) (sym front) ∙ up_to all j inside ∙ ap (λ x. x + 1) (sym k.position_is) in
    let nv : next_least least (take c view) ≡ e.position + 1 = ap (λ x. next_least x (take c view)) h.ends.least_is ∙ sym (next_append 0 h.before (take c view)) ∙ nl in
    let rest = codes (e.position + 1) (drop c view) ++ h.rest in
    let spelt : unread.left ≡ pass ++ rest = h.spelt ∙ ap (λ x. codes least x ++ h.rest) (sym split) ∙ ap (λ x. x ++ h.rest) (codes_append least (take c view) (drop c view) ∙ ap (λ x. pass ++ codes x (drop c view)) nv) ∙ append_assoc pass (codes (e.position + 1) (drop c view)) h.rest in
    let ls = ap length spelt ∙ length-append pass rest in
    let gap : e.bit - unread.place ≡ length pass = omega arith in
    let left : drop (e.bit - unread.place) unread.left ≡ rest = ap (λ x. drop x unread.left) gap ∙ ap (drop (length pass)) spelt ∙ drop_at pass rest (length pass) refl in
    let ld = length-drop c view in
    let lt = length-take-le c view (omega arith) in
    let lf = length-append h.before (take c view) in
    let small : get_or all j 0 < 4294967295 = h.valid.in_range j 0 inside in
    let at = k.position_is in
    let valid : ArePositions ((h.before ++ take c view) ++ drop c view) = subst ArePositions (sym whole) h.valid in
    let follows : From (e.position + 1) (drop c view) = subst (λ x. From x (drop c view)) nl (follow_rest (h.before ++ take c view) (drop c view) valid) in
    record {
      later = omega arith;
      within = omega arith;
      fits = omega arith;
      small = omega arith;
      ahead = omega arith;
      placed = record {
        before = h.before ++ take c view;
        valid = valid;
        number_is = omega arith;
        ends = record { number_is = omega arith; least_is = sym nl; bit_is = place };
        rest = h.rest;
        spelt = left;
        entries_are = subst (λ x. AreEntries x entries) (sym whole) h.entries_are;
      };
      told = read_is (e.position + 1) (drop c view) (count - 128 * behind) (drop (e.bit - unread.place) unread.left) h.rest follows (omega arith) left;
      below = λ i m.
          let x = not_below all (length h.before + i) j h.valid (omega arith) inside in
          let y = get_or-append-add h.before view i 0 in
          omega arith;
    }

passes : (target p : ℕ) (ps : List ℕ) → p < target → from_least target (p ∷ ps) ≡ from_least target ps
passes target p ps h = grind (arith, nat_tests)

-- what is below is passed
pub from_least_drop : (target n : ℕ) (ps : List ℕ) → ((j : ℕ) → j < n → get_or ps j 0 < target) → from_least target (drop n ps) ≡ from_least target ps
from_least_drop target zero ps b = refl
from_least_drop target (suc n) [] b = refl
from_least_drop target (suc n) (p ∷ ps) b =
    let h : p < target = b 0 (omega arith) in
    from_least_drop target n ps (λ j l. b (suc j) (omega arith)) ∙ sym (passes target p ps h)

-- how far the entries ahead go
pub few_ahead : (entries : List Entry) (count passed least : ℕ) (unread : Unread) (view : List ℕ) → IsPlaced entries count passed least unread view → (length entries - passed / 128 ≤ length view) × (passed / 128 ≤ length entries)
few_ahead entries count passed least unread view h =
    let n = h.number_is in
    let b = h.ends.number_is in
    let w = length-append h.before view in
    let m = h.entries_are.number_is in
    (omega arith, omega arith)

pub jump_told : (entries : List Entry) (count passed least : ℕ) (unread : Unread) (view : List ℕ) (behind : ℕ) (e : Entry) (new : Unread) → Jumped entries count passed least unread view behind e → new ≡ record { left = drop (e.bit - unread.place) unread.left; place = e.bit } → positions_in (count - 128 * behind) (e.position + 1) new.left ≡ drop (128 * behind - passed) view
jump_told entries count passed least unread view behind e new j u = ap (λ v. positions_in (count - 128 * behind) (e.position + 1) v.left) u ∙ j.told

pub jump_placed : (entries : List Entry) (count passed least : ℕ) (unread : Unread) (view : List ℕ) (behind : ℕ) (e : Entry) (new : Unread) → Jumped entries count passed least unread view behind e → new ≡ record { left = drop (e.bit - unread.place) unread.left; place = e.bit } → IsPlaced entries count (128 * behind) (e.position + 1) new (positions_in (count - 128 * behind) (e.position + 1) new.left)
jump_placed entries count passed least unread view behind e new j u =
    subst (IsPlaced entries count (128 * behind) (e.position + 1) new) (sym (jump_told entries count passed least unread view behind e new j u))
    (subst (λ v. IsPlaced entries count (128 * behind) (e.position + 1) v (drop (128 * behind - passed) view)) (sym u) j.placed)

pub jump_near : (entries : List Entry) (count passed least : ℕ) (unread : Unread) (view : List ℕ) (behind : ℕ) (e : Entry) (new : Unread) (target : ℕ) → Jumped entries count passed least unread view behind e → new ≡ record { left = drop (e.bit - unread.place) unread.left; place = e.bit } → ((d : Entry) → behind < length entries → target ≤ (get_or entries behind d).position) → IsNear target (positions_in (count - 128 * behind) (e.position + 1) new.left)
jump_near entries count passed least unread view behind e new target j u stop =
    near_here entries count (128 * behind) (e.position + 1) new (positions_in (count - 128 * behind) (e.position + 1) new.left) behind target (jump_placed entries count passed least unread view behind e new j u) (omega arith) stop

pub jump_given : (entries : List Entry) (count passed least : ℕ) (unread : Unread) (view : List ℕ) (behind : ℕ) (e : Entry) (new : Unread) (target : ℕ) → Jumped entries count passed least unread view behind e → new ≡ record { left = drop (e.bit - unread.place) unread.left; place = e.bit } → e.position < target → from_least target (positions_in (count - 128 * behind) (e.position + 1) new.left) ≡ from_least target view
jump_given entries count passed least unread view behind e new target j u l =
    ap (from_least target) (jump_told entries count passed least unread view behind e new j u) ∙ from_least_drop target (128 * behind - passed) view (λ i m. let h = j.below i m in omega arith)

-- what a search over entries and at most 128 positions cost
pub search_cost : (old mid new ahead len : ℕ) → old ≤ mid → 2 ^ (mid - old) ≤ 2 * ahead + 1 → ahead ≤ len → new ≤ mid + 128 → new ≤ old + (log2 (2 * len + 1) + 1 + 128)
search_cost old mid new ahead len a b c d =
    let p = power_le (mid - old) (2 * len + 1) (omega arith) (omega arith) in
    omega arith

-- ---- one position after another

pub drop_step : (i : ℕ) (whole : List ℕ) (p : ℕ) (new : List ℕ) → drop i whole ≡ p ∷ new → (i < length whole) × (get_or whole i 0 ≡ p) × (drop (i + 1) whole ≡ new)
drop_step i whole p new e =
    let d : length whole - i ≡ length new + 1 = sym (length-drop i whole) ∙ ap length e ∙ omega arith in
    let l : i < length whole = omega arith in
    let m : drop i whole ≡ get_or whole i 0 ∷ drop (i + 1) whole = drop_more whole i 0 l in
    let both : get_or whole i 0 ∷ drop (i + 1) whole ≡ p ∷ new = sym m ∙ e in
    let x : get_or whole i 0 ≡ p = cc in
    let y : drop (i + 1) whole ≡ new = cc in
    (l, x, y)

pub scan_found : (target i : ℕ) (whole : List ℕ) (p : ℕ) (new : List ℕ) → drop i whole ≡ p ∷ new → ((j : ℕ) → j < i → get_or whole j 0 < target) → target ≤ p → from_least target whole ≡ p ∷ new
scan_found target i whole p new e b l =
    let s = drop_step i whole p new e in
    let a = s.0 in
    let at = s.1 in
    from_least_is target i whole (omega arith) b (λ _. omega arith) ∙ e

pub scan_none : (target i : ℕ) (whole : List ℕ) → drop i whole ≡ [] → ((j : ℕ) → j < i → get_or whole j 0 < target) → from_least target whole ≡ []
scan_none target i whole e b = sym (from_least_drop target i whole b) ∙ ap (from_least target) e

pub scan_far : (target i : ℕ) (whole : List ℕ) → IsNear target whole → 128 ≤ i → ((j : ℕ) → j < i → get_or whole j 0 < target) → drop i whole ≡ []
scan_far target i whole (inl l) m b = drop_all i whole (omega arith)
scan_far target i whole (inr k) m b =
    let few = k.1 in
    let low = b k.0 (omega arith) in
    let high = k.3 in
    absurd (omega arith)

pub scan_more : (target i : ℕ) (whole : List ℕ) (p : ℕ) (new : List ℕ) → drop i whole ≡ p ∷ new → ((j : ℕ) → j < i → get_or whole j 0 < target) → p < target → (j : ℕ) → j < i + 1 → get_or whole j 0 < target
scan_more target i whole p new e b l j m =
    elim (cases_lt j i) [
      | inl x ↦ b j x
      | inr g ↦
          let same : j ≡ i = omega arith in
          let at : get_or whole j 0 ≡ p = ap (λ k. get_or whole k 0) same ∙ (drop_step i whole p new e).1 in
          omega arith
    ]

pub apart : (first behind : ℕ) → first ≤ behind → (behind ≡ first → ⊥) → first < behind
apart first behind l d =
    elim (cases_lt first behind) [
      | inl m ↦ m
      | inr g ↦ absurd (d (omega arith))
    ]

pub placed_count : (entries : List Entry) (count passed least : ℕ) (unread : Unread) (view : List ℕ) → IsPlaced entries count passed least unread view → count ≤ 4294967295
placed_count entries count passed least unread view h =
    let n = h.number_is in
    let l = length_positions (h.before ++ view) h.valid in
    let w = length-append h.before view in
    omega arith
