-- Pairs that are placed one after another, and counts that are raised at their places.
use Rattle.std.proofs.Common.{◌≡◌, ℕ, zero, suc, ◌+◌, ◌<◌, ◌≤◌, List, [], ◌∷◌, ◌++◌, length, take, get_or, sym, ap, subst, ◌∙◌, arith}
use Rattle.std.specs.List.{AllZip}
use Rattle.std.specs.Map.{keys_of}
use Rattle.std.proofs.lemmas.List.{take_more, take_all, map-append}
use Rattle.std.proofs.lemmas.Slice.Zip.{AllZip-long}
use Rattle.indexmap.proofs.SetLemmas.{AllZip-push}
use Rattle.mt_counts.specs.Tallies.{AreKeysBelow, Grows, HasKeysBelow, IsAt, IsRaised, each_once}
use Rattle.mt_counts.specs.Totals.{total, AddUp}
use Rattle.mt_counts.proofs.Entries.{grows_none}
use Rattle.mt_counts.proofs.Growing.{grows_then, grows_at, at_keys}
use Rattle.mt_counts.proofs.Turning.{zip_weaker}
use Rattle.mt_counts.proofs.Totals.{part, total-append, total-raised, raised_key}

-- ---- pairs are placed

pub zip_at : {A B : Type 0} (R : A → B → Type 0) (xs : List A) (ys : List B) (k : ℕ) (x : A) (y : B) → AllZip R xs ys → k < length ys → R (get_or xs k x) (get_or ys k y)
zip_at R [] [] k x y h l = absurd (omega (arith, l))
zip_at R [] (b ∷ ys) k x y h l = absurd h
zip_at R (a ∷ xs) [] k x y h l = absurd h
zip_at R (a ∷ xs) (b ∷ ys) zero x y h l = h.0
zip_at R (a ∷ xs) (b ∷ ys) (suc k) x y h l = zip_at R xs ys k x y h.1 (omega (arith, l))

pub placed_grown : (old new : List ((ℕ × ℕ) × ℕ)) (keys : List (ℕ × ℕ)) (places : List ℕ) → Grows old new → AllZip (IsAt old) keys places → AllZip (IsAt new) keys places
placed_grown old new keys places h z = zip_weaker (IsAt old) (IsAt new) keys places (λ key place at. grows_at old new key place h at) z

pub record IsPlacing (first now : List ((ℕ × ℕ) × ℕ)) (keys : List (ℕ × ℕ)) (places : List ℕ) (k : ℕ) : Type 0 where
  pub grows : Grows first now
  pub placed : AllZip (IsAt now) (take k keys) places
  pub below : (g m : ℕ) → HasKeysBelow g m first → AreKeysBelow g m keys → HasKeysBelow g m now

pub placing_none : (first : List ((ℕ × ℕ) × ℕ)) (keys : List (ℕ × ℕ)) (places : List ℕ) → places ≡ [] → IsPlacing first first keys places 0
placing_none first keys places e = rw e (record { grows = grows_none first; placed = none keys; below = λ g m h b. h })
  where
    none : (keys : List (ℕ × ℕ)) → AllZip (IsAt first) (take 0 keys) []
    none [] = tt
    none (key ∷ keys) = tt

pub placing_more : (first now next : List ((ℕ × ℕ) × ℕ)) (keys : List (ℕ × ℕ)) (places more : List ℕ) (k place : ℕ) (d : ℕ × ℕ) → k < length keys → IsPlacing first now keys places k → Grows now next → IsAt next (get_or keys k d) place →
    ((g m : ℕ) → HasKeysBelow g m now → (get_or keys k d).0 < g → (get_or keys k d).1 < m → HasKeysBelow g m next) → more ≡ places ++ place ∷ [] → IsPlacing first next keys more (k + 1)
placing_more first now next keys places more k place d l h grows at below e = rw e (record {
  grows = grows_then first now next h.grows grows;
  placed = subst (λ (ks : List (ℕ × ℕ)). AllZip (IsAt next) ks (places ++ place ∷ [])) (sym (take_more keys k d l)) (AllZip-push (IsAt next) (take k keys) places (get_or keys k d) place (placed_grown now next (take k keys) places grows h.placed) at);
  below = λ g m b all. below g m (h.below g m b all) (all k d l).0 (all k d l).1;
})

pub placing_whole : (first now : List ((ℕ × ℕ) × ℕ)) (keys : List (ℕ × ℕ)) (places : List ℕ) (k : ℕ) → IsPlacing first now keys places k → length keys ≤ k → AllZip (IsAt now) keys places
placing_whole first now keys places k h l = subst (λ (ks : List (ℕ × ℕ)). AllZip (IsAt now) ks places) (take_all k keys l) h.placed

-- ---- counts are raised

pub nothing_raised : (old : List ((ℕ × ℕ) × ℕ)) (keys : List (ℕ × ℕ)) → AddUp old (each_once (take 0 keys)) old
nothing_raised old [] p = omega arith
nothing_raised old (key ∷ keys) p = omega arith

pub raised_more : (old now next : List ((ℕ × ℕ) × ℕ)) (keys : List (ℕ × ℕ)) (places : List ℕ) (k d : ℕ) → k < length places → keys_of now ≡ keys_of old → AllZip (IsAt old) keys places → AddUp old (each_once (take k keys)) now →
    IsRaised now (get_or places k d) 1 next → AddUp old (each_once (take (k + 1) keys)) next
raised_more old now next keys places k d l same z added raised p =
    let key = get_or keys k (0, 0) in
    let at = at_keys old now key (get_or places k d) same (zip_at (IsAt old) keys places k (0, 0) d z l) in
    let is = raised_key now next (get_or places k d) 1 raised key at in
    let one : part p raised.key 1 ≡ part p key 1 = ap (λ (other : ℕ × ℕ). part p other 1) is in
    let within : k < length keys = omega (arith, l, AllZip-long (IsAt old) keys places z) in
    let more : total p (each_once (take (k + 1) keys)) ≡ total p (each_once (take k keys)) + total p ((key, 1) ∷ []) =
    ap (λ (ks : List (ℕ × ℕ)). total p (each_once ks)) (take_more keys k (0, 0) within) ∙ ap (λ (es : List ((ℕ × ℕ) × ℕ)). total p es) (map-append (λ (k : ℕ × ℕ). (k, 1)) (take k keys) (key ∷ [])) ∙ total-append p (each_once (take k keys)) ((key, 1) ∷ []) in
    omega (arith, added p, more, one, total-raised p now next (get_or places k d) 1 raised)

pub raised_whole : (old now : List ((ℕ × ℕ) × ℕ)) (keys : List (ℕ × ℕ)) (places : List ℕ) (k : ℕ) → length places ≤ k → AllZip (IsAt old) keys places → AddUp old (each_once (take k keys)) now → AddUp old (each_once keys) now
raised_whole old now keys places k l z added = subst (λ (ks : List (ℕ × ℕ)). AddUp old (each_once ks) now) (take_all k keys (omega (arith, l, AllZip-long (IsAt old) keys places z))) added
