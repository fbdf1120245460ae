-- Pairs whose places are at hand, where keys come behind and counts change.
use Rattle.std.proofs.Common.{◌≡◌, ℕ, zero, suc, Some, List, [], ◌∷◌, ◌++◌, take, replicate, get_or, slice_get, refl, sym, ap, subst, ◌∙◌, arith, length-append}
use Rattle.std.specs.List.{All}
use Rattle.std.specs.Map.{keys_of}
use Rattle.std.proofs.lemmas.List.{get_or_append_left, map-append}
use Rattle.std.proofs.lemmas.List.Elements.{All-append, All-replicate, All-take}
use Rattle.std.proofs.lemmas.Option.{slice_get_within, get_or_from_slice_get, slice_get-get_or}
use Rattle.indexmap.specs.IndexMap.{set_value_at}
use Rattle.mt_counts.specs.Tallies.{Grows, IsAt, IsHint}
use Rattle.mt_counts.specs.declared.tally.Hint.{Hint}
use Rattle.mt_counts.proofs.Entries.{at_key, get_or-keys, length-keys}

-- the places of pairs are right among these keys
abbrev pub AreHints : List (ℕ × ℕ) → List Hint → Type 0
AreHints keys hints = All (λ hint. IsHint keys hint.group hint.member hint.place) hints

-- a pair at hand has a count
pub hint_at : (es : List ((ℕ × ℕ) × ℕ)) (group member place : ℕ) → IsHint (keys_of es) group member place → IsAt es (group, member) place
hint_at es group member place h =
    let within = slice_get_within (keys_of es) place (group, member) h in
    let key = get_or-keys es place (group, member) 0 in
    let entry = get_or es place ((group, member), 0) in
    let is : entry.0 ≡ (group, member) = sym key ∙ get_or_from_slice_get (keys_of es) place (group, member) (group, member) h in
    record { count = entry.1; there = slice_get-get_or es place ((group, member), 0) (omega (arith, within, length-keys es)) ∙ ap (λ (k : ℕ × ℕ). Some (k, entry.1)) is }

pub at_hint : (es : List ((ℕ × ℕ) × ℕ)) (group member place : ℕ) → IsAt es (group, member) place → IsHint (keys_of es) group member place
at_hint es group member place at =
    let h = at_key es (group, member) place at in
    slice_get-get_or (keys_of es) place (group, member) h.0 ∙ ap Some h.1

-- the same, where the pair is one that was asked for
pub hinted_at : (es : List ((ℕ × ℕ) × ℕ)) (hint : Hint) (group member : ℕ) → IsHint (keys_of es) hint.group hint.member hint.place → hint.group ≡ group → hint.member ≡ member → IsAt es (group, member) hint.place
hinted_at es hint group member h e f = rw (sym e, sym f) (hint_at es hint.group hint.member hint.place h)

-- a key that comes behind the others
hint_stays : (old : List ((ℕ × ℕ) × ℕ)) (more : List ((ℕ × ℕ) × ℕ)) (group member place : ℕ) → IsHint (keys_of old) group member place → IsHint (keys_of (old ++ more)) group member place
hint_stays old more group member place h =
    let within = slice_get_within (keys_of old) place (group, member) h in
    let behind : keys_of (old ++ more) ≡ keys_of old ++ keys_of more = map-append (λ (e : (ℕ × ℕ) × ℕ). e.0) old more in
    ap (λ (ks : List (ℕ × ℕ)). slice_get ks place) behind ∙ slice_get-get_or (keys_of old ++ keys_of more) place (group, member) (omega (arith, within, length-append (keys_of old) (keys_of more))) ∙
    ap Some (get_or_append_left (keys_of old) (keys_of more) (group, member) place within ∙ get_or_from_slice_get (keys_of old) place (group, member) (group, member) h)

pub hints_grown : (old new : List ((ℕ × ℕ) × ℕ)) (hints : List Hint) → Grows old new → AreHints (keys_of old) hints → AreHints (keys_of new) hints
hints_grown old new hints g h = rw g.are (λ k d l. let hint = get_or hints k d in hint_stays old g.more hint.group hint.member hint.place (h k d l))

-- a count that is written
pub keys-set : (es : List ((ℕ × ℕ) × ℕ)) (i w : ℕ) → keys_of (set_value_at es i w) ≡ keys_of es
keys-set [] i w = refl
keys-set (e ∷ es) zero w = refl
keys-set (e ∷ es) (suc i) w = ap (λ (ks : List (ℕ × ℕ)). e.0 ∷ ks) (keys-set es i w)

pub hints_set : (es : List ((ℕ × ℕ) × ℕ)) (hints : List Hint) (i w : ℕ) → AreHints (keys_of es) hints → AreHints (keys_of (set_value_at es i w)) hints
hints_set es hints i w h = rw (keys-set es i w) h

-- one pair fills what is free
pub hints_filled : (keys : List (ℕ × ℕ)) (hints new : List Hint) (hint : Hint) (m n : ℕ) → new ≡ take m hints ++ replicate n hint → IsHint keys hint.group hint.member hint.place → AreHints keys hints → AreHints keys new
hints_filled keys hints new hint m n e is h =
    let P : Hint → Type 0 = λ (hint : Hint). IsHint keys hint.group hint.member hint.place in
    subst (λ (hs : List Hint). AreHints keys hs) (sym e) (All-append P (take m hints) (replicate n hint) (All-take P m hints h) (All-replicate P n hint is))
