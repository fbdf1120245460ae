-- The live texts of groups, by their places.
use Rattle.std.proofs.Common.{◌≡◌, ℕ, zero, suc, Bool, true, false, List, [], ◌∷◌, slice_get, Some, ap}
use Rattle.std.proofs.lemmas.Option.{same_Some}
use Rattle.mt_text_spec.specs.Texts.{Text}
use Rattle.mt_corpus_spec.specs.Groups.{Group, HoldsName, corpus_of, live_texts}
use Rattle.mt_corpus.specs.Held.{IsLiveAt, IsNamedAt}
use Rattle.mt_corpus.proofs.Has.{Has, any_has, has_any, has_part, part_has}

-- ---- in a group

in_group : (group : Group) (text : Text) → Has (live_texts group) text → Has group (text, true)
in_group [] text h = let e = h.there in cc
in_group ((one, true) ∷ group) text h = by h.at h.there (λ g. in_group group text g)
  where
    by : (k : ℕ) → slice_get (one ∷ live_texts group) k ≡ Some text → (Has (live_texts group) text → Has group (text, true)) → Has ((one, true) ∷ group) (text, true)
    by zero e more = record { at = 0; there = ap (λ (t : Text). Some (t, true)) (same_Some one text e) }
    by (suc k) e more = let g = more (record { at = k; there = e }) in record { at = suc g.at; there = g.there }
in_group ((one, false) ∷ group) text h = let g = in_group group text h in record { at = suc g.at; there = g.there }

live_at : (group : Group) (text : Text) (k : ℕ) → slice_get group k ≡ Some (text, true) → Has (live_texts group) text
live_at [] text k e = cc
live_at ((one, live) ∷ group) text zero e = by live (ap (λ (m : Text × Bool). m.0) (same_Some (one, live) (text, true) e)) (ap (λ (m : Text × Bool). m.1) (same_Some (one, live) (text, true) e))
  where
    by : (b : Bool) → one ≡ text → b ≡ true → Has (live_texts ((one, b) ∷ group)) text
    by true is on = record { at = 0; there = ap Some is }
    by false is on = cc
live_at ((one, live) ∷ group) text (suc k) e = by live (live_at group text k e)
  where
    by : (b : Bool) → Has (live_texts group) text → Has (live_texts ((one, b) ∷ group)) text
    by true h = record { at = suc h.at; there = h.there }
    by false h = h

-- ---- in groups

-- a text of the corpus is live at some place
pub place_of : (groups : List Group) (text : Text) → Has (corpus_of groups) text → (place : ℕ × ℕ) × IsLiveAt groups place text
place_of groups text h =
    let (group, there, its) = has_part live_texts groups text h in
    let at = in_group group text its in
    ((there.at, at.at), record { group = group; there = there.there; live = at.there })

pub text_at : (groups : List Group) (place : ℕ × ℕ) (text : Text) → IsLiveAt groups place text → Has (corpus_of groups) text
text_at groups place text h = part_has live_texts groups h.group text (record { at = place.0; there = h.there }) (live_at h.group text place.1 h.live)

-- a name is held where a text of this name is live
pub named_at : (groups : List Group) (name : List ℕ) → HoldsName groups name → (place : ℕ × ℕ) × IsNamedAt groups place name
named_at groups name h =
    let (text, there, is) = any_has (λ (t : Text). t.name ≡ name) (corpus_of groups) h in
    let (place, live) = place_of groups text there in
    (place, record { text = text; live = live; named = is })

pub held_at : (groups : List Group) (place : ℕ × ℕ) (name : List ℕ) → IsNamedAt groups place name → HoldsName groups name
held_at groups place name h = has_any (λ (t : Text). t.name ≡ name) (corpus_of groups) h.text (text_at groups place h.text h.live) h.named
