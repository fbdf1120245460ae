-- Matches, whatever their labels.
use Rattle.std.proofs.Common.{◌≡◌, ℕ, ◌⊎◌, List, length, refl, subst, inl, inr}
use Rattle.std.specs.Prelude.{Result, Ok, Err, IfOk}
use Rattle.mt_match_spec.specs.Matches as m
use Rattle.mt_match_spec.specs.Labels.{no_labels, labelled, united}
use Rattle.mt_text_spec.specs.Queries as q
use Rattle.mt_places.specs.Places.{In, room, HasJust}
use Rattle.mt_automaton.specs.declared.part.Part.{Part}
use Rattle.mt_automaton.specs.declared.part.Part.TheVariants.{Token}
use Rattle.mt_automaton.specs.Parts.{Seen, PartMatches, meant}
use Rattle.mt_automaton.specs.LabelledParts.{Somehow}
use Rattle.mt_automaton.specs.Ways.{Image}
use Rattle.mt_automaton.proofs.Bare.{bare_part}
use Rattle.mt_automaton.proofs.Forward.{Between}
use Rattle.mt_automaton.proofs.Images.{renamed, before, either}

-- a relation as it is followed back
abbrev pub Back : m.Relation → ℕ → ℕ → Type 0
Back R = λ f b. Somehow R b f

pub plain : {E : Type 0} (v : Seen) (part : Part) (set : List ℕ) (out : Result (List ℕ) E) → IfOk out (λ o. Image (λ f b. PartMatches v part b f) set o)
    → IfOk out (λ o. Image (Back (m.Matches v.text (meant v part))) set o)
plain v part set (Ok out) i = renamed (λ f b. PartMatches v part b f) (Back (m.Matches v.text (meant v part))) set out
    (λ f b h. (no_labels, h)) (λ f b h. subst (m.Matches v.text (meant v part) b f) (bare_part v part b f h.0 h.1) h.1) i
plain v part set (Err e) i = tt

pub token : {E : Type 0} (v : Seen) (label test : ℕ) (set : List ℕ) (out : Result (List ℕ) E) → IfOk out (λ o. Image (λ f b. PartMatches v (Token test) b f) set o)
    → IfOk out (λ o. Image (Back (m.Matches v.text (q.TokenTest label (v.test test)))) set o)
token v label test set (Ok out) i = renamed (λ f b. PartMatches v (Token test) b f) (Back (m.Matches v.text (q.TokenTest label (v.test test)))) set out
    (λ f b h. (labelled label b, record { inside = h.inside; holds = h.holds; end_is = h.end_is; labels_are = refl }))
    (λ f b h. record { inside = h.1.inside; holds = h.1.holds; end_is = h.1.end_is; labels_are = refl }) i
token v label test set (Err e) i = tt

pub joined : {E : Type 0} (R S : m.Relation) (a b : List ℕ) (out : Result (List ℕ) E) → Between (room a) (Somehow R) (Somehow S) → Image (Back S) a b → IfOk out (λ o. Image (Back R) b o) → IfOk out (λ o. Image (Back (m.Joined R S)) a o)
joined R S a b (Ok out) meet i j = renamed (λ f b. (c : ℕ) × Somehow R b c × Somehow S c f) (Back (m.Joined R S)) a out
    (λ f b t. (united t.1.0 t.2.0, record { cut = t.0; first_labels = t.1.0; second_labels = t.2.0; first = t.1.1; second = t.2.1; unite = refl }))
    (λ f b h. (h.1.cut, (h.1.first_labels, h.1.first), (h.1.second_labels, h.1.second))) (before (Somehow R) (Somehow S) a b out meet i j)
joined R S a b (Err e) meet i j = tt

pub chosen : (R S : m.Relation) (a b c u : List ℕ) → Image (Back R) a b → Image (Back S) a c → length u ≡ length b → HasJust (λ k. In b k ⊎ In c k) u
    → Image (Back (λ x y labels. R x y labels ⊎ S x y labels)) a u
chosen R S a b c u i j size just = renamed (λ f b. Somehow R b f ⊎ Somehow S b f) (Back (λ x y labels. R x y labels ⊎ S x y labels)) a u
    (λ f b h. elim h [ inl r ↦ (r.0, inl r.1) | inr s ↦ (s.0, inr s.1) ])
    (λ f b h. elim h.1 [ inl r ↦ inl (h.0, r) | inr s ↦ inr (h.0, s) ]) (either (Back R) (Back S) a b c u i j size just)
