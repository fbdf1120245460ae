-- Matches of parts without labels have none.
use Rattle.std.proofs.Common.{◌≡◌, ℕ, zero, suc, List, refl, sym, ◌∙◌, ap, subst, inl, inr}
use Rattle.mt_text_spec.specs.Queries.{Any}
use Rattle.mt_match_spec.specs.Matches as m
use Rattle.mt_match_spec.specs.Labels.{no_labels, united}
use Rattle.mt_automaton.specs.declared.part.Part.{Part}
use Rattle.mt_automaton.specs.declared.part.Part.TheVariants.{Token, Begin, End, Whole, Seq', Choice', Repeat', Gap}
use Rattle.mt_automaton.specs.Parts.{Seen, meant}

-- what a relation matches has no labels
abbrev pub Bare : m.Relation → Type 0
Bare R = (b f : ℕ) (labels : List ℕ) → R b f labels → labels ≡ no_labels

-- what it matches without labels
abbrev pub Plain : m.Relation → ℕ → ℕ → Type 0
Plain R b f = R b f no_labels

none_united : united no_labels no_labels ≡ no_labels
none_united = refl

united_none : (l k : List ℕ) → l ≡ no_labels → k ≡ no_labels → united l k ≡ no_labels
united_none l k e d = ap (λ x. united x k) e ∙ ap (united no_labels) d ∙ none_united

pub bare_joined : (R S : m.Relation) → Bare R → Bare S → Bare (m.Joined R S)
bare_joined R S r s b f l j = j.unite ∙ united_none j.first_labels j.second_labels (r b j.cut j.first_labels j.first) (s j.cut f j.second_labels j.second)

pub bare_turns : (R : m.Relation) (k : ℕ) → Bare R → Bare (m.Turns R k)
bare_turns R zero r b f l t = t.1
bare_turns R (suc k) r b f l t = bare_joined R (m.Turns R k) r (bare_turns R k r) b f l t

pub bare_part : (v : Seen) (part : Part) → Bare (m.Matches v.text (meant v part))
bare_part v (Token test) b f l h = h.labels_are
bare_part v (Begin tag) b f l h = h.labels_are
bare_part v (End tag) b f l h = h.labels_are
bare_part v (Whole tag) b f l h = h.labels_are
bare_part v (Seq' p left r right) b f l h = bare_joined (m.Matches v.text (meant v left)) (m.Matches v.text (meant v right)) (bare_part v left) (bare_part v right) b f l h
bare_part v (Choice' p left r right) b f l h = elim h [ inl x ↦ bare_part v left b f l x | inr y ↦ bare_part v right b f l y ]
bare_part v (Repeat' p inner least most) b f l h = bare_turns (m.Matches v.text (meant v inner)) h.count (bare_part v inner) b f l h.turns
bare_part v (Gap least most) b f l h = bare_turns (m.IsToken v.text 0 Any) h.count (λ x y k t. t.labels_are) b f l h.turns

-- ## One after the other

pub joined_there : (R S : m.Relation) → Bare R → Bare S → (b f : ℕ) → Plain (m.Joined R S) b f → (c : ℕ) × Plain R b c × Plain S c f
joined_there R S r s b f j = (j.cut, subst (R b j.cut) (r b j.cut j.first_labels j.first) j.first, subst (S j.cut f) (s j.cut f j.second_labels j.second) j.second)

pub joined_back : (R S : m.Relation) (b f c : ℕ) → Plain R b c → Plain S c f → Plain (m.Joined R S) b f
joined_back R S b f c x y = record { cut = c; first_labels = no_labels; second_labels = no_labels; first = x; second = y; unite = sym none_united }
