-- What is added for a part of a query is what the part matches.
use Rattle.std.proofs.Common.{◌≡◌, ℕ, zero, suc, ◌+◌, ◌<◌, ◌≤◌, ◌⊎◌, List, [], refl, sym, ◌∙◌, ap, subst, inl, inr, arith}
use Rattle.mt_text_spec.specs.Queries.{Any}
use Rattle.mt_match_spec.specs.Matches as m
use Rattle.mt_match_spec.specs.Labels.{no_labels, labelled, united}
use Rattle.mt_automaton.specs.declared.view.Mark.TheVariants.{Holds, Begins, Ends}
use Rattle.mt_automaton.specs.Parts.{Seen, Stands}
use Rattle.mt_shapes.specs.declared.shape.Shape.{Shape}
use Rattle.mt_shapes.specs.declared.table.Entry.{Entry}
use Rattle.mt_shapes.specs.Tables.{IsMatchOf, Adds, Inside, IsMarked, IsStretch, IsStretchBelow, IsTurned}
use Rattle.mt_shapes.proofs.Labels.{label_moved}
use Rattle.mt_shapes.proofs.Matches.{adds_renamed, adds_then}
use Rattle.mt_shapes.proofs.Forward.{Between}

-- what an empty table was given is all that it tells
pub only_of : (tokens : ℕ) (R : m.Relation) (new : List Entry) → Adds tokens R [] new → (b e : ℕ) (l : List ℕ) → IsMatchOf new b e l → R b e l
only_of tokens R new a b e l r = elim (a.sound b e l r) [ inl was ↦ let low = was.below in absurd (omega (arith, low)) | inr p ↦ p ]

-- ## One part after another, and either of two

pub parts_joined : (tokens : ℕ) (R S : m.Relation) (firsts seconds old new : List Entry) → Between tokens R S → Adds tokens (Inside tokens R) [] firsts → Adds tokens (Inside tokens S) [] seconds
    → Adds tokens (m.Joined (IsMatchOf firsts) (IsMatchOf seconds)) old new → Adds tokens (Inside tokens (m.Joined R S)) old new
parts_joined tokens R S firsts seconds old new between f s a =
    adds_renamed tokens (m.Joined (IsMatchOf firsts) (IsMatchOf seconds)) (Inside tokens (m.Joined R S)) old new
    (λ b e l j.
    let x = only_of tokens (Inside tokens R) firsts f b j.cut j.first_labels j.first in
    let y = only_of tokens (Inside tokens S) seconds s j.cut e j.second_labels j.second in
    record {
      begins = x.begins;
      ends = y.ends;
      matches = record { cut = j.cut; first_labels = j.first_labels; second_labels = j.second_labels; first = x.matches; second = y.matches; unite = j.unite };
    })
    (λ b e l r.
    let j = r.matches in
    let on : j.cut ≤ tokens = between b j.cut e j.first_labels j.second_labels r.begins r.ends j.first j.second in
    record {
      cut = j.cut;
      first_labels = j.first_labels;
      second_labels = j.second_labels;
      first = f.complete b j.cut j.first_labels (record { begins = r.begins; ends = on; matches = j.first });
      second = s.complete j.cut e j.second_labels (record { begins = on; ends = r.ends; matches = j.second });
      unite = j.unite;
    }) a

-- the same by the tables that were read
pub two_tables : (tokens : ℕ) (firsts seconds one other old new : List Entry) → firsts ≡ one → seconds ≡ other → Adds tokens (m.Joined (IsMatchOf firsts) (IsMatchOf seconds)) old new
    → Adds tokens (m.Joined (IsMatchOf one) (IsMatchOf other)) old new
two_tables tokens firsts seconds one other old new e d a =
    subst (λ (es : List Entry). Adds tokens (m.Joined (IsMatchOf es) (IsMatchOf other)) old new) e (subst (λ (es : List Entry). Adds tokens (m.Joined (IsMatchOf firsts) (IsMatchOf es)) old new) d a)

pub either_part : (tokens : ℕ) (R S : m.Relation) (old mid new : List Entry) → Adds tokens (Inside tokens R) old mid → Adds tokens (Inside tokens S) mid new → Adds tokens (Inside tokens (λ b e l. R b e l ⊎ S b e l)) old new
either_part tokens R S old mid new a c =
    adds_then tokens (Inside tokens R) (Inside tokens S) (Inside tokens (λ b e l. R b e l ⊎ S b e l)) old mid new
    (λ x y l r. record { begins = r.begins; ends = r.ends; matches = inl r.matches })
    (λ x y l r. record { begins = r.begins; ends = r.ends; matches = inr r.matches })
    (λ x y l r. elim r.matches [
      | inl p ↦ inl (record { begins = r.begins; ends = r.ends; matches = p })
      | inr p ↦ inr (record { begins = r.begins; ends = r.ends; matches = p })
    ]) a c

-- ## Marks

pub holds_inside : (v : Seen) (test tokens : ℕ) → tokens ≡ v.text.tokens → (b : ℕ) → Stands v (Holds test) b → b + 1 ≤ tokens
holds_inside v test tokens is b s = let low = s.0 in omega (arith, low, is)

pub begins_inside : (v : Seen) (tag tokens : ℕ) → tokens ≡ v.text.tokens → (b : ℕ) → Stands v (Begins tag) b → b + 0 ≤ tokens
begins_inside v tag tokens is b s = let low = s.0 in omega (arith, low, is)

pub ends_inside : (v : Seen) (tag tokens : ℕ) → tokens ≡ v.text.tokens → (b : ℕ) → Stands v (Ends tag) b → b + 0 ≤ tokens
ends_inside v tag tokens is b s = let low = s.0 in omega (arith, low, is)

pub token : (v : Seen) (label test tokens : ℕ) (shape : Shape) (old new : List Entry) → tokens ≡ v.text.tokens → shape ≡ (record { length = 1; labels = labelled label 0 }) → Adds tokens (IsMarked v (Holds test) shape) old new
    → Adds tokens (Inside tokens (m.IsToken v.text label (v.test test))) old new
token v label test tokens shape old new is s a =
    adds_renamed tokens (IsMarked v (Holds test) (record { length = 1; labels = labelled label 0 })) (Inside tokens (m.IsToken v.text label (v.test test))) old new
    (λ b e l r.
    let low = r.stands.0 in
    let end = r.end_is in
    record {
      begins = omega (arith, low, is);
      ends = omega (arith, low, end, is);
      matches = record { inside = r.stands.0; holds = r.stands.1; end_is = r.end_is; labels_are = r.labels_are ∙ label_moved b label };
    })
    (λ b e l r. record { stands = (r.matches.inside, r.matches.holds); end_is = r.matches.end_is; labels_are = r.matches.labels_are ∙ sym (label_moved b label) })
    (subst (λ (x : Shape). Adds tokens (IsMarked v (Holds test) x) old new) s a)

pub begin : (v : Seen) (tag tokens : ℕ) (shape : Shape) (old new : List Entry) → tokens ≡ v.text.tokens → shape ≡ (record { length = 0; labels = no_labels }) → Adds tokens (IsMarked v (Begins tag) shape) old new
    → Adds tokens (Inside tokens (m.IsBegin v.text (v.tag tag).kind (v.tag tag).test)) old new
begin v tag tokens shape old new is s a =
    adds_renamed tokens (IsMarked v (Begins tag) (record { length = 0; labels = no_labels })) (Inside tokens (m.IsBegin v.text (v.tag tag).kind (v.tag tag).test)) old new
    (λ b e l r.
    let low = r.stands.0 in
    let end = r.end_is in
    record {
      begins = omega (arith, low, is);
      ends = omega (arith, low, end, is);
      matches = record { close = r.stands.1.0; lies = r.stands.1.1; end_is = omega (arith, end); labels_are = r.labels_are };
    })
    (λ b e l r. let low = r.begins in let end = r.matches.end_is in record { stands = (omega (arith, low, is), (r.matches.close, r.matches.lies)); end_is = omega (arith, end); labels_are = r.matches.labels_are })
    (subst (λ (x : Shape). Adds tokens (IsMarked v (Begins tag) x) old new) s a)

pub end : (v : Seen) (tag tokens : ℕ) (shape : Shape) (old new : List Entry) → tokens ≡ v.text.tokens → shape ≡ (record { length = 0; labels = no_labels }) → Adds tokens (IsMarked v (Ends tag) shape) old new
    → Adds tokens (Inside tokens (m.IsEnd v.text (v.tag tag).kind)) old new
end v tag tokens shape old new is s a =
    adds_renamed tokens (IsMarked v (Ends tag) (record { length = 0; labels = no_labels })) (Inside tokens (m.IsEnd v.text (v.tag tag).kind)) old new
    (λ b e l r.
    let low = r.stands.0 in
    let end = r.end_is in
    record {
      begins = omega (arith, low, is);
      ends = omega (arith, low, end, is);
      matches = record { open_at = r.stands.1.0; lies = r.stands.1.1; end_is = omega (arith, end); labels_are = r.labels_are };
    })
    (λ b e l r. let low = r.begins in let end = r.matches.end_is in record { stands = (omega (arith, low, is), (r.matches.open_at, r.matches.lies)); end_is = omega (arith, end); labels_are = r.matches.labels_are })
    (subst (λ (x : Shape). Adds tokens (IsMarked v (Ends tag) x) old new) s a)

-- ## Gaps

-- so many tokens, whatever they are
stretch_turns : (s : m.Sight) → ((place : ℕ) → place < s.tokens → s.holds Any place) → (count b e : ℕ) (l : List ℕ) → IsStretch s.tokens count b e l → m.Turns (m.IsToken s 0 Any) count b e l
stretch_turns s any zero b e l r = let end = r.end_is in (omega (arith, end), r.labels_are)
stretch_turns s any (suc count) b e l r =
    let end = r.end_is in
    let far = r.inside in
    record {
      cut = b + 1;
      first_labels = no_labels;
      second_labels = no_labels;
      first = record { inside = omega (arith, end, far); holds = any b (omega (arith, end, far)); end_is = refl; labels_are = refl };
      second = stretch_turns s any count (b + 1) e no_labels (record { end_is = omega (arith, end); inside = far; labels_are = refl });
      unite = r.labels_are;
    }

turns_stretch : (s : m.Sight) (count b e : ℕ) (l : List ℕ) → e ≤ s.tokens → m.Turns (m.IsToken s 0 Any) count b e l → IsStretch s.tokens count b e l
turns_stretch s zero b e l high t = record { end_is = let same = t.0 in omega (arith, same); inside = high; labels_are = t.1 }
turns_stretch s (suc count) b e l high t =
    let rest = turns_stretch s count t.cut e t.second_labels high t.second in
    let end = rest.end_is in
    let cut = t.first.end_is in
    record { end_is = omega (arith, end, cut); inside = high; labels_are = t.unite ∙ ap (λ k. united k t.second_labels) t.first.labels_are ∙ ap (united no_labels) rest.labels_are }

pub gap : (s : m.Sight) (tokens least most : ℕ) (old new : List Entry) → tokens ≡ s.tokens → ((place : ℕ) → place < tokens → s.holds Any place) → Adds tokens (IsStretchBelow tokens least (most + 1)) old new
    → Adds tokens (Inside tokens (m.Repeated (m.IsToken s 0 Any) least most)) old new
gap s tokens least most old new is any a =
    adds_renamed tokens (IsStretchBelow tokens least (most + 1)) (Inside tokens (m.Repeated (m.IsToken s 0 Any) least most)) old new
    (λ b e l r.
    let end = r.is.end_is in
    let far = r.is.inside in
    let high = r.high in
    record {
      begins = omega (arith, end, far);
      ends = far;
      matches = record { count = r.count; low = r.low; high = omega (arith, high); turns = stretch_turns s (λ place h. any place (omega (arith, h, is))) r.count b e l (subst (λ n. IsStretch n r.count b e l) is r.is) };
    })
    (λ b e l r.
    let high = r.matches.high in
    let ends = r.ends in
    record {
      count = r.matches.count;
      low = r.matches.low;
      high = omega (arith, high);
      is = subst (λ n. IsStretch n r.matches.count b e l) (sym is) (turns_stretch s r.matches.count b e l (omega (arith, ends, is)) r.matches.turns);
    }) a

-- ## Turns

turns_there : (tokens : ℕ) (R : m.Relation) (inner : List Entry) → Adds tokens (Inside tokens R) [] inner → (count b e : ℕ) (l : List ℕ) → m.Turns (IsMatchOf inner) count b e l → m.Turns R count b e l
turns_there tokens R inner a zero b e l t = t
turns_there tokens R inner a (suc count) b e l t = record {
  cut = t.cut;
  first_labels = t.first_labels;
  second_labels = t.second_labels;
  first = (only_of tokens (Inside tokens R) inner a b t.cut t.first_labels t.first).matches;
  second = turns_there tokens R inner a count t.cut e t.second_labels t.second;
  unite = t.unite;
}

turns_back : (tokens : ℕ) (R : m.Relation) (inner : List Entry) → ((count : ℕ) → Between tokens R (m.Turns R count)) → Adds tokens (Inside tokens R) [] inner → (count b e : ℕ) (l : List ℕ) → b ≤ tokens → e ≤ tokens
    → m.Turns R count b e l → m.Turns (IsMatchOf inner) count b e l
turns_back tokens R inner between a zero b e l low high t = t
turns_back tokens R inner between a (suc count) b e l low high t =
    let on : t.cut ≤ tokens = between count b t.cut e t.first_labels t.second_labels low high t.first t.second in
    record {
      cut = t.cut;
      first_labels = t.first_labels;
      second_labels = t.second_labels;
      first = a.complete b t.cut t.first_labels (record { begins = low; ends = on; matches = t.first });
      second = turns_back tokens R inner between a count t.cut e t.second_labels on high t.second;
      unite = t.unite;
    }

pub turned : (tokens : ℕ) (R : m.Relation) (inner old new : List Entry) (least most : ℕ) → ((count : ℕ) → Between tokens R (m.Turns R count)) → Adds tokens (Inside tokens R) [] inner
    → Adds tokens (IsTurned tokens (IsMatchOf inner) least most) old new → Adds tokens (Inside tokens (m.Repeated R least most)) old new
turned tokens R inner old new least most between a t =
    adds_renamed tokens (IsTurned tokens (IsMatchOf inner) least most) (Inside tokens (m.Repeated R least most)) old new
    (λ b e l r. record {
      begins = r.turns.begins;
      ends = r.turns.ends;
      matches = record { count = r.count; low = r.low; high = r.high; turns = turns_there tokens R inner a r.count b e l r.turns.matches };
    })
    (λ b e l r. record {
      count = r.matches.count;
      low = r.matches.low;
      high = r.matches.high;
      turns = record { begins = r.begins; ends = r.ends; matches = turns_back tokens R inner between a r.matches.count b e l r.begins r.ends r.matches.turns };
    }) t
