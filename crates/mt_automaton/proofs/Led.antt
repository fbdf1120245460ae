-- Rows of parts with labels, part by part.
use Rattle.std.proofs.Common.{◌≡◌, ℕ, ◌+◌, ◌*◌, ◌<◌, ◌≤◌, ◌⊎◌, List, [], length, refl, sym, ◌∙◌, ap, subst, inl, inr, arith}
use Rattle.std.proofs.lemmas.Bool.{cases_eq, cases_lt}
use Rattle.mt_match_spec.specs.Matches as m
use Rattle.mt_match_spec.specs.Labels.{no_labels, labelled, united}
use Rattle.mt_places.specs.Places.{In, room, HasJust}
use Rattle.mt_automaton.proofs.Bits.{in_room}
use Rattle.mt_automaton.specs.declared.part.Part.{Part}
use Rattle.mt_automaton.specs.declared.labelled.Labelled.{Labelled}
use Rattle.mt_automaton.specs.declared.labelled.Labelled.TheVariants.{Plain, Token}
use Rattle.mt_automaton.specs.declared.view.Mark.TheVariants.{Holds}
use Rattle.mt_automaton.specs.declared.groups.Group.{Group}
use Rattle.mt_automaton.specs.Parts.{Seen, PartMatches, Stands, meant, width}
use Rattle.mt_automaton.specs.LabelledParts.{Somehow, labelled_meant}
use Rattle.mt_automaton.specs.Ways.{Image}
use Rattle.mt_automaton.specs.Groups.{group, IsRowOf, Fine, AddsRows, Leads, TokenBelow}
use Rattle.mt_automaton.proofs.Bare.{bare_part}
use Rattle.mt_automaton.proofs.Forward.{Between}
use Rattle.mt_automaton.proofs.Somehow.{Back}
use Rattle.mt_automaton.proofs.Unions.{united_assoc, nine_none, labels_are_nine}
use Rattle.mt_automaton.proofs.Grouped.{adds_nothing, adds_renamed, adds_then}

-- ## A part without labels

pub plain_there : (v : Seen) (part : Part) (from allowed found kept old : List ℕ) → length old ≡ 9 → Image (PartMatches v part) from found → HasJust (λ k. In found k × In allowed k) kept
    → (l : List ℕ) (f : ℕ) → (l ≡ old) × In kept f → Leads v (Plain part) from allowed old l f
plain_there v part from allowed found kept old nine i just l f p =
    let s = just.sound f p.1 in
    let r = i.sound f s.0 in
    record { is_allowed = s.1; begin = r.0; begins = r.1; labels = no_labels; matches = r.2; unite = p.0 ∙ sym (nine_none old nine) }

pub plain_back : (v : Seen) (part : Part) (from allowed found kept old : List ℕ) → length old ≡ 9 → length allowed ≡ length from → Image (PartMatches v part) from found → length kept ≡ length found
    → HasJust (λ k. In found k × In allowed k) kept → (l : List ℕ) (f : ℕ) → Leads v (Plain part) from allowed old l f → (l ≡ old) × In kept f
plain_back v part from allowed found kept old nine even i same just l f r =
    let none : r.labels ≡ no_labels = bare_part v part r.begin f r.labels r.matches in
    let below = in_room allowed f r.is_allowed in
    let there : In found f = i.complete r.begin f r.begins (subst (m.Matches v.text (meant v part) r.begin f) none r.matches) (omega (arith, below, even)) in
    let lt = in_room found f there in
    (r.unite ∙ ap (united old) none ∙ nine_none old nine, just.complete f (there, r.is_allowed) (omega (arith, lt, same)))

-- ## One part after another: the rows of all groups of the first

-- rows of the groups below n
pub record LeadsBelow (v : Seen) (right : Labelled) (first : List Group) (n : ℕ) (allowed new : List ℕ) (f : ℕ) : Type 0 where
  pub at : ℕ
  pub below : at < n
  pub leads : Leads v right (group first at).ends allowed (group first at).labels new f

pub none_below : (v : Seen) (right : Labelled) (first : List Group) (allowed : List ℕ) (width : ℕ) (old : List Group) → Fine width old → AddsRows width (LeadsBelow v right first 0 allowed) old old
none_below v right first allowed width old fine = adds_nothing width (LeadsBelow v right first 0 allowed) old fine (λ l f r. absurd (omega (arith, r.below)))

pub next_below : (v : Seen) (right : Labelled) (first : List Group) (n : ℕ) (g : Group) (allowed : List ℕ) (width : ℕ) (old mid new : List Group) → g ≡ group first n
    → AddsRows width (LeadsBelow v right first n allowed) old mid → AddsRows width (λ l f. Leads v right g.ends allowed g.labels l f) mid new → AddsRows width (LeadsBelow v right first (n + 1) allowed) old new
next_below v right first n g allowed width old mid new e a b =
    adds_renamed width (λ l f. LeadsBelow v right first n allowed l f ⊎ Leads v right g.ends allowed g.labels l f) (LeadsBelow v right first (n + 1) allowed) old new
    (λ l f r. elim r [
      | inl low ↦ record { at = low.at; below = omega (arith, low.below); leads = low.leads }
      | inr last ↦ record { at = n; below = omega arith; leads = subst (λ (x : Group). Leads v right x.ends allowed x.labels l f) e last }
    ])
    (λ l f r. elim (cases_lt r.at n) [
      | inl low ↦ inl (record { at = r.at; below = low; leads = r.leads })
      | inr last ↦
          let at : r.at ≡ n = omega (arith, r.below) in
          let is : group first r.at ≡ g = ap (λ k. group first k) at ∙ sym e in inr (subst (λ (x : Group). Leads v right x.ends allowed x.labels l f) is r.leads)
    ])
    (adds_then width (LeadsBelow v right first n allowed) (λ l f. Leads v right g.ends allowed g.labels l f) old mid new a b)

pub both_lead : (v : Seen) (p : Labelled) (left right : Labelled) (from allowed cut old : List ℕ) (first : List Group) (n width : ℕ) (a b : List Group) → length old ≡ 9 → Between (room allowed) (Somehow (m.Matches v.text (labelled_meant v left))) (Somehow (m.Matches v.text (labelled_meant v right)))
    → length from ≡ length allowed
    → ((bb ff : ℕ) (labels : List ℕ) → m.Matches v.text (labelled_meant v p) bb ff labels → m.Joined (m.Matches v.text (labelled_meant v left)) (m.Matches v.text (labelled_meant v right)) bb ff labels)
    → ((bb ff : ℕ) (labels : List ℕ) → m.Joined (m.Matches v.text (labelled_meant v left)) (m.Matches v.text (labelled_meant v right)) bb ff labels → m.Matches v.text (labelled_meant v p) bb ff labels)
    → Image (Back (m.Matches v.text (labelled_meant v right))) allowed cut → AddsRows width (λ l f. Leads v left from cut old l f) [] first → n ≡ length first
    → AddsRows width (LeadsBelow v right first n allowed) a b → AddsRows width (λ l f. Leads v p from allowed old l f) a b
both_lead v p left right from allowed cut old first n width a b nine meet even parts whole back led end added =
    adds_renamed width (LeadsBelow v right first n allowed) (λ l f. Leads v p from allowed old l f) a b
    (λ l f r.
    let s = r.leads in
    let row : IsRowOf first (group first r.at).labels s.begin = record { at = r.at; within = omega (arith, r.below, end); labelled = refl; is_in = s.begins } in
    elim (led.sound (group first r.at).labels s.begin row) [
      | inl was ↦ absurd (omega (arith, was.within))
      | inr x ↦
          let wide : length old ≡ length x.labels = nine ∙ sym (labels_are_nine v left x.begin s.begin x.labels x.matches) in
          record {
            is_allowed = s.is_allowed;
            begin = x.begin;
            begins = x.begins;
            labels = united x.labels s.labels;
            matches = whole x.begin f (united x.labels s.labels) (record { cut = s.begin; first_labels = x.labels; second_labels = s.labels; first = x.matches; second = s.matches; unite = refl });
            unite = s.unite ∙ ap (λ q. united q s.labels) x.unite ∙ united_assoc old x.labels s.labels wide;
          }
    ])
    (λ l f r.
    let j = parts r.begin f r.labels r.matches in
    let low = in_room from r.begin r.begins in
    let mid : j.cut < room allowed = meet r.begin j.cut f (omega (arith, low, even)) (in_room allowed f r.is_allowed) (j.first_labels, j.first) (j.second_labels, j.second) in
    let x : Leads v left from cut old (united old j.first_labels) j.cut = record {
      is_allowed = back.complete f j.cut r.is_allowed (j.second_labels, j.second) mid;
      begin = r.begin;
      begins = r.begins;
      labels = j.first_labels;
      matches = j.first;
      unite = refl;
    } in
    let row = led.complete (united old j.first_labels) j.cut x in
    let wide : length old ≡ length j.first_labels = nine ∙ sym (labels_are_nine v left r.begin j.cut j.first_labels j.first) in
    record {
      at = row.at;
      below = omega (arith, row.within, end);
      leads = record {
        is_allowed = r.is_allowed;
        begin = j.cut;
        begins = row.is_in;
        labels = j.second_labels;
        matches = j.second;
        unite = r.unite ∙ ap (united old) j.unite ∙ sym (united_assoc old j.first_labels j.second_labels wide) ∙ ap (λ q. united q j.second_labels) (sym row.labelled);
      };
    })
    added

-- ## Either of two

pub either_leads : (v : Seen) (p : Labelled) (left right : Labelled) (from allowed old : List ℕ) (width : ℕ) (a b c : List Group)
    → ((bb ff : ℕ) (labels : List ℕ) → m.Matches v.text (labelled_meant v p) bb ff labels → m.Matches v.text (labelled_meant v left) bb ff labels ⊎ m.Matches v.text (labelled_meant v right) bb ff labels)
    → ((bb ff : ℕ) (labels : List ℕ) → m.Matches v.text (labelled_meant v left) bb ff labels ⊎ m.Matches v.text (labelled_meant v right) bb ff labels → m.Matches v.text (labelled_meant v p) bb ff labels)
    → AddsRows width (λ l f. Leads v left from allowed old l f) a b → AddsRows width (λ l f. Leads v right from allowed old l f) b c → AddsRows width (λ l f. Leads v p from allowed old l f) a c
either_leads v p left right from allowed old width a b c parts whole x y =
    adds_renamed width (λ l f. Leads v left from allowed old l f ⊎ Leads v right from allowed old l f) (λ l f. Leads v p from allowed old l f) a c
    (λ l f r. elim r [
      | inl s ↦ record { is_allowed = s.is_allowed; begin = s.begin; begins = s.begins; labels = s.labels; matches = whole s.begin f s.labels (inl s.matches); unite = s.unite }
      | inr s ↦ record { is_allowed = s.is_allowed; begin = s.begin; begins = s.begins; labels = s.labels; matches = whole s.begin f s.labels (inr s.matches); unite = s.unite }
    ])
    (λ l f r. elim (parts r.begin f r.labels r.matches) [
      | inl s ↦ inl (record { is_allowed = r.is_allowed; begin = r.begin; begins = r.begins; labels = r.labels; matches = s; unite = r.unite })
      | inr s ↦ inr (record { is_allowed = r.is_allowed; begin = r.begin; begins = r.begins; labels = r.labels; matches = s; unite = r.unite })
    ])
    (adds_then width (λ l f. Leads v left from allowed old l f) (λ l f. Leads v right from allowed old l f) a b c x y)

-- ## Without labels

pub plain_leads : (v : Seen) (part : Part) (from allowed found kept old : List ℕ) (a b : List Group) → length old ≡ 9 → length from ≡ width v → length allowed ≡ width v → Image (PartMatches v part) from found
    → length kept ≡ length found → HasJust (λ k. In found k × In allowed k) kept → AddsRows (length kept) (λ l f. (l ≡ old) × In kept f) a b
    → AddsRows (width v) (λ l f. Leads v (Plain part) from allowed old l f) a b
plain_leads v part from allowed found kept old a b nine wide wide_allowed i same just x =
    let e : length kept ≡ width v = same ∙ i.width ∙ wide in
    adds_renamed (width v) (λ l f. (l ≡ old) × In kept f) (λ l f. Leads v (Plain part) from allowed old l f) a b
    (plain_there v part from allowed found kept old nine i just) (plain_back v part from allowed found kept old nine (wide_allowed ∙ sym wide) i same just)
    (subst (λ w. AddsRows w (λ l f. (l ≡ old) × In kept f) a b) e x)

pub plain_leads_nowhere : (v : Seen) (part : Part) (from allowed found kept old : List ℕ) (a : List Group) → length old ≡ 9 → length from ≡ width v → length allowed ≡ width v → Image (PartMatches v part) from found
    → length kept ≡ length found → HasJust (λ k. In found k × In allowed k) kept → ((k : ℕ) → In kept k → ⊥) → Fine (width v) a
    → AddsRows (width v) (λ l f. Leads v (Plain part) from allowed old l f) a a
plain_leads_nowhere v part from allowed found kept old a nine wide wide_allowed i same just empty fine = adds_nothing (width v) (λ l f. Leads v (Plain part) from allowed old l f) a fine
    (λ l f r. let p = plain_back v part from allowed found kept old nine (wide_allowed ∙ sym wide) i same just l f r in empty f p.1)

-- ## Tokens with a label

pub no_token_yet : (label : ℕ) (set old : List ℕ) (width : ℕ) (a : List Group) → Fine width a → AddsRows width (TokenBelow label set old 0) a a
no_token_yet label set old width a fine = adds_nothing width (TokenBelow label set old 0) a fine (λ l f r. absurd (omega (arith, r.below)))

pub next_token : (label : ℕ) (set old : List ℕ) (width from at : ℕ) (labels none end : List ℕ) (a b c : List Group) → from ≤ at → In set at → ((k : ℕ) → from ≤ k → k < at → In set k → ⊥)
    → labels ≡ united old (labelled label at) → ((k : ℕ) → In none k → ⊥) → HasJust (λ k. In none k ⊎ (k ≡ at + 1)) end → at + 1 < 64 * length end
    → AddsRows width (TokenBelow label set old from) a b → AddsRows width (λ l f. (l ≡ labels) × In end f) b c → AddsRows width (TokenBelow label set old (at + 1)) a c
next_token label set old width from at labels none end a b c low is gap e empty just room x y =
    adds_renamed width (λ l f. TokenBelow label set old from l f ⊎ ((l ≡ labels) × In end f)) (TokenBelow label set old (at + 1)) a c
    (λ l f r. elim r [
      | inl s ↦ record { begin = s.begin; below = omega (arith, s.below, low); is_in = s.is_in; unite = s.unite; end_is = s.end_is }
      | inr s ↦ record {
        begin = at;
        below = omega arith;
        is_in = is;
        unite = s.0 ∙ e;
        end_is = elim (just.sound f s.1) [ inl was ↦ absurd (empty f was) | inr same ↦ same ];
      }
    ])
    (λ l f r. elim (cases_lt r.begin from) [
      | inl before ↦ inl (record { begin = r.begin; below = before; is_in = r.is_in; unite = r.unite; end_is = r.end_is })
      | inr on ↦ elim (cases_eq r.begin at) [
        | inl here ↦
            let last : f ≡ at + 1 = r.end_is ∙ ap (λ k. k + 1) here in
            inr (r.unite ∙ ap (λ k. united old (labelled label k)) here ∙ sym e, just.complete f (inr last) (omega (arith, last, room)))
        | inr other ↦ absurd (gap r.begin on (omega (arith, r.below, other)) r.is_in)
      ]
    ])
    (adds_then width (TokenBelow label set old from) (λ l f. (l ≡ labels) × In end f) a b c x y)

pub all_tokens : (label : ℕ) (set old : List ℕ) (width from last : ℕ) (a b : List Group) → ((k : ℕ) → from ≤ k → In set k → ⊥) → ((k : ℕ) → In set k → k < last)
    → AddsRows width (TokenBelow label set old from) a b → AddsRows width (TokenBelow label set old last) a b
all_tokens label set old width from last a b none within x = adds_renamed width (TokenBelow label set old from) (TokenBelow label set old last) a b
    (λ l f r. record { begin = r.begin; below = within r.begin r.is_in; is_in = r.is_in; unite = r.unite; end_is = r.end_is })
    (λ l f r. elim (cases_lt r.begin from) [
      | inl before ↦ record { begin = r.begin; below = before; is_in = r.is_in; unite = r.unite; end_is = r.end_is }
      | inr on ↦ absurd (none r.begin on r.is_in)
    ]) x

pub tokens_lead : (v : Seen) (label test : ℕ) (from allowed old moved met set : List ℕ) (a b : List Group) → length allowed ≡ width v → length from ≡ width v → length moved ≡ length allowed
    → length met ≡ length moved → length set ≡ length met → HasJust (λ k. In allowed (k + 1)) moved → HasJust (λ k. In moved k × In from k) met → HasJust (λ k. In met k × Stands v (Holds test) k) set
    → AddsRows (length set) (TokenBelow label set old v.text.tokens) a b → AddsRows (width v) (λ l f. Leads v (Token label test) from allowed old l f) a b
tokens_lead v label test from allowed old moved met set a b wide wide_from s1 s2 s3 h1 h2 h3 x =
    let e : length set ≡ width v = s3 ∙ s2 ∙ s1 ∙ wide in
    adds_renamed (width v) (TokenBelow label set old v.text.tokens) (λ l f. Leads v (Token label test) from allowed old l f) a b
    (λ l f r.
    let p = h3.sound r.begin r.is_in in
    let q = h2.sound r.begin p.0 in
    record {
      is_allowed = subst (In allowed) (sym r.end_is) (h1.sound r.begin q.0);
      begin = r.begin;
      begins = q.1;
      labels = labelled label r.begin;
      matches = record { inside = p.1.0; holds = p.1.1; end_is = r.end_is; labels_are = refl };
      unite = r.unite;
    })
    (λ l f r.
    let t = r.matches in
    let lt = in_room from r.begin r.begins in
    let one : In moved r.begin = h1.complete r.begin (subst (In allowed) t.end_is r.is_allowed) (omega (arith, lt, wide, wide_from, s1)) in
    let two : In met r.begin = h2.complete r.begin (one, r.begins) (omega (arith, lt, wide, wide_from, s1, s2)) in
    record {
      begin = r.begin;
      below = t.inside;
      is_in = h3.complete r.begin (two, (t.inside, t.holds)) (omega (arith, lt, e, wide_from));
      unite = r.unite ∙ ap (united old) t.labels_are;
      end_is = t.end_is;
    })
    (subst (λ w. AddsRows w (TokenBelow label set old v.text.tokens) a b) e x)
