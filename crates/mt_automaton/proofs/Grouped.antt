-- Groups, one more and one after another.
use Rattle.std.proofs.Common.{◌≡◌, ◌≢◌, ℕ, ◌+◌, ◌-◌, ◌<◌, ◌≤◌, ◌⊎◌, List, [], length, set, refl, sym, ◌∙◌, ap, subst, inl, inr, true, arith, length-set, get_or-set_same, get_or-set_other}
use Rattle.std.proofs.lemmas.Bool.{cases_eq, cases_lt}
use Rattle.std.proofs.lemmas.List.Edits.{length-insert, get_or-insert_at, get_or-insert_below, get_or-insert_above}
use Rattle.std.specs.List.{insert}
use Rattle.std.specs.declared.cmp.Ordering.TheVariants.{Less, Equal, Greater}
use Rattle.std.specs.declared.cmp.Ordering.{Ordering}
use Rattle.std.specs.Ordering.{nat_cmp, ordering_reverse, is_eq, is_lt}
use Rattle.std.specs.Cmp.Lexicographic.{slice_cmp, nat_list_cmp_total, texts_ties, bytes_decides}
use Rattle.mt_places.specs.Places.{In, HasJust}
use Rattle.mt_automaton.proofs.Bits.{in_room}
use Rattle.mt_automaton.specs.declared.groups.Group.{Group}
use Rattle.mt_automaton.specs.Groups.{none, group, Before, IsAscending, StandsBetween, Fine, AddsRows}

pub no_group : (width : ℕ) → Fine width []
no_group width = record {
  ascending = λ i j h l. absurd (omega (arith, l));
  size = λ i h. absurd (omega (arith, h));
  some = λ i h. absurd (omega (arith, h));
}

pub adds_nothing : (width : ℕ) (P : List ℕ → ℕ → Type 0) (old : List Group) → Fine width old → ((l : List ℕ) (f : ℕ) → P l f → ⊥) → AddsRows width P old old
adds_nothing width P old fine never = record {
  fine = fine;
  sound = λ l f r. inl r;
  kept = λ l f r. r;
  complete = λ l f p. absurd (never l f p);
}

pub adds_renamed : (width : ℕ) (P Q : List ℕ → ℕ → Type 0) (old new : List Group) → ((l : List ℕ) (f : ℕ) → P l f → Q l f) → ((l : List ℕ) (f : ℕ) → Q l f → P l f)
    → AddsRows width P old new → AddsRows width Q old new
adds_renamed width P Q old new there back a = record {
  fine = a.fine;
  sound = λ l f r. elim (a.sound l f r) [ inl was ↦ inl was | inr p ↦ inr (there l f p) ];
  kept = a.kept;
  complete = λ l f q. a.complete l f (back l f q);
}

pub adds_then : (width : ℕ) (P Q : List ℕ → ℕ → Type 0) (a b c : List Group) → AddsRows width P a b → AddsRows width Q b c → AddsRows width (λ l f. P l f ⊎ Q l f) a c
adds_then width P Q a b c m n = record {
  fine = n.fine;
  sound = λ l f r. elim (n.sound l f r) [
    | inl was ↦ elim (m.sound l f was) [ inl first ↦ inl first | inr p ↦ inr (inl p) ]
    | inr q ↦ inr (inr q)
  ];
  kept = λ l f r. n.kept l f (m.kept l f r);
  complete = λ l f r. elim r [ inl p ↦ n.kept l f (m.complete l f p) | inr q ↦ n.complete l f q ];
}

trichotomy : (i at : ℕ) → (i < at) ⊎ ((i ≡ at) ⊎ (at < i))
trichotomy i at = elim (cases_lt i at) [ inl low ↦ inl low | inr on ↦ elim (cases_eq i at) [ inl is ↦ inr (inl is) | inr other ↦ inr (inr (omega (arith, on, other))) ] ]

two_before : {a b x y : List ℕ} → a ≡ x → b ≡ y → Before x y → Before a b
two_before {a} {b} {x} {y} e d h = subst (λ z. Before z b) (sym e) (subst (Before x) (sym d) h)

-- ## The place of labels

pub same_labels : (a b : List ℕ) → slice_cmp nat_cmp a b ≡ Equal → a ≡ b
same_labels a b e = (bytes_decides a b).0 (texts_ties a b ∙ ap is_eq e)

pub before_trans : (a b c : List ℕ) → Before a b → Before b c → Before a c
before_trans a b c h k = nat_list_cmp_total.trans a b c h k

pub before_back : (a b : List ℕ) → slice_cmp nat_cmp a b ≡ Greater → Before b a
before_back a b e = nat_list_cmp_total.antisymm b a ∙ ap ordering_reverse e

pub is_less : (o : Ordering) → is_lt o ≡ true → o ≡ Less
is_less Less e = refl
is_less Equal e = cc
is_less Greater e = cc

pub all_below : (groups : List Group) (labels : List ℕ) (middle : ℕ) → IsAscending groups → middle < length groups → slice_cmp nat_cmp (group groups middle).labels labels ≡ Less
    → (i : ℕ) → i < middle + 1 → Before (group groups i).labels labels
all_below groups labels middle up within e i h = elim (cases_eq i middle) [
  | inl is ↦ subst (λ k. Before (group groups k).labels labels) (sym is) e
  | inr other ↦ before_trans (group groups i).labels (group groups middle).labels labels (up i middle (omega (arith, h, other)) within) e
]

pub all_above : (groups : List Group) (labels : List ℕ) (middle : ℕ) → IsAscending groups → slice_cmp nat_cmp (group groups middle).labels labels ≡ Greater
    → (i : ℕ) → middle ≤ i → i < length groups → Before labels (group groups i).labels
all_above groups labels middle up e i h l =
    let here : Before labels (group groups middle).labels = before_back (group groups middle).labels labels e in
    elim (cases_eq i middle) [
      | inl is ↦ subst (λ k. Before labels (group groups k).labels) (sym is) here
      | inr other ↦ before_trans labels (group groups middle).labels (group groups i).labels here (up middle i (omega (arith, h, other)) l)
    ]

-- a group of new labels, at its place
pub new_group : (width : ℕ) (groups new : List Group) (at : ℕ) (labels out : List ℕ) → Fine width groups → StandsBetween groups labels at → length out ≡ width → ((f : ℕ) × In out f)
    → new ≡ insert groups at (record { labels = labels; ends = out }) → AddsRows width (λ l f. (l ≡ labels) × In out f) groups new
new_group width groups new at labels out fine stands size some e =
    let low : (i : ℕ) → i < at → group new i ≡ group groups i =
    λ i h. ap (λ s. group s i) e ∙ get_or-insert_below groups at (record { labels = labels; ends = out }) none i h stands.within in
    let here : (i : ℕ) → i ≡ at → group new i ≡ (record { labels = labels; ends = out }) =
    λ i h. ap (λ k. group new k) h ∙ ap (λ s. group s at) e ∙ get_or-insert_at groups at (record { labels = labels; ends = out }) none stands.within in
    let high : (i : ℕ) → at < i → group new i ≡ group groups (i - 1) =
    λ i h. let one : i ≡ i - 1 + 1 = omega (arith, h) in
    ap (λ k. group new k) one ∙ ap (λ s. group s (i - 1 + 1)) e ∙ get_or-insert_above groups at (record { labels = labels; ends = out }) none (i - 1) (omega (arith, h)) stands.within in
    let len : length new ≡ length groups + 1 = ap length e ∙ length-insert groups at (record { labels = labels; ends = out }) stands.within in
    let label_low : (i : ℕ) → i < at → (group new i).labels ≡ (group groups i).labels = λ i h. ap (λ (x : Group). x.labels) (low i h) in
    let label_here : (i : ℕ) → i ≡ at → (group new i).labels ≡ labels = λ i h. ap (λ (x : Group). x.labels) (here i h) in
    let label_high : (i : ℕ) → at < i → (group new i).labels ≡ (group groups (i - 1)).labels = λ i h. ap (λ (x : Group). x.labels) (high i h) in
    record {
      fine = record {
        ascending = λ i j h l. elim (trichotomy i at) [
          | inl i_low ↦ elim (trichotomy j at) [
            | inl j_low ↦ two_before (label_low i i_low) (label_low j j_low) (fine.ascending i j h (omega (arith, j_low, stands.within)))
            | inr (inl j_here) ↦ two_before (label_low i i_low) (label_here j j_here) (stands.below i i_low)
            | inr (inr j_high) ↦ two_before (label_low i i_low) (label_high j j_high) (fine.ascending i (j - 1) (omega (arith, i_low, j_high)) (omega (arith, l, len, j_high)))
          ]
          | inr (inl i_here) ↦ two_before (label_here i i_here) (label_high j (omega (arith, i_here, h))) (stands.above (j - 1) (omega (arith, i_here, h)) (omega (arith, l, len, h)))
          | inr (inr i_high) ↦ two_before (label_high i i_high) (label_high j (omega (arith, i_high, h))) (fine.ascending (i - 1) (j - 1) (omega (arith, i_high, h)) (omega (arith, l, len, h)))
        ];
        size = λ i h. elim (trichotomy i at) [
          | inl i_low ↦ ap (λ (x : Group). length x.ends) (low i i_low) ∙ fine.size i (omega (arith, i_low, stands.within))
          | inr (inl i_here) ↦ ap (λ (x : Group). length x.ends) (here i i_here) ∙ size
          | inr (inr i_high) ↦ ap (λ (x : Group). length x.ends) (high i i_high) ∙ fine.size (i - 1) (omega (arith, h, len, i_high))
        ];
        some = λ i h. elim (trichotomy i at) [
          | inl i_low ↦ let s = fine.some i (omega (arith, i_low, stands.within)) in (s.0, subst (λ (x : Group). In x.ends s.0) (sym (low i i_low)) s.1)
          | inr (inl i_here) ↦ (some.0, subst (λ (x : Group). In x.ends some.0) (sym (here i i_here)) some.1)
          | inr (inr i_high) ↦ let s = fine.some (i - 1) (omega (arith, h, len, i_high)) in (s.0, subst (λ (x : Group). In x.ends s.0) (sym (high i i_high)) s.1)
        ];
      };
      sound = λ l f r. elim (trichotomy r.at at) [
        | inl i_low ↦ inl (record {
          at = r.at;
          within = omega (arith, i_low, stands.within);
          labelled = sym (label_low r.at i_low) ∙ r.labelled;
          is_in = subst (λ (x : Group). In x.ends f) (low r.at i_low) r.is_in;
        })
        | inr (inl i_here) ↦ inr (sym r.labelled ∙ label_here r.at i_here, subst (λ (x : Group). In x.ends f) (here r.at i_here) r.is_in)
        | inr (inr i_high) ↦ inl (record {
          at = r.at - 1;
          within = omega (arith, i_high, r.within, len);
          labelled = sym (label_high r.at i_high) ∙ r.labelled;
          is_in = subst (λ (x : Group). In x.ends f) (high r.at i_high) r.is_in;
        })
      ];
      kept = λ l f r. elim (cases_lt r.at at) [
        | inl i_low ↦ record {
          at = r.at;
          within = omega (arith, r.within, len);
          labelled = label_low r.at i_low ∙ r.labelled;
          is_in = subst (λ (x : Group). In x.ends f) (sym (low r.at i_low)) r.is_in;
        }
        | inr on ↦
            let next : group new (r.at + 1) ≡ group groups r.at = high (r.at + 1) (omega (arith, on)) ∙ ap (λ k. group groups k) (omega arith) in
            record {
              at = r.at + 1;
              within = omega (arith, r.within, len);
              labelled = ap (λ (x : Group). x.labels) next ∙ r.labelled;
              is_in = subst (λ (x : Group). In x.ends f) (sym next) r.is_in;
            }
      ];
      complete = λ l f p. record {
        at = at;
        within = omega (arith, stands.within, len);
        labelled = label_here at refl ∙ sym p.0;
        is_in = subst (λ (x : Group). In x.ends f) (sym (here at refl)) p.1;
      };
    }

-- a group that is there takes more ends
pub more_ends : (width : ℕ) (groups new : List Group) (at : ℕ) (old labels out all : List ℕ) → Fine width groups → length out ≡ width → at < length groups → (group groups at).labels ≡ labels
    → old ≡ (group groups at).ends → length all ≡ length old → HasJust (λ k. In old k ⊎ In out k) all → new ≡ set groups at (record { labels = (group groups at).labels; ends = all }) → AddsRows width (λ l f. (l ≡ labels) × In out f) groups new
more_ends width groups new at old labels out all fine outs within same was wide u e =
    let of_left : (f : ℕ) → In old f → In all f = λ f i. let lt = in_room old f i in u.complete f (inl i) (omega (arith, lt, wide)) in
    let wide_old : length old ≡ width = ap length was ∙ fine.size at within in
    let of_right : (f : ℕ) → In out f → In all f = λ f i. let lt = in_room out f i in u.complete f (inr i) (omega (arith, lt, wide, outs, wide_old)) in
    let len : length new ≡ length groups = ap length e ∙ length-set groups at (record { labels = (group groups at).labels; ends = all }) in
    let other : (i : ℕ) → i ≢ at → group new i ≡ group groups i = λ i h. ap (λ s. group s i) e ∙ get_or-set_other groups at i (record { labels = (group groups at).labels; ends = all }) none h in
    let here : (i : ℕ) → i ≡ at → group new i ≡ (record { labels = (group groups at).labels; ends = all }) =
    λ i h. ap (λ k. group new k) h ∙ ap (λ s. group s at) e ∙ get_or-set_same groups at (record { labels = (group groups at).labels; ends = all }) none within in
    let label : (i : ℕ) → (group new i).labels ≡ (group groups i).labels = λ i. elim (cases_eq i at) [
      | inl is ↦ ap (λ (x : Group). x.labels) (here i is) ∙ ap (λ k. (group groups k).labels) (sym is)
      | inr not ↦ ap (λ (x : Group). x.labels) (other i not)
    ] in
    let grows : (i f : ℕ) → In (group groups i).ends f → In (group new i).ends f = λ i f h. elim (cases_eq i at) [
      | inl is ↦ subst (λ (x : Group). In x.ends f) (sym (here i is)) (of_left f (subst (λ s. In s f) (sym was) (subst (λ k. In (group groups k).ends f) is h)))
      | inr not ↦ subst (λ (x : Group). In x.ends f) (sym (other i not)) h
    ] in
    record {
      fine = record {
        ascending = λ i j h l. two_before (label i) (label j) (fine.ascending i j h (omega (arith, l)));
        size = λ i h. elim (cases_eq i at) [
          | inl is ↦ ap (λ (x : Group). length x.ends) (here i is) ∙ wide ∙ ap length was ∙ fine.size at within
          | inr not ↦ ap (λ (x : Group). length x.ends) (other i not) ∙ fine.size i (omega (arith, h))
        ];
        some = λ i h. let s = fine.some i (omega (arith, h)) in (s.0, grows i s.0 s.1);
      };
      sound = λ l f r. elim (cases_eq r.at at) [
        | inl is ↦
            let lab : labels ≡ l = sym same ∙ ap (λ k. (group groups k).labels) (sym is) ∙ sym (label r.at) ∙ r.labelled in
            elim (u.sound f (subst (λ (x : Group). In x.ends f) (here r.at is) r.is_in)) [
              | inl left ↦ inl (record { at = at; within = within; labelled = same ∙ lab; is_in = subst (λ s. In s f) was left })
              | inr right ↦ inr (sym lab, right)
            ]
        | inr not ↦ inl (record {
          at = r.at;
          within = omega (arith, r.within);
          labelled = sym (label r.at) ∙ r.labelled;
          is_in = subst (λ (x : Group). In x.ends f) (other r.at not) r.is_in;
        })
      ];
      kept = λ l f r. record { at = r.at; within = omega (arith, r.within); labelled = label r.at ∙ r.labelled; is_in = grows r.at f r.is_in };
      complete = λ l f p. record {
        at = at;
        within = omega arith;
        labelled = label at ∙ same ∙ sym p.0;
        is_in = subst (λ (x : Group). In x.ends f) (sym (here at refl)) (of_right f p.1);
      };
    }
