-- Tables of shapes, one entry more and one after another.
use Rattle.std.proofs.Common.{◌≡◌, ◌≢◌, ℕ, ◌+◌, ◌-◌, ◌<◌, ◌≤◌, ◌⊎◌, List, [], length, set, refl, sym, ◌∙◌, ap, subst, inl, inr, arith, length-set, get_or-set_same, get_or-set_other}
use Rattle.std.proofs.lemmas.Bool.{cases_eq, cases_lt}
use Rattle.std.proofs.lemmas.List.Edits.{length-insert, get_or-insert_at, get_or-insert_below, get_or-insert_above}
use Rattle.std.specs.List.{insert}
use Rattle.std.specs.declared.cmp.Ordering.TheVariants.{Less, Equal, Greater}
use Rattle.std.specs.declared.cmp.Ordering.{Ordering}
use Rattle.std.specs.Ordering.{nat_cmp, ordering_reverse, ordering_then, is_eq, on}
use Rattle.std.specs.Cmp.{IsTotalOrder, then_total, on_total, nat_cmp_total, unsigned_tied}
use Rattle.std.specs.Cmp.Lexicographic.{slice_cmp, nat_list_cmp_total, texts_ties, bytes_decides}
use Rattle.std.proofs.Common.{eqb-true}
use Rattle.mt_places.specs.Places.{In, HasJust}
use Rattle.mt_shapes.proofs.Bits.{in_room}
use Rattle.mt_shapes.specs.declared.shape.Shape.{Shape}
use Rattle.mt_shapes.specs.declared.table.Entry.{Entry}
use Rattle.mt_shapes.specs.Shapes.{shape_cmp, Suits}
use Rattle.mt_shapes.specs.Tables.{none, entry, Before, IsAscending, StandsBetween, Fine, AddsListed}

pub no_entry : (tokens : ℕ) → Fine tokens []
no_entry tokens = record {
  ascending = λ i j h l. absurd (omega (arith, l));
  suits = λ i h. absurd (omega (arith, h));
  some = λ i h. absurd (omega (arith, h));
}

trichotomy : (i at : ℕ) → (i < at) ⊎ ((i ≡ at) ⊎ (at < i))
trichotomy i at = elim (cases_lt i at) [ inl low ↦ inl low | inr on ↦ elim (cases_eq i at) [ inl is ↦ inr (inl is) | inr other ↦ inr (inr (omega (arith, on, other))) ] ]

two_before : {a b x y : Shape} → a ≡ x → b ≡ y → Before x y → Before a b
two_before {a} {b} {x} {y} e d h = subst (λ z. Before z b) (sym e) (subst (Before x) (sym d) h)

-- ## The order of shapes

shape_total : IsTotalOrder shape_cmp
shape_total = then_total (on_total (λ s. s.length) nat_cmp_total) (on_total (λ s. s.labels) nat_list_cmp_total)

record BothEqual (first second : Ordering) : Type 0 where
  pub first_is : first ≡ Equal
  pub second_is : second ≡ Equal

both : (first second : Ordering) → ordering_then first second ≡ Equal → BothEqual first second
both Less second e = cc
both Equal second e = record { first_is = cc; second_is = e }
both Greater second e = cc

same_number : (m n : ℕ) → nat_cmp m n ≡ Equal → m ≡ n
same_number m n e = eqb-true m n (sym (unsigned_tied m n) ∙ ap is_eq e)

same_places : (a b : List ℕ) → slice_cmp nat_cmp a b ≡ Equal → a ≡ b
same_places a b e = (bytes_decides a b).0 (texts_ties a b ∙ ap is_eq e)

pub same_shape : (a b : Shape) → shape_cmp a b ≡ Equal → a ≡ b
same_shape a b e =
    let parts = both (nat_cmp a.length b.length) (slice_cmp nat_cmp a.labels b.labels) e in
    λ i. record { length = same_number a.length b.length parts.first_is i; labels = same_places a.labels b.labels parts.second_is i }

pub before_trans : (a b c : Shape) → Before a b → Before b c → Before a c
before_trans a b c h k = shape_total.trans a b c h k

pub before_back : (a b : Shape) → shape_cmp a b ≡ Greater → Before b a
before_back a b e = shape_total.antisymm b a ∙ ap ordering_reverse e

pub all_below : (entries : List Entry) (shape : Shape) (middle : ℕ) → IsAscending entries → middle < length entries → shape_cmp (entry entries middle).shape shape ≡ Less
    → (i : ℕ) → i < middle + 1 → Before (entry entries i).shape shape
all_below entries shape middle up within e i h = elim (cases_eq i middle) [
  | inl is ↦ subst (λ k. Before (entry entries k).shape shape) (sym is) e
  | inr other ↦ before_trans (entry entries i).shape (entry entries middle).shape shape (up i middle (omega (arith, h, other)) within) e
]

pub all_above : (entries : List Entry) (shape : Shape) (middle : ℕ) → IsAscending entries → shape_cmp (entry entries middle).shape shape ≡ Greater
    → (i : ℕ) → middle ≤ i → i < length entries → Before shape (entry entries i).shape
all_above entries shape middle up e i h l =
    let here : Before shape (entry entries middle).shape = before_back (entry entries middle).shape shape e in
    elim (cases_eq i middle) [
      | inl is ↦ subst (λ k. Before shape (entry entries k).shape) (sym is) here
      | inr other ↦ before_trans shape (entry entries middle).shape (entry entries i).shape here (up middle i (omega (arith, h, other)) l)
    ]

-- an entry of a new shape, at its place
pub new_entry : (tokens : ℕ) (entries new : List Entry) (at : ℕ) (shape : Shape) (out : List ℕ) → Fine tokens entries → StandsBetween entries shape at → Suits tokens shape out → ((f : ℕ) × In out f)
    → new ≡ insert entries at (record { shape = shape; begins = out }) → AddsListed tokens (λ l f. (l ≡ shape) × In out f) entries new
new_entry tokens entries new at shape out fine stands size some e =
    let low : (i : ℕ) → i < at → entry new i ≡ entry entries i =
    λ i h. ap (λ s. entry s i) e ∙ get_or-insert_below entries at (record { shape = shape; begins = out }) none i h stands.within in
    let here : (i : ℕ) → i ≡ at → entry new i ≡ (record { shape = shape; begins = out }) =
    λ i h. ap (λ k. entry new k) h ∙ ap (λ s. entry s at) e ∙ get_or-insert_at entries at (record { shape = shape; begins = out }) none stands.within in
    let high : (i : ℕ) → at < i → entry new i ≡ entry entries (i - 1) =
    λ i h. let one : i ≡ i - 1 + 1 = omega (arith, h) in
    ap (λ k. entry new k) one ∙ ap (λ s. entry s (i - 1 + 1)) e ∙ get_or-insert_above entries at (record { shape = shape; begins = out }) none (i - 1) (omega (arith, h)) stands.within in
    let len : length new ≡ length entries + 1 = ap length e ∙ length-insert entries at (record { shape = shape; begins = out }) stands.within in
    let label_low : (i : ℕ) → i < at → (entry new i).shape ≡ (entry entries i).shape = λ i h. ap (λ (x : Entry). x.shape) (low i h) in
    let label_here : (i : ℕ) → i ≡ at → (entry new i).shape ≡ shape = λ i h. ap (λ (x : Entry). x.shape) (here i h) in
    let label_high : (i : ℕ) → at < i → (entry new i).shape ≡ (entry entries (i - 1)).shape = λ i h. ap (λ (x : Entry). x.shape) (high i h) in
    record {
      fine = record {
        ascending = λ i j h l. elim (trichotomy i at) [
          | inl i_low ↦ elim (trichotomy j at) [
            | inl j_low ↦ two_before (label_low i i_low) (label_low j j_low) (fine.ascending i j h (omega (arith, j_low, stands.within)))
            | inr (inl j_here) ↦ two_before (label_low i i_low) (label_here j j_here) (stands.below i i_low)
            | inr (inr j_high) ↦ two_before (label_low i i_low) (label_high j j_high) (fine.ascending i (j - 1) (omega (arith, i_low, j_high)) (omega (arith, l, len, j_high)))
          ]
          | inr (inl i_here) ↦ two_before (label_here i i_here) (label_high j (omega (arith, i_here, h))) (stands.above (j - 1) (omega (arith, i_here, h)) (omega (arith, l, len, h)))
          | inr (inr i_high) ↦ two_before (label_high i i_high) (label_high j (omega (arith, i_high, h))) (fine.ascending (i - 1) (j - 1) (omega (arith, i_high, h)) (omega (arith, l, len, h)))
        ];
        suits = λ i h. elim (trichotomy i at) [
          | inl i_low ↦ subst (λ (x : Entry). Suits tokens x.shape x.begins) (sym (low i i_low)) (fine.suits i (omega (arith, i_low, stands.within)))
          | inr (inl i_here) ↦ subst (λ (x : Entry). Suits tokens x.shape x.begins) (sym (here i i_here)) size
          | inr (inr i_high) ↦ subst (λ (x : Entry). Suits tokens x.shape x.begins) (sym (high i i_high)) (fine.suits (i - 1) (omega (arith, h, len, i_high)))
        ];
        some = λ i h. elim (trichotomy i at) [
          | inl i_low ↦ let s = fine.some i (omega (arith, i_low, stands.within)) in (s.0, subst (λ (x : Entry). In x.begins s.0) (sym (low i i_low)) s.1)
          | inr (inl i_here) ↦ (some.0, subst (λ (x : Entry). In x.begins some.0) (sym (here i i_here)) some.1)
          | inr (inr i_high) ↦ let s = fine.some (i - 1) (omega (arith, h, len, i_high)) in (s.0, subst (λ (x : Entry). In x.begins s.0) (sym (high i i_high)) s.1)
        ];
      };
      sound = λ l f r. elim (trichotomy r.at at) [
        | inl i_low ↦ inl (record {
          at = r.at;
          within = omega (arith, i_low, stands.within);
          shape_is = sym (label_low r.at i_low) ∙ r.shape_is;
          is_in = subst (λ (x : Entry). In x.begins f) (low r.at i_low) r.is_in;
        })
        | inr (inl i_here) ↦ inr (sym r.shape_is ∙ label_here r.at i_here, subst (λ (x : Entry). In x.begins f) (here r.at i_here) r.is_in)
        | inr (inr i_high) ↦ inl (record {
          at = r.at - 1;
          within = omega (arith, i_high, r.within, len);
          shape_is = sym (label_high r.at i_high) ∙ r.shape_is;
          is_in = subst (λ (x : Entry). In x.begins f) (high r.at i_high) r.is_in;
        })
      ];
      kept = λ l f r. elim (cases_lt r.at at) [
        | inl i_low ↦ record {
          at = r.at;
          within = omega (arith, r.within, len);
          shape_is = label_low r.at i_low ∙ r.shape_is;
          is_in = subst (λ (x : Entry). In x.begins f) (sym (low r.at i_low)) r.is_in;
        }
        | inr on ↦
            let next : entry new (r.at + 1) ≡ entry entries r.at = high (r.at + 1) (omega (arith, on)) ∙ ap (λ k. entry entries k) (omega arith) in
            record {
              at = r.at + 1;
              within = omega (arith, r.within, len);
              shape_is = ap (λ (x : Entry). x.shape) next ∙ r.shape_is;
              is_in = subst (λ (x : Entry). In x.begins f) (sym next) r.is_in;
            }
      ];
      complete = λ l f p. record {
        at = at;
        within = omega (arith, stands.within, len);
        shape_is = label_here at refl ∙ sym p.0;
        is_in = subst (λ (x : Entry). In x.begins f) (sym (here at refl)) p.1;
      };
    }

-- an entry that is there takes more begins
pub more_begins : (tokens : ℕ) (entries new : List Entry) (at : ℕ) (old : List ℕ) (shape : Shape) (Q : ℕ → Type 0) (all : List ℕ) → Fine tokens entries → ((b : ℕ) → Q b → b + shape.length ≤ tokens) → at < length entries → (entry entries at).shape ≡ shape
    → old ≡ (entry entries at).begins → length all ≡ length old → HasJust (λ k. In old k ⊎ Q k) all → new ≡ set entries at (record { shape = (entry entries at).shape; begins = all }) → AddsListed tokens (λ l f. (l ≡ shape) × Q f) entries new
more_begins tokens entries new at old shape Q all fine inside within same was wide u e =
    let of_left : (f : ℕ) → In old f → In all f = λ f i. let lt = in_room old f i in u.complete f (inl i) (omega (arith, lt, wide)) in
    let there : Suits tokens (entry entries at).shape old = subst (Suits tokens (entry entries at).shape) (sym was) (fine.suits at within) in
    let longer : (entry entries at).shape.length ≡ shape.length = ap (λ (x : Shape). x.length) same in
    let wide_old = there.width in
    let of_right : (f : ℕ) → Q f → In all f = λ f q. let far = inside f q in u.complete f (inr q) (omega (arith, far, wide, wide_old)) in
    let len : length new ≡ length entries = ap length e ∙ length-set entries at (record { shape = (entry entries at).shape; begins = all }) in
    let other : (i : ℕ) → i ≢ at → entry new i ≡ entry entries i = λ i h. ap (λ s. entry s i) e ∙ get_or-set_other entries at i (record { shape = (entry entries at).shape; begins = all }) none h in
    let here : (i : ℕ) → i ≡ at → entry new i ≡ (record { shape = (entry entries at).shape; begins = all }) =
    λ i h. ap (λ k. entry new k) h ∙ ap (λ s. entry s at) e ∙ get_or-set_same entries at (record { shape = (entry entries at).shape; begins = all }) none within in
    let label : (i : ℕ) → (entry new i).shape ≡ (entry entries i).shape = λ i. elim (cases_eq i at) [
      | inl is ↦ ap (λ (x : Entry). x.shape) (here i is) ∙ ap (λ k. (entry entries k).shape) (sym is)
      | inr not ↦ ap (λ (x : Entry). x.shape) (other i not)
    ] in
    let grows : (i f : ℕ) → In (entry entries i).begins f → In (entry new i).begins f = λ i f h. elim (cases_eq i at) [
      | inl is ↦ subst (λ (x : Entry). In x.begins f) (sym (here i is)) (of_left f (subst (λ s. In s f) (sym was) (subst (λ k. In (entry entries k).begins f) is h)))
      | inr not ↦ subst (λ (x : Entry). In x.begins f) (sym (other i not)) h
    ] in
    record {
      fine = record {
        ascending = λ i j h l. two_before (label i) (label j) (fine.ascending i j h (omega (arith, l)));
        suits = λ i h. elim (cases_eq i at) [
          | inl is ↦ subst (λ (x : Entry). Suits tokens x.shape x.begins) (sym (here i is)) (record {
            width = wide ∙ wide_old;
            inside = λ b k. elim (u.sound b k) [ inl left ↦ there.inside b left | inr right ↦ let far = inside b right in omega (arith, far, longer) ];
            nine = there.nine;
            labels = there.labels;
          })
          | inr not ↦ subst (λ (x : Entry). Suits tokens x.shape x.begins) (sym (other i not)) (fine.suits i (omega (arith, h)))
        ];
        some = λ i h. let s = fine.some i (omega (arith, h)) in (s.0, grows i s.0 s.1);
      };
      sound = λ l f r. elim (cases_eq r.at at) [
        | inl is ↦
            let lab : shape ≡ l = sym same ∙ ap (λ k. (entry entries k).shape) (sym is) ∙ sym (label r.at) ∙ r.shape_is in
            elim (u.sound f (subst (λ (x : Entry). In x.begins f) (here r.at is) r.is_in)) [
              | inl left ↦ inl (record { at = at; within = within; shape_is = same ∙ lab; is_in = subst (λ s. In s f) was left })
              | inr right ↦ inr (sym lab, right)
            ]
        | inr not ↦ inl (record {
          at = r.at;
          within = omega (arith, r.within);
          shape_is = sym (label r.at) ∙ r.shape_is;
          is_in = subst (λ (x : Entry). In x.begins f) (other r.at not) r.is_in;
        })
      ];
      kept = λ l f r. record { at = r.at; within = omega (arith, r.within); shape_is = label r.at ∙ r.shape_is; is_in = grows r.at f r.is_in };
      complete = λ l f p. record {
        at = at;
        within = omega arith;
        shape_is = label at ∙ same ∙ sym p.0;
        is_in = subst (λ (x : Entry). In x.begins f) (sym (here at refl)) (of_right f p.1);
      };
    }
