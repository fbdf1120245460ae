-- What is matched from a begin on, listed in any order.
use Rattle.std.proofs.Common.{◌≡◌, ℕ, zero, suc, ◌<◌, ◌≤◌, ◌⊎◌, inl, inr, List, [], ◌∷◌, ◌++◌, refl, sym, ap, subst, arith}
use Rattle.std.proofs.lemmas.Bool.{cases_lt}
use Rattle.mt_match_spec.specs.Labels.{no_labels, united}
use Rattle.mt_match_spec.specs.Matches.{Relation, Joined, Turns, Repeated}
use Rattle.mt_match_laws.proofs.Members.{Member, in_front, in_back, in_either}
use Rattle.mt_match_laws.proofs.Deciding.{Decision, at_most}

-- an end, and the labels of a match up to there
pub record End : Type 0 where
  pub place : ℕ
  pub labels : List ℕ

-- all ends of a relation, for each begin
pub record Lists (R : Relation) : Type 0 where
  pub ends : ℕ → List End
  pub only : (begin : ℕ) (e : End) → Member e (ends begin) → R begin e.place e.labels
  pub each : (begin : ℕ) (e : End) → R begin e.place e.labels → Member e (ends begin)

-- one, where it is so
abbrev pub kept : {X P : Type 0} → Decision P → X → List X
kept (inl p) x = x ∷ []
kept (inr n) x = []

pub is_kept : {X P : Type 0} (d : Decision P) (x z : X) → Member z (kept d x) → P × (z ≡ x)
is_kept (inl p) x z (inl e) = (p, e)
is_kept (inl p) x z (inr m) = absurd m
is_kept (inr n) x z m = absurd m

pub keeps : {X P : Type 0} (d : Decision P) (x : X) → P → Member x (kept d x)
keeps (inl p) x q = inl refl
keeps (inr n) x q = absurd (n q)

-- ---- either

pub either : {R S : Relation} → Lists R → Lists S → Lists (λ begin end labels. R begin end labels ⊎ S begin end labels)
either a b = record {
  ends = λ begin. a.ends begin ++ b.ends begin;
  only = λ begin e m. elim (in_either (a.ends begin) (b.ends begin) e m) [ inl n ↦ inl (a.only begin e n) | inr n ↦ inr (b.only begin e n) ];
  each = λ begin e h. elim h [ inl r ↦ in_front (a.ends begin) (b.ends begin) e (a.each begin e r) | inr s ↦ in_back (a.ends begin) (b.ends begin) e (b.each begin e s) ];
}

-- ---- one after the other

abbrev pub with_first : List ℕ → List End → List End
with_first labels [] = []
with_first labels (e ∷ es) = record { place = e.place; labels = united labels e.labels } ∷ with_first labels es

record IsWith (labels : List ℕ) (es : List End) (z : End) : Type 0 where
  pub rest : End
  pub member : Member rest es
  pub is : z ≡ record { place = rest.place; labels = united labels rest.labels }

is_with : (labels : List ℕ) (es : List End) (z : End) → Member z (with_first labels es) → IsWith labels es z
is_with labels [] z m = absurd m
is_with labels (e ∷ es) z (inl h) = record { rest = e; member = inl refl; is = h }
is_with labels (e ∷ es) z (inr m) = let more = is_with labels es z m in record { rest = more.rest; member = inr more.member; is = more.is }

with_member : (labels : List ℕ) (es : List End) (e : End) → Member e es → Member (record { place = e.place; labels = united labels e.labels }) (with_first labels es)
with_member labels [] e m = absurd m
with_member labels (a ∷ es) e (inl h) = inl (ap (λ (x : End). record { place = x.place; labels = united labels x.labels }) h)
with_member labels (a ∷ es) e (inr m) = inr (with_member labels es e m)

abbrev after : (ℕ → List End) → List End → List End
after second [] = []
after second (e ∷ es) = with_first e.labels (second e.place) ++ after second es

record IsAfter (second : ℕ → List End) (es : List End) (z : End) : Type 0 where
  pub first : End
  pub member : Member first es
  pub with : IsWith first.labels (second first.place) z

is_after : (second : ℕ → List End) (es : List End) (z : End) → Member z (after second es) → IsAfter second es z
is_after second [] z m = absurd m
is_after second (e ∷ es) z m =
    elim (in_either (with_first e.labels (second e.place)) (after second es) z m) [
      | inl n ↦ record { first = e; member = inl refl; with = is_with e.labels (second e.place) z n }
      | inr n ↦ let more = is_after second es z n in record { first = more.first; member = inr more.member; with = more.with }
    ]

after_member : (second : ℕ → List End) (es : List End) (e rest : End) → Member e es → Member rest (second e.place) → Member (record { place = rest.place; labels = united e.labels rest.labels }) (after second es)
after_member second [] e rest m n = absurd m
after_member second (a ∷ es) e rest (inl h) n =
    in_front (with_first a.labels (second a.place)) (after second es) _
    (subst (λ (x : End). Member (record { place = rest.place; labels = united x.labels rest.labels }) (with_first a.labels (second a.place))) (sym h)
    (with_member a.labels (second a.place) rest (subst (λ (x : End). Member rest (second x.place)) h n)))
after_member second (a ∷ es) e rest (inr m) n = in_back (with_first a.labels (second a.place)) (after second es) _ (after_member second es e rest m n)

pub joined : {R S : Relation} → Lists R → Lists S → Lists (Joined R S)
joined {R = R} {S = S} a b = record {
  ends = λ begin. after b.ends (a.ends begin);
  only = λ begin e m.
      let h = is_after b.ends (a.ends begin) e m in
      subst (λ (x : End). Joined R S begin x.place x.labels) (sym h.with.is)
      (record { cut = h.first.place; first_labels = h.first.labels; second_labels = h.with.rest.labels; first = a.only begin h.first h.member; second = b.only h.first.place h.with.rest h.with.member; unite = refl });
  each = λ begin e j.
      subst (λ (labels : List ℕ). Member (record { place = e.place; labels = labels }) (after b.ends (a.ends begin))) (sym j.unite)
      (after_member b.ends (a.ends begin) (record { place = j.cut; labels = j.first_labels }) (record { place = e.place; labels = j.second_labels })
      (a.each begin (record { place = j.cut; labels = j.first_labels }) j.first) (b.each j.cut (record { place = e.place; labels = j.second_labels }) j.second));
}

-- ---- turns

no_turn : (R : Relation) → Lists (Turns R zero)
no_turn R = record {
  ends = λ begin. record { place = begin; labels = no_labels } ∷ [];
  only = λ begin e m. elim m [ inl h ↦ (sym (ap (λ (x : End). x.place) h), ap (λ (x : End). x.labels) h) | inr n ↦ absurd n ];
  each = λ begin e h. inl (λ i. record { place = sym h.0 i; labels = h.1 i });
}

turns : {R : Relation} → Lists R → (count : ℕ) → Lists (Turns R count)
turns {R = R} a zero = no_turn R
turns a (suc count) = joined a (turns a count)

-- so many turns, where these are enough
enough : (R : Relation) (least count : ℕ) → Lists (Turns R count) → Decision (least ≤ count) → Lists (λ begin end labels. (least ≤ count) × Turns R count begin end labels)
enough R least count a (inl l) = record { ends = a.ends; only = λ begin e m. (l, a.only begin e m); each = λ begin e h. a.each begin e h.1 }
enough R least count a (inr n) = record { ends = λ begin. []; only = λ begin e m. absurd m; each = λ begin e h. absurd (n h.0) }

pub repeated : {R : Relation} → Lists R → (least most : ℕ) → Lists (Repeated R least most)
repeated {R = R} a least zero =
    let none = enough R least 0 (turns a 0) (at_most least 0) in
    record {
      ends = none.ends;
      only = λ begin e m. let h = none.only begin e m in record { count = 0; low = h.0; high = omega arith; turns = h.1 };
      each = λ begin e r. none.each begin e (by_none r.count r.low r.high begin e r.turns);
    }
  where
    by_none : (count : ℕ) → least ≤ count → count ≤ 0 → (begin : ℕ) (e : End) → Turns R count begin e.place e.labels → (least ≤ 0) × Turns R 0 begin e.place e.labels
    by_none zero low high begin e t = (low, t)
    by_none (suc count) low high begin e t = absurd (omega (arith, high))
repeated {R = R} a least (suc most) =
    let both = either (repeated a least most) (enough R least (suc most) (turns a (suc most)) (at_most least (suc most))) in
    record {
      ends = both.ends;
      only = λ begin e m. elim (both.only begin e m) [
        | inl r ↦ record { count = r.count; low = r.low; high = omega (arith, r.high); turns = r.turns }
        | inr h ↦ record { count = suc most; low = h.0; high = omega arith; turns = h.1 }
      ];
      each = λ begin e r. both.each begin e (by_last r.count r.low r.high begin e r.turns (cases_lt r.count (suc most)));
    }
  where
    by_last : (count : ℕ) → least ≤ count → count ≤ suc most → (begin : ℕ) (e : End) → Turns R count begin e.place e.labels → (count < suc most) ⊎ (suc most ≤ count) →
        Repeated R least most begin e.place e.labels ⊎ ((least ≤ suc most) × Turns R (suc most) begin e.place e.labels)
    by_last count low high begin e t (inl l) = inl (record { count = count; low = low; high = omega (arith, l); turns = t })
    by_last count low high begin e t (inr l) =
        let last : count ≡ suc most = omega (arith, l, high) in
        inr (omega (arith, low, high), subst (λ n. Turns R n begin e.place e.labels) last t)
