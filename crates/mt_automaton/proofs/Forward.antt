-- No match leads back, so where two follow each other between two places, they meet between them.
use Rattle.std.proofs.Common.{◌≡◌, ℕ, zero, suc, ◌<◌, ◌≤◌, List, length, inl, inr, arith}
use Rattle.mt_text_spec.specs.Queries.{Expr, TokenTest, Begin, End, Whole, Seq, Choice, Repeat}
use Rattle.mt_match_spec.specs.Matches as m
use Rattle.mt_match_spec.specs.Labels.{no_labels}
use Rattle.mt_places.specs.Places.{room}
use Rattle.mt_automaton.specs.Parts.{Seen, HasAllInside, GoesOn, outside, width}
use Rattle.mt_automaton.specs.LabelledParts.{Somehow}
use Rattle.mt_automaton.proofs.Bare.{Plain}

-- from a place up to n a relation leads on, up to n
abbrev pub Forward : (n : ℕ) → m.Relation → Type 0
Forward n R = (b f : ℕ) (labels : List ℕ) → b ≤ n → R b f labels → (b ≤ f) × (f ≤ n)

pub turns_forward : (n : ℕ) (R : m.Relation) → Forward n R → (k : ℕ) → Forward n (m.Turns R k)
turns_forward n R r zero b f l h t = (omega (arith, t.0), omega (arith, t.0, h))
turns_forward n R r (suc k) b f l h t =
    let x : (b ≤ t.cut) × (t.cut ≤ n) = r b t.cut t.first_labels h t.first in
    let y : (t.cut ≤ f) × (f ≤ n) = turns_forward n R r k t.cut f t.second_labels x.1 t.second in
    (omega (arith, x.0, y.0), y.1)

instance_forward : (s : m.Sight) (b f : ℕ) → b ≤ outside s → GoesOn s b f → (b ≤ f) × (f ≤ outside s)
instance_forward s b f h g = (
  elim g.begins [ inl low ↦ g.onward low | inr past ↦ absurd (omega (arith, past, h)) ],
  elim g.ends [ inl low ↦ omega (arith, low) | inr out ↦ omega (arith, out) ],
)

pub forward : (s : m.Sight) → HasAllInside s → (expr : Expr) → Forward (outside s) (m.Matches s expr)
forward s o (TokenTest label test) b f l h r = (omega (arith, r.end_is), omega (arith, r.end_is, r.inside))
forward s o (Begin kind test) b f l h r = (omega (arith, r.end_is), omega (arith, r.end_is, h))
forward s o (End kind) b f l h r = (omega (arith, r.end_is), omega (arith, r.end_is, h))
forward s o (Whole kind test) b f l h r = instance_forward s b f h (o kind test b f r.lies)
forward s o (Seq left right) b f l h r =
    let x : (b ≤ r.cut) × (r.cut ≤ outside s) = forward s o left b r.cut r.first_labels h r.first in
    let y : (r.cut ≤ f) × (f ≤ outside s) = forward s o right r.cut f r.second_labels x.1 r.second in
    (omega (arith, x.0, y.0), y.1)
forward s o (Choice left right) b f l h r = elim r [ inl x ↦ forward s o left b f l h x | inr y ↦ forward s o right b f l h y ]
forward s o (Repeat inner least most) b f l h r = turns_forward (outside s) (m.Matches s inner) (forward s o inner) r.count b f l h r.turns

-- where one match follows another, between places for which there is room, there is room for where they meet
pub meet : (v : Seen) → HasAllInside v.text → (left right : Expr) (set : List ℕ) → length set ≡ width v → (x y z : ℕ) (l k : List ℕ) → x < room set → z < room set
    → m.Matches v.text left x y l → m.Matches v.text right y z k → y < room set
meet v o left right set wide x y z l k hx hz p q =
    let a : (x ≤ y) × (y ≤ outside v.text) = forward v.text o left x y l (omega (arith, hx, wide)) p in
    let b : (y ≤ z) × (z ≤ outside v.text) = forward v.text o right y z k a.1 q in
    omega (arith, b.0, hz)

abbrev pub Between : (n : ℕ) → (R S : ℕ → ℕ → Type 0) → Type 0
Between n R S = (x y z : ℕ) → x < n → z < n → R x y → S y z → y < n

pub meet_plain : (v : Seen) → HasAllInside v.text → (left right : Expr) (set : List ℕ) → length set ≡ width v → Between (room set) (Plain (m.Matches v.text left)) (Plain (m.Matches v.text right))
meet_plain v o left right set wide x y z hx hz p q = meet v o left right set wide x y z no_labels no_labels hx hz p q

pub meet_somehow : (v : Seen) → HasAllInside v.text → (left right : Expr) (set : List ℕ) → length set ≡ width v → Between (room set) (Somehow (m.Matches v.text left)) (Somehow (m.Matches v.text right))
meet_somehow v o left right set wide x y z hx hz p q = meet v o left right set wide x y z p.0 q.0 hx hz p.1 q.1
