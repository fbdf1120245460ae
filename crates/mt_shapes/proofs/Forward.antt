-- No match leads back, so where two follow each other between two places, they meet between them.
use Rattle.std.proofs.Common.{ℕ, zero, suc, ◌≤◌, List, inl, inr, arith}
use Rattle.mt_text_spec.specs.Queries.{Expr, TokenTest, Begin, End, Whole, Seq, Choice, Repeat}
use Rattle.mt_match_spec.specs.Matches as m
use Rattle.mt_automaton.specs.Parts.{HasAllInside, GoesOn, outside}

-- from a place up to n a relation leads on, up to n
abbrev pub Forward : (n : ℕ) → m.Relation → Type 0
Forward n R = (b f : ℕ) (labels : List ℕ) → b ≤ n → R b f labels → (b ≤ f) × (f ≤ n)

pub turns_forward : (n : ℕ) (R : m.Relation) → Forward n R → (k : ℕ) → Forward n (m.Turns R k)
turns_forward n R r zero b f l h t = (omega (arith, t.0), omega (arith, t.0, h))
turns_forward n R r (suc k) b f l h t =
    let x : (b ≤ t.cut) × (t.cut ≤ n) = r b t.cut t.first_labels h t.first in
    let y : (t.cut ≤ f) × (f ≤ n) = turns_forward n R r k t.cut f t.second_labels x.1 t.second in
    (omega (arith, x.0, y.0), y.1)

instance_forward : (s : m.Sight) (b f : ℕ) → b ≤ outside s → GoesOn s b f → (b ≤ f) × (f ≤ outside s)
instance_forward s b f h g = (
  elim g.begins [ inl low ↦ g.onward low | inr past ↦ absurd (omega (arith, past, h)) ],
  elim g.ends [ inl low ↦ omega (arith, low) | inr out ↦ omega (arith, out) ],
)

pub forward : (s : m.Sight) → HasAllInside s → (expr : Expr) → Forward (outside s) (m.Matches s expr)
forward s o (TokenTest label test) b f l h r = (omega (arith, r.end_is), omega (arith, r.end_is, r.inside))
forward s o (Begin kind test) b f l h r = (omega (arith, r.end_is), omega (arith, r.end_is, h))
forward s o (End kind) b f l h r = (omega (arith, r.end_is), omega (arith, r.end_is, h))
forward s o (Whole kind test) b f l h r = instance_forward s b f h (o kind test b f r.lies)
forward s o (Seq left right) b f l h r =
    let x : (b ≤ r.cut) × (r.cut ≤ outside s) = forward s o left b r.cut r.first_labels h r.first in
    let y : (r.cut ≤ f) × (f ≤ outside s) = forward s o right r.cut f r.second_labels x.1 r.second in
    (omega (arith, x.0, y.0), y.1)
forward s o (Choice left right) b f l h r = elim r [ inl x ↦ forward s o left b f l h x | inr y ↦ forward s o right b f l h y ]
forward s o (Repeat inner least most) b f l h r = turns_forward (outside s) (m.Matches s inner) (forward s o inner) r.count b f l h r.turns

-- where one match follows another, between places of the text, they meet at a place of the text
abbrev pub Between : (tokens : ℕ) → (R S : m.Relation) → Type 0
Between tokens R S = (b cut e : ℕ) (l k : List ℕ) → b ≤ tokens → e ≤ tokens → R b cut l → S cut e k → cut ≤ tokens

pub meet : (s : m.Sight) → HasAllInside s → (left right : Expr) → Between s.tokens (m.Matches s left) (m.Matches s right)
meet s o left right b cut e l k low high p q =
    let a : (b ≤ cut) × (cut ≤ outside s) = forward s o left b cut l (omega (arith, low)) p in
    let z : (cut ≤ e) × (e ≤ outside s) = forward s o right cut e k a.1 q in
    omega (arith, z.0, high)

pub meet_turns : (s : m.Sight) → HasAllInside s → (inner : Expr) (count : ℕ) → Between s.tokens (m.Matches s inner) (m.Turns (m.Matches s inner) count)
meet_turns s o inner count b cut e l k low high p q =
    let a : (b ≤ cut) × (cut ≤ outside s) = forward s o inner b cut l (omega (arith, low)) p in
    let z : (cut ≤ e) × (e ≤ outside s) = turns_forward (outside s) (m.Matches s inner) (forward s o inner) count cut e k a.1 q in
    omega (arith, z.0, high)
