-- The codes of lists of positions.
use Rattle.std.proofs.Common.{ℕ, zero, suc, ◌≡◌, ◌+◌, ◌-◌, ◌*◌, ◌/◌, ◌^◌, ◌<◌, ◌≤◌, ◌⊎◌, Bool, true, false, List, [], ◌∷◌, ◌++◌, length, replicate, refl, sym, ap, ◌∙◌, subst, inl, inr, arith, append_assoc, add-one, nat_eq}
use Rattle.std.specs.Bool.{MatchBool}
use Rattle.std.specs.List.{All}
use Rattle.std.proofs.lemmas.List.Elements.{All-head, All-tail}
use Rattle.std.proofs.lemmas.Bool.{cases_lt, eqb-true, eqb-false}
use Rattle.std.proofs.lemmas.Nat.{shr_below}
use Rattle.std.proofs.lemmas.List.{length-append, length-replicate, append-nil, nil_from_length, replicate-append-replicate, append_cancel_right}
use Rattle.std.proofs.Math.Nat.{mod-eq_of_lt}
use Rattle.mt_store_spec.specs.Codes.{digits, log2, delta, bits, IsTooLarge, IsCut, Unread}
use Rattle.mt_store_spec.specs.Positions.{ArePositions, next_least, codes, IsCode, BeginsWith, IsPast, IsTooLargeAt, IsCutAt, IsPaddingAt}
use Rattle.mt_postings.specs.Words.{Shows}
use Rattle.mt_postings.specs.Refused.{IsStopped, IsNoList}
use Rattle.mt_postings.specs.declared.error.DecodeError.{DecodeError}
use Rattle.mt_postings.specs.declared.error.DecodeError.TheVariants.{Cut, TooLarge, Padding, NoMemory}
use Rattle.mt_postings.proofs.Digits.{digits-zero, same_from_digits, length-digits}
use Rattle.mt_postings.proofs.Deltas.{delta_same, parts_same, log2_bounds, length-delta, pow_more}
use Rattle.mt_postings.proofs.Refusals.{code_not_large, code_not_cut}
use Rattle.mt_postings.proofs.Heads.{shows_part}
use Rattle.mt_postings.proofs.Words.{length-bits}
use Rattle.mt_postings.proofs.Ascending.{From, from_start, positions_from}

-- ---- one position more

pub next_push : (least p : ℕ) (ps : List ℕ) → next_least least (ps ++ p ∷ []) ≡ p + 1
next_push least p [] = refl
next_push least p (q ∷ ps) = next_push (q + 1) p ps

pub codes_push : (least p : ℕ) (ps : List ℕ) → codes least (ps ++ p ∷ []) ≡ codes least ps ++ delta (p + 1 - next_least least ps)
codes_push least p [] = append-nil (delta (p + 1 - least))
codes_push least p (q ∷ ps) =
    ap (λ x. delta (q + 1 - least) ++ x) (codes_push (q + 1) p ps) ∙ sym (append_assoc (delta (q + 1 - least)) (codes (q + 1) ps) (delta (p + 1 - next_least (q + 1) ps)))

from_push : (least p : ℕ) (ps : List ℕ) → From least ps → next_least least ps ≤ p → p < 4294967295 → From least (ps ++ p ∷ [])
from_push least p [] f l r = (l, r, omega arith)
from_push least p (q ∷ ps) f l r = (f.0, f.1, from_push (q + 1) p ps f.2 l r)

next_from : (least : ℕ) (ps : List ℕ) → From least ps → next_least least ps ≤ 4294967295
next_from least [] f = f
next_from least (p ∷ ps) f = next_from (p + 1) ps f.2

-- What is read so far: the positions, and the least that may follow.
pub record ReadsTo (all : List Bool) (positions : List ℕ) (least bit : ℕ) (left : List Bool) : Type 0 where
  pub begins : BeginsWith all positions bit left
  pub next : least ≡ next_least 0 positions
  pub small : least ≤ 4294967295

pub reads_none : (unread : Unread) (positions : List ℕ) → positions ≡ [] → unread.place ≡ 0 → ReadsTo unread.left positions 0 unread.place unread.left
reads_none unread positions n e =
    subst (λ ps. ReadsTo unread.left ps 0 unread.place unread.left) (sym n) (record {
      begins = record { valid = positions_from 0 [] (omega arith); place = e; spelt = refl };
      next = refl;
      small = omega arith;
    })

pub reads_more : (all : List Bool) (positions now : List ℕ) (least p : ℕ) (old new : Unread) → ReadsTo all positions least old.place old.left → now ≡ positions ++ p ∷ [] → least ≤ p → p < 4294967295 → old.left ≡ delta (p + 1 - least) ++ new.left → new.place ≡ old.place + length (delta (p + 1 - least)) → ReadsTo all now (p + 1) new.place new.left
reads_more all positions now least p old new r n low high code place =
    let b = r.begins in
    let gap : delta (p + 1 - least) ≡ delta (p + 1 - next_least 0 positions) = ap (λ x. delta (p + 1 - x)) r.next in
    let c : codes 0 (positions ++ p ∷ []) ≡ codes 0 positions ++ delta (p + 1 - least) = codes_push 0 p positions ∙ ap (λ x. codes 0 positions ++ x) (sym gap) in
    let l = length-append (codes 0 positions) (delta (p + 1 - least)) in
    let e = b.place in
    let lc : length (codes 0 (positions ++ p ∷ [])) ≡ length (codes 0 positions ++ delta (p + 1 - least)) = ap length c in
    subst (λ ps. ReadsTo all ps (p + 1) new.place new.left) (sym n) (record {
      begins = record {
        valid = positions_from 0 (positions ++ p ∷ []) (from_push 0 p positions (from_start positions b.valid) (subst (λ x. x ≤ p) r.next low) high);
        place = omega arith;
        spelt = b.spelt ∙ ap (λ x. codes 0 positions ++ x) code ∙ sym (append_assoc (codes 0 positions) (delta (p + 1 - least)) new.left) ∙ ap (λ x. x ++ new.left) (sym c);
      };
      next = sym (next_push 0 p positions);
      small = omega arith;
    })

-- a code that gives no position ends the reading
pub stopped_list : (count : ℕ) (all : List Bool) (positions : List ℕ) (least : ℕ) (unread : Unread) (e : DecodeError) → ReadsTo all positions least unread.place unread.left → length positions < count → IsStopped least unread e → IsNoList count all e
stopped_list count all positions least unread (Cut bit) r f h =
    record { before = positions; left = unread.left; begins = subst (λ b. BeginsWith all positions b unread.left) (sym h.0) r.begins; fewer = f; cut = h.1 }
stopped_list count all positions least unread (TooLarge bit) r f h =
    record { before = positions; left = unread.left; begins = subst (λ b. BeginsWith all positions b unread.left) (sym h.0) r.begins; fewer = f; large = subst (λ x. IsTooLarge unread.left ⊎ IsPast x unread.left) r.next h.1 }
stopped_list count all positions least unread (Padding bit) r f h = absurd h
stopped_list count all positions least unread NoMemory r f h = absurd h

-- ---- what is left

pub padding_told : (w : ℕ) (left : List Bool) → Shows w left → length left < 8 → MatchBool (nat_eq (w / 2 ^ 56) 0) ((n : ℕ) × (n < 8) × (left ≡ replicate n false)) ((n : ℕ) → n < 8 → left ≡ replicate n false → ⊥)
padding_told w left s short =
    let k = 8 - length left in
    let sum : length left + k ≡ 8 = omega arith in
    let shown : left ++ replicate k false ≡ digits 8 (w / 2 ^ 56) = shows_part 8 w left (omega arith) (omega arith) s in
    let zs : replicate (length left) false ++ replicate k false ≡ replicate 8 false = replicate-append-replicate (length left) k false ∙ ap (λ x. replicate x false) sum in
    by_test (nat_eq (w / 2 ^ 56) 0) refl
    (λ e. let none : w / 2 ^ 56 ≡ 0 = eqb-true (w / 2 ^ 56) 0 e in
    (length left, short, append_cancel_right left (replicate (length left) false) (replicate k false) (shown ∙ ap (digits 8) none ∙ digits-zero 8 ∙ sym zs)))
    (λ e. λ n l z.
    let m : length left ≡ n = ap length z ∙ length-replicate n false in
    let same : digits 8 (w / 2 ^ 56) ≡ digits 8 0 = sym shown ∙ ap (λ x. x ++ replicate k false) (z ∙ ap (λ x. replicate x false) (sym m)) ∙ zs ∙ sym (digits-zero 8) in
    let t = same_from_digits 8 (w / 2 ^ 56) 0 same in
    let b : w / 2 ^ 56 < 2 ^ 8 = shr_below w 8 56 s.fits in
    eqb-false (w / 2 ^ 56) 0 e (sym (mod-eq_of_lt b) ∙ t))
  where
    by_test : (b : Bool) → nat_eq (w / 2 ^ 56) 0 ≡ b → (b ≡ true → (n : ℕ) × (n < 8) × (left ≡ replicate n false)) → (b ≡ false → (n : ℕ) → n < 8 → left ≡ replicate n false → ⊥) → MatchBool b ((n : ℕ) × (n < 8) × (left ≡ replicate n false)) ((n : ℕ) → n < 8 → left ≡ replicate n false → ⊥)
    by_test true e t f = t refl
    by_test false e t f = f refl

pub no_padding : (left : List Bool) → 8 ≤ length left → (n : ℕ) → n < 8 → left ≡ replicate n false → ⊥
no_padding left l n s e =
    let m : length left ≡ n = ap length e ∙ length-replicate n false in
    omega arith

-- ---- bits are the codes of one list

-- Where one list of codes begins like another of no fewer, the positions are those of the other, and what is left codes the others.
record Front (least : ℕ) (a b : List ℕ) (r s : List Bool) : Type 0 where
  pub rest : List ℕ
  pub whole : b ≡ a ++ rest
  pub from : From (next_least least a) rest
  pub left : r ≡ codes (next_least least a) rest ++ s

front_more : (least x y : ℕ) (a b : List ℕ) (r s : List Bool) → y ≡ x → Front (x + 1) a b r s → Front least (x ∷ a) (y ∷ b) r s
front_more least x y a b r s e t = record { rest = t.rest; whole = cons_same e t.whole; from = t.from; left = t.left }
  where
    cons_same : {p q : ℕ} {c d : List ℕ} → p ≡ q → c ≡ d → p ∷ c ≡ q ∷ d
    cons_same e f = cc

-- the first numbers of two lists are the same where their codes are
first_same : (least x y : ℕ) (a b : List ℕ) (r s : List Bool) → least ≤ x → least ≤ y → codes least (x ∷ a) ++ r ≡ codes least (y ∷ b) ++ s → (y ≡ x) × (codes (x + 1) a ++ r ≡ codes (x + 1) b ++ s)
first_same least x y a b r s fx gy e =
    let ea = append_assoc (delta (x + 1 - least)) (codes (x + 1) a) r in
    let eb = append_assoc (delta (y + 1 - least)) (codes (y + 1) b) s in
    let ex : 1 ≤ x + 1 - least = omega arith in
    let ey : 1 ≤ y + 1 - least = omega arith in
    let both : delta (x + 1 - least) ++ (codes (x + 1) a ++ r) ≡ delta (y + 1 - least) ++ (codes (y + 1) b ++ s) = sym ea ∙ e ∙ eb in
    let d = delta_same (x + 1 - least) (y + 1 - least) (codes (x + 1) a ++ r) (codes (y + 1) b ++ s) ex ey both in
    let gap : x + 1 - least ≡ y + 1 - least = d.0 in
    let same : y ≡ x = omega arith in
    (same, subst (λ q. codes (x + 1) a ++ r ≡ codes (q + 1) b ++ s) same d.1)

front : (least : ℕ) (a b : List ℕ) (r s : List Bool) → From least a → From least b → codes least a ++ r ≡ codes least b ++ s → length a ≤ length b → Front least a b r s
front least [] b r s f g e l = record { rest = b; whole = refl; from = g; left = e }
front least (x ∷ a) [] r s f g e l = absurd (omega arith)
front least (x ∷ a) (y ∷ b) r s f g e l =
    let d = first_same least x y a b r s f.0 g.0 e in
    front_more least x y a b r s d.0 (front (x + 1) a b r s f.2 (subst (λ q. From (q + 1) b) d.0 g.2) d.1 (omega arith))

-- No position's code follows.
Stuck : ℕ → List Bool → Type 0
Stuck least left = (p : ℕ) (more : List Bool) → least ≤ p → p < 4294967295 → left ≡ delta (p + 1 - least) ++ more → ⊥

large_stuck : (least : ℕ) (left : List Bool) → IsTooLarge left → Stuck least left
unfolding Stuck
large_stuck least left h = λ p more l u e. code_not_large (p + 1 - least) left more (omega arith) (omega arith) e h

past_stuck : (least : ℕ) (left : List Bool) → least ≤ 4294967295 → IsPast least left → Stuck least left
unfolding Stuck
past_stuck least left s h = λ p more l u e.
    let b = h.passes in
    let d = delta_same h.gap (p + 1 - least) h.rest more (omega arith) (omega arith) (sym h.code ∙ e) in
    let g = d.0 in
    omega arith

cut_stuck : (least : ℕ) (left : List Bool) → IsCut left → Stuck least left
unfolding Stuck
cut_stuck least left h = λ p more l u e. code_not_cut (p + 1 - least) left more (omega arith) e h

-- a list that is stuck is no shorter than another
no_longer : (a b : List ℕ) (r s : List Bool) → ArePositions a → ArePositions b → codes 0 a ++ r ≡ codes 0 b ++ s → Stuck (next_least 0 a) r → length b ≤ length a
unfolding Stuck
no_longer a b r s va vb e stuck =
    elim (cases_lt (length a) (length b)) [
      | inl l ↦
          let f = front 0 a b r s (from_start a va) (from_start b vb) e (omega arith) in
          let n : length b ≡ length a + length f.rest = ap length f.whole ∙ length-append a f.rest in
          absurd (follows f.rest (omega arith) f.from f.left)
      | inr g ↦ g
    ]
  where
    follows : (rest : List ℕ) → 0 < length rest → From (next_least 0 a) rest → r ≡ codes (next_least 0 a) rest ++ s → ⊥
    follows [] n f h = omega arith
    follows (p ∷ ps) n f h = stuck p (codes (p + 1) ps ++ s) f.0 f.1 (h ∙ append_assoc (delta (p + 1 - next_least 0 a)) (codes (p + 1) ps) s)

-- lists of one length are one, and leave the same
same_lists : (a b : List ℕ) (r s : List Bool) → ArePositions a → ArePositions b → codes 0 a ++ r ≡ codes 0 b ++ s → length a ≡ length b → (a ≡ b) × (r ≡ s)
same_lists a b r s va vb e l =
    let f = front 0 a b r s (from_start a va) (from_start b vb) e (omega arith) in
    let n : length b ≡ length a + length f.rest = ap length f.whole ∙ length-append a f.rest in
    let none : f.rest ≡ [] = nil_from_length f.rest (omega arith) in (
      sym (f.whole ∙ ap (λ x. a ++ x) none ∙ append-nil a),
      f.left ∙ ap (λ x. codes (next_least 0 a) x ++ s) none,
    )

-- one byte list has at most one list of so many positions
pub one_list : (bytes : List ℕ) (a b : List ℕ) → IsCode bytes a → IsCode bytes b → length a ≡ length b → a ≡ b
one_list bytes a b x y l = (same_lists a b (replicate x.padding false) (replicate y.padding false) x.valid y.valid (sym x.spelt ∙ y.spelt) l).0

-- ---- each refusal excludes the others

record Stops (count : ℕ) (all : List Bool) (bit : ℕ) (left : List Bool) : Type 0 where
  pub before : List ℕ
  pub begins : BeginsWith all before bit left
  pub fewer : length before < count
  pub stuck : Stuck (next_least 0 before) left

large_stops : (count : ℕ) (all : List Bool) (bit : ℕ) (h : IsTooLargeAt count all bit) → Stops count all bit h.left
large_stops count all bit h =
    record {
      before = h.before;
      begins = h.begins;
      fewer = h.fewer;
      stuck = elim h.large [
        | inl l ↦ large_stuck (next_least 0 h.before) h.left l
        | inr p ↦ past_stuck (next_least 0 h.before) h.left (next_from 0 h.before (from_start h.before h.begins.valid)) p
      ];
    }

cut_stops : (count : ℕ) (all : List Bool) (bit : ℕ) (h : IsCutAt count all bit) → Stops count all bit h.left
cut_stops count all bit h =
    record { before = h.before; begins = h.begins; fewer = h.fewer; stuck = cut_stuck (next_least 0 h.before) h.left h.cut }

-- two stops are one
one_stop : (count : ℕ) (all : List Bool) (bit bit' : ℕ) (left left' : List Bool) (h : Stops count all bit left) (k : Stops count all bit' left') → (h.before ≡ k.before) × (left ≡ left') × (bit ≡ bit')
one_stop count all bit bit' left left' h k =
    let b = h.begins in
    let d = k.begins in
    let e : codes 0 h.before ++ left ≡ codes 0 k.before ++ left' = sym b.spelt ∙ d.spelt in
    let x = no_longer h.before k.before left left' b.valid d.valid e h.stuck in
    let y = no_longer k.before h.before left' left d.valid b.valid (sym e) k.stuck in
    let s = same_lists h.before k.before left left' b.valid d.valid e (omega arith) in
    (s.0, s.1, b.place ∙ ap (λ q. length (codes 0 q)) s.0 ∙ sym d.place)

-- no whole list goes on from a stop
no_list_here : (count : ℕ) (all : List Bool) (bit : ℕ) (left : List Bool) → Stops count all bit left → (whole : List ℕ) (end : List Bool) → ArePositions whole → all ≡ codes 0 whole ++ end → length whole ≡ count → ⊥
no_list_here count all bit left h whole end v e l =
    let b = h.begins in
    let x = no_longer h.before whole left end b.valid v (sym b.spelt ∙ e) h.stuck in
    let f = h.fewer in
    omega arith

large_or_cut : (count : ℕ) (all : List Bool) (bit bit' : ℕ) → IsTooLargeAt count all bit → IsCutAt count all bit' → ⊥
large_or_cut count all bit bit' h k =
    let o = one_stop count all bit bit' h.left k.left (large_stops count all bit h) (cut_stops count all bit' k) in
    elim h.large [
      | inl l ↦ k.cut.no_larger (subst IsTooLarge o.1 l)
      | inr p ↦
          let n = next_from 0 h.before (from_start h.before h.begins.valid) in
          let b = p.passes in
          code_not_cut p.gap k.left p.rest (omega arith) (sym o.1 ∙ p.code) k.cut
    ]

no_padding_after : (count : ℕ) (all : List Bool) (bit bit' : ℕ) (left : List Bool) → Stops count all bit left → IsPaddingAt count all bit' → ⊥
no_padding_after count all bit bit' left h k = no_list_here count all bit left h k.before k.left k.begins.valid k.begins.spelt k.number

no_padding_in : (count : ℕ) (bytes p : List ℕ) (bit : ℕ) → IsCode bytes p → length p ≡ count → IsPaddingAt count (bits bytes) bit → ⊥
no_padding_in count bytes p bit h l k =
    let s = same_lists k.before p k.left (replicate h.padding false) k.begins.valid h.valid (sym k.begins.spelt ∙ h.spelt) (k.number ∙ sym l) in
    k.wrong h.padding h.short s.1

one_padding : (count : ℕ) (all : List Bool) (bit bit' : ℕ) → IsPaddingAt count all bit → IsPaddingAt count all bit' → bit ≡ bit'
one_padding count all bit bit' h k =
    let s = same_lists h.before k.before h.left k.left h.begins.valid k.begins.valid (sym h.begins.spelt ∙ k.begins.spelt) (h.number ∙ sym k.number) in
    h.begins.place ∙ ap (λ q. length (codes 0 q)) s.0 ∙ sym k.begins.place

-- ---- the answers of `decode`, each exactly where it is due

pub no_list_of : (count : ℕ) (bytes p : List ℕ) (e : DecodeError) → IsNoList count (bits bytes) e → IsCode bytes p → length p ≡ count → e ≡ NoMemory
no_list_of count bytes p (Cut bit) n h l = absurd (no_list_here count (bits bytes) bit n.left (cut_stops count (bits bytes) bit n) p (replicate h.padding false) h.valid h.spelt l)
no_list_of count bytes p (TooLarge bit) n h l = absurd (no_list_here count (bits bytes) bit n.left (large_stops count (bits bytes) bit n) p (replicate h.padding false) h.valid h.spelt l)
no_list_of count bytes p (Padding bit) n h l = absurd (no_padding_in count bytes p bit h l n)
no_list_of count bytes p NoMemory n h l = refl

pub too_large_of : (count : ℕ) (all : List Bool) (bit : ℕ) (e : DecodeError) → IsNoList count all e → IsTooLargeAt count all bit → (e ≡ TooLarge bit) ⊎ (e ≡ NoMemory)
too_large_of count all bit (Cut other) n h = absurd (large_or_cut count all bit other h n)
too_large_of count all bit (TooLarge other) n h = inl (ap TooLarge (one_stop count all other bit n.left h.left (large_stops count all other n) (large_stops count all bit h)).2)
too_large_of count all bit (Padding other) n h = absurd (no_padding_after count all bit other h.left (large_stops count all bit h) n)
too_large_of count all bit NoMemory n h = inr refl

pub cut_of : (count : ℕ) (all : List Bool) (bit : ℕ) (e : DecodeError) → IsNoList count all e → IsCutAt count all bit → (e ≡ Cut bit) ⊎ (e ≡ NoMemory)
cut_of count all bit (Cut other) n h = inl (ap Cut (one_stop count all other bit n.left h.left (cut_stops count all other n) (cut_stops count all bit h)).2)
cut_of count all bit (TooLarge other) n h = absurd (large_or_cut count all other bit n h)
cut_of count all bit (Padding other) n h = absurd (no_padding_after count all bit other h.left (cut_stops count all bit h) n)
cut_of count all bit NoMemory n h = inr refl

pub padding_of : (count : ℕ) (all : List Bool) (bit : ℕ) (e : DecodeError) → IsNoList count all e → IsPaddingAt count all bit → (e ≡ Padding bit) ⊎ (e ≡ NoMemory)
padding_of count all bit (Cut other) n h = absurd (no_padding_after count all other bit n.left (cut_stops count all other n) h)
padding_of count all bit (TooLarge other) n h = absurd (no_padding_after count all other bit n.left (large_stops count all other n) h)
padding_of count all bit (Padding other) n h = inl (ap Padding (one_padding count all other bit n h))
padding_of count all bit NoMemory n h = inr refl

pub not_too_large : (count : ℕ) (bytes p : List ℕ) (bit : ℕ) → IsCode bytes p → length p ≡ count → IsTooLargeAt count (bits bytes) bit → ⊥
not_too_large count bytes p bit h l n = no_list_here count (bits bytes) bit n.left (large_stops count (bits bytes) bit n) p (replicate h.padding false) h.valid h.spelt l

pub not_cut : (count : ℕ) (bytes p : List ℕ) (bit : ℕ) → IsCode bytes p → length p ≡ count → IsCutAt count (bits bytes) bit → ⊥
not_cut count bytes p bit h l n = no_list_here count (bits bytes) bit n.left (cut_stops count (bits bytes) bit n) p (replicate h.padding false) h.valid h.spelt l

pub not_padding : (count : ℕ) (bytes p : List ℕ) (bit : ℕ) → IsCode bytes p → length p ≡ count → IsPaddingAt count (bits bytes) bit → ⊥
not_padding count bytes p bit h l n = no_padding_in count bytes p bit h l n

-- ---- the length of a code

lt_pow : (k : ℕ) → k < 2 ^ k
lt_pow zero = omega arith
lt_pow (suc k) =
    let h = lt_pow k in
    let m : 2 ^ suc k ≡ 2 * 2 ^ k = ap (λ x. 2 ^ x) (sym (add-one k)) ∙ pow_more k in
    omega arith

log2_short : (n : ℕ) → 1 ≤ n → log2 n < n
log2_short n p =
    let b = (log2_bounds n p).0 in
    let h = lt_pow (log2 n) in
    omega arith

delta_short : (n : ℕ) → 1 ≤ n → length (delta n) ≤ 4 * n
delta_short n p =
    let l = length-delta n in
    let a = log2_short n p in
    let b = log2_short (log2 n + 1) (omega arith) in
    omega arith

pub codes_short : (least : ℕ) (ps : List ℕ) → From least ps → length (codes least ps) + 4 * least ≤ 17179869180
codes_short least [] f = omega arith
codes_short least (p ∷ ps) f =
    let l = f.0 in
    let d = delta_short (p + 1 - least) (omega arith) in
    let r = codes_short (p + 1) ps f.2 in
    let a = length-append (delta (p + 1 - least)) (codes (p + 1) ps) in
    omega arith

-- a code has fewer than 2^32 bytes
pub short_code : (bytes ps : List ℕ) → IsCode bytes ps → length bytes < 4294967296
short_code bytes ps c =
    let h = codes_short 0 ps (from_start ps c.valid) in
    let b = length-bits bytes in
    let a = ap length c.spelt ∙ length-append (codes 0 ps) (replicate c.padding false) in
    let z = length-replicate c.padding false in
    let s = c.short in
    omega arith

-- ---- one position written

pub record WritesTo (all written : List Bool) (least : ℕ) (left : List ℕ) : Type 0 where
  pub from : From least left
  pub spelt : written ++ codes least left ≡ all

pub writes_none : (ps : List ℕ) → ArePositions ps → WritesTo (codes 0 ps) [] 0 ps
writes_none ps a = record { from = from_start ps a; spelt = refl }

pub writes_least : (all written : List Bool) (least p : ℕ) (left rest : List ℕ) → WritesTo all written least left → left ≡ p ∷ rest → (least ≤ p) × (p < 4294967295)
writes_least all written least p left rest w e = let f = subst (From least) e w.from in (f.0, f.1)

pub writes_more : (all written now : List Bool) (least p n : ℕ) (left rest : List ℕ) → WritesTo all written least left → left ≡ p ∷ rest → n ≡ p - least + 1 → now ≡ written ++ delta n → WritesTo all now (p + 1) rest
writes_more all written now least p n left rest w e m new =
    let f = subst (From least) e w.from in
    let l = f.0 in
    let gap : p + 1 - least ≡ n = omega arith in
    record {
      from = f.2;
      spelt = ap (λ x. x ++ codes (p + 1) rest) new ∙ append_assoc written (delta n) (codes (p + 1) rest) ∙ ap (λ x. written ++ (delta x ++ codes (p + 1) rest)) (sym gap) ∙ ap (λ x. written ++ codes least x) (sym e) ∙ w.spelt;
    }

pub writes_all : (ps : List ℕ) (bytes : List ℕ) (written : List Bool) (least : ℕ) (left : List ℕ) → ArePositions ps → WritesTo (codes 0 ps) written least left → left ≡ [] → (padding : ℕ) × (padding < 8) × (bits bytes ≡ written ++ replicate padding false) → IsCode bytes ps
writes_all ps bytes written least left a w e p =
    let s : written ≡ codes 0 ps = sym (append-nil written) ∙ ap (λ x. written ++ codes least x) (sym e) ∙ w.spelt in
    record { valid = a; padding = p.0; short = p.1; spelt = p.2 ∙ ap (λ x. x ++ replicate p.0 false) s }

-- ---- a list has one code

same_byte : (x y : ℕ) → x < 256 → y < 256 → digits 8 x ≡ digits 8 y → x ≡ y
same_byte x y a b e = sym (mod-eq_of_lt a) ∙ same_from_digits 8 x y e ∙ mod-eq_of_lt b

same_bytes : (a b : List ℕ) → All (λ x. x < 256) a → All (λ x. x < 256) b → bits a ≡ bits b → a ≡ b
same_bytes [] [] f g e = refl
same_bytes [] (y ∷ b) f g e = let l = ap length e in let m = length-append (digits 8 y) (bits b) in let n = length-digits 8 y in absurd (omega arith)
same_bytes (x ∷ a) [] f g e = let l = ap length e in let m = length-append (digits 8 x) (bits a) in let n = length-digits 8 x in absurd (omega arith)
same_bytes (x ∷ a) (y ∷ b) f g e =
    let p = parts_same (digits 8 x) (digits 8 y) (bits a) (bits b) (length-digits 8 x ∙ sym (length-digits 8 y)) e in
    let here : x ≡ y = same_byte x y (All-head (λ x. x < 256) x a f) (All-head (λ x. x < 256) y b g) p.0 in
    let rest : a ≡ b = same_bytes a b (All-tail (λ x. x < 256) x a f) (All-tail (λ x. x < 256) y b g) p.1 in
    cc

pub one_code : (positions a b : List ℕ) → All (λ x. x < 256) a → All (λ x. x < 256) b → IsCode a positions → IsCode b positions → a ≡ b
one_code ps a b f g x y =
    let la = length-bits a in
    let lb = length-bits b in
    let ca = ap length x.spelt ∙ length-append (codes 0 ps) (replicate x.padding false) in
    let cb = ap length y.spelt ∙ length-append (codes 0 ps) (replicate y.padding false) in
    let za = length-replicate x.padding false in
    let zb = length-replicate y.padding false in
    let sa = x.short in
    let sb = y.short in
    let same : x.padding ≡ y.padding = omega arith in
    same_bytes a b f g (x.spelt ∙ ap (λ n. codes 0 ps ++ replicate n false) same ∙ sym y.spelt)
