-- The numbers of the live texts of a group are those that were given.
use Rattle.std.proofs.Common.{◌≡◌, ℕ, zero, suc, ◌+◌, ◌<◌, ◌≤◌, ◌==◌, ◌||◌, Bool, true, false, cond, List, [], ◌∷◌, length, refl, sym, ◌∙◌, ap, ap₂, arith, ◌⊎◌, inl, inr}
use Rattle.std.specs.List.{All, AllPairs}
use Rattle.std.proofs.lemmas.Bool.{cases_order, eq-eqb, ne_eqb, or_from, or_left}
use Rattle.std.proofs.lemmas.List.Elements.{All-head, All-tail}
use Rattle.mt_text_spec.specs.Texts.{Text}
use Rattle.mt_corpus_spec.specs.Groups.{Group, all_texts}
use Rattle.mt_corpus_spec.specs.Segments.{live_numbers}
use Rattle.mt_corpus_spec.specs.Decoded.{is_among, marked}
use Rattle.mt_decode_laws.specs.Laws.{NumbersAreLive}

-- all texts stand there
texts_stay : (first : ℕ) (texts : List Text) (live : List ℕ) → all_texts (marked first texts live) ≡ texts
texts_stay first [] live = refl
texts_stay first (text ∷ texts) live = ap (λ ts. text ∷ ts) (texts_stay (first + 1) texts live)

-- a number below all others is not among them
not_among : (live : List ℕ) (n : ℕ) → All (λ number. n < number) live → is_among live n ≡ false
not_among [] n h = refl
not_among (k ∷ live) n h =
    or_from (k == n) (is_among live n) (ne_eqb k n (λ e. let f : ⊥ = omega (arith, All-head (λ number. n < number) k live h, e) in f)) (not_among live n (All-tail (λ number. n < number) k live h))

-- a number that has passed no longer counts
passed : (k : ℕ) (live : List ℕ) (first : ℕ) (texts : List Text) → k < first → marked first texts (k ∷ live) ≡ marked first texts live
passed k live first [] l = refl
passed k live first (text ∷ texts) l =
    let off : (k == first) ≡ false = ne_eqb k first (λ e. let f : ⊥ = omega (arith, l, e) in f) in
    ap₂ (λ (b : Bool) (group : Group). (text, b || is_among live first) ∷ group) off (passed k live (first + 1) texts (omega arith))

abbrev Within : (first many : ℕ) → List ℕ → Type 0
Within first many live = All (λ number. (first ≤ number) × (number < first + many)) live

abbrev Rises : List ℕ → Type 0
Rises live = AllPairs (λ number later. number < later) live

later : (k : ℕ) (live : List ℕ) → Rises (k ∷ live) → Rises live
later k live h = λ i j d b l. h (suc i) (suc j) d (omega arith) (omega arith)

behind : (k : ℕ) (live : List ℕ) → Rises (k ∷ live) → All (λ number. k < number) live
behind k live h = λ i d l. h 0 (suc i) d (omega arith) (omega arith)

above : (first k : ℕ) (live : List ℕ) → first < k → Rises (k ∷ live) → All (λ number. first < number) (k ∷ live)
above first k live l h zero d m = l
above first k live l h (suc i) d m = omega (arith, l, behind k live h i d (omega (arith, m)))

live_from : (texts : List Text) (first : ℕ) (live : List ℕ) → Rises live → Within first (length texts) live → live_numbers first (marked first texts live) ≡ live
live_from [] first [] up range = refl
live_from [] first (k ∷ live) up range = let r = All-head (λ number. (first ≤ number) × (number < first + 0)) k live range in absurd (omega (arith, r.0, r.1))
live_from (text ∷ texts) first [] up range = live_from texts (first + 1) [] up (λ i d l. absurd (omega (arith, l)))
live_from (text ∷ texts) first (k ∷ live) up range =
    by (cases_order k first) (λ (e : k ≡ first). live_from texts (first + 1) live (later k live up) (λ i d l. let r = range (suc i) d (omega (arith, l)) in let b = behind k live up i d l in (omega (arith, b, e), omega (arith, r.1))))
    (λ (m : first < k). live_from texts (first + 1) (k ∷ live) up (λ i d l. let r = range i d l in let b = above first k live m up i d l in (omega (arith, b), omega (arith, r.1))))
  where
    by : (k ≡ first) ⊎ ((k < first) ⊎ (first < k)) → (k ≡ first → live_numbers (first + 1) (marked (first + 1) texts live) ≡ live) → (first < k → live_numbers (first + 1) (marked (first + 1) texts (k ∷ live)) ≡ k ∷ live) →
        live_numbers first (marked first (text ∷ texts) (k ∷ live)) ≡ k ∷ live
    by (inl e) here next =
        let on : is_among (k ∷ live) first ≡ true = or_left (k == first) (is_among live first) (eq-eqb k first e) in
        ap (λ b. cond b (first ∷ live_numbers (first + 1) (marked (first + 1) texts (k ∷ live))) (live_numbers (first + 1) (marked (first + 1) texts (k ∷ live)))) on
        ∙ ap (λ (group : Group). first ∷ live_numbers (first + 1) group) (passed k live (first + 1) texts (omega (arith, e))) ∙ ap₂ (λ (n : ℕ) (ns : List ℕ). n ∷ ns) (sym e) (here e)
    by (inr (inl l)) here next = let r = All-head (λ number. (first ≤ number) × (number < first + length (text ∷ texts))) k live range in absurd (omega (arith, l, r.0))
    by (inr (inr l)) here next =
        let off : is_among (k ∷ live) first ≡ false = not_among (k ∷ live) first (above first k live l up) in
        ap (λ b. cond b (first ∷ live_numbers (first + 1) (marked (first + 1) texts (k ∷ live))) (live_numbers (first + 1) (marked (first + 1) texts (k ∷ live)))) off ∙ next l

pub numbers_live : NumbersAreLive
numbers_live texts live up within = record {
  texts_are = texts_stay 0 texts live;
  live_are = live_from texts 0 live up (λ i d l. (omega arith, omega (arith, within i d l)));
}
