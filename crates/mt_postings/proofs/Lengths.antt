-- How long codes are.
use Rattle.std.proofs.Common.{ℕ, ◌≡◌, ◌+◌, ◌-◌, ◌/◌, ◌<◌, ◌≤◌, false, List, ◌∷◌, length, replicate, ap, ◌∙◌, subst, arith}
use Rattle.std.proofs.lemmas.List.{length-append, length-replicate}
use Rattle.mt_store_spec.specs.Codes.{delta}
use Rattle.mt_store_spec.specs.Positions.{ArePositions, codes, IsCode}
use Rattle.mt_postings.proofs.Ascending.{From, from_start}
use Rattle.mt_postings.proofs.Words.{length-bits}
use Rattle.mt_postings.proofs.Coding.{codes_short}

-- The codes of some positions are measured, and those of the positions that are left make up the whole.
pub record MeasuresTo (total measured least : ℕ) (left : List ℕ) : Type 0 where
  pub from : From least left
  pub sum : measured + length (codes least left) ≡ total
  pub short : total ≤ 17179869180

pub measures_none : (ps : List ℕ) → ArePositions ps → MeasuresTo (length (codes 0 ps)) 0 0 ps
measures_none ps a = record { from = from_start ps a; sum = omega arith; short = let h = codes_short 0 ps (from_start ps a) in omega arith }

pub measures_least : (total measured least p : ℕ) (left rest : List ℕ) → MeasuresTo total measured least left → left ≡ p ∷ rest → (least ≤ p) × (p < 4294967295)
measures_least total measured least p left rest m e = let f = subst (From least) e m.from in (f.0, f.1)

pub measures_more : (total measured least p n : ℕ) (left rest : List ℕ) → MeasuresTo total measured least left → left ≡ p ∷ rest → n ≡ length (delta (p - least + 1)) → MeasuresTo total (measured + n) (p + 1) rest
measures_more total measured least p n left rest m e k =
    let f = subst (From least) e m.from in
    let l = f.0 in
    let gap : length (delta (p + 1 - least)) ≡ length (delta (p - least + 1)) = ap (λ x. length (delta x)) (omega arith) in
    let a = length-append (delta (p + 1 - least)) (codes (p + 1) rest) in
    let s : measured + length (codes least (p ∷ rest)) ≡ total = subst (λ x. measured + length (codes least x) ≡ total) e m.sum in
    record { from = f.2; sum = omega arith; short = m.short }

-- a code fills its bytes but for fewer than eight bits
pub code_length : (bytes ps : List ℕ) → IsCode bytes ps → length bytes ≡ (length (codes 0 ps) + 7) / 8
code_length bytes ps c =
    let b = length-bits bytes in
    let a = ap length c.spelt ∙ length-append (codes 0 ps) (replicate c.padding false) in
    let z = length-replicate c.padding false in
    let s = c.short in
    omega arith
