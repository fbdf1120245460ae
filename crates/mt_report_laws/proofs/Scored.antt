-- Each fraction above 0 has a score.
use Rattle.std.proofs.Common.{◌≡◌, ℕ, zero, suc, ◌+◌, ◌*◌, ◌^◌, ◌<◌, ◌≤◌, ◌⊎◌, inl, inr, ℤ, pos, ◌+ℤ◌, ◌-ℤ◌, get_or, sym, ap, subst, arith}
use Rattle.std.proofs.Math.Nat.{mul-le-mul_left, mul-le-mul_right, one-le-pow}
use Rattle.std.proofs.lemmas.Nat.{pow-add}
use Rattle.std.proofs.lemmas.Bool.{cases_lt}
use Rattle.std.proofs.lemmas.Int.{ints, by_lt_z}
use Rattle.mt_sketch_spec.specs.Score.{IsScore}
use Rattle.mt_score.proofs.Constants.{in_table, rises}
use Rattle.mt_score.specs.declared.dice.TheConstants.{CONSTANTS}

abbrev constant_of : ℕ → ℕ
constant_of j = get_or CONSTANTS j 0

-- a fraction comes up to the constant of so many sixteenths, doubled so often
abbrev ComesTo : (two_f sum sixteenths doublings : ℕ) → Type 0
ComesTo two_f sum sixteenths doublings = sum * constant_of sixteenths ≤ two_f * 10 ^ 9 * 2 ^ doublings

abbrev StaysBelow : (two_f sum sixteenths doublings : ℕ) → Type 0
StaysBelow two_f sum sixteenths doublings = two_f * 10 ^ 9 * 2 ^ doublings < sum * constant_of sixteenths

-- ## The fewest doublings with which it comes up to 1

record IsFewest (two_f sum doublings : ℕ) : Type 0 where
  pub enough : ComesTo two_f sum 0 doublings
  pub fewest : (fewer : ℕ) → fewer < doublings → StaysBelow two_f sum 0 fewer

fewest : (two_f sum tries done : ℕ) → ((fewer : ℕ) → fewer < done → StaysBelow two_f sum 0 fewer) → ComesTo two_f sum 0 (done + tries) → (doublings : ℕ) × IsFewest two_f sum doublings
fewest two_f sum zero done below enough =
    let same : done + 0 ≡ done = omega arith in
    (done, record { enough = subst (λ (n : ℕ). ComesTo two_f sum 0 n) same enough; fewest = below })
fewest two_f sum (suc tries) done below enough = by (fewest two_f sum tries (done + 1)) (cases_lt (two_f * 10 ^ 9 * 2 ^ done) (sum * constant_of 0))
  where
    by : (((fewer : ℕ) → fewer < done + 1 → StaysBelow two_f sum 0 fewer) → ComesTo two_f sum 0 (done + 1 + tries) → (doublings : ℕ) × IsFewest two_f sum doublings) →
        StaysBelow two_f sum 0 done ⊎ ComesTo two_f sum 0 done → (doublings : ℕ) × IsFewest two_f sum doublings
    by more (inl less) =
        let next : done + suc tries ≡ done + 1 + tries = omega arith in
        more
        (λ fewer l. elim (cases_lt fewer done) [ inl before ↦ below fewer before | inr last ↦ let same : done ≡ fewer = omega arith in subst (λ (n : ℕ). StaysBelow two_f sum 0 n) same less ])
        (subst (λ (n : ℕ). ComesTo two_f sum 0 n) next enough)
    by more (inr here) = (done, record { enough = here; fewest = below })

-- ## The most sixteenths that it comes up to then

record IsMost (two_f sum doublings sixteenths : ℕ) : Type 0 where
  pub within : sixteenths < 16
  pub enough : ComesTo two_f sum sixteenths doublings
  pub most : (more : ℕ) → sixteenths < more → more < 16 → StaysBelow two_f sum more doublings

most : (two_f sum doublings sixteenths : ℕ) → sixteenths < 16 → ((more : ℕ) → sixteenths < more → more < 16 → StaysBelow two_f sum more doublings) → ComesTo two_f sum 0 doublings →
    (found : ℕ) × IsMost two_f sum doublings found
most two_f sum doublings zero within above enough = (0, record { within = within; enough = enough; most = above })
most two_f sum doublings (suc fewer) within above enough = by (most two_f sum doublings fewer) (cases_lt (two_f * 10 ^ 9 * 2 ^ doublings) (sum * constant_of (suc fewer)))
  where
    by : (fewer < 16 → ((more : ℕ) → fewer < more → more < 16 → StaysBelow two_f sum more doublings) → ComesTo two_f sum 0 doublings → (found : ℕ) × IsMost two_f sum doublings found) →
        StaysBelow two_f sum (suc fewer) doublings ⊎ ComesTo two_f sum (suc fewer) doublings → (found : ℕ) × IsMost two_f sum doublings found
    by others (inl less) =
        others (omega arith)
        (λ more l m. elim (cases_lt (suc fewer) more) [ inl past ↦ above more past m | inr last ↦ let same : suc fewer ≡ more = omega arith in subst (λ (n : ℕ). StaysBelow two_f sum n doublings) same less ])
        enough
    by others (inr here) = (suc fewer, record { within = within; enough = here; most = above })

-- ## The score

doubled : (n : ℕ) → n ≤ 2 ^ n
doubled zero = omega arith
doubled (suc n) =
    let one : suc n ≡ n + 1 = omega arith in
    let twice : 2 ^ (n + 1) ≡ 2 ^ n * 2 ^ 1 = pow-add 2 n 1 in
    let some : 1 ≤ 2 ^ n = one-le-pow n 2 (omega arith) in
    let least : n ≤ 2 ^ n = doubled n in
    let more : n + 1 ≤ 2 ^ (n + 1) = omega (arith, twice, some, least) in
    subst (λ (m : ℕ). m ≤ 2 ^ m) (sym one) more

comes_to : (two_f sum : ℕ) → 0 < two_f → ComesTo two_f sum 0 sum
comes_to two_f sum some =
    let one : sum * 10 ^ 9 ≤ 2 ^ sum * 10 ^ 9 = mul-le-mul_right (10 ^ 9) (doubled sum) in
    let two : 1 * (10 ^ 9 * 2 ^ sum) ≤ two_f * (10 ^ 9 * 2 ^ sum) = mul-le-mul_right (10 ^ 9 * 2 ^ sum) some in
    omega (arith, one, two)

is_score : (two_f sum doublings sixteenths : ℕ) (score : ℤ) → score +ℤ pos (16 * doublings) ≡ pos (16 * 14 + sixteenths) → IsFewest two_f sum doublings → IsMost two_f sum doublings sixteenths → IsScore two_f sum score
is_score two_f sum doublings sixteenths score is few much = record {
  reached = record { doublings = doublings; sixteenths = sixteenths; constant = constant_of sixteenths; is = is; within = much.within; rounded = in_table sixteenths much.within; enough = much.enough };
  greatest = λ other r. by_lt_z score other
      (λ more.
      let order : 16 * r.doublings + sixteenths < 16 * doublings + r.sixteenths = omega (arith, ints, r.is) in
      elim (cases_lt r.doublings doublings) [
        | inl fewer ↦
            let least : constant_of 0 ≤ r.constant = rises 0 r.sixteenths (constant_of 0) r.constant (omega arith) (in_table 0 (omega arith)) r.rounded in
            let p : sum * constant_of 0 ≤ sum * r.constant = mul-le-mul_left sum least in
            absurd (omega (arith, p, few.fewest r.doublings fewer, r.enough))
        | inr as_many ↦
            let same : r.doublings ≡ doublings = omega (arith, r.within) in
            let own : constant_of r.sixteenths ≤ r.constant = rises r.sixteenths r.sixteenths (constant_of r.sixteenths) r.constant (omega arith) (in_table r.sixteenths r.within) r.rounded in
            let p : sum * constant_of r.sixteenths ≤ sum * r.constant = mul-le-mul_left sum own in
            let q : two_f * 10 ^ 9 * 2 ^ r.doublings ≡ two_f * 10 ^ 9 * 2 ^ doublings = ap (λ n. two_f * 10 ^ 9 * 2 ^ n) same in
            absurd (omega (arith, p, q, r.enough, much.most r.sixteenths (omega arith) r.within))
      ])
      (λ h. h);
}

pub a_score : (two_f sum : ℕ) → 0 < two_f → (score : ℤ) × IsScore two_f sum score
a_score two_f sum some =
    let (doublings, few) = fewest two_f sum sum 0 (λ fewer l. absurd (omega arith)) (let same : sum ≡ 0 + sum = omega arith in subst (λ (n : ℕ). ComesTo two_f sum 0 n) same (comes_to two_f sum some)) in
    let (sixteenths, much) = most two_f sum doublings 15 (omega arith) (λ more l m. absurd (omega arith)) few.enough in
    let score : ℤ = pos (16 * 14 + sixteenths) -ℤ pos (16 * doublings) in
    (score, is_score two_f sum doublings sixteenths score (omega (arith, ints)) few much)
