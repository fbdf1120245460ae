use Rattle.std.proofs.Common.{ℕ, ◌≡◌, ◌+◌, ◌-◌, ◌*◌, ◌^◌, ◌<◌, ◌≤◌, [], ◌∷◌, drop, length, sym, ap, ◌∙◌, arith, refl, inl, inr}
use Rattle.std.proofs.lemmas.List.{length-drop, take_rest, nil_from_length}
use Rattle.std.proofs.lemmas.Bool.{cases_lt}
use Rattle.mt_store_spec.specs.Codes.{log2}
use Rattle.mt_store_spec.specs.Positions.{from_least}
use Rattle.mt_postings.proofs.Refusals.{log2_below}
use Rattle.mt_postings.proofs.Seeks.{from_least_is, looks}
use Rattle.mt_postings.proofs.numbers.Numbers.seek.Goals as goal

pub returns-in-Some-clause-given : goal.returns-in-Some-clause-given
returns-in-Some-clause-given g c =
    let left = c.self.inside.left.now in
    let whole : from_least c.args.least left ≡ drop c.search-at.result left = from_least_is c.args.least c.search-at.result left c.search-at.ensures.within c.search-at.ensures.below c.search-at.ensures.stop in
    let rest : drop c.search-at.result left ≡ c.in-Some.first.now ∷ c.in-Some.rest.now = sym (take_rest left c.search-at.result) ∙ c.in-Some.ensures.cases.0 in
    ap (from_least c.args.least) (sym c.self.view_is) ∙ whole ∙ rest

pub returns-in-None-clause-given : goal.returns-in-None-clause-given
returns-in-None-clause-given g c =
    let left = c.self.inside.left.now in
    let whole : from_least c.args.least left ≡ drop c.search-at.result left = from_least_is c.args.least c.search-at.result left c.search-at.ensures.within c.search-at.ensures.below c.search-at.ensures.stop in
    let none : drop c.search-at.result left ≡ [] = nil_from_length (drop c.search-at.result left) (ap length (sym (take_rest left c.search-at.result)) ∙ c.in-None.ensures.cases) in
    (ap (from_least c.args.least) (sym c.self.view_is) ∙ whole ∙ none, refl)

pub returns-in-None-clause-least_looks : goal.returns-in-None-clause-least_looks
returns-in-None-clause-least_looks g c =
    let p = c.gallop-low.ensures.looked in
    let s = c.search-at.ensures.least_looks in
    let k = c.gallop-low.ensures.least_looks in
    omega arith

-- the looks of the two searches together
cost : (old mid new low high n passed len : ℕ) → passed ≤ 128 → 2 ^ n ≡ low + 1 → old ≤ mid → mid ≤ old + n + 1 → mid ≤ new → 2 ^ (new - mid) ≤ 2 * (high - low) + 1 → high ≤ 2 * low → low ≤ passed → new ≤ old + (log2 (2 * len + 1) + 1 + 128)
cost old mid new low high n passed len few e a b c d h l =
    let k = looks low n (mid - old) (new - mid) passed e (omega arith) (omega arith) l in
    let m : log2 (passed + 1) < 8 = log2_below 8 (passed + 1) (omega arith) (omega arith) in
    omega arith

pub returns-in-Some-clause-most_looks : goal.returns-in-Some-clause-most_looks
returns-in-Some-clause-most_looks g c =
    let left = c.self.inside.left.now in
    let p = c.gallop-low.ensures.power in
    let m = c.min-high.ensures in
    let same : length left ≡ length c.args.self.now = ap length c.self.view_is in
    let rest : length (drop c.search-at.result left) ≡ length c.in-Some.rest.now + 1 = ap length (sym (take_rest left c.search-at.result) ∙ c.in-Some.ensures.cases.0) ∙ omega arith in
    let d = length-drop c.search-at.result left in
    let low : c.gallop-low.result ≤ c.search-at.result =
    elim (cases_lt c.search-at.result c.gallop-low.result) [
      | inl b ↦ let x = c.gallop-low.ensures.below c.search-at.result b in let y = c.search-at.ensures.stop (omega arith) in absurd (omega arith)
      | inr a ↦ a
    ] in
    cost c.args.steps.now c.gallop-low.new.steps c.search-at.new.steps c.gallop-low.result c.min-high.result p.0 (length c.args.self.now - length c.in-Some.rest.now) (length c.args.self.now) (let x = c.self.invariant.1 in omega arith) p.1 c.gallop-low.ensures.least_looks p.2 c.search-at.ensures.least_looks c.search-at.ensures.most_looks (omega arith) (omega arith)

pub returns-in-None-clause-most_looks : goal.returns-in-None-clause-most_looks
returns-in-None-clause-most_looks g c =
    let p = c.gallop-low.ensures.power in
    let m = c.min-high.ensures in
    let same : length c.self.inside.left.now ≡ length c.args.self.now = ap length c.self.view_is in
    let w = c.gallop-low.ensures.within in
    cost c.args.steps.now c.gallop-low.new.steps c.search-at.new.steps c.gallop-low.result c.min-high.result p.0 (length c.args.self.now - 0) (length c.args.self.now) (let x = c.self.invariant.1 in omega arith) p.1 c.gallop-low.ensures.least_looks p.2 c.search-at.ensures.least_looks c.search-at.ensures.most_looks (omega arith) (omega arith)
