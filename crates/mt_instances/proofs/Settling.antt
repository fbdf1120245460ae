-- A text is ended.
use Rattle.std.proofs.Common.{◌≡◌, ℕ, ◌+◌, ◌<◌, Bool, if◌then◌else◌, List, [], ◌∷◌, length, refl, sym, ap, subst, ◌∙◌}
use Rattle.std.specs.List.{All, Contains}
use Rattle.std.proofs.lemmas.List.Elements.{All-head, All-tail, All-contains, All-weaker, All-contains_itself, All-nil, All-same}
use Rattle.mt_count_spec.specs.Instances.{Instance, AtTwo, AtOne}
use Rattle.mt_count_spec.specs.Counts.{EachOnce}
use Rattle.mt_counts.specs.Totals.{total}
use Rattle.mt_counts.specs.Counted.{Counted}
use Rattle.mt_triples.specs.Tallied.{twos, ones}
use Rattle.mt_instances.specs.Members.{HaveSameItems}
use Rattle.mt_instances.specs.Named.{Named}
use Rattle.mt_instances.specs.Gains.{LiesIn}
use Rattle.mt_instances.specs.Filled.{AreFills}
use Rattle.mt_instances.specs.Gathered.{AreGathered, value_in}
use Rattle.mt_instances.specs.Counting.{AddsEach}
use Rattle.mt_instances.specs.Collected.{CountsEach}
use Rattle.mt_instances.specs.declared.gathering.Gathered.{Gathered}
use Rattle.mt_instances.proofs.Known.{gathered_more}

pub lie_settled : (places : ℕ) (xs ys : List Instance) → HaveSameItems xs ys → All (LiesIn places) xs → All (LiesIn places) ys
lie_settled places xs ys h all = All-weaker (Contains ys) (LiesIn places) (λ i c. All-contains (LiesIn places) xs i all (h.from i c)) ys (All-contains_itself ys)

-- its instances are taken away
pub emptied : (lexicon : List (List ℕ)) (numbers : List ℕ) (old : Gathered) (new : Named) → new.names ≡ old.instances.names → new.given ≡ [] → AreGathered lexicon numbers old → AreGathered lexicon numbers (record { instances = new; fills = old.fills })
emptied lexicon numbers old new e gone g = gathered_more lexicon numbers old new e (λ lie. All-same (LiesIn (length numbers)) new.given [] gone (All-nil (LiesIn (length numbers)))) g

-- and its places
pub ended : (lexicon : List (List ℕ)) (numbers none : List ℕ) (old : Gathered) (new : Named) → none ≡ [] → new.names ≡ old.instances.names → new.given ≡ [] → AreGathered lexicon numbers old → AreGathered lexicon none (record { instances = new; fills = old.fills })
ended lexicon numbers none old new empty e gone g = record {
  valued = All-same (λ (number : ℕ). number < length lexicon) none [] empty (All-nil (λ (number : ℕ). number < length lexicon));
  lie = All-same (LiesIn (length none)) new.given [] gone (All-nil (LiesIn (length none)));
  fills_are = subst (λ (names : List (List ℕ)). AreFills names lexicon old.fills) (sym e) g.fills_are;
}

-- ---- values that are the same where instances stand

module _ (values other : ℕ → List ℕ) (places : ℕ) (same : (place : ℕ) → place < places → other place ≡ values place) where
  twos_alike : (test : List ℕ × List ℕ × List ℕ → Bool) (all : List Instance) → All (LiesIn places) all → twos other test all ≡ twos values test all
  twos_alike test [] lie = refl
  twos_alike test (AtTwo name p q ∷ all) lie =
      let here = All-head (LiesIn places) (AtTwo name p q) all lie in
      let rest = twos_alike test all (All-tail (LiesIn places) (AtTwo name p q) all lie) in
      let first = same p here.0 in
      let second = same q here.1 in
      λ i. (if test (name, first i, second i) then 1 else 0) + rest i
  twos_alike test (AtOne name p ∷ all) lie = twos_alike test all (All-tail (LiesIn places) (AtOne name p) all lie)

  ones_alike : (test : List ℕ × List ℕ → Bool) (all : List Instance) → All (LiesIn places) all → ones other test all ≡ ones values test all
  ones_alike test [] lie = refl
  ones_alike test (AtTwo name p q ∷ all) lie = ones_alike test all (All-tail (LiesIn places) (AtTwo name p q) all lie)
  ones_alike test (AtOne name p ∷ all) lie =
      let here = All-head (LiesIn places) (AtOne name p) all lie in
      let rest = ones_alike test all (All-tail (LiesIn places) (AtOne name p) all lie) in
      let first = same p here in
      λ i. (if test (name, first i) then 1 else 0) + rest i

  adds_alike : (all : List Instance) (a b : Counted) → All (LiesIn places) all → AddsEach values all a b → AddsEach other all a b
  adds_alike all a b lie h = record {
    both = λ test. h.both test ∙ ap (λ (n : ℕ). total test a.both + n) (sym (twos_alike test all lie));
    first = λ test. h.first test ∙ ap (λ (n : ℕ). total test a.first + n) (sym (twos_alike (λ key. test (key.0, key.1)) all lie));
    second = λ test. h.second test ∙ ap (λ (n : ℕ). total test a.second + n) (sym (twos_alike (λ key. test (key.0, key.2)) all lie));
    alone = λ test. h.alone test ∙ ap (λ (n : ℕ). total test a.alone + n) (sym (ones_alike test all lie));
  }

pub counts_each : (lexicon : List (List ℕ)) (numbers : List ℕ) (given all : List Instance) (old new : Counted) → EachOnce all → HaveSameItems given all → All (LiesIn (length numbers)) given → AddsEach (value_in lexicon numbers) all old new → CountsEach lexicon numbers given old new
counts_each lexicon numbers given all old new once same lie adds = record {
  all = all;
  once = once;
  same = same;
  adds = λ values told. adds_alike (value_in lexicon numbers) values (length numbers) told all old new (lie_settled (length numbers) given all same lie) adds;
}
