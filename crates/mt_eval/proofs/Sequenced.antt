-- What a sequence of tests of tokens matches.
use Rattle.std.proofs.Common.{◌≡◌, ℕ, zero, suc, ◌+◌, ◌<◌, ◌≤◌, List, [], ◌∷◌, ◌++◌, length, refl, sym, ◌∙◌, ap, subst, arith}
use Rattle.std.specs.List.{AllZip}
use Rattle.std.proofs.lemmas.List.{length-append}
use Rattle.mt_text_spec.specs.Queries as q
use Rattle.mt_query_spec.specs.Contents.{token_tests}
use Rattle.mt_match_spec.specs.Labels.{united}
use Rattle.mt_match_spec.specs.Matches as m
use Rattle.mt_segment_spec.specs.Tables.{Tables, token_count}
use Rattle.mt_eval_spec.specs.Told.{HoldsAt}
use Rattle.mt_prepare.specs.declared.resolved.Resolved.{Resolved}
use Rattle.mt_prepare.specs.Resolved.{Resolves}
use Rattle.mt_prepare.specs.TestRows.{SaysAt}
use Rattle.mt_eval.specs.Sequences.{IsSequence, SayFrom, labels_from, test_at}

-- ---- tests of tokens one after another, from a place on

abbrev pub HoldFrom : m.Sight → List q.Test → ℕ → Type 0
HoldFrom s [] place = Unit {0}
HoldFrom s (test ∷ tests) place = (place < s.tokens) × s.holds test place × HoldFrom s tests (place + 1)

moved : (place n : ℕ) → place + suc n ≡ place + 1 + n
moved place n = omega arith

pub hold_both : (s : m.Sight) (a b : List q.Test) (place : ℕ) → HoldFrom s a place → HoldFrom s b (place + length a) → HoldFrom s (a ++ b) place
hold_both s [] b place x y = subst (HoldFrom s b) (let e : place + 0 ≡ place = omega arith in e) y
hold_both s (test ∷ a) b place x y = (x.0, x.1, hold_both s a b (place + 1) x.2 (subst (HoldFrom s b) (moved place (length a)) y))

pub hold_left : (s : m.Sight) (a b : List q.Test) (place : ℕ) → HoldFrom s (a ++ b) place → HoldFrom s a place
hold_left s [] b place x = tt
hold_left s (test ∷ a) b place x = (x.0, x.1, hold_left s a b (place + 1) x.2)

pub hold_right : (s : m.Sight) (a b : List q.Test) (place : ℕ) → HoldFrom s (a ++ b) place → HoldFrom s b (place + length a)
hold_right s [] b place x = subst (HoldFrom s b) (let e : place ≡ place + 0 = omega arith in e) x
hold_right s (test ∷ a) b place x = subst (HoldFrom s b) (sym (moved place (length a))) (hold_right s a b (place + 1) x.2)

-- ---- matches

pub record IsMatched (s : m.Sight) (expr : q.Expr) (begin end : ℕ) (labels : List ℕ) : Type 0 where
  pub end_is : end ≡ begin + length (token_tests expr)
  pub hold : HoldFrom s (token_tests expr) begin
  pub labels_are : labels ≡ labels_from expr begin

pub matched : (s : m.Sight) (expr : q.Expr) → IsSequence expr → (begin end : ℕ) (labels : List ℕ) → m.Matches s expr begin end labels → IsMatched s expr begin end labels
matched s (q.TokenTest label test) is begin end labels h = record { end_is = h.end_is; hold = (h.inside, h.holds, tt); labels_are = h.labels_are }
matched s (q.Begin kind test) is begin end labels h = absurd is
matched s (q.End kind) is begin end labels h = absurd is
matched s (q.Whole kind test) is begin end labels h = absurd is
matched s (q.Seq left right) is begin end labels h =
    let x = matched s left is.0 begin h.cut h.first_labels h.first in
    let y = matched s right is.1 h.cut end h.second_labels h.second in
    let long = length-append (token_tests left) (token_tests right) in
    let at = x.end_is in
    let to = y.end_is in
    record {
      end_is = omega (arith, long, at, to);
      hold = hold_both s (token_tests left) (token_tests right) begin x.hold (subst (HoldFrom s (token_tests right)) at y.hold);
      labels_are = h.unite ∙ ap (λ l. united l h.second_labels) x.labels_are ∙ ap (united (labels_from left begin)) y.labels_are ∙ ap (λ c. united (labels_from left begin) (labels_from right c)) at;
    }
matched s (q.Choice left right) is begin end labels h = absurd is
matched s (q.Repeat inner least most) is begin end labels h = absurd is

pub matches : (s : m.Sight) (expr : q.Expr) → IsSequence expr → (begin : ℕ) → HoldFrom s (token_tests expr) begin → m.Matches s expr begin (begin + length (token_tests expr)) (labels_from expr begin)
matches s (q.TokenTest label test) is begin h = record { inside = h.0; holds = h.1; end_is = refl; labels_are = refl }
matches s (q.Begin kind test) is begin h = absurd is
matches s (q.End kind) is begin h = absurd is
matches s (q.Whole kind test) is begin h = absurd is
matches s (q.Seq left right) is begin h =
    let cut = begin + length (token_tests left) in
    let long = length-append (token_tests left) (token_tests right) in
    let e : cut + length (token_tests right) ≡ begin + length (token_tests left ++ token_tests right) = omega (arith, long) in
    record {
      cut = cut;
      first_labels = labels_from left begin;
      second_labels = labels_from right cut;
      first = matches s left is.0 begin (hold_left s (token_tests left) (token_tests right) begin h);
      second = subst (λ (end : ℕ). m.Matches s right cut end (labels_from right cut)) e (matches s right is.1 cut (hold_right s (token_tests left) (token_tests right) begin h));
      unite = refl;
    }
matches s (q.Choice left right) is begin h = absurd is
matches s (q.Repeat inner least most) is begin h = absurd is

pub some_test : (expr : q.Expr) → IsSequence expr → 0 < length (token_tests expr)
some_test (q.TokenTest label test) is = omega arith
some_test (q.Begin kind test) is = absurd is
some_test (q.End kind) is = absurd is
some_test (q.Whole kind test) is = absurd is
some_test (q.Seq left right) is = let long = length-append (token_tests left) (token_tests right) in let some = some_test left is.0 in omega (arith, long, some)
some_test (q.Choice left right) is = absurd is
some_test (q.Repeat inner least most) is = absurd is

-- ---- what resolved tests say

say_rest : (tables : Tables) (test : Resolved) (tests : List Resolved) (place : ℕ) → SayFrom tables (test ∷ tests) 0 (length (test ∷ tests)) place → SayFrom tables tests 0 (length tests) (place + 1)
say_rest tables test tests place say = λ n l h. subst (SaysAt tables (test_at tests n)) (moved place n) (say (suc n) (omega arith) (omega (arith, h)))

pub say_hold : (s : m.Sight) (tables : Tables) (first : ℕ) → ((test : q.Test) (place : ℕ) → HoldsAt tables test (first + place) → s.holds test place) → first + s.tokens ≤ token_count tables →
    (tests : List q.Test) (by : List Resolved) (place : ℕ) → AllZip (Resolves tables) tests by → place + length by ≤ s.tokens → SayFrom tables by 0 (length by) (first + place) → HoldFrom s tests place
say_hold s tables first holds low [] [] place zip inside say = tt
say_hold s tables first holds low [] (r ∷ rs) place zip inside say = absurd zip
say_hold s tables first holds low (t ∷ ts) [] place zip inside say = absurd zip
say_hold s tables first holds low (t ∷ ts) (r ∷ rs) place zip inside say =
    let here : SaysAt tables r (first + place) = subst (SaysAt tables r) (let e : first + place + 0 ≡ first + place = omega arith in e) (say 0 (omega arith) (omega arith)) in
    let rest = subst (SayFrom tables rs 0 (length rs)) (let e : first + place + 1 ≡ first + (place + 1) = omega arith in e) (say_rest tables r rs (first + place) say) in (
      omega (arith, inside),
      holds t place ((zip.0 (first + place) (omega (arith, inside, low))).0 here),
      say_hold s tables first holds low ts rs (place + 1) zip.1 (omega (arith, inside)) rest,
    )

say_both : (tables : Tables) (test : Resolved) (tests : List Resolved) (place : ℕ) → SaysAt tables test place → SayFrom tables tests 0 (length tests) (place + 1) → SayFrom tables (test ∷ tests) 0 (length (test ∷ tests)) place
say_both tables test tests place one say zero l h = subst (SaysAt tables test) (let e : place ≡ place + 0 = omega arith in e) one
say_both tables test tests place one say (suc n) l h = subst (SaysAt tables (test_at tests n)) (let e : place + 1 + n ≡ place + suc n = omega arith in e) (say n (omega arith) (omega (arith, h)))

pub hold_say : (s : m.Sight) (tables : Tables) (first : ℕ) → ((test : q.Test) (place : ℕ) → s.holds test place → HoldsAt tables test (first + place)) → first + s.tokens ≤ token_count tables →
    (tests : List q.Test) (by : List Resolved) (place : ℕ) → AllZip (Resolves tables) tests by → HoldFrom s tests place → SayFrom tables by 0 (length by) (first + place)
hold_say s tables first holds low [] [] place zip hold = λ n l h. absurd (omega (arith, h))
hold_say s tables first holds low [] (r ∷ rs) place zip hold = absurd zip
hold_say s tables first holds low (t ∷ ts) [] place zip hold = absurd zip
hold_say s tables first holds low (t ∷ ts) (r ∷ rs) place zip hold =
    let inside = hold.0 in
    say_both tables r rs (first + place) ((zip.0 (first + place) (omega (arith, inside, low))).1 (holds t place hold.1))
    (subst (SayFrom tables rs 0 (length rs)) (let e : first + (place + 1) ≡ first + place + 1 = omega arith in e) (hold_say s tables first holds low ts rs (place + 1) zip.1 hold.2))
