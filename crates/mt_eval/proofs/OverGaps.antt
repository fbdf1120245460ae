-- What tests of tokens with one gap among them match.
use Rattle.std.proofs.Common.{◌≡◌, ℕ, zero, suc, ◌+◌, ◌-◌, ◌<◌, ◌≤◌, inl, inr, List, [], ◌∷◌, ◌++◌, length, take, drop, get_or, refl, sym, ◌∙◌, ap, subst, arith}
use Rattle.std.specs.List.{All, AllZip}
use Rattle.std.proofs.lemmas.List.{length-append, length-drop, append_assoc, take_all}
use Rattle.std.proofs.lemmas.List.Elements.{All-drop, All-get_or, All-take}
use Rattle.mt_text_spec.specs.Queries as q
use Rattle.mt_query_spec.specs.Contents.{token_tests}
use Rattle.mt_match_spec.specs.Labels.{no_labels, labelled, united}
use Rattle.mt_match_spec.specs.Matches as m
use Rattle.mt_eval.specs.Sequences.{IsSequence, labels_from}
use Rattle.mt_segment_spec.specs.Tables.{Tables}
use Rattle.mt_prepare.specs.Resolved.{Resolves}
use Rattle.mt_prepare.specs.TestRows.{HasAttrs}
use Rattle.mt_prepare.specs.declared.resolved.Resolved.{Resolved}
use Rattle.mt_eval.specs.Every.{IsUnlabelled}
use Rattle.mt_eval.specs.Gapped.{AreTestsAround, HasGap, IsGapped, IsTurn, labels_over, width_over}
use Rattle.mt_eval.proofs.Exprs.{same_count}
use Rattle.mt_eval.proofs.Sequenced.{HoldFrom, hold_both, hold_left, hold_right, matched, matches}
use Rattle.mt_eval.proofs.Unions.{nine_none, united_assoc, united_length, labelled_length}

-- ---- sequences have no gap

pub same_width : (expr : q.Expr) → IsSequence expr → (turns : ℕ) → width_over expr turns ≡ length (token_tests expr)
same_width (q.TokenTest label test) is turns = refl
same_width (q.Begin kind test) is turns = absurd is
same_width (q.End kind) is turns = absurd is
same_width (q.Whole kind test) is turns = absurd is
same_width (q.Seq left right) is turns =
    let long = length-append (token_tests left) (token_tests right) in
    let a = same_width left is.0 turns in
    let b = same_width right is.1 turns in
    omega (arith, long, a, b)
same_width (q.Choice left right) is turns = absurd is
same_width (q.Repeat inner least most) is turns = absurd is

same_labels : (expr : q.Expr) → IsSequence expr → (turns begin : ℕ) → labels_over expr turns begin ≡ labels_from expr begin
same_labels (q.TokenTest label test) is turns begin = refl
same_labels (q.Begin kind test) is turns begin = absurd is
same_labels (q.End kind) is turns begin = absurd is
same_labels (q.Whole kind test) is turns begin = absurd is
same_labels (q.Seq left right) is turns begin =
    ap (λ l. united l (labels_over right turns (begin + width_over left turns))) (same_labels left is.0 turns begin)
    ∙ ap (united (labels_from left begin)) (same_labels right is.1 turns (begin + width_over left turns))
    ∙ ap (λ (n : ℕ). united (labels_from left begin) (labels_from right (begin + n))) (same_width left is.0 turns)
same_labels (q.Choice left right) is turns begin = absurd is
same_labels (q.Repeat inner least most) is turns begin = absurd is

-- ---- the parts of an expression with a gap

turn_tests : (inner : q.Expr) (gap : q.Test) → IsTurn inner gap → token_tests inner ≡ gap ∷ []
turn_tests (q.TokenTest label test) gap is = ap (λ (t : q.Test). t ∷ []) is.1
turn_tests (q.Begin kind test) gap is = absurd is
turn_tests (q.End kind) gap is = absurd is
turn_tests (q.Whole kind test) gap is = absurd is
turn_tests (q.Seq left right) gap is = absurd is
turn_tests (q.Choice left right) gap is = absurd is
turn_tests (q.Repeat inner least most) gap is = absurd is

pub whole : (expr : q.Expr) (heads : List q.Test) (gap : q.Test) (tails : List q.Test) (least most : ℕ) → IsGapped expr heads gap tails least most → token_tests expr ≡ heads ++ gap ∷ tails
whole (q.TokenTest label test) heads gap tails least most is = absurd is
whole (q.Begin kind test) heads gap tails least most is = absurd is
whole (q.End kind) heads gap tails least most is = absurd is
whole (q.Whole kind test) heads gap tails least most is = absurd is
whole (q.Seq left right) heads gap tails least most (inl (is, rest, part, end)) =
    ap (λ (ts : List q.Test). ts ++ token_tests right) (whole left heads gap rest least most part)
    ∙ append_assoc heads (gap ∷ rest) (token_tests right)
    ∙ ap (λ (ts : List q.Test). heads ++ gap ∷ ts) (sym end)
whole (q.Seq left right) heads gap tails least most (inr (is, rest, part, front)) =
    ap (λ (ts : List q.Test). token_tests left ++ ts) (whole right rest gap tails least most part)
    ∙ sym (append_assoc (token_tests left) rest (gap ∷ tails))
    ∙ ap (λ (ts : List q.Test). ts ++ gap ∷ tails) (sym front)
whole (q.Choice left right) heads gap tails least most is = absurd is
whole (q.Repeat inner low high) heads gap tails least most is =
    turn_tests inner gap is.0 ∙ ap (λ (ts : List q.Test). ts ++ gap ∷ []) (sym is.1) ∙ ap (λ (ts : List q.Test). heads ++ gap ∷ ts) (sym is.2)

pub wide : (expr : q.Expr) (heads : List q.Test) (gap : q.Test) (tails : List q.Test) (least most turns : ℕ) → IsGapped expr heads gap tails least most → width_over expr turns ≡ length heads + turns + length tails
wide (q.TokenTest label test) heads gap tails least most turns is = absurd is
wide (q.Begin kind test) heads gap tails least most turns is = absurd is
wide (q.End kind) heads gap tails least most turns is = absurd is
wide (q.Whole kind test) heads gap tails least most turns is = absurd is
wide (q.Seq left right) heads gap tails least most turns (inl (is, rest, part, end)) =
    let a = wide left heads gap rest least most turns part in
    let b = same_width right is turns in
    let c = ap length end in
    let d = length-append rest (token_tests right) in
    omega (arith, a, b, c, d)
wide (q.Seq left right) heads gap tails least most turns (inr (is, rest, part, front)) =
    let a = wide right rest gap tails least most turns part in
    let b = same_width left is turns in
    let c = ap length front in
    let d = length-append (token_tests left) rest in
    omega (arith, a, b, c, d)
wide (q.Choice left right) heads gap tails least most turns is = absurd is
wide (q.Repeat inner low high) heads gap tails least most turns is =
    let a = ap length is.1 in
    let b = ap length is.2 in
    omega (arith, a, b)

-- ---- turns of one test

-- a test holds of so many tokens from a place on
abbrev pub HoldsOver : m.Sight → q.Test → (begin turns : ℕ) → Type 0
HoldsOver s test begin turns = (n : ℕ) → n < turns → (begin + n < s.tokens) × s.holds test (begin + n)

pub record IsTurned (s : m.Sight) (test : q.Test) (turns begin end : ℕ) (labels : List ℕ) : Type 0 where
  pub end_is : end ≡ begin + turns
  pub labels_are : labels ≡ no_labels
  pub hold : HoldsOver s test begin turns

first_holds : (s : m.Sight) (test : q.Test) (begin turns : ℕ) → begin < s.tokens → s.holds test begin → HoldsOver s test (begin + 1) turns → HoldsOver s test begin (suc turns)
first_holds s test begin turns inside one more zero h =
    (omega (arith, inside), subst (λ (p : ℕ). s.holds test p) (let e : begin ≡ begin + 0 = omega arith in e) one)
first_holds s test begin turns inside one more (suc n) h =
    let e : begin + 1 + n ≡ begin + suc n = omega arith in
    let x = more n (omega (arith, h)) in
    (omega (arith, e, x.0), subst (λ (p : ℕ). s.holds test p) e x.1)

no_labels_twice : (some others : List ℕ) → some ≡ no_labels → others ≡ no_labels → united some others ≡ no_labels
no_labels_twice some others a b = ap (λ l. united l others) a ∙ ap (united no_labels) b ∙ nine_none no_labels refl

turned : (s : m.Sight) (label : ℕ) (test : q.Test) → label ≡ 0 → (turns begin end : ℕ) (labels : List ℕ) → m.Turns (m.IsToken s label test) turns begin end labels → IsTurned s test turns begin end labels
turned s label test none zero begin end labels t = let same = t.0 in record { end_is = omega (arith, same); labels_are = t.1; hold = λ n h. absurd (omega (arith, h)) }
turned s label test none (suc turns) begin end labels t =
    let x = t.first in
    let y = turned s label test none turns t.cut end t.second_labels t.second in
    let cut = x.end_is in
    let last = y.end_is in
    record {
      end_is = omega (arith, cut, last);
      labels_are = t.unite ∙ no_labels_twice t.first_labels t.second_labels (x.labels_are ∙ ap (λ (l : ℕ). labelled l begin) none) y.labels_are;
      hold = first_holds s test begin turns x.inside x.holds (subst (λ (p : ℕ). HoldsOver s test p turns) cut y.hold);
    }

later_holds : (s : m.Sight) (test : q.Test) (begin turns : ℕ) → HoldsOver s test begin (suc turns) → HoldsOver s test (begin + 1) turns
later_holds s test begin turns h n l =
    let e : begin + suc n ≡ begin + 1 + n = omega arith in
    let x = h (suc n) (omega (arith, l)) in
    (omega (arith, e, x.0), subst (λ (p : ℕ). s.holds test p) e x.1)

turns_of : (s : m.Sight) (label : ℕ) (test : q.Test) → label ≡ 0 → (turns begin : ℕ) → HoldsOver s test begin turns → m.Turns (m.IsToken s label test) turns begin (begin + turns) no_labels
turns_of s label test none zero begin h = ((let e : begin ≡ begin + 0 = omega arith in e), refl)
turns_of s label test none (suc turns) begin h =
    let one = h 0 (omega arith) in
    let e : begin + 0 ≡ begin = omega arith in
    let to : begin + 1 + turns ≡ begin + suc turns = omega arith in
    record {
      cut = begin + 1;
      first_labels = no_labels;
      second_labels = no_labels;
      first = record { inside = omega (arith, e, one.0); holds = subst (λ (p : ℕ). s.holds test p) e one.1; end_is = refl; labels_are = ap (λ (l : ℕ). labelled l begin) (sym none) };
      second = subst (λ (end : ℕ). m.Turns (m.IsToken s label test) turns (begin + 1) end no_labels) to (turns_of s label test none turns (begin + 1) (later_holds s test begin turns h));
      unite = sym (no_labels_twice no_labels no_labels refl refl);
    }

inner_turned : (s : m.Sight) (inner : q.Expr) (gap : q.Test) → IsTurn inner gap → (turns begin end : ℕ) (labels : List ℕ) → m.Turns (m.Matches s inner) turns begin end labels → IsTurned s gap turns begin end labels
inner_turned s (q.TokenTest label test) gap is turns begin end labels t = subst (λ (g : q.Test). IsTurned s g turns begin end labels) is.1 (turned s label test is.0 turns begin end labels t)
inner_turned s (q.Begin kind test) gap is turns begin end labels t = absurd is
inner_turned s (q.End kind) gap is turns begin end labels t = absurd is
inner_turned s (q.Whole kind test) gap is turns begin end labels t = absurd is
inner_turned s (q.Seq left right) gap is turns begin end labels t = absurd is
inner_turned s (q.Choice left right) gap is turns begin end labels t = absurd is
inner_turned s (q.Repeat inner least most) gap is turns begin end labels t = absurd is

inner_turns : (s : m.Sight) (inner : q.Expr) (gap : q.Test) → IsTurn inner gap → (turns begin : ℕ) → HoldsOver s gap begin turns → m.Turns (m.Matches s inner) turns begin (begin + turns) no_labels
inner_turns s (q.TokenTest label test) gap is turns begin h = turns_of s label test is.0 turns begin (subst (λ (g : q.Test). HoldsOver s g begin turns) (sym is.1) h)
inner_turns s (q.Begin kind test) gap is turns begin h = absurd is
inner_turns s (q.End kind) gap is turns begin h = absurd is
inner_turns s (q.Whole kind test) gap is turns begin h = absurd is
inner_turns s (q.Seq left right) gap is turns begin h = absurd is
inner_turns s (q.Choice left right) gap is turns begin h = absurd is
inner_turns s (q.Repeat inner least most) gap is turns begin h = absurd is

-- ---- matches

-- the tests before the gap hold from a place on, that of the gap holds of so many tokens behind them, and the tests behind the gap hold from there on
pub record HoldOver (s : m.Sight) (heads : List q.Test) (gap : q.Test) (tails : List q.Test) (begin turns : ℕ) : Type 0 where
  pub head : HoldFrom s heads begin
  pub middle : HoldsOver s gap (begin + length heads) turns
  pub tail : HoldFrom s tails (begin + length heads + turns)

pub record IsMatchedOver (s : m.Sight) (expr : q.Expr) (heads : List q.Test) (gap : q.Test) (tails : List q.Test) (least most begin end : ℕ) (labels : List ℕ) : Type 0 where
  pub turns : ℕ
  pub low : least ≤ turns
  pub high : turns ≤ most
  pub hold : HoldOver s heads gap tails begin turns
  pub end_is : end ≡ begin + (length heads + turns + length tails)
  pub labels_are : labels ≡ labels_over expr turns begin

behind_gap : (s : m.Sight) (heads : List q.Test) (gap : q.Test) (rest more tails : List q.Test) (begin turns : ℕ) → tails ≡ rest ++ more → HoldOver s heads gap rest begin turns → HoldFrom s more (begin + (length heads + turns + length rest)) →
    HoldOver s heads gap tails begin turns
behind_gap s heads gap rest more tails begin turns e h t =
    let at : begin + (length heads + turns + length rest) ≡ begin + length heads + turns + length rest = omega arith in
    record {
      head = h.head;
      middle = h.middle;
      tail = subst (λ (ts : List q.Test). HoldFrom s ts (begin + length heads + turns)) (sym e) (hold_both s rest more (begin + length heads + turns) h.tail (subst (HoldFrom s more) at t));
    }

before_gap : (s : m.Sight) (heads : List q.Test) (gap : q.Test) (tails first rest : List q.Test) (begin turns : ℕ) → heads ≡ first ++ rest → HoldFrom s first begin → HoldOver s rest gap tails (begin + length first) turns → HoldOver s heads gap tails begin turns
before_gap s heads gap tails first rest begin turns e f h =
    let long = ap length e in
    let both = length-append first rest in
    let at : begin + length first + length rest ≡ begin + length heads = omega (arith, long, both) in
    let behind : begin + length first + length rest + turns ≡ begin + length heads + turns = omega (arith, long, both) in
    record {
      head = subst (λ (ts : List q.Test). HoldFrom s ts begin) (sym e) (hold_both s first rest begin f h.head);
      middle = subst (λ (p : ℕ). HoldsOver s gap p turns) at h.middle;
      tail = subst (HoldFrom s tails) behind h.tail;
    }

pub matched_over : (s : m.Sight) (expr : q.Expr) (heads : List q.Test) (gap : q.Test) (tails : List q.Test) (least most : ℕ) → IsGapped expr heads gap tails least most → (begin end : ℕ) (labels : List ℕ) → m.Matches s expr begin end labels →
    IsMatchedOver s expr heads gap tails least most begin end labels
matched_over s (q.TokenTest label test) heads gap tails least most is begin end labels h = absurd is
matched_over s (q.Begin kind test) heads gap tails least most is begin end labels h = absurd is
matched_over s (q.End kind) heads gap tails least most is begin end labels h = absurd is
matched_over s (q.Whole kind test) heads gap tails least most is begin end labels h = absurd is
matched_over s (q.Seq left right) heads gap tails least most (inl (is, rest, part, e)) begin end labels h =
    let x = matched_over s left heads gap rest least most part begin h.cut h.first_labels h.first in
    let y = matched s right is h.cut end h.second_labels h.second in
    let cut = x.end_is in
    let last = y.end_is in
    let long = ap length e in
    let both = length-append rest (token_tests right) in
    let wide_is = wide left heads gap rest least most x.turns part in
    let at : h.cut ≡ begin + width_over left x.turns = omega (arith, cut, wide_is) in
    record {
      turns = x.turns;
      low = x.low;
      high = x.high;
      hold = behind_gap s heads gap rest (token_tests right) tails begin x.turns e x.hold (subst (HoldFrom s (token_tests right)) cut y.hold);
      end_is = omega (arith, cut, last, long, both);
      labels_are = h.unite ∙ ap (λ l. united l h.second_labels) x.labels_are
          ∙ ap (united (labels_over left x.turns begin)) (y.labels_are ∙ sym (same_labels right is x.turns h.cut) ∙ ap (labels_over right x.turns) at);
    }
matched_over s (q.Seq left right) heads gap tails least most (inr (is, rest, part, e)) begin end labels h =
    let x = matched s left is begin h.cut h.first_labels h.first in
    let y = matched_over s right rest gap tails least most part h.cut end h.second_labels h.second in
    let cut = x.end_is in
    let last = y.end_is in
    let long = ap length e in
    let both = length-append (token_tests left) rest in
    let wide_is = same_width left is y.turns in
    let at : h.cut ≡ begin + width_over left y.turns = omega (arith, cut, wide_is) in
    record {
      turns = y.turns;
      low = y.low;
      high = y.high;
      hold = before_gap s heads gap tails (token_tests left) rest begin y.turns e x.hold (subst (λ (p : ℕ). HoldOver s rest gap tails p y.turns) cut y.hold);
      end_is = omega (arith, cut, last, long, both);
      labels_are = h.unite ∙ ap (λ l. united l h.second_labels) (x.labels_are ∙ sym (same_labels left is y.turns begin))
          ∙ ap (united (labels_over left y.turns begin)) (y.labels_are ∙ ap (labels_over right y.turns) at);
    }
matched_over s (q.Choice left right) heads gap tails least most is begin end labels h = absurd is
matched_over s (q.Repeat inner low high) heads gap tails least most is begin end labels h =
    let x = inner_turned s inner gap is.0 h.count begin end labels h.turns in
    let none_before = ap length is.1 in
    let none_behind = ap length is.2 in
    let from = is.3 in
    let to = is.4 in
    let l = h.low in
    let g = h.high in
    let last = x.end_is in
    let at : begin ≡ begin + length heads = omega (arith, none_before) in
    record {
      turns = h.count;
      low = omega (arith, l, from);
      high = omega (arith, g, to);
      hold = record {
        head = subst (λ (ts : List q.Test). HoldFrom s ts begin) (sym is.1) tt;
        middle = subst (λ (p : ℕ). HoldsOver s gap p h.count) at x.hold;
        tail = subst (λ (ts : List q.Test). HoldFrom s ts (begin + length heads + h.count)) (sym is.2) tt;
      };
      end_is = omega (arith, last, none_before, none_behind);
      labels_are = x.labels_are;
    }

pub matches_over : (s : m.Sight) (expr : q.Expr) (heads : List q.Test) (gap : q.Test) (tails : List q.Test) (least most : ℕ) → IsGapped expr heads gap tails least most → (begin turns : ℕ) → least ≤ turns → turns ≤ most → HoldOver s heads gap tails begin turns →
    m.Matches s expr begin (begin + width_over expr turns) (labels_over expr turns begin)
matches_over s (q.TokenTest label test) heads gap tails least most is begin turns low high h = absurd is
matches_over s (q.Begin kind test) heads gap tails least most is begin turns low high h = absurd is
matches_over s (q.End kind) heads gap tails least most is begin turns low high h = absurd is
matches_over s (q.Whole kind test) heads gap tails least most is begin turns low high h = absurd is
matches_over s (q.Seq left right) heads gap tails least most (inl (is, rest, part, e)) begin turns low high h =
    let cut = begin + width_over left turns in
    let wide_is = wide left heads gap rest least most turns part in
    let tail = subst (λ (ts : List q.Test). HoldFrom s ts (begin + length heads + turns)) e h.tail in
    let at : begin + length heads + turns + length rest ≡ cut = omega (arith, wide_is) in
    let more = same_width right is turns in
    let to : cut + length (token_tests right) ≡ begin + (width_over left turns + width_over right turns) = omega (arith, more) in
    record {
      cut = cut;
      first_labels = labels_over left turns begin;
      second_labels = labels_over right turns cut;
      first = matches_over s left heads gap rest least most part begin turns low high (record { head = h.head; middle = h.middle; tail = hold_left s rest (token_tests right) (begin + length heads + turns) tail });
      second = subst (m.Matches s right cut (begin + (width_over left turns + width_over right turns))) (sym (same_labels right is turns cut))
          (subst (λ (end : ℕ). m.Matches s right cut end (labels_from right cut)) to (matches s right is cut (subst (HoldFrom s (token_tests right)) at (hold_right s rest (token_tests right) (begin + length heads + turns) tail))));
      unite = refl;
    }
matches_over s (q.Seq left right) heads gap tails least most (inr (is, rest, part, e)) begin turns low high h =
    let cut = begin + width_over left turns in
    let wide_is = same_width left is turns in
    let head = subst (λ (ts : List q.Test). HoldFrom s ts begin) e h.head in
    let long = ap length e in
    let both = length-append (token_tests left) rest in
    let here : begin + length (token_tests left) ≡ cut = omega (arith, wide_is) in
    let at : begin + length heads ≡ cut + length rest = omega (arith, long, both, wide_is) in
    let to : cut + width_over right turns ≡ begin + (width_over left turns + width_over right turns) = omega arith in
    record {
      cut = cut;
      first_labels = labels_over left turns begin;
      second_labels = labels_over right turns cut;
      first = subst (m.Matches s left begin cut) (sym (same_labels left is turns begin))
          (subst (λ (end : ℕ). m.Matches s left begin end (labels_from left begin)) here (matches s left is begin (hold_left s (token_tests left) rest begin head)));
      second = subst (λ (end : ℕ). m.Matches s right cut end (labels_over right turns cut)) to
          (matches_over s right rest gap tails least most part cut turns low high (record {
            head = subst (HoldFrom s rest) here (hold_right s (token_tests left) rest begin head);
            middle = subst (λ (p : ℕ). HoldsOver s gap p turns) at h.middle;
            tail = subst (λ (p : ℕ). HoldFrom s tails (p + turns)) at h.tail;
          }));
      unite = refl;
    }
matches_over s (q.Choice left right) heads gap tails least most is begin turns low high h = absurd is
matches_over s (q.Repeat inner from to) heads gap tails least most is begin turns low high h =
    let none_before = ap length is.1 in
    let a = is.3 in
    let b = is.4 in
    let at : begin + length heads ≡ begin = omega (arith, none_before) in
    record {
      count = turns;
      low = omega (arith, low, a);
      high = omega (arith, high, b);
      turns = inner_turns s inner gap is.0 turns begin (subst (λ (p : ℕ). HoldsOver s gap p turns) at h.middle);
    }

-- ---- labels

pub nine_over : (expr : q.Expr) (turns begin : ℕ) → length (labels_over expr turns begin) ≡ 9
nine_over (q.TokenTest label test) turns begin = labelled_length label begin
nine_over (q.Begin kind test) turns begin = refl
nine_over (q.End kind) turns begin = refl
nine_over (q.Whole kind test) turns begin = refl
nine_over (q.Seq left right) turns begin = united_length (labels_over left turns begin) (labels_over right turns (begin + width_over left turns)) ∙ nine_over left turns begin
nine_over (q.Choice left right) turns begin = refl
nine_over (q.Repeat inner least most) turns begin = refl

-- the labels of one part, and then of another
pub both_over : (left right : q.Expr) (turns begin cut : ℕ) (old middle new : List ℕ) → length old ≡ 9 → cut ≡ begin + width_over left turns → middle ≡ united old (labels_over left turns begin) →
    new ≡ united middle (labels_over right turns cut) → new ≡ united old (labels_over (q.Seq left right) turns begin)
both_over left right turns begin cut old middle new nine at first second =
    second ∙ ap (λ l. united l (labels_over right turns cut)) first
    ∙ united_assoc old (labels_over left turns begin) (labels_over right turns cut) (nine ∙ sym (nine_over left turns begin))
    ∙ ap (λ c. united old (united (labels_over left turns begin) (labels_over right turns c))) at

-- ---- gaps that are found

pub in_left : (left right : q.Expr) (before least most : ℕ) → IsSequence right → HasGap left before least most → HasGap (q.Seq left right) before least most
in_left left right before least most is has =
    let tails = has.tails ++ token_tests right in
    let part : IsGapped (q.Seq left right) has.heads has.gap tails least most = inl (is, has.tails, has.is, refl) in
    record { heads = has.heads; gap = has.gap; tails = tails; is = part; count = has.count; whole = whole (q.Seq left right) has.heads has.gap tails least most part }

pub in_right : (left right : q.Expr) (before least most whole_before : ℕ) → IsSequence left → HasGap right before least most → whole_before ≡ length (token_tests left) + before → HasGap (q.Seq left right) whole_before least most
in_right left right before least most many is has e =
    let heads = token_tests left ++ has.heads in
    let part : IsGapped (q.Seq left right) heads has.gap has.tails least most = inr (is, has.heads, has.is, refl) in
    let long = length-append (token_tests left) has.heads in
    let count = has.count in
    record { heads = heads; gap = has.gap; tails = has.tails; is = part; count = omega (arith, long, count, e); whole = whole (q.Seq left right) heads has.gap has.tails least most part }

pub is_gap : (inner : q.Expr) (least most : ℕ) → IsUnlabelled inner → HasGap (q.Repeat inner least most) 0 least most
is_gap (q.TokenTest label test) least most is =
    let part : IsGapped (q.Repeat (q.TokenTest label test) least most) [] test [] least most = ((is, refl), refl, refl, refl, refl) in
    record { heads = []; gap = test; tails = []; is = part; count = refl; whole = refl }
is_gap (q.Begin kind test) least most is = absurd is
is_gap (q.End kind) least most is = absurd is
is_gap (q.Whole kind test) least most is = absurd is
is_gap (q.Seq left right) least most is = absurd is
is_gap (q.Choice left right) least most is = absurd is
is_gap (q.Repeat inner low high) least most is = absurd is

-- ---- the tests around a gap, resolved

record Parts {X Y : Type 0} (R : X → Y → Type 0) (heads : List X) (gap : X) (tails : List X) (all : List Y) (d : Y) : Type 0 where
  heads_are : AllZip R heads (take (length heads) all)
  gap_is : R gap (get_or all (length heads) d)
  tails_are : AllZip R tails (drop (suc (length heads)) all)

parted : {X Y : Type 0} (R : X → Y → Type 0) (heads : List X) (gap : X) (tails : List X) (all : List Y) (d : Y) → AllZip R (heads ++ gap ∷ tails) all → Parts R heads gap tails all d
parted R [] gap tails [] d zip = absurd zip
parted R [] gap tails (y ∷ ys) d zip = record { heads_are = tt; gap_is = zip.0; tails_are = zip.1 }
parted R (x ∷ heads) gap tails [] d zip = absurd zip
parted R (x ∷ heads) gap tails (y ∷ ys) d zip = let rest = parted R heads gap tails ys d zip.1 in record { heads_are = (zip.0, rest.heads_are); gap_is = rest.gap_is; tails_are = rest.tails_are }

pub tests_around : (tables : Tables) (expr : q.Expr) (tests : List Resolved) (number least most : ℕ) (d : Resolved) → HasGap expr number least most → AllZip (Resolves tables) (token_tests expr) tests → All (HasAttrs tables) tests →
    AreTestsAround tables expr (take number tests) (get_or tests number d) (take (length tests - (number + 1)) (drop (number + 1) tests)) least most
tests_around tables expr tests number least most d has zip attrs =
    let p = parted (Resolves tables) has.heads has.gap has.tails tests d (subst (λ (ts : List q.Test). AllZip (Resolves tables) ts tests) has.whole zip) in
    let count = has.count in
    let long = length-append has.heads (has.gap ∷ has.tails) in
    let same = ap length has.whole in
    let many = same_count (Resolves tables) (token_tests expr) tests zip in
    let next : suc (length has.heads) ≡ number + 1 = omega (arith, count) in
    let short = length-drop (number + 1) tests in
    let rest : drop (number + 1) tests ≡ take (length tests - (number + 1)) (drop (number + 1) tests) = sym (take_all (length tests - (number + 1)) (drop (number + 1) tests) (omega (arith, short))) in
    record {
      heads = has.heads;
      test = has.gap;
      tails = has.tails;
      is = has.is;
      heads_are = subst (λ (n : ℕ). AllZip (Resolves tables) has.heads (take n tests)) count p.heads_are;
      test_is = subst (λ (n : ℕ). Resolves tables has.gap (get_or tests n d)) count p.gap_is;
      tails_are = subst (λ (ts : List Resolved). AllZip (Resolves tables) has.tails ts) (ap (λ (n : ℕ). drop n tests) next ∙ rest) p.tails_are;
      before_attrs = All-take (HasAttrs tables) number tests attrs;
      gap_attrs = All-get_or (HasAttrs tables) tests number d (omega (arith, count, long, same, many)) attrs;
      after_attrs = subst (λ (ts : List Resolved). All (HasAttrs tables) ts) rest (All-drop (HasAttrs tables) (number + 1) tests attrs);
    }
