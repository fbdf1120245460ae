-- Tokens and instances of single texts.
use Rattle.std.proofs.Common.{◌≡◌, ℕ, zero, suc, ◌+◌, ◌<◌, ◌≤◌, ◌==◌, List, [], ◌∷◌, length, map, take, get_or, slice_get, sum, true, Some, refl, sym, ◌∙◌, ap, subst, arith, inl, inr}
use Rattle.std.specs.List.{All, AllPairs, filter}
use Rattle.std.proofs.lemmas.List.{get_or-map}
use Rattle.std.proofs.lemmas.List.Elements.{All-filter, All-weaker, filter_passes}
use Rattle.std.proofs.lemmas.List.Kept.{AllPairs-filter}
use Rattle.std.proofs.lemmas.List.Sums.{sum-map, sum_by-cons}
use Rattle.std.proofs.lemmas.Bool.Decides.{nat_tests}
use Rattle.std.proofs.lemmas.Option.{slice_get_within, get_or_from_slice_get}
use Rattle.mt_text_spec.specs.Registries.{Registry}
use Rattle.mt_text_spec.specs.Texts.{ComesBefore, StructSpan, Text, ValidStructSpan, ValidText, tokens_of}
use Rattle.mt_segment_spec.specs.Tables.{heads_of, is_of_kind}
use Rattle.mt_segment_laws.specs.Laws.{AreInstancesIn, TokensStandInTexts, InstancesLieInTexts}
use Rattle.mt_segment_laws.proofs.Parts.{slice_get_left, slice_get_right}

-- ---- tokens

abbrev tokens_in : List ℕ × ℕ → ℕ
tokens_in head = head.1

stands : (corpus : List Text) (number token : ℕ) (text : Text) → slice_get corpus number ≡ Some text → token < length text.tokens →
    slice_get (tokens_of corpus) (sum (map tokens_in (take number (heads_of corpus))) + token) ≡ slice_get text.tokens token
stands [] number token text e l = cc
stands (first ∷ corpus) zero token text e l =
    let same : first ≡ text = cc in
    let long : length first.tokens ≡ length text.tokens = ap (λ (t : Text). length t.tokens) same in
    let none : 0 + token ≡ token = omega arith in
    ap (slice_get (tokens_of (first ∷ corpus))) none ∙ slice_get_left first.tokens (tokens_of corpus) token (omega (arith, long)) ∙ ap (λ (t : Text). slice_get t.tokens token) same
stands (first ∷ corpus) (suc number) token text e l =
    let heads = take number (heads_of corpus) in
    let before = sum (map tokens_in heads) in
    let all = sum (map tokens_in (take (suc number) (heads_of (first ∷ corpus)))) in
    let more : all + token ≡ length first.tokens + (before + token) =
    omega (arith, sum-map tokens_in ((first.name, length first.tokens) ∷ heads), sum_by-cons tokens_in (first.name, length first.tokens) heads, sum-map tokens_in heads) in
    ap (slice_get (tokens_of (first ∷ corpus))) more ∙ slice_get_right first.tokens (tokens_of corpus) (before + token) ∙ stands corpus number token text e l

pub tokens_stand : TokensStandInTexts
tokens_stand images registry corpus tables are number token text e l =
    ap (λ (heads : List (List ℕ × ℕ)). slice_get (tokens_of corpus) (sum (map tokens_in (take number heads)) + token)) are.texts ∙ stands corpus number token text e l

-- ---- instances

is_the_kind : (kind n : ℕ) → (n == kind) ≡ true → n ≡ kind
is_the_kind kind n e = grind (arith, nat_tests)

in_order : (kind : ℕ) (spans : List StructSpan) → AllPairs ComesBefore spans → All (λ span. span.kind ≡ kind) spans → AllPairs (λ (span later : StructSpan). span.end ≤ later.begin) spans
in_order kind spans pairs all = λ i j d b l. by i j d b l (pairs i j d b l)
  where
    by : (i j : ℕ) (d : StructSpan) → i < j → j < length spans → ComesBefore (get_or spans i d) (get_or spans j d) → (get_or spans i d).end ≤ (get_or spans j d).begin
    by i j d b l (inl low) = absurd (omega (arith, all i d (omega arith), all j d l))
    by i j d b l (inr (_, before)) = before

module _ (registry : Registry) (kind : ℕ) (text : Text) (valid : ValidText registry text) where
  instances : AreInstancesIn kind text (filter (is_of_kind kind) text.structs)
  instances =
      let kinds : All (λ (span : StructSpan). span.kind ≡ kind) (filter (is_of_kind kind) text.structs) =
      All-weaker (λ (span : StructSpan). is_of_kind kind span ≡ true) (λ (span : StructSpan). span.kind ≡ kind) (λ span e. is_the_kind kind span.kind e) (filter (is_of_kind kind) text.structs) (filter_passes (is_of_kind kind) text.structs) in
      record {
        are = refl;
        kinds = kinds;
        inside = All-filter (is_of_kind kind) (λ (span : StructSpan). (span.begin ≤ span.end) × (span.end ≤ length text.tokens)) text.structs
            (All-weaker (ValidStructSpan registry (length text.tokens)) (λ (span : StructSpan). (span.begin ≤ span.end) × (span.end ≤ length text.tokens)) (λ span its. (its.order, its.inside)) text.structs valid.structs);
        ordered = in_order kind (filter (is_of_kind kind) text.structs) (AllPairs-filter ComesBefore (is_of_kind kind) text.structs valid.ordered) kinds;
      }

pub instances_lie : InstancesLieInTexts
instances_lie images registry corpus tables valid are kind number text l at =
    let within : number < length corpus = slice_get_within corpus number text at in
    let is : get_or corpus number text ≡ text = get_or_from_slice_get corpus number text text at in
    let its : ValidText registry text = subst (ValidText registry) is (valid.texts number text within) in
    let here : get_or (get_or tables.structs kind []) number [] ≡ filter (is_of_kind kind) text.structs =
    ap (λ (lists : List (List StructSpan)). get_or lists number []) (are.structs kind (omega (arith, are.kind_count)))
    ∙ get_or-map (λ (t : Text). filter (is_of_kind kind) t.structs) corpus number text [] within ∙ ap (λ (t : Text). filter (is_of_kind kind) t.structs) is in
    subst (AreInstancesIn kind text) (sym here) (instances registry kind text its)
