-- Corpora of a few texts.
use Rattle.std.proofs.Common.{◌≡◌, ◌≢◌, ℕ, ◌+◌, ◌*◌, ◌<◌, ◌≤◌, List, [], ◌∷◌, ◌++◌, length, length-append, map, get_or, take, ap, sym, ◌∙◌, subst, arith, false, true≢false}
use Rattle.std.specs.List.{All}
use Rattle.std.specs.Str.{bytes_eq}
use Rattle.std.specs.Cmp.Lexicographic.{bytes_decides}
use Rattle.std.proofs.lemmas.List.{length-map, get_or-map, map-append, take_all}
use Rattle.std.proofs.lemmas.List.Elements.{All-nil, All-push, All-more, All-weaker}
use Rattle.std.proofs.lemmas.List.Sums.{sum-map, sum_by-le}
use Rattle.std.specs.List.{sum_by}
use Rattle.std.proofs.lemmas.List.Quantifiers.{all_pairs_push}
use Rattle.mt_text_spec.specs.Registries.{Registry}
use Rattle.mt_text_spec.specs.Texts.{Text, ValidText, ValidCorpus, text_tokens_limit, total_tokens}

-- texts that are not too long are not too long together
total_short : (registry : Registry) (corpus : List Text) → All (ValidText registry) corpus → total_tokens corpus ≤ length corpus * text_tokens_limit
total_short registry corpus all =
    let few : sum_by (λ (text : Text). length text.tokens) corpus ≤ length corpus * text_tokens_limit = sum_by-le (λ (text : Text). length text.tokens) text_tokens_limit corpus (All-weaker (ValidText registry) (λ (text : Text). length text.tokens ≤ text_tokens_limit) (λ text its. its.short) corpus all) in
    omega (arith, few, sum-map (λ (text : Text). length text.tokens) corpus)

-- no text
pub no_corpus : (registry : Registry) → ValidCorpus registry []
no_corpus registry = record { few = omega arith; short = omega arith; texts = All-nil (ValidText registry); distinct = λ i j d e l m. absurd (omega arith) }

-- and one text more
pub corpus_more : (registry : Registry) (corpus : List Text) (text : Text) → ValidCorpus registry corpus → ValidText registry text → length corpus < 4 → All (λ held. held.name ≢ text.name) corpus → ValidCorpus registry (corpus ++ text ∷ [])
corpus_more registry corpus text valid its few differs =
    let all : All (ValidText registry) (corpus ++ text ∷ []) = All-push (ValidText registry) corpus text valid.texts its in
    let count : length (corpus ++ text ∷ []) ≡ length corpus + 1 = length-append corpus (text ∷ []) in
    record {
      few = omega (arith, count);
      short = omega (arith, count, total_short registry (corpus ++ text ∷ []) all);
      texts = all;
      distinct = rw (map-append (λ (t : Text). t.name) corpus (text ∷ []))
          (all_pairs_push (λ (name other : List ℕ). name ≢ other) (map (λ (t : Text). t.name) corpus) text.name valid.distinct (λ k d l.
          let within : k < length corpus = omega (arith, length-map corpus (λ (t : Text). t.name)) in
          rw (get_or-map (λ (t : Text). t.name) corpus k text d within) (differs k text within)));
    }

-- ---- texts whose names differ from one

pub one_differs : (texts : List Text) (name : List ℕ) (i : ℕ) (text : Text) (its : List ℕ) → i < length texts → text ≡ get_or texts i text → All (λ held. held.name ≢ name) (take i texts) → its ≡ text.name → bytes_eq name its ≡ false →
    All (λ held. held.name ≢ name) (take (i + 1) texts)
one_differs texts name i text its l is so_far e test =
    All-more (λ (held : Text). held.name ≢ name) texts i text l so_far
    (λ same.
    let one : name ≡ its = sym same ∙ ap (λ (t : Text). t.name) (sym is) ∙ sym e in
    true≢false (sym ((bytes_decides name its).1 one) ∙ test))

pub all_differ : (texts : List Text) (name : List ℕ) (i : ℕ) → length texts ≤ i → All (λ held. held.name ≢ name) (take i texts) → All (λ held. held.name ≢ name) texts
all_differ texts name i l so_far = subst (λ (ts : List Text). All (λ held. held.name ≢ name) ts) (take_all i texts l) so_far
