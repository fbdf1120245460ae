-- Groups with one text more.
use Rattle.std.proofs.Common.{◌≡◌, ◌≢◌, ℕ, zero, suc, ◌+◌, ◌-◌, ◌<◌, ◌≤◌, ◌⊎◌, inl, inr, Bool, true, false, cond, List, [], ◌∷◌, ◌++◌, length, length-append, map, get_or, slice_get, Option, Some, refl, sym, ◌∙◌, ap, ap₂, subst, arith}
use Rattle.std.specs.List.{All, AllPairs}
use Rattle.std.specs.Str.{bytes_eq}
use Rattle.std.specs.Cmp.Lexicographic.{bytes_decides}
use Rattle.std.proofs.lemmas.Bool.{cases_lt, false_from_ne_true}
use Rattle.std.proofs.lemmas.List.{append-nil, get_or-map, length-map, length_push, map-append}
use Rattle.std.proofs.lemmas.List.Concat.{flat_map-append}
use Rattle.std.proofs.lemmas.List.Elements.{All-push}
use Rattle.std.proofs.lemmas.List.Quantifiers.{all_pairs_push}
use Rattle.std.proofs.lemmas.List.Sums.{sum-map, sum_by_push}
use Rattle.std.proofs.lemmas.Option.{same_Some, slice_get-get_or, slice_get_within}
use Rattle.mt_text_spec.specs.Registries.{Registry}
use Rattle.mt_text_spec.specs.Texts.{Text, ValidText, total_tokens}
use Rattle.mt_corpus_spec.specs.Groups.{Group, HoldsName, IsFull, ValidGroups, all_texts, alone, corpus_of, kept_texts, live_texts}
use Rattle.mt_corpus.specs.Held.{IsLiveAt, IsNamedAt, TellPlaces}
use Rattle.mt_corpus.proofs.Has.{has_any, slice_get_left, slice_get_right}
use Rattle.mt_corpus.proofs.Live.{held_at}

pub corpus_more : (groups : List Group) (text : Text) → corpus_of (groups ++ alone text ∷ []) ≡ corpus_of groups ++ text ∷ []
corpus_more groups text = flat_map-append live_texts groups (alone text ∷ []) ∙ ap (λ (ts : List Text). corpus_of groups ++ ts) (append-nil (text ∷ []))

pub kept_more : (groups : List Group) (text : Text) → kept_texts (groups ++ alone text ∷ []) ≡ kept_texts groups ++ text ∷ []
kept_more groups text = flat_map-append all_texts groups (alone text ∷ []) ∙ ap (λ (ts : List Text). kept_texts groups ++ ts) (append-nil (text ∷ []))

pub tokens_more : (texts : List Text) (text : Text) → total_tokens (texts ++ text ∷ []) ≡ total_tokens texts + length text.tokens
tokens_more texts text =
    sum-map (λ (t : Text). length t.tokens) (texts ++ text ∷ []) ∙ sum_by_push (λ (t : Text). length t.tokens) texts text
    ∙ ap (λ n. n + length text.tokens) (sym (sum-map (λ (t : Text). length t.tokens) texts))

abbrev Differ : List ℕ → List ℕ → Type 0
Differ a b = a ≢ b

module _ (registry : Registry) (groups : List Group) (text : Text) (v : ValidGroups registry groups) (valid : ValidText registry text) (free : HoldsName groups text.name → ⊥) (room : IsFull groups (length text.tokens) → ⊥) where
  apart : (k : ℕ) (d : List ℕ) → k < length (map (λ (t : Text). t.name) (corpus_of groups)) → get_or (map (λ (t : Text). t.name) (corpus_of groups)) k d ≢ text.name
  apart k d l e =
      let low : k < length (corpus_of groups) = omega (arith, l, length-map (corpus_of groups) (λ (t : Text). t.name)) in
      let is : (get_or (corpus_of groups) k text).name ≡ text.name = sym (get_or-map (λ (t : Text). t.name) (corpus_of groups) k text d low) ∙ e in
      free (has_any (λ (t : Text). t.name ≡ text.name) (corpus_of groups) (get_or (corpus_of groups) k text) (record { at = k; there = slice_get-get_or (corpus_of groups) k text low }) is)

  few_kept : length (kept_texts groups) < 65536
  few_kept = by (cases_lt (length (kept_texts groups)) 65536)
    where
      by : (length (kept_texts groups) < 65536) ⊎ (65536 ≤ length (kept_texts groups)) → length (kept_texts groups) < 65536
      by (inl l) = l
      by (inr l) = absurd (room (inl l))

  short_kept : total_tokens (kept_texts groups) + length text.tokens ≤ 4194304
  short_kept = by (cases_lt 4194304 (total_tokens (kept_texts groups) + length text.tokens))
    where
      by : (4194304 < total_tokens (kept_texts groups) + length text.tokens) ⊎ (total_tokens (kept_texts groups) + length text.tokens ≤ 4194304) → total_tokens (kept_texts groups) + length text.tokens ≤ 4194304
      by (inl l) = absurd (room (inr l))
      by (inr l) = l

  pub valid_more : ValidGroups registry (groups ++ alone text ∷ [])
  valid_more = record {
    texts = subst (All (ValidText registry)) (sym (kept_more groups text)) (All-push (ValidText registry) (kept_texts groups) text v.texts valid);
    distinct =
        subst (λ (ts : List Text). AllPairs Differ (map (λ t. t.name) ts)) (sym (corpus_more groups text))
        (subst (AllPairs Differ) (sym (map-append (λ (t : Text). t.name) (corpus_of groups) (text ∷ []))) (all_pairs_push Differ (map (λ (t : Text). t.name) (corpus_of groups)) text.name v.distinct apart));
    few = subst (λ (ts : List Text). length ts ≤ 65536) (sym (kept_more groups text)) (omega (arith, few_kept, length_push (kept_texts groups) text));
    short = subst (λ (ts : List Text). total_tokens ts ≤ 4194304) (sym (kept_more groups text)) (omega (arith, short_kept, tokens_more (kept_texts groups) text));
    some = All-push (λ (g : Group). 0 < length g) groups (alone text) v.some (omega arith);
  }

-- ---- groups are no more than texts

pub many_texts : (groups : List Group) → All (λ (g : Group). 0 < length g) groups → length groups ≤ length (kept_texts groups)
many_texts [] some = omega arith
many_texts (group ∷ groups) some =
    let one : 0 < length group = some 0 group (omega arith) in
    omega (arith, one, many_texts groups (λ k d l. some (suc k) d (omega (arith, l))), length-append (all_texts group) (kept_texts groups), length-map group (λ (m : Text × Bool). m.0))

-- ---- places

-- where the first text of a group behind the others stands
abbrev pub end_of : List Group → ℕ × ℕ
end_of groups = (length groups, 0)

module _ (groups : List Group) (text : Text) where
  more_live : (place : ℕ × ℕ) (one : Text) → IsLiveAt groups place one → IsLiveAt (groups ++ alone text ∷ []) place one
  more_live place one h = record { group = h.group; there = slice_get_left groups (alone text ∷ []) place.0 (slice_get_within groups place.0 h.group h.there) ∙ h.there; live = h.live }

  last_live : IsLiveAt (groups ++ alone text ∷ []) (end_of groups) text
  last_live = record { group = alone text; there = let e : length groups + 0 ≡ length groups = omega arith in ap (slice_get (groups ++ alone text ∷ [])) (sym e) ∙ slice_get_right groups (alone text ∷ []) 0; live = refl }

  cases_live : (place : ℕ × ℕ) (one : Text) → IsLiveAt (groups ++ alone text ∷ []) place one → IsLiveAt groups place one ⊎ ((place ≡ end_of groups) × (one ≡ text))
  cases_live place one h = by (cases_lt place.0 (length groups))
    where
      inside : (t : ℕ) → slice_get (alone text) t ≡ Some (one, true) → (t ≡ 0) × (one ≡ text)
      inside zero e = (refl, sym (ap (λ (m : Text × Bool). m.0) (same_Some (text, true) (one, true) e)))
      inside (suc t) e = cc

      last : (k : ℕ) → place.0 ≡ length groups + k → slice_get (alone text ∷ []) k ≡ Some h.group → (place ≡ end_of groups) × (one ≡ text)
      last zero e f =
          let g : alone text ≡ h.group = same_Some (alone text) h.group f in
          let (z, is) = inside place.1 (ap (λ (group : Group). slice_get group place.1) g ∙ h.live) in
          let first : place.0 ≡ length groups = omega (arith, e) in
          (ap₂ (λ (a b : ℕ). let p : ℕ × ℕ = (a, b) in p) first z, is)
      last (suc k) e f = cc

      by : (place.0 < length groups) ⊎ (length groups ≤ place.0) → IsLiveAt groups place one ⊎ ((place ≡ end_of groups) × (one ≡ text))
      by (inl l) = inl (record { group = h.group; there = sym (slice_get_left groups (alone text ∷ []) place.0 l) ∙ h.there; live = h.live })
      by (inr l) =
          let k = place.0 - length groups in
          let e : place.0 ≡ length groups + k = omega arith in
          inr (last k e (sym (slice_get_right groups (alone text ∷ []) k) ∙ ap (slice_get (groups ++ alone text ∷ [])) (sym e) ∙ h.there))

  pub places_more : (places new : List ℕ → Option (ℕ × ℕ)) → TellPlaces groups places → (HoldsName groups text.name → ⊥) → ((q : List ℕ) → new q ≡ cond (bytes_eq text.name q) (Some (end_of groups)) (places q)) → TellPlaces (groups ++ alone text ∷ []) new
  places_more places new tell free updates = record {
    known = λ place one h. known place one (cases_live place one h);
    only = λ q place e. only q place (bytes_eq text.name q) refl (sym (updates q) ∙ e);
  }
    where
      known : (place : ℕ × ℕ) (one : Text) → IsLiveAt groups place one ⊎ ((place ≡ end_of groups) × (one ≡ text)) → new one.name ≡ Some place
      known place one (inl h) =
          let off : bytes_eq text.name one.name ≡ false = false_from_ne_true (bytes_eq text.name one.name) (λ e. free (held_at groups place text.name (record { text = one; live = h; named = sym ((bytes_decides text.name one.name).0 e) }))) in
          updates one.name ∙ ap (λ b. cond b (Some (end_of groups)) (places one.name)) off ∙ tell.known place one h
      known place one (inr (at, is)) =
          let on : bytes_eq text.name one.name ≡ true = (bytes_decides text.name one.name).1 (ap (λ (t : Text). t.name) (sym is)) in
          updates one.name ∙ ap (λ b. cond b (Some (end_of groups)) (places one.name)) on ∙ ap Some (sym at)

      only : (q : List ℕ) (place : ℕ × ℕ) (b : Bool) → bytes_eq text.name q ≡ b → cond (bytes_eq text.name q) (Some (end_of groups)) (places q) ≡ Some place → IsNamedAt (groups ++ alone text ∷ []) place q
      only q place true on e =
          let at : end_of groups ≡ place = same_Some (end_of groups) place (ap (λ b. cond b (Some (end_of groups)) (places q)) (sym on) ∙ e) in
          subst (λ (p : ℕ × ℕ). IsNamedAt (groups ++ alone text ∷ []) p q) at (record { text = text; live = last_live; named = (bytes_decides text.name q).0 on })
      only q place false off e =
          let is = tell.only q place (ap (λ b. cond b (Some (end_of groups)) (places q)) (sym off) ∙ e) in
          record { text = is.text; live = more_live place is.text is.live; named = is.named }
