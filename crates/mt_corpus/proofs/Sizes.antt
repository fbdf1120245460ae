-- How many tokens a live text has, by the table of its segment.
use Rattle.std.proofs.Common.{◌≡◌, ℕ, zero, suc, ◌+◌, ◌-◌, ◌<◌, Bool, true, List, [], ◌∷◌, length, take, get_or, slice_get, Option, Some, sym, ◌∙◌, ap, subst, arith}
use Rattle.std.specs.List.{All, AllZip, Any}
use Rattle.std.proofs.lemmas.List.{get_or-map, length-map}
use Rattle.std.proofs.lemmas.List.Elements.{All-head, All-tail}
use Rattle.std.proofs.lemmas.List.Sums.{sum-map, sum_by_more}
use Rattle.std.proofs.lemmas.Option.{same_Some, slice_get_within, get_or_from_slice_get}
use Rattle.mt_text_spec.specs.Registries.{Registry}
use Rattle.mt_text_spec.specs.Texts.{Text}
use Rattle.mt_segment_spec.specs.Tables.{Tables, AreTablesUnder, first_place}
use Rattle.mt_corpus_spec.specs.Groups.{Group}
use Rattle.mt_corpus_spec.specs.Decoded.{group_in, groups_in, marked, texts_in}
use Rattle.mt_decode_laws.specs.Laws.{TextsAreDecoded, NumbersAreLive}
use Rattle.mt_corpus.specs.Held.{AreLive}
use Rattle.mt_corpus_spec.specs.Groups.{corpus_of}
use Rattle.mt_corpus.specs.Held.{IsHeld, IsNamedAt}
use Rattle.mt_corpus.proofs.Has.{has_any}
use Rattle.mt_corpus.proofs.Live.{text_at}
use Rattle.mt_corpus.proofs.Segments.{decoded}

pub at_mark : (texts : List Text) (first t : ℕ) (live : List ℕ) (text : Text) → slice_get (marked first texts live) t ≡ Some (text, true) → slice_get texts t ≡ Some text
at_mark [] first t live text e = cc
at_mark (one ∷ texts) first zero live text e = ap (λ (m : Text × Bool). Some m.0) (same_Some _ (text, true) e)
at_mark (one ∷ texts) first (suc t) live text e = at_mark texts (first + 1) t live text e

-- its name and its length
abbrev head_of : Text → List ℕ × ℕ
head_of text = (text.name, length text.tokens)

-- a live text of the groups stands in its segment
pub record StandsIn (tables : Tables) (t : ℕ) (text : Text) : Type 0 where
  pub within : t < length tables.texts
  pub size : first_place tables (t + 1) ≡ first_place tables t + length text.tokens

module _ (law : TextsAreDecoded) (numbers : NumbersAreLive) (registry : Registry) where
  in_segment : (tables : Tables) (live : List ℕ) (t : ℕ) (text : Text) → AreTablesUnder registry tables → slice_get (group_in registry tables live) t ≡ Some (text, true) → StandsIn tables t text
  in_segment tables live t text under e =
      let corpus = under.by.corpus in
      let at : slice_get corpus t ≡ Some text = ap (λ (ts : List Text). slice_get ts t) (sym (decoded law numbers registry tables under)) ∙ at_mark (texts_in registry tables) 0 t live text e in
      let inside : t < length corpus = slice_get_within corpus t text at in
      let low : t < length tables.texts = omega (arith, inside, ap length under.by.are.texts, length-map corpus head_of) in
      let head : (get_or tables.texts t ([], 0)).1 ≡ length text.tokens =
      ap (λ (hs : List (List ℕ × ℕ)). (get_or hs t ([], 0)).1) under.by.are.texts ∙ ap (λ (h : List ℕ × ℕ). h.1) (get_or-map head_of corpus t text ([], 0) inside)
      ∙ ap (λ (x : Text). length x.tokens) (get_or_from_slice_get corpus t text text at) in
      record {
        within = low;
        size =
            sum-map (λ (h : List ℕ × ℕ). h.1) (take (t + 1) tables.texts) ∙ sum_by_more (λ (h : List ℕ × ℕ). h.1) tables.texts t ([], 0) low
            ∙ ap (λ n. n + (get_or tables.texts t ([], 0)).1) (sym (sum-map (λ (h : List ℕ × ℕ). h.1) (take t tables.texts))) ∙ ap (λ n. first_place tables t + n) head;
      }

  pub live_stands : (segments : List Tables) (live : List (List ℕ)) (s t : ℕ) (text : Text) (group : Group) (d : Tables) → All (AreTablesUnder registry) segments → AllZip AreLive segments live →
      slice_get (groups_in registry segments live) s ≡ Some group → slice_get group t ≡ Some (text, true) → (s < length segments) × StandsIn (get_or segments s d) t text
  live_stands [] live s t text group d under are e f = cc
  live_stands (tables ∷ segments) [] s t text group d under are e f = absurd are
  live_stands (tables ∷ segments) (ns ∷ live) zero t text group d under are e f =
      (omega arith, in_segment tables ns t text (All-head (AreTablesUnder registry) tables segments under) (ap (λ (g : Group). slice_get g t) (same_Some (group_in registry tables ns) group e) ∙ f))
  live_stands (tables ∷ segments) (ns ∷ live) (suc s) t text group d under are e f =
      let (l, it) = live_stands segments live s t text group d (All-tail (AreTablesUnder registry) tables segments under) are.1 e f in (omega (arith, l), it)

module _ (law : TextsAreDecoded) (numbers : NumbersAreLive) (registry : Registry) (segments : List Tables) (live : List (List ℕ)) (places : List ℕ → Option (ℕ × ℕ)) (texts tokens : ℕ) (h : IsHeld registry segments live places texts tokens)
    (name : List ℕ) (place : ℕ × ℕ) (at : Some place ≡ places name) where
  is_there : IsNamedAt (groups_in registry segments live) place name
  is_there = h.named.only name place (sym at)

  stands : (tables : Tables) → tables ≡ get_or segments place.0 tables → StandsIn tables place.1 is_there.text
  stands tables e = subst (λ (t : Tables). StandsIn t place.1 is_there.text) (sym e) (live_stands law numbers registry segments live place.0 place.1 is_there.text is_there.live.group tables h.tables h.numbers is_there.live.there is_there.live.live).1

  pub text_within : (tables : Tables) → tables ≡ get_or segments place.0 tables → place.1 < length tables.texts
  text_within tables e = (stands tables e).within

  pub sized : (groups : List Group) (tables : Tables) (begin end : ℕ) → groups_in registry segments live ≡ groups → tables ≡ get_or segments place.0 tables → begin ≡ first_place tables place.1 → end ≡ first_place tables (place.1 + 1) →
      Any (λ (text : Text). (text.name ≡ name) × (length text.tokens ≡ end - begin)) (corpus_of groups)
  sized groups tables begin end g e b f =
      subst (λ (gs : List Group). Any (λ (text : Text). (text.name ≡ name) × (length text.tokens ≡ end - begin)) (corpus_of gs)) g
      (has_any (λ (text : Text). (text.name ≡ name) × (length text.tokens ≡ end - begin)) (corpus_of (groups_in registry segments live)) is_there.text (text_at (groups_in registry segments live) place is_there.text is_there.live)
      (is_there.named, (let s = (stands tables e).size in omega (arith, b, f, s))))
