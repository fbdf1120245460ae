-- What a corpus keeps, with one text more or one less.
use Rattle.std.proofs.Common.{◌≡◌, ℕ, zero, suc, ◌+◌, ◌<◌, ◌≤◌, ◌==◌, not, Bool, true, false, cond, List, [], ◌∷◌, ◌++◌, length, map, sum, set, get_or, is_some, IsTrue, Option, None, Some, refl, sym, ◌∙◌, ap, ap₂, subst, arith}
use Rattle.std.specs.List.{All, AllZip, filter}
use Rattle.std.specs.Str.{bytes_eq}
use Rattle.std.proofs.lemmas.List.{length_push}
use Rattle.std.proofs.lemmas.List.Elements.{All-filter, All-nil, All-push}
use Rattle.std.proofs.lemmas.List.Kept.{AllPairs-filter}
use Rattle.std.proofs.lemmas.Option.{slice_get_within}
use Rattle.std.proofs.lemmas.Slice.Zip.{all_zipped_more}
use Rattle.mt_text_spec.specs.Registries.{Registry, ValidRegistry}
use Rattle.mt_text_spec.specs.Texts.{Text, ValidText, total_tokens}
use Rattle.mt_segment_spec.specs.Tables.{Tables, AreTablesUnder, token_count}
use Rattle.mt_corpus_spec.specs.Groups.{Group, HoldsName, IsFull, ValidGroups, alone, kept_texts, without}
use Rattle.mt_corpus_spec.specs.Decoded.{groups_in}
use Rattle.mt_decode_laws.specs.Laws.{TextsAreDecoded, NumbersAreLive}
use Rattle.mt_corpus.specs.Held.{AreLive, IsHeld, IsMadeOf, TellPlaces}
use Rattle.mt_corpus.proofs.Live.{held_at, named_at}
use Rattle.mt_corpus.proofs.More.{kept_more, many_texts, places_more, tokens_more, valid_more}
use Rattle.mt_corpus.proofs.Segments.{dropped_all, group_alone, groups_long, groups_more, only_there}
use Rattle.mt_corpus.proofs.Struck.{kept_struck, places_struck, valid_struck}

zip_long : (segments : List Tables) (live : List (List ℕ)) → AllZip AreLive segments live → length live ≡ length segments
zip_long [] [] h = refl
zip_long [] (n ∷ live) h = absurd h
zip_long (t ∷ segments) [] h = absurd h
zip_long (t ∷ segments) (n ∷ live) h = ap suc (zip_long segments live h.1)

-- a text by itself is a corpus
pub under_one : (registry : Registry) (text : Text) (tables : Tables) → ValidRegistry registry → ValidText registry text → IsMadeOf registry text tables → AreTablesUnder registry tables
under_one registry text tables vr v made = record {
  images = made.images;
  by = record {
    valid = vr;
    corpus = text ∷ [];
    texts = record { few = omega arith; short = omega (arith, v.short); texts = λ k d l. one k d l; distinct = λ i j d l m. absurd (omega (arith, l, m)) };
    some = omega arith;
    are = made.are;
  };
}
  where
    one : (k : ℕ) (d : Text) → k < 1 → ValidText registry (get_or (text ∷ []) k d)
    one zero d l = v
    one (suc k) d l = absurd (omega arith)

-- the tables of a text by itself have its name and its length
pub name_made : (registry : Registry) (text : Text) (tables : Tables) → IsMadeOf registry text tables → (get_or tables.texts 0 ([], 0)).0 ≡ text.name
name_made registry text tables made = ap (λ (heads : List (List ℕ × ℕ)). (get_or heads 0 ([], 0)).0) made.are.texts

pub tokens_made : (registry : Registry) (text : Text) (tables : Tables) → IsMadeOf registry text tables → token_count tables ≡ length text.tokens
tokens_made registry text tables made =
    let is = ap (λ (heads : List (List ℕ × ℕ)). sum (map (λ head. head.1) heads)) made.are.texts in
    omega (arith, is)

module _ (registry : Registry) (segments : List Tables) (live : List (List ℕ)) (places : List ℕ → Option (ℕ × ℕ)) (texts tokens : ℕ) (h : IsHeld registry segments live places texts tokens) where
  pub few_segments : length segments ≤ 65536
  few_segments = omega (arith, groups_long registry segments live h.numbers, many_texts (groups_in registry segments live) h.groups.some, h.groups.few)

  pub both_long : length live ≡ length segments
  both_long = zip_long segments live h.numbers

  -- a table that tells the same
  pub held_same : (segments' : List Tables) (live' : List (List ℕ)) (new : List ℕ → Option (ℕ × ℕ)) → segments' ≡ segments → live' ≡ live → ((q : List ℕ) → new q ≡ places q) → IsHeld registry segments' live' new texts tokens
  held_same segments' live' new s l e =
      subst (λ (x : List Tables). IsHeld registry x live' new texts tokens) (sym s) (subst (λ (y : List (List ℕ)). IsHeld registry segments y new texts tokens) (sym l) (record {
        valid = h.valid;
        tables = h.tables;
        numbers = h.numbers;
        groups = h.groups;
        named = record { known = λ place text a. e text.name ∙ h.named.known place text a; only = λ name place a. h.named.only name place (sym (e name) ∙ a) };
        counted = h.counted;
        summed = h.summed;
      }))

  -- a name that is held has a place
  holds_place : (name : List ℕ) → HoldsName (groups_in registry segments live) name → is_some (places name) ≡ true
  holds_place name held = let (place, is) = named_at (groups_in registry segments live) name held in
      ap is_some (subst (λ n. places n ≡ Some place) is.named (h.named.known place is.text is.live))

  place_holds : (name : List ℕ) (place : ℕ × ℕ) → places name ≡ Some place → HoldsName (groups_in registry segments live) name
  place_holds name place e = held_at (groups_in registry segments live) place name (h.named.only name place e)

  pub holds_tells : (groups : List Group) (name : List ℕ) (answer : Bool) → groups_in registry segments live ≡ groups → answer ≡ is_some (places name) → (IsTrue answer → HoldsName groups name) × (HoldsName groups name → IsTrue answer)
  holds_tells groups name answer e is = (λ on. subst (λ (gs : List Group). HoldsName gs name) e (found (places name) refl (sym is ∙ on)), λ held. is ∙ holds_place name (subst (λ (gs : List Group). HoldsName gs name) (sym e) held))
    where
      found : (o : Option (ℕ × ℕ)) → places name ≡ o → is_some o ≡ true → HoldsName (groups_in registry segments live) name
      found None f on = cc
      found (Some place) f on = place_holds name place f

  pub none_held : (groups : List Group) (name : List ℕ) → groups_in registry segments live ≡ groups → None ≡ places name → HoldsName groups name → ⊥
  none_held groups name e none held =
      let on : is_some (places name) ≡ true = holds_place name (subst (λ (gs : List Group). HoldsName gs name) (sym e) held) in
      let off : is_some (places name) ≡ false = ap is_some (sym none) in
      cc

  pub place_within : (name : List ℕ) (place : ℕ × ℕ) → Some place ≡ places name → place.0 < length segments
  place_within name place at =
      let is = h.named.only name place (sym at) in
      omega (arith, slice_get_within (groups_in registry segments live) place.0 is.live.group is.live.there, groups_long registry segments live h.numbers)

  module _ (texts_law : TextsAreDecoded) (numbers_law : NumbersAreLive) (text : Text) (tables : Tables) (valid : ValidText registry text) (made : IsMadeOf registry text tables)
      (free : HoldsName (groups_in registry segments live) text.name → ⊥) (room : IsFull (groups_in registry segments live) (length text.tokens) → ⊥) where
    groups_one : groups_in registry (segments ++ tables ∷ []) (live ++ (0 ∷ []) ∷ []) ≡ groups_in registry segments live ++ alone text ∷ []
    groups_one =
        groups_more registry segments live tables (0 ∷ []) h.numbers
        ∙ ap (λ (g : Group). groups_in registry segments live ++ g ∷ []) (group_alone registry tables text (texts_law made.images registry (text ∷ []) tables one made.are))
      where
        one : All (ValidText registry) (text ∷ [])
        one = All-push (ValidText registry) [] text (All-nil (ValidText registry)) valid

    live_one : AreLive tables (0 ∷ [])
    live_one = record {
      ascending = λ i j d l m. absurd (omega (arith, l, m));
      within = λ k d l. at k d l;
    }
      where
        long : length tables.texts ≡ 1
        long = ap length made.are.texts

        at : (k : ℕ) (d : ℕ) → k < 1 → get_or (0 ∷ []) k d < length tables.texts
        at zero d l = omega (arith, long)
        at (suc k) d l = absurd (omega arith)

    pub held_more : (segments' : List Tables) (live' : List (List ℕ)) (new : List ℕ → Option (ℕ × ℕ)) → segments' ≡ segments ++ tables ∷ [] → live' ≡ live ++ (0 ∷ []) ∷ [] →
        ((q : List ℕ) → new q ≡ cond (bytes_eq text.name q) (Some (length segments, 0)) (places q)) → IsHeld registry segments' live' new (texts + 1) (tokens + length text.tokens)
    held_more segments' live' new s l e =
        let groups = groups_in registry segments live in
        subst (λ (x : List Tables). IsHeld registry x live' new (texts + 1) (tokens + length text.tokens)) (sym s) (subst (λ (y : List (List ℕ)). IsHeld registry (segments ++ tables ∷ []) y new (texts + 1) (tokens + length text.tokens)) (sym l) (record {
          valid = h.valid;
          tables = All-push (AreTablesUnder registry) segments tables h.tables (under_one registry text tables h.valid valid made);
          numbers = all_zipped_more AreLive segments live tables (0 ∷ []) h.numbers live_one;
          groups = subst (ValidGroups registry) (sym groups_one) (valid_more registry groups text h.groups valid free room);
          named = subst (λ (gs : List Group). TellPlaces gs new) (sym groups_one) (places_more groups text places new h.named free (λ q. e q ∙ ap (λ n. cond (bytes_eq text.name q) (Some (n, 0)) (places q)) (sym (groups_long registry segments live h.numbers))));
          counted = omega (arith, h.counted, ap (λ (gs : List Group). length (kept_texts gs)) groups_one, ap length (kept_more groups text), length_push (kept_texts groups) text);
          summed = omega (arith, h.summed, ap (λ (gs : List Group). total_tokens (kept_texts gs)) groups_one, ap total_tokens (kept_more groups text), tokens_more (kept_texts groups) text);
        }))

    pub groups_after : (segments' : List Tables) (live' : List (List ℕ)) → segments' ≡ segments ++ tables ∷ [] → live' ≡ live ++ (0 ∷ []) ∷ [] → groups_in registry segments' live' ≡ groups_in registry segments live ++ alone text ∷ []
    groups_after segments' live' s l = ap₂ (groups_in registry) s l ∙ groups_one

    pub held_after : (segments' : List Tables) (live' : List (List ℕ)) (new : List ℕ → Option (ℕ × ℕ)) (name numbers : List ℕ) (count : ℕ) → name ≡ text.name → numbers ≡ 0 ∷ [] → count ≡ length text.tokens →
        segments' ≡ segments ++ tables ∷ [] → live' ≡ live ++ numbers ∷ [] → ((q : List ℕ) → new q ≡ cond (bytes_eq name q) (Some (length segments, 0)) (places q)) → IsHeld registry segments' live' new (texts + 1) (tokens + count)
    held_after segments' live' new name numbers count n m c s l e =
        subst (λ k. IsHeld registry segments' live' new (texts + 1) (tokens + k)) (sym c)
        (held_more segments' live' new s (l ∙ ap (λ (ns : List ℕ). live ++ ns ∷ []) m) (λ q. e q ∙ ap (λ (w : List ℕ). cond (bytes_eq w q) (Some (length segments, 0)) (places q)) n))

  module _ (name : List ℕ) (s t : ℕ) (at : places name ≡ Some (s, t)) where
    less : List (List ℕ)
    less = set live s (filter (λ n. not (n == t)) (get_or live s []))

    pub groups_less : groups_in registry segments (set live s (filter (λ n. not (n == t)) (get_or live s []))) ≡ without name (groups_in registry segments live)
    groups_less = dropped_all name registry segments live s t h.numbers (only_there name (groups_in registry segments live) places s t h.named at)

    still : (tables' : List Tables) (numbers : List (List ℕ)) (k : ℕ) → AllZip AreLive tables' numbers → AllZip AreLive tables' (set numbers k (filter (λ n. not (n == t)) (get_or numbers k [])))
    still [] [] k a = tt
    still [] (n ∷ numbers) k a = absurd a
    still (x ∷ tables') [] k a = absurd a
    still (x ∷ tables') (n ∷ numbers) zero a =
        (record { ascending = AllPairs-filter (λ (number later : ℕ). number < later) (λ m. not (m == t)) n a.0.ascending; within = All-filter (λ m. not (m == t)) (λ number. number < length x.texts) n a.0.within }, a.1)
    still (x ∷ tables') (n ∷ numbers) (suc k) a = (a.0, still tables' numbers k a.1)

    pub held_less : (live' : List (List ℕ)) (new : List ℕ → Option (ℕ × ℕ)) → live' ≡ set live s (filter (λ n. not (n == t)) (get_or live s [])) → ((q : List ℕ) → new q ≡ cond (bytes_eq name q) None (places q)) →
        IsHeld registry segments live' new texts tokens
    held_less live' new l e =
        let groups = groups_in registry segments live in
        subst (λ (y : List (List ℕ)). IsHeld registry segments y new texts tokens) (sym l) (record {
          valid = h.valid;
          tables = h.tables;
          numbers = still segments live s h.numbers;
          groups = subst (ValidGroups registry) (sym groups_less) (valid_struck name registry groups h.groups);
          named = subst (λ (gs : List Group). TellPlaces gs new) (sym groups_less) (places_struck name groups places new h.named e);
          counted = h.counted ∙ sym (ap (λ (gs : List Group). length (kept_texts gs)) groups_less ∙ ap length (kept_struck name groups));
          summed = h.summed ∙ sym (ap (λ (gs : List Group). total_tokens (kept_texts gs)) groups_less ∙ ap total_tokens (kept_struck name groups));
        })
