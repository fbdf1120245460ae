-- Texts have one list of tables.
use Rattle.std.proofs.Common.{◌≡◌, ℕ, ◌<◌, ◌≤◌, List, [], length, map, get_or, slice_get, Option, None, Some, refl, sym, ◌∙◌, ap, subst, arith, ◌⊎◌, inl, inr}
use Rattle.std.specs.List.{Contains}
use Rattle.std.proofs.lemmas.Bool.{cases_lt}
use Rattle.std.proofs.lemmas.List.{same_lists, get_or_default, get_or_past}
use Rattle.std.proofs.lemmas.List.Elements.{All-contains}
use Rattle.std.proofs.lemmas.Option.{slice_get-get_or, slice_get_within}
use Rattle.mt_text_spec.specs.Registries.{Registry}
use Rattle.mt_text_spec.specs.Texts.{StructSpan, Text, total_tokens}
use Rattle.mt_store_spec.specs.Positions.{ArePositions, AreToldByMembers}
use Rattle.mt_store_spec.specs.Lexicons.{HaveOneLexicon, IsAscending, Renumbers}
use Rattle.mt_segment_spec.specs.Tables.{AttrTables, Tables, ArePlacesOf, ArePostingsOf, AreTablesOf, HaveValues, attr_at, attr_values, tables_at}
use Rattle.mt_segment_laws.specs.Laws.{HaveOneTables}
use Rattle.mt_segment_laws.proofs.Values.{based, have, length-attr_values, one_number}

-- one renumbering
one_renumbering : (a b : List ℕ) (old new : List (List ℕ)) → IsAscending new → Renumbers a old new → Renumbers b old new → a ≡ b
one_renumbering a b old new up f g = same_lists a b (f.count ∙ sym g.count) (λ k d l.
    let low : k < length old = omega (arith, f.count) in
    let there : slice_get old k ≡ Some (get_or old k []) = slice_get-get_or old k [] low in
    let same : get_or a k 0 ≡ get_or b k 0 = one_number new (get_or a k 0) (get_or b k 0) (get_or old k []) up (f.same k low ∙ there) (g.same k low ∙ there) in
    get_or_default a k d 0 l ∙ same ∙ get_or_default b k 0 d (omega (arith, f.count, g.count)))

-- one list of places
module _ (told_by_members : AreToldByMembers) (value : List ℕ) (values : List (List ℕ)) (few : length values ≤ 4294967295) where
  positions : (places : List ℕ) → ArePlacesOf value values places → ArePositions places
  positions places h = record { ascending = h.ascending; in_range = λ k d l. omega (arith, few, slice_get_within values (get_or places k d) value (h.each k d l)) }

  moved : (a b : List ℕ) → ArePlacesOf value values a → ArePlacesOf value values b → (p : ℕ) → Contains a p → Contains b p
  moved a b f g p c = g.all p (All-contains (λ place. slice_get values place ≡ Some value) a p f.each c)

  one_places : (a b : List ℕ) → ArePlacesOf value values a → ArePlacesOf value values b → a ≡ b
  one_places a b f g = told_by_members a b (positions a f) (positions b g) (λ p. (moved a b f g p, moved b a g f p))

one_postings : AreToldByMembers → (lexicon values : List (List ℕ)) (a b : List (List ℕ)) → length values ≤ 4294967295 → ArePostingsOf lexicon values a → ArePostingsOf lexicon values b → a ≡ b
one_postings told lexicon values a b few f g = same_lists a b (f.count ∙ sym g.count) (λ k d l.
    let low : k < length lexicon = omega (arith, f.count) in
    let there : slice_get lexicon k ≡ Some (get_or lexicon k []) = slice_get-get_or lexicon k [] low in
    let same : get_or a k [] ≡ get_or b k [] = one_places told (get_or lexicon k []) values few (get_or a k []) (get_or b k []) (f.each k (get_or lexicon k []) there) (g.each k (get_or lexicon k []) there) in
    get_or_default a k d [] l ∙ same ∙ get_or_default b k [] d (omega (arith, f.count, g.count)))

in_parts : (a b : AttrTables) → a.base ≡ b.base → a.lexicon ≡ b.lexicon → a.numbers ≡ b.numbers → a.postings ≡ b.postings → a ≡ b
in_parts a b base lexicon numbers postings =
    let made : Option ℕ → List (List ℕ) → List ℕ → List (List ℕ) → AttrTables = λ o l n p. record { base = o; lexicon = l; numbers = n; postings = p } in
    ap (λ (o : Option ℕ). made o a.lexicon a.numbers a.postings) base ∙ ap (λ (l : List (List ℕ)). made b.base l a.numbers a.postings) lexicon
    ∙ ap (λ (n : List ℕ). made b.base b.lexicon n a.postings) numbers ∙ ap (λ (p : List (List ℕ)). made b.base b.lexicon b.numbers p) postings

one_attr : HaveOneLexicon → AreToldByMembers → (values numbered : List (List ℕ)) (a b : AttrTables) → length values ≤ 4294967295 → a.base ≡ b.base → HaveValues values a → HaveValues values b → Renumbers a.numbers numbered a.lexicon → Renumbers b.numbers numbered b.lexicon →
    a ≡ b
one_attr one_lexicon told values numbered a b few base f g first second =
    let same : a.lexicon ≡ b.lexicon = one_lexicon values a.lexicon b.lexicon f.lexicon g.lexicon in
    let numbers : Renumbers b.numbers numbered a.lexicon = subst (Renumbers b.numbers numbered) (sym same) second in
    let postings : ArePostingsOf a.lexicon values b.postings = subst (λ (l : List (List ℕ)). ArePostingsOf l values b.postings) (sym same) g.postings in
    in_parts a b base same (one_renumbering a.numbers b.numbers numbered a.lexicon f.lexicon.ascending first numbers) (one_postings told a.lexicon values a.postings b.postings few f.postings postings)

module _ (one_lexicon : HaveOneLexicon) (told : AreToldByMembers) (images : List ℕ → List ℕ → List ℕ) (registry : Registry) (corpus : List Text) (a b : Tables) (f : AreTablesOf images registry corpus a) (g : AreTablesOf images registry corpus b) where
  -- the lexicon of an attribute, also where there is none
  pub same_lexicon : (number : ℕ) → (tables_at a.attrs number).lexicon ≡ (tables_at b.attrs number).lexicon
  same_lexicon number = by (cases_lt number (length registry.attrs))
    where
      by : (number < length registry.attrs) ⊎ (length registry.attrs ≤ number) → (tables_at a.attrs number).lexicon ≡ (tables_at b.attrs number).lexicon
      by (inl l) = one_lexicon (attr_values images registry corpus number) (tables_at a.attrs number).lexicon (tables_at b.attrs number).lexicon (have images registry corpus a f number l).lexicon (have images registry corpus b g number l).lexicon
      by (inr l) =
          let nothing : AttrTables = tables_at [] 0 in
          ap (λ (t : AttrTables). t.lexicon) (get_or_past a.attrs number nothing (omega (arith, f.attr_count)) ∙ sym (get_or_past b.attrs number nothing (omega (arith, g.attr_count))))

  same_attr : (number : ℕ) → number < length registry.attrs → length (attr_values images registry corpus number) ≤ 4294967295 → tables_at a.attrs number ≡ tables_at b.attrs number
  same_attr number l few = by (attr_at registry number).base refl
    where
      -- where the numbers of both stand for the same
      one : (numbered : List (List ℕ)) → Renumbers (tables_at a.attrs number).numbers numbered (tables_at a.attrs number).lexicon → Renumbers (tables_at b.attrs number).numbers numbered (tables_at b.attrs number).lexicon →
          tables_at a.attrs number ≡ tables_at b.attrs number
      one numbered first second =
          one_attr one_lexicon told (attr_values images registry corpus number) numbered (tables_at a.attrs number) (tables_at b.attrs number) few (based images registry corpus a f number l ∙ sym (based images registry corpus b g number l))
          (have images registry corpus a f number l) (have images registry corpus b g number l) first second

      by : (base : Option ℕ) → (attr_at registry number).base ≡ base → tables_at a.attrs number ≡ tables_at b.attrs number
      by None none = one (attr_values images registry corpus number) (f.bases number l none).numbers (g.bases number l none).numbers
      by (Some base) some =
          let image = images (attr_at registry number).mapper in
          one (map image (tables_at a.attrs base).lexicon) (f.mapped number base l some).numbers
          (subst (λ (vs : List (List ℕ)). Renumbers (tables_at b.attrs number).numbers (map image vs) (tables_at b.attrs number).lexicon) (sym (same_lexicon base)) (g.mapped number base l some).numbers)

  same_attrs : total_tokens corpus ≤ 4294967295 → a.attrs ≡ b.attrs
  same_attrs few = same_lists a.attrs b.attrs (f.attr_count ∙ sym g.attr_count) (λ k d l.
      get_or_default a.attrs k d (tables_at [] 0) l ∙ same_attr k (omega (arith, f.attr_count)) (omega (arith, few, length-attr_values images registry corpus k))
      ∙ get_or_default b.attrs k (tables_at [] 0) d (omega (arith, f.attr_count, g.attr_count)))

  same_structs : a.structs ≡ b.structs
  same_structs = same_lists a.structs b.structs (f.kind_count ∙ sym g.kind_count) (λ k d l.
      let low : k < length registry.kinds = omega (arith, f.kind_count) in
      get_or_default a.structs k d [] l ∙ f.structs k low ∙ sym (g.structs k low) ∙ get_or_default b.structs k [] d (omega (arith, f.kind_count, g.kind_count)))

pub one_tables : HaveOneLexicon → AreToldByMembers → HaveOneTables
one_tables one_lexicon told images registry corpus a b valid f g =
    let made : List (List ℕ × ℕ) → List AttrTables → List (List (List StructSpan)) → Tables = λ t x s. record { texts = t; attrs = x; structs = s } in
    ap (λ (t : List (List ℕ × ℕ)). made t a.attrs a.structs) (f.texts ∙ sym g.texts) ∙ ap (λ (x : List AttrTables). made b.texts x a.structs) (same_attrs one_lexicon told images registry corpus a b f g (omega (arith, valid.short)))
    ∙ ap (made b.texts b.attrs) (same_structs one_lexicon told images registry corpus a b f g)
