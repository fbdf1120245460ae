-- A number at a place stands for the token's value.
use Rattle.std.proofs.Common.{◌≡◌, ℕ, ◌<◌, List, [], length, map, get_or, slice_get, Option, None, Some, refl, sym, ◌∙◌, ap, arith}
use Rattle.std.specs.Option.{option_map}
use Rattle.std.proofs.lemmas.List.{length-map, get_or-map}
use Rattle.std.proofs.lemmas.Option.{slice_get-get_or, slice_get-map, slice_get_within}
use Rattle.mt_text_spec.specs.Registries.{Registry, ValidRegistry}
use Rattle.mt_text_spec.specs.Texts.{Text}
use Rattle.mt_segment_spec.specs.Tables.{Tables, AreTables, AreTablesOf, attr_at, attr_values, number_at, number_by, tables_at, token_count}
use Rattle.mt_segment_laws.specs.Laws.{NumbersStandForValues, TablesAreWhole}
use Rattle.mt_segment_laws.proofs.Known.{base_there, column_is, column_long, postings_many, table_is, table_long, values_long}
use Rattle.mt_segment_laws.proofs.Values.{base_is, based, image_values}

module _ (images : List ℕ → List ℕ → List ℕ) (registry : Registry) (corpus : List Text) (tables : Tables) (valid : ValidRegistry registry) (are : AreTablesOf images registry corpus tables) where
  -- at an attribute without base
  at_base : (number place : ℕ) → number < length tables.attrs → (tables_at tables.attrs number).base ≡ None → place < token_count tables →
      slice_get (tables_at tables.attrs number).lexicon (get_or (tables_at tables.attrs number).numbers place 0) ≡ Some (get_or (attr_values images registry corpus number) place [])
  at_base number place l none m =
      let values = attr_values images registry corpus number in
      let within : place < length values = omega (arith, values_long images registry corpus tables are number) in
      (column_is images registry corpus tables are number l none).same place within ∙ slice_get-get_or values place [] within

  -- at one with a base
  at_mapped : (number base place : ℕ) → number < length tables.attrs → (tables_at tables.attrs number).base ≡ Some base → place < token_count tables →
      slice_get (tables_at tables.attrs number).lexicon (get_or (tables_at tables.attrs number).numbers (get_or (tables_at tables.attrs base).numbers place 0) 0) ≡ Some (get_or (attr_values images registry corpus number) place [])
  at_mapped number base place l some m =
      let image = images (attr_at registry number).mapper in
      let under = (tables_at tables.attrs base).lexicon in
      let values = attr_values images registry corpus base in
      let within : number < length registry.attrs = omega (arith, are.attr_count) in
      let its : (attr_at registry number).base ≡ Some base = sym (based images registry corpus tables are number within) ∙ some in
      let (low, none) = base_is registry valid number base within its in
      let k = get_or (tables_at tables.attrs base).numbers place 0 in
      let here : slice_get under k ≡ Some (get_or values place []) = at_base base place (omega (arith, are.attr_count)) (based images registry corpus tables are base low ∙ none) m in
      let few : k < length under = slice_get_within under k (get_or values place []) here in
      let read : slice_get (tables_at tables.attrs number).lexicon (get_or (tables_at tables.attrs number).numbers k 0) ≡ slice_get (map image under) k =
      (table_is images registry corpus tables are number base l some).same k (omega (arith, length-map under image)) in
      let there : place < length values = omega (arith, values_long images registry corpus tables are base) in
      let same : image (get_or values place []) ≡ get_or (attr_values images registry corpus number) place [] =
      sym (get_or-map image values place [] [] there) ∙ ap (λ (vs : List (List ℕ)). get_or vs place []) (sym (image_values images registry corpus number base its none)) in
      read ∙ slice_get-map image under k ∙ ap (option_map image) here ∙ ap Some same

pub stand_for_values : NumbersStandForValues
stand_for_values images registry corpus tables valid are attr place l m = by (tables_at tables.attrs attr).base refl
  where
    by : (base : Option ℕ) → (tables_at tables.attrs attr).base ≡ base →
        slice_get (tables_at tables.attrs attr).lexicon (number_by (tables_at tables.attrs attr).numbers tables.attrs place base) ≡ Some (get_or (attr_values images registry corpus attr) place [])
    by None none = at_base images registry corpus tables valid are attr place l none m
    by (Some base) some = at_mapped images registry corpus tables valid are attr base place l some m

-- so it is one of the lexicon's
number_low : (tables : Tables) → AreTables tables → (attr place number : ℕ) → number ≡ number_at tables attr place → attr < length tables.attrs → place < token_count tables → number < length (tables_at tables.attrs attr).lexicon
number_low tables known attr place number e l m =
    let under = known.under in
    rw e
    (slice_get_within (tables_at tables.attrs attr).lexicon (number_at tables attr place) (get_or (attr_values under.images known.registry under.by.corpus attr) place [])
    (stand_for_values under.images known.registry under.by.corpus tables under.by.valid under.by.are attr place l m))

pub are_whole : TablesAreWhole
are_whole tables known = record {
  columns = column_long tables known;
  bases = base_there tables known;
  mapped = table_long tables known;
  postings = postings_many tables known;
  within = λ attr place l m. number_low tables known attr place (number_at tables attr place) refl l m;
}
