-- What is whole of tables that were read, and of instances and bounds.
use Rattle.std.proofs.Common.{◌≡◌, ℕ, zero, suc, ◌+◌, ◌-◌, ◌^◌, ◌<◌, ◌≤◌, List, [], ◌∷◌, length, map, take, get_or, sum, None, Some, refl, sym, ◌∙◌, ap, subst, arith}
use Rattle.std.proofs.lemmas.List.{get_or_default, take_all}
use Rattle.std.proofs.lemmas.List.Sums.{sum-map, sum_by-take-le}
use Rattle.mt_segment_spec.specs.Tables.{Tables, AttrTables, AreTables, first_place, number_at, number_by, tables_at, token_count}
use Rattle.mt_segment_laws.specs.Laws.{AreWhole}
use Rattle.mt_segment.specs.Ends.{AreFirstEnds}
use Rattle.mt_segment.proofs.Assembled.{end_more}
use Rattle.mt_segment.proofs.Parted.{tokens_fit}

pub record IsRead (tables : Tables) (attr : ℕ) (read : AttrTables) : Type 0 where
  pub within : attr < length tables.attrs
  pub is : read ≡ get_or tables.attrs attr read

read_is : (tables : Tables) (attr : ℕ) (read : AttrTables) → IsRead tables attr read → tables_at tables.attrs attr ≡ read
read_is tables attr read h = sym (h.is ∙ get_or_default tables.attrs attr read (tables_at [] 0) h.within)

pub in_column : (tables now : Tables) → AreWhole tables → tables ≡ now → (attr place : ℕ) (read : AttrTables) → IsRead tables attr read → read.base ≡ None → place < token_count now → place < length read.numbers
in_column tables now whole view attr place read h none m =
    let e : tables_at tables.attrs attr ≡ read = read_is tables attr read h in
    omega (arith, whole.columns attr h.within (ap (λ (t : AttrTables). t.base) e ∙ none), ap (λ (t : AttrTables). length t.numbers) e, ap (λ (t : Tables). token_count t) view)

pub its_base : (tables : Tables) → AreWhole tables → (attr base : ℕ) (read : AttrTables) → IsRead tables attr read → read.base ≡ Some base → (base < length tables.attrs) × ((tables_at tables.attrs base).base ≡ None)
its_base tables whole attr base read h some = whole.bases attr base h.within (ap (λ (t : AttrTables). t.base) (read_is tables attr read h) ∙ some)

pub in_base_column : (tables now : Tables) → AreWhole tables → tables ≡ now → (attr base place : ℕ) (read under : AttrTables) → IsRead tables attr read → read.base ≡ Some base → under ≡ get_or tables.attrs base under →
    place < token_count now → place < length under.numbers
in_base_column tables now whole view attr base place read under h some below m =
    let there = its_base tables whole attr base read h some in
    let its : IsRead tables base under = record { within = there.0; is = below } in
    in_column tables now whole view base place under its (sym (ap (λ (t : AttrTables). t.base) (read_is tables base under its)) ∙ there.1) m

pub in_table : (tables now : Tables) → AreWhole tables → tables ≡ now → (attr base place number : ℕ) (read under : AttrTables) → IsRead tables attr read → read.base ≡ Some base → under ≡ get_or tables.attrs base under →
    place < token_count now → number ≡ get_or under.numbers place 0 → number < length read.numbers
in_table tables now whole view attr base place number read under h some below m at =
    let there = its_base tables whole attr base read h some in
    let e : tables_at tables.attrs base ≡ under = read_is tables base under (record { within = there.0; is = below }) in
    let f : tables_at tables.attrs attr ≡ read = read_is tables attr read h in
    let low : get_or (tables_at tables.attrs base).numbers place 0 < length (tables_at tables.attrs base).lexicon =
    subst (λ b. number_by (tables_at tables.attrs base).numbers tables.attrs place b < length (tables_at tables.attrs base).lexicon) there.1 (whole.within base place there.0 (omega (arith, ap (λ (t : Tables). token_count t) view))) in
    omega (arith, low, at, ap (λ (t : AttrTables). get_or t.numbers place 0) e, whole.mapped attr base h.within (ap (λ (t : AttrTables). t.base) f ∙ some), ap (λ (t : AttrTables). length t.numbers) f)

-- the number that is read in the table of a mapped attribute
pub number_read : (tables now : Tables) → AreWhole tables → tables ≡ now → (attr base place : ℕ) (read under : AttrTables) → IsRead tables attr read → read.base ≡ Some base → under ≡ get_or tables.attrs base under →
    get_or read.numbers (get_or under.numbers place 0) 0 ≡ number_at now attr place
number_read tables now whole view attr base place read under h some below =
    let there = its_base tables whole attr base read h some in
    let e : tables_at tables.attrs base ≡ under = read_is tables base under (record { within = there.0; is = below }) in
    let f : tables_at tables.attrs attr ≡ read = read_is tables attr read h in
    let inner : get_or read.numbers (get_or under.numbers place 0) 0 ≡ number_by read.numbers tables.attrs place (Some base) = ap (λ (t : AttrTables). get_or read.numbers (get_or t.numbers place 0) 0) (sym e) in
    inner ∙ ap (number_by read.numbers tables.attrs place) (sym some) ∙ ap (λ (t : AttrTables). number_by t.numbers tables.attrs place t.base) (sym f) ∙ ap (λ (t : Tables). number_at t attr place) view

-- the posting list of a value is there
pub list_there : (tables now : Tables) → AreWhole tables → tables ≡ now → (attr number : ℕ) (read : AttrTables) → IsRead tables attr read → number < length (tables_at now.attrs attr).lexicon → number < length read.postings
list_there tables now whole view attr number read h l =
    omega (arith, whole.postings attr h.within, ap (λ (t : AttrTables). length t.postings) (read_is tables attr read h), ap (λ (t : Tables). length (tables_at t.attrs attr).lexicon) view)

pub list_read : (tables now : Tables) → AreWhole tables → tables ≡ now → (attr number : ℕ) (read : AttrTables) → IsRead tables attr read → number < length (tables_at now.attrs attr).lexicon → (d : List ℕ) →
    get_or read.postings number d ≡ get_or (tables_at now.attrs attr).postings number []
list_read tables now whole view attr number read h l d =
    get_or_default read.postings number d [] (list_there tables now whole view attr number read h l)
    ∙ ap (λ (t : AttrTables). get_or t.postings number []) (sym (read_is tables attr read h)) ∙ ap (λ (t : Tables). get_or (tables_at t.attrs attr).postings number []) view

-- ---- where a text begins and ends

abbrev tokens_in : List ℕ × ℕ → ℕ
tokens_in head = head.1

pub begins_there : (tables now : Tables) (ends : List ℕ) (text begin : ℕ) → tables ≡ now → AreFirstEnds tables.texts ends (length tables.texts - 1) → text < length now.texts → begin ≡ get_or (0 ∷ ends) text 0 →
    begin ≡ first_place now text
begins_there tables now ends zero begin view h l is = is
begins_there tables now ends (suc text) begin view h l is =
    let more : text + 1 ≡ suc text = omega arith in
    is ∙ h.at text (omega (arith, l, ap (λ (t : Tables). length t.texts) view)) ∙ ap (λ (n : ℕ). sum (map tokens_in (take n tables.texts))) more ∙ ap (λ (t : Tables). first_place t (suc text)) view

pub ends_there : (tables now : Tables) (text begin : ℕ) (read : List ℕ × ℕ) → tables ≡ now → text < length now.texts → begin ≡ first_place now text → read ≡ get_or tables.texts text read →
    begin + read.1 ≡ first_place now (text + 1)
ends_there tables now text begin read view l is at = end_more now.texts text begin read is l (at ∙ ap (λ (t : Tables). get_or t.texts text read) view)

pub within_all : (now : Tables) (text : ℕ) → first_place now text ≤ token_count now
within_all now text = omega (arith, sum-map tokens_in (take text now.texts), sum-map tokens_in now.texts, sum_by-take-le tokens_in now.texts text)

pub place_fits : (now : Tables) (text : ℕ) → AreTables now → first_place now text < 2 ^ 32
place_fits now text are = omega (arith, within_all now text, tokens_fit are.registry now now.texts are.under refl)

-- the last one ends where all tokens do
pub all_end : (now : Tables) (count : ℕ) → count ≡ length now.texts → first_place now count ≡ token_count now
all_end now count e = ap (λ (heads : List (List ℕ × ℕ)). sum (map tokens_in heads)) (take_all count now.texts (omega (arith, e)))
