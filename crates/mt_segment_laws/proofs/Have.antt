-- Texts have tables.
use Rattle.std.proofs.Common.{◌≡◌, ℕ, zero, suc, ◌+◌, ◌<◌, Bool, true, false, cond, List, [], ◌∷◌, length, map, get_or, slice_get, Option, None, Some, refl, sym, ◌∙◌, ap, subst, arith}
use Rattle.std.specs.List.{All, Contains, filter, range_with_len}
use Rattle.std.specs.List.Sorted.{IsStrictlyIncreasing}
use Rattle.std.specs.Str.{bytes_eq}
use Rattle.std.specs.Cmp.Lexicographic.{bytes_decides}
use Rattle.std.proofs.lemmas.List.{length-map, get_or-map}
use Rattle.std.proofs.lemmas.List.Elements.{All-contains, All-filter, All-from_get_or, All-map, All-weaker, Contains-append_right, filter_passes}
use Rattle.std.proofs.lemmas.List.FromFn.{length-range_with_len, get_or-range_with_len}
use Rattle.std.proofs.lemmas.List.Kept.{IsStrictlyIncreasing-filter}
use Rattle.std.proofs.lemmas.Option.{slice_get-get_or, slice_get_within, get_or_from_slice_get}
use Rattle.mt_text_spec.specs.Registries.{Registry, ValidRegistry}
use Rattle.mt_text_spec.specs.Texts.{Text}
use Rattle.mt_store_spec.specs.Lexicons.{HaveALexicon, IsLexiconOf, Renumbers}
use Rattle.mt_segment_spec.specs.Tables.{AttrTables, Tables, ArePlacesOf, ArePostingsOf, AreBaseTables, AreMappedTables, AreTablesOf, HaveValues, attr_at, attr_values, heads_of, instances_of, tables_at}
use Rattle.mt_segment_laws.specs.Laws.{HaveTables}
use Rattle.mt_segment_laws.proofs.Values.{base_is, image_values}

-- ---- a list whose items are chosen by their numbers

record Chosen {X : Type 0} (P : ℕ → X → Type 0) (many : ℕ) : Type 0 where
  pub items : List X
  pub count : length items ≡ many
  pub each : (k : ℕ) (d : X) → k < many → P k (get_or items k d)

chosen : {X : Type 0} (many : ℕ) (P : ℕ → X → Type 0) → ((k : ℕ) → k < many → (x : X) × P k x) → Chosen P many
chosen zero P choose = record { items = []; count = refl; each = λ k d l. absurd (omega arith) }
chosen {X} (suc many) P choose =
    let rest = chosen many (λ k. P (suc k)) (λ k l. choose (suc k) (omega arith)) in
    record { items = (choose 0 (omega arith)).0 ∷ rest.items; count = ap suc rest.count; each = by (choose 0 (omega arith)) rest }
  where
    by : (first : (x : X) × P 0 x) (rest : Chosen (λ k. P (suc k)) many) (k : ℕ) (d : X) → k < suc many → P k (get_or (first.0 ∷ rest.items) k d)
    by first rest zero d l = first.1
    by first rest (suc k) d l = rest.each k d (omega arith)

-- ---- numbers

-- each value's number in a list that holds them all
some_numbers : (old new : List (List ℕ)) → All (Contains new) old → (numbers : List ℕ) × Renumbers numbers old new
some_numbers old new h = (of.items, record { count = of.count; same = λ k l. of.each k 0 l })
  where
    number : (k : ℕ) → k < length old → (n : ℕ) × (slice_get new n ≡ slice_get old k)
    number k l =
        let (n, m, e) = h k [] l in
        (n, slice_get-get_or new n (get_or old k []) m ∙ ap Some e ∙ sym (slice_get-get_or old k [] l))

    of : Chosen (λ k n. slice_get new n ≡ slice_get old k) (length old)
    of = chosen (length old) (λ k n. slice_get new n ≡ slice_get old k) number

-- ---- places

-- what passes a test is kept by it
kept : (test : ℕ → Bool) (xs : List ℕ) (x k : ℕ) → k < length xs → get_or xs k x ≡ x → test x ≡ true → Contains (filter test xs) x
kept test [] x k l e t = absurd (omega arith)
kept test (y ∷ ys) x zero l e t =
    let passes : test y ≡ true = ap test e ∙ t in
    subst (λ (b : Bool). Contains (cond b (y ∷ filter test ys) (filter test ys)) x) (sym passes) (0, omega arith, e)
kept test (y ∷ ys) x (suc k) l e t = by (test y) (kept test ys x k (omega arith) e t)
  where
    by : (b : Bool) → Contains (filter test ys) x → Contains (cond b (y ∷ filter test ys) (filter test ys)) x
    by true c = Contains-append_right (y ∷ []) (filter test ys) x c
    by false c = c

rising : (many : ℕ) → IsStrictlyIncreasing (range_with_len 0 many)
rising many k l =
    let m : k + 1 < many = omega (arith, length-range_with_len 0 many) in
    omega (arith, get_or-range_with_len 0 many k 0 (omega arith), get_or-range_with_len 0 many (k + 1) 0 m)

in_range : (many : ℕ) → All (λ place. place < many) (range_with_len 0 many)
in_range many = All-from_get_or (λ place. place < many) (range_with_len 0 many) 0 (λ k l.
    let m : k < many = omega (arith, length-range_with_len 0 many) in
    omega (arith, get_or-range_with_len 0 many k 0 m))

module _ (values : List (List ℕ)) where
  -- whether a value stands at a place, and all places where it does
  stands_at : List ℕ → ℕ → Bool
  stands_at value place = bytes_eq (get_or values place []) value

  places : List ℕ → List ℕ
  places value = filter (stands_at value) (range_with_len 0 (length values))

  are_places : (value : List ℕ) → ArePlacesOf value values (places value)
  unfolding places stands_at
  are_places value = record {
    ascending = IsStrictlyIncreasing-filter (stands_at value) (range_with_len 0 (length values)) (rising (length values));
    each = λ k d l.
        let place = get_or (places value) k d in
        let within : place < length values = All-filter (stands_at value) (λ p. p < length values) (range_with_len 0 (length values)) (in_range (length values)) k d l in
        let passes : stands_at value place ≡ true = filter_passes (stands_at value) (range_with_len 0 (length values)) k d l in
        slice_get-get_or values place [] within ∙ ap Some ((bytes_decides (get_or values place []) value).0 passes);
    all = λ place e.
        let within : place < length values = slice_get_within values place value e in
        let is : get_or values place [] ≡ value = get_or_from_slice_get values place value [] e in
        let number : get_or (range_with_len 0 (length values)) place place ≡ place = get_or-range_with_len 0 (length values) place place within ∙ omega arith in
        kept (stands_at value) (range_with_len 0 (length values)) place place (omega (arith, length-range_with_len 0 (length values))) number ((bytes_decides (get_or values place []) value).1 is);
  }

  some_postings : (lexicon : List (List ℕ)) → ArePostingsOf lexicon values (map places lexicon)
  some_postings lexicon = record {
    count = length-map lexicon places;
    each = λ number value at.
        let within : number < length lexicon = slice_get_within lexicon number value at in
        let is : get_or (map places lexicon) number [] ≡ places value = get_or-map places lexicon number [] [] within ∙ ap places (get_or_from_slice_get lexicon number value [] at) in
        subst (ArePlacesOf value values) (sym is) (are_places value);
  }

-- ---- the tables of an attribute

contains_map : (f : List ℕ → List ℕ) (xs : List (List ℕ)) (x : List ℕ) → Contains xs x → Contains (map f xs) (f x)
contains_map f xs x (k, l, e) = (k, omega (arith, length-map xs f), get_or-map f xs k x (f x) l ∙ ap f e)

-- with this base and lexicon, whose numbers stand for these values
record HasTables (base : Option ℕ) (values numbered lexicon : List (List ℕ)) (tables : AttrTables) : Type 0 where
  pub based : tables.base ≡ base
  pub same : tables.lexicon ≡ lexicon
  pub have : HaveValues values tables
  pub numbers : Renumbers tables.numbers numbered tables.lexicon

some_attr : (base : Option ℕ) (values numbered lexicon : List (List ℕ)) → IsLexiconOf values lexicon → All (Contains lexicon) numbered → (tables : AttrTables) × HasTables base values numbered lexicon tables
some_attr base values numbered lexicon is there =
    let numbers = some_numbers numbered lexicon there in
    let tables : AttrTables = record { base = base; lexicon = lexicon; numbers = numbers.0; postings = map (places values) lexicon } in
    (tables, record { based = refl; same = refl; have = record { lexicon = is; postings = some_postings values lexicon }; numbers = numbers.1 })

module _ (a_lexicon : HaveALexicon) (images : List ℕ → List ℕ → List ℕ) (registry : Registry) (corpus : List Text) (valid : ValidRegistry registry) where
  -- the lexicon of an attribute
  lexicon : (number : ℕ) → (lexicon : List (List ℕ)) × IsLexiconOf (attr_values images registry corpus number) lexicon
  lexicon number = a_lexicon (attr_values images registry corpus number)

  -- what the numbers of an attribute with this base stand for
  numbered : ℕ → Option ℕ → List (List ℕ)
  numbered number None = attr_values images registry corpus number
  numbered number (Some base) = map (images (attr_at registry number).mapper) (lexicon base).0

  -- the image of each value of the base is there
  images_there : (number base : ℕ) → number < length registry.attrs → (attr_at registry number).base ≡ Some base → All (Contains (lexicon number).0) (map (images (attr_at registry number).mapper) (lexicon base).0)
  images_there number base l some =
      let image = images (attr_at registry number).mapper in
      let values = attr_values images registry corpus base in
      let mapped : attr_values images registry corpus number ≡ map image values = image_values images registry corpus number base some (base_is registry valid number base l some).1 in
      let all : All (Contains (lexicon number).0) (map image values) = subst (All (Contains (lexicon number).0)) mapped (lexicon number).1.all in
      All-map (Contains (lexicon number).0) image (lexicon base).0
      (All-weaker (Contains values) (λ v. Contains (lexicon number).0 (image v)) (λ v c. All-contains (Contains (lexicon number).0) (map image values) (image v) all (contains_map image values v c)) (lexicon base).0
      (lexicon base).1.only)

  all_there : (number : ℕ) → number < length registry.attrs → (base : Option ℕ) → (attr_at registry number).base ≡ base → All (Contains (lexicon number).0) (numbered number base)
  unfolding numbered
  all_there number l None none = (lexicon number).1.all
  all_there number l (Some base) some = images_there number base l some

  -- the tables of all attributes
  abbrev HasTablesAt : ℕ → AttrTables → Type 0
  HasTablesAt number tables = HasTables (attr_at registry number).base (attr_values images registry corpus number) (numbered number (attr_at registry number).base) (lexicon number).0 tables

  attrs : Chosen HasTablesAt (length registry.attrs)
  attrs = chosen (length registry.attrs) HasTablesAt (λ number l.
      some_attr (attr_at registry number).base (attr_values images registry corpus number) (numbered number (attr_at registry number).base) (lexicon number).0 (lexicon number).1 (all_there number l (attr_at registry number).base refl))

  base_made : (number : ℕ) → number < length registry.attrs → (attr_at registry number).base ≡ None → AreBaseTables (attr_values images registry corpus number) (tables_at attrs.items number)
  unfolding numbered
  base_made number l none =
      let has = attrs.each number (tables_at [] 0) l in
      record {
        unmapped = has.based ∙ none;
        have = has.have;
        numbers = subst (λ (o : Option ℕ). Renumbers (tables_at attrs.items number).numbers (numbered number o) (tables_at attrs.items number).lexicon) none has.numbers;
      }

  mapped_made : (number base : ℕ) → number < length registry.attrs → (attr_at registry number).base ≡ Some base →
      AreMappedTables base (images (attr_at registry number).mapper) (tables_at attrs.items base).lexicon (attr_values images registry corpus number) (tables_at attrs.items number)
  unfolding numbered
  mapped_made number base l some =
      let has = attrs.each number (tables_at [] 0) l in
      let image = images (attr_at registry number).mapper in
      let under : (tables_at attrs.items base).lexicon ≡ (lexicon base).0 = (attrs.each base (tables_at [] 0) (base_is registry valid number base l some).0).same in
      let numbers : Renumbers (tables_at attrs.items number).numbers (map image (lexicon base).0) (tables_at attrs.items number).lexicon =
      subst (λ (o : Option ℕ). Renumbers (tables_at attrs.items number).numbers (numbered number o) (tables_at attrs.items number).lexicon) some has.numbers in
      record {
        mapped = has.based ∙ some;
        have = has.have;
        numbers = subst (λ (vs : List (List ℕ)). Renumbers (tables_at attrs.items number).numbers (map image vs) (tables_at attrs.items number).lexicon) (sym under) numbers;
      }

  -- the instances of all kinds
  structs : Chosen (λ kind spans. spans ≡ instances_of kind corpus) (length registry.kinds)
  structs = chosen (length registry.kinds) (λ kind spans. spans ≡ instances_of kind corpus) (λ kind l. (instances_of kind corpus, refl))

  all_tables : (tables : Tables) × AreTablesOf images registry corpus tables
  all_tables = (
    record { texts = heads_of corpus; attrs = attrs.items; structs = structs.items },
    record {
      texts = refl;
      attr_count = attrs.count;
      bases = λ number l none. base_made number l none;
      mapped = λ number base l some. mapped_made number base l some;
      kind_count = structs.count;
      structs = λ kind l. structs.each kind [] l;
    },
  )

pub some_tables : HaveALexicon → HaveTables
some_tables a_lexicon images registry corpus valid = all_tables a_lexicon images registry corpus valid
