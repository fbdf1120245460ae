-- What tables tell of tokens with a value is what the texts have.
use Rattle.std.proofs.Common.{◌≡◌, ℕ, zero, suc, ◌+◌, ◌-◌, ◌<◌, ◌≤◌, ◌==◌, ◌⊎◌, inl, inr, Bool, true, false, cond, List, [], ◌∷◌, ◌++◌, length, map, take, get_or, slice_get, Some, sum, refl, sym, ◌∙◌, ap, ap₂, subst, arith}
use Rattle.std.specs.List.{All, AllByRecursion, AllZip, Contains, count_by, filter, flat_map, sum_by, range_with_len}
use Rattle.std.specs.List.Sorted.{IsStrictlySortedBy}
use Rattle.std.specs.Ordering.{nat_cmp}
use Rattle.std.specs.declared.cmp.Ordering.TheVariants.{Less}
use Rattle.std.specs.Str.{bytes_eq}
use Rattle.std.specs.Cmp.Lexicographic.{bytes_decides}
use Rattle.std.proofs.lemmas.Bool.{cases_lt, eq-eqb, ne_eqb, cases_eq}
use Rattle.std.proofs.lemmas.Grind.{common_steps}
use Rattle.std.proofs.lemmas.List.{get_or_append_left, get_or-map, length-map, take_all}
use Rattle.std.proofs.lemmas.List.Concat.{flat_map-append}
use Rattle.std.proofs.lemmas.List.Elements.{All-from_recursion, recursion_from_All}
use Rattle.std.proofs.lemmas.List.Kept.{AllPairs-from_increasing}
use Rattle.std.proofs.lemmas.List.Sums.{sum_by-append, sum_by-cons}
use Rattle.std.proofs.lemmas.Map.Keys.{IsStrictlyIncreasing-from_sorted}
use Rattle.std.proofs.lemmas.Option.{same_Some, slice_get-get_or, slice_get_within, get_or_from_slice_get}
use Rattle.mt_text_spec.specs.Registries.{Registry, ValidRegistry}
use Rattle.mt_text_spec.specs.Texts.{Span, Text}
use Rattle.mt_store_spec.specs.Lexicons.{IsAscending}
use Rattle.mt_match_spec.specs.Values.{Images, value_at}
use Rattle.mt_segment_spec.specs.Tables.{Tables, AreTables, AreTablesOf, first_place, number_at, tables_at, token_count}
use Rattle.mt_segment_laws.specs.Laws.{NumbersStandForValues, TokensStandInTexts}
use Rattle.mt_segment_laws.proofs.Values.{have, one_number}
use Rattle.mt_corpus_spec.specs.Groups.{Group, all_texts, corpus_of, live_texts}
use Rattle.mt_report_spec.specs.Held.{LieInSome, StandFor, live_numbers}
use Rattle.mt_report_spec.specs.Counts.{token_values, tokens_with}
use Rattle.mt_reports.specs.Told.{told_value}
use Rattle.mt_reports.proofs.Found.{zip_at, zip_length}
use Rattle.mt_reports.proofs.Told.{text_behind, tokens_told, value_told}
use Rattle.mt_frequencies.specs.Tokens.{ArePassed, AreTextNumbers, live_tokens_with, text_places, text_tokens_with, told_tokens_with}
use Rattle.mt_frequencies.proofs.Places.{first_before, postings_count}

-- ## Counts that are the same

zero_less : (n : ℕ) → 0 + n ≡ n
zero_less n = omega arith

-- a test of places, and one of what stands there
same_counts : {X : Type 0} (p : ℕ → Bool) (q : X → Bool) (at : ℕ → X) (a b count : ℕ) → ((k : ℕ) → k < count → p (a + k) ≡ q (at (b + k))) → count_by p (range_with_len a count) ≡ count_by q (map at (range_with_len b count))
same_counts p q at a b zero same = refl
same_counts p q at a b (suc count) same =
    let left : a + 0 ≡ a = omega arith in
    let right : b + 0 ≡ b = omega arith in
    let here : p a ≡ q (at b) = ap p (sym left) ∙ same 0 (omega arith) ∙ ap (λ (n : ℕ). q (at n)) right in
    let rest = same_counts p q at (a + 1) (b + 1) count (λ k l.
    let e : a + 1 + k ≡ a + suc k = omega arith in
    let f : b + suc k ≡ b + 1 + k = omega arith in
    ap p e ∙ same (suc k) (omega arith) ∙ ap (λ (n : ℕ). q (at n)) f) in
    sum_by-cons (λ x. cond (p x) 1 0) a (range_with_len (a + 1) count)
    ∙ ap₂ ◌+◌ (ap (λ (b : Bool). cond b 1 0) here) rest
    ∙ sym (sum_by-cons (λ x. cond (q x) 1 0) (at b) (map at (range_with_len (b + 1) count)))

-- two tests of places
same_tests : (p q : ℕ → Bool) (a count : ℕ) → ((k : ℕ) → a ≤ k → k < a + count → p k ≡ q k) → count_by p (range_with_len a count) ≡ count_by q (range_with_len a count)
same_tests p q a zero same = refl
same_tests p q a (suc count) same =
    sum_by-cons (λ x. cond (p x) 1 0) a (range_with_len (a + 1) count)
    ∙ ap₂ ◌+◌ (ap (λ (b : Bool). cond b 1 0) (same a (omega arith) (omega arith))) (same_tests p q (a + 1) count (λ k l m. same k (omega arith) (omega arith)))
    ∙ sym (sum_by-cons (λ x. cond (q x) 1 0) a (range_with_len (a + 1) count))

none_passes : (a count : ℕ) → count_by (λ (k : ℕ). false) (range_with_len a count) ≡ 0
none_passes a zero = refl
none_passes a (suc count) = sum_by-cons (λ x. cond false 1 0) a (range_with_len (a + 1) count) ∙ zero_less _ ∙ none_passes (a + 1) count

same_sums : {X : Type 0} (f g : X → ℕ) (xs : List X) → AllByRecursion (λ x. f x ≡ g x) xs → sum_by f xs ≡ sum_by g xs
same_sums f g [] all = refl
same_sums f g (x ∷ xs) all = sum_by-cons f x xs ∙ ap₂ ◌+◌ all.0 (same_sums f g xs all.1) ∙ sym (sum_by-cons g x xs)

no_sum : {X : Type 0} (xs : List X) → sum_by (λ (x : X). 0) xs ≡ 0
no_sum [] = refl
no_sum (x ∷ xs) = sum_by-cons (λ x. 0) x xs ∙ zero_less _ ∙ no_sum xs

same_each : {X : Type 0} (P : X → Type 0) (xs : List X) (f g : X → ℕ) → AllByRecursion P xs → ((x : X) → P x → f x ≡ g x) → AllByRecursion (λ x. f x ≡ g x) xs
same_each P [] f g all same = tt
same_each P (x ∷ xs) f g all same = (same x all.0, same_each P xs f g all.1 same)

-- ## Numbers of live texts

above : (m first : ℕ) (group : Group) → m < first → AllByRecursion (λ n. nat_cmp m n ≡ Less) (live_numbers first group)
above m first [] l = tt
above m first (member ∷ members) l = by member.1 (above m (first + 1) members (omega arith))
  where
    less : nat_cmp m first ≡ Less
    less = grind (arith, common_steps, l)

    by : (b : Bool) → AllByRecursion (λ n. nat_cmp m n ≡ Less) (live_numbers (first + 1) members) → AllByRecursion (λ n. nat_cmp m n ≡ Less) (cond b (first ∷ live_numbers (first + 1) members) (live_numbers (first + 1) members))
    by true rest = (less, rest)
    by false rest = rest

live_up : (first : ℕ) (group : Group) → IsStrictlySortedBy nat_cmp (live_numbers first group)
unfolding IsStrictlySortedBy
live_up first [] = tt
live_up first (member ∷ members) = by member.1 (live_up (first + 1) members)
  where
    by : (b : Bool) → IsStrictlySortedBy nat_cmp (live_numbers (first + 1) members) → IsStrictlySortedBy nat_cmp (cond b (first ∷ live_numbers (first + 1) members) (live_numbers (first + 1) members))
    by true rest = (above first (first + 1) members (omega arith), rest)
    by false rest = rest

live_within : (count first : ℕ) (group : Group) → first + length group ≤ count → AllByRecursion (λ n. n < count) (live_numbers first group)
live_within count first [] l = tt
live_within count first (member ∷ members) l = by member.1 (live_within count (first + 1) members (omega arith))
  where
    by : (b : Bool) → AllByRecursion (λ n. n < count) (live_numbers (first + 1) members) → AllByRecursion (λ n. n < count) (cond b (first ∷ live_numbers (first + 1) members) (live_numbers (first + 1) members))
    by true rest = (omega arith, rest)
    by false rest = rest

pub numbers_there : (images : Images) (registry : Registry) (group : Group) (tables : Tables) → AreTablesOf images registry (all_texts group) tables → AreTextNumbers tables (live_numbers 0 group)
numbers_there images registry group tables are = record {
  ascending = AllPairs-from_increasing (live_numbers 0 group) (IsStrictlyIncreasing-from_sorted (live_numbers 0 group) (live_up 0 group));
  within = All-from_recursion (λ n. n < length tables.texts) (live_numbers 0 group)
      (live_within (length tables.texts) 0 group (omega (arith, ap length are.texts, length-map {B = List ℕ × ℕ} (all_texts group) (λ (t : Text). (t.name, length t.tokens)), length-map {B = Text} group (λ (m : Text × Bool). m.0))));
}

-- those of a segment
pub live_there : (segments : List Tables) (live : List (List ℕ)) (spans : List Span) → LieInSome segments live spans → (k : ℕ) (tables : Tables) (numbers : List ℕ) → k < length segments → AreTextNumbers (get_or segments k tables) (get_or live k numbers)
live_there segments live spans some k tables numbers l =
    let stand = some.stand in
    let count = zip_length _ some.groups segments stand.tables in
    let within : k < length some.groups = omega (arith, l, count) in
    let are = zip_at _ some.groups segments k [] tables stand.tables within in
    subst (AreTextNumbers (get_or segments k tables)) (sym (ap (λ (all : List (List ℕ)). get_or all k numbers) stand.marks ∙ get_or-map (live_numbers 0) some.groups k [] numbers within))
    (numbers_there some.images some.registry (get_or some.groups k []) (get_or segments k tables) are)

pub as_many : (segments : List Tables) (live : List (List ℕ)) (spans : List Span) → LieInSome segments live spans → length live ≡ length segments
as_many segments live spans some = ap length some.stand.marks ∙ length-map some.groups (live_numbers 0) ∙ zip_length _ some.groups segments some.stand.tables

-- one segment more has its counts
pub passed_each : (segments : List Tables) (attr : ℕ) (live all : List (List ℕ)) (numbers : List ℕ) (n : ℕ) (tables : Tables) → length all ≡ n → ((k : ℕ) (tables : Tables) → k < n → ArePassed (get_or segments k tables) attr (get_or live k []) (get_or all k [])) →
    ((tables : Tables) → ArePassed (get_or segments n tables) attr (get_or live n []) numbers) → (k : ℕ) (tables : Tables) → k < n + 1 → ArePassed (get_or segments k tables) attr (get_or live k []) (get_or (all ++ numbers ∷ []) k [])
passed_each segments attr live all numbers n tables count before here k other l = elim (cases_lt k n) [
  | inl less ↦ subst (ArePassed (get_or segments k other) attr (get_or live k [])) (sym (get_or_append_left all (numbers ∷ []) [] k (omega arith))) (before k other less)
  | inr past ↦
      let same : k ≡ length all = omega (arith, l, past, count) in
      let last : k ≡ n = omega (arith, l, past) in
      subst (λ (m : ℕ). ArePassed (get_or segments m other) attr (get_or live m []) (get_or (all ++ numbers ∷ []) k [])) (sym last)
      (subst (ArePassed (get_or segments n other) attr (get_or live n [])) (sym (ap (λ (m : ℕ). get_or (all ++ numbers ∷ []) m []) same ∙ at_end all)) (here other))
]
  where
    at_end : (xs : List (List ℕ)) → get_or (xs ++ numbers ∷ []) (length xs) [] ≡ numbers
    at_end [] = refl
    at_end (x ∷ xs) = at_end xs

-- ## By numbers and by values

module _ (law : NumbersStandForValues) (tables : Tables) (known : AreTables tables) (attr : ℕ) (l : attr < length tables.attrs) (value : List ℕ) where
  lexicon : List (List ℕ)
  lexicon = (tables_at tables.attrs attr).lexicon

  told_there : (place : ℕ) → place < token_count tables → slice_get (tables_at tables.attrs attr).lexicon (number_at tables attr place) ≡ Some (told_value tables attr place)
  told_there place m =
      let by = known.under.by in
      let stands = law known.under.images known.registry by.corpus tables by.valid by.are attr place l m in
      slice_get-get_or (tables_at tables.attrs attr).lexicon (number_at tables attr place) [] (slice_get_within (tables_at tables.attrs attr).lexicon (number_at tables attr place) _ stands)

  up : IsAscending (tables_at tables.attrs attr).lexicon
  up = let by = known.under.by in (have known.under.images known.registry by.corpus tables by.are attr (omega (arith, l, by.are.attr_count))).lexicon.ascending

  same_test : (number place : ℕ) → slice_get (tables_at tables.attrs attr).lexicon number ≡ Some value → place < token_count tables → (number_at tables attr place == number) ≡ bytes_eq value (told_value tables attr place)
  same_test number place at m = by (cases_eq (number_at tables attr place) number)
    where
      by : (number_at tables attr place ≡ number) ⊎ (number_at tables attr place ≡ number → ⊥) → (number_at tables attr place == number) ≡ bytes_eq value (told_value tables attr place)
      by (inl same) =
          let is : value ≡ told_value tables attr place = same_Some value (told_value tables attr place) (sym at ∙ ap (slice_get (tables_at tables.attrs attr).lexicon) (sym same) ∙ told_there place m) in
          eq-eqb (number_at tables attr place) number same ∙ sym ((bytes_decides value (told_value tables attr place)).1 is)
      by (inr differ) = ne_eqb (number_at tables attr place) number differ ∙ sym (apart (bytes_eq value (told_value tables attr place)) refl)
        where
          apart : (b : Bool) → bytes_eq value (told_value tables attr place) ≡ b → bytes_eq value (told_value tables attr place) ≡ false
          apart false e = e
          apart true e =
              let is : value ≡ told_value tables attr place = (bytes_decides value (told_value tables attr place)).0 e in
              absurd (differ (one_number (tables_at tables.attrs attr).lexicon (number_at tables attr place) number value up (told_there place m ∙ ap Some (sym is)) at))

  in_tokens : (text place : ℕ) → text < length tables.texts → place < first_place tables (text + 1) → place < token_count tables
  in_tokens text place m n =
      let all : first_place tables (length tables.texts) ≡ token_count tables = ap (λ (heads : List (List ℕ × ℕ)). sum (map (λ head. head.1) heads)) (take_all (length tables.texts) tables.texts (omega arith)) in
      omega (arith, n, all, first_before tables (text + 1) (length tables.texts) (omega arith))

  pub by_number : (number : ℕ) (live : List ℕ) → AreTextNumbers tables live → slice_get (tables_at tables.attrs attr).lexicon number ≡ Some value → sum_by (text_places tables attr number) live ≡ live_tokens_with tables attr live value
  by_number number live numbers at =
      same_sums (text_places tables attr number) (text_tokens_with tables attr value) live
      (same_each (λ text. text < length tables.texts) live (text_places tables attr number) (text_tokens_with tables attr value) (recursion_from_All (λ text. text < length tables.texts) live numbers.within)
      (λ text m.
      same_tests (λ place. number_at tables attr place == number) (λ place. bytes_eq value (told_value tables attr place)) (first_place tables text) (first_place tables (text + 1) - first_place tables text)
      (λ place n o. same_test number place at (in_tokens text place m (omega (arith, n, o, first_before tables text (text + 1) (omega arith)))))))

  -- where the lexicon lacks it
  pub by_none : (live : List ℕ) → AreTextNumbers tables live → (Contains (tables_at tables.attrs attr).lexicon value → ⊥) → 0 ≡ live_tokens_with tables attr live value
  by_none live numbers lacks =
      sym (no_sum live)
      ∙ same_sums (λ text. 0) (text_tokens_with tables attr value) live
      (same_each (λ text. text < length tables.texts) live (λ text. 0) (text_tokens_with tables attr value) (recursion_from_All (λ text. text < length tables.texts) live numbers.within)
      (λ text m.
      sym (none_passes (first_place tables text) (first_place tables (text + 1) - first_place tables text))
      ∙ same_tests (λ place. false) (λ place. bytes_eq value (told_value tables attr place)) (first_place tables text) (first_place tables (text + 1) - first_place tables text)
      (λ place n o. sym (apart place (in_tokens text place m (omega (arith, n, o, first_before tables text (text + 1) (omega arith)))) (bytes_eq value (told_value tables attr place)) refl))))
    where
      apart : (place : ℕ) → place < token_count tables → (b : Bool) → bytes_eq value (told_value tables attr place) ≡ b → bytes_eq value (told_value tables attr place) ≡ false
      apart place m false e = e
      apart place m true e =
          let is : value ≡ told_value tables attr place = (bytes_decides value (told_value tables attr place)).0 e in
          let there = told_there place m in
          let within = slice_get_within (tables_at tables.attrs attr).lexicon (number_at tables attr place) (told_value tables attr place) there in
          absurd (lacks (number_at tables attr place, within, get_or_from_slice_get (tables_at tables.attrs attr).lexicon (number_at tables attr place) (told_value tables attr place) value there ∙ sym is))

-- of the tokens with a value those that are passed over are not live, and all others are
pub left_over : NumbersStandForValues → (tables : Tables) → AreTables tables → (attr : ℕ) → attr < length tables.attrs → (value : List ℕ) (number : ℕ) (live passed : List ℕ) → AreTextNumbers tables live → ArePassed tables attr live passed →
    slice_get (tables_at tables.attrs attr).lexicon number ≡ Some value → get_or passed number 0 + live_tokens_with tables attr live value ≡ length (get_or (tables_at tables.attrs attr).postings number [])
left_over law tables known attr l value number live passed numbers are at =
    let within = slice_get_within (tables_at tables.attrs attr).lexicon number value at in
    omega (arith, are.each number within, by_number law tables known attr l value number live numbers at, postings_count law tables known attr number l within)

-- ## The corpus

-- a sum over the numbers of live texts is one over the texts
live_sum : (f : ℕ → ℕ) (of : Text → ℕ) (first : ℕ) (group : Group) → ((k : ℕ) (text : Text) → slice_get (all_texts group) k ≡ Some text → f (first + k) ≡ of text) → sum_by f (live_numbers first group) ≡ sum_by of (live_texts group)
live_sum f of first [] same = refl
live_sum f of first (member ∷ members) same = by member.1 (live_sum f of (first + 1) members (λ k text e. let next : first + 1 + k ≡ first + suc k = omega arith in ap f next ∙ same (suc k) text e))
  where
    here : f first ≡ of member.0
    here = let none : first ≡ first + 0 = omega arith in ap f none ∙ same 0 member.0 refl

    by : (b : Bool) → sum_by f (live_numbers (first + 1) members) ≡ sum_by of (live_texts members) →
        sum_by f (cond b (first ∷ live_numbers (first + 1) members) (live_numbers (first + 1) members)) ≡ sum_by of (map (λ (m : Text × Bool). m.0) (cond b (member ∷ filter (λ (m : Text × Bool). m.1) members) (filter (λ (m : Text × Bool). m.1) members)))
    by true r = sum_by-cons f first (live_numbers (first + 1) members) ∙ ap₂ ◌+◌ here r ∙ sym (sum_by-cons of member.0 (live_texts members))
    by false r = r

count_flat : {X Y : Type 0} (test : Y → Bool) (f : X → List Y) (xs : List X) → count_by test (flat_map f xs) ≡ sum_by (λ x. count_by test (f x)) xs
count_flat test f [] = refl
count_flat test f (x ∷ xs) =
    sum_by-append (λ y. cond (test y) 1 0) (f x) (flat_map f xs) ∙ ap (λ (n : ℕ). count_by test (f x) + n) (count_flat test f xs) ∙ sym (sum_by-cons (λ x. count_by test (f x)) x xs)

module _ (stand_for : NumbersStandForValues) (tokens : TokensStandInTexts) (images : Images) (registry : Registry) (valid : ValidRegistry registry) (attr : ℕ) (value : List ℕ) where
  text_told : (texts : List Text) (tables : Tables) → attr < length tables.attrs → AreTablesOf images registry texts tables → (number : ℕ) (text : Text) → slice_get texts number ≡ Some text →
      text_tokens_with tables attr value number ≡ count_by (bytes_eq value) (token_values images registry attr text)
  text_told texts tables l are number text there =
      let within : number < length tables.texts = omega (arith, slice_get_within texts number text there, ap length are.texts, length-map {B = List ℕ × ℕ} texts (λ (t : Text). (t.name, length t.tokens))) in
      let size : first_place tables (number + 1) - first_place tables number ≡ length text.tokens = omega (arith, text_behind tables number within, tokens_told stand_for tokens images registry texts tables valid are number text there) in
      let declared : attr < length registry.attrs = omega (arith, l, are.attr_count) in
      ap (λ (n : ℕ). count_by (λ place. bytes_eq value (told_value tables attr place)) (range_with_len (first_place tables number) n)) size
      ∙ same_counts (λ place. bytes_eq value (told_value tables attr place)) (bytes_eq value) (value_at images registry text attr) (first_place tables number) 0 (length text.tokens)
      (λ k m. ap (bytes_eq value) (value_told stand_for tokens images registry texts tables valid are number text there attr k declared m ∙ ap (value_at images registry text attr) (sym (zero_less k))))

  segment_told : (group : Group) (tables : Tables) → attr < length tables.attrs → AreTablesOf images registry (all_texts group) tables → live_tokens_with tables attr (live_numbers 0 group) value ≡ tokens_with images registry (live_texts group) attr value
  segment_told group tables l are =
      live_sum (text_tokens_with tables attr value) (λ text. count_by (bytes_eq value) (token_values images registry attr text)) 0 group
      (λ k text there. ap (text_tokens_with tables attr value) (zero_less k) ∙ text_told (all_texts group) tables l are k text there)
      ∙ sym (count_flat (bytes_eq value) (token_values images registry attr) (live_texts group))

  corpus_told : (groups : List Group) (segments : List Tables) → AllByRecursion (λ tables. attr < length tables.attrs) segments → AllZip (λ group tables. AreTablesOf images registry (all_texts group) tables) groups segments →
      told_tokens_with segments attr (map (live_numbers 0) groups) value ≡ tokens_with images registry (corpus_of groups) attr value
  corpus_told [] [] all are = refl
  corpus_told [] (tables ∷ segments) all are = absurd are
  corpus_told (group ∷ groups) [] all are = absurd are
  corpus_told (group ∷ groups) (tables ∷ segments) all are =
      ap₂ ◌+◌ (segment_told group tables all.0 are.0) (corpus_told groups segments all.1 are.1)
      ∙ sym (
      ap (count_by (bytes_eq value)) (flat_map-append (token_values images registry attr) (live_texts group) (corpus_of groups))
      ∙ sum_by-append (λ v. cond (bytes_eq value v) 1 0) (flat_map (token_values images registry attr) (live_texts group)) (flat_map (token_values images registry attr) (corpus_of groups)))

-- for all for which the segments stand
pub tokens_told_by : NumbersStandForValues → TokensStandInTexts → (images : Images) (registry : Registry) (groups : List Group) (segments : List Tables) (live : List (List ℕ)) → StandFor images registry groups segments live →
    (attr : ℕ) → All (λ tables. attr < length tables.attrs) segments → (value : List ℕ) → told_tokens_with segments attr live value ≡ tokens_with images registry (corpus_of groups) attr value
tokens_told_by stand_for tokens images registry groups segments live stand attr all value =
    ap (λ (numbers : List (List ℕ)). told_tokens_with segments attr numbers value) stand.marks
    ∙ corpus_told stand_for tokens images registry stand.valid attr value groups segments (recursion_from_All (λ tables. attr < length tables.attrs) segments all) stand.tables

regroup : (a b c : ℕ) → a + (b + c) ≡ a + b + c
regroup a b c = omega arith

-- one segment more
pub told_more : (segments : List Tables) (live : List (List ℕ)) (attr : ℕ) (value : List ℕ) (k : ℕ) (tables : Tables) (numbers : List ℕ) → k < length segments → k < length live →
    told_tokens_with (take (k + 1) segments) attr (take (k + 1) live) value ≡ told_tokens_with (take k segments) attr (take k live) value + live_tokens_with (get_or segments k tables) attr (get_or live k numbers) value
told_more [] live attr value k tables numbers l m = absurd (omega arith)
told_more (t ∷ ts) [] attr value k tables numbers l m = absurd (omega arith)
told_more (t ∷ ts) (ns ∷ live) attr value zero tables numbers l m = by ts live
  where
    by : (ts : List Tables) (live : List (List ℕ)) → told_tokens_with (take 1 (t ∷ ts)) attr (take 1 (ns ∷ live)) value ≡ told_tokens_with (take 0 (t ∷ ts)) attr (take 0 (ns ∷ live)) value + live_tokens_with t attr ns value
    by ts live = omega arith
told_more (t ∷ ts) (ns ∷ live) attr value (suc k) tables numbers l m =
    let rest = told_more ts live attr value k tables numbers (omega arith) (omega arith) in
    let next : suc k + 1 ≡ suc (k + 1) = omega arith in
    let own = live_tokens_with t attr ns value in
    ap (λ (n : ℕ). told_tokens_with (take n (t ∷ ts)) attr (take n (ns ∷ live)) value) next ∙ ap (λ (n : ℕ). own + n) rest
    ∙ regroup own (told_tokens_with (take k ts) attr (take k live) value) (live_tokens_with (get_or ts k tables) attr (get_or live k numbers) value)
