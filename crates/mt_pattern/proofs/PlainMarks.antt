-- Which values of a lexicon a text of plain characters accepts: the text itself.
use Rattle.std.proofs.Common.{◌≡◌, ◌≢◌, ℕ, ◌<◌, ◌≤◌, ◌⊎◌, ◌↔◌, inl, inr, Bool, true, false, List, [], ◌∷◌, ◌++◌, length, get_or, set, replicate, slice_get, Option, Some, None, is_some, IfSome, IfNone, refl, sym, ◌∙◌, ap, subst, arith, true≢false, codes, encode_utf8, encode_utf8_all, IsUtf8}
use Rattle.std.specs.List.{AllPass, Contains}
use Rattle.std.specs.Str.{chars}
use Rattle.std.proofs.lemmas.Bool.{cases_lt, cases_eq}
use Rattle.std.proofs.lemmas.Bool.Decides.{nat_tests}
use Rattle.std.proofs.lemmas.List.{length-set, length-replicate, get_or-set_same, get_or-set_other, get_or-replicate}
use Rattle.std.proofs.lemmas.List.Elements.{All-head, All-drop}
use Rattle.std.proofs.lemmas.Option.{slice_get-get_or, slice_get_within, get_or_from_slice_get, same_Some, none-some}
use Rattle.std.proofs.lemmas.Str.{chars-append, encodes-chars, encode_ascii}
use Rattle.std.proofs.Math.Seq.{drop-append_seam}
use Rattle.std.proofs.lemmas.Cmp.{tied_itself}
use Rattle.std.specs.Cmp.Lexicographic.{slice_cmp, nat_list_cmp_total}
use Rattle.std.specs.Ordering.{nat_cmp}
use Rattle.std.specs.declared.cmp.Ordering.TheVariants.{Equal}
use Rattle.regex.specs.Patterns.{find_str, default_config}
use Rattle.regex_syntax.specs.Grammar.{Names, read}
use Rattle.regex_syntax.specs.Verdict.{is_meta, escaped_text}
use Rattle.mt_store_spec.specs.Lexicons.{IsBelow, IsAscending}
use Rattle.mt_pattern_spec.specs.Patterns.{IsPattern, Accepts, MarksAccepted, finds, finds_read, reading, wrapped}
use Rattle.mt_pattern.specs.Plain.{AcceptsJust, is_plain_byte}
use Rattle.mt_pattern.proofs.PlainReading.{whole, marked, is_read_as}
use Rattle.mt_pattern.proofs.PlainMatching.{only_itself, itself_too}

-- ---- plain characters

plain_char : (c : ℕ) → is_plain_byte c ≡ true → is_meta c ≡ false
plain_char c h = grind (arith, nat_tests)

far_char : (c : ℕ) → 128 ≤ c → is_meta c ≡ false
far_char c h = grind (arith, nat_tests)

char_is : (c : ℕ) (rest : List ℕ) → AllPass is_plain_byte (encode_utf8 c ++ rest) → is_meta c ≡ false
char_is c rest all = by (cases_lt c 128)
  where
    by : (c < 128) ⊎ (128 ≤ c) → is_meta c ≡ false
    by (inl l) = plain_char c (All-head (λ b. is_plain_byte b ≡ true) c rest (subst (λ (e : List ℕ). AllPass is_plain_byte (e ++ rest)) (encode_ascii c l) all))
    by (inr l) = far_char c l

others_are : (front rest : List ℕ) → AllPass is_plain_byte (front ++ rest) → AllPass is_plain_byte rest
others_are front rest all =
    subst (AllPass is_plain_byte) (drop-append_seam front rest) (All-drop (λ b. is_plain_byte b ≡ true) (length front) (front ++ rest) all)

plain_text : (cs : List ℕ) → AllPass is_plain_byte (encode_utf8_all cs) → escaped_text cs ≡ cs
plain_text [] all = refl
plain_text (c ∷ cs) all =
    rw (char_is c (encode_utf8_all cs) all) (ap (λ (l : List ℕ). c ∷ l) (plain_text cs (others_are (encode_utf8 c) (encode_utf8_all cs) all)))

-- ---- what it is read as

before_is : chars (codes "\\A(?:") ≡ 0x5C ∷ 0x41 ∷ 0x28 ∷ 0x3F ∷ 0x3A ∷ []
unfolding chars
before_is = refl

after_is : chars (codes ")\\z") ≡ 0x29 ∷ 0x5C ∷ 0x7A ∷ []
unfolding chars
after_is = refl

marks_are : (text : List ℕ) → IsUtf8 text → chars (wrapped text) ≡ marked (chars text)
unfolding lib.Utf8.encode
marks_are text utf8 =
    chars-append (codes "\\A(?:") (text ++ codes ")\\z") (0x5C ∷ 0x41 ∷ 0x28 ∷ 0x3F ∷ 0x3A ∷ [], (refl, refl))
    ∙ ap (λ (t : List ℕ). chars (codes "\\A(?:") ++ t) (chars-append text (codes ")\\z") utf8)
    ∙ ap (λ (t : List ℕ). t ++ (chars text ++ chars (codes ")\\z"))) before_is
    ∙ ap (λ (t : List ℕ). 0x5C ∷ 0x41 ∷ 0x28 ∷ 0x3F ∷ 0x3A ∷ chars text ++ t) after_is

-- ---- marks of one value

same_value : (a b : List ℕ) → Some a ≡ Some b → a ≡ b
same_value a b e = cc

same_some : (a b : Bool) → Some a ≡ Some b → a ≡ b
same_some a b e = cc

abbrev nothing : ℕ → List Bool
nothing count = replicate count false

not_marked : (count k : ℕ) → k < count → slice_get (nothing count) k ≡ Some false
not_marked count k l =
    slice_get-get_or (nothing count) k true (omega (arith, length-replicate count false)) ∙ ap (λ b. Some b) (get_or-replicate count k false true l)

marked_here : (count k : ℕ) → k < count → slice_get (set (nothing count) k true) k ≡ Some true
marked_here count k l =
    let m : k < length (nothing count) = omega (arith, length-replicate count false) in
    slice_get-get_or (set (nothing count) k true) k false (omega (arith, length-set (nothing count) k true)) ∙ ap (λ b. Some b) (get_or-set_same (nothing count) k true false m)

marked_elsewhere : (count place k : ℕ) → k < count → k ≢ place → slice_get (set (nothing count) place true) k ≡ Some false
marked_elsewhere count place k l apart =
    slice_get-get_or (set (nothing count) place true) k true (omega (arith, length-set (nothing count) place true, length-replicate count false))
    ∙ ap (λ b. Some b) (get_or-set_other (nothing count) place k true true apart ∙ get_or-replicate count k false true l)

below_itself : (value : List ℕ) → IsBelow value value → ⊥
below_itself value h = let e : slice_cmp nat_cmp value value ≡ Equal = tied_itself nat_list_cmp_total value in cc

-- a value has one place in an ascending list
one_place : (lexicon : List (List ℕ)) (value : List ℕ) (i j : ℕ) → IsAscending lexicon → slice_get lexicon i ≡ Some value → slice_get lexicon j ≡ Some value → i < j → ⊥
one_place lexicon value i j rising at there l =
    let first : get_or lexicon i [] ≡ value = get_or_from_slice_get lexicon i value [] at in
    let second : get_or lexicon j [] ≡ value = get_or_from_slice_get lexicon j value [] there in
    let below : IsBelow (get_or lexicon i []) (get_or lexicon j []) = rising i j [] l (slice_get_within lexicon j value there) in
    below_itself value (subst (λ (v : List ℕ). IsBelow v value) first (subst (IsBelow (get_or lexicon i [])) second below))

module _ (text : List ℕ) (utf8 : IsUtf8 text) (plain : AllPass is_plain_byte text) where
  spelt : encode_utf8_all (chars text) ≡ text
  spelt = encodes-chars text utf8

  read_so : (names : Names) × (reading (wrapped text) ≡ Some (whole (chars text), names))
  read_so =
      let r = is_read_as (chars text) (plain_text (chars text) (subst (AllPass is_plain_byte) (sym spelt) plain)) in
      (r.0, ap (read default_config) (marks_are text utf8) ∙ r.1)

  finds_so : (value : List ℕ) → finds (wrapped text) value ≡ is_some (find_str (whole (chars text)).value value 0)
  finds_so value = ap (λ o. finds_read o value) read_so.1

  only : (value : List ℕ) → finds (wrapped text) value ≡ true → value ≡ text
  only value h = only_itself (chars text) value (sym (finds_so value) ∙ h) ∙ spelt

  found : (value : List ℕ) → value ≡ text → finds (wrapped text) value ≡ true
  found value e = finds_so value ∙ itself_too (chars text) value (subst IsUtf8 (sym e) utf8) (e ∙ sym spelt)

  -- ---- the marks

  pub marks_none : (lexicon : List (List ℕ)) (count : ℕ) (marks : List Bool) → marks ≡ nothing count → count ≡ length lexicon → ¬ Contains lexicon text →
      MarksAccepted text lexicon marks
  marks_none lexicon count marks e n absent = record {
    count = ap length e ∙ length-replicate count false ∙ n;
    exactly = λ id value at.
        let l : id < length lexicon = slice_get_within lexicon id value at in (
          λ yes.
              let no : slice_get marks id ≡ Some false = ap (λ m. slice_get m id) e ∙ not_marked count id (omega arith) in
              absurd (true≢false (same_some true false (sym yes ∙ no))),
          λ accepts.
              absurd (absent (id, l, get_or_from_slice_get lexicon id value text at ∙ only value accepts.found)),
        );
  }

  pub marks_one : (lexicon : List (List ℕ)) (count place : ℕ) (marks : List Bool) → marks ≡ set (nothing count) place true → count ≡ length lexicon → IsAscending lexicon →
      slice_get lexicon place ≡ Some text → IsPattern text → IsPattern (wrapped text) → MarksAccepted text lexicon marks
  marks_one lexicon count place marks e n rising at alone together = record {
    count = ap length e ∙ length-set (nothing count) place true ∙ length-replicate count false ∙ n;
    exactly = λ id value there. by id value there (slice_get_within lexicon id value there) (cases_eq id place);
  }
    where
      by : (id : ℕ) (value : List ℕ) → slice_get lexicon id ≡ Some value → id < length lexicon → (id ≡ place) ⊎ (id ≢ place) → slice_get marks id ≡ Some true ↔ Accepts text value
      by id value there l (inl same) =
          let is : value ≡ text = same_value value text (sym there ∙ ap (slice_get lexicon) same ∙ at) in (
            λ yes. record { alone = alone; whole = together; found = found value is },
            λ accepts. ap (λ m. slice_get m id) e ∙ ap (λ k. slice_get (set (nothing count) k true) id) (sym same) ∙ marked_here count id (omega arith),
          )
      by id value there l (inr apart) = (
        λ yes. absurd (true≢false (same_some true false (sym yes ∙ ap (λ m. slice_get m id) e ∙ marked_elsewhere count place id (omega arith) apart))),
        λ accepts. absurd (elsewhere id (there ∙ ap (λ (v : List ℕ). Some v) (only value accepts.found)) apart (cases_lt id place)),
      )
        where
          elsewhere : (id : ℕ) → slice_get lexicon id ≡ Some text → id ≢ place → (id < place) ⊎ (place ≤ id) → ⊥
          elsewhere id is apart (inl low) = one_place lexicon text id place rising is at low
          elsewhere id is apart (inr high) = one_place lexicon text place id rising at is (omega arith)

  -- ---- the number

  pub just : (lexicon : List (List ℕ)) (only : Option ℕ) → IsAscending lexicon → IfSome only (λ place. slice_get lexicon place ≡ Some text) → IfNone only (¬ Contains lexicon text) →
      IsPattern text → IsPattern (wrapped text) → AcceptsJust text lexicon only
  just lexicon None rising at absent alone together = λ number value there. (
    λ e. absurd (none-some number e),
    λ accepts. absurd (absent (number, slice_get_within lexicon number value there, get_or_from_slice_get lexicon number value text there ∙ only value accepts.found)),
  )
  just lexicon (Some place) rising at absent alone together = λ number value there. (
    λ e.
        let same : place ≡ number = same_Some place number e in
        let is : value ≡ text = same_value value text (sym there ∙ ap (slice_get lexicon) (sym same) ∙ at) in
        record { alone = alone; whole = together; found = found value is },
    λ accepts. ap Some (by number (there ∙ ap (λ (v : List ℕ). Some v) (only value accepts.found)) (cases_lt number place) (cases_lt place number)),
  )
    where
      by : (number : ℕ) → slice_get lexicon number ≡ Some text → (number < place) ⊎ (place ≤ number) → (place < number) ⊎ (number ≤ place) → place ≡ number
      by number there (inl low) other = absurd (one_place lexicon text number place rising there at low)
      by number there (inr l) (inl high) = absurd (one_place lexicon text place number rising at there high)
      by number there (inr l) (inr m) = omega arith
