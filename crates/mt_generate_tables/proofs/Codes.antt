-- Tokens that are told by codes, and their values.
use Rattle.std.proofs.Common.{◌≡◌, ℕ, zero, suc, ◌+◌, ◌*◌, ◌/◌, ◌%◌, ◌==◌, ◌<◌, ◌≤◌, Bool, true, false, List, [], ◌∷◌, ◌++◌, length, map, take, get_or, set, replicate, slice_get, Some, refl, sym, ◌∙◌, ap, ap₂, subst, arith, append_assoc, append-nil, length-append, ◌⊎◌, inl, inr}
use Rattle.std.specs.Int.{from_bool}
use Rattle.std.specs.List.{All, Contains, range_with_len}
use Rattle.rayon.specs.Shown.{run-append}
use Rattle.std.specs.Option.{option_map}
use Rattle.std.proofs.lemmas.Bool.{cases_lt, cases_eq}
use Rattle.std.proofs.lemmas.List.{map-append, map_more, length-map, length-set, length-replicate, map_push, get_or-map, get_or_default, get_or-set_same, get_or-set_other, get_or_append_left, get_or-append-add, take_more}
use Rattle.std.proofs.lemmas.List.Concat.{flat_map-append}
use Rattle.std.proofs.lemmas.List.Elements.{All-append, All-push, All-from_get_or, Contains-append_left, Contains-append_right}
use Rattle.std.proofs.lemmas.Option.{slice_get-get_or, slice_get-map}
use Rattle.mt_text_spec.specs.Texts.{Token, value_of}
use Rattle.mt_lexicon.specs.Joins.{renumbered}
use Rattle.mt_store_spec.specs.Lexicons.{IsLexiconOf, Renumbers, seen_with}
use Rattle.mt_segment.specs.Numbered.{IsNumbered, stands_for}
use Rattle.mt_segment.proofs.Numbered.{values_more}
use Rattle.mt_generate_spec.specs.Generated.{token_of, token_at, tokens_from}
use Rattle.mt_generate.proofs.Ranges.{map_range_more}
use Rattle.mt_generate_tables.specs.Coded.{AreDrawn, AreMarked, AreMarksOfBoth, AreSeen, IsTableOf, StandBeside, TellsNumbers, all_codes, token_coded, tokens_of, values_of}

-- ---- codes of tokens

pub token_back : (rank : ℕ) (plural : Bool) (one : ℕ) → one ≡ from_bool plural → token_coded (2 * rank + one) ≡ token_of rank plural
token_back rank true one e =
    let half : (2 * rank + one) / 2 ≡ rank = omega arith in
    let odd : (2 * rank + one) % 2 ≡ 1 = omega arith in
    ap₂ token_of half (ap (λ (n : ℕ). n == 1) odd)
token_back rank false one e =
    let half : (2 * rank + one) / 2 ≡ rank = omega arith in
    let even : (2 * rank + one) % 2 ≡ 0 = omega arith in
    ap₂ token_of half (ap (λ (n : ℕ). n == 1) even)

-- the next token of a seed
pub one_drawn : (seed begin count : ℕ) (codes more : List ℕ) (token : Token) (code from place : ℕ) → tokens_of codes ≡ tokens_from seed begin count → token_coded code ≡ token → token ≡ token_at from place → from ≡ seed → place ≡ begin + count →
    more ≡ codes ++ code ∷ [] → tokens_of more ≡ tokens_from seed begin (count + 1)
one_drawn seed begin count codes more token code from place all coded is same here e =
    let at : token_coded code ≡ token_at seed (begin + count) = coded ∙ is ∙ ap₂ token_at same here in
    ap tokens_of e ∙ map_push token_coded codes code ∙ ap₂ (λ (ts : List Token) (t : Token). ts ++ t ∷ []) all at ∙ sym (map_range_more (token_at seed) begin count)

-- tokens of a seed, and those behind them
both_drawn : (seed from some more count : ℕ) (first others : List ℕ) → some + more ≡ count → tokens_of first ≡ tokens_from seed from some → tokens_of others ≡ tokens_from seed (from + some) more → tokens_of (first ++ others) ≡ tokens_from seed from count
both_drawn seed from some more count first others all g h =
    map-append token_coded first others ∙ ap₂ (λ (a b : List Token). a ++ b) g h ∙ sym (map-append (token_at seed) (range_with_len from some) (range_with_len (from + some) more)) ∙ ap (map (token_at seed)) (run-append from some more ∙ ap (range_with_len from) all)

-- the codes of parts, and of others behind them
pub codes_of_both : (first others both : List (List ℕ)) → both ≡ first ++ others → all_codes both ≡ all_codes first ++ all_codes others
codes_of_both first others both e = ap all_codes e ∙ flat_map-append (λ part. part) first others

-- the codes of one more part go through a table
pub one_part_more : (table : List ℕ) (parts : List (List ℕ)) (k : ℕ) (part old new all : List ℕ) → k < length parts → part ≡ get_or parts k part → old ≡ all ++ renumbered table (all_codes (take k parts)) → new ≡ old ++ renumbered table part →
    new ≡ all ++ renumbered table (all_codes (take (k + 1) parts))
one_part_more table parts k part old new all l is h e =
    let whole : all_codes (take (k + 1) parts) ≡ all_codes (take k parts) ++ part =
    ap all_codes (take_more parts k part l) ∙ flat_map-append (λ p. p) (take k parts) (get_or parts k part ∷ []) ∙ ap (λ p. all_codes (take k parts) ++ p) (append-nil (get_or parts k part) ∙ sym is) in
    e ∙ ap (λ ns. ns ++ renumbered table part) h ∙ append_assoc all (renumbered table (all_codes (take k parts))) (renumbered table part)
    ∙ ap (λ ns. all ++ ns) (sym (map-append (λ n. get_or table n 0) (all_codes (take k parts)) part)) ∙ ap (λ cs. all ++ renumbered table cs) (sym whole)

of_left : (P : ℕ → Type 0) (xs ys : List ℕ) → All P (xs ++ ys) → All P xs
of_left P xs ys h = λ j d m. subst P (get_or_append_left xs ys d j m) (h j d (omega (arith, length-append xs ys, m)))

of_right : (P : ℕ → Type 0) (xs ys : List ℕ) → All P (xs ++ ys) → All P ys
of_right P xs ys h = λ j d m. subst P (get_or-append-add xs ys j d) (h (length xs + j) d (omega (arith, length-append xs ys, m)))

-- what is so of all codes is so of those of a part
pub of_part : (P : ℕ → Type 0) (parts : List (List ℕ)) (k : ℕ) (d : List ℕ) → All P (all_codes parts) → k < length parts → All P (get_or parts k d)
of_part P [] k d h l = absurd (omega (arith, l))
of_part P (part ∷ parts) zero d h l = of_left P part (all_codes parts) h
of_part P (part ∷ parts) (suc k) d h l = of_part P parts k d (of_right P part (all_codes parts) h) (omega (arith, l))

-- ---- marks

never : (count code : ℕ) → get_or (replicate count false) code false ≡ false
never zero code = refl
never (suc count) zero = refl
never (suc count) (suc code) = never count code

pub true-false : {X : Type 0} → true ≡ false → X
true-false e = let wrong : ⊥ = cc in absurd wrong

pub none_marked : (marks : List Bool) → marks ≡ replicate 2000 false → AreMarked 2000 [] marks
none_marked marks e = record {
  low = λ k d l. absurd (omega arith);
  all = λ k d l. absurd (omega arith);
  only = λ code l m. true-false (sym m ∙ ap (λ (ms : List Bool). get_or ms code false) e ∙ never 2000 code);
}

-- a mark is set
abbrev pub IsSet : List Bool → ℕ → Type 0
IsSet marks code = get_or marks code false ≡ true

-- a mark that is set is one of the list
within : (marks : List Bool) (code : ℕ) → IsSet marks code → code < length marks
within [] code m = true-false (sym m)
within (mark ∷ marks) zero m = omega arith
within (mark ∷ marks) (suc code) m = omega (arith, within marks code m)

below : (k place : ℕ) → k < place + 1 → (k ≡ place → ⊥) → (k < place) ⊎ (place ≤ k) → k < place
below k place m another (inl l) = l
below k place m another (inr l) = absurd (another (omega arith))

-- a code is drawn
pub one_marked : (codes more : List ℕ) (marks : List Bool) (code : ℕ) → AreMarked 2000 codes marks → length marks ≡ 2000 → code < 2000 → more ≡ codes ++ code ∷ [] → AreMarked 2000 more (set marks code true)
one_marked codes more marks code h long low e = rw e (record {
  low = All-push (λ (n : ℕ). n < 2000) codes code h.low low;
  all = All-push (IsSet (set marks code true)) codes code (λ k d l. kept (get_or codes k d) (h.all k d l) (cases_eq (get_or codes k d) code)) here;
  only = λ other l m. found other l m (cases_eq other code);
})
  where
    here : IsSet (set marks code true) code
    here = get_or-set_same marks code true false (omega (arith, long, low))

    kept : (other : ℕ) → IsSet marks other → (other ≡ code) ⊎ (other ≡ code → ⊥) → IsSet (set marks code true) other
    kept other m (inl same) = subst (IsSet (set marks code true)) (sym same) here
    kept other m (inr differs) = get_or-set_other marks code other true false differs ∙ m

    found : (other : ℕ) → other < 2000 → IsSet (set marks code true) other → (other ≡ code) ⊎ (other ≡ code → ⊥) → Contains (codes ++ code ∷ []) other
    found other l m (inl same) = rw same (Contains-append_right codes (code ∷ []) code (0, omega arith, refl))
    found other l m (inr differs) = Contains-append_left codes (code ∷ []) other (h.only other l (sym (get_or-set_other marks code other true false differs) ∙ m))

-- the marks of two lists of codes are those of both
both_marked : (first others : List ℕ) (some more all : List Bool) → AreMarked 2000 first some → AreMarked 2000 others more → AreMarksOfBoth some more all → AreMarked 2000 (first ++ others) all
both_marked first others some more all g h m = record {
  low = All-append (λ (n : ℕ). n < 2000) first others g.low h.low;
  all = All-append (IsSet all) first others (λ k d l. m.first (get_or first k d) (g.all k d l)) (λ k d l. m.second (get_or others k d) (h.all k d l));
  only = λ code l set. found code l (m.only code set);
}
  where
    found : (code : ℕ) → code < 2000 → IsSet some code ⊎ IsSet more code → Contains (first ++ others) code
    found code l (inl set) = Contains-append_left first others code (g.only code l set)
    found code l (inr set) = Contains-append_right first others code (h.only code l set)

pub drawn_together : (seed from some begin more count : ℕ) (first others both : List ℕ) (marks other_marks all : List Bool) → begin ≡ from + some → some + more ≡ count → AreDrawn seed from some first marks → AreDrawn seed begin more others other_marks →
    both ≡ first ++ others → AreMarksOfBoth marks other_marks all → AreDrawn seed from count both all
drawn_together seed from some begin more count first others both marks other_marks all here sum g h e m = rw e (record {
  tokens = both_drawn seed from some more count first others sum g.tokens (h.tokens ∙ ap (λ (n : ℕ). tokens_from seed n more) here);
  marked = both_marked first others marks other_marks all g.marked h.marked m;
  long = m.long ∙ g.long;
})

-- the marks of both, up to a place of the others
pub record AreMarksUpTo (some others : List Bool) (place : ℕ) (all : List Bool) : Type 0 where
  pub long : length all ≡ length some
  pub first : (code : ℕ) → IsSet some code → IsSet all code
  pub second : (code : ℕ) → code < place → IsSet others code → IsSet all code
  pub only : (code : ℕ) → IsSet all code → IsSet some code ⊎ IsSet others code

pub first_marks : (some others : List Bool) → AreMarksUpTo some others 0 some
first_marks some others = record { long = refl; first = λ code m. m; second = λ code l m. absurd (omega (arith, l)); only = λ code m. inl m }

pub marks_set : (some others : List Bool) (place : ℕ) (all : List Bool) → AreMarksUpTo some others place all → place < length some → IsSet others place → AreMarksUpTo some others (place + 1) (set all place true)
marks_set some others place all h l there = record {
  long = length-set all place true ∙ h.long;
  first = λ code m. kept code (h.first code m) (cases_eq code place);
  second = λ code low m. next code low m (cases_eq code place);
  only = λ code m. only code m (cases_eq code place);
}
  where
    here : IsSet (set all place true) place
    here = get_or-set_same all place true false (omega (arith, l, h.long))

    kept : (code : ℕ) → IsSet all code → (code ≡ place) ⊎ (code ≡ place → ⊥) → IsSet (set all place true) code
    kept code m (inl same) = subst (IsSet (set all place true)) (sym same) here
    kept code m (inr differs) = get_or-set_other all place code true false differs ∙ m

    next : (code : ℕ) → code < place + 1 → IsSet others code → (code ≡ place) ⊎ (code ≡ place → ⊥) → IsSet (set all place true) code
    next code low m (inl same) = subst (IsSet (set all place true)) (sym same) here
    next code low m (inr differs) = get_or-set_other all place code true false differs ∙ h.second code (below code place low differs (cases_lt code place)) m

    only : (code : ℕ) → IsSet (set all place true) code → (code ≡ place) ⊎ (code ≡ place → ⊥) → IsSet some code ⊎ IsSet others code
    only code m (inl same) = inr (subst (IsSet others) (sym same) there)
    only code m (inr differs) = h.only code (sym (get_or-set_other all place code true false differs) ∙ m)

pub marks_passed : (some others : List Bool) (place : ℕ) (all : List Bool) → AreMarksUpTo some others place all → (IsSet others place → ⊥) → AreMarksUpTo some others (place + 1) all
marks_passed some others place all h none = record {
  long = h.long;
  first = h.first;
  second = λ code low m. h.second code (below code place low (λ same. none (subst (IsSet others) same m)) (cases_lt code place)) m;
  only = h.only;
}

pub all_marks : (some others : List Bool) (place : ℕ) (all : List Bool) → AreMarksUpTo some others place all → length others ≤ place → AreMarksOfBoth some others all
all_marks some others place all h done = record {
  long = h.long;
  first = h.first;
  second = λ code m. h.second code (omega (arith, done, within others code m)) m;
  only = h.only;
}

-- what was drawn and what is listed have the same marks
pub are_seen : (seen drawn : List ℕ) (marks : List Bool) → AreMarked 2000 drawn marks → AreMarked 2000 seen marks → length seen ≤ 2000 → AreSeen seen drawn
are_seen seen drawn marks h g few = record {
  low = g.low;
  few = few;
  all = λ k d l. g.only (get_or drawn k d) (h.low k d l) (h.all k d l);
  only = λ k d l. h.only (get_or seen k d) (g.low k d l) (g.all k d l);
}

-- ---- the values of codes

abbrev value : ℕ → ℕ → List ℕ
value column code = value_of (token_coded code) column

pub no_values : (seen : List (List ℕ)) (numbers : List ℕ) → length seen ≡ 0 → numbers ≡ [] → IsNumbered seen numbers
no_values seen numbers none e = rw e (record { within = λ k d l. absurd (omega arith); only = λ k d l. absurd (omega (arith, none)); few = omega (arith, none) })

values_are : (column : ℕ) (codes : List ℕ) → values_of column (tokens_of codes) ≡ map (value column) codes
values_are column [] = refl
values_are column (code ∷ codes) = ap (λ (vs : List (List ℕ)). value column code ∷ vs) (values_are column codes)

-- the value of the next code
pub value_next : (column i : ℕ) (codes : List ℕ) (before after : List (List ℕ)) (old new : List ℕ) (number : ℕ) → i < length codes → IsNumbered before old → stands_for before old ≡ values_of column (tokens_of (take i codes)) →
    after ≡ seen_with before (value column (get_or codes i 0)) → slice_get after number ≡ Some (value column (get_or codes i 0)) → new ≡ old ++ number ∷ [] → stands_for after new ≡ values_of column (tokens_of (take (i + 1) codes))
value_next column i codes before after old new number l h g seen found more =
    ap (stands_for after) more ∙ values_more before after old (value column (get_or codes i 0)) number h seen found
    ∙ ap (λ (vs : List (List ℕ)). vs ++ value column (get_or codes i 0) ∷ []) (g ∙ values_are column (take i codes)) ∙ sym (values_are column (take (i + 1) codes) ∙ map_more (value column) codes i 0 l)

value_at : (column : ℕ) (codes : List ℕ) (k : ℕ) → k < length codes → slice_get (values_of column (tokens_of codes)) k ≡ Some (value column (get_or codes k 0))
value_at column codes k l = ap (λ (vs : List (List ℕ)). slice_get vs k) (values_are column codes) ∙ slice_get-map (value column) codes k ∙ ap (option_map (value column)) (slice_get-get_or codes k 0 l)

length_values : (column : ℕ) (codes : List ℕ) → length (values_of column (tokens_of codes)) ≡ length codes
length_values column codes = ap length (values_are column codes) ∙ length-map codes (value column)

value_read : (column : ℕ) (codes : List ℕ) (k : ℕ) (d : List ℕ) → k < length codes → get_or (values_of column (tokens_of codes)) k d ≡ value column (get_or codes k 0)
value_read column codes k d l = ap (λ (vs : List (List ℕ)). get_or vs k d) (values_are column codes) ∙ get_or-map (value column) codes k 0 d l

has_value : (column : ℕ) (codes : List ℕ) (code : ℕ) → Contains codes code → Contains (values_of column (tokens_of codes)) (value column code)
has_value column codes code (k, l, e) = (k, omega (arith, l, length_values column codes), value_read column codes k (value column code) l ∙ ap (value column) (get_or_default codes k 0 code l ∙ e))

of_all : {X : Type 0} (P : X → Type 0) (xs : List X) (x : X) → All P xs → Contains xs x → P x
of_all P xs x h (k, l, e) = subst P e (h k x l)

-- ---- a table of all codes

pub no_table : (codes numbers table : List ℕ) → table ≡ replicate 2000 0 → IsTableOf codes numbers 0 table
no_table codes numbers table e = record { long = ap length e ∙ length-replicate {A = ℕ} 2000 0; at = λ k l. absurd (omega arith) }

pub one_put : (codes numbers table : List ℕ) (place code number : ℕ) → IsTableOf codes numbers place table → All (λ code. code < 2000) codes → place < length codes → code ≡ get_or codes place 0 → number ≡ get_or numbers place 0 →
    IsTableOf codes numbers (place + 1) (set table code number)
one_put codes numbers table place code number h low l here is = record {
  long = length-set table code number ∙ h.long;
  at = λ k m. at k m (cases_eq (get_or codes k 0) code);
}
  where
    at : (k : ℕ) → k < place + 1 → (get_or codes k 0 ≡ code) ⊎ (get_or codes k 0 ≡ code → ⊥) → StandBeside codes numbers (place + 1) (get_or codes k 0) (get_or (set table code number) (get_or codes k 0) 0)
    at k m (inl same) = record {
      place = place;
      within = omega arith;
      has_code = sym (same ∙ here);
      has_number = sym (ap (λ (c : ℕ). get_or (set table code number) c 0) same ∙ get_or-set_same table code number 0 (omega (arith, h.long, here, low place 0 l)) ∙ is);
    }
    at k m (inr differs) =
        let another : k ≡ place → ⊥ = λ e. differs (ap (λ (j : ℕ). get_or codes j 0) e ∙ sym here) in
        let b = h.at k (below k place m another (cases_lt k place)) in
        record {
          place = b.place;
          within = omega (arith, b.within);
          has_code = b.has_code;
          has_number = b.has_number ∙ sym (get_or-set_other table code (get_or codes k 0) number 0 differs);
        }

pub tells : (column : ℕ) (codes : List ℕ) (lexicon : List (List ℕ)) (numbers table : List ℕ) → Renumbers numbers (values_of column (tokens_of codes)) lexicon → IsTableOf codes numbers (length codes) table → TellsNumbers column codes lexicon table
tells column codes lexicon numbers table g h = record { long = h.long; at = at }
  where
    at : (code : ℕ) → Contains codes code → slice_get lexicon (get_or table code 0) ≡ Some (value column code)
    at code (k, l, e) =
        let here : get_or codes k 0 ≡ code = get_or_default codes k 0 code l ∙ e in
        let b = h.at k l in
        let number : get_or table code 0 ≡ get_or numbers b.place 0 = sym (b.has_number ∙ ap (λ (c : ℕ). get_or table c 0) here) in
        ap (slice_get lexicon) number ∙ g.same b.place (omega (arith, b.within, length_values column codes)) ∙ value_at column codes b.place b.within ∙ ap (λ (c : ℕ). Some (value column c)) (b.has_code ∙ here)

-- ---- the values of all tokens

-- codes that were drawn are of the table
pub drawn_low : (seen drawn : List ℕ) → AreSeen seen drawn → All (λ code. code < 2000) drawn
drawn_low seen drawn h = λ k d l. of_all (λ code. code < 2000) seen (get_or drawn k d) h.low (h.all k d l)

module _ (column : ℕ) (seen drawn : List ℕ) (h : AreSeen seen drawn) where
  pub column_numbers : (table : List ℕ) (lexicon : List (List ℕ)) → TellsNumbers column seen lexicon table → Renumbers (renumbered table drawn) (values_of column (tokens_of drawn)) lexicon
  column_numbers table lexicon t = record {
    count = length-map drawn (λ n. get_or table n 0) ∙ sym (length_values column drawn);
    same = λ k l.
        let within : k < length drawn = omega (arith, length_values column drawn) in
        ap (slice_get lexicon) (get_or-map (λ (n : ℕ). get_or table n 0) drawn k 0 0 within) ∙ t.at (get_or drawn k 0) (h.all k 0 within) ∙ sym (value_at column drawn k within);
  }

  pub column_lexicon : (lexicon : List (List ℕ)) → IsLexiconOf (values_of column (tokens_of seen)) lexicon → IsLexiconOf (values_of column (tokens_of drawn)) lexicon
  column_lexicon lexicon g = record {
    ascending = g.ascending;
    all = All-from_get_or (Contains lexicon) (values_of column (tokens_of drawn)) [] (λ k l.
        let within : k < length drawn = omega (arith, length_values column drawn) in
        let is : get_or (values_of column (tokens_of drawn)) k [] ≡ value column (get_or drawn k 0) = value_read column drawn k [] within in
        rw is (of_all (Contains lexicon) (values_of column (tokens_of seen)) (value column (get_or drawn k 0)) g.all (has_value column seen (get_or drawn k 0) (h.all k 0 within))));
    only = All-from_get_or (Contains (values_of column (tokens_of drawn))) lexicon [] (λ k l.
        let (j, m, e) = g.only k [] l in
        let within : j < length seen = omega (arith, m, length_values column seen) in
        let is : value column (get_or seen j 0) ≡ get_or lexicon k [] = sym (value_read column seen j (get_or lexicon k []) within) ∙ e in
        subst (Contains (values_of column (tokens_of drawn))) is (has_value column drawn (get_or seen j 0) (h.only j 0 within)));
  }
