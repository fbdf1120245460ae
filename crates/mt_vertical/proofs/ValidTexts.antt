-- What is read is a valid text.
use Rattle.std.proofs.Common.{◌≡◌, ◌≢◌, ℕ, zero, suc, ◌+◌, ◌<◌, ◌≤◌, inl, inr, Bool, true, false, ◌==◌, if◌then◌else◌, List, [], ◌∷◌, ◌++◌, length, map, codes, refl, sym, ◌∙◌, ap, subst, arith, Some}
use Rattle.std.specs.Prelude.{slice_get}
use Rattle.std.specs.List.{All, AllPairs}
use Rattle.std.specs.Str.{IsUtf8}
use Rattle.std.proofs.lemmas.Bool.{eqb-true}
use Rattle.std.proofs.lemmas.List.Elements.{All-nil, All-cons, All-head, All-tail, All-append, All-weaker, All-same}
use Rattle.std.proofs.lemmas.List.Kept.{AllPairs-cons}
use Rattle.mt_text_spec.specs.Words.{IsName}
use Rattle.mt_text_spec.specs.Registries.{Registry, Kind, base_count}
use Rattle.mt_text_spec.specs.Texts.{Token, StructSpan, Text, ValidValue, ValidToken, ValidStructSpan, ComesBefore, ValidText, text_tokens_limit}
use Rattle.mt_file_spec.specs.Tags.{TagAttr, Tag, OpeningTag, EmptyTag, tag_value}
use Rattle.mt_file_spec.specs.VerticalLines.{Role, Passes, Opens, Stands, Closes, Gives, Plays, IsDeclared, columns, first_columns}
use Rattle.mt_file_spec.specs.Vertical.{NotUtf8, TooManyTokens, ValueTooLong, AreRead, kept, token_in, tokens_in, past, is_tag_of, next_place, begun, instances_from, instances_in, text_lines, without_mark, Vertical}
use Rattle.mt_vertical.specs.Readers.{AreShort}
use Rattle.mt_vertical.proofs.SoFar.{IsGood, place_after, place_is}
use Rattle.mt_vertical.proofs.KeptValues.{IsClean, lines_free, short_from, text_from, columns_clean, first_len, first_clean, all_valid, tag_clean, values_clean, values_len}

-- ## One line

line_text : (registry : Registry) (place : ℕ) (line : List ℕ) → IsGood registry place line → IsUtf8 line
line_text registry place line good = text_from line (good NotUtf8)

kept_short : (registry : Registry) (place : ℕ) (line : List ℕ) (role : Role) → Plays registry line role → IsGood registry place line → AreShort (kept role)
kept_short registry place line role p good = short_from (kept role) (λ long. good ValueTooLong (role, p, long))

token_valid : (registry : Registry) (place : ℕ) (line : List ℕ) (token : Token) → Plays registry line (Gives token) → IsGood registry place line → All (λ b. b ≢ 10) line → ValidToken registry token
token_valid registry place line token p good free = record {
  count = ap length p.are ∙ first_len (base_count registry.attrs) (columns line);
  each = all_valid token.values (All-same IsClean token.values (first_columns (base_count registry.attrs) (columns line)) p.are (first_clean (base_count registry.attrs) (columns line) (columns_clean line (line_text registry place line good) free)))
      (kept_short registry place line (Gives token) p good);
}

declared_clean : (registry : Registry) (line : List ℕ) (kind : ℕ) (values : List (List ℕ)) (tag : List ℕ → List TagAttr → Tag) → (d : IsDeclared registry line tag kind values) →
    All (λ a. IsClean a.value) d.attrs → All IsClean values
declared_clean registry line kind values tag d clean = All-same IsClean values (map (tag_value d.attrs) d.kind.attrs) d.are (values_clean d.attrs d.kind.attrs clean)

opening_clean : (registry : Registry) (line : List ℕ) (kind : ℕ) (values : List (List ℕ)) → IsDeclared registry line OpeningTag kind values → IsUtf8 line → All (λ b. b ≢ 10) line → All IsClean values
opening_clean registry line kind values d u f =
    let s = d.spelled.spelled in
    declared_clean registry line kind values OpeningTag d (tag_clean line d.kind.name s.spelling s.inner (codes ">") s.behind d.attrs s.are s.named s.attributes u f d.spelled.untabbed)

empty_clean : (registry : Registry) (line : List ℕ) (kind : ℕ) (values : List (List ℕ)) → IsDeclared registry line EmptyTag kind values → IsUtf8 line → All (λ b. b ≢ 10) line → All IsClean values
empty_clean registry line kind values d u f =
    let s = d.spelled.spelled in
    declared_clean registry line kind values EmptyTag d (tag_clean line d.kind.name s.spelling s.inner (codes "/>") s.behind d.attrs s.are s.named s.attributes u f d.spelled.untabbed)

declared_len : (registry : Registry) (line : List ℕ) (kind : ℕ) (values : List (List ℕ)) (tag : List ℕ → List TagAttr → Tag) → (d : IsDeclared registry line tag kind values) → length values ≡ length d.kind.attrs
declared_len registry line kind values tag d = ap length d.are ∙ values_len d.attrs d.kind.attrs

-- ## Places

past_at_least : (place : ℕ) (role : Role) → place ≤ past place role
past_at_least place Passes = omega arith
past_at_least place (Opens number values) = omega arith
past_at_least place (Stands number values) = omega arith
past_at_least place (Closes number) = omega arith
past_at_least place (Gives token) = omega arith

after_at_least : (place : ℕ) (roles : List Role) → place ≤ place_after place roles
unfolding place_after
after_at_least place [] = omega arith
after_at_least place (role ∷ roles) = omega (arith, past_at_least place role, after_at_least (past place role) roles)

next_step : (t : Bool) (place next after : ℕ) → place ≤ next → next ≤ after → (place ≤ (if t then place else next)) × ((if t then place else next) ≤ after)
next_step true place next after l h = (omega arith, omega arith)
next_step false place next after l h = (l, h)

next_within : (kind place : ℕ) (roles : List Role) → (place ≤ next_place kind place roles) × (next_place kind place roles ≤ place_after place roles)
unfolding place_after
next_within kind place [] = (omega arith, omega arith)
next_within kind place (role ∷ roles) =
    let more = next_within kind (past place role) roles in
    next_step (is_tag_of kind role) place (next_place kind (past place role) roles) (place_after (past place role) roles) (omega (arith, past_at_least place role, more.0)) more.1

-- ## Tokens

one_valid : (registry : Registry) (place : ℕ) (line : List ℕ) (role : Role) → Plays registry line role → IsGood registry place line → All (λ b. b ≢ 10) line → All (ValidToken registry) (token_in role)
one_valid registry place line Passes p g f = All-nil (ValidToken registry)
one_valid registry place line (Opens number values) p g f = All-nil (ValidToken registry)
one_valid registry place line (Stands number values) p g f = All-nil (ValidToken registry)
one_valid registry place line (Closes number) p g f = All-nil (ValidToken registry)
one_valid registry place line (Gives token) p g f = All-cons (ValidToken registry) token [] (token_valid registry place line token p g f) (All-nil (ValidToken registry))

tokens_valid : (registry : Registry) (place : ℕ) (ls : List (List ℕ)) (roles : List Role) → AreRead registry place ls roles → All (All (λ b. b ≢ 10)) ls → All (ValidToken registry) (tokens_in roles)
tokens_valid registry place [] [] r f = All-nil (ValidToken registry)
tokens_valid registry place [] (role ∷ roles) r f = absurd r
tokens_valid registry place (line ∷ ls) [] r f = absurd r
tokens_valid registry place (line ∷ ls) (role ∷ roles) r f =
    All-append (ValidToken registry) (token_in role) (tokens_in roles) (one_valid registry place line role r.0 r.1 (All-head (All (λ b. b ≢ 10)) line ls f))
    (tokens_valid registry (past place role) ls roles r.2 (All-tail (All (λ b. b ≢ 10)) line ls f))

few_token : (place : ℕ) → place ≤ text_tokens_limit → place ≢ text_tokens_limit → place + 1 ≤ text_tokens_limit
few_token place l n = omega (arith, l, n)

few_step : (registry : Registry) (place : ℕ) (line : List ℕ) (role : Role) → Plays registry line role → IsGood registry place line → place ≤ text_tokens_limit → past place role ≤ text_tokens_limit
few_step registry place line Passes p g l = l
few_step registry place line (Opens number values) p g l = l
few_step registry place line (Stands number values) p g l = l
few_step registry place line (Closes number) p g l = l
few_step registry place line (Gives token) p g l = few_token place l (λ e. g TooManyTokens (e, (token, p)))

few_tokens : (registry : Registry) (place : ℕ) (ls : List (List ℕ)) (roles : List Role) → AreRead registry place ls roles → place ≤ text_tokens_limit → place_after place roles ≤ text_tokens_limit
unfolding place_after
few_tokens registry place [] [] r l = l
few_tokens registry place [] (role ∷ roles) r l = absurd r
few_tokens registry place (line ∷ ls) [] r l = absurd r
few_tokens registry place (line ∷ ls) (role ∷ roles) r l = few_tokens registry (past place role) ls roles r.2 (few_step registry place line role r.0 r.1 l)

-- ## Instances

one_if : (P : StructSpan → Type 0) (t : Bool) (span : StructSpan) → P span → All P (if t then span ∷ [] else [])
one_if P true span p = All-cons P span [] p (All-nil P)
one_if P false span p = All-nil P

opened_valid : (t : Bool) (registry : Registry) (kind number place total : ℕ) (values : List (List ℕ)) (after : List Role) → (number == kind) ≡ t → (declared : Kind) → slice_get registry.kinds number ≡ Some declared →
    length values ≡ length declared.attrs → All ValidValue values → place_after place after ≤ total →
    All (ValidStructSpan registry total) (if t then (record { kind = kind; begin = place; end = next_place kind place after; values = values }) ∷ [] else [])
opened_valid false registry kind number place total values after e declared d n v l = All-nil (ValidStructSpan registry total)
opened_valid true registry kind number place total values after e declared d n v l =
    let same : number ≡ kind = eqb-true number kind e in
    let next = next_within kind place after in
    All-cons (ValidStructSpan registry total) (record { kind = kind; begin = place; end = next_place kind place after; values = values }) [] (record {
      kind = declared;
      declared = ap (slice_get registry.kinds) (sym same) ∙ d;
      order = next.0;
      inside = omega (arith, next.1, l);
      count = n;
      each = v;
    }) (All-nil (ValidStructSpan registry total))

stood_valid : (t : Bool) (registry : Registry) (kind number place total : ℕ) (values : List (List ℕ)) (after : List Role) → (number == kind) ≡ t → (declared : Kind) → slice_get registry.kinds number ≡ Some declared →
    length values ≡ length declared.attrs → All ValidValue values → place_after place after ≤ total →
    All (ValidStructSpan registry total) (if t then (record { kind = kind; begin = place; end = place; values = values }) ∷ [] else [])
stood_valid false registry kind number place total values after e declared d n v l = All-nil (ValidStructSpan registry total)
stood_valid true registry kind number place total values after e declared d n v l =
    let same : number ≡ kind = eqb-true number kind e in
    All-cons (ValidStructSpan registry total) (record { kind = kind; begin = place; end = place; values = values }) [] (record {
      kind = declared;
      declared = ap (slice_get registry.kinds) (sym same) ∙ d;
      order = omega arith;
      inside = omega (arith, after_at_least place after, l);
      count = n;
      each = v;
    }) (All-nil (ValidStructSpan registry total))

-- an instance of this kind in a text of so many tokens
begun_valid : (registry : Registry) (kind place total : ℕ) (line : List ℕ) (role : Role) (after : List Role) → Plays registry line role → IsGood registry place line → All (λ b. b ≢ 10) line →
    place_after (past place role) after ≤ total → All (ValidStructSpan registry total) (begun kind place after role)
begun_valid registry kind place total line Passes after p g f l = All-nil (ValidStructSpan registry total)
begun_valid registry kind place total line (Opens number values) after p g f l =
    opened_valid (number == kind) registry kind number place total values after refl p.kind p.declared (declared_len registry line number values OpeningTag p)
    (all_valid values (opening_clean registry line number values p (line_text registry place line g) f) (kept_short registry place line (Opens number values) p g)) l
begun_valid registry kind place total line (Stands number values) after p g f l =
    stood_valid (number == kind) registry kind number place total values after refl p.kind p.declared (declared_len registry line number values EmptyTag p)
    (all_valid values (empty_clean registry line number values p (line_text registry place line g) f) (kept_short registry place line (Stands number values) p g)) l
begun_valid registry kind place total line (Closes number) after p g f l = All-nil (ValidStructSpan registry total)
begun_valid registry kind place total line (Gives token) after p g f l = All-nil (ValidStructSpan registry total)

instances_valid : (registry : Registry) (kind place total : ℕ) (ls : List (List ℕ)) (roles : List Role) → AreRead registry place ls roles → All (All (λ b. b ≢ 10)) ls → place_after place roles ≤ total →
    All (ValidStructSpan registry total) (instances_from kind place roles)
unfolding place_after
instances_valid registry kind place total [] [] r f l = All-nil (ValidStructSpan registry total)
instances_valid registry kind place total [] (role ∷ roles) r f l = absurd r
instances_valid registry kind place total (line ∷ ls) [] r f l = absurd r
instances_valid registry kind place total (line ∷ ls) (role ∷ roles) r f l =
    All-append (ValidStructSpan registry total) (begun kind place roles role) (instances_from kind (past place role) roles)
    (begun_valid registry kind place total line role roles r.0 r.1 (All-head (All (λ b. b ≢ 10)) line ls f) l)
    (instances_valid registry kind (past place role) total ls roles r.2 (All-tail (All (λ b. b ≢ 10)) line ls f) l)

all_instances_valid : (registry : Registry) (n total : ℕ) (ls : List (List ℕ)) (roles : List Role) → AreRead registry 0 ls roles → All (All (λ b. b ≢ 10)) ls → place_after 0 roles ≤ total →
    All (ValidStructSpan registry total) (instances_in n roles)
all_instances_valid registry zero total ls roles r f l = All-nil (ValidStructSpan registry total)
all_instances_valid registry (suc n) total ls roles r f l =
    All-append (ValidStructSpan registry total) (instances_in n roles) (instances_from n 0 roles) (all_instances_valid registry n total ls roles r f l) (instances_valid registry n 0 total ls roles r f l)

-- ## Their order

-- all are of this kind, and begin at this place or behind it
abbrev FromOn : ℕ → ℕ → StructSpan → Type 0
FromOn kind place span = (span.kind ≡ kind) × (place ≤ span.begin)

begun_from : (kind place least : ℕ) (role : Role) (after : List Role) → least ≤ place → All (FromOn kind least) (begun kind place after role)
begun_from kind place least Passes after l = All-nil (FromOn kind least)
begun_from kind place least (Opens number values) after l =
    one_if (FromOn kind least) (number == kind) (record { kind = kind; begin = place; end = next_place kind place after; values = values }) (refl, l)
begun_from kind place least (Stands number values) after l =
    one_if (FromOn kind least) (number == kind) (record { kind = kind; begin = place; end = place; values = values }) (refl, l)
begun_from kind place least (Closes number) after l = All-nil (FromOn kind least)
begun_from kind place least (Gives token) after l = All-nil (FromOn kind least)

all_from : (kind place least : ℕ) (roles : List Role) → least ≤ place → All (FromOn kind least) (instances_from kind place roles)
all_from kind place least [] l = All-nil (FromOn kind least)
all_from kind place least (role ∷ roles) l =
    All-append (FromOn kind least) (begun kind place roles role) (instances_from kind (past place role) roles) (begun_from kind place least role roles l)
    (all_from kind (past place role) least roles (omega (arith, l, past_at_least place role)))

none_begun : (kind place : ℕ) (role : Role) (after : List Role) → is_tag_of kind role ≡ false → begun kind place after role ≡ []
none_begun kind place Passes after e = refl
none_begun kind place (Opens number values) after e = rw e refl
none_begun kind place (Stands number values) after e = rw e refl
none_begun kind place (Closes number) after e = refl
none_begun kind place (Gives token) after e = refl

-- they begin at the next tag of their kind or behind it
next_cases : (t : Bool) (kind place : ℕ) (role : Role) (roles : List Role) → is_tag_of kind role ≡ t → All (FromOn kind (next_place kind (past place role) roles)) (instances_from kind (past place role) roles) →
    All (FromOn kind (if t then place else next_place kind (past place role) roles)) (begun kind place roles role ++ instances_from kind (past place role) roles)
next_cases true kind place role roles e more = all_from kind place place (role ∷ roles) (omega arith)
next_cases false kind place role roles e more = rw (none_begun kind place role roles e) more

next_from : (kind place : ℕ) (roles : List Role) → All (FromOn kind (next_place kind place roles)) (instances_from kind place roles)
next_from kind place [] = All-nil (FromOn kind place)
next_from kind place (role ∷ roles) = next_cases (is_tag_of kind role) kind place role roles refl (next_from kind (past place role) roles)

pairs_head : {X : Type 0} → (R : X → X → Type 0) (x : X) (xs : List X) → AllPairs R (x ∷ xs) → All (R x) xs
pairs_head R x xs h k d l = h 0 (suc k) d (omega arith) (omega arith)

pairs_tail : {X : Type 0} → (R : X → X → Type 0) (x : X) (xs : List X) → AllPairs R (x ∷ xs) → AllPairs R xs
pairs_tail R x xs h i j d l m = h (suc i) (suc j) d (omega arith) (omega arith)

no_pairs : AllPairs ComesBefore []
no_pairs i j d l m = absurd (omega arith)

one_pair : (t : Bool) (span : StructSpan) → AllPairs ComesBefore (if t then span ∷ [] else [])
one_pair true span i j d l m = absurd (omega arith)
one_pair false span i j d l m = absurd (omega arith)

pairs_both : {X : Type 0} → (R : X → X → Type 0) (xs ys : List X) → AllPairs R xs → AllPairs R ys → All (λ x. All (R x) ys) xs → AllPairs R (xs ++ ys)
pairs_both R [] ys h k c = k
pairs_both R (x ∷ xs) ys h k c =
    AllPairs-cons R x (xs ++ ys) (All-append (R x) xs ys (pairs_head R x xs h) (All-head (λ x. All (R x) ys) x xs c))
    (pairs_both R xs ys (pairs_tail R x xs h) k (All-tail (λ x. All (R x) ys) x xs c))

begun_pairs : (kind place : ℕ) (role : Role) (after : List Role) → AllPairs ComesBefore (begun kind place after role)
begun_pairs kind place Passes after = no_pairs
begun_pairs kind place (Opens number values) after = one_pair (number == kind) (record { kind = kind; begin = place; end = next_place kind place after; values = values })
begun_pairs kind place (Stands number values) after = one_pair (number == kind) (record { kind = kind; begin = place; end = place; values = values })
begun_pairs kind place (Closes number) after = no_pairs
begun_pairs kind place (Gives token) after = no_pairs

begun_before : (kind place : ℕ) (role : Role) (after : List Role) → All (λ span. All (ComesBefore span) (instances_from kind (past place role) after)) (begun kind place after role)
begun_before kind place Passes after = All-nil (λ span. All (ComesBefore span) (instances_from kind place after))
begun_before kind place (Opens number values) after =
    one_if (λ span. All (ComesBefore span) (instances_from kind place after)) (number == kind) (record { kind = kind; begin = place; end = next_place kind place after; values = values })
    (All-weaker (FromOn kind (next_place kind place after)) (ComesBefore (record { kind = kind; begin = place; end = next_place kind place after; values = values }))
    (λ span f. inr (sym f.0, f.1)) (instances_from kind place after) (next_from kind place after))
begun_before kind place (Stands number values) after =
    one_if (λ span. All (ComesBefore span) (instances_from kind place after)) (number == kind) (record { kind = kind; begin = place; end = place; values = values })
    (All-weaker (FromOn kind place) (ComesBefore (record { kind = kind; begin = place; end = place; values = values }))
    (λ span f. inr (sym f.0, f.1)) (instances_from kind place after) (all_from kind place place after (omega arith)))
begun_before kind place (Closes number) after = All-nil (λ span. All (ComesBefore span) (instances_from kind place after))
begun_before kind place (Gives token) after = All-nil (λ span. All (ComesBefore span) (instances_from kind (place + 1) after))

kind_ordered : (kind place : ℕ) (roles : List Role) → AllPairs ComesBefore (instances_from kind place roles)
kind_ordered kind place [] = no_pairs
kind_ordered kind place (role ∷ roles) =
    pairs_both ComesBefore (begun kind place roles role) (instances_from kind (past place role) roles) (begun_pairs kind place role roles) (kind_ordered kind (past place role) roles)
    (begun_before kind place role roles)

-- all are of kinds below
kinds_below : (n : ℕ) (roles : List Role) → All (λ span. span.kind < n) (instances_in n roles)
kinds_below zero roles = All-nil (λ (span : StructSpan). span.kind < 0)
kinds_below (suc n) roles =
    All-append (λ (span : StructSpan). span.kind < suc n) (instances_in n roles) (instances_from n 0 roles)
    (All-weaker (λ (span : StructSpan). span.kind < n) (λ span. span.kind < suc n) (λ span l. omega arith) (instances_in n roles) (kinds_below n roles))
    (All-weaker (FromOn n 0) (λ span. span.kind < suc n) (λ span f. let e : span.kind ≡ n = f.0 in omega arith) (instances_from n 0 roles) (all_from n 0 0 roles (omega arith)))

all_ordered : (n : ℕ) (roles : List Role) → AllPairs ComesBefore (instances_in n roles)
all_ordered zero roles = no_pairs
all_ordered (suc n) roles =
    pairs_both ComesBefore (instances_in n roles) (instances_from n 0 roles) (all_ordered n roles) (kind_ordered n 0 roles)
    (All-weaker (λ (span : StructSpan). span.kind < n) (λ span. All (ComesBefore span) (instances_from n 0 roles))
    (λ span l. All-weaker (FromOn n 0) (ComesBefore span) (λ later f. inl (let e : later.kind ≡ n = f.0 in omega arith)) (instances_from n 0 roles) (all_from n 0 0 roles (omega arith)))
    (instances_in n roles) (kinds_below n roles))

-- ## The text

zero_plus : (n : ℕ) → 0 + n ≡ n
zero_plus n = omega arith

pub valid_text : (registry : Registry) (name bytes : List ℕ) (text : Text) → IsName name → Vertical registry name bytes text → ValidText registry text
valid_text registry name bytes text n v =
    let free : All (All (λ b. b ≢ 10)) (text_lines bytes) = lines_free (without_mark bytes) in
    let count : place_after 0 v.roles ≡ length text.tokens = place_is 0 v.roles ∙ zero_plus (length (tokens_in v.roles)) ∙ ap length (sym v.tokens) in
    record {
      named = subst IsName (sym v.named) n;
      short = subst (λ k. k ≤ text_tokens_limit) count (few_tokens registry 0 (text_lines bytes) v.roles v.read (omega arith));
      tokens = All-same (ValidToken registry) text.tokens (tokens_in v.roles) v.tokens (tokens_valid registry 0 (text_lines bytes) v.roles v.read free);
      structs = All-same (ValidStructSpan registry (length text.tokens)) text.structs (instances_in (length registry.kinds) v.roles) v.structs
          (all_instances_valid registry (length registry.kinds) (length text.tokens) (text_lines bytes) v.roles v.read free (let h : place_after 0 v.roles ≡ length text.tokens = count in omega arith));
      ordered = let P : List StructSpan → Type 0 = λ spans. AllPairs ComesBefore spans in subst P (sym v.structs) (all_ordered (length registry.kinds) v.roles);
    }
