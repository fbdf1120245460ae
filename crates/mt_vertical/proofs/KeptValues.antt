-- Values that lines give are valid.
use Rattle.std.proofs.Common.{◌≡◌, ◌≢◌, ℕ, zero, suc, ◌+◌, ◌<◌, ◌≤◌, ◌⊎◌, inl, inr, Bool, true, false, cond, ◌==◌, if◌then◌else◌, List, [], ◌∷◌, ◌++◌, length, map, take, drop, get_or, ◌-◌, refl, sym, ◌∙◌, ap, subst, arith, append_assoc}
use Rattle.std.specs.List.{All, AllPass, slice_split, onto_first, prefix_len}
use Rattle.std.specs.Str.{IsUtf8, bytes_eq}
use Rattle.std.specs.Str.Lines.{lines, lines_of_parts, strip_carriage_return}
use Rattle.std.proofs.lemmas.Bool.{cases_lt, true≢false, eqb-true, eq-eqb}
use Rattle.std.proofs.lemmas.Grind.{common_steps}
use Rattle.std.proofs.lemmas.List.Elements.{All-nil, All-cons, All-head, All-tail, All-take, All-weaker, All-same, All-from_recursion}
use Rattle.std.proofs.lemmas.List.{take-append-drop, get_or_past}
use Rattle.std.proofs.lemmas.List.Splits.{slice_split_at, slice_split_none}
use Rattle.std.proofs.lemmas.List.Sums.{prefix_len_stops}
use Rattle.std.proofs.lemmas.Str.{IsUtf8-from_is_utf8, is_utf8-from_IsUtf8, IsUtf8-from_ascii}
use Rattle.std.specs.Str.{is_utf8}
use Rattle.mt_text_spec.specs.Texts.{ValidValue, value_bytes_limit}
use Rattle.mt_file_spec.specs.Tags.{differs, is_quote, IsTagName, TagAttr, SpellsAttrs, tag_value, missing}
use Rattle.mt_file_spec.specs.VerticalLines.{columns, first_columns}
use Rattle.mt_vertical.specs.Readers.{AreShort, HasLong}
use Rattle.mt_vertical.proofs.Steps.{front_passes}
use Rattle.mt_vertical.proofs.Utf8.{utf8_before, utf8_behind, behind_name}

-- ## Parts of lists

pub all_left : {X : Type 0} → (P : X → Type 0) (xs ys : List X) → All P (xs ++ ys) → All P xs
all_left P [] ys all = All-nil P
all_left P (x ∷ xs) ys all = All-cons P x xs (All-head P x (xs ++ ys) all) (all_left P xs ys (All-tail P x (xs ++ ys) all))

pub all_right : {X : Type 0} → (P : X → Type 0) (xs ys : List X) → All P (xs ++ ys) → All P ys
all_right P [] ys all = all
all_right P (x ∷ xs) ys all = all_right P xs ys (All-tail P x (xs ++ ys) all)

-- each part of a split has what the whole has
onto_all : (P : ℕ → Type 0) (x : ℕ) (parts : List (List ℕ)) → P x → All (All P) parts → All (All P) (onto_first x parts)
onto_all P x [] p all = All-cons (All P) (x ∷ []) [] (All-cons P x [] p (All-nil P)) (All-nil (All P))
onto_all P x (part ∷ parts) p all = All-cons (All P) (x ∷ part) parts (All-cons P x part p (All-head (All P) part parts all)) (All-tail (All P) part parts all)

split_step : (P : ℕ → Type 0) (t : Bool) (x : ℕ) (parts : List (List ℕ)) → P x → All (All P) parts → All (All P) (cond t ([] ∷ parts) (onto_first x parts))
split_step P true x parts p all = All-cons (All P) [] parts (All-nil P) all
split_step P false x parts p all = onto_all P x parts p all

pub split_all : (P : ℕ → Type 0) (q : ℕ → Bool) (xs : List ℕ) → All P xs → All (All P) (slice_split q xs)
split_all P q [] all = All-cons (All P) [] [] (All-nil P) (All-nil (All P))
split_all P q (x ∷ xs) all = split_step P (q x) x (slice_split q xs) (All-head P x xs all) (split_all P q xs (All-tail P x xs all))

-- no part has what it is split at
free_step : (P : ℕ → Type 0) (t : Bool) (x : ℕ) (parts : List (List ℕ)) → (t ≡ false → P x) → All (All P) parts → All (All P) (cond t ([] ∷ parts) (onto_first x parts))
free_step P true x parts p all = All-cons (All P) [] parts (All-nil P) all
free_step P false x parts p all = onto_all P x parts (p refl) all

other : (x c : ℕ) → (x == c) ≡ false → x ≢ c
other x c e is = true≢false (sym (eq-eqb x c is) ∙ e)

pub split_free : (c : ℕ) (xs : List ℕ) → All (All (λ b. b ≢ c)) (slice_split (λ b. b == c) xs)
split_free c [] = All-cons (All (λ b. b ≢ c)) [] [] (All-nil (λ b. b ≢ c)) (All-nil (All (λ b. b ≢ c)))
split_free c (x ∷ xs) = free_step (λ b. b ≢ c) (x == c) x (slice_split (λ b. b == c) xs) (other x c) (split_free c xs)

-- ## Lines have no line feed

stripped : (P : ℕ → Type 0) (t : Bool) (l : List ℕ) (n : ℕ) → All P l → All P (if t then take n l else l)
stripped P true l n all = All-take P n l all
stripped P false l n all = all

last_line : (P : ℕ → Type 0) (t : Bool) (x : List ℕ) → All P x → All (All P) (if t then [] else x ∷ [])
last_line P true x all = All-nil (All P)
last_line P false x all = All-cons (All P) x [] all (All-nil (All P))

lines_all : (P : ℕ → Type 0) (parts : List (List ℕ)) → All (All P) parts → All (All P) (lines_of_parts parts)
lines_all P [] all = All-nil (All P)
lines_all P (x ∷ []) all = last_line P (length x == 0) x (All-head (All P) x [] all)
lines_all P (x ∷ y ∷ more) all = All-cons (All P) (strip_carriage_return x) (lines_of_parts (y ∷ more))
    (stripped P (get_or x (length x - 1) 0 == 13) x (length x - 1) (All-head (All P) x (y ∷ more) all)) (lines_all P (y ∷ more) (All-tail (All P) x (y ∷ more) all))

pub lines_free : (bytes : List ℕ) → All (All (λ b. b ≢ 10)) (lines bytes)
lines_free bytes = lines_all (λ b. b ≢ 10) (slice_split (λ b. b == 10) bytes) (split_free 10 bytes)

-- ## Short values

at_default : (values : List (List ℕ)) (k : ℕ) (d e : List ℕ) → k < length values → get_or values k d ≡ get_or values k e
at_default [] k d e l = absurd (omega arith)
at_default (v ∷ values) zero d e l = refl
at_default (v ∷ values) (suc k) d e l = at_default values k d e (omega arith)

short_cases : (values : List (List ℕ)) (k : ℕ) (d : List ℕ) → ¬ HasLong values → k < length values → (value_bytes_limit < length (get_or values k d)) ⊎ (length (get_or values k d) ≤ value_bytes_limit) →
    length (get_or values k d) ≤ value_bytes_limit
short_cases values k d n l (inl high) = absurd (n (k, get_or values k d, l, at_default values k (get_or values k d) d l, high))
short_cases values k d n l (inr low) = low

pub short_from : (values : List (List ℕ)) → ¬ HasLong values → AreShort values
short_from values n k d l = short_cases values k d n l (cases_lt value_bytes_limit (length (get_or values k d)))

text_cases : (line : List ℕ) (t : Bool) → is_utf8 line ≡ t → ¬ (¬ IsUtf8 line) → IsUtf8 line
text_cases line true e n = IsUtf8-from_is_utf8 line e
text_cases line false e n = absurd (n (λ u. true≢false (sym (is_utf8-from_IsUtf8 line u) ∙ e)))

pub text_from : (line : List ℕ) → ¬ (¬ IsUtf8 line) → IsUtf8 line
text_from line n = text_cases line (is_utf8 line) refl n

-- ## Columns

-- UTF-8 without line feed and tab
pub record IsClean (value : List ℕ) : Type 0 where
  pub text : IsUtf8 value
  pub unfed : All (λ b. b ≢ 10) value
  pub untabbed : All (λ b. b ≢ 9) value

pub valid_value : (value : List ℕ) → IsClean value → length value ≤ value_bytes_limit → ValidValue value
valid_value value c short = record { text = c.text; short = short; plain = λ k d l. (c.unfed k d l, c.untabbed k d l) }

distinct : (a b : ℕ) → (a == b) ≡ false → a ≢ b
distinct a b e = other a b e

none_of : (c : ℕ) → (61 == c) ≡ false → (78 == c) ≡ false → (79 == c) ≡ false → (69 == c) ≡ false → All (λ b. b ≢ c) missing
none_of c d n o e = All-from_recursion (λ b. b ≢ c) missing
    (other 61 c d, (other 61 c d, (other 61 c d, (other 78 c n, (other 79 c o, (other 78 c n, (other 69 c e, (other 61 c d, (other 61 c d, (other 61 c d, tt))))))))))

small_all : All (λ b. b < 128) missing
small_all = All-from_recursion (λ b. b < 128) missing
    (omega arith, (omega arith, (omega arith, (omega arith, (omega arith, (omega arith, (omega arith, (omega arith, (omega arith, (omega arith, tt))))))))))

small_missing : (i : ℕ) → (i < 10) ⊎ (10 ≤ i) → get_or missing i 0 < 128
small_missing i (inl l) = small_all i 0 l
small_missing i (inr l) = rw (get_or_past missing i 0 l) (omega arith)

pub missing_clean : IsClean missing
missing_clean = record {
  text = IsUtf8-from_ascii missing (λ i. small_missing i (cases_lt i 10));
  unfed = none_of 10 refl refl refl refl;
  untabbed = none_of 9 refl refl refl refl;
}

-- the columns of UTF-8 are UTF-8
not_if : (t : Bool) → (if t then false else true) ≡ true → t ≡ false
not_if true e = cc
not_if false e = refl

yes_if : (t : Bool) → (if t then false else true) ≡ false → t ≡ true
yes_if true e = refl
yes_if false e = cc

differs_false : (xs : List ℕ) → AllPass (differs 9) xs → All (λ b. (b == 9) ≡ false) xs
differs_false xs all = All-weaker (λ b. differs 9 b ≡ true) (λ b. (b == 9) ≡ false) (λ b e. not_if (b == 9) e) xs all

pub untabbed_from : (xs : List ℕ) → AllPass (differs 9) xs → All (λ b. b ≢ 9) xs
untabbed_from xs all = All-weaker (λ b. differs 9 b ≡ true) (λ b. b ≢ 9) (λ b e. other b 9 (not_if (b == 9) e)) xs all

cut : (xs : List ℕ) (n : ℕ) → n < length xs → xs ≡ take n xs ++ get_or xs n 0 ∷ drop (n + 1) xs
cut xs n l = grind (arith, common_steps, take-append-drop)

tab_at : (xs : List ℕ) (n : ℕ) → n < length xs → differs 9 (get_or xs n 0) ≡ false → xs ≡ take n xs ++ 9 ∷ drop (n + 1) xs
tab_at xs n l e = cut xs n l ∙ ap (λ b. take n xs ++ b ∷ drop (n + 1) xs) (eqb-true (get_or xs n 0) 9 (yes_if (get_or xs n 0 == 9) e))

shorter : (xs : List ℕ) (n m : ℕ) → n < length xs → length xs ≤ suc m → length (drop (n + 1) xs) ≤ m
shorter xs n m l h = grind (arith, common_steps)

take_all : (xs : List ℕ) (n : ℕ) → length xs ≤ n → take n xs ≡ xs
take_all xs n l = grind (arith, common_steps)

column_cases : (m : ℕ) (xs : List ℕ) → length xs ≤ suc m → IsUtf8 xs → (prefix_len (differs 9) xs < length xs) ⊎ (length xs ≤ prefix_len (differs 9) xs) →
    ((ys : List ℕ) → length ys ≤ m → IsUtf8 ys → All IsUtf8 (columns ys)) → All IsUtf8 (columns xs)
column_cases m xs l u (inl low) more =
    let n : ℕ = prefix_len (differs 9) xs in
    let are : xs ≡ take n xs ++ 9 ∷ drop (n + 1) xs = tab_at xs n low (prefix_len_stops (differs 9) xs 0 low) in
    let parts : columns xs ≡ take n xs ∷ columns (drop (n + 1) xs) =
    ap columns are ∙ slice_split_at (λ b. b == 9) (take n xs) 9 (drop (n + 1) xs) (differs_false (take n xs) (front_passes (differs 9) xs)) refl in
    let v : IsUtf8 (take n xs ++ 9 ∷ drop (n + 1) xs) = subst IsUtf8 are u in
    All-same IsUtf8 (columns xs) (take n xs ∷ columns (drop (n + 1) xs)) parts
    (All-cons IsUtf8 (take n xs) (columns (drop (n + 1) xs)) (utf8_before (take n xs) (drop (n + 1) xs) 9 (omega arith) v)
    (more (drop (n + 1) xs) (shorter xs n m low l) (utf8_behind (take n xs) (drop (n + 1) xs) 9 (omega arith) v)))
column_cases m xs l u (inr high) more =
    let n : ℕ = prefix_len (differs 9) xs in
    let all : AllPass (differs 9) xs = let P : List ℕ → Type 0 = λ ys. AllPass (differs 9) ys in subst P (take_all xs n high) (front_passes (differs 9) xs) in
    All-same IsUtf8 (columns xs) (xs ∷ []) (slice_split_none (λ b. b == 9) xs (differs_false xs all)) (All-cons IsUtf8 xs [] u (All-nil IsUtf8))

columns_text_in : (m : ℕ) (xs : List ℕ) → length xs ≤ m → IsUtf8 xs → All IsUtf8 (columns xs)
columns_text_in zero [] l u = All-cons IsUtf8 [] [] u (All-nil IsUtf8)
columns_text_in zero (x ∷ xs) l u = absurd (omega arith)
columns_text_in (suc m) xs l u = column_cases m xs l u (cases_lt (prefix_len (differs 9) xs) (length xs)) (λ ys k v. columns_text_in m ys k v)

columns_clean_in : (cs : List (List ℕ)) → All IsUtf8 cs → All (All (λ b. b ≢ 10)) cs → All (All (λ b. b ≢ 9)) cs → All IsClean cs
columns_clean_in cs t f u = λ k d l. record { text = t k d l; unfed = f k d l; untabbed = u k d l }

pub columns_clean : (line : List ℕ) → IsUtf8 line → All (λ b. b ≢ 10) line → All IsClean (columns line)
columns_clean line u f = columns_clean_in (columns line) (columns_text_in (length line) line (omega arith) u) (split_all (λ b. b ≢ 10) (λ b. b == 9) line f) (split_free 9 line)

pub first_len : (n : ℕ) (cs : List (List ℕ)) → length (first_columns n cs) ≡ n
first_len zero cs = refl
first_len (suc n) [] = ap suc (first_len n [])
first_len (suc n) (c ∷ cs) = ap suc (first_len n cs)

pub first_clean : (n : ℕ) (cs : List (List ℕ)) → All IsClean cs → All IsClean (first_columns n cs)
first_clean zero cs all = All-nil IsClean
first_clean (suc n) [] all = All-cons IsClean missing (first_columns n []) missing_clean (first_clean n [] all)
first_clean (suc n) (c ∷ cs) all = All-cons IsClean c (first_columns n cs) (All-head IsClean c cs all) (first_clean n cs (All-tail IsClean c cs all))

pub all_valid : (values : List (List ℕ)) → All IsClean values → AreShort values → All ValidValue values
all_valid values clean short = λ k d l. valid_value (get_or values k d) (clean k d l) (short k d l)

-- ## Attributes

quote_small : (b : ℕ) → is_quote b ≡ true → b < 128
quote_small b e = grind (arith, common_steps)

joined : (before name left right value tail : List ℕ) (quote : ℕ) →
    (before ++ name ++ left ++ 61 ∷ right ++ quote ∷ value ++ quote ∷ []) ++ tail ≡ (before ++ name ++ left ++ 61 ∷ right) ++ quote ∷ (value ++ quote ∷ tail)
joined before name left right value tail quote = simp append_assoc refl

-- the values of attributes in UTF-8 are UTF-8
attrs_text : (attrs : List TagAttr) (bytes tail : List ℕ) → SpellsAttrs bytes attrs → IsUtf8 (bytes ++ tail) → All (λ a. IsUtf8 a.value) attrs
attrs_text [] bytes tail s u = All-nil (λ (a : TagAttr). IsUtf8 a.value)
attrs_text (attr ∷ attrs) bytes tail s u =
    let a = s.3 in
    let head : List ℕ = a.before ++ attr.name ++ a.left ++ 61 ∷ a.right in
    let rest : List ℕ = s.1 ++ tail in
    let are : bytes ++ tail ≡ head ++ a.quote ∷ (attr.value ++ a.quote ∷ rest) =
    ap (λ b. b ++ tail) s.2 ∙ append_assoc s.0 s.1 tail ∙ ap (λ f. f ++ rest) a.are ∙ joined a.before attr.name a.left a.right attr.value rest a.quote in
    let small : a.quote < 128 = quote_small a.quote a.quoted in
    let inside : IsUtf8 (attr.value ++ a.quote ∷ rest) = utf8_behind head (attr.value ++ a.quote ∷ rest) a.quote small (subst IsUtf8 are u) in
    All-cons (λ (a : TagAttr). IsUtf8 a.value) attr attrs (utf8_before attr.value rest a.quote small inside)
    (attrs_text attrs s.1 tail s.4 (utf8_behind attr.value rest a.quote small inside))

-- the values have what all bytes have
attrs_all : (P : ℕ → Type 0) (attrs : List TagAttr) (bytes : List ℕ) → SpellsAttrs bytes attrs → All P bytes → All (λ a. All P a.value) attrs
attrs_all P [] bytes s all = All-nil (λ (a : TagAttr). All P a.value)
attrs_all P (attr ∷ attrs) bytes s all =
    let a = s.3 in
    let both : All P (s.0 ++ s.1) = All-same P (s.0 ++ s.1) bytes (sym s.2) all in
    let whole : All P (a.before ++ attr.name ++ a.left ++ 61 ∷ a.right ++ a.quote ∷ attr.value ++ a.quote ∷ []) =
    All-same P (a.before ++ attr.name ++ a.left ++ 61 ∷ a.right ++ a.quote ∷ attr.value ++ a.quote ∷ []) s.0 (sym a.are) (all_left P s.0 s.1 both) in
    let front : All P ((a.before ++ attr.name ++ a.left ++ 61 ∷ a.right ++ a.quote ∷ attr.value)) = all_left P (a.before ++ attr.name ++ a.left ++ 61 ∷ a.right ++ a.quote ∷ attr.value) (a.quote ∷ []) whole in
    let value : All P (a.quote ∷ attr.value) = all_right P (a.before ++ attr.name ++ a.left ++ 61 ∷ a.right) (a.quote ∷ attr.value) front in
    All-cons (λ (a : TagAttr). All P a.value) attr attrs (All-tail P a.quote attr.value value) (attrs_all P attrs s.1 s.4 (all_right P s.0 s.1 both))

attrs_clean_in : (attrs : List TagAttr) → All (λ a. IsUtf8 a.value) attrs → All (λ a. All (λ b. b ≢ 10) a.value) attrs → All (λ a. All (λ b. b ≢ 9) a.value) attrs → All (λ a. IsClean a.value) attrs
attrs_clean_in attrs t f u = λ k d l. record { text = t k d l; unfed = f k d l; untabbed = u k d l }

pub attrs_clean : (attrs : List TagAttr) (bytes tail : List ℕ) → SpellsAttrs bytes attrs → IsUtf8 (bytes ++ tail) → All (λ b. b ≢ 10) bytes → All (λ b. b ≢ 9) bytes → All (λ a. IsClean a.value) attrs
attrs_clean attrs bytes tail s u f t =
    attrs_clean_in attrs (attrs_text attrs bytes tail s u) (attrs_all (λ b. b ≢ 10) attrs bytes s f) (attrs_all (λ b. b ≢ 9) attrs bytes s t)

value_if : (t : Bool) (x y : List ℕ) → IsClean x → IsClean y → IsClean (if t then x else y)
value_if true x y h k = h
value_if false x y h k = k

pub value_clean : (attrs : List TagAttr) (name : List ℕ) → All (λ a. IsClean a.value) attrs → IsClean (tag_value attrs name)
value_clean [] name all = missing_clean
value_clean (attr ∷ attrs) name all =
    value_if (bytes_eq attr.name name) attr.value (tag_value attrs name) (All-head (λ (a : TagAttr). IsClean a.value) attr attrs all) (value_clean attrs name (All-tail (λ (a : TagAttr). IsClean a.value) attr attrs all))

pub values_clean : (attrs : List TagAttr) (names : List (List ℕ)) → All (λ a. IsClean a.value) attrs → All IsClean (map (tag_value attrs) names)
values_clean attrs [] all = All-nil IsClean
values_clean attrs (name ∷ names) all = All-cons IsClean (tag_value attrs name) (map (tag_value attrs) names) (value_clean attrs name all) (values_clean attrs names all)

pub values_len : (attrs : List TagAttr) (names : List (List ℕ)) → length (map (tag_value attrs) names) ≡ length names
values_len attrs [] = refl
values_len attrs (name ∷ names) = ap suc (values_len attrs names)

-- the attributes of a tag
grouped : (name spelling inner close behind : List ℕ) → 60 ∷ name ++ spelling ++ inner ++ close ++ behind ≡ 60 ∷ (name ++ (spelling ++ (inner ++ close ++ behind)))
grouped name spelling inner close behind = simp append_assoc refl

inner_all : (P : ℕ → Type 0) (line name spelling tail : List ℕ) → line ≡ 60 ∷ (name ++ (spelling ++ tail)) → All P line → All P spelling
inner_all P line name spelling tail e all =
    all_left P spelling tail (all_right P name (spelling ++ tail) (All-tail P 60 (name ++ (spelling ++ tail)) (All-same P (60 ∷ (name ++ (spelling ++ tail))) line (sym e) all)))

pub tag_clean : (line name spelling inner close behind : List ℕ) (attrs : List TagAttr) → line ≡ 60 ∷ name ++ spelling ++ inner ++ close ++ behind → IsTagName name → SpellsAttrs spelling attrs →
    IsUtf8 line → All (λ b. b ≢ 10) line → AllPass (differs 9) line → All (λ a. IsClean a.value) attrs
tag_clean line name spelling inner close behind attrs e n s u f t =
    let tail : List ℕ = inner ++ close ++ behind in
    let are : line ≡ 60 ∷ (name ++ (spelling ++ tail)) = e ∙ grouped name spelling inner close behind in
    let text : IsUtf8 (spelling ++ tail) = behind_name name (spelling ++ tail) n.each (utf8_behind [] (name ++ (spelling ++ tail)) 60 (omega arith) (subst IsUtf8 are u)) in
    attrs_clean attrs spelling tail s text (inner_all (λ b. b ≢ 10) line name spelling tail are f) (inner_all (λ b. b ≢ 9) line name spelling tail are (untabbed_from line t))
