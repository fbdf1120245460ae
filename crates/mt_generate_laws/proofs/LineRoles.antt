-- What each line of a generated vertical does under the standard registry.
use Rattle.std.proofs.Common.{◌≡◌, ◌≢◌, ℕ, zero, suc, ◌%◌, ◌<◌, ◌≤◌, inl, inr, Bool, true, false, ◌==◌, if◌then◌else◌, List, [], ◌∷◌, ◌++◌, length, map, get_or, codes, refl, sym, ◌∙◌, ap, subst, arith, append_assoc, append-nil, length-append}
use Rattle.std.specs.Prelude.{IsUtf8, nat_lt, ◌&&◌}
use Rattle.std.specs.List.{All, AllPass, list_all}
use Rattle.std.specs.Str.{bytes_eq}
use Rattle.std.proofs.lemmas.Bool.{false_from_ne_true, true≢false, eqb-true}
use Rattle.std.proofs.lemmas.List.Elements.{All-nil, All-cons, All-head, All-tail, All-append, All-weaker}
use Rattle.std.proofs.lemmas.List.Sums.{AllPass-from_list_all}
use Rattle.std.proofs.lemmas.List.Splits.{slice_split_at, slice_split_none}
use Rattle.std.proofs.lemmas.Str.{IsUtf8-from_ascii}
use Rattle.mt_text_spec.specs.Words.{IsName, is_name_byte, is_identifier_byte}
use Rattle.mt_text_spec.specs.Registries.{Registry, Kind, standard_registry}
use Rattle.mt_text_spec.specs.Texts.{Token, value_bytes_limit}
use Rattle.mt_file_spec.specs.Tags.{is_space, AreSpaces, differs, IsTagName, TagAttr, SpellsAttr, Tag, OpeningTag, EmptyTag, ClosingTag, SpellsBegin, IsTag, tag_value, is_tag_name_byte}
use Rattle.mt_file_spec.specs.VerticalLines.{IsSkipped, Role, Passes, Opens, Stands, Closes, Gives, Plays, columns, first_columns}
use Rattle.mt_file_spec.specs.Vertical.{token_in, kept}
use Rattle.mt_generate_spec.specs.Generated.{lemma_of, tag_of, word_of, token_of}
use Rattle.mt_generate_spec.specs.Verticals.{token_line}
use Rattle.mt_vertical.proofs.OneRole.{tag_once}
use Rattle.mt_generate_laws.proofs.ValidTexts.{IsSeen, one_seen, lemma_seen, lemma_short}

-- a byte that ends no line and is ASCII
abbrev pub IsPlain : ℕ → Type 0
IsPlain b = (b < 128) × (b ≢ 10) × (b ≢ 13)

-- a value that is no longer than one may be
abbrev pub IsShort : List ℕ → Type 0
IsShort value = length value ≤ value_bytes_limit

-- The line does this, and has no cause against it: its bytes are plain, it gives no long value, and it is a token only where it does what tokens do.
pub record IsGood (registry : Registry) (line : List ℕ) (role : Role) : Type 0 where
  pub plays : Plays registry line role
  pub plain : All IsPlain line
  pub short : (other : Role) → Plays registry line other → All IsShort (kept other)
  pub lone : (token : Token) → Plays registry line (Gives token) → 0 < length (token_in role)

-- ## Bytes

plain_seen : (bytes : List ℕ) → All IsSeen bytes → All IsPlain bytes
plain_seen bytes seen = All-weaker IsSeen IsPlain (λ b h. (h.1, (λ e. absurd (omega (arith, e, h.0))), (λ e. absurd (omega (arith, e, h.0))))) bytes seen

low_at : (bytes : List ℕ) → All IsPlain bytes → (i : ℕ) → get_or bytes i 0 < 128
low_at [] plain i = omega arith
low_at (b ∷ bytes) plain zero = (plain 0 0 (omega arith)).0
low_at (b ∷ bytes) plain (suc i) = low_at bytes (All-tail IsPlain b bytes plain) i

pub plain_text : (bytes : List ℕ) → All IsPlain bytes → IsUtf8 bytes
plain_text bytes plain = IsUtf8-from_ascii bytes (low_at bytes plain)

no_tab : (bytes : List ℕ) → All IsSeen bytes → All (λ b. (b == 9) ≡ false) bytes
no_tab bytes seen = All-weaker IsSeen (λ b. (b == 9) ≡ false) (λ b h. false_from_ne_true (b == 9) (λ e. let is : b ≡ 9 = eqb-true b 9 e in omega (arith, is, h.0))) bytes seen

-- ## Tags

-- the attributes of a tag
abbrev attrs_in : Tag → List TagAttr
attrs_in (OpeningTag name attrs) = attrs
attrs_in (EmptyTag name attrs) = attrs
attrs_in (ClosingTag name) = []

short_if : (t : Bool) (a b : List ℕ) → IsShort a → IsShort b → IsShort (if t then a else b)
short_if true a b h k = h
short_if false a b h k = k

value_short : (attrs : List TagAttr) (name : List ℕ) → All (λ a. IsShort a.value) attrs → IsShort (tag_value attrs name)
value_short [] name all = omega arith
value_short (attr ∷ attrs) name all =
    short_if (bytes_eq attr.name name) attr.value (tag_value attrs name) (All-head (λ (a : TagAttr). IsShort a.value) attr attrs all) (value_short attrs name (All-tail (λ (a : TagAttr). IsShort a.value) attr attrs all))

values_short : (attrs : List TagAttr) (names : List (List ℕ)) → All (λ a. IsShort a.value) attrs → All IsShort (map (tag_value attrs) names)
values_short attrs [] all = All-nil IsShort
values_short attrs (name ∷ names) all = All-cons IsShort (tag_value attrs name) (map (tag_value attrs) names) (value_short attrs name all) (values_short attrs names all)

same_short : (line : List ℕ) (tag other : Tag) → IsTag line tag → IsTag line other → All (λ a. IsShort a.value) (attrs_in tag) → All (λ a. IsShort a.value) (attrs_in other)
same_short line tag other t o all = subst (λ u. All (λ (a : TagAttr). IsShort a.value) (attrs_in u)) (tag_once line tag other t o) all

tag_short : (registry : Registry) (line : List ℕ) (tag : Tag) (role : Role) → IsTag line tag → All (λ a. IsShort a.value) (attrs_in tag) → Plays registry line role → All IsShort (kept role)
tag_short registry line tag Passes t all p = All-nil IsShort
tag_short registry line tag (Closes number) t all p = All-nil IsShort
tag_short registry line tag (Gives token) t all p = absurd (p.untagged tag t)
tag_short registry line tag (Opens number values) t all p = rw p.are (values_short p.attrs p.kind.attrs (same_short line tag (OpeningTag p.kind.name p.attrs) t p.spelled all))
tag_short registry line tag (Stands number values) t all p = rw p.are (values_short p.attrs p.kind.attrs (same_short line tag (EmptyTag p.kind.name p.attrs) t p.spelled all))

-- a tag that does something, with short values
tag_good : (registry : Registry) (line : List ℕ) (tag : Tag) (role : Role) → IsTag line tag → All (λ a. IsShort a.value) (attrs_in tag) → All IsPlain line → Plays registry line role → IsGood registry line role
tag_good registry line tag role t all plain p = record {
  plays = p;
  plain = plain;
  short = λ other o. tag_short registry line tag other t all o;
  lone = λ token g. absurd (g.untagged tag t);
}

no_attrs : All (λ (a : TagAttr). IsShort a.value) []
no_attrs = All-nil (λ (a : TagAttr). IsShort a.value)

no_spaces : AreSpaces []
no_spaces = AllPass-from_list_all is_space [] refl

abbrev doc_kind : Kind
doc_kind = record { name = codes "doc"; attrs = codes "id" ∷ [] }

abbrev s_kind : Kind
s_kind = record { name = codes "s"; attrs = [] }

doc_named : IsTagName (codes "doc")
doc_named = record { some = omega arith; first = refl; each = AllPass-from_list_all is_tag_name_byte (codes "doc") refl }

s_named : IsTagName (codes "s")
s_named = record { some = omega arith; first = refl; each = AllPass-from_list_all is_tag_name_byte (codes "s") refl }

-- ## The lines of tags

abbrev is_printed : ℕ → Bool
is_printed b = nat_lt 31 b && nat_lt b 128

abbrev IsPrinted : ℕ → Type 0
IsPrinted b = (31 < b) × (b < 128)

printed : (bytes : List ℕ) → list_all is_printed bytes ≡ true → All IsPrinted bytes
printed bytes e = All-weaker (λ b. is_printed b ≡ true) IsPrinted (λ b h. (grind arith, grind arith)) bytes (AllPass-from_list_all is_printed bytes e)

printed_plain : (bytes : List ℕ) → All IsPrinted bytes → All IsPlain bytes
printed_plain bytes all = All-weaker IsPrinted IsPlain (λ b h. (h.1, (λ e. absurd (omega (arith, e, h.0))), (λ e. absurd (omega (arith, e, h.0))))) bytes all

other : (b c : ℕ) → (b ≡ c → ⊥) → differs c b ≡ true
other b c ne = ap (λ t. if t then false else true) (false_from_ne_true (b == c) (λ e. ne (eqb-true b c e)))

printed_untabbed : (bytes : List ℕ) → All IsPrinted bytes → AllPass (differs 9) bytes
printed_untabbed bytes all = All-weaker IsPrinted (λ b. differs 9 b ≡ true) (λ b h. other b 9 (λ e. omega (arith, e, h.0))) bytes all

s_begins : SpellsBegin (codes ">") (codes "<s>") (codes "s") []
s_begins = record { spelling = []; inner = []; behind = []; are = refl; named = s_named; attributes = refl; spaces = no_spaces; spaces_behind = no_spaces }

s_tag : IsTag (codes "<s>") (OpeningTag (codes "s") [])
s_tag = record { spelled = s_begins; untabbed = AllPass-from_list_all (differs 9) (codes "<s>") refl }

pub s_opens : IsGood standard_registry (codes "<s>") (Opens 1 [])
s_opens = tag_good standard_registry (codes "<s>") (OpeningTag (codes "s") []) (Opens 1 []) s_tag no_attrs (printed_plain (codes "<s>") (printed (codes "<s>") refl))
    (record { kind = s_kind; declared = refl; attrs = []; spelled = s_tag; are = refl })

s_ends : IsTag (codes "</s>") (ClosingTag (codes "s"))
s_ends = record {
  spelled = record { inner = []; behind = []; are = refl; named = s_named; spaces = no_spaces; spaces_behind = no_spaces };
  untabbed = AllPass-from_list_all (differs 9) (codes "</s>") refl;
}

pub s_closes : IsGood standard_registry (codes "</s>") (Closes 1)
s_closes = tag_good standard_registry (codes "</s>") (ClosingTag (codes "s")) (Closes 1) s_ends no_attrs (printed_plain (codes "</s>") (printed (codes "</s>") refl))
    (record { kind = s_kind; declared = refl; spelled = s_ends })

doc_ends : IsTag (codes "</doc>") (ClosingTag (codes "doc"))
doc_ends = record {
  spelled = record { inner = []; behind = []; are = refl; named = doc_named; spaces = no_spaces; spaces_behind = no_spaces };
  untabbed = AllPass-from_list_all (differs 9) (codes "</doc>") refl;
}

pub doc_closes : IsGood standard_registry (codes "</doc>") (Closes 0)
doc_closes = tag_good standard_registry (codes "</doc>") (ClosingTag (codes "doc")) (Closes 0) doc_ends no_attrs (printed_plain (codes "</doc>") (printed (codes "</doc>") refl))
    (record { kind = doc_kind; declared = refl; spelled = doc_ends })

-- the line that begins the document, and its attribute
abbrev pub doc_line : List ℕ → List ℕ
doc_line name = codes "<doc id=\"" ++ name ++ codes "\">"

abbrev doc_attr : List ℕ → TagAttr
doc_attr name = record { name = codes "id"; value = name }

name_printed : (name : List ℕ) → IsName name → All IsPrinted name
name_printed name is = All-weaker (λ b. is_name_byte b ≡ true) IsPrinted (λ b h. (grind arith, grind arith)) name is.each

unquoted : (name : List ℕ) → IsName name → AllPass (differs 34) name
unquoted name is = All-weaker (λ b. is_name_byte b ≡ true) (λ b. differs 34 b ≡ true) (λ b h. other b 34 (λ e. true≢false (sym h ∙ ap is_name_byte e))) name is.each

doc_printed : (name : List ℕ) → IsName name → All IsPrinted (doc_line name)
doc_printed name is =
    All-append IsPrinted (codes "<doc id=\"") (name ++ codes "\">") (printed (codes "<doc id=\"") refl) (All-append IsPrinted name (codes "\">") (name_printed name is) (printed (codes "\">") refl))

doc_spells : (name : List ℕ) → IsName name → SpellsAttr (codes " id=\"" ++ name ++ codes "\"") (doc_attr name)
doc_spells name is = record {
  before = codes " ";
  left = [];
  right = [];
  quote = 34;
  are = refl;
  apart = omega arith;
  spaces = AllPass-from_list_all is_space (codes " ") refl;
  named = record { some = omega arith; short = omega arith; first = refl; each = AllPass-from_list_all is_identifier_byte (codes "id") refl };
  spaces_left = no_spaces;
  spaces_right = no_spaces;
  quoted = refl;
  inside = unquoted name is;
}

doc_closed : (name : List ℕ) → name ++ 34 ∷ 62 ∷ [] ≡ (((name ++ 34 ∷ []) ++ []) ++ 62 ∷ []) ++ []
doc_closed name =
    sym (append-nil (((name ++ 34 ∷ []) ++ []) ++ 62 ∷ []) ∙ ap (λ (front : List ℕ). front ++ 62 ∷ []) (append-nil (name ++ 34 ∷ [])) ∙ append_assoc name (34 ∷ []) (62 ∷ []))

doc_spelled : (name : List ℕ) → doc_line name ≡ 60 ∷ codes "doc" ++ (codes " id=\"" ++ name ++ codes "\"") ++ [] ++ codes ">" ++ []
doc_spelled name = ap (λ rest. codes "<doc id=\"" ++ rest) (doc_closed name)

doc_tag : (name : List ℕ) → IsName name → IsTag (doc_line name) (OpeningTag (codes "doc") (doc_attr name ∷ []))
doc_tag name is = record {
  spelled = record {
    spelling = codes " id=\"" ++ name ++ codes "\"";
    inner = [];
    behind = [];
    are = doc_spelled name;
    named = doc_named;
    attributes = (codes " id=\"" ++ name ++ codes "\"", [], sym (append-nil (codes " id=\"" ++ name ++ codes "\"")), doc_spells name is, refl);
    spaces = no_spaces;
    spaces_behind = no_spaces;
  };
  untabbed = printed_untabbed (doc_line name) (doc_printed name is);
}

pub doc_opens : (name : List ℕ) → IsName name → IsGood standard_registry (doc_line name) (Opens 0 (name ∷ []))
doc_opens name is =
    tag_good standard_registry (doc_line name) (OpeningTag (codes "doc") (doc_attr name ∷ [])) (Opens 0 (name ∷ [])) (doc_tag name is)
    (All-cons (λ (a : TagAttr). IsShort a.value) (doc_attr name) [] (omega (arith, is.short)) no_attrs) (printed_plain (doc_line name) (doc_printed name is))
    (record { kind = doc_kind; declared = refl; attrs = doc_attr name ∷ []; spelled = doc_tag name is; are = refl })

-- ## The lines of tokens

begins_else : (b c : ℕ) (xs ys : List ℕ) → (b ≡ c → ⊥) → b ∷ xs ≡ c ∷ ys → ⊥
begins_else b c xs ys ne e = ne (ap (λ (bytes : List ℕ). get_or bytes 0 0) e)

no_bracket : ◌≡◌ {A = ℕ} 108 60 → ⊥
no_bracket e = omega (arith, e)

letter_not_skipped : (rest : List ℕ) → IsSkipped (108 ∷ rest) → ⊥
letter_not_skipped rest (inl s) = true≢false (sym (s 0 0 (omega arith)))
letter_not_skipped rest (inr (inl q)) = begins_else 108 60 rest _ no_bracket q.1
letter_not_skipped rest (inr (inr q)) = begins_else 108 60 rest _ no_bracket q.1

letter_no_tag : (rest : List ℕ) (tag : Tag) → IsTag (108 ∷ rest) tag → ⊥
letter_no_tag rest (OpeningTag name attrs) t = begins_else 108 60 rest _ no_bracket t.spelled.are
letter_no_tag rest (EmptyTag name attrs) t = begins_else 108 60 rest _ no_bracket t.spelled.are
letter_no_tag rest (ClosingTag name) t = begins_else 108 60 rest _ no_bracket t.spelled.are

tag_seen : (rank : ℕ) → All IsSeen (tag_of rank)
tag_seen rank = of_four (rank % 4) (omega arith)
  where
    of_four : (n : ℕ) → n < 4 → All IsSeen (get_or (codes "NJVD") n 0 ∷ [])
    of_four zero h = one_seen 78 (omega arith, omega arith)
    of_four (suc zero) h = one_seen 74 (omega arith, omega arith)
    of_four (suc (suc zero)) h = one_seen 86 (omega arith, omega arith)
    of_four (suc (suc (suc zero))) h = one_seen 68 (omega arith, omega arith)
    of_four (suc (suc (suc (suc n)))) h = absurd (omega arith)

word_seen : (rank : ℕ) (plural : Bool) → rank < 1000 → All IsSeen (word_of rank plural)
word_seen rank true h = All-append IsSeen (lemma_of rank) (codes "s") (lemma_seen rank h) (one_seen 115 (omega arith, omega arith))
word_seen rank false h = All-append IsSeen (lemma_of rank) [] (lemma_seen rank h) (All-nil IsSeen)

word_short : (rank : ℕ) (plural : Bool) → rank < 1000 → IsShort (word_of rank plural)
word_short rank true h = omega (arith, length-append (lemma_of rank) (codes "s"), lemma_short rank h)
word_short rank false h = omega (arith, length-append (lemma_of rank) [], lemma_short rank h)

three_columns : (a b c : List ℕ) → All IsSeen a → All IsSeen b → All IsSeen c → columns (a ++ 9 ∷ (b ++ 9 ∷ c)) ≡ a ∷ b ∷ c ∷ []
three_columns a b c x y z =
    slice_split_at (λ t. t == 9) a 9 (b ++ 9 ∷ c) (no_tab a x) refl
    ∙ ap (λ (parts : List (List ℕ)). a ∷ parts) (slice_split_at (λ t. t == 9) b 9 c (no_tab b y) refl ∙ ap (λ (parts : List (List ℕ)). b ∷ parts) (slice_split_none (λ t. t == 9) c (no_tab c z)))

token_plain : (rank : ℕ) (plural : Bool) → rank < 1000 → All IsPlain (token_line (token_of rank plural))
token_plain rank plural h =
    let tab : IsPlain 9 = (omega arith, (λ e. cc), (λ e. cc)) in
    All-append IsPlain (word_of rank plural) (9 ∷ (tag_of rank ++ 9 ∷ lemma_of rank)) (plain_seen (word_of rank plural) (word_seen rank plural h))
    (All-cons IsPlain 9 (tag_of rank ++ 9 ∷ lemma_of rank) tab (All-append IsPlain (tag_of rank) (9 ∷ lemma_of rank) (plain_seen (tag_of rank) (tag_seen rank)) (All-cons IsPlain 9 (lemma_of rank) tab (plain_seen (lemma_of rank) (lemma_seen rank h)))))

three_short : (a b c : List ℕ) → IsShort a → IsShort b → IsShort c → All IsShort (a ∷ b ∷ c ∷ [])
three_short a b c x y z = All-cons IsShort a (b ∷ c ∷ []) x (All-cons IsShort b (c ∷ []) y (All-cons IsShort c [] z (All-nil IsShort)))

-- what a token's line does, it does as a token
token_short : (token : Token) (rest : List ℕ) (role : Role) → (first_columns 3 (columns (108 ∷ rest)) ≡ token.values) → All IsShort token.values → Plays standard_registry (108 ∷ rest) role → All IsShort (kept role)
token_short token rest Passes e all p = All-nil IsShort
token_short token rest (Closes number) e all p = All-nil IsShort
token_short token rest (Gives other) e all p = subst (All IsShort) (sym (p.are ∙ e)) all
token_short token rest (Opens number values) e all p = absurd (letter_no_tag rest (OpeningTag p.kind.name p.attrs) p.spelled)
token_short token rest (Stands number values) e all p = absurd (letter_no_tag rest (EmptyTag p.kind.name p.attrs) p.spelled)

token_good : (token : Token) (rest : List ℕ) → first_columns 3 (columns (108 ∷ rest)) ≡ token.values → All IsShort token.values → All IsPlain (108 ∷ rest) → IsGood standard_registry (108 ∷ rest) (Gives token)
token_good token rest e all plain = record {
  plays = record { stays = letter_not_skipped rest; untagged = letter_no_tag rest; are = sym e };
  plain = plain;
  short = λ role p. token_short token rest role e all p;
  lone = λ other p. omega arith;
}

pub token_gives : (rank : ℕ) (plural : Bool) → rank < 1000 → IsGood standard_registry (token_line (token_of rank plural)) (Gives (token_of rank plural))
token_gives rank plural h =
    token_good (token_of rank plural) _ (ap (first_columns 3) (three_columns (word_of rank plural) (tag_of rank) (lemma_of rank) (word_seen rank plural h) (tag_seen rank) (lemma_seen rank h)))
    (three_short (word_of rank plural) (tag_of rank) (lemma_of rank) (word_short rank plural h) (omega arith) (omega (arith, lemma_short rank h))) (token_plain rank plural h)
