-- A line is read in one way.
use Rattle.std.proofs.Common.{◌≡◌, ℕ, zero, suc, ◌<◌, ◌≤◌, ◌⊎◌, inl, inr, Bool, true, false, List, [], ◌∷◌, ◌++◌, length, map, codes, get_or, refl, sym, ◌∙◌, ap, subst, arith, append_assoc, option_map, Some}
use Rattle.std.specs.Prelude.{slice_get}
use Rattle.std.specs.List.{Contains}
use Rattle.std.proofs.lemmas.Bool.{true≢false, cases_lt}
use Rattle.std.proofs.lemmas.Option.{slice_get-map}
use Rattle.mt_text_spec.specs.Words.{is_identifier_start}
use Rattle.mt_text_spec.specs.Registries.{Registry, Kind, ValidRegistry, AreDistinct, kind_names}
use Rattle.mt_text_spec.specs.Texts.{Token}
use Rattle.mt_file_spec.specs.Tags.{is_space, AreSpaces, IsTagName, TagAttr, Tag, OpeningTag, EmptyTag, ClosingTag, SpellsEnd, Spells, IsTag, tag_value}
use Rattle.mt_file_spec.specs.VerticalLines.{IsSkipped, Role, Passes, Opens, Stands, Closes, Gives, Plays, tag_name, IsTokenLine}
use Rattle.mt_vertical.specs.TagReading.{behind, tag_name_at, tail_at, ReadsAttrs}
use Rattle.mt_vertical.specs.TagForms.{ReadsBegin, ReadsEnd}
use Rattle.mt_vertical.proofs.Steps.{some_once, same}
use Rattle.mt_vertical.proofs.AttrForms.{attrs_once, behind_back}
use Rattle.mt_vertical.proofs.TagSpelling.{begin_gives, begin_back, end_back, begin_no_slash, rest_same, last}

-- ## Tags

-- what is read behind `<`
abbrev Reading : List ℕ → Tag → Type 0
Reading bytes (OpeningTag name attrs) = (region : List ℕ) × ReadsBegin bytes name region attrs false
Reading bytes (EmptyTag name attrs) = (region : List ℕ) × ReadsBegin bytes name region attrs true
Reading bytes (ClosingTag name) = (rest : List ℕ) × (bytes ≡ 47 ∷ rest) × ReadsEnd rest name

begin_once : (bytes n r m s : List ℕ) (xs ys : List TagAttr) (a b : Bool) → ReadsBegin bytes n r xs a → ReadsBegin bytes m s ys b → (n ≡ m) × (xs ≡ ys) × (a ≡ b)
begin_once bytes n r m s xs ys a b h k =
    let both : (n, r) ≡ (m, s) = some_once (tag_name_at bytes) (n, r) (m, s) h.named k.named in
    let once = attrs_once s xs ys h.tail k.tail (let P : List ℕ → Type 0 = λ b. ReadsAttrs b xs h.tail in subst P (ap (λ p. p.1) both) h.read) k.read in
    (ap (λ p. p.0) both, once.0, some_once (tail_at k.tail) a b (ap tail_at (sym once.1) ∙ h.ended) k.ended)

end_once : (bytes n m : List ℕ) → ReadsEnd bytes n → ReadsEnd bytes m → n ≡ m
end_once bytes n m h k = ap (λ p. p.0) (some_once (tag_name_at bytes) (n, h.tail) (m, k.tail) h.named k.named)

forms_differ : {P : Type 0} → false ≡ true → P
forms_differ e = cc

begin_slash : (bytes n r rest : List ℕ) (xs : List TagAttr) (a : Bool) → ReadsBegin bytes n r xs a → bytes ≡ 47 ∷ rest → ⊥
begin_slash bytes n r rest xs a h e = begin_no_slash bytes rest n xs (last a) (ap (λ b. behind 47 b) e ∙ behind_back 47 rest) (begin_gives bytes n r xs a h)

reading_once : (bytes : List ℕ) (t u : Tag) → Reading bytes t → Reading bytes u → t ≡ u
reading_once bytes (OpeningTag n xs) (OpeningTag m ys) h k = let o = begin_once bytes n h.0 m k.0 xs ys false false h.1 k.1 in rw (o.0, o.1) refl
reading_once bytes (OpeningTag n xs) (EmptyTag m ys) h k = let o = begin_once bytes n h.0 m k.0 xs ys false true h.1 k.1 in forms_differ o.2
reading_once bytes (OpeningTag n xs) (ClosingTag m) h k = absurd (begin_slash bytes n h.0 k.0 xs false h.1 k.1)
reading_once bytes (EmptyTag n xs) (OpeningTag m ys) h k = let o = begin_once bytes n h.0 m k.0 xs ys true false h.1 k.1 in forms_differ (sym o.2)
reading_once bytes (EmptyTag n xs) (EmptyTag m ys) h k = let o = begin_once bytes n h.0 m k.0 xs ys true true h.1 k.1 in rw (o.0, o.1) refl
reading_once bytes (EmptyTag n xs) (ClosingTag m) h k = absurd (begin_slash bytes n h.0 k.0 xs true h.1 k.1)
reading_once bytes (ClosingTag n) (OpeningTag m ys) h k = absurd (begin_slash bytes m k.0 h.0 ys false k.1 h.1)
reading_once bytes (ClosingTag n) (EmptyTag m ys) h k = absurd (begin_slash bytes m k.0 h.0 ys true k.1 h.1)
reading_once bytes (ClosingTag n) (ClosingTag m) h k =
    let rest : h.0 ≡ k.0 = rest_same 47 47 h.0 k.0 (sym h.1 ∙ k.1) in
    ap (λ name. ClosingTag name) (end_once k.0 n m (let P : List ℕ → Type 0 = λ r. ReadsEnd r n in subst P rest h.2) k.2)

-- what stands behind the `<` of a tag
open_of : (line : List ℕ) (tag : Tag) → Spells line tag → (bytes : List ℕ) × (line ≡ 60 ∷ bytes)
open_of line (OpeningTag name attrs) s = (name ++ s.spelling ++ s.inner ++ codes ">" ++ s.behind, s.are)
open_of line (EmptyTag name attrs) s = (name ++ s.spelling ++ s.inner ++ codes "/>" ++ s.behind, s.are)
open_of line (ClosingTag name) s = (47 ∷ (name ++ s.inner ++ 62 ∷ s.behind), s.are)

reading_of : (bytes : List ℕ) (tag : Tag) → Spells (60 ∷ bytes) tag → Reading bytes tag
reading_of bytes (OpeningTag name attrs) s = begin_back bytes name attrs false s
reading_of bytes (EmptyTag name attrs) s = begin_back bytes name attrs true s
reading_of bytes (ClosingTag name) s =
    let rest : List ℕ = name ++ s.inner ++ 62 ∷ s.behind in
    let are : bytes ≡ 47 ∷ rest = rest_same 60 60 bytes (47 ∷ rest) s.are in
    (rest, are, end_back rest name (let P : List ℕ → Type 0 = λ b. SpellsEnd (60 ∷ b) name in subst P are s))

pub tag_once : (line : List ℕ) (t u : Tag) → IsTag line t → IsTag line u → t ≡ u
tag_once line t u h k =
    let o = open_of line t h.spelled in
    let P : Tag → List ℕ → Type 0 = λ tag l. Spells l tag in
    reading_once o.0 t u (reading_of o.0 t (subst (P t) o.1 h.spelled)) (reading_of o.0 u (subst (P u) o.1 k.spelled))

-- ## Skipped lines are no tags

-- the two bytes in front of a tag
record Begins (line : List ℕ) : Type 0 where
  pub byte : ℕ
  pub rest : List ℕ
  pub are : line ≡ 60 ∷ byte ∷ rest
  pub good : (is_identifier_start byte ≡ true) ⊎ (byte ≡ 47)

named_begins : (line name rest : List ℕ) → IsTagName name → line ≡ 60 ∷ (name ++ rest) → Begins line
named_begins line [] rest n e = let some : 0 < 0 = n.some in absurd (omega arith)
named_begins line (b ∷ name) rest n e = record { byte = b; rest = name ++ rest; are = e; good = inl n.first }

grouped : (name spelling inner close behind : List ℕ) → 60 ∷ name ++ spelling ++ inner ++ close ++ behind ≡ 60 ∷ (name ++ (spelling ++ inner ++ close ++ behind))
grouped name spelling inner close behind = simp append_assoc refl

begins : (line : List ℕ) (tag : Tag) → Spells line tag → Begins line
begins line (OpeningTag name attrs) s = named_begins line name (s.spelling ++ s.inner ++ codes ">" ++ s.behind) s.named (s.are ∙ grouped name s.spelling s.inner (codes ">") s.behind)
begins line (EmptyTag name attrs) s = named_begins line name (s.spelling ++ s.inner ++ codes "/>" ++ s.behind) s.named (s.are ∙ grouped name s.spelling s.inner (codes "/>") s.behind)
begins line (ClosingTag name) s = record { byte = 47; rest = name ++ s.inner ++ 62 ∷ s.behind; are = s.are; good = inr refl }

wrong_byte : (b c : ℕ) (xs ys : List ℕ) → 60 ∷ b ∷ xs ≡ 60 ∷ c ∷ ys → b ≡ c
wrong_byte b c xs ys e = cc

no_question : (b : ℕ) → (is_identifier_start b ≡ true) ⊎ (b ≡ 47) → b ≡ 63 → ⊥
no_question b (inl s) e = true≢false (sym s ∙ ap is_identifier_start e)
no_question b (inr s) e = omega (arith, s, e)

no_mark : (b : ℕ) → (is_identifier_start b ≡ true) ⊎ (b ≡ 47) → b ≡ 33 → ⊥
no_mark b (inl s) e = true≢false (sym s ∙ ap is_identifier_start e)
no_mark b (inr s) e = omega (arith, s, e)

no_space : (bytes : List ℕ) → AreSpaces (60 ∷ bytes) → ⊥
no_space bytes s = let h : is_space 60 ≡ true = s 0 0 (omega arith) in cc

pub skipped_no_tag : (line : List ℕ) (tag : Tag) → IsSkipped line → IsTag line tag → ⊥
skipped_no_tag line tag (inl s) t = let b = begins line tag t.spelled in no_space (b.byte ∷ b.rest) (subst AreSpaces b.are s)
skipped_no_tag line tag (inr (inl q)) t =
    let b = begins line tag t.spelled in no_question b.byte b.good (wrong_byte b.byte 63 b.rest (q.0 ++ codes ">") (sym b.are ∙ q.1))
skipped_no_tag line tag (inr (inr q)) t =
    let b = begins line tag t.spelled in no_mark b.byte b.good (wrong_byte b.byte 33 b.rest (45 ∷ 45 ∷ (q.0 ++ codes ">")) (sym b.are ∙ q.1))

-- ## Roles

-- what a tag of this kind does
abbrev does : ℕ → Kind → Tag → Role
does number kind (OpeningTag name attrs) = Opens number (map (tag_value attrs) kind.attrs)
does number kind (EmptyTag name attrs) = Stands number (map (tag_value attrs) kind.attrs)
does number kind (ClosingTag name) = Closes number

record IsOfKind (registry : Registry) (tag : Tag) (role : Role) : Type 0 where
  pub number : ℕ
  pub kind : Kind
  pub declared : slice_get registry.kinds number ≡ Some kind
  pub named : kind.name ≡ tag_name tag
  pub is : role ≡ does number kind tag

-- what a tag does under a registry
abbrev TagRole : Registry → Tag → Role → Type 0
TagRole registry tag role = (¬ Contains (kind_names registry.kinds) (tag_name tag) × (role ≡ Passes)) ⊎ IsOfKind registry tag role

-- a line that is a tag
record IsTagRole (registry : Registry) (line : List ℕ) (role : Role) : Type 0 where
  pub tag : Tag
  pub spelled : IsTag line tag
  pub plays : TagRole registry tag role

record IsTokenRole (registry : Registry) (line : List ℕ) (role : Role) : Type 0 where
  pub token : Token
  pub plays : IsTokenLine registry line token
  pub is : role ≡ Gives token

-- how a line comes to its role
abbrev Comes : Registry → List ℕ → Role → Type 0
Comes registry line role = (IsSkipped line × (role ≡ Passes)) ⊎ (IsTagRole registry line role ⊎ IsTokenRole registry line role)

comes : (registry : Registry) (line : List ℕ) (role : Role) → Plays registry line role → Comes registry line role
comes registry line Passes (inl s) = inl (s, refl)
comes registry line Passes (inr f) = inr (inl (record { tag = f.0; spelled = f.1.spelled; plays = inl (f.1.foreign, refl) }))
comes registry line (Opens number values) p = inr (inl (record {
  tag = OpeningTag p.kind.name p.attrs;
  spelled = p.spelled;
  plays = inr (record { number = number; kind = p.kind; declared = p.declared; named = refl; is = ap (λ vs. Opens number vs) p.are });
}))
comes registry line (Stands number values) p = inr (inl (record {
  tag = EmptyTag p.kind.name p.attrs;
  spelled = p.spelled;
  plays = inr (record { number = number; kind = p.kind; declared = p.declared; named = refl; is = ap (λ vs. Stands number vs) p.are });
}))
comes registry line (Closes number) p = inr (inl (record {
  tag = ClosingTag p.kind.name;
  spelled = p.spelled;
  plays = inr (record { number = number; kind = p.kind; declared = p.declared; named = refl; is = refl });
}))
comes registry line (Gives token) p = inr (inr (record { token = token; plays = p; is = refl }))

-- a kind is found by its name in one place
name_at : (kinds : List Kind) (n : ℕ) (kind : Kind) → slice_get kinds n ≡ Some kind → slice_get (kind_names kinds) n ≡ Some kind.name
name_at kinds n kind e = slice_get-map (λ k. k.name) kinds n ∙ ap (option_map (λ k. k.name)) e

pub contains_at : (names : List (List ℕ)) (n : ℕ) (name : List ℕ) → slice_get names n ≡ Some name → Contains names name
contains_at [] n name e = cc
contains_at (x ∷ names) zero name e = (0, omega arith, same x name e)
contains_at (x ∷ names) (suc n) name e = let c = contains_at names n name e in (suc c.0, omega (arith, c.1), c.2)

at_names : (names : List (List ℕ)) (n : ℕ) (name d : List ℕ) → slice_get names n ≡ Some name → (n < length names) × (get_or names n d ≡ name)
at_names [] n name d e = cc
at_names (x ∷ names) zero name d e = (omega arith, same x name e)
at_names (x ∷ names) (suc n) name d e = let c = at_names names n name d e in (omega (arith, c.0), c.1)

place_cases : (names : List (List ℕ)) (a b : ℕ) (name : List ℕ) → AreDistinct names → (a < length names) × (get_or names a [] ≡ name) → (b < length names) × (get_or names b [] ≡ name) →
    (a < b) ⊎ (b ≤ a) → (b < a) ⊎ (a ≤ b) → a ≡ b
place_cases names a b name distinct e f (inl l) m = absurd (distinct a b [] l f.0 (e.1 ∙ sym f.1))
place_cases names a b name distinct e f (inr l) (inl m) = absurd (distinct b a [] m e.0 (f.1 ∙ sym e.1))
place_cases names a b name distinct e f (inr l) (inr m) = omega arith

pub one_place : (names : List (List ℕ)) (a b : ℕ) (name : List ℕ) → AreDistinct names → slice_get names a ≡ Some name → slice_get names b ≡ Some name → a ≡ b
one_place names a b name distinct e f = place_cases names a b name distinct (at_names names a name [] e) (at_names names b name [] f) (cases_lt a b) (cases_lt b a)

same_kind : (kinds : List Kind) (n : ℕ) (k l : Kind) → slice_get kinds n ≡ Some k → slice_get kinds n ≡ Some l → k ≡ l
same_kind kinds n k l e f = some_once (slice_get kinds n) k l e f

kinds_once : (registry : Registry) (a b : ℕ) (k l : Kind) → ValidRegistry registry → slice_get registry.kinds a ≡ Some k → slice_get registry.kinds b ≡ Some l → k.name ≡ l.name → (a ≡ b) × (k ≡ l)
kinds_once registry a b k l v e f n =
    let place : a ≡ b = one_place (kind_names registry.kinds) a b l.name v.distinct_kinds (name_at registry.kinds a k e ∙ ap Some n) (name_at registry.kinds b l f) in
    (place, same_kind registry.kinds b k l (ap (slice_get registry.kinds) (sym place) ∙ e) f)

declared_not_foreign : {P : Type 0} → (registry : Registry) (tag : Tag) (role : Role) → ¬ Contains (kind_names registry.kinds) (tag_name tag) → IsOfKind registry tag role → P
declared_not_foreign registry tag role f k = absurd (f (contains_at (kind_names registry.kinds) k.number (tag_name tag) (name_at registry.kinds k.number k.kind k.declared ∙ ap Some k.named)))

tag_role_once : (registry : Registry) (tag : Tag) (a b : Role) → ValidRegistry registry → TagRole registry tag a → TagRole registry tag b → a ≡ b
tag_role_once registry tag a b v (inl h) (inl k) = h.1 ∙ sym k.1
tag_role_once registry tag a b v (inl h) (inr k) = declared_not_foreign registry tag b h.0 k
tag_role_once registry tag a b v (inr h) (inl k) = declared_not_foreign registry tag a k.0 h
tag_role_once registry tag a b v (inr h) (inr k) =
    let o = kinds_once registry h.number k.number h.kind k.kind v h.declared k.declared (h.named ∙ sym k.named) in
    h.is ∙ ap (λ n. does n h.kind tag) o.0 ∙ ap (λ kind. does k.number kind tag) o.1 ∙ sym k.is

token_same : (t u : Token) → t.values ≡ u.values → t ≡ u
token_same t u e = let made : List (List ℕ) → Token = λ vs. record { values = vs } in ap made e

comes_once : (registry : Registry) (line : List ℕ) (a b : Role) → ValidRegistry registry → Comes registry line a → Comes registry line b → a ≡ b
comes_once registry line a b v (inl h) (inl k) = h.1 ∙ sym k.1
comes_once registry line a b v (inl h) (inr (inl k)) = absurd (skipped_no_tag line k.tag h.0 k.spelled)
comes_once registry line a b v (inl h) (inr (inr k)) = absurd (k.plays.stays h.0)
comes_once registry line a b v (inr (inl h)) (inl k) = absurd (skipped_no_tag line h.tag k.0 h.spelled)
comes_once registry line a b v (inr (inl h)) (inr (inl k)) =
    tag_role_once registry k.tag a b v (let P : Tag → Type 0 = λ t. TagRole registry t a in subst P (tag_once line h.tag k.tag h.spelled k.spelled) h.plays) k.plays
comes_once registry line a b v (inr (inl h)) (inr (inr k)) = absurd (k.plays.untagged h.tag h.spelled)
comes_once registry line a b v (inr (inr h)) (inl k) = absurd (h.plays.stays k.0)
comes_once registry line a b v (inr (inr h)) (inr (inl k)) = absurd (h.plays.untagged k.tag k.spelled)
comes_once registry line a b v (inr (inr h)) (inr (inr k)) = h.is ∙ ap (λ t. Gives t) (token_same h.token k.token (h.plays.are ∙ sym k.plays.are)) ∙ sym k.is

-- a line does one thing
pub plays_once : (registry : Registry) (line : List ℕ) (a b : Role) → ValidRegistry registry → Plays registry line a → Plays registry line b → a ≡ b
plays_once registry line a b v h k = comes_once registry line a b v (comes registry line a h) (comes registry line b k)
