-- A statement that is looked up stands in a line of the file, so it has no cause there.
use Rattle.std.proofs.Common.{ℕ, ◌≡◌, ◌⊎◌, inl, inr, List, [], ◌∷◌, ◌++◌, map, Bool, true, false, cond, Option, None, Some, refl, ap}
use Rattle.std.specs.Prelude.{slice_index_or, ◌==◌}
use Rattle.std.proofs.lemmas.Bool.{and_parts}
use Rattle.std.proofs.lemmas.Cmp.{nat_list_eq_equiv}
use Rattle.std.proofs.lemmas.Slice.Eq.{bytes_eq-Decides}
use Rattle.std.proofs.lemmas.Map.Views.{Contains-from_any, list_any-from_Contains}
use Rattle.std.specs.List.{All, Contains, find, cons_option, list_any}
use Rattle.std.specs.Str.{bytes_eq}
use Rattle.std.proofs.lemmas.List.Elements.{All-map, All-same}
use Rattle.mt_text_spec.specs.Registries.{Registry}
use Rattle.mt_file_spec.specs.RegistryFile.{Keyword, Attribute, Structure, Dynamic, FromAttr, WsAttr, same_keyword, Line, Statement, Misstated, UnknownMapper, IsFaultless, ReadsRegistry, file_of, statement_of, statements_of, gives, attr_of, attr_with, attributes_of}
use Rattle.mt_registry_laws.specs.Laws.{HasMapper}

-- a statement that passes a test stands in one of these lines
record Stands (test : Statement → Bool) (lines : List Line) (s : Statement) : Type 0 where
  before : List Line
  line : Line
  after : List Line
  are : lines ≡ before ++ line ∷ after
  states : statement_of line ≡ Some s
  passes : test s ≡ true

later : (test : Statement → Bool) (line : Line) (lines : List Line) (s : Statement) → Stands test lines s → Stands test (line ∷ lines) s
later test line lines s at = record { before = line ∷ at.before; line = at.line; after = at.after; are = ap (λ l. line ∷ l) at.are; states = at.states; passes = at.passes }

by_test : (test : Statement → Bool) (line : Line) (lines : List Line) (s t : Statement) → (find test (statements_of lines) ≡ Some s → Stands test lines s) →
    statement_of line ≡ Some t → (b : Bool) → test t ≡ b → cond b (Some t) (find test (statements_of lines)) ≡ Some s → Stands test (line ∷ lines) s
by_test test line lines s t rest is true passes e = let same : t ≡ s = cc in record { before = []; line = line; after = lines; are = refl; states = cc; passes = cc }
by_test test line lines s t rest is false fails e = later test line lines s (rest e)

by_line : (test : Statement → Bool) (line : Line) (lines : List Line) (s : Statement) → (find test (statements_of lines) ≡ Some s → Stands test lines s) →
    (said : Option Statement) → statement_of line ≡ said → find test (cons_option said (statements_of lines)) ≡ Some s → Stands test (line ∷ lines) s
by_line test line lines s rest None is e = later test line lines s (rest e)
by_line test line lines s rest (Some t) is e = by_test test line lines s t rest is (test t) refl e

stands : (test : Statement → Bool) (lines : List Line) (s : Statement) → find test (statements_of lines) ≡ Some s → Stands test lines s
stands test [] s e = cc
stands test (line ∷ lines) s e = by_line test line lines s (stands test lines s) (statement_of line) refl e

-- what gives a keyword has it
gives_keyword : (keyword : Keyword) → same_keyword Dynamic keyword ≡ true → keyword ≡ Dynamic
gives_keyword Attribute e = cc
gives_keyword Structure e = cc
gives_keyword Dynamic e = refl
gives_keyword FromAttr e = cc
gives_keyword WsAttr e = cc

-- a name is among these or is not
decided : (names : List (List ℕ)) (name : List ℕ) (b : Bool) → list_any (bytes_eq name) names ≡ b → (Contains names name → ⊥) ⊎ Contains names name
decided names name true e = inr (Contains-from_any (λ x y same. (bytes_eq-Decides x y).0 same) name names e)
decided names name false e = inl (λ there. let yes : list_any (bytes_eq name) names ≡ true = list_any-from_Contains nat_list_eq_equiv name names there in cc)

-- the keyword of a statement that gives DYNAMIC
dynamic_of : (place : ℕ) (s : Statement) → gives Dynamic place s ≡ true → s.keyword ≡ Dynamic
dynamic_of place s e = gives_keyword s.keyword (and_parts (same_keyword Dynamic s.keyword) (s.place == place) e).0

-- the mapper that a DYNAMIC of a file without a fault names is at hand
at_hand : (names : List (List ℕ)) (bytes : List ℕ) → IsFaultless names (file_of bytes) → (place : ℕ) (s : Statement) → Stands (gives Dynamic place) (file_of bytes).lines s →
    (Contains names s.value → ⊥) ⊎ Contains names s.value → Contains names s.value
at_hand names bytes faultless place s at (inr there) = there
at_hand names bytes faultless place s at (inl none) =
    absurd (faultless at.line.number UnknownMapper (Misstated at.before at.line s (record { later = at.after; are = at.are }) refl at.states (dynamic_of place s at.passes, inr none)))

-- the mapper of an attribute with these statements
mapper_there : (names : List (List ℕ)) (bytes : List ℕ) → IsFaultless names (file_of bytes) → (place : ℕ) (name : List ℕ) (mapper from : Option Statement) →
    find (gives Dynamic place) (statements_of (file_of bytes).lines) ≡ mapper → (all : List Statement) → HasMapper names (attr_with all name mapper from)
mapper_there names bytes faultless place name None from e all = λ base based. cc
mapper_there names bytes faultless place name (Some s) None e all = λ base based. cc
mapper_there names bytes faultless place name (Some s) (Some f) e all =
    λ base based. at_hand names bytes faultless place s (stands (gives Dynamic place) (file_of bytes).lines s e) (decided names s.value (list_any (bytes_eq s.value) names) refl)

pub all_there : (names : List (List ℕ)) (bytes : List ℕ) (registry : Registry) → ReadsRegistry names bytes registry → All (HasMapper names) registry.attrs
all_there names bytes registry reads =
    let are : registry.attrs ≡ map (attr_of (statements_of (file_of bytes).lines)) (attributes_of (statements_of (file_of bytes).lines)) = ap (λ r. r.attrs) reads.are in
    All-same (HasMapper names) registry.attrs (map (attr_of (statements_of (file_of bytes).lines)) (attributes_of (statements_of (file_of bytes).lines))) are
    (All-map (HasMapper names) (attr_of (statements_of (file_of bytes).lines)) (attributes_of (statements_of (file_of bytes).lines))
    (λ k d low. mapper_there names bytes reads.faultless (slice_index_or (attributes_of (statements_of (file_of bytes).lines)) k d).line (slice_index_or (attributes_of (statements_of (file_of bytes).lines)) k d).value
    (find (gives Dynamic (slice_index_or (attributes_of (statements_of (file_of bytes).lines)) k d).line) (statements_of (file_of bytes).lines))
    (find (gives FromAttr (slice_index_or (attributes_of (statements_of (file_of bytes).lines)) k d).line) (statements_of (file_of bytes).lines)) refl (statements_of (file_of bytes).lines)))
