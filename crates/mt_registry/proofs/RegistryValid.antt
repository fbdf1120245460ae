-- A registry file that has no fault declares a valid registry.
use Rattle.std.proofs.Common.{ℕ, ◌≡◌, ◌<◌, ◌≤◌, inl, inr, Bool, true, false, cond, ◌&&◌, ◌||◌, List, [], ◌∷◌, length, map, refl, sym, ◌∙◌, ap, subst, arith, nat_eq, Option, None, Some, is_some, option_map, if◌then◌else◌}
use Rattle.std.specs.Prelude.{slice_get, codes}
use Rattle.std.specs.List.{All, filter, find, list_any}
use Rattle.std.specs.Cmp.Lexicographic.{pointwise}
use Rattle.std.proofs.lemmas.Bool.{cases_lt}
use Rattle.std.proofs.lemmas.List.{length-map}
use Rattle.std.proofs.lemmas.List.Elements.{All-map, All-filter, filter_passes}
use Rattle.std.proofs.lemmas.List.Folds.{find_at}
use Rattle.std.proofs.lemmas.List.Sums.{count_by-le-length}
use Rattle.std.proofs.lemmas.Option.{slice_get-map, slice_get_within}
use Rattle.mt_text_spec.specs.Words.{IsIdentifier}
use Rattle.mt_text_spec.specs.Registries.{Registry, ValidAttr, ValidKind, ValidRegistry, IsBaseAt, is_base, base_count, attr_names, kind_names, AreDistinct}
use Rattle.mt_file_spec.specs.RegistryFile.{Keyword, Attribute, Structure, Dynamic, FromAttr, WsAttr, Statement, File, UnknownMapper, UnknownBase, IsFaultless, NoBase, NoFromAttr, NoSuchName, IsBaseName, IsDeclared, statements_of, gives, declares, attributes_of, structures_of, number_of, attr_with, attr_of, kind_of, ws_attr_with, registry_of, file_of, is_declaring}
use Rattle.mt_registry.specs.Misstated.{AreUnblamed}
use Rattle.mt_registry.specs.Sound.{IsNamed}
use Rattle.mt_registry.proofs.Splits.{found}
use Rattle.mt_registry.proofs.RegistryGroups.{given_keyword, given_place, group_in, IsGroup, names_in, named_statements, unblamed}

-- ## What is found

found_in : {A : Type 0} (p q : A → Bool) (x : A) (xs rest : List A) (b : Bool) → find p rest ≡ find (λ y. q y && p y) xs → find p (cond b (x ∷ rest) rest) ≡ cond (b && p x) (Some x) (find (λ y. q y && p y) xs)
found_in p q x xs rest true e = ap (λ o. cond (p x) (Some x) o) e
found_in p q x xs rest false e = e

find-filter : {A : Type 0} (p q : A → Bool) (xs : List A) → find p (filter q xs) ≡ find (λ y. q y && p y) xs
find-filter p q [] = refl
find-filter p q (x ∷ xs) = found_in p q x xs (filter q xs) (q x) (find-filter p q xs)

any_or : {A : Type 0} (x : A) (b any : Bool) (o : Option A) → any ≡ is_some o → (b || any) ≡ is_some (cond b (Some x) o)
any_or x true any o e = refl
any_or x false any o e = e

any_is_found : {A : Type 0} (p : A → Bool) (xs : List A) → list_any p xs ≡ is_some (find p xs)
any_is_found p [] = refl
any_is_found p (x ∷ xs) = any_or x (p x) (list_any p xs) (find p xs) (any_is_found p xs)

some_of : {A : Type 0} (o : Option A) → is_some o ≡ true → (x : A) × (o ≡ Some x)
some_of None e = cc
some_of (Some x) e = (x, refl)

-- the attribute of a declared name stands at its number
number_there : (all : List Statement) (name : List ℕ) (t : Statement) → find (declares name) all ≡ Some t → slice_get (attributes_of all) (number_of name all) ≡ Some t
number_there all name t e =
    sym (find_at (λ s. pointwise nat_eq s.value name) (attributes_of all)) ∙ find-filter (λ s. pointwise nat_eq s.value name) (gives Attribute 0) all ∙ e

number_low : (all : List Statement) (name : List ℕ) (t : Statement) → find (declares name) all ≡ Some t → number_of name all < length (attributes_of all)
number_low all name t e = slice_get_within (attributes_of all) (number_of name all) t (number_there all name t e)

-- ## Attributes

plain_there : (all : List Statement) (unclosed : ℕ) (name : List ℕ) (t : Statement) → find (declares name) all ≡ Some t → ((IsBaseName all unclosed name → ⊥) → ⊥) → (b : Bool) → list_any (gives Dynamic t.line) all ≡ b →
    list_any (gives Dynamic t.line) all ≡ false
plain_there all unclosed name t e unless true is = absurd (unless (λ b.
    let same : b.statement ≡ t = (let h : Some b.statement ≡ Some t = sym b.declared.first ∙ e in cc) in
    let plain : list_any (gives Dynamic t.line) all ≡ false = subst (λ (x : Statement). list_any (gives Dynamic x.line) all ≡ false) same b.plain in cc))
plain_there all unclosed name t e unless false is = is

base_there : (all : List Statement) (unclosed : ℕ) (name : List ℕ) (o : Option Statement) → find (declares name) all ≡ o → ((IsBaseName all unclosed name → ⊥) → ⊥) →
    (t : Statement) × (find (declares name) all ≡ Some t) × (list_any (gives Dynamic t.line) all ≡ false)
base_there all unclosed name None e unless = absurd (unless (λ b. let first = b.declared.first in cc))
base_there all unclosed name (Some t) e unless = (t, e, plain_there all unclosed name t e unless (list_any (gives Dynamic t.line) all) refl)

attr_with_none : (all : List Statement) (name : List ℕ) (d f : Option Statement) → d ≡ None → (attr_with all name d f).base ≡ None
attr_with_none all name None f e = refl
attr_with_none all name (Some d) f e = cc

none_of : {A : Type 0} (o : Option A) → is_some o ≡ false → o ≡ None
none_of None e = refl
none_of (Some x) e = cc

base_at : (all : List Statement) (name : List ℕ) (t : Statement) → find (declares name) all ≡ Some t → list_any (gives Dynamic t.line) all ≡ false →
    IsBaseAt (map (attr_of all) (attributes_of all)) (number_of name all)
base_at all name t e plain = record {
  attr = attr_of all t;
  there = slice_get-map (attr_of all) (attributes_of all) (number_of name all) ∙ ap (option_map (attr_of all)) (number_there all name t e);
  base = attr_with_none all t.value (find (gives Dynamic t.line) all) (find (gives FromAttr t.line) all) (none_of (find (gives Dynamic t.line) all) (sym (any_is_found (gives Dynamic t.line) all) ∙ plain));
}

short_mapper : (mappers : List (List ℕ)) (all : List Statement) (unclosed : ℕ) (place : ℕ) (d : Statement) → AreUnblamed mappers all unclosed all → find (gives Dynamic place) all ≡ Some d → length d.value ≤ 1024
short_mapper mappers all unclosed place d none e =
    let f = found (gives Dynamic place) all d e in
    elim (cases_lt 1024 (length d.value)) [ inl l ↦ absurd (none f.before d f.after UnknownMapper f.are (sym (given_keyword Dynamic place d f.passes), inl l)) | inr l ↦ l ]

lone_dynamic : (mappers : List (List ℕ)) (all : List Statement) (unclosed : ℕ) (place : ℕ) (d : Statement) → AreUnblamed mappers all unclosed all → find (gives Dynamic place) all ≡ Some d →
    find (gives FromAttr place) all ≡ None → ⊥
lone_dynamic mappers all unclosed place d none e lacks =
    let f = found (gives Dynamic place) all d e in
    let p : d.place ≡ place = given_place Dynamic place d f.passes in
    none f.before d f.after UnknownBase f.are (NoFromAttr (sym (given_keyword Dynamic place d f.passes))
    (ap (λ n. list_any (gives FromAttr n) all) p ∙ any_is_found (gives FromAttr place) all ∙ ap is_some lacks))

based_on : (mappers : List (List ℕ)) (all : List Statement) (unclosed : ℕ) (place : ℕ) (d f : Statement) → AreUnblamed mappers all unclosed all → find (gives Dynamic place) all ≡ Some d →
    find (gives FromAttr place) all ≡ Some f → IsBaseAt (map (attr_of all) (attributes_of all)) (number_of f.value all)
based_on mappers all unclosed place d f none e has =
    let g = found (gives FromAttr place) all f has in
    let p : f.place ≡ place = given_place FromAttr place f g.passes in
    let b = base_there all unclosed f.value (find (declares f.value) all) refl (λ bad. none g.before f g.after UnknownBase g.are
    (NoBase (sym (given_keyword FromAttr place f g.passes)) (ap (λ n. list_any (gives Dynamic n) all) p ∙ any_is_found (gives Dynamic place) all ∙ ap is_some e) bad)) in
    base_at all f.value b.0 b.1 b.2

valid_with : (mappers : List (List ℕ)) (all : List Statement) (unclosed : ℕ) (s : Statement) (d f : Option Statement) → AreUnblamed mappers all unclosed all → IsIdentifier s.value →
    find (gives Dynamic s.line) all ≡ d → find (gives FromAttr s.line) all ≡ f → ValidAttr (map (attr_of all) (attributes_of all)) (attr_with all s.value d f)
valid_with mappers all unclosed s None f none named e has = record { named = named; based = λ n same. cc; unmapped = λ _. refl; short = omega arith }
valid_with mappers all unclosed s (Some d) None none named e has = absurd (lone_dynamic mappers all unclosed s.line d none e has)
valid_with mappers all unclosed s (Some d) (Some f) none named e has = record {
  named = named;
  based = λ n same. let h : number_of f.value all ≡ n = cc in subst (λ (k : ℕ). IsBaseAt (map (attr_of all) (attributes_of all)) k) h (based_on mappers all unclosed s.line d f none e has);
  unmapped = λ same. cc;
  short = short_mapper mappers all unclosed s.line d none e;
}

attr_name : (all : List Statement) (name : List ℕ) (d f : Option Statement) → (attr_with all name d f).name ≡ name
attr_name all name None f = refl
attr_name all name (Some d) None = refl
attr_name all name (Some d) (Some f) = refl

names_of_attrs : (all xs : List Statement) → attr_names (map (attr_of all) xs) ≡ map (λ s. s.value) xs
names_of_attrs all [] = refl
names_of_attrs all (s ∷ xs) = ap (λ n. n ∷ attr_names (map (attr_of all) xs)) (attr_name all s.value (find (gives Dynamic s.line) all) (find (gives FromAttr s.line) all)) ∙ ap (λ ns. s.value ∷ ns) (names_of_attrs all xs)

names_of_kinds : (all xs : List Statement) → kind_names (map (kind_of all) xs) ≡ map (λ s. s.value) xs
names_of_kinds all [] = refl
names_of_kinds all (s ∷ xs) = ap (λ ns. s.value ∷ ns) (names_of_kinds all xs)

both_hold : {A : Type 0} (P Q R : A → Type 0) → ((x : A) → P x → Q x → R x) → (xs : List A) → All P xs → All Q xs → All R xs
both_hold P Q R step xs p q k d l = step _ (p k d l) (q k d l)

-- what each declaration of a place makes is right, where an identifier that is declared makes what is right
each_declared : (keyword : Keyword) (place : ℕ) (all : List Statement) (P : Statement → Type 0) → All IsNamed all →
    ((s : Statement) → gives keyword place s ≡ true → IsNamed s → P s) → All P (filter (gives keyword place) all)
each_declared keyword place all P named step =
    both_hold (λ s. gives keyword place s ≡ true) IsNamed P step (filter (gives keyword place) all) (filter_passes (gives keyword place) all) (All-filter (gives keyword place) IsNamed all named)

-- ## The attribute that sketches count

ws_declared : (all : List Statement) (name : List ℕ) → list_any (declares name) all ≡ true → number_of name all < length (attributes_of all)
ws_declared all name e = let t = some_of (find (declares name) all) (sym (any_is_found (declares name) all) ∙ e) in number_low all name t.0 t.1

ws_usual : (all : List Statement) (a b : Bool) → list_any (declares (codes "lempos")) all ≡ a → list_any (declares (codes "lemma")) all ≡ b → 0 < length (attributes_of all) →
    (if a then number_of (codes "lempos") all else if b then number_of (codes "lemma") all else 0) < length (attributes_of all)
ws_usual all true b e f some = ws_declared all (codes "lempos") e
ws_usual all false true e f some = ws_declared all (codes "lemma") f
ws_usual all false false e f some = some

ws_named : (all : List Statement) (unclosed : ℕ) (name : List ℕ) (o : Option Statement) → find (declares name) all ≡ o → (((declared : Statement) → IsDeclared all unclosed name declared → ⊥) → ⊥) → number_of name all < length (attributes_of all)
ws_named all unclosed name None e unless = absurd (unless (λ t d. let first = d.first in cc))
ws_named all unclosed name (Some t) e unless = number_low all name t e

ws_low : (mappers : List (List ℕ)) (all : List Statement) (unclosed : ℕ) (o : Option Statement) → AreUnblamed mappers all unclosed all → find (gives WsAttr 0) all ≡ o → 0 < length (attributes_of all) →
    ws_attr_with all o < length (attributes_of all)
ws_low mappers all unclosed None none e some = ws_usual all (list_any (declares (codes "lempos")) all) (list_any (declares (codes "lemma")) all) refl refl some
ws_low mappers all unclosed (Some w) none e some =
    let f = found (gives WsAttr 0) all w e in
    ws_named all unclosed w.value (find (declares w.value) all) refl (λ bad. none f.before w f.after UnknownBase f.are (NoSuchName (sym (given_keyword WsAttr 0 w f.passes)) bad))

-- ## The registry

pub valid : (mappers : List (List ℕ)) (file : File) → IsFaultless mappers file → 0 < base_count (registry_of (statements_of file.lines)).attrs → ValidRegistry (registry_of (statements_of file.lines))
valid mappers file faultless some =
    let all : List Statement = statements_of file.lines in
    let none : AreUnblamed mappers all file.unclosed all = unblamed mappers file faultless in
    let named : All IsNamed all = named_statements mappers file faultless in
    let attrs : IsGroup (names_in Attribute 0 all) = group_in mappers all file.unclosed Attribute 0 refl none named in
    let kinds : IsGroup (names_in Structure 0 all) = group_in mappers all file.unclosed Structure 0 refl none named in
    let made : length (map (attr_of all) (attributes_of all)) ≡ length (attributes_of all) = length-map (attributes_of all) (attr_of all) in
    let made_kinds : length (map (kind_of all) (structures_of all)) ≡ length (structures_of all) = length-map (structures_of all) (kind_of all) in
    let values : length (names_in Attribute 0 all) ≡ length (attributes_of all) = length-map (attributes_of all) (λ s. s.value) in
    let kind_values : length (names_in Structure 0 all) ≡ length (structures_of all) = length-map (structures_of all) (λ s. s.value) in
    let most : base_count (map (attr_of all) (attributes_of all)) ≤ length (map (attr_of all) (attributes_of all)) = count_by-le-length is_base (map (attr_of all) (attributes_of all)) in
    record {
      few = omega (arith, attrs.few);
      some = some;
      attrs = All-map (ValidAttr (map (attr_of all) (attributes_of all))) (attr_of all) (attributes_of all)
          (each_declared Attribute 0 all (λ s. ValidAttr (map (attr_of all) (attributes_of all)) (attr_of all s)) named
          (λ s given name. valid_with mappers all file.unclosed s (find (gives Dynamic s.line) all) (find (gives FromAttr s.line) all) none (name (ap is_declaring (sym (given_keyword Attribute 0 s given)))) refl refl));
      distinct = subst (λ (ns : List (List ℕ)). AreDistinct ns) (sym (names_of_attrs all (attributes_of all))) attrs.distinct;
      few_kinds = omega (arith, kinds.few);
      kinds = All-map ValidKind (kind_of all) (structures_of all)
          (each_declared Structure 0 all (λ s. ValidKind (kind_of all s)) named
          (λ s given name.
          let inner : IsGroup (names_in Attribute s.line all) = group_in mappers all file.unclosed Attribute s.line refl none named in
          record { named = name (ap is_declaring (sym (given_keyword Structure 0 s given))); few = inner.few; each = inner.each; distinct = inner.distinct }));
      distinct_kinds = subst (λ (ns : List (List ℕ)). AreDistinct ns) (sym (names_of_kinds all (structures_of all))) kinds.distinct;
      sketched = let low = ws_low mappers all file.unclosed (find (gives WsAttr 0) all) none refl (omega arith) in omega (arith, low);
    }

pub valid_read : (mappers : List (List ℕ)) (bytes : List ℕ) (statements : List Statement) (registry : Registry) (count : ℕ) → IsFaultless mappers (file_of bytes) →
    statements ≡ statements_of (file_of bytes).lines → registry ≡ registry_of statements → count ≡ base_count registry.attrs → 0 < count → ValidRegistry registry
valid_read mappers bytes statements registry count faultless s r c some =
    let e : registry ≡ registry_of (statements_of (file_of bytes).lines) = r ∙ ap registry_of s in
    let counted : 0 < base_count registry.attrs = omega arith in
    subst (λ (x : Registry). ValidRegistry x) (sym e) (valid mappers (file_of bytes) faultless (subst (λ (x : Registry). 0 < base_count x.attrs) e counted))
