-- What is declared in one place of a registry file that has no fault: identifiers that differ, at most 16.
use Rattle.std.proofs.Common.{ℕ, ◌≡◌, ◌≢◌, ◌<◌, ◌≤◌, inl, inr, Bool, true, false, not, cond, ◌==◌, ◌&&◌, ◌||◌, List, [], ◌∷◌, ◌++◌, length, map, get_or, nat_eq, refl, sym, ◌∙◌, ap, subst, arith, append_assoc, eqb-true}
use Rattle.std.specs.Prelude.{slice_index}
use Rattle.std.specs.List.{All, Contains, filter, list_any, count_by}
use Rattle.std.specs.Cmp.Lexicographic.{pointwise}
use Rattle.std.proofs.lemmas.Bool.{cases_Bool, cases_lt}
use Rattle.std.proofs.lemmas.List.Elements.{All-nil, All-cons, All-push, filter-append}
use Rattle.std.proofs.lemmas.List.{length-map, length-append}
use Rattle.std.proofs.lemmas.List.Folds.{Any-from_list_any, list_any_at}
use Rattle.std.proofs.lemmas.List.Sums.{length-filter}
use Rattle.std.proofs.lemmas.List.Quantifiers.{all_pairs_push}
use Rattle.std.proofs.lemmas.Slice.Eq.{bytes_eq-Decides}
use Rattle.mt_text_spec.specs.Words.{IsIdentifier, is_identifier_start, is_identifier_byte}
use Rattle.mt_text_spec.specs.Registries.{AreDistinct}
use Rattle.mt_file_spec.specs.RegistryFile.{Keyword, Attribute, Structure, Dynamic, FromAttr, WsAttr, Statement, File, Syntax, Twice, TooMany, UnknownMapper, NoName, IsCause, Refused, Misstated, IsFaultless, statements_of, same_keyword, is_declaring, gives, repeats, attributes_of, file_of}
use Rattle.mt_registry.specs.Misstated.{AreUnblamed}
use Rattle.mt_registry.specs.Sound.{IsNamed, IsKnown, IsSound}
use Rattle.mt_registry.proofs.Splits.{All-split}
use Rattle.mt_registry.proofs.RegistryFaults.{stated_at}

-- ## Keywords

pub same_is : (a b : Keyword) → same_keyword a b ≡ true → a ≡ b
same_is Attribute Attribute e = refl
same_is Structure Structure e = refl
same_is Dynamic Dynamic e = refl
same_is FromAttr FromAttr e = refl
same_is WsAttr WsAttr e = refl
same_is Attribute Structure e = cc
same_is Attribute Dynamic e = cc
same_is Attribute FromAttr e = cc
same_is Attribute WsAttr e = cc
same_is Structure Attribute e = cc
same_is Structure Dynamic e = cc
same_is Structure FromAttr e = cc
same_is Structure WsAttr e = cc
same_is Dynamic Attribute e = cc
same_is Dynamic Structure e = cc
same_is Dynamic FromAttr e = cc
same_is Dynamic WsAttr e = cc
same_is FromAttr Attribute e = cc
same_is FromAttr Structure e = cc
same_is FromAttr Dynamic e = cc
same_is FromAttr WsAttr e = cc
same_is WsAttr Attribute e = cc
same_is WsAttr Structure e = cc
same_is WsAttr Dynamic e = cc
same_is WsAttr FromAttr e = cc

and_left : (a b : Bool) → (a && b) ≡ true → a ≡ true
and_left true b e = refl
and_left false b e = cc

and_right : (a b : Bool) → (a && b) ≡ true → b ≡ true
and_right true b e = e
and_right false b e = cc

-- what a statement gives
pub given_keyword : (keyword : Keyword) (place : ℕ) (s : Statement) → gives keyword place s ≡ true → keyword ≡ s.keyword
given_keyword keyword place s e = same_is keyword s.keyword (and_left (same_keyword keyword s.keyword) (s.place == place) e)

pub given_place : (keyword : Keyword) (place : ℕ) (s : Statement) → gives keyword place s ≡ true → s.place ≡ place
given_place keyword place s e = eqb-true s.place place (and_right (same_keyword keyword s.keyword) (s.place == place) e)

-- ## What no cause leaves

-- an identifier that is not no identifier is one
byte_stable : (test : ℕ → Bool) (b : ℕ) → ((test b ≡ true → ⊥) → ⊥) → test b ≡ true
byte_stable test b unless = elim (cases_Bool (test b)) [ inl w ↦ w | inr w ↦ absurd (unless (λ t. cc)) ]

less_stable : (m n : ℕ) → ((m < n → ⊥) → ⊥) → m < n
less_stable m n unless = elim (cases_lt m n) [ inl w ↦ w | inr w ↦ absurd (unless (λ t. omega arith)) ]

pub identifier_stable : (bs : List ℕ) → ((IsIdentifier bs → ⊥) → ⊥) → IsIdentifier bs
identifier_stable bs unless = record {
  some = less_stable 0 (length bs) (λ n. unless (λ i. n i.some));
  short = let h : length bs < 65 = less_stable (length bs) 65 (λ n. unless (λ i. n (omega (arith, i.short)))) in omega arith;
  first = byte_stable is_identifier_start (slice_index bs 0) (λ n. unless (λ i. n i.first));
  each = λ k d l. byte_stable is_identifier_byte (get_or bs k d) (λ n. unless (λ i. n (i.each k d l)));
}

-- a name is in a list, or is not
contains_stable : (ms : List (List ℕ)) (v : List ℕ) → ((Contains ms v → ⊥) → ⊥) → Contains ms v
contains_stable ms v unless = elim (cases_Bool (list_any (λ m. pointwise nat_eq m v) ms)) [
  | inl w ↦
      (let a = Any-from_list_any (λ m. pointwise nat_eq m v) ms w in
      let same : a.1 ≡ v = (bytes_eq-Decides a.1 v).0 a.4 in
      (a.0, a.2, subst (λ (y : List ℕ). get_or ms a.0 y ≡ y) same a.3))
  | inr w ↦ absurd (unless (λ c.
      let there : list_any (λ m. pointwise nat_eq m v) ms ≡ true = list_any_at (λ m. pointwise nat_eq m v) ms c.0 v c.1 ((bytes_eq-Decides (get_or ms c.0 v) v).1 c.2) in cc))
]

-- ## Statements that no cause blames

pub unblamed : (mappers : List (List ℕ)) (file : File) → IsFaultless mappers file → AreUnblamed mappers (statements_of file.lines) file.unclosed (statements_of file.lines)
unblamed mappers file none earlier s later cause are has =
    let a = stated_at file.lines earlier s later are in
    none a.line.number cause (Misstated a.earlier a.line s (record { later = a.later; are = a.are }) refl a.states
    (subst (λ (x : List Statement). IsCause mappers (statements_of file.lines) file.unclosed x s cause) (sym a.others) has))

nothing_more : {A : Type 0} (xs : List A) → xs ++ [] ≡ xs
nothing_more [] = refl
nothing_more (x ∷ xs) = ap (λ ys. x ∷ ys) (nothing_more xs)

-- what holds at each split of a list holds of each element
pub All-from_splits : {A : Type 0} (P : A → Type 0) (front rest : List A) → All P front → ((e : List A) (x : A) (r : List A) → front ++ rest ≡ e ++ x ∷ r → P x) → All P (front ++ rest)
All-from_splits P front [] all each = subst (λ (xs : List _). All P xs) (sym (nothing_more front)) all
All-from_splits {A} P front (x ∷ rest) all each =
    subst (λ (xs : List A). All P xs) (append_assoc front (x ∷ []) rest)
    (All-from_splits P (front ++ x ∷ []) rest (All-push P front x all (each front x rest refl)) (λ e y r same. each e y r (sym (append_assoc front (x ∷ []) rest) ∙ same)))

pub named_statements : (mappers : List (List ℕ)) (file : File) → IsFaultless mappers file → All IsNamed (statements_of file.lines)
named_statements mappers file none = All-from_splits IsNamed [] (statements_of file.lines) (All-nil IsNamed) (λ e s r are declaring.
    identifier_stable s.value (λ bad.
    let a = stated_at file.lines e s r are in
    none a.line.number Syntax (Refused a.earlier a.line (record { later = a.later; are = a.are }) refl refl (NoName s a.states declaring bad))))

pub known_statements : (mappers : List (List ℕ)) (all : List Statement) (unclosed : ℕ) → AreUnblamed mappers all unclosed all → All (IsKnown mappers) all
known_statements mappers all unclosed none = All-from_splits (IsKnown mappers) [] all (All-nil (IsKnown mappers)) (λ e s r are dynamic.
    contains_stable mappers s.value (λ bad. none e s r UnknownMapper are (dynamic, inr bad)))

-- ## Declarations in one place

-- the names that are declared in one place
abbrev pub names_in : Keyword → ℕ → List Statement → List (List ℕ)
names_in keyword place all = map (λ s. s.value) (filter (gives keyword place) all)

pub record IsGroup (names : List (List ℕ)) : Type 0 where
  pub few : length names ≤ 16
  pub each : All IsIdentifier names
  pub distinct : AreDistinct names

mapped : (f : Statement → List ℕ) (xs : List Statement) (s : Statement) (b : Bool) → map f (xs ++ cond b (s ∷ []) []) ≡ map f xs ++ cond b (f s ∷ []) []
mapped f [] s true = refl
mapped f [] s false = refl
mapped f (x ∷ xs) s b = ap (λ ys. f x ∷ ys) (mapped f xs s b)

map-push : (f : Statement → List ℕ) (p : Statement → Bool) (front : List Statement) (s : Statement) (b : Bool) → p s ≡ b → map f (filter p (front ++ s ∷ [])) ≡ map f (filter p front) ++ cond b (f s ∷ []) []
map-push f p front s b is = ap (map f) (filter-append p front (s ∷ []) ∙ ap (λ c. filter p front ++ cond c (s ∷ []) []) is) ∙ mapped f (filter p front) s b

or_right : (a b : Bool) → b ≡ true → (a || b) ≡ true
or_right true b e = refl
or_right false b e = e

or_left : (a b : Bool) → a ≡ true → (a || b) ≡ true
or_left a b e = ap (λ c. c || b) e

both_true : (a b c : Bool) → a ≡ true → c ≡ true → (a && (b || c)) ≡ true
both_true true true c e f = refl
both_true true false c e f = f
both_true false b c e f = cc

-- a statement with the value of another in its place repeats it
repeats_same : (keyword : Keyword) (place : ℕ) (s t : Statement) → gives keyword place s ≡ true → gives keyword place t ≡ true → t.value ≡ s.value → repeats s t ≡ true
repeats_same keyword place s t given also same =
    let k : keyword ≡ s.keyword = given_keyword keyword place s given in
    let p : s.place ≡ place = given_place keyword place s given in
    let again : gives s.keyword s.place t ≡ true = ap (λ n. gives s.keyword n t) p ∙ ap (λ x. gives x place t) (sym k) ∙ also in
    let value : pointwise nat_eq t.value s.value ≡ true = (bytes_eq-Decides t.value s.value).1 same in
    both_true (gives s.keyword s.place t) (not (is_declaring s.keyword)) (pointwise nat_eq t.value s.value) again value

one_differs : (keyword : Keyword) (place : ℕ) (t : Statement) (front : List Statement) (s : Statement) (b : Bool) → gives keyword place t ≡ b → is_declaring keyword ≡ true → gives keyword place s ≡ true →
    (list_any (repeats s) (t ∷ front) ≡ true → ⊥) → All (λ name. name ≢ s.value) (names_in keyword place front) → All (λ name. name ≢ s.value) (map (λ x. x.value) (cond b (t ∷ filter (gives keyword place) front) (filter (gives keyword place) front)))
one_differs keyword place t front s true is declaring given none rest =
    All-cons (λ name. name ≢ s.value) t.value (names_in keyword place front)
    (λ same. none (or_left (repeats s t) (list_any (repeats s) front) (repeats_same keyword place s t given is same))) rest
one_differs keyword place t front s false is declaring given none rest = rest

-- no name of these is that of a statement that is not given twice
differs : (keyword : Keyword) (place : ℕ) (front : List Statement) (s : Statement) → is_declaring keyword ≡ true → gives keyword place s ≡ true → (list_any (repeats s) front ≡ true → ⊥) →
    All (λ name. name ≢ s.value) (names_in keyword place front)
differs keyword place [] s declaring given none = All-nil (λ name. name ≢ s.value)
differs keyword place (t ∷ front) s declaring given none =
    one_differs keyword place t front s (gives keyword place t) refl declaring given none
    (differs keyword place front s declaring given (λ e. none (or_right (repeats s t) (list_any (repeats s) front) e)))

-- one statement more
next_group : (keyword : Keyword) (place : ℕ) (front : List Statement) (s : Statement) (b : Bool) → gives keyword place s ≡ b → is_declaring keyword ≡ true → IsNamed s →
    (list_any (repeats s) front ≡ true → ⊥) → ((is_declaring s.keyword ≡ true) × (16 ≤ count_by (gives s.keyword s.place) front) → ⊥) → IsGroup (names_in keyword place front) →
    IsGroup (names_in keyword place front ++ cond b (s.value ∷ []) [])
next_group keyword place front s false is declaring named none few group = subst IsGroup (sym (nothing_more (names_in keyword place front))) group
next_group keyword place front s true is declaring named none few group =
    let k : keyword ≡ s.keyword = given_keyword keyword place s is in
    let p : s.place ≡ place = given_place keyword place s is in
    let also : is_declaring s.keyword ≡ true = ap is_declaring (sym k) ∙ declaring in
    let names : List (List ℕ) = names_in keyword place front in
    let count : length names ≡ count_by (gives s.keyword s.place) front =
    length-map (filter (gives keyword place) front) (λ x. x.value) ∙ length-filter (gives keyword place) front ∙ ap (λ x. count_by (gives x place) front) k ∙ ap (λ n. count_by (gives s.keyword n) front) (sym p) in
    let low : length names < 16 = less_stable (length names) 16 (λ n. few (also, omega arith)) in
    let differ : All (λ name. name ≢ s.value) names = differs keyword place front s declaring is none in
    record {
      few = omega (arith, length-append names (s.value ∷ []));
      each = All-push IsIdentifier names s.value group.each (named also);
      distinct = all_pairs_push (λ name other. name ≢ other) names s.value group.distinct differ;
    }

groups : (mappers : List (List ℕ)) (all : List Statement) (unclosed : ℕ) (keyword : Keyword) (place : ℕ) (front rest : List Statement) → front ++ rest ≡ all → is_declaring keyword ≡ true →
    AreUnblamed mappers all unclosed all → All IsNamed all → IsGroup (names_in keyword place front) → IsGroup (names_in keyword place (front ++ rest))
groups mappers all unclosed keyword place front [] are declaring none named group = subst (λ (x : List Statement). IsGroup (names_in keyword place x)) (sym (nothing_more front)) group
groups mappers all unclosed keyword place front (s ∷ rest) are declaring none named group =
    subst (λ (x : List Statement). IsGroup (names_in keyword place x)) (append_assoc front (s ∷ []) rest)
    (groups mappers all unclosed keyword place (front ++ s ∷ []) rest (append_assoc front (s ∷ []) rest ∙ are) declaring none named
    (subst IsGroup (sym (map-push (λ x. x.value) (gives keyword place) front s (gives keyword place s) refl))
    (next_group keyword place front s (gives keyword place s) refl declaring (All-split IsNamed all front s rest (sym are) named)
    (λ e. none front s rest Twice (sym are) e) (λ e. none front s rest TooMany (sym are) e) group)))

none_pairs : AreDistinct []
none_pairs i j d less within = absurd (omega arith)

pub group_in : (mappers : List (List ℕ)) (all : List Statement) (unclosed : ℕ) (keyword : Keyword) (place : ℕ) → is_declaring keyword ≡ true →
    AreUnblamed mappers all unclosed all → All IsNamed all → IsGroup (names_in keyword place all)
group_in mappers all unclosed keyword place declaring none named =
    groups mappers all unclosed keyword place [] all refl declaring none named (record { few = omega arith; each = All-nil IsIdentifier; distinct = none_pairs })

-- ## Sound statements

pub sound : (mappers : List (List ℕ)) (file : File) → IsFaultless mappers file → IsSound mappers (statements_of file.lines)
sound mappers file none =
    let u = unblamed mappers file none in
    let n = named_statements mappers file none in
    let g : IsGroup (names_in Attribute 0 (statements_of file.lines)) = group_in mappers (statements_of file.lines) file.unclosed Attribute 0 refl u n in
    record {
      named = n;
      known = known_statements mappers (statements_of file.lines) file.unclosed u;
      few = omega (arith, g.few, length-map (attributes_of (statements_of file.lines)) (λ x. x.value));
    }

pub sound_of : (mappers : List (List ℕ)) (bytes : List ℕ) (statements : List Statement) → IsFaultless mappers (file_of bytes) → statements ≡ statements_of (file_of bytes).lines → IsSound mappers statements
sound_of mappers bytes statements none e = subst (λ (x : List Statement). IsSound mappers x) (sym e) (sound mappers (file_of bytes) none)
