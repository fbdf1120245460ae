-- Mappers by name, and tables that come of images.
use Rattle.std.proofs.Common.{◌≡◌, ℕ, suc, ◌+◌, ◌<◌, ◌≤◌, ◌==◌, Bool, true, false, not, cond, List, [], ◌∷◌, ◌++◌, length, map, take, get_or, set, slice_get, Some, Result, refl, sym, ◌∙◌, ap, ap₂, subst, arith, ◌⊎◌, inl, inr, if◌then◌else◌, true≢false, ◌↔◌, IsTrue}
use Rattle.std.specs.List.{All, Contains}
use Rattle.std.specs.Option.{option_map}
use Rattle.std.specs.Str.{bytes_eq}
use Rattle.std.specs.Cmp.Lexicographic.{bytes_decides}
use Rattle.std.proofs.lemmas.Bool.{cases_lt, cases_eq}
use Rattle.std.proofs.lemmas.Bool.Decides.{nat_tests}
use Rattle.std.proofs.lemmas.List.{length-map, length-set, map-set, map_more, get_or-map, get_or-set_same, get_or-set_other, get_or_default, take_all}
use Rattle.std.proofs.lemmas.Simd.{map-map}
use Rattle.std.proofs.Math.Seq.{map-set_same}
use Rattle.std.proofs.lemmas.List.Elements.{All-from_get_or, All-more}
use Rattle.std.proofs.lemmas.List.Sums.{position_or_len_is}
use Rattle.std.proofs.lemmas.Option.{slice_get_within, slice_get-map, get_or_from_slice_get}
use Rattle.mt_text_spec.specs.Registries.{Attr}
use Rattle.mt_store_spec.specs.Lexicons.{IsLexiconOf, Renumbers}
use Rattle.mt_lexicon.specs.Joins.{renumbered}
use Rattle.mt_segment.proofs.Renumbered.{renumbers_then}
use Rattle.mt_segment_spec.specs.Tables.{AttrTables, AreBaseTables, AreMappedTables}
use Rattle.mt_segment.specs.Mappers.{AreMapped, AreCalled, Called, named, image_by, number_of}
use Rattle.mt_segment.proofs.Calls.{not_called}
use Rattle.mt_segment.proofs.Valued.{postings_are}

-- ---- the mapper of a name

itself : (name : List ℕ) → bytes_eq name name ≡ true
itself name = (bytes_decides name name).1 refl

module _ {M : Type 0} (called : M → List ℕ) where
  -- no mapper so far has the name
  abbrev pub HaveNot : List M → List ℕ → ℕ → Type 0
  HaveNot mappers name many = (k : ℕ) → k < many → bytes_eq name (get_or (map called mappers) k []) ≡ false

  pub one_less : (mappers : List M) (name : List ℕ) (at : ℕ) (mapper : M) (its : List ℕ) → HaveNot mappers name at → at < length mappers → mapper ≡ get_or mappers at mapper → its ≡ called mapper → bytes_eq name its ≡ false →
      HaveNot mappers name (at + 1)
  one_less mappers name at mapper its h l e is differs k m = by (cases_lt k at)
    where
      by : (k < at) ⊎ (at ≤ k) → bytes_eq name (get_or (map called mappers) k []) ≡ false
      by (inl low) = h k low
      by (inr high) =
          let same : at ≡ k = omega arith in
          subst (λ (n : ℕ). bytes_eq name (get_or (map called mappers) n []) ≡ false) same (ap (bytes_eq name) (get_or-map called mappers at mapper [] l ∙ ap called (sym e) ∙ sym is) ∙ differs)

  pub number_is : (mappers : List M) (name : List ℕ) (at : ℕ) (mapper : M) (its : List ℕ) → HaveNot mappers name at → at < length mappers → mapper ≡ get_or mappers at mapper → its ≡ called mapper → bytes_eq name its ≡ true →
      at ≡ number_of (map called mappers) name
  number_is mappers name at mapper its h l e is same =
      sym (position_or_len_is (bytes_eq name) (map called mappers) at [] (omega (arith, length-map mappers called)) h
      (λ m. ap (bytes_eq name) (get_or-map called mappers at mapper [] l ∙ ap called (sym e) ∙ sym is) ∙ same))

  pub is_there : (mappers : List M) (name : List ℕ) (at : ℕ) (mapper : M) (its : List ℕ) → at < length mappers → mapper ≡ get_or mappers at mapper → its ≡ called mapper → bytes_eq name its ≡ true → Contains (map called mappers) name
  is_there mappers name at mapper its l e is same =
      let one : name ≡ its = (bytes_decides name its).0 same in
      (at, omega (arith, length-map mappers called), get_or-map called mappers at mapper name l ∙ ap called (sym e) ∙ sym is ∙ sym one)

  pub none_there : (mappers : List M) (name : List ℕ) (many : ℕ) → HaveNot mappers name many → length mappers ≤ many → Contains (map called mappers) name → ⊥
  none_there mappers name many h l (k, m, e) =
      let at : get_or (map called mappers) k [] ≡ name = get_or_default (map called mappers) k [] name m ∙ e in
      let differs : bytes_eq name (get_or (map called mappers) k []) ≡ false = h k (omega (arith, length-map mappers called)) in
      true≢false (sym (itself name) ∙ ap (bytes_eq name) (sym at) ∙ differs)

  -- the image by a name is that of the mapper
  pub image_is : (image : M → List ℕ → List ℕ) (mappers : List M) (name : List ℕ) (at : ℕ) (d : M) → at ≡ number_of (map called mappers) name → at < length mappers →
      image_by (named called image mappers) name ≡ image (get_or mappers at d)
  image_is image [] name at d e l = absurd (omega arith)
  image_is image (m ∷ ms) name at d e l = by (bytes_eq name (called m)) e (λ k f n. image_is image ms name k d f n)
    where
      by : (b : Bool) → at ≡ cond (not b) (1 + number_of (map called ms) name) 0 → ((k : ℕ) → k ≡ number_of (map called ms) name → k < length ms → image_by (named called image ms) name ≡ image (get_or ms k d)) →
          (if b then image m else image_by (named called image ms) name) ≡ image (get_or (m ∷ ms) at d)
      by true e rest = subst (λ (n : ℕ). image m ≡ image (get_or (m ∷ ms) n d)) (sym e) refl
      by false e rest =
          let n = number_of (map called ms) name in
          let f : at ≡ suc n = omega arith in
          subst (λ (k : ℕ). image_by (named called image ms) name ≡ image (get_or (m ∷ ms) k d)) (sym f) (rest n refl (omega arith))

  pub same_named : (image : M → List ℕ → List ℕ) (mappers : List M) (at : ℕ) (d new : M) → called new ≡ called (get_or mappers at d) → image new ≡ image (get_or mappers at d) →
      named called image (set mappers at new) ≡ named called image mappers
  same_named image mappers at d new f g =
      let it : M → List ℕ × (List ℕ → List ℕ) = λ mapper. (called mapper, image mapper) in
      map-set_same it mappers at new d (ap₂ (λ (a : List ℕ) (b : List ℕ → List ℕ). (a, b)) f g)

  pub same_names : (image : M → List ℕ → List ℕ) (mappers others : List M) → named called image mappers ≡ named called image others → map called mappers ≡ map called others
  same_names image mappers others e =
      let first : List ℕ × (List ℕ → List ℕ) → List ℕ = λ p. p.0 in
      let it : M → List ℕ × (List ℕ → List ℕ) = λ mapper. (called mapper, image mapper) in
      sym (map-map first it mappers) ∙ ap (map first) e ∙ map-map first it others

-- ---- whether all attributes pass a test

module _ (P : Attr → Type 0) (attrs read : List Attr) (e : read ≡ attrs) (i : ℕ) where
  pub one_fails : (attr : Attr) (b : Bool) → i < length read → attr ≡ get_or read i attr → (P attr → IsTrue b) → b ≡ false → (IsTrue false ↔ All P attrs)
  one_fails attr b l is holds fails =
      (λ h. absurd cc, λ all. sym fails ∙ holds (subst P (sym is) (subst (λ (xs : List Attr). All P xs) (sym e) all i attr l)))

  pub one_passes : (attr : Attr) → i < length read → attr ≡ get_or read i attr → All P (take i attrs) → P attr → All P (take (i + 1) attrs)
  one_passes attr l is so_far holds =
      subst (λ (xs : List Attr). All P (take (i + 1) xs)) e (All-more P read i attr l (subst (λ (xs : List Attr). All P (take i xs)) (sym e) so_far) (subst P is holds))

  pub all_pass : length read ≤ i → All P (take i attrs) → (IsTrue true ↔ All P attrs)
  all_pass l so_far = (λ h. subst (λ (xs : List Attr). All P xs) (take_all i attrs (omega (arith, ap length e))) so_far, λ all. refl)

-- ---- calls

due_one : (number k n : ℕ) → number ≡ k → (if number == k then n else 0) ≡ n
due_one number k n e = grind (arith, nat_tests)

due_none : (number k n : ℕ) → (number ≡ k → ⊥) → (if number == k then n else 0) ≡ 0
due_none number k n d = grind (arith, nat_tests)

-- One mapper was called, and the others were not. `P` says of a count before, of the calls that are due and of the count after how often it was called.
module _ (P : ℕ → ℕ → ℕ → Type 0) (none : (x : ℕ) → P x 0 x) (old : List ℕ) (at number n y : ℕ) (e : at ≡ number) (l : at < length old) (is : P (get_or old at 0) n y) where
  only_one : (k : ℕ) → P (get_or old k 0) (if number == k then n else 0) (get_or (set old at y) k 0)
  only_one k = by (cases_eq k at)
    where
      by : (k ≡ at) ⊎ (k ≡ at → ⊥) → P (get_or old k 0) (if number == k then n else 0) (get_or (set old at y) k 0)
      by (inl same) =
          let due : (if number == k then n else 0) ≡ n = due_one number k n (sym (same ∙ e)) in
          let new : get_or (set old at y) at 0 ≡ y = get_or-set_same old at y 0 l in
          rw (due, same, new) is
      by (inr differs) =
          let due : (if number == k then n else 0) ≡ 0 = due_none number k n (λ f. differs (sym (e ∙ f))) in
          let new : get_or (set old at y) k 0 ≡ get_or old k 0 = get_or-set_other old at k y 0 differs in
          rw (due, new) (none (get_or old k 0))

pub one_called : {M T E : Type 0} (calls : M → ℕ) (mappers : List M) (at number n : ℕ) (d new : M) (answer : Result T E) → at ≡ number → at < length mappers → Called n (calls (get_or mappers at d)) (calls new) answer →
    AreCalled (λ m. if number == m then n else 0) (map calls mappers) (map calls (set mappers at new)) answer
one_called calls mappers at number n d new answer e l is =
    let counts = map calls mappers in
    let here : get_or counts at 0 ≡ calls (get_or mappers at d) = get_or-map calls mappers at d 0 l in
    subst (λ (ys : List ℕ). AreCalled (λ m. if number == m then n else 0) counts ys answer) (sym (map-set calls mappers at new)) (record {
      count = length-set counts at (calls new);
      each = λ k m.
          only_one (λ x due y. Called due x y answer) (λ x. not_called x answer) counts at number n (calls new) e (omega (arith, length-map mappers calls))
          (subst (λ (x : ℕ). Called n x (calls new) answer) (sym here) is) k;
    })

-- ---- images

pub images_more : (f g : List ℕ → List ℕ) (lexicon images new : List (List ℕ)) (id : ℕ) (value its : List ℕ) → images ≡ map f (take id lexicon) → slice_get lexicon id ≡ Some value → its ≡ g value → g ≡ f →
    new ≡ images ++ its ∷ [] → new ≡ map f (take (id + 1) lexicon)
images_more f g lexicon images new id value its e at is same pushed =
    let one : its ≡ f (get_or lexicon id []) = is ∙ ap (λ (h : List ℕ → List ℕ). h value) same ∙ ap f (sym (get_or_from_slice_get lexicon id value [] at)) in
    pushed ∙ ap₂ (λ (vs : List (List ℕ)) (v : List ℕ). vs ++ v ∷ []) e one ∙ sym (map_more f lexicon id [] (slice_get_within lexicon id value at))

-- ---- tables

pub through_low : (table column read : List ℕ) (bound count : ℕ) → All (λ n. n < bound) table → All (λ n. n < length table) column → read ≡ renumbered table column → count ≡ bound → All (λ n. n < count) read
through_low table column read bound count low all e few =
    subst (λ (ns : List ℕ). All (λ n. n < count) ns) (sym e) (All-from_get_or (λ n. n < count) (renumbered table column) 0 (λ k l.
    let within : k < length column = omega (arith, length-map column (λ (n : ℕ). get_or table n 0)) in
    rw (get_or-map (λ (n : ℕ). get_or table n 0) column k 0 0 within, few) (low (get_or column k 0) 0 (all k 0 within))))

renumbers_map : (f : List ℕ → List ℕ) (numbers : List ℕ) (old new : List (List ℕ)) → Renumbers numbers old new → Renumbers numbers (map f old) (map f new)
renumbers_map f numbers old new h = record {
  count = h.count ∙ sym (length-map old f);
  same = λ k l. slice_get-map f new (get_or numbers k 0) ∙ ap (option_map f) (h.same k (omega (arith, length-map old f))) ∙ sym (slice_get-map f old k);
}

pub contains_map : (f : List ℕ → List ℕ) (xs : List (List ℕ)) (x : List ℕ) → Contains xs x → Contains (map f xs) (f x)
contains_map f xs x (k, l, e) = (k, omega (arith, length-map xs f), get_or-map f xs k x (f x) l ∙ ap f e)

-- the lexicon of the images of a lexicon is that of the images of the values
lexicon_map : (f : List ℕ → List ℕ) (values under lexicon : List (List ℕ)) → IsLexiconOf values under → IsLexiconOf (map f under) lexicon → IsLexiconOf (map f values) lexicon
lexicon_map f values under lexicon h g = record {
  ascending = g.ascending;
  all = All-from_get_or (Contains lexicon) (map f values) [] (λ k l.
      let within : k < length values = omega (arith, length-map values f) in
      let (j, m, e) = h.all k [] within in
      let at : get_or (map f under) j [] ≡ f (get_or values k []) = get_or-map f under j (get_or values k []) [] m ∙ ap f e in
      rw (get_or-map f values k [] [] within) (subst (Contains lexicon) at (g.all j [] (omega (arith, length-map under f)))));
  only = All-from_get_or (Contains (map f values)) lexicon [] (λ k l.
      let (j, m, e) = g.only k [] l in
      let within : j < length under = omega (arith, length-map under f) in
      let at : f (get_or under j []) ≡ get_or lexicon k [] = sym (get_or-map f under j [] (get_or lexicon k []) within) ∙ e in
      subst (Contains (map f values)) at (contains_map f values (get_or under j []) (h.only j [] within)));
}

-- the tables of a mapped attribute
pub mapped_made : (base : ℕ) (f : List ℕ → List ℕ) (values : List (List ℕ)) (under tables : AttrTables) → AreBaseTables values under → AreMapped base f under tables → AreMappedTables base f under.lexicon (map f values) tables
mapped_made base f values under tables h g =
    let column : Renumbers (renumbered tables.numbers under.numbers) (map f values) tables.lexicon =
    renumbers_then under.numbers tables.numbers (map f values) (map f under.lexicon) tables.lexicon (renumbers_map f under.numbers values under.lexicon h.numbers) g.numbers_are in
    record {
      mapped = g.based;
      have = record {
        lexicon = lexicon_map f values under.lexicon tables.lexicon h.have.lexicon g.lexicon;
        postings = postings_are (renumbered tables.numbers under.numbers) (map f values) tables.lexicon column g.lexicon.ascending tables.postings g.postings;
      };
      numbers = g.numbers_are;
    }
