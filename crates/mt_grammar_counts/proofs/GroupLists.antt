-- Segments that are counted one after another, and the groups that they stand for.
use Rattle.std.proofs.Common.{◌≡◌, ℕ, zero, suc, ◌+◌, ◌<◌, ◌≤◌, ◌⊎◌, inl, inr, List, [], ◌∷◌, ◌++◌, length, length-append, take, get_or, slice_get, slice_index, refl, sym, ◌∙◌, ap, subst, arith}
use Rattle.std.specs.List.{All, AllZip, Contains, flat_map}
use Rattle.std.proofs.lemmas.List.{get_or-map, get_or_append_left, get_or-append-add, take_all}
use Rattle.mt_text_spec.specs.Registries.{Registry}
use Rattle.mt_text_spec.specs.Texts.{Text, ValidText}
use Rattle.mt_text_spec.specs.Queries.{Query, RelationKind, Grammar}
use Rattle.mt_query_spec.specs.Valid.{ValidConds, ValidExpr, ValidFilters}
use Rattle.mt_grammar_spec.specs.ValidGrammar.{IsGrammarQuery, ValidGrammar}
use Rattle.mt_match_spec.specs.Values.{Images}
use Rattle.mt_match_spec.specs.Kept.{Over}
use Rattle.mt_count_spec.specs.Counts.{HasRoom}
use Rattle.mt_segment_spec.specs.Tables.{Tables, AreTablesOf, AreTablesUnder}
use Rattle.mt_corpus_spec.specs.Groups.{Group, ValidGroups, all_texts, corpus_of, live_texts}
use Rattle.mt_corpus_spec.specs.Segments.{StandFor, live_numbers}
use Rattle.mt_decode_laws.specs.Laws.{LiveTextsAreNumbered}
use Rattle.mt_corpus.specs.Held.{AreLive}
use Rattle.mt_corpus_laws.specs.Joined.{GroupsAreTold}
use Rattle.mt_eval.specs.Runs.{AreTexts}
use Rattle.mt_grammar_counts.specs.Told.{AllFit, AreFor, HasNoRoom, TellAll}
use Rattle.mt_grammar_counts.proofs.Parts.{as_long, both_at, contains_cases, contains_left, contains_right, parts_more, zipped_at}

-- ---- the queries of a valid grammar

-- what is so of the queries of a grammar
pub record InOrder : Type 0 where
  pub head : (registry : Registry) (kind : RelationKind) (query : Query) → IsGrammarQuery registry kind query → ValidExpr registry query.head
  pub filters : (registry : Registry) (kind : RelationKind) (query : Query) → IsGrammarQuery registry kind query → ValidFilters registry query.filters
  pub conds : (registry : Registry) (kind : RelationKind) (query : Query) → IsGrammarQuery registry kind query → ValidConds registry query.head query.conds

pub all_fit : InOrder → (registry : Registry) (grammar : Grammar) → ValidGrammar registry grammar → All (AllFit registry) grammar.relations
all_fit law registry grammar valid = λ k d l.
    let relation = get_or grammar.relations k d in
    let is = valid.relations k d l in
    λ j q m.
    let one = is.queries j q m in
    record { head = law.head registry relation.kind (get_or relation.queries j q) one; filters = law.filters registry relation.kind (get_or relation.queries j q) one; conds = law.conds registry relation.kind (get_or relation.queries j q) one }

pub all_for : (registry : Registry) (tables : Tables) (grammar : Grammar) → AreTablesUnder registry tables → All (AllFit registry) grammar.relations → All (AreFor tables) grammar.relations
all_for registry tables grammar under fit = λ k d l j q m. record { registry = registry; under = under; fits = fit k d l j q m }

pub attr_within : (registry : Registry) (tables : Tables) → AreTablesUnder registry tables → registry.ws_attr < length tables.attrs
attr_within registry tables under = omega (arith, under.by.valid.sketched, under.by.are.attr_count)

-- ---- groups

left_part : {X : Type 0} (P : X → Type 0) (xs ys : List X) → All P (xs ++ ys) → All P xs
left_part P xs ys h = λ k d l. subst P (get_or_append_left xs ys d k l) (h k d (omega (arith, l, length-append xs ys)))

right_part : {X : Type 0} (P : X → Type 0) (xs ys : List X) → All P (xs ++ ys) → All P ys
right_part P xs ys h = λ k d l. subst P (get_or-append-add xs ys k d) (h (length xs + k) d (omega (arith, l, length-append xs ys)))

all_of_one : {X Y : Type 0} (P : Y → Type 0) (f : X → List Y) (xs : List X) (i : ℕ) (d : X) → i < length xs → All P (flat_map f xs) → All P (f (get_or xs i d))
all_of_one P f [] i d l all = absurd (omega (arith, l))
all_of_one P f (x ∷ xs) zero d l all = left_part P (f x) (flat_map f xs) all
all_of_one P f (x ∷ xs) (suc i) d l all = all_of_one P f xs i d (omega (arith, l)) (right_part P (f x) (flat_map f xs) all)

pub groups_many : (images : Images) (registry : Registry) (groups : List Group) (segments : List Tables) (live : List (List ℕ)) → StandFor images registry groups segments live → length segments ≡ length groups
groups_many images registry groups segments live stand = as_long (λ group tables. AreTablesOf images registry (all_texts group) tables) groups segments stand.tables

pub as_many : (segments : List Tables) (live : List (List ℕ)) → AllZip AreLive segments live → length live ≡ length segments
as_many segments live all = as_long AreLive segments live all

pub are_texts : (segments : List Tables) (live : List (List ℕ)) (i : ℕ) (tables : Tables) (numbers : List ℕ) → AllZip AreLive segments live → i < length segments → tables ≡ get_or segments i tables → numbers ≡ get_or live i numbers → AreTexts tables numbers
are_texts segments live i tables numbers all l e f = let it = both_at AreLive segments live i tables numbers all l e f in record { ascending = it.ascending; within = it.within }

-- the live texts of a group are told by its segment
pub told_group : GroupsAreTold → LiveTextsAreNumbered → (images : Images) (registry : Registry) (groups : List Group) (segments : List Tables) (live : List (List ℕ)) → StandFor images registry groups segments live →
    All (AreTablesUnder registry) segments → ValidGroups registry groups → (i : ℕ) (tables : Tables) (numbers : List ℕ) → i < length segments → tables ≡ get_or segments i tables → numbers ≡ get_or live i numbers →
    TellAll images registry tables numbers (live_texts (get_or groups i []))
told_group law numbered images registry groups segments live stand under valid i tables numbers l e f =
    let many = groups_many images registry groups segments live stand in
    let low : i < length groups = omega (arith, l, many) in
    let group = get_or groups i [] in
    let its : AreTablesOf images registry (all_texts group) tables = subst (AreTablesOf images registry (all_texts group)) (sym e)
    (zipped_at (λ (g : Group) (t : Tables). AreTablesOf images registry (all_texts g) t) groups segments i [] tables stand.tables low) in
    let made : AreTablesUnder registry tables = subst (AreTablesUnder registry) (sym e) (under i tables l) in
    let are : numbers ≡ live_numbers 0 group = f ∙ ap (λ (ns : List (List ℕ)). get_or ns i numbers) stand.marks ∙ get_or-map (live_numbers 0) groups i [] numbers low in
    let n = numbered group in
    record {
      corpus = all_texts group;
      tell = law images registry group tables (all_of_one (ValidText registry) all_texts groups i [] low valid.texts) its made;
      count = n.count ∙ ap length (sym are);
      each = λ k m. n.each k (subst (λ (ns : List ℕ). k < length ns) are m) ∙ ap (λ (ns : List ℕ). slice_get (all_texts group) (slice_index ns k)) (sym are);
    }

pub corpus_more : (groups : List Group) (i : ℕ) → i < length groups → corpus_of (take i groups) ++ live_texts (get_or groups i []) ≡ corpus_of (take (i + 1) groups)
corpus_more groups i l = sym (parts_more live_texts groups i (get_or groups i []) l (same groups i l))
  where
    same : (groups : List Group) (i : ℕ) → i < length groups → get_or groups i [] ≡ get_or groups i (get_or groups i [])
    same [] i l = absurd (omega (arith, l))
    same (g ∷ groups) zero l = refl
    same (g ∷ groups) (suc i) l = same groups i (omega (arith, l))

pub corpus_whole : (groups : List Group) (i : ℕ) → length groups ≤ i → corpus_of (take i groups) ≡ corpus_of groups
corpus_whole groups i l = ap corpus_of (take_all i groups l)

-- ---- rooms

module _ (images : Images) (registry : Registry) (grammar : Grammar) where
  pub room_both : (first more : List Text) → HasRoom images registry grammar first → HasRoom images registry grammar more → HasRoom images registry grammar (first ++ more)
  room_both first more a b text query c asked = by (contains_cases first more text c)
    where
      by : Contains first text ⊎ Contains more text → Over images registry (text ∷ []) query → ⊥
      by (inl c) = a text query c asked
      by (inr c) = b text query c asked

  pub no_room_somewhere : (groups : List Group) (i : ℕ) → i < length groups → HasNoRoom images registry grammar (live_texts (get_or groups i [])) → HasNoRoom images registry grammar (corpus_of groups)
  no_room_somewhere groups i l some = record { text = some.text; there = inside groups i l some.there; query = some.query; asked = some.asked; over = some.over }
    where
      inside : (groups : List Group) (i : ℕ) → i < length groups → Contains (live_texts (get_or groups i [])) some.text → Contains (corpus_of groups) some.text
      inside [] i l c = absurd (omega (arith, l))
      inside (g ∷ groups) zero l c = contains_left (live_texts g) (corpus_of groups) some.text c
      inside (g ∷ groups) (suc i) l c = contains_right (live_texts g) (corpus_of groups) some.text (inside groups i (omega (arith, l)) c)
