-- The groups of a corpus, of which each has its segment.
use Rattle.std.proofs.Common.{◌≡◌, ℕ, zero, suc, ◌+◌, ◌<◌, ◌≤◌, List, [], ◌∷◌, ◌++◌, length, length-append, get_or, take, drop, sym, ◌∙◌, ap, subst, arith}
use Rattle.std.specs.List.{All, AllZip, flat_map}
use Rattle.std.proofs.lemmas.List.{append-nil, append_assoc, get_or_append_left, get_or-append-add, get_or-map, take_all, take_more, take-append-drop}
use Rattle.mt_text_spec.specs.Registries.{Registry}
use Rattle.mt_text_spec.specs.Texts.{Text, ValidText}
use Rattle.mt_text_spec.specs.Queries.{Query, Expr}
use Rattle.mt_eval_spec.specs.Fits.{Fits}
use Rattle.mt_match_spec.specs.Values.{Images}
use Rattle.mt_match_laws.specs.Laws.{HaveRows}
use Rattle.mt_segment_spec.specs.Tables.{Tables, AreTablesOf, AreTablesUnder}
use Rattle.mt_corpus_spec.specs.Groups.{Group, ValidGroups, all_texts, corpus_of, live_texts}
use Rattle.mt_corpus_spec.specs.Segments.{StandFor, live_numbers}
use Rattle.mt_corpus.specs.Held.{AreLive}
use Rattle.mt_eval.specs.Runs.{AreTexts}
use Rattle.mt_corpus_laws.specs.Joined.{GroupsAreTold, RowsGoOn, SomeHasTooMany}
use Rattle.mt_search.specs.Finds.{IsNext}
use Rattle.mt_search.proofs.Finding.{too_many_go_on}

-- ---- lists

-- what stands at one place of two lists that go together
pub together : {X Y : Type 0} (R : X → Y → Type 0) (xs : List X) (ys : List Y) (i : ℕ) (d : X) (e : Y) → AllZip R xs ys → i < length xs → R (get_or xs i d) (get_or ys i e)
together R [] [] i d e all l = absurd (omega (arith, l))
together R [] (y ∷ ys) i d e all l = absurd all
together R (x ∷ xs) [] i d e all l = absurd all
together R (x ∷ xs) (y ∷ ys) zero d e all l = all.0
together R (x ∷ xs) (y ∷ ys) (suc i) d e all l = together R xs ys i d e all.1 (omega (arith, l))

pub same_count : {X Y : Type 0} (R : X → Y → Type 0) (xs : List X) (ys : List Y) → AllZip R xs ys → length ys ≡ length xs
same_count R [] [] all = omega arith
same_count R [] (y ∷ ys) all = absurd all
same_count R (x ∷ xs) [] all = absurd all
same_count R (x ∷ xs) (y ∷ ys) all = ap suc (same_count R xs ys all.1)

left_part : {X : Type 0} (P : X → Type 0) (xs ys : List X) → All P (xs ++ ys) → All P xs
left_part P xs ys h = λ k d l. subst P (get_or_append_left xs ys d k l) (h k d (omega (arith, l, length-append xs ys)))

right_part : {X : Type 0} (P : X → Type 0) (xs ys : List X) → All P (xs ++ ys) → All P ys
right_part P xs ys h = λ k d l. subst P (get_or-append-add xs ys k d) (h (length xs + k) d (omega (arith, l, length-append xs ys)))

all_of_one : {X Y : Type 0} (P : Y → Type 0) (f : X → List Y) (xs : List X) (i : ℕ) (d : X) → i < length xs → All P (flat_map f xs) → All P (f (get_or xs i d))
all_of_one P f [] i d l all = absurd (omega (arith, l))
all_of_one P f (x ∷ xs) zero d l all = left_part P (f x) (flat_map f xs) all
all_of_one P f (x ∷ xs) (suc i) d l all = all_of_one P f xs i d (omega (arith, l)) (right_part P (f x) (flat_map f xs) all)

-- ---- corpora

corpus_append : (first more : List Group) → corpus_of (first ++ more) ≡ corpus_of first ++ corpus_of more
corpus_append [] more = λ i. corpus_of more
corpus_append (group ∷ first) more = ap (λ (ts : List Text). live_texts group ++ ts) (corpus_append first more) ∙ sym (append_assoc (live_texts group) (corpus_of first) (corpus_of more))

pub corpus_more : (groups : List Group) (i : ℕ) (d : Group) → i < length groups → corpus_of (take i groups) ++ live_texts (get_or groups i d) ≡ corpus_of (take (i + 1) groups)
corpus_more groups i d l = sym
    (ap corpus_of (take_more groups i d l) ∙ corpus_append (take i groups) (get_or groups i d ∷ []) ∙ ap (λ (ts : List Text). corpus_of (take i groups) ++ ts) (append-nil (live_texts (get_or groups i d))))

pub corpus_whole : (groups : List Group) (i : ℕ) → length groups ≤ i → corpus_of (take i groups) ≡ corpus_of groups
corpus_whole groups i l = ap corpus_of (take_all i groups l)

corpus_split : (groups : List Group) (i : ℕ) → corpus_of (take i groups) ++ corpus_of (drop i groups) ≡ corpus_of groups
corpus_split groups i = sym (corpus_append (take i groups) (drop i groups)) ∙ ap corpus_of (take-append-drop i groups)

-- too many rows in the texts up to a group are too many
pub too_many_in_all : HaveRows → RowsGoOn → (images : Images) (registry : Registry) (groups : List Group) (i : ℕ) (d : Group) (exprs : List Expr) → i < length groups →
    SomeHasTooMany images registry (corpus_of (take i groups) ++ live_texts (get_or groups i d)) exprs → SomeHasTooMany images registry (corpus_of groups) exprs
too_many_in_all have law images registry groups i d exprs l some =
    subst (λ (ts : List Text). SomeHasTooMany images registry ts exprs) (corpus_split groups (i + 1))
    (too_many_go_on images registry have law (corpus_of (take (i + 1) groups)) (corpus_of (drop (i + 1) groups)) exprs
    (subst (λ (ts : List Text). SomeHasTooMany images registry ts exprs) (corpus_more groups i d l) some))

-- ---- the segment of a group

pub is_next : GroupsAreTold → (images : Images) (registry : Registry) (groups : List Group) (segments : List Tables) (live : List (List ℕ)) (query : Query) → StandFor images registry groups segments live →
    All (AreTablesUnder registry) segments → ValidGroups registry groups → Fits registry query → (i : ℕ) (tables : Tables) (numbers : List ℕ) → i < length segments →
    tables ≡ get_or segments i tables → numbers ≡ get_or live i numbers → IsNext images registry query (get_or groups i []) tables numbers
is_next law images registry groups segments live query stand under valid query_fits i tables numbers l t n =
    let count = same_count (λ group tables. AreTablesOf images registry (all_texts group) tables) groups segments stand.tables in
    let low : i < length groups = omega (arith, l, count) in
    let made : AreTablesOf images registry (all_texts (get_or groups i [])) tables =
    subst (AreTablesOf images registry (all_texts (get_or groups i []))) (sym t) (together (λ group tables. AreTablesOf images registry (all_texts group) tables) groups segments i [] tables stand.tables low) in
    record {
      fits = query_fits;
      tell = law images registry (get_or groups i []) tables (all_of_one (ValidText registry) all_texts groups i [] low valid.texts) made (subst (AreTablesUnder registry) (sym t) (under i tables l));
      numbers = n ∙ ap (λ (ns : List (List ℕ)). get_or ns i numbers) stand.marks ∙ get_or-map (live_numbers 0) groups i [] numbers low;
    }

pub are_texts : (segments : List Tables) (live : List (List ℕ)) (i : ℕ) (tables : Tables) (numbers : List ℕ) → AllZip AreLive segments live → i < length segments → tables ≡ get_or segments i tables → numbers ≡ get_or live i numbers → AreTexts tables numbers
are_texts segments live i tables numbers all l t n =
    let it : AreLive tables numbers = subst (λ (ns : List ℕ). AreLive tables ns) (sym n) (subst (λ (x : Tables). AreLive x (get_or live i numbers)) (sym t) (together AreLive segments live i tables numbers all l)) in
    record { ascending = it.ascending; within = it.within }

pub as_many : (segments : List Tables) (live : List (List ℕ)) → AllZip AreLive segments live → length live ≡ length segments
as_many segments live all = same_count AreLive segments live all

pub groups_many : (images : Images) (registry : Registry) (groups : List Group) (segments : List Tables) (live : List (List ℕ)) → StandFor images registry groups segments live → length segments ≡ length groups
groups_many images registry groups segments live stand = same_count (λ group tables. AreTablesOf images registry (all_texts group) tables) groups segments stand.tables
