-- The lines of a grammar, as far as loops over its relations and their queries have gone.
use Rattle.std.proofs.Common.{◌≡◌, ℕ, ◌+◌, ◌<◌, ◌≤◌, ◌⊎◌, inl, inr, List, [], ◌∷◌, ◌++◌, length, map, take, get_or, refl, sym, ◌∙◌, ap, subst, append_assoc}
use Rattle.std.specs.List.{Contains}
use Rattle.std.proofs.lemmas.List.{map-append, take_all}
use Rattle.mt_text_spec.specs.Registries.{Registry}
use Rattle.mt_text_spec.specs.Texts.{Text}
use Rattle.mt_text_spec.specs.Queries.{Query, Relation, Grammar}
use Rattle.mt_match_spec.specs.Values.{Images}
use Rattle.mt_match_spec.specs.Kept.{Over}
use Rattle.mt_count_spec.specs.Counts.{HasRoom}
use Rattle.mt_instances.specs.Collected.{Collected}
use Rattle.mt_instances.specs.Laws.{AreLinesOf, Line}
use Rattle.mt_grammar_counts.specs.Collecting.{Knows, OnlyGives, all_lines, line_of, lines_of}
use Rattle.mt_grammar_counts.specs.Told.{HasNoRoom, SomeIsOver}
use Rattle.mt_segment_spec.specs.Tables.{Tables}
use Rattle.mt_grammar_counts.proofs.Parts.{contains_at, contains_mapped, contains_more, contains_none, contains_one, in_part, mapped_has, one_more, only_one, part_in}

-- ---- what stays

pub gives_more : (a b c : Collected) → OnlyGives a b → OnlyGives b c → OnlyGives a c
gives_more a b c one two = record { lexicon = two.lexicon ∙ one.lexicon; numbers = two.numbers ∙ one.numbers; counted = two.counted ∙ one.counted }

pub gives_none : (a : Collected) → OnlyGives a a
gives_none a = record { lexicon = refl; numbers = refl; counted = refl }

pub still_known : (tables : Tables) (attr number : ℕ) (a b : Collected) → OnlyGives a b → Knows tables attr number a → Knows tables attr number b
still_known tables attr number a b only known = record {
  lexicon = only.lexicon ∙ known.lexicon;
  count = ap length only.numbers ∙ known.count;
  each = λ place l. ap (λ (ns : List ℕ). get_or ns place 0) only.numbers ∙ known.each place l;
}

-- ---- lines

module _ (relation : Relation) where
  pub lines_more : (lines : List Line) (i : ℕ) (query : Query) → i < length relation.queries → query ≡ get_or relation.queries i query →
      (lines ++ map (line_of relation) (take i relation.queries)) ++ line_of relation query ∷ [] ≡ lines ++ map (line_of relation) (take (i + 1) relation.queries)
  lines_more lines i query l e =
      append_assoc lines (map (line_of relation) (take i relation.queries)) (line_of relation query ∷ [])
      ∙ ap (λ (ls : List Line). lines ++ ls) (sym (map-append (line_of relation) (take i relation.queries) (query ∷ [])) ∙ ap (map (line_of relation)) (sym (one_more relation.queries i query l e)))

  pub lines_whole : (lines : List Line) (i : ℕ) → length relation.queries ≤ i → lines ++ map (line_of relation) (take i relation.queries) ≡ lines ++ lines_of relation
  lines_whole lines i l = ap (λ (qs : List Query). lines ++ map (line_of relation) qs) (take_all i relation.queries l)

-- the lines of a grammar are those of its relations and their queries
pub lines_are : (grammar : Grammar) → AreLinesOf grammar (all_lines grammar)
lines_are grammar = record {
  relations = λ line c.
      let part = in_part lines_of grammar.relations line c in
      let of = mapped_has (line_of part.x) part.x.queries line part.its in
      subst (λ (l : Line). Contains grammar.relations l.relation) of.is part.there;
  queries = λ line c.
      let part = in_part lines_of grammar.relations line c in
      let of = mapped_has (line_of part.x) part.x.queries line part.its in
      subst (λ (l : Line). Contains l.relation.queries l.query) of.is of.there;
  all = λ relation query there its. part_in lines_of grammar.relations relation (line_of relation query) there (contains_mapped (line_of relation) relation.queries query its);
}

-- ---- rooms

module _ (images : Images) (registry : Registry) (text : Text) where
  abbrev pub FitsIn : Query → Type 0
  FitsIn query = Over images registry (text ∷ []) query → ⊥

  -- no query of these is over
  abbrev pub AllFitIn : List Query → Type 0
  AllFitIn queries = (query : Query) → Contains queries query → FitsIn query

  pub fit_none : AllFitIn []
  fit_none query c = absurd (contains_none query c)

  pub fit_more : (queries : List Query) (i : ℕ) (query : Query) → i < length queries → query ≡ get_or queries i query → AllFitIn (take i queries) → FitsIn query → AllFitIn (take (i + 1) queries)
  fit_more queries i query l e before own other c = by (contains_more queries i query other l e c)
    where
      by : Contains (take i queries) other ⊎ (other ≡ query) → FitsIn other
      by (inl c) = before other c
      by (inr is) = subst FitsIn (sym is) own

  pub fit_whole : (queries : List Query) (i : ℕ) → length queries ≤ i → AllFitIn (take i queries) → AllFitIn queries
  fit_whole queries i l = subst AllFitIn (take_all i queries l)

  -- and none of these relations
  abbrev pub AllOf : List Relation → Type 0
  AllOf relations = (relation : Relation) → Contains relations relation → AllFitIn relation.queries

  pub all_none : AllOf []
  all_none relation c = absurd (contains_none relation c)

  pub all_more : (relations : List Relation) (i : ℕ) (relation : Relation) → i < length relations → relation ≡ get_or relations i relation → AllOf (take i relations) → AllFitIn relation.queries → AllOf (take (i + 1) relations)
  all_more relations i relation l e before own other c = by (contains_more relations i relation other l e c)
    where
      by : Contains (take i relations) other ⊎ (other ≡ relation) → AllFitIn other.queries
      by (inl c) = before other c
      by (inr is) = subst (λ (r : Relation). AllFitIn r.queries) (sym is) own

  pub all_room : (grammar : Grammar) (i : ℕ) → length grammar.relations ≤ i → AllOf (take i grammar.relations) → HasRoom images registry grammar (text ∷ [])
  all_room grammar i l all other query there asked over =
      let whole = subst AllOf (take_all i grammar.relations l) all in
      whole asked.relation asked.relations query asked.queries (subst (λ (t : Text). Over images registry (t ∷ []) query) (only_one text other there) over)

  pub over_at : (queries : List Query) (i : ℕ) (query : Query) → i < length queries → query ≡ get_or queries i query → Over images registry (text ∷ []) query → SomeIsOver images registry text queries
  over_at queries i query l e over = record { query = query; there = contains_at queries i query l e; over = over }

  pub no_room_at : (grammar : Grammar) (i : ℕ) (relation : Relation) → i < length grammar.relations → relation ≡ get_or grammar.relations i relation → SomeIsOver images registry text relation.queries → HasNoRoom images registry grammar (text ∷ [])
  no_room_at grammar i relation l e some = record {
    text = text;
    there = contains_one text;
    query = some.query;
    asked = record { relation = relation; relations = contains_at grammar.relations i relation l e; queries = some.there };
    over = some.over;
  }

-- ---- texts

module _ (images : Images) (registry : Registry) (grammar : Grammar) where
  pub room_none : HasRoom images registry grammar []
  room_none text query c asked over = contains_none text c

  pub room_more : (texts : List Text) (i : ℕ) (text : Text) → i < length texts → text ≡ get_or texts i text → HasRoom images registry grammar (take i texts) → HasRoom images registry grammar (text ∷ []) → HasRoom images registry grammar (take (i + 1) texts)
  room_more texts i text l e before own other query c asked = by (contains_more texts i text other l e c)
    where
      by : Contains (take i texts) other ⊎ (other ≡ text) → Over images registry (other ∷ []) query → ⊥
      by (inl c) = before other query c asked
      by (inr is) = subst (λ (t : Text). Over images registry (t ∷ []) query → ⊥) (sym is) (own text query (contains_one text) asked)

  pub no_room_in : (texts : List Text) (i : ℕ) (text : Text) → i < length texts → text ≡ get_or texts i text → HasNoRoom images registry grammar (text ∷ []) → HasNoRoom images registry grammar texts
  no_room_in texts i text l e some = record {
    text = some.text;
    there = subst (λ (t : Text). Contains texts t) (sym (only_one text some.text some.there)) (contains_at texts i text l e);
    query = some.query;
    asked = some.asked;
    over = some.over;
  }
