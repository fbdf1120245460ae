-- Tables put together one after the other.
use Rattle.std.proofs.Common.{◌≡◌, ℕ, ◌+◌, ◌*◌, ◌<◌, ◌≤◌, cond, List, [], ◌∷◌, ◌++◌, length, map, take, drop, get_or, sum, Option, None, Some, refl, sym, ◌∙◌, ap, ap₂, arith}
use Rattle.std.specs.Prelude.{filter, is_none, is_some}
use Rattle.std.specs.List.{All, flat_map}
use Rattle.std.proofs.lemmas.List.{length-map, length-drop, get_or-map, get_or_default, same_lists, drop_more, take_more, take_all}
use Rattle.std.proofs.lemmas.Simd.{map-map}
use Rattle.mt_text_spec.specs.Registries.{Registry, Attr, base_attr}
use Rattle.mt_text_spec.specs.Texts.{StructSpan, Text, total_tokens, corpus_tokens_limit}
use Rattle.mt_segment_spec.specs.Tables.{Tables, AttrTables, AreTablesUnder, HaveParts, tables_at, instances_of, is_of_kind}
use Rattle.mt_segment.proofs.Values.{based}
use Rattle.mt_segment.specs.Joined.{AreJoined, HasNumbers, TakesNumbers, of_one_text}
use Rattle.mt_segment.specs.Lists.{groups}
use Rattle.mt_segment.proofs.Blocks.{groups_joined, joined_length}

-- the first so many tables are put together, and the parts of the others are left
pub record IsPartedAt (attrs : List Attr) (t : List AttrTables) (i : ℕ) (all : List AttrTables) (lexicons : List (List (List ℕ))) (columns mapped : List (List ℕ)) (postings : List (List (List ℕ))) : Type 0 where
  pub done : all ≡ take i t
  pub left : AreJoined (drop i attrs) (drop i t) lexicons columns mapped postings

abbrev numbers_of : List AttrTables → List (List ℕ)
numbers_of ts = map (λ attr. attr.numbers) ts

abbrev columns_in : List AttrTables → List AttrTables
columns_in ts = filter (λ attr. is_none attr.base) ts

abbrev mapped_in : List AttrTables → List AttrTables
mapped_in ts = filter (λ attr. is_some attr.base) ts

head_is : {X : Type 0} {x y : X} {xs ys : List X} → x ∷ xs ≡ y ∷ ys → x ≡ y
head_is q = cc

second : {X : Type 0} {x y : X} {xs ys : List X} → x ∷ xs ≡ y ∷ ys → xs ≡ ys
second q = cc

-- the tables of one attribute more, first of those that are left
record First (base : Option ℕ) (t : List AttrTables) : Type 0 where
  pub first : AttrTables
  pub rest : List AttrTables
  pub is : t ≡ first ∷ rest
  pub based : first.base ≡ base

first_of : (base : Option ℕ) (bases : List (Option ℕ)) (t : List AttrTables) → map (λ attr. attr.base) t ≡ base ∷ bases → First base t
first_of base bases [] e = cc
first_of base bases (x ∷ xs) e = record { first = x; rest = xs; is = refl; based = cc }

module _ (attrs : List Attr) (t : List AttrTables) (i : ℕ) (all : List AttrTables) (lexicons : List (List (List ℕ))) (columns mapped : List (List ℕ)) (postings : List (List (List ℕ)))
    (h : IsPartedAt attrs t i all lexicons columns mapped postings) (l : i < length attrs) (attr : Attr) (its : attr ≡ get_or attrs i attr) where
  next_bases : map (λ a. a.base) (drop i t) ≡ attr.base ∷ map (λ a. a.base) (drop (i + 1) attrs)
  next_bases = h.left.bases ∙ ap (map (λ a. a.base)) (drop_more attrs i attr l) ∙ ap (λ (a : Attr). a.base ∷ map (λ a. a.base) (drop (i + 1) attrs)) (sym its)

  next : First attr.base (drop i t)
  next = first_of attr.base (map (λ a. a.base) (drop (i + 1) attrs)) (drop i t) next_bases

  pub has_numbers : HasNumbers attr.base columns mapped
  has_numbers = by attr.base refl
    where
      by : (base : Option ℕ) → attr.base ≡ base → HasNumbers base columns mapped
      by None e =
          let none : next.first.base ≡ None = next.based ∙ e in
          let c : columns ≡ map (λ attr. attr.numbers) (cond (is_none next.first.base) (next.first ∷ filter (λ attr. is_none attr.base) next.rest) (filter (λ attr. is_none attr.base) next.rest)) =
          h.left.columns_are ∙ ap (λ (ts : List AttrTables). map (λ attr. attr.numbers) (filter (λ attr. is_none attr.base) ts)) next.is in
          omega (arith, ap length (rw none at c))
      by (Some base) e =
          let some : next.first.base ≡ Some base = next.based ∙ e in
          let c : mapped ≡ map (λ attr. attr.numbers) (cond (is_some next.first.base) (next.first ∷ filter (λ attr. is_some attr.base) next.rest) (filter (λ attr. is_some attr.base) next.rest)) =
          h.left.mapped_are ∙ ap (λ (ts : List AttrTables). map (λ attr. attr.numbers) (filter (λ attr. is_some attr.base) ts)) next.is in
          omega (arith, ap length (rw some at c))

  at_next : (i < length t) × (get_or t i next.first ≡ next.first) × (drop (i + 1) t ≡ next.rest)
  at_next =
      let within : i < length t = omega (arith, ap length next.is, length-drop i t) in
      let both : get_or t i next.first ∷ drop (i + 1) t ≡ next.first ∷ next.rest = sym (drop_more t i next.first within) ∙ next.is in
      (within, cc, cc)

  -- the parts of one attribute are taken
  pub parted_more : (lexicon : List (List ℕ)) (numbers : List ℕ) (its_postings : List (List ℕ)) (lexicons_left : List (List (List ℕ))) (columns_left mapped_left : List (List ℕ)) (postings_left : List (List (List ℕ))) →
      lexicons ≡ lexicon ∷ lexicons_left → TakesNumbers attr.base columns mapped numbers columns_left mapped_left → postings ≡ its_postings ∷ postings_left →
      IsPartedAt attrs t (i + 1) (all ++ record { base = attr.base; lexicon = lexicon; numbers = numbers; postings = its_postings } ∷ []) lexicons_left columns_left mapped_left postings_left
  parted_more lexicon numbers its_postings lexicons_left columns_left mapped_left postings_left e n p = record {
    done = ap₂ (λ (ts : List AttrTables) (x : AttrTables). ts ++ x ∷ []) h.done (made ∙ sym at_next.1) ∙ sym (take_more t i next.first at_next.0);
    left = record {
      bases = sixth;
      lexicons_are = rw at_next.2 (second lexicon_both);
      columns_are = rw at_next.2 (numbers_left.1);
      mapped_are = rw at_next.2 (numbers_left.2);
      postings_are = rw at_next.2 (second postings_both);
    };
  }
    where
      lexicon_both : lexicon ∷ lexicons_left ≡ next.first.lexicon ∷ map (λ attr. attr.lexicon) next.rest
      lexicon_both = sym e ∙ h.left.lexicons_are ∙ ap (map (λ attr. attr.lexicon)) next.is

      postings_both : its_postings ∷ postings_left ≡ next.first.postings ∷ map (λ attr. attr.postings) next.rest
      postings_both = sym p ∙ h.left.postings_are ∙ ap (map (λ attr. attr.postings)) next.is

      columns_now : columns ≡ numbers_of (cond (is_none next.first.base) (next.first ∷ columns_in next.rest) (columns_in next.rest))
      columns_now = h.left.columns_are ∙ ap (λ (ts : List AttrTables). numbers_of (columns_in ts)) next.is

      mapped_now : mapped ≡ numbers_of (cond (is_some next.first.base) (next.first ∷ mapped_in next.rest) (mapped_in next.rest))
      mapped_now = h.left.mapped_are ∙ ap (λ (ts : List AttrTables). numbers_of (mapped_in ts)) next.is

      numbers_left : (numbers ≡ next.first.numbers) × (columns_left ≡ numbers_of (columns_in next.rest)) × (mapped_left ≡ numbers_of (mapped_in next.rest))
      numbers_left = by attr.base refl n
        where
          by : (base : Option ℕ) → attr.base ≡ base → TakesNumbers base columns mapped numbers columns_left mapped_left →
              (numbers ≡ next.first.numbers) × (columns_left ≡ numbers_of (columns_in next.rest)) × (mapped_left ≡ numbers_of (mapped_in next.rest))
          by None q (c, m) =
              let none : next.first.base ≡ None = next.based ∙ q in
              let both : numbers ∷ columns_left ≡ next.first.numbers ∷ numbers_of (columns_in next.rest) =
              sym c ∙ columns_now ∙ ap (λ (o : Option ℕ). numbers_of (cond (is_none o) (next.first ∷ columns_in next.rest) (columns_in next.rest))) none in
              (head_is both, second both, sym m ∙ mapped_now ∙ ap (λ (o : Option ℕ). numbers_of (cond (is_some o) (next.first ∷ mapped_in next.rest) (mapped_in next.rest))) none)
          by (Some base) q (c, m) =
              let some : next.first.base ≡ Some base = next.based ∙ q in
              let both : numbers ∷ mapped_left ≡ next.first.numbers ∷ numbers_of (mapped_in next.rest) =
              sym m ∙ mapped_now ∙ ap (λ (o : Option ℕ). numbers_of (cond (is_some o) (next.first ∷ mapped_in next.rest) (mapped_in next.rest))) some in
              (head_is both, sym c ∙ columns_now ∙ ap (λ (o : Option ℕ). numbers_of (cond (is_none o) (next.first ∷ columns_in next.rest) (columns_in next.rest))) some, second both)

      made : record { base = attr.base; lexicon = lexicon; numbers = numbers; postings = its_postings } ≡ next.first
      made =
          let f : Option ℕ → List (List ℕ) → List ℕ → List (List ℕ) → AttrTables = λ b x ns ps. record { base = b; lexicon = x; numbers = ns; postings = ps } in
          ap (λ (b : Option ℕ). f b lexicon numbers its_postings) (sym next.based)
          ∙ ap (λ (x : List (List ℕ)). f next.first.base x numbers its_postings) (head_is lexicon_both)
          ∙ ap (λ (ns : List ℕ). f next.first.base next.first.lexicon ns its_postings) numbers_left.0
          ∙ ap (λ (ps : List (List ℕ)). f next.first.base next.first.lexicon next.first.numbers ps) (head_is postings_both)

      sixth : map (λ attr. attr.base) (drop (i + 1) t) ≡ map (λ attr. attr.base) (drop (i + 1) attrs)
      sixth =
          let both : next.first.base ∷ map (λ attr. attr.base) next.rest ≡ attr.base ∷ map (λ attr. attr.base) (drop (i + 1) attrs) = sym (ap (map (λ attr. attr.base)) next.is) ∙ next_bases in
          rw at_next.2 (second both)

-- all are taken
pub parted_all : (attrs : List Attr) (t : List AttrTables) (i : ℕ) (all : List AttrTables) (lexicons : List (List (List ℕ))) (columns mapped : List (List ℕ)) (postings : List (List (List ℕ))) →
    IsPartedAt attrs t i all lexicons columns mapped postings → length attrs ≤ i → all ≡ t
parted_all attrs t i all lexicons columns mapped postings h l =
    let e : length (drop i t) ≡ length (drop i attrs) = sym (length-map (drop i t) (λ attr. attr.base)) ∙ ap length h.left.bases ∙ length-map (drop i attrs) (λ attr. attr.base) in
    h.done ∙ take_all i t (omega (arith, e, length-drop i t, length-drop i attrs))

-- ---- the tables of texts

pub joined_from : (registry : Registry) (t : Tables) (texts : List (List ℕ × ℕ)) (lexicons : List (List (List ℕ))) (columns mapped : List (List ℕ)) (postings : List (List (List ℕ))) (structs : List (List StructSpan)) →
    AreTablesUnder registry t → HaveParts t texts lexicons columns mapped postings structs → AreJoined registry.attrs t.attrs lexicons columns mapped postings
joined_from registry t texts lexicons columns mapped postings structs under h = record {
  bases = same_lists (map (λ attr. attr.base) t.attrs) (map (λ attr. attr.base) registry.attrs)
      (length-map t.attrs (λ attr. attr.base) ∙ under.by.are.attr_count ∙ sym (length-map registry.attrs (λ attr. attr.base)))
      (λ k d l.
      let low : k < length t.attrs = omega (arith, length-map t.attrs (λ attr. attr.base)) in
      let within : k < length registry.attrs = omega (arith, under.by.are.attr_count) in
      get_or-map (λ attr. attr.base) t.attrs k (tables_at [] 0) d low ∙ based under.images registry under.by.corpus t under.by.are k within ∙ sym (get_or-map (λ attr. attr.base) registry.attrs k (base_attr []) d within));
  lexicons_are = h.lexicons_are;
  columns_are = h.columns_are;
  mapped_are = h.mapped_are;
  postings_are = h.postings_are;
}

pub tokens_fit : (registry : Registry) (t : Tables) (texts : List (List ℕ × ℕ)) → AreTablesUnder registry t → texts ≡ t.texts → sum (map (λ (head : List ℕ × ℕ). head.1) texts) ≤ corpus_tokens_limit
tokens_fit registry t texts under e =
    let all : sum (map (λ (head : List ℕ × ℕ). head.1) texts) ≡ total_tokens under.by.corpus =
    ap (λ (heads : List (List ℕ × ℕ)). sum (map (λ head. head.1) heads)) (e ∙ under.by.are.texts)
    ∙ ap sum (map-map (λ (head : List ℕ × ℕ). head.1) (λ (text : Text). (text.name, length text.tokens)) under.by.corpus) in
    omega (arith, all, under.by.texts.short)

-- the instances stand in groups again
pub lists_grouped : (registry : Registry) (t : Tables) (texts : List (List ℕ × ℕ)) (structs : List (List StructSpan)) (kinds : ℕ) → AreTablesUnder registry t → texts ≡ t.texts → structs ≡ flat_map (λ kind. kind) t.structs → kinds ≡ length registry.kinds →
    (groups (length texts) kinds structs ≡ t.structs) × (length structs ≡ kinds * length texts)
lists_grouped registry t texts structs kinds under e f k =
    let are = under.by.are in
    let many : length texts ≡ length under.by.corpus = ap length (e ∙ are.texts) ∙ length-map under.by.corpus (λ (text : Text). (text.name, length text.tokens)) in
    let count : kinds ≡ length t.structs = k ∙ sym are.kind_count in
    let each : All (λ list. length list ≡ length texts) t.structs = λ i d l.
    get_or_length (get_or t.structs i d) (instances_of i under.by.corpus) (get_or_default t.structs i d [] l ∙ are.structs i (omega (arith, are.kind_count)))
    ∙ length-map under.by.corpus (λ (text : Text). filter (is_of_kind i) text.structs) ∙ sym many
    in
    let all : groups (length texts) (length t.structs) (flat_map (λ kind. kind) t.structs) ≡ t.structs = groups_joined (length texts) t.structs each in
    (ap₂ (groups (length texts)) count f ∙ all, ap length f ∙ joined_length (length texts) t.structs each ∙ ap (λ (n : ℕ). n * length texts) (sym count))
  where
    get_or_length : {X : Type 0} (xs ys : List X) → xs ≡ ys → length xs ≡ length ys
    get_or_length xs ys e = ap length e

pub put_together : (t : Tables) (texts : List (List ℕ × ℕ)) (attrs : List AttrTables) (lists : List (List (List StructSpan))) → texts ≡ t.texts → attrs ≡ t.attrs → lists ≡ t.structs → record { texts = texts; attrs = attrs; structs = lists } ≡ t
put_together t texts attrs lists e g h =
    let f : List (List ℕ × ℕ) → List AttrTables → List (List (List StructSpan)) → Tables = λ heads xs instances. record { texts = heads; attrs = xs; structs = instances } in
    ap (λ (heads : List (List ℕ × ℕ)). f heads attrs lists) e ∙ ap (λ (xs : List AttrTables). f t.texts xs lists) g ∙ ap (f t.texts t.attrs) h

-- the same at lists that are equal
pub joined_at : (attrs others : List Attr) (t : List AttrTables) (lexicons its_lexicons : List (List (List ℕ))) (columns its_columns mapped its_mapped : List (List ℕ)) (postings its_postings : List (List (List ℕ))) →
    AreJoined attrs t lexicons columns mapped postings → others ≡ attrs → its_lexicons ≡ lexicons → its_columns ≡ columns → its_mapped ≡ mapped → its_postings ≡ postings →
    AreJoined others t its_lexicons its_columns its_mapped its_postings
joined_at attrs others t lexicons its_lexicons columns its_columns mapped its_mapped postings its_postings h a e1 e2 e3 e4 = record {
  bases = h.bases ∙ ap (map (λ attr. attr.base)) (sym a);
  lexicons_are = e1 ∙ h.lexicons_are;
  columns_are = e2 ∙ h.columns_are;
  mapped_are = e3 ∙ h.mapped_are;
  postings_are = e4 ∙ h.postings_are;
}

-- ---- the tables of one text

groups_one : {X : Type 0} (lists : List X) → groups 1 (length lists) lists ≡ map (λ list. list ∷ []) lists
groups_one [] = refl
groups_one (list ∷ lists) = ap (λ all. (list ∷ []) ∷ all) (groups_one lists)

pub one_text : (name : List ℕ) (tokens : ℕ) (attrs made : List AttrTables) (structs : List (List StructSpan)) (none texts : List (List ℕ × ℕ)) (kinds : ℕ) → none ≡ [] → texts ≡ none ++ (name, tokens) ∷ [] → made ≡ attrs →
    kinds ≡ length structs → of_one_text name tokens attrs structs ≡ record { texts = texts; attrs = made; structs = groups (length texts) kinds structs }
one_text name tokens attrs made structs none texts kinds e more a k =
    let one : texts ≡ (name, tokens) ∷ [] = more ∙ ap (λ (ts : List (List ℕ × ℕ)). ts ++ (name, tokens) ∷ []) e in
    let all : List (List (List StructSpan)) → Tables = λ structs. record { texts = (name, tokens) ∷ []; attrs = attrs; structs = structs } in
    rw (one, a, k) (ap all (sym (groups_one structs)))
