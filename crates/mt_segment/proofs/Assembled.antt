-- The tables of all attributes together, and what is beside them.
use Rattle.std.proofs.Common.{◌≡◌, ℕ, ◌+◌, ◌*◌, ◌<◌, ◌≤◌, Bool, true, false, List, [], ◌∷◌, ◌++◌, length, length-append, map, take, get_or, set, sum, Option, None, Some, refl, sym, ◌∙◌, ap, subst, arith, ◌⊎◌, inl, inr}
use Rattle.std.specs.List.{All}
use Rattle.std.proofs.lemmas.Bool.{cases_lt}
use Rattle.std.proofs.lemmas.List.{length-map, length-set, get_or-set_same, get_or-set_other, get_or_append_left, get_or_push, get_or_default}
use Rattle.std.proofs.lemmas.List.Sums.{sum-map, sum_by_more, sum_by_more_le, count_by_more_yes, count_by_more_no}
use Rattle.std.proofs.lemmas.Option.{slice_get_within, get_or_from_slice_get}
use mir.Val.{bool_byte}
use Rattle.mt_text_spec.specs.Registries.{Registry, Attr, ValidRegistry, ValidAttr, IsBaseAt, base_attr, column_of, is_base}
use Rattle.mt_text_spec.specs.Texts.{StructSpan, Text, total_tokens, corpus_tokens_limit}
use Rattle.mt_segment.proofs.Renumbered.{numbers_within}
use Rattle.mt_segment_spec.specs.Tables.{AttrTables, AreBaseTables, AreMappedTables, AreTablesOf, attr_at, attr_values, column_values, heads_of, tables_at}
use Rattle.mt_segment.proofs.Values.{length-column_values, mapped_values, own_values}
use Rattle.mt_segment.specs.Building.{AreAllMapped, AreInstances, AreUsable, HasBase, HaveBases, IsMappedAt, attr_of}
use Rattle.mt_segment.specs.Ends.{AreFirstEnds}
use Rattle.mt_segment.specs.Lists.{groups}
use Rattle.mt_segment.specs.Mappers.{AreMapped}
use Rattle.mt_segment.proofs.Blocks.{length-groups}
use Rattle.mt_segment.proofs.Mappings.{mapped_made}

-- ---- where texts end

abbrev tokens_in : List ℕ × ℕ → ℕ
tokens_in head = head.1

pub end_more : (texts : List (List ℕ × ℕ)) (i end : ℕ) (text : List ℕ × ℕ) → end ≡ sum (map tokens_in (take i texts)) → i < length texts → text ≡ get_or texts i text →
    end + text.1 ≡ sum (map tokens_in (take (i + 1) texts))
end_more texts i end text e l is =
    omega (arith, e, sum-map tokens_in (take i texts), sum-map tokens_in (take (i + 1) texts), sum_by_more tokens_in texts i text l, ap tokens_in is)

pub ends_fit : (texts : List (List ℕ × ℕ)) (i end : ℕ) (text : List ℕ × ℕ) → end ≡ sum (map tokens_in (take i texts)) → i < length texts → text ≡ get_or texts i text →
    end + text.1 ≤ sum (map tokens_in texts)
ends_fit texts i end text e l is =
    omega (arith, e, sum-map tokens_in (take i texts), sum-map tokens_in texts, sum_by_more_le tokens_in texts i text l, ap tokens_in is)

pub ends_more : (texts : List (List ℕ × ℕ)) (ends : List ℕ) (i end : ℕ) (text : List ℕ × ℕ) → AreFirstEnds texts ends i → end ≡ sum (map tokens_in (take i texts)) → i < length texts → text ≡ get_or texts i text →
    AreFirstEnds texts (ends ++ (end + text.1) ∷ []) (i + 1)
ends_more texts ends i end text h e l is = record {
  count = length-append ends ((end + text.1) ∷ []) ∙ ap (λ (n : ℕ). n + 1) h.count;
  at = λ k m. by k (cases_lt k i) m;
}
  where
    by : (k : ℕ) → (k < i) ⊎ (i ≤ k) → k < i + 1 → get_or (ends ++ (end + text.1) ∷ []) k 0 ≡ sum (map tokens_in (take (k + 1) texts))
    by k (inl low) m = get_or_append_left ends ((end + text.1) ∷ []) 0 k (omega (arith, h.count)) ∙ h.at k low
    by k (inr high) m =
        let same : i ≡ k = omega arith in
        subst (λ (n : ℕ). get_or (ends ++ (end + text.1) ∷ []) n 0 ≡ sum (map tokens_in (take (n + 1) texts))) same
        (get_or_push ends (end + text.1) 0 i h.count ∙ end_more texts i end text e l is)

-- ---- base attributes

read_attr : (attrs : List Attr) (i : ℕ) (attr : Attr) → i < length attrs → attr ≡ get_or attrs i attr → attr_of attrs i ≡ attr
read_attr attrs i attr l is = sym (is ∙ get_or_default attrs i attr (base_attr []) l)

pub column_next : (attrs : List Attr) (i column : ℕ) (attr : Attr) (base : Bool) → i < length attrs → attr ≡ get_or attrs i attr → column ≡ column_of attrs i → base ≡ is_base attr → column + bool_byte base ≡ column_of attrs (i + 1)
column_next attrs i column attr base l is e test = by base test
  where
    here : is_base (get_or attrs i attr) ≡ is_base attr
    here = ap is_base (sym is)

    by : (b : Bool) → b ≡ is_base attr → column + bool_byte b ≡ column_of attrs (i + 1)
    by true t = omega (arith, e, count_by_more_yes is_base attrs i attr l (here ∙ sym t))
    by false t = omega (arith, e, count_by_more_no is_base attrs i attr l (here ∙ sym t))

pub base_more : (attrs : List Attr) (corpus : List Text) (tables : List AttrTables) (i column : ℕ) (attr : Attr) (made : AttrTables) → HaveBases attrs corpus tables i → i < length attrs → attr ≡ get_or attrs i attr →
    column ≡ column_of attrs i → (attr.base ≡ None → AreBaseTables (column_values column corpus) made) → HaveBases attrs corpus (tables ++ made ∷ []) (i + 1)
base_more attrs corpus tables i column attr made h l is e its = record {
  count = length-append tables (made ∷ []) ∙ ap (λ (n : ℕ). n + 1) h.count;
  at = λ k m base. by k (cases_lt k i) m base;
}
  where
    by : (k : ℕ) → (k < i) ⊎ (i ≤ k) → k < i + 1 → (attr_of attrs k).base ≡ None →
        AreBaseTables (column_values (column_of attrs k) corpus) (tables_at (tables ++ made ∷ []) k)
    by k (inl low) m base = rw (get_or_append_left tables (made ∷ []) (tables_at [] 0) k (omega (arith, h.count))) (h.at k low base)
    by k (inr high) m base =
        let same : i ≡ k = omega arith in
        let none : attr.base ≡ None = ap (λ (a : Attr). a.base) (sym (read_attr attrs i attr l is)) ∙ ap (λ (n : ℕ). (attr_of attrs n).base) same ∙ base in
        subst (λ (n : ℕ). AreBaseTables (column_values (column_of attrs n) corpus) (tables_at (tables ++ made ∷ []) n)) same
        (rw (get_or_push tables made (tables_at [] 0) i h.count) (subst (λ (n : ℕ). AreBaseTables (column_values n corpus) made) e (its none)))

-- ---- mapped attributes

module _ (images : List ℕ → List ℕ → List ℕ) (attrs : List Attr) (old now : List AttrTables) (number : ℕ) (attr : Attr) (h : AreAllMapped images attrs old now number) (l : number < length attrs)
    (count : length old ≡ length attrs) (is : attr ≡ get_or attrs number attr) (bases : All (HasBase attrs old) attrs) where
  pub based_on : HasBase attrs old attr
  based_on = rw (sym is) at (bases number attr l)

  its_base : attr_of attrs number ≡ attr
  its_base = read_attr attrs number attr l is

  -- an attribute that is not mapped
  unmapped_more : (new : List AttrTables) → new ≡ now → attr.base ≡ None → AreAllMapped images attrs old new (number + 1)
  unmapped_more new e none = record {
    count = ap length e ∙ h.count;
    kept = λ k b. ap (λ (ts : List AttrTables). tables_at ts k) e ∙ h.kept k b;
    mapped = λ k base m some. rw e (by k base (cases_lt k number) m some);
  }
    where
      by : (k base : ℕ) → (k < number) ⊎ (number ≤ k) → k < number + 1 → (attr_of attrs k).base ≡ Some base → AreMapped base (images (attr_of attrs k).mapper) (tables_at old base) (tables_at now k)
      by k base (inl low) m some = h.mapped k base low some
      by k base (inr high) m some =
          let same : number ≡ k = omega arith in
          let other : (attr_of attrs k).base ≡ None = ap (λ (n : ℕ). (attr_of attrs n).base) (sym same) ∙ ap (λ (a : Attr). a.base) its_base ∙ none in
          absurd cc

  -- one that is
  mapped_more : (new : List AttrTables) (base : ℕ) (made : AttrTables) → attr.base ≡ Some base → new ≡ set now number made → AreMapped base (images attr.mapper) (tables_at now base) made → AreAllMapped images attrs old new (number + 1)
  mapped_more new base made some e right = record {
    count = ap length e ∙ length-set now number made ∙ h.count;
    kept = λ k b. ap (λ (ts : List AttrTables). tables_at ts k) e ∙ get_or-set_other now number k made (tables_at [] 0) (differs k b) ∙ h.kept k b;
    mapped = λ k under m its. rw e (by k under (cases_lt k number) m its);
  }
    where
      its : (attr_of attrs number).base ≡ Some base
      its = ap (λ (a : Attr). a.base) its_base ∙ some

      differs : (k : ℕ) → (attr_of attrs k).base ≡ None → k ≡ number → ⊥
      differs k none same =
          let at : (attr_of attrs k).base ≡ Some base = ap (λ (n : ℕ). (attr_of attrs n).base) same ∙ its in
          cc

      by : (k under : ℕ) → (k < number) ⊎ (number ≤ k) → k < number + 1 → (attr_of attrs k).base ≡ Some under → AreMapped under (images (attr_of attrs k).mapper) (tables_at old under) (tables_at (set now number made) k)
      by k under (inl low) m it =
          let d : (k ≡ number → ⊥) = λ same. omega arith in
          rw (get_or-set_other now number k made (tables_at [] 0) d) (h.mapped k under low it)
      by k under (inr high) m it =
          let same : number ≡ k = omega arith in
          let there : Some base ≡ Some under = sym its ∙ ap (λ (n : ℕ). (attr_of attrs n).base) same ∙ it in
          let one : base ≡ under = cc in
          let within : number < length now = omega (arith, h.count, count) in
          let before : tables_at now base ≡ tables_at old base = h.kept base (based_on.is_base base some) in
          subst (λ (n : ℕ). AreMapped under (images (attr_of attrs n).mapper) (tables_at old under) (tables_at (set now number made) n)) same
          (rw (get_or-set_same now number made (tables_at [] 0) within, its_base)
          (subst (λ (n : ℕ). AreMapped n (images attr.mapper) (tables_at old n) made) one (subst (λ (t : AttrTables). AreMapped base (images attr.mapper) t made) before right)))

  pub all_mapped_more : (new : List AttrTables) → IsMappedAt (images attr.mapper) attr.base number now new → AreAllMapped images attrs old new (number + 1)
  all_mapped_more new step = by attr.base refl step
    where
      by : (base : Option ℕ) → attr.base ≡ base → IsMappedAt (images attr.mapper) base number now new → AreAllMapped images attrs old new (number + 1)
      by None e step = unmapped_more new step e
      by (Some base) e (made, is_set, right) = mapped_more new base made e is_set right

-- ---- all tables

usable_from : (values : List (List ℕ)) (tables : AttrTables) → AreBaseTables values tables → length values ≤ corpus_tokens_limit → AreUsable tables
usable_from values tables h few = record { few = omega (arith, h.numbers.count); within = numbers_within tables.numbers values tables.lexicon h.numbers }

have_bases : (registry : Registry) (corpus : List Text) (tables : List AttrTables) → ValidRegistry registry → total_tokens corpus ≤ corpus_tokens_limit → HaveBases registry.attrs corpus tables (length registry.attrs) →
    All (HasBase registry.attrs tables) registry.attrs
have_bases registry corpus tables valid few h = λ k d l.
    let its : ValidAttr registry.attrs (get_or registry.attrs k d) = valid.attrs k d l in
    record {
      there = λ base e. omega (arith, within base (its.based base e), h.count);
      is_base = λ base e. none base (its.based base e);
      usable = λ base e.
          let values = column_values (column_of registry.attrs base) corpus in
          usable_from values (tables_at tables base) (h.at base (within base (its.based base e)) (none base (its.based base e))) (omega (arith, length-column_values (column_of registry.attrs base) corpus));
    }
  where
    within : (base : ℕ) → IsBaseAt registry.attrs base → base < length registry.attrs
    within base is = slice_get_within registry.attrs base is.attr is.there

    none : (base : ℕ) → IsBaseAt registry.attrs base → (attr_of registry.attrs base).base ≡ None
    none base is = ap (λ (a : Attr). a.base) (get_or_from_slice_get registry.attrs base is.attr (base_attr []) is.there) ∙ is.base

-- the tables of the base attributes, from which those of the mapped ones can be made
pub record AreFirst (registry : Registry) (corpus : List Text) (tables : List AttrTables) : Type 0 where
  pub made : HaveBases registry.attrs corpus tables (length registry.attrs)
  pub bases : All (HasBase registry.attrs tables) registry.attrs

-- where attributes and tables were read once more
pub are_first : (registry : Registry) (corpus : List Text) (attrs : List Attr) (tables read : List AttrTables) → ValidRegistry registry → total_tokens corpus ≤ corpus_tokens_limit → attrs ≡ registry.attrs → read ≡ tables →
    HaveBases attrs corpus tables (length attrs) → AreFirst registry corpus read
are_first registry corpus attrs tables read valid few e f h =
    let made : HaveBases registry.attrs corpus read (length registry.attrs) = rw f (subst (λ (xs : List Attr). HaveBases xs corpus tables (length xs)) e h) in
    record { made = made; bases = have_bases registry corpus read valid few made }

module _ (images : List ℕ → List ℕ → List ℕ) (registry : Registry) (corpus : List Text) (first tables : List AttrTables) (is_first : AreFirst registry corpus first)
    (mapped : AreAllMapped images registry.attrs first tables (length registry.attrs)) where
  has_base : (number : ℕ) → number < length registry.attrs → HasBase registry.attrs first (attr_at registry number)
  has_base number l = is_first.bases number (base_attr []) l

  base_at : (number : ℕ) → number < length registry.attrs → (attr_at registry number).base ≡ None → AreBaseTables (attr_values images registry corpus number) (tables_at tables number)
  base_at number l none = rw (own_values images registry corpus number none, mapped.kept number none) (is_first.made.at number l none)

  mapped_at : (number base : ℕ) → number < length registry.attrs → (attr_at registry number).base ≡ Some base →
      AreMappedTables base (images (attr_at registry number).mapper) (tables_at tables base).lexicon (attr_values images registry corpus number) (tables_at tables number)
  mapped_at number base l some =
      let has = has_base number l in
      let none = has.is_base base some in
      let low : base < length registry.attrs = omega (arith, has.there base some, is_first.made.count) in
      rw (mapped_values images registry corpus number base some, mapped.kept base none)
      (mapped_made base (images (attr_at registry number).mapper) (column_values (column_of registry.attrs base) corpus) (tables_at first base) (tables_at tables number) (is_first.made.at base low none) (mapped.mapped number base l some))

  pub all_made : (heads : List (List ℕ × ℕ)) (lists : List (List StructSpan)) → heads ≡ heads_of corpus → AreInstances corpus lists (length registry.kinds) →
      AreTablesOf images registry corpus (record { texts = heads; attrs = tables; structs = groups (length heads) (length registry.kinds) lists })
  all_made heads lists e inst =
      let many : length heads ≡ length corpus = ap length e ∙ length-map corpus (λ (text : Text). (text.name, length text.tokens)) in
      record {
        texts = e;
        attr_count = mapped.count ∙ is_first.made.count;
        bases = λ number l none. base_at number l none;
        mapped = λ number base l some. mapped_at number base l some;
        kind_count = length-groups (length heads) (length registry.kinds) lists;
        structs = λ kind l. rw many (inst.at kind l);
      }

-- there is a list for each kind and text
pub many_lists : (registry : Registry) (corpus : List Text) (heads : List (List ℕ × ℕ)) (lists : List (List StructSpan)) → heads ≡ heads_of corpus → AreInstances corpus lists (length registry.kinds) → length lists ≡ length registry.kinds * length heads
many_lists registry corpus heads lists e inst =
    let many : length heads ≡ length corpus = ap length e ∙ length-map corpus (λ (text : Text). (text.name, length text.tokens)) in
    inst.count ∙ ap (λ (n : ℕ). length registry.kinds * n) (sym many)
