-- The tables of one text, put together of those of its columns.
use Rattle.std.proofs.Common.{◌≡◌, ℕ, zero, suc, ◌<◌, Bool, true, cond, Option, None, is_none, get_or, List, [], ◌∷◌, length, map, filter, take, refl, sym, ◌∙◌, ap, ap₂, subst, arith, append-nil}
use Rattle.std.specs.List.{All}
use Rattle.std.proofs.lemmas.List.{length-map, get_or-map, length-take}
use Rattle.std.proofs.lemmas.List.Elements.{All-head, All-tail, All-take}
use Rattle.std.proofs.lemmas.List.FromFn.{get_or-map-range_with_len, length-map-range_with_len}
use Rattle.std.proofs.lemmas.List.Sums.{sum_by-cons}
use Rattle.std.proofs.lemmas.Option.{none-some}
use Rattle.mt_text_spec.specs.Registries.{Attr, Registry, ValidRegistry, base_attr, base_count, column_of, is_base}
use Rattle.mt_text_spec.specs.Texts.{StructSpan, Text, Token, ValidCorpus, ValidText, value_of}
use Rattle.mt_file_spec.specs.Vertical.{AreRead, Vertical, text_lines}
use Rattle.mt_segment_spec.specs.Tables.{AttrTables, AreBaseTables, AreTables, AreTablesOf, attr_at, attr_values, instances_of, is_of_kind, tables_at, value_by}
use Rattle.mt_vertical_tables.specs.Columns.{AreColumns, AreTokenColumns}
use Rattle.mt_segment.specs.Joined.{of_one_text}
use Rattle.mt_vertical_tables.specs.Joined.{AreTablesOfVertical}
use Rattle.mt_vertical_tables.specs.Outlines.{IsOutline, kind_by_kind}
use Rattle.mt_vertical_tables.proofs.RoleColumns.{role_values}
use Rattle.mt_vertical_tables.proofs.Values.{by_line}

-- ---- base attributes

pub count_all : (attrs : List Attr) → All (λ attr. attr.base ≡ None) attrs → base_count attrs ≡ length attrs
count_all [] h = refl
count_all (attr ∷ attrs) h =
    let e : is_base attr ≡ true = ap is_none (All-head (λ (a : Attr). a.base ≡ None) attr attrs h) in
    let one : ◌≡◌ {A = ℕ} (cond (is_base attr) 1 0) 1 = ap (λ (b : Bool). cond {A = ℕ} b 1 0) e in
    omega (arith, sum_by-cons (λ (a : Attr). cond (is_base a) 1 0) attr attrs, one, count_all attrs (All-tail (λ (a : Attr). a.base ≡ None) attr attrs h))

column_is : (attrs : List Attr) (number : ℕ) → All (λ attr. attr.base ≡ None) attrs → number < length attrs → column_of attrs number ≡ number
column_is attrs number h l = omega (arith, count_all (take number attrs) (All-take (λ (a : Attr). a.base ≡ None) number attrs h), length-take number attrs)

-- ---- the text

valid_alone : (registry : Registry) (text : Text) → ValidText registry text → ValidCorpus registry (text ∷ [])
valid_alone registry text h = record {
  few = omega arith;
  short = omega (arith, h.short);
  texts = only;
  distinct = λ i j d l m. absurd (omega arith);
}
  where
    only : (k : ℕ) (d : Text) → k < 1 → ValidText registry (get_or (text ∷ []) k d)
    only zero d l = h
    only (suc k) d l = absurd (omega (arith, l))

-- ---- the tables of a text that was read

module _ (registry : Registry) (name bytes : List ℕ) (text : Text) (tokens : ℕ) (structs : List (List StructSpan)) (attrs : List AttrTables) (bases : All (λ attr. attr.base ≡ None) registry.attrs) (read : Vertical registry name bytes text)
    (many : tokens ≡ length text.tokens) (columns : AreTokenColumns text.tokens (length registry.attrs) attrs) (instances : structs ≡ kind_by_kind (length registry.kinds) text.structs) where
  module _ (images : List ℕ → List ℕ → List ℕ) where
    values_are : (number : ℕ) → number < length registry.attrs → (attr_at registry number).base ≡ None → map (λ token. value_of token number) text.tokens ≡ attr_values images registry (text ∷ []) number
    values_are number l e =
        let image = images (attr_at registry number).mapper in
        ap (λ (c : ℕ). map (λ token. value_of token c) text.tokens) (sym (column_is registry.attrs number bases l))
        ∙ ap (λ (base : Option ℕ). map (λ token. value_by image registry number token base) text.tokens) (sym e)
        ∙ ap (λ (ts : List Token). map (λ token. value_by image registry number token (attr_at registry number).base) ts) (sym (append-nil text.tokens))

    kind_is : (kind : ℕ) → kind < length registry.kinds → get_or (map (λ instances. instances ∷ []) structs) kind [] ≡ instances_of kind (text ∷ [])
    kind_is kind l =
        let of_kind : ℕ → List StructSpan = λ kind. filter (is_of_kind kind) text.structs in
        let all : length structs ≡ length registry.kinds = ap length instances ∙ length-map-range_with_len of_kind 0 (length registry.kinds) in
        get_or-map (λ (instances : List StructSpan). instances ∷ []) structs kind [] [] (omega (arith, l, all))
        ∙ ap (λ (lists : List (List StructSpan)). get_or lists kind [] ∷ []) instances ∙ ap (λ (spans : List StructSpan). spans ∷ []) (get_or-map-range_with_len of_kind 0 (length registry.kinds) kind kind [] l (omega arith))

    are_tables : AreTablesOf images registry (text ∷ []) (of_one_text name tokens attrs structs)
    are_tables = record {
      texts = ap₂ (λ (own : List ℕ) (n : ℕ). (own, n) ∷ []) (sym read.named) many;
      attr_count = columns.count_is;
      bases = λ number l e. subst (λ (vs : List (List ℕ)). AreBaseTables vs (tables_at attrs number)) (values_are number l e) (columns.each number l);
      mapped = λ number base l e. absurd (none-some base (sym (bases number (base_attr []) l) ∙ e));
      kind_count = length-map structs (λ (instances : List StructSpan). instances ∷ []) ∙ ap length instances ∙ length-map-range_with_len (λ (kind : ℕ). filter (is_of_kind kind) text.structs) 0 (length registry.kinds);
      structs = kind_is;
    }

  pub tables_of_read : (valid : ValidRegistry registry) → ValidText registry text → AreTables (of_one_text name tokens attrs structs)
  tables_of_read valid valid_text = record {
    registry = registry;
    under = record {
      images = λ mapper value. value;
      by = record { valid = valid; corpus = text ∷ []; texts = valid_alone registry text valid_text; some = omega arith; are = are_tables (λ mapper value. value) };
    };
  }

  pub vertical_of_read : ValidText registry text → AreTablesOfVertical registry name bytes (of_one_text name tokens attrs structs)
  vertical_of_read valid_text = (text, read, valid_text, are_tables)

-- ---- the tables of a text whose columns were read apart

module _ (registry : Registry) (name bytes : List ℕ) (ls : List (List ℕ)) (tokens : ℕ) (structs : List (List StructSpan)) (attrs : List AttrTables) (bases : All (λ attr. attr.base ≡ None) registry.attrs) (same : text_lines bytes ≡ ls)
    (o : IsOutline registry name bytes tokens structs) (k : AreColumns ls (length registry.attrs) attrs) where
  read_lines : AreRead registry 0 ls o.read.roles
  read_lines = subst (λ (ls : List (List ℕ)). AreRead registry 0 ls o.read.roles) same o.read.read

  columns : AreTokenColumns o.text.tokens (length registry.attrs) attrs
  columns = record {
    count_is = k.count_is;
    each = λ number l.
        let c = k.each number l in
        let is = role_values registry number 0 ls o.read.roles c.values (omega (arith, l, count_all registry.attrs bases)) read_lines (by_line number ls c.values c.are) in
        let told : c.values ≡ map (λ token. value_of token number) o.text.tokens = is ∙ ap (λ (ts : List Token). map (λ token. value_of token number) ts) (sym o.read.tokens) in
        subst (λ (vs : List (List ℕ)). AreBaseTables vs (tables_at attrs number)) told c.made;
  }

  module _ (valid : ValidRegistry registry) (valid_text : (text : Text) → Vertical registry name bytes text → ValidText registry text) where
    pub are_some : AreTables (of_one_text name tokens attrs structs)
    are_some = tables_of_read registry name bytes o.text tokens structs attrs bases o.read o.count columns o.instances valid (valid_text o.text o.read)

    pub are_of_vertical : AreTablesOfVertical registry name bytes (of_one_text name tokens attrs structs)
    are_of_vertical = vertical_of_read registry name bytes o.text tokens structs attrs bases o.read o.count columns o.instances (valid_text o.text o.read)
