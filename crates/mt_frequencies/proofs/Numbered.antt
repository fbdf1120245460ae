-- The numbers of an attribute's values, by the column of a base attribute, and by the table of a mapped one.
use Rattle.std.proofs.Common.{◌≡◌, ℕ, ◌<◌, List, length, get_or, None, Some, sym, ◌∙◌, ap, arith}
use Rattle.mt_segment_spec.specs.Tables.{Tables, number_at, number_by, tables_at, token_count}
use Rattle.mt_segment_laws.specs.Laws.{AreWhole}

module _ (tables : Tables) (whole : AreWhole tables) where
  -- by a column
  module _ (attr : ℕ) (there : attr < length tables.attrs) (none : (tables_at tables.attrs attr).base ≡ None) (column : List ℕ) (column_is : column ≡ (tables_at tables.attrs attr).numbers) (place : ℕ) (inside : place < token_count tables) where
    pub in_column : place < length column
    in_column = omega (arith, inside, ap length column_is, whole.columns attr there none)

    pub by_column : get_or column place 0 ≡ number_at tables attr place
    by_column = ap (λ (ns : List ℕ). get_or ns place 0) column_is ∙ sym (ap (number_by (tables_at tables.attrs attr).numbers tables.attrs place) none)

  -- by a table
  module _ (attr base : ℕ) (there : attr < length tables.attrs) (some : (tables_at tables.attrs attr).base ≡ Some base) where
    pub base_there : base < length tables.attrs
    base_there = (whole.bases attr base there some).0

    pub base_unmapped : (tables_at tables.attrs base).base ≡ None
    base_unmapped = (whole.bases attr base there some).1

    module _ (column table : List ℕ) (column_is : column ≡ (tables_at tables.attrs base).numbers) (table_is : table ≡ (tables_at tables.attrs attr).numbers) (place : ℕ) (inside : place < token_count tables) where
      pub in_base_column : place < length column
      in_base_column = in_column base base_there base_unmapped column column_is place inside

      pub in_table : get_or column place 0 < length table
      in_table = omega (arith, whole.within base place base_there inside, by_column base base_there base_unmapped column column_is place inside, ap length table_is, whole.mapped attr base there some)

      pub by_table : get_or table (get_or column place 0) 0 ≡ number_at tables attr place
      by_table =
          ap (λ (ns : List ℕ). get_or table (get_or ns place 0) 0) column_is ∙ ap (λ (ns : List ℕ). get_or ns (get_or (tables_at tables.attrs base).numbers place 0) 0) table_is
          ∙ sym (ap (number_by (tables_at tables.attrs attr).numbers tables.attrs place) some)
