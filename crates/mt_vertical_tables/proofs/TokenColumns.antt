-- The tables of the columns of tokens, one after another.
use Rattle.std.proofs.Common.{◌≡◌, ℕ, ◌+◌, ◌<◌, ◌≤◌, ◌⊎◌, inl, inr, List, [], ◌∷◌, ◌++◌, length, length-append, map, sym, ◌∙◌, ap, subst, arith}
use Rattle.std.proofs.lemmas.Bool.{cases_lt}
use Rattle.std.proofs.lemmas.List.{get_or_append_left, get_or_push}
use Rattle.mt_text_spec.specs.Texts.{Token, value_of}
use Rattle.mt_segment_spec.specs.Tables.{AttrTables, AreBaseTables, tables_at}
use Rattle.mt_vertical_tables.specs.Columns.{AreTokenColumns}

pub no_columns : (tokens : List Token) (tables : List AttrTables) → tables ≡ [] → AreTokenColumns tokens 0 tables
no_columns tokens tables e = record { count_is = ap length e; each = λ column l. absurd (omega (arith, l)) }

pub column_more : (tokens : List Token) (count : ℕ) (tables new : List AttrTables) (made : AttrTables) → AreTokenColumns tokens count tables → new ≡ tables ++ made ∷ [] → AreBaseTables (map (λ token. value_of token count) tokens) made →
    AreTokenColumns tokens (count + 1) new
column_more tokens count tables new made h more one = record {
  count_is = omega (arith, ap length more, length-append tables (made ∷ []), h.count_is);
  each = λ column l. subst (λ (ts : List AttrTables). IsColumn column (tables_at ts column)) (sym more) (by column l (cases_lt column count));
}
  where
    IsColumn : ℕ → AttrTables → Type 0
    IsColumn column made = AreBaseTables (map (λ token. value_of token column) tokens) made

    by : (column : ℕ) → column < count + 1 → (column < count) ⊎ (count ≤ column) → IsColumn column (tables_at (tables ++ made ∷ []) column)
    by column l (inl m) =
        subst (IsColumn column) (sym (get_or_append_left tables (made ∷ []) (tables_at [] 0) column (omega (arith, m, h.count_is)))) (h.each column m)
    by column l (inr m) =
        let e : count ≡ column = omega (arith, l, m) in
        subst (IsColumn column) (sym (get_or_push tables made (tables_at [] 0) column (h.count_is ∙ e))) (subst (λ (n : ℕ). IsColumn n made) e one)
