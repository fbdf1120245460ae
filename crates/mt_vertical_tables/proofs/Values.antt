-- The values of a column, line by line.
use Rattle.std.proofs.Common.{◌≡◌, ℕ, ◌≤◌, Bool, true, false, true≢false, List, [], ◌∷◌, ◌++◌, length, map, refl, sym, ◌∙◌, ap, ap₂, subst, append_assoc, append-nil, ◌⊎◌, inl, inr, Option}
use Rattle.std.specs.Bool.{Decides}
use Rattle.std.specs.List.{All, AllZip}
use Rattle.std.specs.Str.Lines.{lines}
use Rattle.std.proofs.lemmas.List.{nil_from_length}
use Rattle.std.proofs.lemmas.List.Elements.{All-nil, All-cons, All-head, All-tail}
use Rattle.mt_text_spec.specs.Texts.{value_bytes_limit}
use Rattle.mt_store_spec.specs.Lexicons.{kept_values}
use Rattle.mt_vertical.specs.Columns.{column_in}
use Rattle.mt_vertical.specs.Lines.{IsToken}
use Rattle.mt_vertical_tables.specs.Columns.{AddsLine, AreValuesIn, IsValueIn}
use Rattle.mt_vertical_tables.specs.Marks.{IsFirstValue, IsValue}

-- the values of lines, told line by line
abbrev pub ByLine : ℕ → List (List ℕ) → List (List ℕ) → Type 0
ByLine column [] values = values ≡ []
ByLine column (line ∷ ls) values = ((¬ IsToken line) × ByLine column ls values) ⊎ ((value : List ℕ) × (others : List (List ℕ)) × (values ≡ value ∷ others) × IsValueIn column line value × ByLine column ls others)

-- as a filter and a map
pub together : (column : ℕ) (ls values : List (List ℕ)) → ByLine column ls values → AreValuesIn column ls values
together column [] values e = record { are_tokens = []; told = tt; are = e; short = subst (All (λ (v : List ℕ). length v ≤ value_bytes_limit)) (sym e) (All-nil (λ (v : List ℕ). length v ≤ value_bytes_limit)) }
together column (line ∷ ls) values (inl (none, h)) =
    let rest = together column ls values h in
    record { are_tokens = false ∷ rest.are_tokens; told = (((λ e. absurd (true≢false (sym e))), (λ t. absurd (none t))), rest.told); are = rest.are; short = rest.short }
together column (line ∷ ls) values (inr (value, others, e, is, h)) =
    let rest = together column ls others h in
    record {
      are_tokens = true ∷ rest.are_tokens;
      told = (((λ e. is.token), (λ t. refl)), rest.told);
      are = e ∙ ap₂ (λ (v : List ℕ) (vs : List (List ℕ)). v ∷ vs) is.is rest.are;
      short = subst (All (λ (v : List ℕ). length v ≤ value_bytes_limit)) (sym e) (All-cons (λ (v : List ℕ). length v ≤ value_bytes_limit) value others is.short rest.short);
    }

one_by_one : (column : ℕ) (ls values : List (List ℕ)) (are_tokens : List Bool) → AllZip (λ line is_token. Decides is_token (IsToken line)) ls are_tokens → values ≡ map (column_in column) (kept_values are_tokens ls) →
    All (λ value. length value ≤ value_bytes_limit) values → ByLine column ls values
one_by_one column [] values [] told e short = e
one_by_one column [] values (is_token ∷ are_tokens) told e short = absurd told
one_by_one column (line ∷ ls) values [] told e short = absurd told
one_by_one column (line ∷ ls) values (false ∷ are_tokens) told e short = inl ((λ t. true≢false (sym (told.0.1 t))), one_by_one column ls values are_tokens told.1 e short)
one_by_one column (line ∷ ls) values (true ∷ are_tokens) told e short =
    let others : List (List ℕ) = map (column_in column) (kept_values are_tokens ls) in
    let all : All (λ (v : List ℕ). length v ≤ value_bytes_limit) (column_in column line ∷ others) = subst (All (λ (v : List ℕ). length v ≤ value_bytes_limit)) e short in
    inr (
      column_in column line,
      others,
      e,
      record { token = told.0.0 refl; is = refl; short = All-head (λ (v : List ℕ). length v ≤ value_bytes_limit) (column_in column line) others all },
      one_by_one column ls others are_tokens told.1 refl (All-tail (λ (v : List ℕ). length v ≤ value_bytes_limit) (column_in column line) others all),
    )

pub by_line : (column : ℕ) (ls values : List (List ℕ)) → AreValuesIn column ls values → ByLine column ls values
by_line column ls values h = one_by_one column ls values h.are_tokens h.told h.are h.short

-- with the values of the lines of what is left, those so far are the values of all lines
pub record IsAt (column : ℕ) (text rest : List ℕ) (seen : List (List ℕ)) : Type 0 where
  pub so_far : (values : List (List ℕ)) → ByLine column (lines rest) values → ByLine column (lines text) (seen ++ values)

pub at_front : (column : ℕ) (text : List ℕ) (seen : List (List ℕ)) → seen ≡ [] → IsAt column text text seen
at_front column text seen none = record { so_far = λ values h. subst (λ (vs : List (List ℕ)). ByLine column (lines text) (vs ++ values)) (sym none) h }

one_more : (column : ℕ) (all rest : List (List ℕ)) (line : List ℕ) (seen new : List (List ℕ)) → AddsLine column line seen new →
    ((values : List (List ℕ)) → ByLine column (line ∷ rest) values → ByLine column all (seen ++ values)) → (values : List (List ℕ)) → ByLine column rest values → ByLine column all (new ++ values)
one_more column all rest line seen new (inl (none, same)) g values h = subst (λ (vs : List (List ℕ)). ByLine column all (vs ++ values)) (sym same) (g values (inl (none, h)))
one_more column all rest line seen new (inr (value, is, more)) g values h =
    let both : seen ++ value ∷ values ≡ new ++ values = sym (append_assoc seen (value ∷ []) values) ∙ ap (λ vs. vs ++ values) (sym more) in
    subst (ByLine column all) both (g (value ∷ values) (inr (value, values, refl, is, h)))

pub goes_on : (column : ℕ) (text old rest : List ℕ) (value : Option (List ℕ)) (seen new : List (List ℕ)) → IsFirstValue column old value rest →
    ((number : ℕ) (line : List ℕ) → IsValue number line value → AddsLine number line seen new) → IsAt column text old seen → IsAt column text rest new
goes_on column text old rest value seen new f adds s = record {
  so_far = one_more column (lines text) (lines rest) f.line seen new (adds column f.line f.told)
      (subst (λ (ls : List (List ℕ)). (values : List (List ℕ)) → ByLine column ls values → ByLine column (lines text) (seen ++ values)) f.first s.so_far);
}

pub all_seen : (column : ℕ) (text rest : List ℕ) (seen : List (List ℕ)) → length rest ≡ 0 → IsAt column text rest seen → AreValuesIn column (lines text) seen
all_seen column text rest seen none s =
    let left : lines rest ≡ [] = ap lines (nil_from_length rest none) in
    together column (lines text) seen (subst (ByLine column (lines text)) (append-nil seen) (s.so_far [] (subst (λ (ls : List (List ℕ)). ByLine column ls []) (sym left) refl)))
