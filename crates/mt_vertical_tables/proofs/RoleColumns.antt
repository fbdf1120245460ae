-- The values of a column, from those of the lines and from what the lines do.
use Rattle.std.proofs.Common.{◌≡◌, ℕ, ◌+◌, ◌<◌, inl, inr, List, [], ◌∷◌, length, map, get_or, sym, ◌∙◌, ap, ap₂, refl, arith}
use Rattle.std.proofs.lemmas.List.{get_or_default}
use Rattle.mt_text_spec.specs.Registries.{Registry, base_count}
use Rattle.mt_text_spec.specs.Texts.{Token, value_of}
use Rattle.mt_file_spec.specs.Tags.{missing}
use Rattle.mt_file_spec.specs.VerticalLines.{Role, Passes, Opens, Stands, Closes, Gives, Plays, IsTokenLine, columns, first_columns}
use Rattle.mt_file_spec.specs.Vertical.{NotUtf8, AreRead, token_in, tokens_in}
use Rattle.mt_vertical.specs.Columns.{column_in}
use Rattle.mt_vertical.specs.Lines.{IsToken}
use Rattle.mt_vertical.proofs.KeptValues.{first_len, text_from}
use Rattle.mt_vertical.proofs.OneColumn.{at_front}
use Rattle.mt_vertical_tables.proofs.Values.{ByLine}

module _ (registry : Registry) where
  -- a line that gives no token is none
  no_token : (line : List ℕ) (role : Role) → Plays registry line role → token_in role ≡ [] → ¬ IsToken line
  no_token line Passes (inl s) e t = t.stays s
  no_token line Passes (inr (tag, f)) e t = t.untagged tag f.spelled
  no_token line (Opens kind values) d e t = t.untagged _ d.spelled
  no_token line (Stands kind values) d e t = t.untagged _ d.spelled
  no_token line (Closes kind) d e t = t.untagged _ d.spelled
  no_token line (Gives token) p e t = cc

  -- a token's value is that of its line
  token_at : (column : ℕ) (line : List ℕ) (token : Token) → column < base_count registry.attrs → IsTokenLine registry line token → column_in column line ≡ value_of token column
  token_at column line token l t =
      let n = base_count registry.attrs in
      let within : column < length (first_columns n (columns line)) = omega (arith, l, first_len n (columns line)) in
      sym (at_front n column (columns line) l) ∙ get_or_default (first_columns n (columns line)) column missing [] within ∙ ap (λ (vs : List (List ℕ)). get_or vs column []) (sym t.are)

  -- the values of the tokens
  pub role_values : (column place : ℕ) (ls : List (List ℕ)) (roles : List Role) (values : List (List ℕ)) → column < base_count registry.attrs → AreRead registry place ls roles → ByLine column ls values →
      values ≡ map (λ token. value_of token column) (tokens_in roles)
  role_values column place [] [] values l r e = e
  role_values column place [] (role ∷ roles) values l r e = absurd r
  role_values column place (line ∷ ls) [] values l r e = absurd r
  role_values column place (line ∷ ls) (Passes ∷ roles) values l r (inl (none, g)) = role_values column place ls roles values l r.2 g
  role_values column place (line ∷ ls) (Opens kind vs ∷ roles) values l r (inl (none, g)) = role_values column place ls roles values l r.2 g
  role_values column place (line ∷ ls) (Stands kind vs ∷ roles) values l r (inl (none, g)) = role_values column place ls roles values l r.2 g
  role_values column place (line ∷ ls) (Closes kind ∷ roles) values l r (inl (none, g)) = role_values column place ls roles values l r.2 g
  role_values column place (line ∷ ls) (Gives token ∷ roles) values l r (inl (none, g)) = absurd (none (record { text = text_from line (r.1 NotUtf8); stays = r.0.stays; untagged = r.0.untagged }))
  role_values column place (line ∷ ls) (Passes ∷ roles) values l r (inr (value, others, e, is, g)) = absurd (no_token line Passes r.0 refl is.token)
  role_values column place (line ∷ ls) (Opens kind vs ∷ roles) values l r (inr (value, others, e, is, g)) = absurd (no_token line (Opens kind vs) r.0 refl is.token)
  role_values column place (line ∷ ls) (Stands kind vs ∷ roles) values l r (inr (value, others, e, is, g)) = absurd (no_token line (Stands kind vs) r.0 refl is.token)
  role_values column place (line ∷ ls) (Closes kind ∷ roles) values l r (inr (value, others, e, is, g)) = absurd (no_token line (Closes kind) r.0 refl is.token)
  role_values column place (line ∷ ls) (Gives token ∷ roles) values l r (inr (value, others, e, is, g)) =
      e ∙ ap₂ (λ (v : List ℕ) (vs : List (List ℕ)). v ∷ vs) (is.is ∙ token_at column line token l r.0) (role_values column (place + 1) ls roles others l r.2 g)
