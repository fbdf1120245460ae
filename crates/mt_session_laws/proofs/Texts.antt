-- Bytes cannot be without a text and without a first fault.
use Rattle.std.proofs.Common.{◌≡◌, ℕ, zero, suc, ◌+◌, ◌<◌, ◌⊎◌, inl, inr, List, [], ◌∷◌, ◌++◌, length, map, Some, get_or, arith, refl, ap}
use Rattle.std.specs.Prelude.{slice_get}
use Rattle.std.specs.List.{Contains}
use Rattle.mt_text_spec.specs.Registries.{Registry, Kind, kind_names, base_count}
use Rattle.mt_text_spec.specs.Texts.{Text}
use Rattle.mt_file_spec.specs.Tags.{Tag, OpeningTag, EmptyTag, ClosingTag, IsTag, tag_value}
use Rattle.mt_file_spec.specs.VerticalLines.{Role, Passes, Opens, Stands, Closes, Gives, Plays, IsSkipped, columns, first_columns}
use Rattle.mt_file_spec.specs.Vertical.{TextCause, NotUtf8, TooManyTokens, ValueTooLong, cause_rank, HasCause, AreRead, past, tokens_in, instances_in, text_lines, Vertical, FirstTextFault}
use Rattle.mt_session_laws.proofs.Never.{either}

-- ## One line

-- a kind of this name, and its number
record IsKind (kinds : List Kind) (name : List ℕ) : Type 0 where
  pub number : ℕ
  pub kind : Kind
  pub declared : slice_get kinds number ≡ Some kind
  pub named : kind.name ≡ name

kind_at : (kinds : List Kind) (name : List ℕ) (at : ℕ) → at < length (kind_names kinds) → get_or (kind_names kinds) at name ≡ name → IsKind kinds name
kind_at [] name at low e = absurd (omega arith)
kind_at (kind ∷ kinds) name zero low e = record { number = 0; kind = kind; declared = refl; named = e }
kind_at (kind ∷ kinds) name (suc at) low e =
    let found = kind_at kinds name at (omega arith) e in
    record { number = suc found.number; kind = found.kind; declared = found.declared; named = found.named }

kind_of_name : (kinds : List Kind) (name : List ℕ) → Contains (kind_names kinds) name → IsKind kinds name
kind_of_name kinds name c = kind_at kinds name c.0 c.1 c.2

tag_plays : (registry : Registry) (line : List ℕ) (tag : Tag) → IsTag line tag → (((role : Role) × Plays registry line role) → ⊥) → ⊥
tag_plays registry line (OpeningTag name attrs) is k = either (Contains (kind_names registry.kinds) name) (λ d. elim d [
  | inl c ↦ let at = kind_of_name registry.kinds name c in
      k (Opens at.number (map (tag_value attrs) at.kind.attrs), record { kind = at.kind; declared = at.declared; attrs = attrs; spelled = rw at.named is; are = refl })
  | inr foreign ↦ k (Passes, inr (OpeningTag name attrs, record { spelled = is; foreign = foreign }))
])
tag_plays registry line (EmptyTag name attrs) is k = either (Contains (kind_names registry.kinds) name) (λ d. elim d [
  | inl c ↦ let at = kind_of_name registry.kinds name c in
      k (Stands at.number (map (tag_value attrs) at.kind.attrs), record { kind = at.kind; declared = at.declared; attrs = attrs; spelled = rw at.named is; are = refl })
  | inr foreign ↦ k (Passes, inr (EmptyTag name attrs, record { spelled = is; foreign = foreign }))
])
tag_plays registry line (ClosingTag name) is k = either (Contains (kind_names registry.kinds) name) (λ d. elim d [
  | inl c ↦ let at = kind_of_name registry.kinds name c in k (Closes at.number, record { kind = at.kind; declared = at.declared; spelled = rw at.named is })
  | inr foreign ↦ k (Passes, inr (ClosingTag name, record { spelled = is; foreign = foreign }))
])

line_plays : (registry : Registry) (line : List ℕ) → (((role : Role) × Plays registry line role) → ⊥) → ⊥
line_plays registry line k = either (IsSkipped line) (λ d. elim d [
  | inl skipped ↦ k (Passes, inl skipped)
  | inr stays ↦ either ((tag : Tag) × IsTag line tag) (λ e. elim e [
    | inl found ↦ tag_plays registry line found.0 found.1 k
    | inr none ↦ k (Gives (record { values = first_columns (base_count registry.attrs) (columns line) }), record { stays = stays; untagged = λ tag is. none (tag, is); are = refl })
  ])
])

-- ## The first fault

-- among lines, of which the first stands behind so many tokens
record Faulty (registry : Registry) (place : ℕ) (ls : List (List ℕ)) : Type 0 where
  pub before : List (List ℕ)
  pub line : List ℕ
  pub after : List (List ℕ)
  pub are : ls ≡ before ++ line ∷ after
  pub roles : List Role
  pub read : AreRead registry place before roles
  pub cause : TextCause
  pub has : HasCause registry (place + length (tokens_in roles)) line cause
  pub first : (other : TextCause) → cause_rank other < cause_rank cause → HasCause registry (place + length (tokens_in roles)) line other → ⊥

past_place : (place : ℕ) (role : Role) (roles : List Role) → past place role + length (tokens_in roles) ≡ place + length (tokens_in (role ∷ roles))
past_place place Passes roles = refl
past_place place (Opens kind values) roles = refl
past_place place (Stands kind values) roles = refl
past_place place (Closes kind) roles = refl
past_place place (Gives token) roles = omega arith

at_once : (registry : Registry) (place : ℕ) (line : List ℕ) (ls : List (List ℕ)) (cause : TextCause) → HasCause registry place line cause →
    ((other : TextCause) → cause_rank other < cause_rank cause → HasCause registry place line other → ⊥) → Faulty registry place (line ∷ ls)
at_once registry place line ls cause has first =
    let zero_more : place + 0 ≡ place = omega arith in
    record { before = []; line = line; after = ls; are = refl; roles = []; read = tt; cause = cause; has = rw zero_more has; first = λ other low h. first other low (rw zero_more at h) }

first_low : (registry : Registry) (place : ℕ) (line : List ℕ) (other : TextCause) → cause_rank other < 0 → HasCause registry place line other → ⊥
first_low registry place line other low h = omega arith

second_low : (registry : Registry) (place : ℕ) (line : List ℕ) (other : TextCause) → (HasCause registry place line NotUtf8 → ⊥) → cause_rank other < 1 → HasCause registry place line other → ⊥
second_low registry place line NotUtf8 a low h = a h
second_low registry place line TooManyTokens a low h = omega arith
second_low registry place line ValueTooLong a low h = omega arith

third_low : (registry : Registry) (place : ℕ) (line : List ℕ) (other : TextCause) → (HasCause registry place line NotUtf8 → ⊥) → (HasCause registry place line TooManyTokens → ⊥) → cause_rank other < 2 →
    HasCause registry place line other → ⊥
third_low registry place line NotUtf8 a b low h = a h
third_low registry place line TooManyTokens a b low h = b h
third_low registry place line ValueTooLong a b low h = omega arith

no_cause : (registry : Registry) (place : ℕ) (line : List ℕ) → (HasCause registry place line NotUtf8 → ⊥) → (HasCause registry place line TooManyTokens → ⊥) → (HasCause registry place line ValueTooLong → ⊥) →
    (cause : TextCause) → HasCause registry place line cause → ⊥
no_cause registry place line a b c NotUtf8 h = a h
no_cause registry place line a b c TooManyTokens h = b h
no_cause registry place line a b c ValueTooLong h = c h

-- the first cause of a line, or none
fault_or_none : (registry : Registry) (place : ℕ) (line : List ℕ) (ls : List (List ℕ)) → (Faulty registry place (line ∷ ls) ⊎ ((cause : TextCause) → HasCause registry place line cause → ⊥) → ⊥) → ⊥
fault_or_none registry place line ls k = either (HasCause registry place line NotUtf8) (λ d. elim d [
  | inl a ↦ k (inl (at_once registry place line ls NotUtf8 a (first_low registry place line)))
  | inr a ↦ either (HasCause registry place line TooManyTokens) (λ e. elim e [
    | inl b ↦ k (inl (at_once registry place line ls TooManyTokens b (λ other. second_low registry place line other a)))
    | inr b ↦ either (HasCause registry place line ValueTooLong) (λ f. elim f [
      | inl c ↦ k (inl (at_once registry place line ls ValueTooLong c (λ other. third_low registry place line other a b)))
      | inr c ↦ k (inr (no_cause registry place line a b c))
    ])
  ])
])

one_line_more : (registry : Registry) (place : ℕ) (line : List ℕ) (ls : List (List ℕ)) (role : Role) → Plays registry line role → ((cause : TextCause) → HasCause registry place line cause → ⊥) →
    Faulty registry (past place role) ls → Faulty registry place (line ∷ ls)
one_line_more registry place line ls role plays good f =
    let same = past_place place role f.roles in
    record {
      before = line ∷ f.before;
      line = f.line;
      after = f.after;
      are = ap (λ rest. line ∷ rest) f.are;
      roles = role ∷ f.roles;
      read = (plays, good, f.read);
      cause = f.cause;
      has = rw (← same) f.has;
      first = λ other low h. f.first other low (rw same h);
    }

some_read : (registry : Registry) (place : ℕ) (ls : List (List ℕ)) → (((roles : List Role) × AreRead registry place ls roles) ⊎ Faulty registry place ls → ⊥) → ⊥
some_read registry place [] k = k (inl ([], tt))
some_read registry place (line ∷ ls) k = line_plays registry line (λ p. fault_or_none registry place line ls (λ d. elim d [
  | inl fault ↦ k (inr fault)
  | inr good ↦ some_read registry (past place p.0) ls (λ e. elim e [
    | inl read ↦ k (inl (p.0 ∷ read.0, (p.1, good, read.1)))
    | inr fault ↦ k (inr (one_line_more registry place line ls p.0 p.1 good fault))
  ])
]))

-- a text, or a first fault
pub some_text : (registry : Registry) (name bytes : List ℕ) → (((text : Text) × Vertical registry name bytes text) ⊎ ((line : ℕ) × (cause : TextCause) × FirstTextFault registry bytes line cause) → ⊥) → ⊥
some_text registry name bytes k = some_read registry 0 (text_lines bytes) (λ d. elim d [
  | inl read ↦ k (inl (
    record { name = name; tokens = tokens_in read.0; structs = instances_in (length registry.kinds) read.0 },
    record { roles = read.0; read = read.1; named = refl; tokens = refl; structs = refl },
  ))
  | inr f ↦ let none_more : 0 + length (tokens_in f.roles) ≡ length (tokens_in f.roles) = omega arith in k (inr (
    length f.before + 1,
    f.cause,
    record { before = f.before; line = f.line; after = f.after; are = f.are; place = refl; roles = f.roles; read = f.read; has = rw none_more at f.has; first = λ other low h. f.first other low (rw none_more h) },
  ))
])
