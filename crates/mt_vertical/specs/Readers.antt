-- What is kept while the lines of a vertical are read: the tokens so far, and for each kind the instances that have ended and the one that is open.
use Rattle.std.specs.Prelude.{ℕ, ◌≡◌, ◌+◌, ◌<◌, ◌≤◌, ◌==◌, if◌then◌else◌, List, [], ◌∷◌, ◌++◌, length, slice_index_or, Option, None, Some, IsUtf8}
use Rattle.std.specs.List.{All, Any}
use Rattle.mt_text_spec.specs.Registries.{Registry, base_count}
use Rattle.mt_text_spec.specs.Texts.{Token, StructSpan, text_tokens_limit, value_bytes_limit}
use Rattle.mt_file_spec.specs.VerticalLines.{Role, Opens, Stands, Closes, Gives, Plays, columns, first_columns}
use Rattle.mt_file_spec.specs.Vertical.{TextCause, cause_rank, HasCause, token_in}
use Rattle.mt_vertical.specs.TagForms.{IsFound}
use Rattle.mt_vertical.specs.declared.tags.Form.{Form}

-- an instance that has begun
pub record Began : Type 0 where
  pub begin : ℕ
  pub values : List (List ℕ)

-- the instances of a kind
pub record Kept : Type 0 where
  pub done : List StructSpan
  pub open_one : Option Began

pub record State : Type 0 where
  pub columns : ℕ
  pub tokens : List Token
  pub kinds : List Kept

-- of a kind no instance has begun
abbrev pub no_instances : Kept
no_instances = record { done = []; open_one = None }

-- the state with these tokens and these instances
abbrev pub state_of : ℕ → List Token → List Kept → State
state_of columns tokens kinds = record { columns = columns; tokens = tokens; kinds = kinds }

-- the open instance of a kind, ended at a place
abbrev pub closed_at : ℕ → ℕ → Option Began → List StructSpan
closed_at kind place None = []
closed_at kind place (Some began) = (record { kind = kind; begin = began.begin; end = place; values = began.values }) ∷ []

abbrev pub ended : ℕ → ℕ → Kept → Kept
ended kind place k = record { done = k.done ++ closed_at kind place k.open_one; open_one = None }

abbrev pub opened : ℕ → ℕ → List (List ℕ) → Kept → Kept
opened kind place values k = record { done = k.done ++ closed_at kind place k.open_one; open_one = Some (record { begin = place; values = values }) }

abbrev pub stood : ℕ → ℕ → List (List ℕ) → Kept → Kept
stood kind place values k =
    record { done = k.done ++ closed_at kind place k.open_one ++ (record { kind = kind; begin = place; end = place; values = values }) ∷ []; open_one = None }

-- what a line at this place leaves of the instances of this kind
abbrev pub step : ℕ → ℕ → Role → Kept → Kept
step kind place (Opens number values) k = if number == kind then opened kind place values k else k
step kind place (Stands number values) k = if number == kind then stood kind place values k else k
step kind place (Closes number) k = if number == kind then ended kind place k else k
step kind place role k = k

-- what a token line does, of which so many columns are kept
abbrev pub token_role : ℕ → List ℕ → Role
token_role count line = Gives (record { values = first_columns count (columns line) })

-- what a line does to all
pub record Did (old : State) (role : Role) (new : State) : Type 0 where
  pub columns : new.columns ≡ old.columns
  pub tokens : new.tokens ≡ old.tokens ++ token_in role
  pub count : length new.kinds ≡ length old.kinds
  pub each : (kind : ℕ) (d : Kept) → kind < length old.kinds → slice_index_or new.kinds kind d ≡ step kind (length old.tokens) role (slice_index_or old.kinds kind d)

-- what a line at this place does to the instances
pub record DidKinds (place : ℕ) (old : List Kept) (role : Role) (new : List Kept) : Type 0 where
  pub count : length new ≡ length old
  pub each : (kind : ℕ) (d : Kept) → kind < length old → slice_index_or new kind d ≡ step kind place role (slice_index_or old kind d)

-- what is always so under this registry
pub record IsSound (registry : Registry) (state : State) : Type 0 where
  pub columns : state.columns ≡ base_count registry.attrs
  pub few : length state.tokens ≤ text_tokens_limit
  pub count : length state.kinds ≡ length registry.kinds

-- a line was read, and has no cause
pub record HasReadLine (registry : Registry) (old : State) (line : List ℕ) (new : State) : Type 0 where
  pub role : Role
  pub plays : Plays registry line role
  pub good : (cause : TextCause) → ¬ HasCause registry (length old.tokens) line cause
  pub did : Did old role new
  pub sound : IsSound registry new

-- a line has this cause, and none before it
pub record Refuses (registry : Registry) (state : State) (line : List ℕ) (cause : TextCause) : Type 0 where
  pub has : HasCause registry (length state.tokens) line cause
  pub first : (other : TextCause) → cause_rank other < cause_rank cause → ¬ HasCause registry (length state.tokens) line other

-- a line was read, or has this cause first
abbrev pub IsRead : Registry → State → List ℕ → State → Option TextCause → Type 0
IsRead registry old line new None = HasReadLine registry old line new
IsRead registry old line new (Some cause) = Refuses registry old line cause

-- a tag at this place was read, or has this cause first, whatever the tokens before it are
abbrev pub TagIsRead : Registry → ℕ → List Kept → Form → List ℕ → List ℕ → List Kept → Option TextCause → Type 0
TagIsRead registry place old form name region new found = (columns : ℕ) (tokens : List Token) (line : List ℕ) → place ≡ length tokens → IsSound registry (state_of columns tokens old) → IsUtf8 line →
    IsFound line form name region → IsRead registry (state_of columns tokens old) line (state_of columns tokens new) found

-- all of these are short enough
abbrev pub AreShort : List (List ℕ) → Type 0
AreShort values = All (λ value. length value ≤ value_bytes_limit) values

-- one of these is too long
abbrev pub HasLong : List (List ℕ) → Type 0
HasLong values = Any (λ value. value_bytes_limit < length value) values

-- the instances of the kinds from this one on, each open one ended at a place
abbrev pub gathered : ℕ → ℕ → List Kept → List StructSpan
gathered kind place [] = []
gathered kind place (k ∷ ks) = (ended kind place k).done ++ gathered (kind + 1) place ks

-- the columns of what is left of a line
abbrev pub columns_left : Option (List ℕ) → List (List ℕ)
columns_left None = []
columns_left (Some bytes) = columns bytes
