-- What contracts see of the causes of statements, and which is the first.
use Rattle.std.specs.Prelude.{ℕ, ◌≡◌, ◌≤◌, ◌==◌, nat_lt, if◌then◌else◌, List, ◌∷◌, ◌++◌, Option, None, Some}
use Rattle.mt_file_spec.specs.RegistryFile.{RegistryCause, Syntax, rank, Statement, IsCause}

-- the first cause that a statement has, or none where it has none
abbrev pub IsFirstCause : List (List ℕ) → List Statement → ℕ → List Statement → Statement → Option RegistryCause → Type 0
IsFirstCause mappers all unclosed earlier statement None = (cause : RegistryCause) → IsCause mappers all unclosed earlier statement cause → ⊥
IsFirstCause mappers all unclosed earlier statement (Some cause) =
    IsCause mappers all unclosed earlier statement cause × ((other : RegistryCause) → IsCause mappers all unclosed earlier statement other → rank cause ≤ rank other)

-- none of these, the first of all, has a cause
abbrev pub AreUnblamed : List (List ℕ) → List Statement → ℕ → List Statement → Type 0
AreUnblamed mappers all unclosed front =
    (earlier : List Statement) (statement : Statement) (later : List Statement) (cause : RegistryCause) → front ≡ earlier ++ statement ∷ later → IsCause mappers all unclosed earlier statement cause → ⊥

-- a line and the cause of what it states
pub record Blamed : Type 0 where
  pub line : ℕ
  pub cause : RegistryCause

-- the first statement that has a cause is in this line, and this is the first of its causes
pub record FirstBlamed (mappers : List (List ℕ)) (all : List Statement) (unclosed : ℕ) (blamed : Blamed) : Type 0 where
  pub earlier : List Statement
  pub statement : Statement
  pub later : List Statement
  pub are : all ≡ earlier ++ statement ∷ later
  pub before : AreUnblamed mappers all unclosed earlier
  pub line : statement.line ≡ blamed.line
  pub here : IsFirstCause mappers all unclosed earlier statement (Some blamed.cause)

abbrev pub IsFirstBlamed : List (List ℕ) → List Statement → ℕ → Option Blamed → Type 0
IsFirstBlamed mappers all unclosed None = AreUnblamed mappers all unclosed all
IsFirstBlamed mappers all unclosed (Some blamed) = FirstBlamed mappers all unclosed blamed

-- the line that is refused by its form and place, or as the last where a block is left open
abbrev pub syntax_of : Option ℕ → ℕ → Option ℕ
syntax_of (Some line) unclosed = Some line
syntax_of None unclosed = if unclosed == 0 then None else Some unclosed

-- the earlier of the two, or in one line the syntax
abbrev pub first_of : Option Blamed → Option ℕ → Option Blamed
first_of None None = None
first_of (Some blamed) None = Some blamed
first_of None (Some line) = Some (record { line = line; cause = Syntax })
first_of (Some blamed) (Some line) = if nat_lt blamed.line line then Some blamed else Some (record { line = line; cause = Syntax })

-- of what is refused in the lines that were read, this is the first
pub record IsFirstOf (mappers : List (List ℕ)) (all : List Statement) (refused : Option ℕ) (unclosed : ℕ) (result : Option Blamed) : Type 0 where
  pub blamed : Option Blamed
  pub statement : IsFirstBlamed mappers all unclosed blamed
  pub is : result ≡ first_of blamed (syntax_of refused unclosed)
