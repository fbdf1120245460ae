-- What a script holds: its items, one after another. `ended` says that the input ends with these bytes; where it is false, more may come.
use Rattle.std.specs.Prelude.{ℕ, ◌≡◌, ◌≢◌, ◌+◌, ◌<◌, ◌⊎◌, Bool, true, false, List, [], ◌∷◌, ◌++◌}
use Rattle.std.specs.Str.Lines.{strip_carriage_return}
use Rattle.mt_text_spec.specs.Lines.{IsLine, Block, closed}
use Rattle.mt_script_spec.specs.Commands.{Command, Header, body_lines, WithBody, IsHeader, IsSkipped}

-- An item is a command, a line that is no command, or a body that the input cuts short.
pub data Item : Type 0 where
  Given : (command : Command) → Item
  Bad : Item
  CutShort : Item

-- The bytes begin with a line and its line feed. One carriage return before the line feed is no part of the line.
pub record ClosedLine (bytes line others : List ℕ) : Type 0 where
  pub raw : List ℕ
  pub are : bytes ≡ raw ++ 10 ∷ others
  pub one : IsLine raw
  pub is : line ≡ strip_carriage_return raw

-- The input ends with a line that is not empty and has no line feed. It keeps a carriage return at its end.
pub record OpenLine (ended : Bool) (bytes line others : List ℕ) : Type 0 where
  pub last : ended ≡ true
  pub is : line ≡ bytes
  pub one : IsLine bytes
  pub some : bytes ≢ []
  pub nothing : others ≡ []

-- the first line, and what follows it
abbrev pub FirstLine : Bool → List ℕ → List ℕ → List ℕ → Type 0
FirstLine ended bytes line others = ClosedLine bytes line others ⊎ OpenLine ended bytes line others

-- The bytes begin with so many lines, each with its line feed.
pub record ClosedBody (number : ℕ) (bytes body others : List ℕ) : Type 0 where
  pub are : bytes ≡ body ++ others
  pub lines : Block number body

-- The input ends with so many lines, of which the last is not empty and lacks its line feed: the body has it.
pub record OpenBody (ended : Bool) (number : ℕ) (bytes body others : List ℕ) : Type 0 where
  pub last : ended ≡ true
  pub front : List ℕ
  pub line : List ℕ
  pub are : bytes ≡ front ++ line
  pub one : IsLine line
  pub some : line ≢ []
  pub before : ℕ
  pub lines : Block before front
  pub count : number ≡ before + 1
  pub is : body ≡ closed bytes
  pub nothing : others ≡ []

-- a body of so many lines, and what follows it
abbrev pub Body : Bool → ℕ → List ℕ → List ℕ → List ℕ → Type 0
Body ended number bytes body others = ClosedBody number bytes body others ⊎ OpenBody ended number bytes body others

-- The bytes are fewer lines than so many. A last line without line feed counts where the input ends and it is not empty.
pub record Fewer (ended : Bool) (number : ℕ) (bytes : List ℕ) : Type 0 where
  pub front : List ℕ
  pub line : List ℕ
  pub are : bytes ≡ front ++ line
  pub one : IsLine line
  pub before : ℕ
  pub lines : Block before front
  pub few : before < number
  pub fewer : ended ≡ true → line ≢ [] → before + 1 < number

-- The bytes begin with this item, and the others follow.
pub data Whole (ended : Bool) (bytes : List ℕ) : Item → List ℕ → Type 0 where
  -- a good header always takes its body
  Commanded : (line mid : List ℕ) (header : Header) (body : List ℕ) (command : Command) (others : List ℕ) →
      FirstLine ended bytes line mid → (IsSkipped line → ⊥) → IsHeader line header → Body ended (body_lines header) mid body others →
      WithBody header body command → Whole ended bytes (Given command) others
  -- a line that is no header is an item by itself
  Refused : (line others : List ℕ) →
      FirstLine ended bytes line others → (IsSkipped line → ⊥) → ((header : Header) → IsHeader line header → ⊥) →
      Whole ended bytes Bad others
  -- the input ends inside a body
  Broken : (line mid : List ℕ) (header : Header) →
      ended ≡ true → FirstLine ended bytes line mid → (IsSkipped line → ⊥) → IsHeader line header → Fewer ended (body_lines header) mid →
      Whole ended bytes CutShort []

-- The bytes begin with these items, and the others follow. Lines that stand for nothing may lie before, between and behind.
pub data Begins (ended : Bool) : List ℕ → List Item → List ℕ → Type 0 where
  Nothing : (bytes : List ℕ) → Begins ended bytes [] bytes
  Skips : (bytes line mid : List ℕ) (items : List Item) (others : List ℕ) →
      FirstLine ended bytes line mid → IsSkipped line → Begins ended mid items others → Begins ended bytes items others
  Then : (bytes : List ℕ) (item : Item) (mid : List ℕ) (items : List Item) (others : List ℕ) →
      Whole ended bytes item mid → Begins ended mid items others → Begins ended bytes (item ∷ items) others

-- a header whose body has not come to its end
pub record LacksBody (bytes : List ℕ) : Type 0 where
  pub line : List ℕ
  pub mid : List ℕ
  pub header : Header
  pub first : ClosedLine bytes line mid
  pub stays : IsSkipped line → ⊥
  pub good : IsHeader line header
  pub few : Fewer false (body_lines header) mid

-- No whole item is left. At the input's end nothing is.
abbrev pub IsRest : Bool → List ℕ → Type 0
IsRest true bytes = bytes ≡ []
IsRest false bytes = IsLine bytes ⊎ LacksBody bytes

-- The script is these items, and a rest that is no whole item.
pub record Items (ended : Bool) (bytes : List ℕ) (items : List Item) (rest : List ℕ) : Type 0 where
  pub begins : Begins ended bytes items rest
  pub rests : IsRest ended rest
