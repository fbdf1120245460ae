-- The commands, and the lines that they are written in.
use Rattle.std.specs.Prelude.{ℕ, ℤ, pos, neg_ℤ, ◌≤ℤ◌, ◌≡◌, ◌≢◌, ◌<◌, ◌≤◌, ◌^◌, ◌⊎◌, List, [], ◌∷◌, length, codes, IsUtf8, Option, None, Some}
use Rattle.std.specs.List.{AllZip, join_with_byte}
use Rattle.std.specs.Fmt.{decimal}
use Rattle.std.specs.Str.Lines.{lines}
use Rattle.mt_text_spec.specs.Words.{IsName, IsIdentifier}

-- ## What one may say

-- A question to the corpus, which changes nothing.
pub data Ask : Type 0 where
  Count : (cql : List ℕ) → Ask
  Query : (cql : List ℕ) → Ask
  Freq : (attr : List ℕ) (offset : ℤ) (cql : List ℕ) → Ask
  Colloc : (attr : List ℕ) (first last : ℤ) (least : ℕ) (cql : List ℕ) → Ask
  Sketch : (least most : ℕ) (lemma : List ℕ) → Ask
  Thes : (most : ℕ) (lemma : List ℕ) → Ask

-- A line of a batch: a question, or a line that is none.
pub data BatchLine : Type 0 where
  Good : (ask : Ask) → BatchLine
  BadLine : BatchLine

-- What one may say to the engine. A body is its lines, each with its line feed. `Load` is the command `open`.
pub data Command : Type 0 where
  Registry : (file : List ℕ) → Command
  Text : (name body : List ℕ) → Command
  Add : (name file : List ℕ) → Command
  Generate : (name : List ℕ) (seed tokens : ℕ) → Command
  Asks : (ask : Ask) → Command
  Grammar : (file : List ℕ) → Command
  Rules : (body : List ℕ) → Command
  Merge : (first last : ℕ) → Command
  Batch : (asked : List BatchLine) (merge : Option (ℕ × ℕ)) → Command
  Segments : Command
  Save : (name : List ℕ) → Command
  Load : (name : List ℕ) → Command
  Quit : Command
  Remove : (name : List ℕ) → Command
  Subcorpus : (name cql : List ℕ) → Command
  Subcount : (name cql : List ℕ) → Command
  Keywords : (name attr : List ℕ) (rarity most : ℕ) → Command
  Partner : (name kind : List ℕ) → Command

-- What a command line is, before its body: a command that has none, or the head of one that has so many lines.
pub data Header : Type 0 where
  Lone : (command : Command) → Header
  TextHead : (name : List ℕ) (number : ℕ) → Header
  RulesHead : (number : ℕ) → Header
  BatchHead : (number : ℕ) (merge : Option (ℕ × ℕ)) → Header

-- how many lines of body follow
abbrev pub body_lines : Header → ℕ
body_lines (Lone command) = 0
body_lines (TextHead name number) = number
body_lines (RulesHead number) = number
body_lines (BatchHead number merge) = number

-- ## Words

-- these words with one space between neighbours
abbrev pub spaced : List (List ℕ) → List ℕ
spaced words = join_with_byte 32 words

-- the name of a saved corpus leaves room for what is added to it
pub record IsSavedName (bytes : List ℕ) : Type 0 where
  pub name : IsName bytes
  pub shorter : length bytes ≤ 56

-- A number is written in decimal without leading zeros; one of 1 to 9 digits is below this.
abbrev pub IsSmall : ℕ → Type 0
IsSmall number = number < 10 ^ 9

-- a number from one end of a range to the other
pub record IsWithin (least most number : ℕ) : Type 0 where
  pub low : least ≤ number
  pub high : number ≤ most

-- A signed number is a number of at most this size, with or without a `-` before it. So `-0` is 0.
pub record IsSigned (most : ℕ) (word : List ℕ) (value : ℤ) : Type 0 where
  pub size : ℕ
  pub low : size ≤ most
  pub is : ((word ≡ decimal size) × (value ≡ pos size)) ⊎ ((word ≡ 45 ∷ decimal size) × (value ≡ neg_ℤ (pos size)))

-- ## Questions: a line is this question exactly where its words are so. A query and a lemma are the rest of the line as it stands, and not empty.

-- `count CQL`
pub record IsCount (cql line : List ℕ) : Type 0 where
  pub words : line ≡ spaced (codes "count" ∷ cql ∷ [])
  pub some : cql ≢ []

-- `query CQL`
pub record IsQuery (cql line : List ℕ) : Type 0 where
  pub words : line ≡ spaced (codes "query" ∷ cql ∷ [])
  pub some : cql ≢ []

-- `freq ATTR OFFSET CQL`
pub record IsFreq (attr : List ℕ) (offset : ℤ) (cql line : List ℕ) : Type 0 where
  pub written : List ℕ
  pub words : line ≡ spaced (codes "freq" ∷ attr ∷ written ∷ cql ∷ [])
  pub named : IsIdentifier attr
  pub at : IsSigned 1000 written offset
  pub some : cql ≢ []

-- `colloc ATTR FROM TO MIN CQL`
pub record IsColloc (attr : List ℕ) (first last : ℤ) (least : ℕ) (cql line : List ℕ) : Type 0 where
  pub begin : List ℕ
  pub end : List ℕ
  pub words : line ≡ spaced (codes "colloc" ∷ attr ∷ begin ∷ end ∷ decimal least ∷ cql ∷ [])
  pub named : IsIdentifier attr
  pub begins : IsSigned 100 begin first
  pub ends : IsSigned 100 end last
  pub order : first ≤ℤ last
  pub small : IsSmall least
  pub some : cql ≢ []

-- `sketch MIN MAX LEMMA`
pub record IsSketch (least most : ℕ) (lemma line : List ℕ) : Type 0 where
  pub words : line ≡ spaced (codes "sketch" ∷ decimal least ∷ decimal most ∷ lemma ∷ [])
  pub low : IsSmall least
  pub high : IsSmall most
  pub some : lemma ≢ []

-- `thes MAX LEMMA`
pub record IsThes (most : ℕ) (lemma line : List ℕ) : Type 0 where
  pub words : line ≡ spaced (codes "thes" ∷ decimal most ∷ lemma ∷ [])
  pub small : IsSmall most
  pub some : lemma ≢ []

-- the words of a line ask this
abbrev pub HasAskForm : Ask → List ℕ → Type 0
HasAskForm (Count cql) line = IsCount cql line
HasAskForm (Query cql) line = IsQuery cql line
HasAskForm (Freq attr offset cql) line = IsFreq attr offset cql line
HasAskForm (Colloc attr first last least cql) line = IsColloc attr first last least cql line
HasAskForm (Sketch least most lemma) line = IsSketch least most lemma line
HasAskForm (Thes most lemma) line = IsThes most lemma line

-- ## Commands: a line is this command, or its head, exactly where its words are so.

-- `registry FILE`
pub record IsRegistry (file line : List ℕ) : Type 0 where
  pub words : line ≡ spaced (codes "registry" ∷ file ∷ [])
  pub named : IsName file

-- `text NAME N`
pub record IsText (name : List ℕ) (number : ℕ) (line : List ℕ) : Type 0 where
  pub words : line ≡ spaced (codes "text" ∷ name ∷ decimal number ∷ [])
  pub named : IsName name
  pub small : IsSmall number

-- `add NAME FILE`
pub record IsAdd (name file line : List ℕ) : Type 0 where
  pub words : line ≡ spaced (codes "add" ∷ name ∷ file ∷ [])
  pub named : IsName name
  pub filed : IsName file

-- `generate NAME SEED TOKENS`
pub record IsGenerate (name : List ℕ) (seed tokens : ℕ) (line : List ℕ) : Type 0 where
  pub words : line ≡ spaced (codes "generate" ∷ name ∷ decimal seed ∷ decimal tokens ∷ [])
  pub named : IsName name
  pub seeded : seed < 2 ^ 64
  pub few : tokens ≤ 1048576

-- `grammar FILE`
pub record IsGrammar (file line : List ℕ) : Type 0 where
  pub words : line ≡ spaced (codes "grammar" ∷ file ∷ [])
  pub named : IsName file

-- `rules N`
pub record IsRules (number : ℕ) (line : List ℕ) : Type 0 where
  pub words : line ≡ spaced (codes "rules" ∷ decimal number ∷ [])
  pub small : IsSmall number

-- `merge I J`
pub record IsMerge (first last : ℕ) (line : List ℕ) : Type 0 where
  pub words : line ≡ spaced (codes "merge" ∷ decimal first ∷ decimal last ∷ [])
  pub low : IsSmall first
  pub high : IsSmall last

-- `batch N`
pub record IsBatch (number : ℕ) (line : List ℕ) : Type 0 where
  pub words : line ≡ spaced (codes "batch" ∷ decimal number ∷ [])
  pub few : IsWithin 1 32 number

-- `batch N merge I J`
pub record IsMergingBatch (number first last : ℕ) (line : List ℕ) : Type 0 where
  pub words : line ≡ spaced (codes "batch" ∷ decimal number ∷ codes "merge" ∷ decimal first ∷ decimal last ∷ [])
  pub few : IsWithin 1 32 number
  pub low : IsSmall first
  pub high : IsSmall last

-- `save NAME`
pub record IsSave (name line : List ℕ) : Type 0 where
  pub words : line ≡ spaced (codes "save" ∷ name ∷ [])
  pub named : IsSavedName name

-- `open NAME`
pub record IsLoad (name line : List ℕ) : Type 0 where
  pub words : line ≡ spaced (codes "open" ∷ name ∷ [])
  pub named : IsSavedName name

-- `remove NAME`
pub record IsRemove (name line : List ℕ) : Type 0 where
  pub words : line ≡ spaced (codes "remove" ∷ name ∷ [])
  pub named : IsName name

-- `subcorpus NAME CQL`
pub record IsSubcorpus (name cql line : List ℕ) : Type 0 where
  pub words : line ≡ spaced (codes "subcorpus" ∷ name ∷ cql ∷ [])
  pub named : IsName name
  pub some : cql ≢ []

-- `subcount NAME CQL`
pub record IsSubcount (name cql line : List ℕ) : Type 0 where
  pub words : line ≡ spaced (codes "subcount" ∷ name ∷ cql ∷ [])
  pub named : IsName name
  pub some : cql ≢ []

-- `keywords NAME ATTR N MAX`
pub record IsKeywords (name attr : List ℕ) (rarity most : ℕ) (line : List ℕ) : Type 0 where
  pub words : line ≡ spaced (codes "keywords" ∷ name ∷ attr ∷ decimal rarity ∷ decimal most ∷ [])
  pub named : IsName name
  pub attributed : IsIdentifier attr
  pub weighed : IsWithin 1 1000000 rarity
  pub small : IsSmall most

-- `partner NAME STRUCT`: the name stands in queries too, so it is an identifier besides
pub record IsPartner (name kind line : List ℕ) : Type 0 where
  pub words : line ≡ spaced (codes "partner" ∷ name ∷ kind ∷ [])
  pub named : IsSavedName name
  pub called : IsIdentifier name
  pub kinded : IsIdentifier kind

-- a command that has no body
abbrev pub HasLoneForm : Command → List ℕ → Type 0
HasLoneForm (Registry file) line = IsRegistry file line
HasLoneForm (Text name body) line = ⊥
HasLoneForm (Add name file) line = IsAdd name file line
HasLoneForm (Generate name seed tokens) line = IsGenerate name seed tokens line
HasLoneForm (Asks ask) line = HasAskForm ask line
HasLoneForm (Grammar file) line = IsGrammar file line
HasLoneForm (Rules body) line = ⊥
HasLoneForm (Merge first last) line = IsMerge first last line
HasLoneForm (Batch asked merge) line = ⊥
HasLoneForm Segments line = line ≡ codes "segments"
HasLoneForm (Save name) line = IsSave name line
HasLoneForm (Load name) line = IsLoad name line
HasLoneForm Quit line = line ≡ codes "quit"
HasLoneForm (Remove name) line = IsRemove name line
HasLoneForm (Subcorpus name cql) line = IsSubcorpus name cql line
HasLoneForm (Subcount name cql) line = IsSubcount name cql line
HasLoneForm (Keywords name attr rarity most) line = IsKeywords name attr rarity most line
HasLoneForm (Partner name kind) line = IsPartner name kind line

-- the words of a line are so
abbrev pub HasForm : Header → List ℕ → Type 0
HasForm (Lone command) line = HasLoneForm command line
HasForm (TextHead name number) line = IsText name number line
HasForm (RulesHead number) line = IsRules number line
HasForm (BatchHead number None) line = IsBatch number line
HasForm (BatchHead number (Some range)) line = IsMergingBatch number range.0 range.1 line

-- ## Lines

-- the most bytes of a command line, without its line feed and the carriage return before it
abbrev pub line_bytes_limit : ℕ
line_bytes_limit = 65536

-- a command line has one of the forms, is text and is not too long
pub record IsHeader (line : List ℕ) (header : Header) : Type 0 where
  pub short : length line ≤ line_bytes_limit
  pub text : IsUtf8 line
  pub form : HasForm header line

-- an empty line and a comment stand for nothing, whatever their bytes and their length
abbrev pub IsSkipped : List ℕ → Type 0
IsSkipped [] = Unit {0}
IsSkipped (b ∷ bytes) = b ≡ 35

-- ## Bodies

-- a line of a body asks this; it may be of any length
pub record IsAsked (line : List ℕ) (ask : Ask) : Type 0 where
  pub text : IsUtf8 line
  pub form : HasAskForm ask line

-- what a line of a batch is: an empty line and a comment are no question
abbrev pub IsBatchLine : List ℕ → BatchLine → Type 0
IsBatchLine line (Good ask) = IsAsked line ask
IsBatchLine line BadLine = (ask : Ask) → IsAsked line ask → ⊥

-- a batch is its body's lines, each read by itself
pub record IsBatchOf (body : List ℕ) (merge : Option (ℕ × ℕ)) (command : Command) : Type 0 where
  pub asked : List BatchLine
  pub each : AllZip IsBatchLine (lines body) asked
  pub is : command ≡ Batch asked merge

-- the command of a header and its body
abbrev pub WithBody : Header → List ℕ → Command → Type 0
WithBody (Lone alone) body command = command ≡ alone
WithBody (TextHead name number) body command = command ≡ Text name body
WithBody (RulesHead number) body command = command ≡ Rules body
WithBody (BatchHead number merge) body command = IsBatchOf body merge command
