-- How a registry is read from the lines of its file.
use Rattle.std.specs.Prelude.{ℕ, ◌≡◌, ◌≢◌, ◌+◌, ◌-◌, ◌<◌, ◌≤◌, ◌⊎◌, ◌==◌, ◌&&◌, ◌||◌, not, Bool, true, false, nat_eq, nat_lt, nat_le, if◌then◌else◌, List, [], ◌∷◌, ◌++◌, length, map, take, drop, codes, slice_get, slice_index, slice_range, IsUtf8, Option, None, Some}
use Rattle.std.specs.List.{filter, filter_map, find, list_any, count_by, prefix_len, suffix_len, position_or_len, Contains}
use Rattle.std.specs.Cmp.Lexicographic.{pointwise}
use Rattle.std.specs.Str.Lines.{lines}
use Rattle.mt_text_spec.specs.Words.{is_identifier_byte, IsIdentifier}
use Rattle.mt_text_spec.specs.Registries.{Attr, Kind, Registry, base_count}

-- ## The form of a line

-- a space or a tab
abbrev pub is_blank : ℕ → Bool
is_blank b = b == 32 || b == 9

-- the bytes without the blanks at their end, and without those at both ends
abbrev pub trimmed_end : List ℕ → List ℕ
trimmed_end bytes = take (length bytes - suffix_len is_blank bytes) bytes

-- the bytes without the blanks at both ends
abbrev pub trimmed : List ℕ → List ℕ
trimmed bytes = trimmed_end (drop (prefix_len is_blank bytes) bytes)

-- What a line is by itself: one that is skipped, a closing brace, a key and its value, behind which a brace may open a block, or none of these.
pub data Form : Type 0 where
  Skipped : Form
  Closing : Form
  Entry : (key value : List ℕ) (opens : Bool) → Form
  Formless : Form

-- a text in quotes: two at least, one at either end
abbrev pub is_quoted : List ℕ → Bool
is_quoted text = nat_le 2 (length text) && (slice_index text 0 == 34 && slice_index text (length text - 1) == 34)

-- what a written value stands for: one pair of quotes round it is dropped
abbrev pub unquoted : List ℕ → List ℕ
unquoted text = if is_quoted text then slice_range text 1 (length text - 1) else text

-- an opening brace stands last, behind a blank
abbrev pub opens_block : List ℕ → Bool
opens_block rest = nat_le 2 (length rest) && (slice_index rest (length rest - 1) == 123 && is_blank (slice_index rest (length rest - 2)))

-- a key and the written value, which is not empty
abbrev pub valued : List ℕ → List ℕ → Bool → Form
valued key text opens = if length text == 0 then Formless else Entry key (unquoted text) opens

-- a key and what follows it
abbrev pub entry : List ℕ → List ℕ → Form
entry key rest = if opens_block rest then valued key (trimmed (take (length rest - 1) rest)) true else valued key (trimmed rest) false

-- how many letters, digits and `_` the bytes begin with
abbrev pub key_len : List ℕ → ℕ
key_len bytes = prefix_len is_identifier_byte bytes

-- a key is one or more such bytes, and a blank follows it
abbrev pub keyed : List ℕ → Form
keyed bare = if nat_lt 0 (key_len bare) && (nat_lt (key_len bare) (length bare) && is_blank (slice_index bare (key_len bare))) then entry (take (key_len bare) bare) (drop (key_len bare) bare) else Formless

-- a line without the blanks at both ends: what is empty or begins with `#` is skipped
abbrev pub bare_form : List ℕ → Form
bare_form bare =
    if length bare == 0 || slice_index bare 0 == 35 then Skipped
    else if pointwise nat_eq bare (125 ∷ []) then Closing
    else keyed bare

-- the form of a line of the file
unfoldable pub form_of : List ℕ → Form
form_of line = bare_form (trimmed line)

-- ## Keywords and blocks

-- the keywords that count
pub data Keyword : Type 0 where
  Attribute : Keyword
  Structure : Keyword
  Dynamic : Keyword
  FromAttr : Keyword
  WsAttr : Keyword

-- the keyword that a key is, if it is one
unfoldable pub keyword_of : List ℕ → Option Keyword
keyword_of key =
    if pointwise nat_eq key (codes "ATTRIBUTE") then Some Attribute
    else if pointwise nat_eq key (codes "STRUCTURE") then Some Structure
    else if pointwise nat_eq key (codes "DYNAMIC") then Some Dynamic
    else if pointwise nat_eq key (codes "FROMATTR") then Some FromAttr
    else if pointwise nat_eq key (codes "WSATTR") then Some WsAttr
    else None

-- whether two keywords are one
abbrev pub same_keyword : Keyword → Keyword → Bool
same_keyword Attribute Attribute = true
same_keyword Structure Structure = true
same_keyword Dynamic Dynamic = true
same_keyword FromAttr FromAttr = true
same_keyword WsAttr WsAttr = true
same_keyword one other = false

-- An open block: one that is ignored, that of the ATTRIBUTE at the top in the line of this number, that of the STRUCTURE in the line of this number, or another
-- whose keyword stands in its place.
pub data Block : Type 0 where
  Ignored : Block
  OfAttribute : (line : ℕ) → Block
  OfStructure : (line : ℕ) → Block
  Other : Block

-- A keyword in its place: the place is 0 at the top, and else the number of the line that opened the block; and the block that it opens where a brace follows.
pub record Effect : Type 0 where
  pub keyword : Keyword
  pub place : ℕ
  pub block : Block

-- the effect of a keyword in the line of this number, in this block or at the top; a keyword out of its place has none
abbrev pub effect_in : ℕ → Option Block → Keyword → Option Effect
effect_in number None Attribute = Some (record { keyword = Attribute; place = 0; block = OfAttribute number })
effect_in number None Structure = Some (record { keyword = Structure; place = 0; block = OfStructure number })
effect_in number None WsAttr = Some (record { keyword = WsAttr; place = 0; block = Other })
effect_in number (Some (OfAttribute line)) Dynamic = Some (record { keyword = Dynamic; place = line; block = Other })
effect_in number (Some (OfAttribute line)) FromAttr = Some (record { keyword = FromAttr; place = line; block = Other })
effect_in number (Some (OfStructure line)) Attribute = Some (record { keyword = Attribute; place = line; block = Other })
effect_in number block keyword = None

-- the innermost of the open blocks, which stands last
abbrev pub innermost : List Block → Option Block
innermost open_blocks = slice_get open_blocks (length open_blocks - 1)

-- whether a line stands in a block, and in one that is not ignored
abbrev pub is_heeded : Option Block → Bool
is_heeded None = false
is_heeded (Some Ignored) = false
is_heeded (Some (OfAttribute line)) = true
is_heeded (Some (OfStructure line)) = true
is_heeded (Some Other) = true

-- the effect of a keyword in a block, if there is one
abbrev pub effect_if : ℕ → Option Block → Option Keyword → Option Effect
effect_if number block None = None
effect_if number block (Some keyword) = effect_in number block keyword

-- the effect of a line with this key in these blocks, if it has one
unfoldable pub effect_of : ℕ → List Block → List ℕ → Option Effect
effect_of number open_blocks key = effect_if number (innermost open_blocks) (keyword_of key)

-- the block that a key opens is ignored where the key has no effect
abbrev pub block_of : Option Effect → Block
block_of None = Ignored
block_of (Some effect) = effect.block

-- The blocks that are open behind a line. A brace that closes nothing changes nothing.
abbrev pub behind : ℕ → List Block → Form → List Block
behind number open_blocks Skipped = open_blocks
behind number open_blocks Formless = open_blocks
behind number open_blocks Closing = take (length open_blocks - 1) open_blocks
behind number open_blocks (Entry key value false) = open_blocks
behind number open_blocks (Entry key value true) = open_blocks ++ block_of (effect_of number open_blocks key) ∷ []

-- ## The lines of a file

-- a line in its place: its number, from 1, its bytes, and the blocks that are open before it
pub record Line : Type 0 where
  pub number : ℕ
  pub text : List ℕ
  pub blocks : List Block

-- lines in their places, the first of which has this number and stands in these blocks
abbrev pub lines_from : ℕ → List Block → List (List ℕ) → List Line
lines_from number open_blocks [] = []
lines_from number open_blocks (text ∷ texts) =
    record { number = number; text = text; blocks = open_blocks } ∷ lines_from (number + 1) (behind number open_blocks (form_of text)) texts

-- the blocks that are open behind all of these lines
abbrev pub behind_all : ℕ → List Block → List (List ℕ) → List Block
behind_all number open_blocks [] = open_blocks
behind_all number open_blocks (text ∷ texts) = behind_all (number + 1) (behind number open_blocks (form_of text)) texts

-- What a line states: a keyword in its place, and a value.
pub record Statement : Type 0 where
  pub line : ℕ
  pub keyword : Keyword
  pub place : ℕ
  pub value : List ℕ

-- the statement of a line of this number with this value, where its keyword has an effect
abbrev pub stated : ℕ → List ℕ → Option Effect → Option Statement
stated number value None = None
stated number value (Some effect) = Some (record { line = number; keyword = effect.keyword; place = effect.place; value = value })

-- what a line of this number and form states in these blocks, the innermost first
abbrev pub statement_in : ℕ → List Block → Form → Option Statement
statement_in number open_blocks Skipped = None
statement_in number open_blocks Closing = None
statement_in number open_blocks Formless = None
statement_in number open_blocks (Entry key value opens) = stated number value (effect_of number open_blocks key)

-- what a line states, if anything
abbrev pub statement_of : Line → Option Statement
statement_of line = statement_in line.number line.blocks (form_of line.text)

-- what the lines state, in order
abbrev pub statements_of : List Line → List Statement
statements_of all = filter_map statement_of all

-- A file: its lines in their places, and the number of its last line where a block is still open behind it, else 0.
pub record File : Type 0 where
  pub lines : List Line
  pub unclosed : ℕ

-- the number of the last line where a block is open behind it, else 0
abbrev pub unclosed_at : List Block → ℕ → ℕ
unclosed_at [] last = 0
unclosed_at (block ∷ blocks) last = last

-- the file of these bytes
abbrev pub file_of : List ℕ → File
file_of bytes = record { lines = lines_from 1 [] (lines bytes); unclosed = unclosed_at (behind_all 1 [] (lines bytes)) (length (lines bytes)) }

-- ## What statements say

-- whether a statement gives this keyword in this place
abbrev pub gives : Keyword → ℕ → Statement → Bool
gives keyword place statement = same_keyword keyword statement.keyword && statement.place == place

-- whether a keyword declares a name
abbrev pub is_declaring : Keyword → Bool
is_declaring Attribute = true
is_declaring Structure = true
is_declaring Dynamic = false
is_declaring FromAttr = false
is_declaring WsAttr = false

-- whether a statement is the declaration of an attribute of this name
abbrev pub declares : List ℕ → Statement → Bool
declares name statement = gives Attribute 0 statement && pointwise nat_eq statement.value name

-- Whether a statement is given again: a name declared again in one place, or a keyword that declares none in one place, whatever its value.
abbrev pub repeats : Statement → Statement → Bool
repeats statement earlier = gives statement.keyword statement.place earlier && (not (is_declaring statement.keyword) || pointwise nat_eq earlier.value statement.value)

-- The attribute of this name is declared by this statement. Later declarations of the name declare nothing, nor does one in the line of the number `unclosed`,
-- the file's last where that leaves a block open.
pub record IsDeclared (statements : List Statement) (unclosed : ℕ) (name : List ℕ) (statement : Statement) : Type 0 where
  pub named : IsIdentifier name
  pub first : find (declares name) statements ≡ Some statement
  pub closed : statement.line ≢ unclosed

-- A base attribute has no DYNAMIC in its block.
pub record IsBaseName (statements : List Statement) (unclosed : ℕ) (name : List ℕ) : Type 0 where
  pub statement : Statement
  pub declared : IsDeclared statements unclosed name statement
  pub plain : list_any (gives Dynamic statement.line) statements ≡ false

-- ## Causes

-- why a line of a registry is bad, in the order in which causes are told
pub data RegistryCause : Type 0 where
  Syntax : RegistryCause
  Twice : RegistryCause
  TooMany : RegistryCause
  UnknownMapper : RegistryCause
  UnknownBase : RegistryCause

-- the word for a cause
abbrev pub registry_cause : RegistryCause → List ℕ
registry_cause Syntax = codes "Syntax"
registry_cause Twice = codes "Twice"
registry_cause TooMany = codes "TooMany"
registry_cause UnknownMapper = codes "UnknownMapper"
registry_cause UnknownBase = codes "UnknownBase"

-- the order in which causes of one line are answered
abbrev pub rank : RegistryCause → ℕ
rank Syntax = 0
rank Twice = 1
rank TooMany = 2
rank UnknownMapper = 3
rank UnknownBase = 4

-- Why a line is refused by its form and the blocks that are open before it. A structure is declared at the top alone, or where it is ignored.
pub data IsRefused (line : Line) : Type 0 where
  NoForm : form_of line.text ≡ Formless → IsRefused line
  NotUtf8 : form_of line.text ≢ Skipped → (IsUtf8 line.text → ⊥) → IsRefused line
  NoName : (statement : Statement) → statement_of line ≡ Some statement → is_declaring statement.keyword ≡ true → (IsIdentifier statement.value → ⊥) → IsRefused line
  Stray : (key value : List ℕ) (opens : Bool) → form_of line.text ≡ Entry key value opens → keyword_of key ≡ Some Structure → is_heeded (innermost line.blocks) ≡ true → IsRefused line
  Unopened : form_of line.text ≡ Closing → line.blocks ≡ [] → IsRefused line
  TooDeep : (key value : List ℕ) → form_of line.text ≡ Entry key value true → 2 ≤ length line.blocks → IsRefused line

-- why the names that a statement uses are refused
pub data IsBaseless (statements : List Statement) (unclosed : ℕ) (statement : Statement) : Type 0 where
  NoBase : statement.keyword ≡ FromAttr → list_any (gives Dynamic statement.place) statements ≡ true → (IsBaseName statements unclosed statement.value → ⊥) →
      IsBaseless statements unclosed statement
  NoFromAttr : statement.keyword ≡ Dynamic → list_any (gives FromAttr statement.place) statements ≡ false → IsBaseless statements unclosed statement
  NoSuchName : statement.keyword ≡ WsAttr → ((declared : Statement) → IsDeclared statements unclosed statement.value declared → ⊥) → IsBaseless statements unclosed statement

-- a cause that a statement has, among the earlier statements and all of them; the mappers at hand have these names
abbrev pub IsCause : List (List ℕ) → List Statement → ℕ → List Statement → Statement → RegistryCause → Type 0
IsCause mappers statements unclosed earlier statement Syntax = ⊥
IsCause mappers statements unclosed earlier statement Twice = list_any (repeats statement) earlier ≡ true
IsCause mappers statements unclosed earlier statement TooMany = (is_declaring statement.keyword ≡ true) × (16 ≤ count_by (gives statement.keyword statement.place) earlier)
IsCause mappers statements unclosed earlier statement UnknownMapper = (statement.keyword ≡ Dynamic) × ((1024 < length statement.value) ⊎ (Contains mappers statement.value → ⊥))
IsCause mappers statements unclosed earlier statement UnknownBase = IsBaseless statements unclosed statement

-- the line of a file behind these
pub record LineAt (file : File) (earlier : List Line) (line : Line) : Type 0 where
  pub later : List Line
  pub are : file.lines ≡ earlier ++ line ∷ later

-- a line has this cause: by itself, as the last line that leaves a block open, or by what it states
pub data HasCause (mappers : List (List ℕ)) (file : File) (number : ℕ) (cause : RegistryCause) : Type 0 where
  Refused : (earlier : List Line) (line : Line) → LineAt file earlier line → line.number ≡ number → cause ≡ Syntax → IsRefused line → HasCause mappers file number cause
  Unclosed : 0 < number → file.unclosed ≡ number → cause ≡ Syntax → HasCause mappers file number cause
  Misstated : (earlier : List Line) (line : Line) (statement : Statement) → LineAt file earlier line → line.number ≡ number → statement_of line ≡ Some statement →
      IsCause mappers (statements_of file.lines) file.unclosed (statements_of earlier) statement cause → HasCause mappers file number cause

-- no line of the file has a cause
abbrev pub IsFaultless : List (List ℕ) → File → Type 0
IsFaultless mappers file = (number : ℕ) (cause : RegistryCause) → HasCause mappers file number cause → ⊥

-- The line of this number is the first that has a cause, and this is the first of its causes.
pub record FirstRegistryFault (mappers : List (List ℕ)) (bytes : List ℕ) (line : ℕ) (cause : RegistryCause) : Type 0 where
  pub here : HasCause mappers (file_of bytes) line cause
  pub first_cause : (other : RegistryCause) → HasCause mappers (file_of bytes) line other → rank cause ≤ rank other
  pub first_line : (number : ℕ) (other : RegistryCause) → HasCause mappers (file_of bytes) number other → line ≤ number

-- ## What is read

-- the statements that declare attributes, and those that declare structures
abbrev pub attributes_of : List Statement → List Statement
attributes_of statements = filter (gives Attribute 0) statements

-- the statements that declare structures
abbrev pub structures_of : List Statement → List Statement
structures_of statements = filter (gives Structure 0) statements

-- the number of the attribute of this name
abbrev pub number_of : List ℕ → List Statement → ℕ
number_of name statements = position_or_len (λ statement. pointwise nat_eq statement.value name) (attributes_of statements)

-- the attribute of this name, which has a mapper and a base where there are a DYNAMIC and a FROMATTR
abbrev pub attr_with : List Statement → List ℕ → Option Statement → Option Statement → Attr
attr_with statements name None base = record { name = name; base = None; mapper = [] }
attr_with statements name (Some mapper) None = record { name = name; base = None; mapper = mapper.value }
attr_with statements name (Some mapper) (Some base) = record { name = name; base = Some (number_of base.value statements); mapper = mapper.value }

-- the attribute that a statement declares
abbrev pub attr_of : List Statement → Statement → Attr
attr_of statements statement = attr_with statements statement.value (find (gives Dynamic statement.line) statements) (find (gives FromAttr statement.line) statements)

-- the structure that a statement declares
abbrev pub kind_of : List Statement → Statement → Kind
kind_of statements statement = record { name = statement.value; attrs = map (λ attribute. attribute.value) (filter (gives Attribute statement.line) statements) }

-- without WSATTR sketches count `lempos` where it is declared, else `lemma` where it is declared, else the first attribute
abbrev pub ws_attr_with : List Statement → Option Statement → ℕ
ws_attr_with statements (Some statement) = number_of statement.value statements
ws_attr_with statements None =
    if list_any (declares (codes "lempos")) statements then number_of (codes "lempos") statements
    else if list_any (declares (codes "lemma")) statements then number_of (codes "lemma") statements
    else 0

-- the registry that statements declare, in their order
abbrev pub registry_of : List Statement → Registry
registry_of statements = record {
  attrs = map (attr_of statements) (attributes_of statements);
  kinds = map (kind_of statements) (structures_of statements);
  ws_attr = ws_attr_with statements (find (gives WsAttr 0) statements);
}

-- The file is read as this registry: no line has a cause, and a base attribute is declared.
pub record ReadsRegistry (mappers : List (List ℕ)) (bytes : List ℕ) (registry : Registry) : Type 0 where
  pub faultless : IsFaultless mappers (file_of bytes)
  pub some : 0 < base_count registry.attrs
  pub are : registry ≡ registry_of (statements_of (file_of bytes).lines)

-- no line has a cause, and no base attribute is declared
pub record LacksBase (mappers : List (List ℕ)) (bytes : List ℕ) : Type 0 where
  pub faultless : IsFaultless mappers (file_of bytes)
  pub none : base_count (registry_of (statements_of (file_of bytes).lines)).attrs ≡ 0
