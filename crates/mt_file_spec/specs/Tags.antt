-- How tags are spelled in a vertical.
use Rattle.std.specs.Prelude.{ℕ, ◌≡◌, ◌<◌, ◌==◌, ◌||◌, Bool, true, false, if◌then◌else◌, List, [], ◌∷◌, ◌++◌, length, slice_index, codes}
use Rattle.std.specs.List.{AllPass}
use Rattle.std.specs.Char.{is_ascii_alphanumeric}
use Rattle.std.specs.Str.{bytes_eq}
use Rattle.mt_text_spec.specs.Words.{is_identifier_start, IsIdentifier}

-- spaces, one or more or none
abbrev pub is_space : ℕ → Bool
is_space b = b == 32

-- spaces, or nothing
abbrev pub AreSpaces : List ℕ → Type 0
AreSpaces bytes = AllPass is_space bytes

-- a letter, a digit, `_`, `-`, `.` or `:`
abbrev pub is_tag_name_byte : ℕ → Bool
is_tag_name_byte b = is_ascii_alphanumeric b || b == 95 || b == 45 || b == 46 || b == 58

-- a tag's name is such bytes, and begins with a letter or `_`
pub record IsTagName (name : List ℕ) : Type 0 where
  pub some : 0 < length name
  pub first : is_identifier_start (slice_index name 0) ≡ true
  pub each : AllPass is_tag_name_byte name

-- an attribute in a tag
pub record TagAttr : Type 0 where
  pub name : List ℕ
  pub value : List ℕ

-- `"` and `'`
abbrev pub is_quote : ℕ → Bool
is_quote b = b == 34 || b == 39

-- a byte that is not this one
abbrev pub differs : ℕ → ℕ → Bool
differs quote b = if b == quote then false else true

-- An attribute is spelled as one or more spaces, an identifier, `=` with or without spaces round it, and a value between two equal quotes, which it does not hold.
pub record SpellsAttr (spelling : List ℕ) (attr : TagAttr) : Type 0 where
  pub before : List ℕ
  pub left : List ℕ
  pub right : List ℕ
  pub quote : ℕ
  pub are : spelling ≡ before ++ attr.name ++ left ++ 61 ∷ right ++ quote ∷ attr.value ++ quote ∷ []
  pub apart : 0 < length before
  pub spaces : AreSpaces before
  pub named : IsIdentifier attr.name
  pub spaces_left : AreSpaces left
  pub spaces_right : AreSpaces right
  pub quoted : is_quote quote ≡ true
  pub inside : AllPass (differs quote) attr.value

-- the bytes spell these attributes, one after another
abbrev pub SpellsAttrs : List ℕ → List TagAttr → Type 0
SpellsAttrs bytes [] = bytes ≡ []
SpellsAttrs bytes (attr ∷ attrs) = (front : List ℕ) × (rest : List ℕ) × (bytes ≡ front ++ rest) × SpellsAttr front attr × SpellsAttrs rest attrs

-- A tag begins an instance of a structure, is a whole empty one, or ends one.
pub data Tag : Type 0 where
  OpeningTag : (name : List ℕ) (attrs : List TagAttr) → Tag
  EmptyTag : (name : List ℕ) (attrs : List TagAttr) → Tag
  ClosingTag : (name : List ℕ) → Tag

-- `<`, a name, attributes, spaces, and `>` or `/>`; spaces may follow
pub record SpellsBegin (last : List ℕ) (line name : List ℕ) (attrs : List TagAttr) : Type 0 where
  pub spelling : List ℕ
  pub inner : List ℕ
  pub behind : List ℕ
  pub are : line ≡ 60 ∷ name ++ spelling ++ inner ++ last ++ behind
  pub named : IsTagName name
  pub attributes : SpellsAttrs spelling attrs
  pub spaces : AreSpaces inner
  pub spaces_behind : AreSpaces behind

-- `</`, a name, spaces and `>`; spaces may follow
pub record SpellsEnd (line name : List ℕ) : Type 0 where
  pub inner : List ℕ
  pub behind : List ℕ
  pub are : line ≡ 60 ∷ 47 ∷ name ++ inner ++ 62 ∷ behind
  pub named : IsTagName name
  pub spaces : AreSpaces inner
  pub spaces_behind : AreSpaces behind

-- the line is this tag
abbrev pub Spells : List ℕ → Tag → Type 0
Spells line (OpeningTag name attrs) = SpellsBegin (codes ">") line name attrs
Spells line (EmptyTag name attrs) = SpellsBegin (codes "/>") line name attrs
Spells line (ClosingTag name) = SpellsEnd line name

-- a tag line spells a tag and has no tab
pub record IsTag (line : List ℕ) (tag : Tag) : Type 0 where
  pub spelled : Spells line tag
  pub untabbed : AllPass (differs 9) line

-- the value of what is not there
abbrev pub missing : List ℕ
missing = codes "===NONE==="

-- the value of the first attribute of this name
abbrev pub tag_value : List TagAttr → List ℕ → List ℕ
tag_value [] name = missing
tag_value (attr ∷ attrs) name = if bytes_eq attr.name name then attr.value else tag_value attrs name
