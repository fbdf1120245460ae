-- What a line of a grammar file is, by itself.
use Rattle.std.specs.Prelude.{ℕ, ◌==◌, not, nat_eq, Bool, if◌then◌else◌, List, [], ◌∷◌, take, drop, codes}
use Rattle.std.specs.List.{prefix_len}
use Rattle.std.specs.Cmp.Lexicographic.{pointwise}
use Rattle.mt_text_spec.specs.Queries.{RelationKind, Dual, Symmetric, Trinary, Unary}
use Rattle.mt_file_spec.specs.RegistryFile.{is_blank, trimmed}

-- What a directive says: the kind of the next heading, the default attribute or the structure that limits the queries that follow, by name; or it is none that is known.
pub data Directive : Type 0 where
  OfKind : (kind : RelationKind) → Directive
  DefaultAttr : (name : List ℕ) → Directive
  StructLimit : (name : List ℕ) → Directive
  Unknown : Directive

-- A line without the blanks at its ends: skipped, a directive, a heading with what stands behind its `=`, or the text of a query.
pub data Form : Type 0 where
  Skipped : Form
  Directs : (directive : Directive) → Form
  Heads : (heading : List ℕ) → Form
  Asks : (text : List ℕ) → Form

-- a byte that is no blank
abbrev is_no_blank : ℕ → Bool
is_no_blank b = not (is_blank b)

-- the word that the bytes begin with, up to a blank
abbrev pub word_of : List ℕ → List ℕ
word_of bytes = take (prefix_len is_no_blank bytes) bytes

-- what follows it, without the blanks at its ends
abbrev pub behind_word : List ℕ → List ℕ
behind_word bytes = trimmed (drop (prefix_len is_no_blank bytes) bytes)

-- a directive by its word and what follows, which the word of a kind ignores
abbrev pub directive_by : (word name : List ℕ) → Directive
directive_by word name =
    if pointwise nat_eq word (codes "DUAL") then OfKind Dual
    else if pointwise nat_eq word (codes "SYMMETRIC") then OfKind Symmetric
    else if pointwise nat_eq word (codes "TRINARY") then OfKind Trinary
    else if pointwise nat_eq word (codes "UNARY") then OfKind Unary
    else if pointwise nat_eq word (codes "DEFAULTATTR") then DefaultAttr name
    else if pointwise nat_eq word (codes "STRUCTLIMIT") then StructLimit name
    else Unknown

-- a line that begins with `#` is skipped, one with `*` is a directive, one with `=` a heading; every other one that is not empty is a query
abbrev pub bare_form : List ℕ → Form
bare_form [] = Skipped
bare_form (first ∷ rest) =
    if first == 35 then Skipped
    else if first == 42 then Directs (directive_by (word_of rest) (behind_word rest))
    else if first == 61 then Heads rest
    else Asks (first ∷ rest)

-- what a line is by itself
unfoldable pub form_of : List ℕ → Form
form_of line = bare_form (trimmed line)
