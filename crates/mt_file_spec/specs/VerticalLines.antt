-- What each line of a vertical is, by its bytes alone and the structures that are declared.
use Rattle.std.specs.Prelude.{ℕ, zero, suc, ◌≡◌, ◌⊎◌, ◌==◌, List, [], ◌∷◌, ◌++◌, map, slice_get, codes, Some}
use Rattle.std.specs.List.{Contains, slice_split}
use Rattle.mt_text_spec.specs.Registries.{Registry, Kind, base_count, kind_names}
use Rattle.mt_text_spec.specs.Texts.{Token}
use Rattle.mt_file_spec.specs.Tags.{AreSpaces, Tag, TagAttr, OpeningTag, EmptyTag, ClosingTag, IsTag, missing, tag_value}

-- a comment or a processing instruction: the line begins with `<!--` or `<?` and ends with `>`
abbrev pub Encloses : List ℕ → List ℕ → Type 0
Encloses start line = (inner : List ℕ) × (line ≡ start ++ inner ++ codes ">")

-- a line that stands for nothing, whatever is declared
abbrev pub IsSkipped : List ℕ → Type 0
IsSkipped line = AreSpaces line ⊎ (Encloses (codes "<?") line ⊎ Encloses (codes "<!--") line)

-- What a line does in its text: nothing; it begins an instance of the kind with this number, is a whole empty one, or ends one; or it is a token.
pub data Role : Type 0 where
  Passes : Role
  Opens : (kind : ℕ) (values : List (List ℕ)) → Role
  Stands : (kind : ℕ) (values : List (List ℕ)) → Role
  Closes : (kind : ℕ) → Role
  Gives : (token : Token) → Role

-- the line is a tag of a structure that is not declared
pub record IsForeign (registry : Registry) (line : List ℕ) (tag : Tag) (name : List ℕ) : Type 0 where
  pub spelled : IsTag line tag
  pub foreign : ¬ Contains (kind_names registry.kinds) name

-- the name of a tag
abbrev pub tag_name : Tag → List ℕ
tag_name (OpeningTag name attrs) = name
tag_name (EmptyTag name attrs) = name
tag_name (ClosingTag name) = name

-- the line is a tag with these values of the kind with this number; what is not declared, and what comes again, is not looked at
pub record IsDeclared (registry : Registry) (line : List ℕ) (tag : List ℕ → List TagAttr → Tag) (number : ℕ) (values : List (List ℕ)) : Type 0 where
  pub kind : Kind
  pub declared : slice_get registry.kinds number ≡ Some kind
  pub attrs : List TagAttr
  pub spelled : IsTag line (tag kind.name attrs)
  pub are : values ≡ map (tag_value attrs) kind.attrs

-- the line ends instances of the kind with this number
pub record IsDeclaredEnd (registry : Registry) (line : List ℕ) (number : ℕ) : Type 0 where
  pub kind : Kind
  pub declared : slice_get registry.kinds number ≡ Some kind
  pub spelled : IsTag line (ClosingTag kind.name)

-- the columns of a line, between tabs
abbrev pub columns : List ℕ → List (List ℕ)
columns line = slice_split (λ b. b == 9) line

-- the first columns, so many; those that are not there have a value too
abbrev pub first_columns : ℕ → List (List ℕ) → List (List ℕ)
first_columns zero cs = []
first_columns (suc n) [] = missing ∷ first_columns n []
first_columns (suc n) (c ∷ cs) = c ∷ first_columns n cs

-- a token is every line that is not skipped and is no tag
pub record IsTokenLine (registry : Registry) (line : List ℕ) (token : Token) : Type 0 where
  pub stays : ¬ IsSkipped line
  pub untagged : (tag : Tag) → ¬ IsTag line tag
  pub are : token.values ≡ first_columns (base_count registry.attrs) (columns line)

-- what a line is: skipped or the tag of an undeclared structure, which do nothing; a tag that opens, stands alone or closes; or a token
abbrev pub Plays : Registry → List ℕ → Role → Type 0
Plays registry line Passes = IsSkipped line ⊎ ((tag : Tag) × IsForeign registry line tag (tag_name tag))
Plays registry line (Opens kind values) = IsDeclared registry line OpeningTag kind values
Plays registry line (Stands kind values) = IsDeclared registry line EmptyTag kind values
Plays registry line (Closes kind) = IsDeclaredEnd registry line kind
Plays registry line (Gives token) = IsTokenLine registry line token
