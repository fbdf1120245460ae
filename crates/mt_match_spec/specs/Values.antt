-- The value of an attribute at a place of a text.
use Rattle.std.specs.Prelude.{ℕ, List, [], slice_index_or, Option, None, Some}
use Rattle.mt_text_spec.specs.Registries.{Registry, Attr, base_attr, column_of}
use Rattle.mt_text_spec.specs.Texts.{Text, Token, value_of}

-- what each mapper makes of a value, by the mapper's name
abbrev pub Images : Type 0
Images = (mapper : List ℕ) → (value : List ℕ) → List ℕ

-- the attribute with this number
abbrev pub attr_at : Registry → ℕ → Attr
attr_at registry number = slice_index_or registry.attrs number (base_attr [])

-- the token at a place
abbrev pub token_at : Text → ℕ → Token
token_at text place = slice_index_or text.tokens place (record { values = [] })

-- of an attribute without base what the token itself has, of one with a base the image of what it has at the base
abbrev pub value_by : (image : List ℕ → List ℕ) (own : ℕ → List ℕ) (number : ℕ) (base : Option ℕ) → List ℕ
value_by image own number None = own number
value_by image own number (Some base) = image (own base)

-- The value at a place, of any attribute: a base attribute has it in the text, a mapped one has the image of its base's value.
abbrev pub value_at : Images → Registry → Text → (number place : ℕ) → List ℕ
value_at images registry text number place =
    value_by (images (attr_at registry number).mapper) (λ base. value_of (token_at text place) (column_of registry.attrs base)) number (attr_at registry number).base
