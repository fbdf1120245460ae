-- What the functions that read tags compute. How a tag is spelled stands apart from it.
use Rattle.std.specs.Prelude.{ℕ, ◌≡◌, ◌+◌, ◌==◌, ◌&&◌, Bool, true, false, nat_lt, nat_le, if◌then◌else◌, List, [], ◌∷◌, take, drop, length, Option, None, Some}
use Rattle.std.specs.List.{prefix_len, list_all}
use Rattle.mt_text_spec.specs.Words.{is_identifier_start, is_identifier_byte}
use Rattle.mt_file_spec.specs.Tags.{is_space, is_quote, is_tag_name_byte, differs, TagAttr}

infixl 10 ◌>>=◌
abbrev pub ◌>>=◌ : {A B : Type 0} → Option A → (A → Option B) → Option B
None >>= f = None
(Some x) >>= f = f x

-- what stands behind the bytes in front that pass
abbrev pub past : (ℕ → Bool) → List ℕ → List ℕ
past p bytes = drop (prefix_len p bytes) bytes

-- whether the first byte passes
abbrev pub starts : (ℕ → Bool) → List ℕ → Bool
starts p [] = false
starts p (b ∷ bytes) = p b

-- what stands behind this byte
unfoldable pub behind : ℕ → List ℕ → Option (List ℕ)
behind byte [] = None
behind byte (b ∷ bytes) = if b == byte then Some bytes else None

-- an identifier, and what follows it
unfoldable pub identifier_at : List ℕ → Option (List ℕ × List ℕ)
identifier_at bytes = let n = prefix_len is_identifier_byte bytes in
    if starts is_identifier_start bytes && nat_le n 64 then Some (take n bytes, drop n bytes) else None

-- a tag's name, and what follows it
unfoldable pub tag_name_at : List ℕ → Option (List ℕ × List ℕ)
tag_name_at bytes = let n = prefix_len is_tag_name_byte bytes in
    if starts is_identifier_start bytes then Some (take n bytes, drop n bytes) else None

-- what stands behind `=` and the spaces round it
unfoldable pub equals_at : List ℕ → Option (List ℕ)
equals_at bytes = behind 61 (past is_space bytes) >>= (λ rest. Some (past is_space rest))

-- what stands before the next quote, and what follows it
unfoldable pub quote_at : ℕ → List ℕ → Option (List ℕ × List ℕ)
quote_at quote bytes = let n = prefix_len (differs quote) bytes in
    if nat_lt n (length bytes) then Some (take n bytes, drop (n + 1) bytes) else None

-- a value between quotes, and what follows it
unfoldable pub quoted_at : List ℕ → Option (List ℕ × List ℕ)
quoted_at [] = None
quoted_at (b ∷ bytes) = if is_quote b then quote_at b bytes else None

-- an attribute, and what follows it
unfoldable pub attr_at : List ℕ → Option (TagAttr × List ℕ)
attr_at bytes = if starts is_space bytes
    then identifier_at (past is_space bytes) >>= (λ name. equals_at name.1 >>= (λ rest. quoted_at rest >>= (λ value.
    Some (record { name = name.0; value = value.0 }, value.1))))
    else None

-- the bytes begin with these attributes, and behind them stands none
abbrev pub ReadsAttrs : List ℕ → List TagAttr → List ℕ → Type 0
ReadsAttrs bytes [] rest = (attr_at bytes ≡ None) × (bytes ≡ rest)
ReadsAttrs bytes (attr ∷ attrs) rest = (more : List ℕ) × (attr_at bytes ≡ Some (attr, more)) × ReadsAttrs more attrs rest

-- whether `>` ends a tag here, with spaces before and behind it
unfoldable pub ends : List ℕ → Bool
ends [] = false
ends (b ∷ bytes) = b == 62 && list_all is_space bytes

-- how a tag ends here: whether it is an empty one
unfoldable pub tail_at : List ℕ → Option Bool
tail_at bytes = let rest = past is_space bytes in
    if ends rest then Some false else behind 47 rest >>= (λ rest. if ends rest then Some true else None)
