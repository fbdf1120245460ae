-- What the functions that read tags find.
use Rattle.std.specs.Prelude.{ℕ, ◌≡◌, Bool, true, false, List, ◌∷◌, Some}
use Rattle.mt_file_spec.specs.Tags.{TagAttr, Tag, OpeningTag, EmptyTag, ClosingTag, Spells, IsTag}
use Rattle.mt_vertical.specs.TagReading.{tag_name_at, tail_at, ReadsAttrs}
use Rattle.mt_vertical.specs.declared.tags.Form.{Form}
use Rattle.mt_vertical.specs.declared.tags.Form.TheVariants.{Opening, Empty, Closing}

-- behind `<`: a name, a region in which these attributes are, and an end
pub record ReadsBegin (bytes name region : List ℕ) (attrs : List TagAttr) (empty : Bool) : Type 0 where
  pub named : tag_name_at bytes ≡ Some (name, region)
  pub tail : List ℕ
  pub read : ReadsAttrs region attrs tail
  pub ended : tail_at tail ≡ Some empty

-- behind `</`: a name and an end
pub record ReadsEnd (bytes name : List ℕ) : Type 0 where
  pub tail : List ℕ
  pub named : tag_name_at bytes ≡ Some (name, tail)
  pub ended : tail_at tail ≡ Some false

-- the form of a tag that begins an instance
abbrev pub begin_form : Bool → Form
begin_form false = Opening
begin_form true = Empty

-- what a function finds behind `<`, and behind `</`
pub record IsBegin (bytes : List ℕ) (form : Form) (name region : List ℕ) : Type 0 where
  pub attrs : List TagAttr
  pub empty : Bool
  pub read : ReadsBegin bytes name region attrs empty
  pub formed : form ≡ begin_form empty

pub record IsEnd (bytes : List ℕ) (form : Form) (name : List ℕ) : Type 0 where
  pub read : ReadsEnd bytes name
  pub formed : form ≡ Closing

-- the tag of this form and name with these attributes
abbrev pub tag_of : Form → List ℕ → List TagAttr → Tag
tag_of Opening name attrs = OpeningTag name attrs
tag_of Empty name attrs = EmptyTag name attrs
tag_of Closing name attrs = ClosingTag name

-- the attributes in the region of a tag; that of a closing one is not looked at
abbrev pub InRegion : Form → List ℕ → List TagAttr → Type 0
InRegion Closing region attrs = Unit {0}
InRegion form region attrs = (tail : List ℕ) × ReadsAttrs region attrs tail

-- the line is the tag of this form and name, whose attributes are in the region
pub record IsFound (line : List ℕ) (form : Form) (name region : List ℕ) : Type 0 where
  pub attrs : List TagAttr
  pub inside : InRegion form region attrs
  pub spelled : IsTag line (tag_of form name attrs)

-- the same of what stands behind the `<`
pub record BehindTag (bytes : List ℕ) (form : Form) (name region : List ℕ) : Type 0 where
  pub attrs : List TagAttr
  pub inside : InRegion form region attrs
  pub spelled : Spells (60 ∷ bytes) (tag_of form name attrs)
