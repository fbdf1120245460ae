-- The value of an attribute in a tag is that of the first one of its name.
use Rattle.std.proofs.Common.{◌≡◌, ℕ, true, false, List, [], ◌∷◌, refl, ◌∙◌, ap, subst, None, Some}
use Rattle.std.specs.Str.{bytes_eq}
use Rattle.mt_file_spec.specs.Tags.{TagAttr, tag_value}
use Rattle.mt_vertical.specs.TagReading.{attr_at, ReadsAttrs}
use Rattle.mt_vertical.proofs.Steps.{same, none_some, some_once}

-- the attributes behind the first
pub record Follows (bytes : List ℕ) (first : TagAttr) (more : List ℕ) (attrs : List TagAttr) (rest : List ℕ) : Type 0 where
  pub others : List TagAttr
  pub are : attrs ≡ first ∷ others
  pub read : ReadsAttrs more others rest

pub follows : (bytes more : List ℕ) (first : TagAttr) (attrs : List TagAttr) (rest : List ℕ) → attr_at bytes ≡ Some (first, more) → ReadsAttrs bytes attrs rest → Follows bytes first more attrs rest
follows bytes more first [] rest e r = none_some (attr_at bytes) (first, more) r.0 e
follows bytes more first (attr ∷ attrs) rest e r =
    let both : (attr, r.0) ≡ (first, more) = some_once (attr_at bytes) (attr, r.0) (first, more) r.1 e in
    record { others = attrs; are = ap (λ p. p.0 ∷ attrs) both; read = let P : List ℕ → Type 0 = λ b. ReadsAttrs b attrs rest in subst P (ap (λ p. p.1) both) r.2 }

pub none_follows : (bytes : List ℕ) (attrs : List TagAttr) (rest : List ℕ) → attr_at bytes ≡ None → ReadsAttrs bytes attrs rest → attrs ≡ []
none_follows bytes [] rest e r = refl
none_follows bytes (attr ∷ attrs) rest e r = none_some (attr_at bytes) (attr, r.0) e r.1

pub first_counts : (first : TagAttr) (others attrs : List TagAttr) (name : List ℕ) → attrs ≡ first ∷ others → bytes_eq first.name name ≡ true → tag_value attrs name ≡ first.value
first_counts first others attrs name e same = ap (λ all. tag_value all name) e ∙ rw same refl

pub next_counts : (first : TagAttr) (others attrs : List TagAttr) (name : List ℕ) → attrs ≡ first ∷ others → bytes_eq first.name name ≡ false → tag_value attrs name ≡ tag_value others name
next_counts first others attrs name e differs = ap (λ all. tag_value all name) e ∙ rw differs refl
