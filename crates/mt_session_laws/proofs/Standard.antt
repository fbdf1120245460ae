-- The standard registry is valid.
use Rattle.std.proofs.Common.{◌≡◌, ◌≢◌, ℕ, List, [], ◌∷◌, codes, arith, refl, ap, get_or}
use Rattle.std.specs.List.{AllPairs}
use Rattle.std.proofs.lemmas.List.Elements.{All-nil, All-cons}
use Rattle.std.proofs.lemmas.List.Kept.{AllPairs-cons}
use Rattle.std.proofs.lemmas.List.Sums.{AllPass-from_list_all}
use Rattle.mt_text_spec.specs.Words.{IsIdentifier, is_identifier_byte}
use Rattle.mt_text_spec.specs.Registries.{Attr, ValidRegistry, ValidAttr, ValidKind, AreDistinct, base_attr, standard_registry}

none_differ : AllPairs (λ (name other : List ℕ). name ≢ other) []
none_differ = λ i j x y h. absurd (omega arith)

word : IsIdentifier (codes "word")
word = record { some = omega arith; short = omega arith; first = refl; each = AllPass-from_list_all is_identifier_byte (codes "word") refl }

tag : IsIdentifier (codes "tag")
tag = record { some = omega arith; short = omega arith; first = refl; each = AllPass-from_list_all is_identifier_byte (codes "tag") refl }

lemma_name : IsIdentifier (codes "lemma")
lemma_name = record { some = omega arith; short = omega arith; first = refl; each = AllPass-from_list_all is_identifier_byte (codes "lemma") refl }

doc : IsIdentifier (codes "doc")
doc = record { some = omega arith; short = omega arith; first = refl; each = AllPass-from_list_all is_identifier_byte (codes "doc") refl }

id_name : IsIdentifier (codes "id")
id_name = record { some = omega arith; short = omega arith; first = refl; each = AllPass-from_list_all is_identifier_byte (codes "id") refl }

s_name : IsIdentifier (codes "s")
s_name = record { some = omega arith; short = omega arith; first = refl; each = AllPass-from_list_all is_identifier_byte (codes "s") refl }

g_name : IsIdentifier (codes "g")
g_name = record { some = omega arith; short = omega arith; first = refl; each = AllPass-from_list_all is_identifier_byte (codes "g") refl }

plain : (attrs : List Attr) (name : List ℕ) → IsIdentifier name → ValidAttr attrs (base_attr name)
plain attrs name i = record { named = i; based = λ number e. cc; unmapped = λ e. refl; short = omega arith }

bare : (name : List ℕ) → IsIdentifier name → ValidKind (record { name = name; attrs = [] })
bare name i = record { named = i; few = omega arith; each = All-nil IsIdentifier; distinct = none_differ }

three_differ : (a b c : List ℕ) → a ≢ b → a ≢ c → b ≢ c → AreDistinct (a ∷ b ∷ c ∷ [])
three_differ a b c x y z =
    AllPairs-cons (λ (name other : List ℕ). name ≢ other) a (b ∷ c ∷ []) (All-cons (λ (other : List ℕ). a ≢ other) b (c ∷ []) x (All-cons (λ (other : List ℕ). a ≢ other) c [] y (All-nil (λ (other : List ℕ). a ≢ other))))
    (AllPairs-cons (λ (name other : List ℕ). name ≢ other) b (c ∷ []) (All-cons (λ (other : List ℕ). b ≢ other) c [] z (All-nil (λ (other : List ℕ). b ≢ other)))
    (AllPairs-cons (λ (name other : List ℕ). name ≢ other) c [] (All-nil (λ (other : List ℕ). c ≢ other)) none_differ))

one_differs : (a : List ℕ) → AreDistinct (a ∷ [])
one_differs a = AllPairs-cons (λ (name other : List ℕ). name ≢ other) a [] (All-nil (λ (other : List ℕ). a ≢ other)) none_differ

numbers_differ : (a b : ℕ) → a ≡ 115 → b ≡ 103 → a ≡ b → ⊥
numbers_differ a b e f h = omega arith

s_is_not_g : codes "s" ≢ codes "g"
s_is_not_g e = numbers_differ 115 103 refl refl (ap (λ (name : List ℕ). get_or name 0 0) e)

pub standard_is_valid : ValidRegistry standard_registry
standard_is_valid = record {
  few = omega arith;
  some = omega arith;
  attrs = All-cons (ValidAttr standard_registry.attrs) (base_attr (codes "word")) (base_attr (codes "tag") ∷ base_attr (codes "lemma") ∷ []) (plain standard_registry.attrs (codes "word") word)
      (All-cons (ValidAttr standard_registry.attrs) (base_attr (codes "tag")) (base_attr (codes "lemma") ∷ []) (plain standard_registry.attrs (codes "tag") tag)
      (All-cons (ValidAttr standard_registry.attrs) (base_attr (codes "lemma")) [] (plain standard_registry.attrs (codes "lemma") lemma_name) (All-nil (ValidAttr standard_registry.attrs))));
  distinct = three_differ (codes "word") (codes "tag") (codes "lemma") (λ e. cc) (λ e. cc) (λ e. cc);
  few_kinds = omega arith;
  kinds = All-cons ValidKind (record { name = codes "doc"; attrs = codes "id" ∷ [] }) (record { name = codes "s"; attrs = [] } ∷ record { name = codes "g"; attrs = [] } ∷ [])
      (record { named = doc; few = omega arith; each = All-cons IsIdentifier (codes "id") [] id_name (All-nil IsIdentifier); distinct = one_differs (codes "id") })
      (All-cons ValidKind (record { name = codes "s"; attrs = [] }) (record { name = codes "g"; attrs = [] } ∷ []) (bare (codes "s") s_name) (All-cons ValidKind (record { name = codes "g"; attrs = [] }) [] (bare (codes "g") g_name) (All-nil ValidKind)));
  distinct_kinds = three_differ (codes "doc") (codes "s") (codes "g") (λ e. cc) (λ e. cc) s_is_not_g;
  sketched = omega arith;
}
