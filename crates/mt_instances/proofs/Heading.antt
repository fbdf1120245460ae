-- What is known of a heading.
use Rattle.std.proofs.Common.{◌≡◌, ℕ, Some, List, slice_get, ◌∙◌, arith}
use Rattle.std.proofs.lemmas.Option.{slice_get_within}
use Rattle.mt_text_spec.specs.Queries as q
use Rattle.mt_grammar.specs.Seen.{kind_seen}
use Rattle.mt_grammar.specs.declared.kind.RelationKind.{RelationKind}
use Rattle.mt_grammar.specs.declared.kind.RelationKind.TheVariants as rust
use Rattle.mt_counts.specs.Names.{Begins}
use Rattle.mt_counts.proofs.Numbering.{begins_at}
use Rattle.mt_instances.specs.Gathered.{IsHeading}
use Rattle.mt_instances.specs.declared.gathering.Heading.{Heading}
use Rattle.mt_instances.proofs.Growing.{length-begins}

pub heading-begins : (old new : List (List ℕ)) (relation : q.Relation) (heading : Heading) → Begins old new → IsHeading old relation heading → IsHeading new relation heading
heading-begins old new relation heading h is =
    let more = length-begins old new h in
    let within = is.second_within in
    record {
      kind = is.kind;
      name = begins_at old new heading.name relation.name h is.name;
      second_within = omega (arith, within, more);
      second = λ dual. begins_at old new heading.second relation.second h (is.second dual);
    }

not_dual : (kind : RelationKind) → kind_seen kind ≡ q.Dual → kind ≡ rust.Dual
not_dual rust.Plain e = cc
not_dual rust.Dual e = λ i. rust.Dual
not_dual rust.Symmetric e = cc
not_dual rust.Trinary e = cc
not_dual rust.Unary e = cc

pub heading_with : (old new : List (List ℕ)) (relation : q.Relation) (kind : RelationKind) (name second : ℕ) → Begins old new → kind_seen kind ≡ relation.kind → slice_get old name ≡ Some relation.name → slice_get new second ≡ Some relation.second →
    IsHeading new relation (record { kind = kind; name = name; second = second })
heading_with old new relation kind name second h is at at' =
    record { kind = is; name = begins_at old new name relation.name h at; second_within = slice_get_within new second relation.second at'; second = λ dual. at' }

pub heading_alone : (names : List (List ℕ)) (relation : q.Relation) (kind : RelationKind) (name : ℕ) → kind_seen kind ≡ relation.kind → (kind ≡ rust.Dual → ⊥) → slice_get names name ≡ Some relation.name → IsHeading names relation (record { kind = kind; name = name; second = name })
heading_alone names relation kind name is other at = record { kind = is; name = at; second_within = slice_get_within names name relation.name at; second = λ dual. absurd (other (not_dual kind (is ∙ dual))) }
