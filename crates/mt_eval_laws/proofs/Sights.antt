-- Where all that is seen of one text is seen of another, what matches in the one matches in the other.
use Rattle.std.proofs.Common.{◌≡◌, ℕ, zero, suc, ◌<◌, inl, inr, List, length, subst}
use Rattle.mt_text_spec.specs.Registries.{Registry, attr_names}
use Rattle.mt_text_spec.specs.Queries.{Test, Any, Expr, TokenTest, Begin, End, Whole, Seq, Choice, Repeat}
use Rattle.mt_query_spec.specs.Valid.{ValidMaybe, ValidExpr}
use Rattle.mt_match_spec.specs.Matches.{Sight, Relation, Matches, Turns}

pub record SeesAll (registry : Registry) (s t : Sight) : Type 0 where
  pub tokens : s.tokens ≡ t.tokens
  pub holds : (test : Test) (place : ℕ) → ValidMaybe (attr_names registry.attrs) test → place < s.tokens → s.holds test place → t.holds test place
  pub lies : (kind : ℕ) (test : Test) (begin end : ℕ) → kind < length registry.kinds → s.lies kind test begin end → t.lies kind test begin end

turns_too : (R Q : Relation) → ((b f : ℕ) (labels : List ℕ) → R b f labels → Q b f labels) → (n : ℕ) (b f : ℕ) (labels : List ℕ) → Turns R n b f labels → Turns Q n b f labels
turns_too R Q go zero b f labels h = h
turns_too R Q go (suc n) b f labels h =
    record { cut = h.cut; first_labels = h.first_labels; second_labels = h.second_labels; first = go b h.cut h.first_labels h.first; second = turns_too R Q go n h.cut f h.second_labels h.second; unite = h.unite }

module _ (registry : Registry) (s t : Sight) (sees : SeesAll registry s t) where
  pub matches_too : (expr : Expr) (b f : ℕ) (labels : List ℕ) → ValidExpr registry expr → Matches s expr b f labels → Matches t expr b f labels
  matches_too (TokenTest label test) b f labels v m =
      record { inside = subst (λ n. b < n) sees.tokens m.inside; holds = sees.holds test b v.1 m.inside m.holds; end_is = m.end_is; labels_are = m.labels_are }
  matches_too (Begin kind test) b f labels v m = record { close = m.close; lies = sees.lies kind test b m.close v.0 m.lies; end_is = m.end_is; labels_are = m.labels_are }
  matches_too (End kind) b f labels v m = record { open_at = m.open_at; lies = sees.lies kind Any m.open_at b v m.lies; end_is = m.end_is; labels_are = m.labels_are }
  matches_too (Whole kind test) b f labels v m = record { lies = sees.lies kind test b f v.0 m.lies; labels_are = m.labels_are }
  matches_too (Seq left right) b f labels v m =
      record {
        cut = m.cut;
        first_labels = m.first_labels;
        second_labels = m.second_labels;
        first = matches_too left b m.cut m.first_labels v.0 m.first;
        second = matches_too right m.cut f m.second_labels v.1 m.second;
        unite = m.unite;
      }
  matches_too (Choice left right) b f labels v m = elim m [ inl x ↦ inl (matches_too left b f labels v.0 x) | inr y ↦ inr (matches_too right b f labels v.1 y) ]
  matches_too (Repeat inner least most) b f labels v m =
      record { count = m.count; low = m.low; high = m.high; turns = turns_too (Matches s inner) (Matches t inner) (λ c d ls. matches_too inner c d ls v.0) m.count b f labels m.turns }
