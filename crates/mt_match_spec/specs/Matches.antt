-- What an expression of a query matches in one text: a begin and an end, that is two places between tokens, and the places of its labels.
use Rattle.std.specs.Prelude.{ℕ, zero, suc, ◌≡◌, ◌+◌, ◌<◌, ◌≤◌, ◌⊎◌, List, [], length, slice_index_or}
use Rattle.std.specs.List.{Contains}
use Rattle.mt_text_spec.specs.Registries.{Registry}
use Rattle.mt_text_spec.specs.Texts.{Text, StructSpan}
use Rattle.mt_text_spec.specs.Queries.{Test, Any, Expr, TokenTest, Begin, End, Whole, Seq, Choice, Repeat}
use Rattle.mt_match_spec.specs.Values.{Images, value_at}
use Rattle.mt_match_spec.specs.Tests.{Holds}
use Rattle.mt_match_spec.specs.Labels.{no_labels, labelled, united}

-- What a query sees of one text: how many tokens it has, of which of them a test holds, and where instances of a kind of structure lie that meet a test.
pub record Sight : Type 1 where
  pub tokens : ℕ
  pub holds : Test → ℕ → Type 0
  pub lies : (kind : ℕ) → Test → (begin end : ℕ) → Type 0

-- some instance of this kind lies there, and its own values meet the test
pub record IsInstance (text : Text) (kind : ℕ) (test : Test) (begin end : ℕ) : Type 0 where
  pub span : StructSpan
  pub there : Contains text.structs span
  pub kind_is : span.kind ≡ kind
  pub begins : span.begin ≡ begin
  pub ends : span.end ≡ end
  pub holds : Holds test (λ attr. slice_index_or span.values attr [])

-- what a query sees of a text under a registry
abbrev pub sight : Images → Registry → Text → Sight
sight images registry text = record {
  tokens = length text.tokens;
  holds = λ test place. Holds test (λ attr. value_at images registry text attr place);
  lies = IsInstance text;
}

-- what is matched: from this begin to this end, with these labels
abbrev pub Relation : Type 1
Relation = (begin end : ℕ) → (labels : List ℕ) → Type 0

-- one token that meets the test, under its label
pub record IsToken (s : Sight) (label : ℕ) (test : Test) (begin end : ℕ) (labels : List ℕ) : Type 0 where
  pub inside : begin < s.tokens
  pub holds : s.holds test begin
  pub end_is : end ≡ begin + 1
  pub labels_are : labels ≡ labelled label begin

-- the place where some instance that meets the test begins
pub record IsBegin (s : Sight) (kind : ℕ) (test : Test) (begin end : ℕ) (labels : List ℕ) : Type 0 where
  pub close : ℕ
  pub lies : s.lies kind test begin close
  pub end_is : end ≡ begin
  pub labels_are : labels ≡ no_labels

-- the place where some instance ends
pub record IsEnd (s : Sight) (kind : ℕ) (begin end : ℕ) (labels : List ℕ) : Type 0 where
  pub open_at : ℕ
  pub lies : s.lies kind Any open_at begin
  pub end_is : end ≡ begin
  pub labels_are : labels ≡ no_labels

-- a whole instance that meets the test
pub record IsWhole (s : Sight) (kind : ℕ) (test : Test) (begin end : ℕ) (labels : List ℕ) : Type 0 where
  pub lies : s.lies kind test begin end
  pub labels_are : labels ≡ no_labels

-- one after the other: the second begins where the first ends
pub record Joined (First Second : Relation) (begin end : ℕ) (labels : List ℕ) : Type 0 where
  pub cut : ℕ
  pub first_labels : List ℕ
  pub second_labels : List ℕ
  pub first : First begin cut first_labels
  pub second : Second cut end second_labels
  pub unite : labels ≡ united first_labels second_labels

-- so many turns, one after another
abbrev pub Turns : Relation → ℕ → Relation
Turns R zero = λ begin end labels. (begin ≡ end) × (labels ≡ no_labels)
Turns R (suc more) = Joined R (Turns R more)

-- at least so many of them, and at most so many
pub record Repeated (R : Relation) (least most begin end : ℕ) (labels : List ℕ) : Type 0 where
  pub count : ℕ
  pub low : least ≤ count
  pub high : count ≤ most
  pub turns : Turns R count begin end labels

-- what an expression matches in a text, by cases on its form
abbrev pub Matches : Sight → Expr → Relation
Matches s (TokenTest label test) = IsToken s label test
Matches s (Begin kind test) = IsBegin s kind test
Matches s (End kind) = IsEnd s kind
Matches s (Whole kind test) = IsWhole s kind test
Matches s (Seq left right) = Joined (Matches s left) (Matches s right)
Matches s (Choice left right) = λ begin end labels. Matches s left begin end labels ⊎ Matches s right begin end labels
Matches s (Repeat inner least most) = Repeated (Matches s inner) least most
