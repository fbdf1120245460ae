-- Which instances of structures a test finds, by the values that its patterns accept.
use Rattle.std.specs.Prelude.{ℕ, ◌≡◌, ◌<◌, ◌⊎◌, ◌↔◌, Bool, List, [], slice_get, slice_index_or, Some, true}
use Rattle.std.specs.List.{All, Contains, flat_map}
use Rattle.mt_text_spec.specs.Texts.{Span, StructSpan}
use Rattle.mt_text_spec.specs.Queries as q
use Rattle.mt_match_spec.specs.Tests.{Unless}
use Rattle.mt_segment_spec.specs.Tables.{Tables}
use Rattle.mt_eval_spec.specs.Told.{HoldsOf, told_spans}
use Rattle.mt_prepare.specs.declared.judges.Judge.{Judge}
use Rattle.mt_prepare.specs.declared.judges.Judge.TheVariants as judge

-- an instance's value of an attribute of its kind
abbrev pub value_in : (attr : ℕ) → StructSpan → List ℕ
value_in attr span = slice_index_or span.values attr []

-- the instances of a kind in all texts
abbrev pub all_instances : Tables → (kind : ℕ) → List StructSpan
all_instances tables kind = flat_map (λ spans. spans) (slice_index_or tables.structs kind [])

-- the value has a number that is in the set
pub record IsFoundIn (values : List (List ℕ)) (ids : List Bool) (value : List ℕ) : Type 0 where
  pub id : ℕ
  pub there : slice_get values id ≡ Some value
  pub marked : slice_get ids id ≡ Some true

abbrev pub Finds : Judge → StructSpan → Type 0
Finds judge.Any span = Unit {0}
Finds (judge.Accepted attr values ids negated) span = Unless negated (IsFoundIn values ids (value_in attr span))
Finds (judge.Equal attr text negated) span = Unless negated (value_in attr span ≡ text.now)
Finds (judge.Not' p inner) span = ¬ Finds inner span
Finds (judge.Both' p left r right) span = Finds left span × Finds right span
Finds (judge.Either' p left r right) span = Finds left span ⊎ Finds right span

-- it finds those instances of a kind in a segment of which the test holds
abbrev pub JudgesIn : Tables → (kind : ℕ) → q.Test → Judge → Type 0
JudgesIn tables kind test judge = (span : StructSpan) → Contains (all_instances tables kind) span → (Finds judge span ↔ HoldsOf test span)

-- values have those that the instances of a kind have of an attribute
abbrev pub HaveValuesOf : Tables → (kind attr : ℕ) → (values : List (List ℕ)) → Type 0
HaveValuesOf tables kind attr values = All (λ span. Contains values (value_in attr span)) (all_instances tables kind)

-- values after those of some instances were added
pub record AddsValues (attr : ℕ) (spans : List StructSpan) (old new : List (List ℕ)) : Type 0 where
  pub kept : (value : List ℕ) → Contains old value → Contains new value
  pub has : All (λ span. Contains new (value_in attr span)) spans

-- the span of an instance in a text that is found
pub record IsFound (instances : List StructSpan) (text : ℕ) (judge : Judge) (span : Span) : Type 0 where
  pub instance : StructSpan
  pub there : Contains instances instance
  pub text_is : span.text ≡ text
  pub begins : instance.begin ≡ span.begin
  pub ends : instance.end ≡ span.end
  pub finds : Finds judge instance

-- spans after those of the instances that are found were added
pub record AddsFound (Is : Span → Type 0) (old new : List Span) : Type 0 where
  pub kept : (span : Span) → Contains old span → Contains new span
  pub has : (span : Span) → Is span → Contains new span
  pub only : (span : Span) → Contains new span → Contains old span ⊎ Is span

-- a span that is found in one of the first texts of the segment
pub record IsFoundBelow (tables : Tables) (kind : ℕ) (judge : Judge) (texts : ℕ) (span : Span) : Type 0 where
  pub below : span.text < texts
  pub found : IsFound (told_spans tables kind span.text) span.text judge span
