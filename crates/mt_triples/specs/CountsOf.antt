-- Tables of counts that are those of a grammar over texts.
use Rattle.std.specs.Prelude.{ℕ, List, ◌++◌, Some, None}
use Rattle.mt_text_spec.specs.Registries.{Registry}
use Rattle.mt_text_spec.specs.Texts.{Text}
use Rattle.mt_text_spec.specs.Queries.{Grammar}
use Rattle.mt_match_spec.specs.Values.{Images}
use Rattle.mt_count_spec.specs.Counts.{IsF, IsF1}
use Rattle.mt_counts.specs.Counted.{Counted, f, f_first, f_second, f1, HaveSame, IsSum, IsWithin}

-- These are the counts of the texts: of every name with any two words, with any first one, with any second one, and of every unary name with any word.
pub record AreCountsOf (images : Images) (registry : Registry) (grammar : Grammar) (corpus : List Text) (counts : Counted) : Type 0 where
  pub both : (name x y : List ℕ) → IsF images registry grammar corpus name (Some x) (Some y) (f counts name x y)
  pub first : (name x : List ℕ) → IsF images registry grammar corpus name (Some x) None (f_first counts name x)
  pub second : (name y : List ℕ) → IsF images registry grammar corpus name None (Some y) (f_second counts name y)
  pub alone : (name x : List ℕ) → IsF1 images registry grammar corpus name (Some x) (f1 counts name x)

-- tables with the same counts count the same texts
abbrev pub SameCountSame : Type 0
SameCountSame = (images : Images) (registry : Registry) (grammar : Grammar) (corpus : List Text) (a b : Counted) → AreCountsOf images registry grammar corpus a → HaveSame a b → AreCountsOf images registry grammar corpus b

-- what is added up counts both lists of texts
abbrev pub SumsAreCounts : Type 0
SumsAreCounts = (images : Images) (registry : Registry) (grammar : Grammar) (corpus others : List Text) (a b sum : Counted) →
    AreCountsOf images registry grammar corpus a → AreCountsOf images registry grammar others b → IsSum a b sum → AreCountsOf images registry grammar (corpus ++ others) sum

-- and where a sum counts some texts and others, and one part the first ones, the other part counts the others
abbrev pub DifferencesAreCounts : Type 0
DifferencesAreCounts = (images : Images) (registry : Registry) (grammar : Grammar) (corpus others : List Text) (a b sum : Counted) →
    AreCountsOf images registry grammar (corpus ++ others) sum → AreCountsOf images registry grammar corpus a → IsSum a b sum → AreCountsOf images registry grammar others b

-- no count of some of the texts, wherever they stand, is above that of all
abbrev pub PartsAreWithin : Type 0
PartsAreWithin = (images : Images) (registry : Registry) (grammar : Grammar) (before texts behind : List Text) (part sum : Counted) →
    AreCountsOf images registry grammar (before ++ texts ++ behind) sum → AreCountsOf images registry grammar texts part → IsWithin part sum

-- where some of the texts, wherever they stand, are one part of the counts, the other part counts the other texts
abbrev pub RestIsLeft : Type 0
RestIsLeft = (images : Images) (registry : Registry) (grammar : Grammar) (before texts behind : List Text) (part rest sum : Counted) →
    AreCountsOf images registry grammar (before ++ texts ++ behind) sum → AreCountsOf images registry grammar texts part → IsSum part rest sum → AreCountsOf images registry grammar (before ++ behind) rest
