-- The tables of a text of one token.
use Rattle.std.proofs.Common.{◌≡◌, ◌≢◌, ℕ, zero, suc, ◌<◌, List, [], ◌∷◌, length, get_or, slice_get, codes, None, Some, refl, sym, ap, arith}
use Rattle.std.specs.List.{All, AllPairs, Contains}
use Rattle.std.proofs.lemmas.List.Elements.{All-nil, All-cons, All-contains_itself}
use Rattle.std.proofs.lemmas.List.Sums.{AllPass-from_list_all}
use Rattle.mt_text_spec.specs.Words.{IsIdentifier, IsName, is_identifier_byte, is_name_byte}
use Rattle.mt_text_spec.specs.Registries.{ValidAttr, ValidKind, ValidRegistry, base_attr}
use Rattle.mt_text_spec.specs.Texts.{ComesBefore, StructSpan, Text, ValidCorpus, ValidStructSpan, ValidText, ValidToken, ValidValue}
use Rattle.mt_store_spec.specs.Lexicons.{IsAscending, IsLexiconOf, Renumbers}
use Rattle.mt_store_spec.specs.Positions.{ArePositions}
use Rattle.mt_segment_spec.specs.Tables.{ArePlacesOf, ArePostingsOf, AreBaseTables, AreMappedTables, AreTablesOf, AreTablesUnder, HaveParts, HaveValues, attr_at, attr_values, instances_of, tables_at}
use Rattle.mt_tables.specs.Small.{small_registry, small_span, small_tables, small_text}

no_pairs : {X : Type 0} (R : X → X → Type 0) (x : X) → AllPairs R (x ∷ [])
no_pairs R x = λ i j d l m. absurd (omega arith)

-- ---- the registry and the text are valid

word : IsIdentifier (codes "word")
word = record { some = omega arith; short = omega arith; first = refl; each = AllPass-from_list_all is_identifier_byte (codes "word") refl }

s_name : IsIdentifier (codes "s")
s_name = record { some = omega arith; short = omega arith; first = refl; each = AllPass-from_list_all is_identifier_byte (codes "s") refl }

pub valid_registry : ValidRegistry small_registry
valid_registry = record {
  few = omega arith;
  some = omega arith;
  attrs = All-cons (ValidAttr small_registry.attrs) (base_attr (codes "word")) [] (record { named = word; based = λ number e. cc; unmapped = λ e. refl; short = omega arith }) (All-nil (ValidAttr small_registry.attrs));
  distinct = no_pairs (λ (name other : List ℕ). name ≢ other) (codes "word");
  few_kinds = omega arith;
  kinds = All-cons ValidKind (record { name = codes "s"; attrs = [] }) [] (record { named = s_name; few = omega arith; each = All-nil IsIdentifier; distinct = λ i j d l m. absurd (omega arith) }) (All-nil ValidKind);
  distinct_kinds = no_pairs (λ (name other : List ℕ). name ≢ other) (codes "s");
  sketched = omega arith;
}

valid_value : ValidValue (codes "x")
unfolding lib.Utf8.encode
valid_value = record {
  text = (120 ∷ [], (refl, refl));
  short = omega arith;
  plain = All-cons (λ (b : ℕ). (b ≢ 10) × (b ≢ 9)) 120 [] (λ e. absurd (omega arith), λ e. absurd (omega arith)) (All-nil (λ (b : ℕ). (b ≢ 10) × (b ≢ 9)));
}

valid_text : ValidText small_registry small_text
valid_text = record {
  named = record { some = omega arith; short = omega arith; first = refl; each = AllPass-from_list_all is_name_byte (codes "a") refl };
  short = omega arith;
  tokens = All-cons (ValidToken small_registry) (record { values = codes "x" ∷ [] }) [] (record { count = refl; each = All-cons ValidValue (codes "x") [] valid_value (All-nil ValidValue) }) (All-nil (ValidToken small_registry));
  structs = All-cons (ValidStructSpan small_registry 1) small_span []
      (record { kind = record { name = codes "s"; attrs = [] }; declared = refl; order = omega arith; inside = omega arith; count = refl; each = All-nil ValidValue }) (All-nil (ValidStructSpan small_registry 1));
  ordered = no_pairs ComesBefore small_span;
}

valid_corpus : ValidCorpus small_registry (small_text ∷ [])
valid_corpus = record {
  few = omega arith;
  short = omega arith;
  texts = All-cons (ValidText small_registry) small_text [] valid_text (All-nil (ValidText small_registry));
  distinct = no_pairs (λ (name other : List ℕ). name ≢ other) (codes "a");
}

-- ---- the tables are those of the text

one_lexicon : IsLexiconOf (codes "x" ∷ []) (codes "x" ∷ [])
one_lexicon = record { ascending = λ i j d l m. absurd (omega arith); all = All-contains_itself (codes "x" ∷ []); only = All-contains_itself (codes "x" ∷ []) }

one_numbers : Renumbers (0 ∷ []) (codes "x" ∷ []) (codes "x" ∷ [])
one_numbers = record { count = refl; same = by }
  where
    by : (k : ℕ) → k < 1 → slice_get (codes "x" ∷ []) (get_or (0 ∷ []) k 0) ≡ slice_get (codes "x" ∷ []) k
    by zero l = refl
    by (suc k) l = absurd (omega arith)

one_postings : ArePostingsOf (codes "x" ∷ []) (codes "x" ∷ []) ((0 ∷ []) ∷ [])
one_postings = record { count = refl; each = by }
  where
    places : (value : List ℕ) → Some (codes "x") ≡ Some value → ArePlacesOf value (codes "x" ∷ []) (0 ∷ [])
    places value e = record {
      ascending = λ k l. absurd (omega arith);
      each = All-cons (λ (place : ℕ). slice_get (codes "x" ∷ []) place ≡ Some value) 0 [] e (All-nil (λ (place : ℕ). slice_get (codes "x" ∷ []) place ≡ Some value));
      all = at;
    }
      where
        at : (place : ℕ) → slice_get (codes "x" ∷ []) place ≡ Some value → Contains (0 ∷ []) place
        at zero e = (0, omega arith, refl)
        at (suc place) e = cc

    by : (number : ℕ) (value : List ℕ) → slice_get (codes "x" ∷ []) number ≡ Some value → ArePlacesOf value (codes "x" ∷ []) (get_or ((0 ∷ []) ∷ []) number [])
    by zero value e = places value e
    by (suc number) value e = cc

have : HaveValues (codes "x" ∷ []) (tables_at small_tables.attrs 0)
have = record { lexicon = one_lexicon; postings = one_postings }

are : AreTablesOf (λ name value. value) small_registry (small_text ∷ []) small_tables
are = record {
  texts = refl;
  attr_count = refl;
  bases = λ number l none. base number l;
  mapped = λ number base l some. never number base l some;
  kind_count = refl;
  structs = λ kind l. kinds kind l;
}
  where
    base : (number : ℕ) → number < 1 → AreBaseTables (attr_values (λ name value. value) small_registry (small_text ∷ []) number) (tables_at small_tables.attrs number)
    base zero l = record { unmapped = refl; have = have; numbers = one_numbers }
    base (suc number) l = absurd (omega arith)

    never : (number base : ℕ) → number < 1 → (attr_at small_registry number).base ≡ Some base →
        AreMappedTables base (λ value. value) (tables_at small_tables.attrs base).lexicon (attr_values (λ name value. value) small_registry (small_text ∷ []) number) (tables_at small_tables.attrs number)
    never zero base l some = cc
    never (suc number) base l some = absurd (omega arith)

    kinds : (kind : ℕ) → kind < 1 → get_or small_tables.structs kind [] ≡ instances_of kind (small_text ∷ [])
    kinds zero l = refl
    kinds (suc kind) l = absurd (omega arith)

pub under : AreTablesUnder small_registry small_tables
under = record { images = λ name value. value; by = record { valid = valid_registry; corpus = small_text ∷ []; texts = valid_corpus; some = omega arith; are = are } }

pub parts : (texts : List (List ℕ × ℕ)) (lexicons : List (List (List ℕ))) (columns mapped : List (List ℕ)) (postings : List (List (List ℕ))) (structs : List (List StructSpan)) → texts ≡ (codes "a", 1) ∷ [] →
    lexicons ≡ (codes "x" ∷ []) ∷ [] → columns ≡ (0 ∷ []) ∷ [] → mapped ≡ [] → postings ≡ ((0 ∷ []) ∷ []) ∷ [] → structs ≡ (small_span ∷ []) ∷ [] → HaveParts small_tables texts lexicons columns mapped postings structs
parts texts lexicons columns mapped postings structs a b c d e f = record { texts_are = a; lexicons_are = b; columns_are = c; mapped_are = d; postings_are = e; structs_are = f }

pub one_position : ArePositions (0 ∷ [])
one_position = record { ascending = λ k l. absurd (omega arith); in_range = All-cons (λ (p : ℕ). p < 4294967295) 0 [] (omega arith) (All-nil (λ (p : ℕ). p < 4294967295)) }
