-- What is held stays valid.
use Rattle.std.proofs.Common.{◌≡◌, ◌≢◌, ℕ, zero, suc, ◌+◌, ◌<◌, ◌≤◌, ◌⊎◌, inl, inr, Bool, true, false, not, List, [], ◌∷◌, ◌++◌, length, map, None, arith, refl, sym, ◌∙◌, ap, subst, append_assoc, get_or}
use Rattle.std.specs.Prelude.{◌&&◌}
use Rattle.std.specs.List.{All, Any, Contains, sum_by}
use Rattle.std.specs.Str.{bytes_eq}
use Rattle.std.proofs.lemmas.Bool.{cases_lt}
use Rattle.std.proofs.lemmas.List.{map-append, length-append, length-map}
use Rattle.std.proofs.lemmas.List.Sums.{sum-map, sum_by-append}
use Rattle.std.proofs.lemmas.List.Elements.{All-nil, All-push, All-cons}
use Rattle.std.proofs.lemmas.List.Quantifiers.{all_pairs_push}
use Rattle.mt_text_spec.specs.Registries.{Registry, ValidRegistry, AreDistinct}
use Rattle.mt_text_spec.specs.Texts.{Text, ValidText, total_tokens, corpus_texts_limit, corpus_tokens_limit}
use Rattle.mt_text_spec.specs.Queries.{Grammar}
use Rattle.mt_grammar_spec.specs.ValidGrammar.{ValidGrammar}
use Rattle.mt_corpus_spec.specs.Groups.{ValidGroups, struck, without, all_texts}
use Rattle.mt_session_spec.specs.World.{Held, Group, ValidHeld, IsGrammarOf, Holds, IsFull, with_text, without_text, with_grammar, first_held, alone, live_texts, corpus_of, kept_texts}
use Rattle.mt_session_spec.specs.Registering.{with_registry}
use Rattle.mt_session_laws.proofs.Standard.{standard_is_valid}

none_differ : AreDistinct []
none_differ = λ i j x y h. absurd (omega arith)

-- no groups and no grammar are valid
bare : (held : Held) → ValidRegistry held.registry → held.groups ≡ [] → held.grammar ≡ None → ValidHeld held
bare held valid none unruled = record {
  registry = valid;
  groups = subst (ValidGroups held.registry) (sym none) (no_groups held.registry);
  grammar = subst (IsGrammarOf held.registry) (sym unruled) tt;
}
  where
    no_groups : (registry : Registry) → ValidGroups registry []
    no_groups registry = record {
      texts = All-nil (ValidText registry);
      distinct = none_differ;
      few = omega arith;
      short = omega arith;
      some = All-nil (λ (group : Group). 0 < length group);
    }

pub first_valid : ValidHeld first_held
first_valid = bare first_held standard_is_valid refl refl

pub registry_valid : (held : Held) (registry : Registry) → ValidRegistry registry → ValidHeld (with_registry held registry)
registry_valid held registry valid = bare (with_registry held registry) valid refl refl

pub grammar_valid : (held : Held) (grammar : Grammar) → ValidHeld held → ValidGrammar held.registry grammar → ValidHeld (with_grammar held grammar)
grammar_valid held grammar valid ruled = record { registry = valid.registry; groups = valid.groups; grammar = ruled }

-- ## A text more

corpus_more : (groups : List Group) (text : Text) → corpus_of (groups ++ alone text ∷ []) ≡ corpus_of groups ++ text ∷ []
corpus_more [] text = refl
corpus_more (group ∷ groups) text = rw (corpus_more groups text, append_assoc) refl

kept_more : (groups : List Group) (text : Text) → kept_texts (groups ++ alone text ∷ []) ≡ kept_texts groups ++ text ∷ []
kept_more [] text = refl
kept_more (group ∷ groups) text = rw (kept_more groups text, append_assoc) refl

total_more : (texts : List Text) (text : Text) → total_tokens (texts ++ text ∷ []) ≡ total_tokens texts + length text.tokens
total_more texts text =
    let size : Text → ℕ = λ t. length t.tokens in
    let all : total_tokens (texts ++ text ∷ []) ≡ sum_by size texts + (0 + length text.tokens) = sum-map size (texts ++ text ∷ []) ∙ sum_by-append size texts (text ∷ []) in
    let front : total_tokens texts ≡ sum_by size texts = sum-map size texts in
    omega (arith, all, front)

few_texts : (groups : List Group) (tokens : ℕ) → (IsFull groups tokens → ⊥) → length (kept_texts groups) < corpus_texts_limit
few_texts groups tokens room = by (cases_lt (length (kept_texts groups)) corpus_texts_limit)
  where
    by : (length (kept_texts groups) < corpus_texts_limit) ⊎ (corpus_texts_limit ≤ length (kept_texts groups)) → length (kept_texts groups) < corpus_texts_limit
    by (inl low) = low
    by (inr high) = absurd (room (inl high))

few_tokens : (groups : List Group) (tokens : ℕ) → (IsFull groups tokens → ⊥) → total_tokens (kept_texts groups) + tokens ≤ corpus_tokens_limit
few_tokens groups tokens room = by (cases_lt corpus_tokens_limit (total_tokens (kept_texts groups) + tokens))
  where
    by : (corpus_tokens_limit < total_tokens (kept_texts groups) + tokens) ⊎ (total_tokens (kept_texts groups) + tokens ≤ corpus_tokens_limit) → total_tokens (kept_texts groups) + tokens ≤ corpus_tokens_limit
    by (inl high) = absurd (room (inr high))
    by (inr low) = low

-- a name among those of texts is that of one of them
named_at : (texts : List Text) (name : List ℕ) (k : ℕ) (d : List ℕ) → k < length (map (λ text. text.name) texts) → get_or (map (λ text. text.name) texts) k d ≡ name → Any (λ text. text.name ≡ name) texts
named_at [] name k d low e = absurd (omega arith)
named_at (text ∷ texts) name zero d low e = (0, text, omega arith, refl, e)
named_at (text ∷ texts) name (suc k) d low e = let found = named_at texts name k d (omega arith) e in (suc found.0, found.1, let h : found.0 < length texts = found.2 in omega arith, found.3, found.4)

names_more : (texts : List Text) (text : Text) → AreDistinct (map (λ t. t.name) texts) → (Any (λ t. t.name ≡ text.name) texts → ⊥) → AreDistinct (map (λ t. t.name) (texts ++ text ∷ []))
names_more texts text distinct free =
    rw (map-append (λ (t : Text). t.name) texts (text ∷ [])) (all_pairs_push (λ (a b : List ℕ). a ≢ b) (map (λ t. t.name) texts) text.name distinct (λ k d low e. free (named_at texts text.name k d low e)))

pub text_valid : (held : Held) (text : Text) → ValidHeld held → ValidText held.registry text → (Holds held text.name → ⊥) → (IsFull held.groups (length text.tokens) → ⊥) → ValidHeld (with_text held text)
text_valid held text valid one free room =
    let fewer : length (kept_texts held.groups) < corpus_texts_limit = few_texts held.groups (length text.tokens) room in
    let shorter : total_tokens (kept_texts held.groups) + length text.tokens ≤ corpus_tokens_limit = few_tokens held.groups (length text.tokens) room in
    let kept = kept_more held.groups text in
    let many : length (kept_texts held.groups ++ text ∷ []) ≡ length (kept_texts held.groups) + 1 = length-append (kept_texts held.groups) (text ∷ []) in
    let total = total_more (kept_texts held.groups) text in
    record {
      registry = valid.registry;
      groups = record {
        texts = rw kept (All-push (ValidText held.registry) (kept_texts held.groups) text valid.groups.texts one);
        distinct = rw (corpus_more held.groups text) (names_more (corpus_of held.groups) text valid.groups.distinct free);
        few = rw kept (omega (arith, many, fewer));
        short = rw kept (omega (arith, total, shorter));
        some = All-push (λ (group : Group). 0 < length group) held.groups (alone text) valid.groups.some (omega arith);
      };
      grammar = valid.grammar;
    }

-- ## A text less

-- some of these texts, in the same order
data AreSomeOf : List Text → List Text → Type 0 where
  NoText : AreSomeOf [] []
  Kept : (text : Text) (some all : List Text) → AreSomeOf some all → AreSomeOf (text ∷ some) (text ∷ all)
  Left : (text : Text) (some all : List Text) → AreSomeOf some all → AreSomeOf some (text ∷ all)

joined : (some all more rest : List Text) → AreSomeOf some all → AreSomeOf more rest → AreSomeOf (some ++ more) (all ++ rest)
joined some all more rest NoText r = r
joined some all more rest (Kept text part whole s) r = Kept text (part ++ more) (whole ++ rest) (joined part whole more rest s r)
joined some all more rest (Left text part whole s) r = Left text (part ++ more) (whole ++ rest) (joined part whole more rest s r)

live_without : (name : List ℕ) (group : Group) → AreSomeOf (live_texts (map (struck name) group)) (live_texts group)
live_without name [] = NoText
live_without name (member ∷ group) = by member.1 (bytes_eq member.0.name name) (live_without name group)
  where
    by : (live same : Bool) → AreSomeOf (live_texts (map (struck name) group)) (live_texts group) → AreSomeOf (live_texts ((member.0, live && not same) ∷ map (struck name) group)) (live_texts ((member.0, live) ∷ group))
    by true true rest = Left member.0 (live_texts (map (struck name) group)) (live_texts group) rest
    by true false rest = Kept member.0 (live_texts (map (struck name) group)) (live_texts group) rest
    by false same rest = rest

corpus_without : (name : List ℕ) (groups : List Group) → AreSomeOf (corpus_of (without name groups)) (corpus_of groups)
corpus_without name [] = NoText
corpus_without name (group ∷ groups) = joined _ _ _ _ (live_without name group) (corpus_without name groups)

-- no name among these is this one
abbrev IsFree : List ℕ → List (List ℕ) → Type 0
IsFree name names = (k : ℕ) (d : List ℕ) → k < length names → name ≢ get_or names k d

free_of_some : (name : List ℕ) (some all : List Text) → AreSomeOf some all → IsFree name (map (λ t. t.name) all) → IsFree name (map (λ t. t.name) some)
free_of_some name some all NoText free = free
free_of_some name some all (Kept text part whole s) free = by (free_of_some name part whole s (λ j e h. free (suc j) e (omega arith)))
  where
    by : IsFree name (map (λ t. t.name) part) → (k : ℕ) (d : List ℕ) → k < length (map (λ t. t.name) (text ∷ part)) → name ≢ get_or (map (λ t. t.name) (text ∷ part)) k d
    by rest zero d low = free zero d (omega arith)
    by rest (suc k) d low = rest k d (omega arith)
free_of_some name some all (Left text part whole s) free = free_of_some name part whole s (λ j e h. free (suc j) e (omega arith))

one_apart : (name : List ℕ) (names : List (List ℕ)) → IsFree name names → AreDistinct names → AreDistinct (name ∷ names)
one_apart name names free rest = by
  where
    by : (i j : ℕ) (d : List ℕ) → i < j → j < length (name ∷ names) → get_or (name ∷ names) i d ≢ get_or (name ∷ names) j d
    by i zero d low high = absurd (omega arith)
    by zero (suc j) d low high = free j d (omega arith)
    by (suc i) (suc j) d low high = rest i j d (omega arith) (omega arith)

some_apart : (some all : List Text) → AreSomeOf some all → AreDistinct (map (λ t. t.name) all) → AreDistinct (map (λ t. t.name) some)
some_apart some all NoText distinct = distinct
some_apart some all (Kept text part whole s) distinct =
    one_apart text.name (map (λ t. t.name) part) (free_of_some text.name part whole s (λ k d low. distinct zero (suc k) d (omega arith) (omega arith)))
    (some_apart part whole s (λ i j d low high. distinct (suc i) (suc j) d (omega arith) (omega arith)))
some_apart some all (Left text part whole s) distinct = some_apart part whole s (λ i j d low high. distinct (suc i) (suc j) d (omega arith) (omega arith))

all_without : (name : List ℕ) (group : Group) → all_texts (map (struck name) group) ≡ all_texts group
all_without name [] = refl
all_without name (member ∷ group) = ap (λ (texts : List Text). member.0 ∷ texts) (all_without name group)

kept_without : (name : List ℕ) (groups : List Group) → kept_texts (without name groups) ≡ kept_texts groups
kept_without name [] = refl
kept_without name (group ∷ groups) = ap (λ (texts : List Text). texts ++ kept_texts (without name groups)) (all_without name group) ∙ ap (λ (texts : List Text). all_texts group ++ texts) (kept_without name groups)

long_without : (name : List ℕ) (groups : List Group) → All (λ group. 0 < length group) groups → All (λ group. 0 < length group) (without name groups)
long_without name [] some = some
long_without name (group ∷ groups) some =
    All-cons (λ (g : Group). 0 < length g) (map (struck name) group) (without name groups) (let h : 0 < length group = some 0 group (omega arith) in omega (arith, length-map {A = Text × Bool} {B = Text × Bool} group))
    (long_without name groups (λ k d low. some (suc k) d (omega arith)))

pub without_valid : (held : Held) (name : List ℕ) → ValidHeld held → ValidHeld (without_text held name)
without_valid held name valid =
    let kept = kept_without name held.groups in
    record {
      registry = valid.registry;
      groups = record {
        texts = rw kept valid.groups.texts;
        distinct = some_apart (corpus_of (without name held.groups)) (corpus_of held.groups) (corpus_without name held.groups) valid.groups.distinct;
        few = rw kept valid.groups.few;
        short = rw kept valid.groups.short;
        some = long_without name held.groups valid.groups.some;
      };
      grammar = valid.grammar;
    }

-- ## Texts by their names

name_there : (texts : List Text) (k : ℕ) (d : List ℕ) (text : Text) → k < length texts → get_or (map (λ t. t.name) texts) k d ≡ (get_or texts k text).name
name_there [] k d text low = absurd (omega arith)
name_there (t ∷ texts) zero d text low = refl
name_there (t ∷ texts) (suc k) d text low = name_there texts k d text (omega arith)

same_there : (texts : List Text) (k : ℕ) (a b : Text) → k < length texts → get_or texts k a ≡ get_or texts k b
same_there [] k a b low = absurd (omega arith)
same_there (t ∷ texts) zero a b low = refl
same_there (t ∷ texts) (suc k) a b low = same_there texts k a b (omega arith)

before_not : (texts : List Text) → AreDistinct (map (λ t. t.name) texts) → (a b : Text) (i j : ℕ) → i < length texts → j < length texts → get_or texts i a ≡ a → get_or texts j b ≡ b → a.name ≡ b.name → i < j → ⊥
before_not texts distinct a b i j low high e f same before =
    distinct i j a.name before (omega (arith, length-map {A = Text} {B = List ℕ} texts))
    (name_there texts i a.name a low ∙ ap (λ (t : Text). t.name) e ∙ same ∙ sym (name_there texts j a.name b high ∙ ap (λ (t : Text). t.name) f))

-- of texts that differ in their names one has this name
pub one_named : (texts : List Text) → AreDistinct (map (λ t. t.name) texts) → (a b : Text) → Contains texts a → Contains texts b → a.name ≡ b.name → a ≡ b
one_named texts distinct a b c d same = elim (cases_lt c.0 d.0) [
  | inl low ↦ absurd (before_not texts distinct a b c.0 d.0 c.1 d.1 c.2 d.2 same low)
  | inr high ↦ elim (cases_lt d.0 c.0) [
    | inl low ↦ absurd (before_not texts distinct b a d.0 c.0 d.1 c.1 d.2 c.2 (sym same) low)
    | inr low ↦ let e : c.0 ≡ d.0 = omega arith in sym c.2 ∙ same_there texts c.0 a b c.1 ∙ ap (λ (k : ℕ). get_or texts k b) e ∙ d.2
  ]
]
