-- Entries by the numbers that the counts have, and what they count.
use Rattle.std.proofs.Common.{◌≡◌, ℕ, ◌+◌, ◌<◌, Bool, Option, Some, None, List, [], ◌∷◌, ◌++◌, length, map, get_or, refl, sym, ap₂, subst, ◌∙◌, arith}
use Rattle.std.specs.Prelude.{IfSome}
use Rattle.std.specs.List.{All, AllZip, flat_map}
use Rattle.std.proofs.lemmas.List.{get_or-map, length-map}
use Rattle.std.proofs.lemmas.List.Elements.{All-nil, All-cons}
use Rattle.std.proofs.lemmas.Option.{slice_get_within}
use Rattle.mt_count_spec.specs.Instances.{Instance, AtTwo, AtOne}
use Rattle.mt_counts.specs.Building.{Building}
use Rattle.mt_counts.specs.Counted.{Counted, HaveSame, IsSum}
use Rattle.mt_counts.specs.Notes.{IsNoteIn, noted, with_two, with_one}
use Rattle.mt_counts.specs.Tables.{text_at}
use Rattle.mt_counts.specs.Totals.{total}
use Rattle.mt_counts.specs.declared.note.Note.{Note}
use Rattle.mt_counts.proofs.Numbering.{begins_then, begins_at}
use Rattle.mt_counts.proofs.Totals.{total-append}
use Rattle.mt_counts.proofs.Turning.{AreTurning}
use Rattle.mt_triples.specs.Tallied.{twos, ones}
use Rattle.mt_instances.specs.Counting.{AddsEach}
use Rattle.mt_instances.specs.Entries.{instance_at, instance_of, AreNamed}
use Rattle.mt_instances.specs.Gains.{LiesIn}
use Rattle.mt_instances.specs.Numbered.{GoTogether, IsEntryIn, IsNumbered, IsWord, Learns}
use Rattle.mt_instances.proofs.Known.{text_is}

-- ---- names and words are added

same_then : (a b c : Counted) → HaveSame a b → HaveSame b c → HaveSame a c
same_then a b c h g = record {
  both = λ p. g.both p ∙ h.both p;
  first = λ p. g.first p ∙ h.first p;
  second = λ p. g.second p ∙ h.second p;
  alone = λ p. g.alone p ∙ h.alone p;
}

pub learns_then : (a b c : Building) → Learns a b → Learns b c → Learns a c
learns_then a b c h g = record {
  names = begins_then a.names b.names c.names h.names g.names;
  words = begins_then a.words b.words c.words h.words g.words;
  counted = same_then a.counted b.counted c.counted h.counted g.counted;
}

-- ---- what has a number keeps it

module _ (a b : Building) (values : ℕ → List ℕ) (learns : Learns a b) where
  pub word_still : (place number : ℕ) → IsWord a values place number → IsWord b values place number
  word_still place number e = begins_at a.words b.words number (values place) learns.words e

  together_still : (o p : Option ℕ) → GoTogether (IsWord a values) o p → GoTogether (IsWord b values) o p
  together_still None None h = h
  together_still None (Some there) h = absurd h
  together_still (Some here) None h = absurd h
  together_still (Some here) (Some there) h = word_still here there h

  pub numbered_still : (names : List (List ℕ)) (entry note : Note) → IsNumbered a names values entry note → IsNumbered b names values entry note
  numbered_still names entry note h = record {
    name = begins_at a.names b.names note.name (text_at names entry.name) learns.names h.name;
    first = word_still entry.first note.first h.first;
    second = together_still entry.second note.second h.second;
  }

-- ---- the places of an entry

lies_first : (places first : ℕ) (name : List ℕ) (second : Option ℕ) → LiesIn places (instance_at name first second) → first < places
lies_first places first name None h = h
lies_first places first name (Some second) h = h.0

lies_second : (places first : ℕ) (name : List ℕ) (second : Option ℕ) → LiesIn places (instance_at name first second) → IfSome second (λ place. place < places)
lies_second places first name None h = tt
lies_second places first name (Some second) h = h.1

pub first_in : (names : List (List ℕ)) (places : ℕ) (entry : Note) → IsEntryIn names places entry → entry.first < places
first_in names places entry h = lies_first places entry.first (text_at names entry.name) entry.second h.lies

pub second_in : (names : List (List ℕ)) (places : ℕ) (entry : Note) → IsEntryIn names places entry → IfSome entry.second (λ place. place < places)
second_in names places entry h = lies_second places entry.first (text_at names entry.name) entry.second h.lies

pub entries_in : (names : List (List ℕ)) (places : ℕ) (entries : List Note) (given : List Instance) → AreNamed (length names) entries → map (instance_of names) entries ≡ given → All (LiesIn places) given → All (IsEntryIn names places) entries
entries_in names places entries given named is lie k d l = record {
  named = named k d l;
  lies = let all : All (LiesIn places) (map (instance_of names) entries) = subst (All (LiesIn places)) (sym is) lie in
      subst (LiesIn places) (get_or-map (instance_of names) entries k d (instance_of names d) l) (all k (instance_of names d) (omega (arith, l, length-map entries (instance_of names))));
}

-- an entry that has no numbers of the counts yet
pub entry_still : (R : Note → Note → Type 0) (names : List (List ℕ)) (places : ℕ) (first now : List Note) (k : ℕ) (d : Note) → k < length now → All (IsEntryIn names places) first → AreTurning R first now k → IsEntryIn names places (get_or now k d)
entry_still R names places first now k d l all turning = subst (IsEntryIn names places) (sym (turning.rest k d (omega arith))) (all k d (omega (arith, l, turning.count)))

-- ---- what they count

twos-append : (values : ℕ → List ℕ) (test : List ℕ × List ℕ × List ℕ → Bool) (xs ys : List Instance) → twos values test (xs ++ ys) ≡ twos values test xs + twos values test ys
twos-append values test [] ys = omega arith
twos-append values test (AtTwo name p q ∷ xs) ys = let rest = twos-append values test xs ys in omega (arith, rest)
twos-append values test (AtOne name p ∷ xs) ys = twos-append values test xs ys

ones-append : (values : ℕ → List ℕ) (test : List ℕ × List ℕ → Bool) (xs ys : List Instance) → ones values test (xs ++ ys) ≡ ones values test xs + ones values test ys
ones-append values test [] ys = omega arith
ones-append values test (AtTwo name p q ∷ xs) ys = ones-append values test xs ys
ones-append values test (AtOne name p ∷ xs) ys = let rest = ones-append values test xs ys in omega (arith, rest)

module _ (counting : Building) (names : List (List ℕ)) (values : ℕ → List ℕ) where
  note_in : (entry note : Note) → IsNumbered counting names values entry note → IsNoteIn counting.names counting.words note
  note_in entry note h = record {
    name = slice_get_within counting.names note.name (text_at names entry.name) h.name;
    first = slice_get_within counting.words note.first (values entry.first) h.first;
    second = by entry.second note.second h.second;
  }
    where
      by : (o p : Option ℕ) → GoTogether (IsWord counting values) o p → IfSome p (λ number. number < length counting.words)
      by None None g = tt
      by None (Some there) g = absurd g
      by (Some here) None g = absurd g
      by (Some here) (Some there) g = slice_get_within counting.words there (values here) g

  pub notes_in : (entries notes : List Note) → AllZip (IsNumbered counting names values) entries notes → All (IsNoteIn counting.names counting.words) notes
  notes_in [] [] z = All-nil (IsNoteIn counting.names counting.words)
  notes_in [] (n ∷ ns) z = absurd z
  notes_in (e ∷ es) [] z = absurd z
  notes_in (e ∷ es) (n ∷ ns) z = All-cons (IsNoteIn counting.names counting.words) n ns (note_in e n z.0) (notes_in es ns z.1)

  module _ {K : Type 0} (pick : List ℕ × List ℕ × List ℕ → K) (test : K → Bool) where
    two_here : (own x name : List ℕ) (first : ℕ) (o p : Option ℕ) → own ≡ name → x ≡ values first → GoTogether (IsWord counting values) o p →
        total test (with_two p (λ second. pick (own, x, text_at counting.words second))) ≡ twos values (λ key. test (pick key)) (instance_at name first o ∷ [])
    two_here own x name first None None n f g = refl
    two_here own x name first None (Some there) n f g = absurd g
    two_here own x name first (Some here) None n f g = absurd g
    two_here own x name first (Some here) (Some there) n f g =
        let w : text_at counting.words there ≡ values here = text_is counting.words there (values here) g in
        λ i. total test ((pick (n i, f i, w i), 1) ∷ [])

    pub twos_all : (entries notes : List Note) → AllZip (IsNumbered counting names values) entries notes →
        total test (flat_map (λ note. with_two note.second (λ second. pick (text_at counting.names note.name, text_at counting.words note.first, text_at counting.words second))) notes) ≡ twos values (λ key. test (pick key)) (map (instance_of names) entries)
    twos_all [] [] z = refl
    twos_all [] (n ∷ ns) z = absurd z
    twos_all (e ∷ es) [] z = absurd z
    twos_all (e ∷ es) (n ∷ ns) z =
        let counts : Note → List (K × ℕ) = λ note. with_two note.second (λ second. pick (text_at counting.names note.name, text_at counting.words note.first, text_at counting.words second)) in
        let own = text_is counting.names n.name (text_at names e.name) z.0.name in
        let first = text_is counting.words n.first (values e.first) z.0.first in
        let here = two_here (text_at counting.names n.name) (text_at counting.words n.first) (text_at names e.name) e.first e.second n.second own first z.0.second in
        omega (arith, total-append test (counts n) (flat_map counts ns), twos-append values (λ key. test (pick key)) (instance_of names e ∷ []) (map (instance_of names) es), here, twos_all es ns z.1)

  module _ (test : List ℕ × List ℕ → Bool) where
    one_here : (own x name : List ℕ) (first : ℕ) (o p : Option ℕ) → own ≡ name → x ≡ values first → GoTogether (IsWord counting values) o p → total test (with_one p (own, x)) ≡ ones values test (instance_at name first o ∷ [])
    one_here own x name first None None n f g = λ i. total test (((n i, f i), 1) ∷ [])
    one_here own x name first None (Some there) n f g = absurd g
    one_here own x name first (Some here) None n f g = absurd g
    one_here own x name first (Some here) (Some there) n f g = refl

    pub ones_all : (entries notes : List Note) → AllZip (IsNumbered counting names values) entries notes →
        total test (flat_map (λ note. with_one note.second (text_at counting.names note.name, text_at counting.words note.first)) notes) ≡ ones values test (map (instance_of names) entries)
    ones_all [] [] z = refl
    ones_all [] (n ∷ ns) z = absurd z
    ones_all (e ∷ es) [] z = absurd z
    ones_all (e ∷ es) (n ∷ ns) z =
        let counts : Note → List ((List ℕ × List ℕ) × ℕ) = λ note. with_one note.second (text_at counting.names note.name, text_at counting.words note.first) in
        let own = text_is counting.names n.name (text_at names e.name) z.0.name in
        let first = text_is counting.words n.first (values e.first) z.0.first in
        let here = one_here (text_at counting.names n.name) (text_at counting.words n.first) (text_at names e.name) e.first e.second n.second own first z.0.second in
        omega (arith, total-append test (counts n) (flat_map counts ns), ones-append values test (instance_of names e ∷ []) (map (instance_of names) es), here, ones_all es ns z.1)

  pub adds_noted : (a c : Counted) (entries notes : List Note) → HaveSame a counting.counted → IsSum counting.counted (noted counting.names counting.words notes) c → AllZip (IsNumbered counting names values) entries notes → AddsEach values (map (instance_of names) entries) a c
  adds_noted a c entries notes h s z = record {
    both = λ test. s.both test ∙ ap₂ ◌+◌ (h.both test) (twos_all (λ key. key) test entries notes z);
    first = λ test. s.first test ∙ ap₂ ◌+◌ (h.first test) (twos_all (λ key. (key.0, key.1)) test entries notes z);
    second = λ test. s.second test ∙ ap₂ ◌+◌ (h.second test) (twos_all (λ key. (key.0, key.2)) test entries notes z);
    alone = λ test. s.alone test ∙ ap₂ ◌+◌ (h.alone test) (ones_all test entries notes z);
  }
