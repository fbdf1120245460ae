-- Notes by the numbers of other names and words, and notes that are counted block by block.
use Rattle.std.proofs.Common.{◌≡◌, ℕ, ◌+◌, ◌-◌, ◌<◌, ◌≤◌, true, Option, None, Some, List, [], ◌∷◌, ◌++◌, length, map, take, drop, get_or, refl, sym, ap, subst, ◌∙◌, arith}
use Rattle.std.specs.Prelude.{IfSome, option_map, slice_range}
use Rattle.std.specs.List.{All, flat_map}
use Rattle.std.specs.Map.{keys_of}
use Rattle.std.proofs.lemmas.List.{length-take}
use Rattle.std.proofs.Math.Seq.{take-add}
use Rattle.std.proofs.lemmas.List.Folds.{flat_map-map}
use Rattle.std.proofs.lemmas.List.Elements.{All-nil, All-cons, All-head, All-tail}
use Rattle.std.proofs.lemmas.Option.{slice_get_within, slice_get-get_or}
use Rattle.mt_counts.specs.Names.{AreRenumbered}
use Rattle.mt_counts.specs.Totals.{total}
use Rattle.mt_counts.specs.Counted.{Counted, HaveSame, IsSum, IsWithin, is_three, is_two}
use Rattle.mt_counts.specs.Tables.{AreGrown, HasRoomFor, counted, named_word, text_at, three_of}
use Rattle.mt_counts.specs.Notes.{IsNoteIn, noted, renumbered, with_one, with_two}
use Rattle.mt_counts.specs.declared.note.Note.{Note}
use Rattle.mt_counts.specs.declared.tables.Tables.{Tables}
use Rattle.mt_counts.proofs.Joined.{both_texts, first_texts, second_texts, alone_texts, flat_equal, noted_joined, some_so}
use Rattle.mt_counts.proofs.Sums.{text_moved}
use Rattle.mt_counts.proofs.Totals.{total-append, total-grown, total-map}

-- ---- notes by other numbers

below_renumbered : (old new : List (List ℕ)) (numbers : List ℕ) (k : ℕ) → AreRenumbered old new numbers → k < length old → get_or numbers k 0 < length new
below_renumbered old new numbers k h l = slice_get_within new (get_or numbers k 0) (get_or old k []) (h.each k (get_or old k []) (slice_get-get_or old k [] l))

two_moved : {K : Type 0} (o : Option ℕ) (w : ℕ → ℕ) (f g : ℕ → K) → IfSome o (λ second. f (w second) ≡ g second) → with_two (option_map w o) f ≡ with_two o g
two_moved None w f g e = refl
two_moved {K} (Some second) w f g e = ap (λ (key : K). (key, 1) ∷ []) e

one_moved : {K : Type 0} (o : Option ℕ) (w : ℕ → ℕ) (key other : K) → key ≡ other → with_one (option_map w o) key ≡ with_one o other
one_moved {K} None w key other e = ap (λ (k : K). (k, 1) ∷ []) e
one_moved (Some second) w key other e = refl

some_moved : (o : Option ℕ) (w : ℕ → ℕ) (P Q : ℕ → Type 0) → ((n : ℕ) → P n → Q (w n)) → IfSome o P → IfSome (option_map w o) Q
some_moved None w P Q f h = h
some_moved (Some n) w P Q f h = f n h

module _ (names words names' words' : List (List ℕ)) (n w : List ℕ) (names_are : AreRenumbered names names' n) (words_are : AreRenumbered words words' w) where
  moved : Note → Note
  moved note = renumbered n w note

  note_moved : (note : Note) → IsNoteIn names words note → IsNoteIn names' words' (renumbered n w note)
  note_moved note h = record {
    name = below_renumbered names names' n note.name names_are h.name;
    first = below_renumbered words words' w note.first words_are h.first;
    second = some_moved note.second (λ k. get_or w k 0) (λ k. k < length words) (λ k. k < length words') (λ k l. below_renumbered words words' w k words_are l) h.second;
  }

  pub notes_moved : (notes : List Note) → All (IsNoteIn names words) notes → All (IsNoteIn names' words') (map (renumbered n w) notes)
  notes_moved [] h = All-nil (IsNoteIn names' words')
  notes_moved (note ∷ notes) h = All-cons (IsNoteIn names' words') (renumbered n w note) (map (renumbered n w) notes) (note_moved note (All-head (IsNoteIn names words) note notes h)) (notes_moved notes (All-tail (IsNoteIn names words) note notes h))

  name_moved : (k : ℕ) → k < length names → text_at names' (get_or n k 0) ≡ text_at names k
  name_moved k l = text_moved names names' n k names_are l

  word_moved : (k : ℕ) → k < length words → text_at words' (get_or w k 0) ≡ text_at words k
  word_moved k l = text_moved words words' w k words_are l

  pub noted_moved : (notes : List Note) → All (IsNoteIn names words) notes → noted names' words' (map (renumbered n w) notes) ≡ noted names words notes
  noted_moved notes h = λ i. record {
    both = (flat_map-map (both_texts names' words') (renumbered n w) notes ∙ flat_equal (IsNoteIn names words) (λ note. both_texts names' words' (renumbered n w note)) (both_texts names words) notes h
        (λ note is. two_moved note.second (λ k. get_or w k 0) (λ second. (text_at names' (get_or n note.name 0), text_at words' (get_or w note.first 0), text_at words' second)) (λ second. (text_at names note.name, text_at words note.first, text_at words second))
        (some_so note.second (λ m. m < length words) _ (λ m l. λ j. (name_moved note.name is.name j, word_moved note.first is.first j, word_moved m l j)) is.second))) i;
    first = (flat_map-map (first_texts names' words') (renumbered n w) notes ∙ flat_equal (IsNoteIn names words) (λ note. first_texts names' words' (renumbered n w note)) (first_texts names words) notes h
        (λ note is. two_moved note.second (λ k. get_or w k 0) (λ second. (text_at names' (get_or n note.name 0), text_at words' (get_or w note.first 0))) (λ second. (text_at names note.name, text_at words note.first))
        (some_so note.second (λ m. m < length words) _ (λ m l. λ j. (name_moved note.name is.name j, word_moved note.first is.first j)) is.second))) i;
    second = (flat_map-map (second_texts names' words') (renumbered n w) notes ∙ flat_equal (IsNoteIn names words) (λ note. second_texts names' words' (renumbered n w note)) (second_texts names words) notes h
        (λ note is. two_moved note.second (λ k. get_or w k 0) (λ second. (text_at names' (get_or n note.name 0), text_at words' second)) (λ second. (text_at names note.name, text_at words second))
        (some_so note.second (λ m. m < length words) _ (λ m l. λ j. (name_moved note.name is.name j, word_moved m l j)) is.second))) i;
    alone = (flat_map-map (alone_texts names' words') (renumbered n w) notes ∙ flat_equal (IsNoteIn names words) (λ note. alone_texts names' words' (renumbered n w note)) (alone_texts names words) notes h
        (λ note is. one_moved note.second (λ k. get_or w k 0) (text_at names' (get_or n note.name 0), text_at words' (get_or w note.first 0)) (text_at names note.name, text_at words note.first)
        (λ j. (name_moved note.name is.name j, word_moved note.first is.first j)))) i;
  }

-- ---- room

pub room_grown : (t g : Tables) (more less : ℕ) → AreGrown t g → less ≤ more → HasRoomFor t more → HasRoomFor g less
room_grown t g more less h l room = record {
  rows = omega (arith, l, room.rows, total-grown (λ key. true) t.rows g.rows h.rows);
  both = omega (arith, l, room.both, total-grown (λ key. true) t.both g.both h.both);
  columns = omega (arith, l, room.columns, total-grown (λ key. true) t.columns g.columns h.columns);
  alone = omega (arith, l, room.alone, total-grown (λ key. true) t.alone g.alone h.alone);
}

two_fewer : {K : Type 0} (o : Option ℕ) (key : ℕ → K) → total (λ k. true) (with_two o key) ≤ 1
two_fewer None key = omega arith
two_fewer (Some second) key = omega arith

one_fewer : {K : Type 0} (o : Option ℕ) (key : K) → total (λ k. true) (with_one o key) ≤ 1
one_fewer None key = omega arith
one_fewer (Some second) key = omega arith

fewer : {K : Type 0} (f : Note → List (K × ℕ)) (notes : List Note) → ((note : Note) → total (λ k. true) (f note) ≤ 1) → total (λ k. true) (flat_map f notes) ≤ length notes
fewer f [] h = omega arith
fewer f (note ∷ notes) h = omega (arith, total-append (λ k. true) (f note) (flat_map f notes), h note, fewer f notes h)

pub room_left : (t u : Tables) (names words : List (List ℕ)) (notes : List Note) (all more : ℕ) → IsSum (counted t) (noted names words notes) (counted u) → length notes + more ≤ all → HasRoomFor t all → HasRoomFor u more
room_left t u names words notes all more sum l room = record {
  rows = omega (arith, l, room.rows, sum.first (λ k. true), fewer (first_texts names words) notes (λ note. two_fewer note.second (λ second. (text_at names note.name, text_at words note.first))), total-map (named_word t.names t.words) (λ k. true) t.rows, total-map (named_word u.names u.words) (λ k. true) u.rows);
  both = omega (
    arith,
    l,
    room.both,
    sum.both (λ k. true),
    fewer (both_texts names words) notes (λ note. two_fewer note.second (λ second. (text_at names note.name, text_at words note.first, text_at words second))),
    total-map (three_of t.names t.words (keys_of t.rows)) (λ k. true) t.both,
    total-map (three_of u.names u.words (keys_of u.rows)) (λ k. true) u.both,
  );
  columns = omega (arith, l, room.columns, sum.second (λ k. true), fewer (second_texts names words) notes (λ note. two_fewer note.second (λ second. (text_at names note.name, text_at words second))), total-map (named_word t.names t.words) (λ k. true) t.columns, total-map (named_word u.names u.words) (λ k. true) u.columns);
  alone = omega (arith, l, room.alone, sum.alone (λ k. true), fewer (alone_texts names words) notes (λ note. one_fewer note.second (text_at names note.name, text_at words note.first)), total-map (named_word t.names t.words) (λ k. true) t.alone, total-map (named_word u.names u.words) (λ k. true) u.alone);
}

-- ---- block by block

pub same_then : (a b c : Counted) → HaveSame a b → HaveSame b c → HaveSame a c
same_then a b c h g = record { both = λ p. g.both p ∙ h.both p; first = λ p. g.first p ∙ h.first p; second = λ p. g.second p ∙ h.second p; alone = λ p. g.alone p ∙ h.alone p }

pub sum_then : (names words : List (List ℕ)) (xs ys all : List Note) (a b c : Counted) → all ≡ xs ++ ys → IsSum a (noted names words xs) b → IsSum b (noted names words ys) c → IsSum a (noted names words all) c
sum_then names words xs ys all a b c e h g =
    let joined = noted_joined names words xs ys in
    subst (λ (ns : List Note). IsSum a (noted names words ns) c) (sym e) (record {
      both = λ p. omega (arith, h.both p, g.both p, joined.both p);
      first = λ p. omega (arith, h.first p, g.first p, joined.first p);
      second = λ p. omega (arith, h.second p, g.second p, joined.second p);
      alone = λ p. omega (arith, h.alone p, g.alone p, joined.alone p);
    })

pub nothing_added : (names words : List (List ℕ)) (now : Counted) → IsSum now (noted names words []) now
nothing_added names words now = record { both = λ p. omega arith; first = λ p. omega arith; second = λ p. omega arith; alone = λ p. omega arith }

-- what is added and taken away again leaves all as it was
pub taken_back : (first part now stopped new : Counted) → IsSum first part now → HaveSame now stopped → (IsWithin part stopped → IsSum part new stopped) → HaveSame first new
taken_back first part now stopped new sum same taken =
    let back = taken (record {
      both = λ n x y. omega (arith, sum.both (is_three n x y), same.both (is_three n x y));
      first = λ n x. omega (arith, sum.first (is_two n x), same.first (is_two n x));
      second = λ n y. omega (arith, sum.second (is_two n y), same.second (is_two n y));
      alone = λ n x. omega (arith, sum.alone (is_two n x), same.alone (is_two n x));
    }) in
    record {
      both = λ p. omega (arith, sum.both p, same.both p, back.both p);
      first = λ p. omega (arith, sum.first p, same.first p, back.first p);
      second = λ p. omega (arith, sum.second p, same.second p, back.second p);
      alone = λ p. omega (arith, sum.alone p, same.alone p, back.alone p);
    }

pub notes_as : (names words names' words' : List (List ℕ)) (notes notes' : List Note) → names' ≡ names → words' ≡ words → notes' ≡ notes → All (IsNoteIn names words) notes → All (IsNoteIn names' words') notes'
notes_as names words names' words' notes notes' n w is h =
    subst (λ (ns : List Note). All (IsNoteIn names' words') ns) (sym is) (subst (λ (ws : List (List ℕ)). All (IsNoteIn names' ws) notes) (sym w) (subst (λ (ns : List (List ℕ)). All (IsNoteIn ns words) notes) (sym n) h))

-- numbers that stay, of texts that stay
pub numbered_as : (texts old new : List (List ℕ)) (numbers others : List ℕ) → new ≡ old → others ≡ numbers → AreRenumbered texts old numbers → AreRenumbered texts new others
numbered_as texts old new numbers others t n h = subst (λ (ns : List ℕ). AreRenumbered texts new ns) (sym n) (subst (λ (ts : List (List ℕ)). AreRenumbered texts ts numbers) (sym t) h)

-- the notes behind the first ones
pub taken_slice : (notes : List Note) (done size : ℕ) → take (done + size) notes ≡ take done notes ++ slice_range notes done (done + size)
taken_slice notes done size =
    let count : size ≡ done + size - done = omega arith in
    take-add done size notes ∙ ap (λ (n : ℕ). take done notes ++ take n (drop done notes)) count

pub slice_count : (notes : List Note) (done size : ℕ) → length (slice_range notes done (done + size)) ≤ size
slice_count notes done size = omega (arith, length-take (done + size - done) (drop done notes))
