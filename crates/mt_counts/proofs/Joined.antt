-- What more notes count, and what the same ones count beside more names and words.
use Rattle.std.proofs.Common.{◌≡◌, ℕ, ◌+◌, ◌<◌, ◌≤◌, Bool, Option, None, Some, List, [], ◌∷◌, ◌++◌, length, take, drop, get_or, slice_get, ap, ap₂, refl, sym, subst, ◌∙◌, arith}
use Rattle.std.specs.Prelude.{IfSome}
use Rattle.std.specs.List.{All, flat_map}
use Rattle.std.proofs.lemmas.Grind.{flat_map-append}
use Rattle.std.proofs.lemmas.List.{take_more, take_all, take-append-drop}
use Rattle.std.proofs.lemmas.List.Elements.{All-head, All-tail}
use Rattle.mt_counts.specs.Totals.{total}
use Rattle.mt_counts.specs.Names.{Begins}
use Rattle.mt_counts.specs.Counted.{Counted, IsSum, IsWithin, HaveSame, is_two, is_three}
use Rattle.mt_counts.specs.Tables.{text_at}
use Rattle.mt_counts.specs.Notes.{IsNoteIn, with_two, with_one, noted, two_counted, one_counted}
use Rattle.mt_counts.specs.declared.note.Note.{Note}
use Rattle.mt_counts.proofs.Totals.{total-append}
use Rattle.mt_counts.proofs.Keys.{text_is}
use Rattle.mt_counts.proofs.Sums.{text_grown}

-- what one note counts, under its texts
abbrev pub both_texts : (names words : List (List ℕ)) → Note → List ((List ℕ × List ℕ × List ℕ) × ℕ)
both_texts names words note = with_two note.second (λ second. (text_at names note.name, text_at words note.first, text_at words second))

abbrev pub first_texts : (names words : List (List ℕ)) → Note → List ((List ℕ × List ℕ) × ℕ)
first_texts names words note = with_two note.second (λ second. (text_at names note.name, text_at words note.first))

abbrev pub second_texts : (names words : List (List ℕ)) → Note → List ((List ℕ × List ℕ) × ℕ)
second_texts names words note = with_two note.second (λ second. (text_at names note.name, text_at words second))

abbrev pub alone_texts : (names words : List (List ℕ)) → Note → List ((List ℕ × List ℕ) × ℕ)
alone_texts names words note = with_one note.second (text_at names note.name, text_at words note.first)

-- ---- notes behind notes

joined : {X K : Type 0} (f : X → List (K × ℕ)) (p : K → Bool) (xs ys : List X) → total p (flat_map f (xs ++ ys)) ≡ total p (flat_map f xs) + total p (flat_map f ys)
joined {X} {K} f p xs ys = ap (λ (es : List (K × ℕ)). total p es) (flat_map-append f xs ys) ∙ total-append p (flat_map f xs) (flat_map f ys)

pub noted_joined : (names words : List (List ℕ)) (xs ys : List Note) → IsSum (noted names words xs) (noted names words ys) (noted names words (xs ++ ys))
noted_joined names words xs ys = record {
  both = λ p. joined (both_texts names words) p xs ys;
  first = λ p. joined (first_texts names words) p xs ys;
  second = λ p. joined (second_texts names words) p xs ys;
  alone = λ p. joined (alone_texts names words) p xs ys;
}

pub same_counts : (a b : Counted) → b ≡ a → HaveSame a b
same_counts a b e = record {
  both = λ p. ap (λ (c : Counted). total p c.both) e;
  first = λ p. ap (λ (c : Counted). total p c.first) e;
  second = λ p. ap (λ (c : Counted). total p c.second) e;
  alone = λ p. ap (λ (c : Counted). total p c.alone) e;
}

-- ---- the same notes beside more names and words

pub flat_equal : {X A : Type 0} (P : X → Type 0) (f g : X → List A) (xs : List X) → All P xs → ((x : X) → P x → f x ≡ g x) → flat_map f xs ≡ flat_map g xs
flat_equal P f g [] h e = refl
flat_equal P f g (x ∷ xs) h e = ap₂ ◌++◌ (e x (All-head P x xs h)) (flat_equal P f g xs (All-tail P x xs h) e)

two_same : {K : Type 0} (o : Option ℕ) (f g : ℕ → K) → IfSome o (λ second. f second ≡ g second) → with_two o f ≡ with_two o g
two_same None f g e = refl
two_same {K} (Some second) f g e = ap (λ (key : K). (key, 1) ∷ []) e

pub some_so : (o : Option ℕ) (P Q : ℕ → Type 0) → ((n : ℕ) → P n → Q n) → IfSome o P → IfSome o Q
some_so None P Q f h = h
some_so (Some n) P Q f h = f n h

module _ (names words names' words' : List (List ℕ)) (more_names : Begins names names') (more_words : Begins words words') where
  name_same : (n : ℕ) → n < length names → text_at names' n ≡ text_at names n
  name_same n l = text_grown names names' n more_names l

  word_same : (n : ℕ) → n < length words → text_at words' n ≡ text_at words n
  word_same n l = text_grown words words' n more_words l

  pub noted_grown : (notes : List Note) → All (IsNoteIn names words) notes → noted names' words' notes ≡ noted names words notes
  noted_grown notes h = λ i. record {
    both = flat_equal (IsNoteIn names words) (both_texts names' words') (both_texts names words) notes h
        (λ note is. two_same note.second (λ second. (text_at names' note.name, text_at words' note.first, text_at words' second)) (λ second. (text_at names note.name, text_at words note.first, text_at words second))
        (some_so note.second (λ m. m < length words) _ (λ m l. λ j. (name_same note.name is.name j, word_same note.first is.first j, word_same m l j)) is.second)) i;
    first = flat_equal (IsNoteIn names words) (first_texts names' words') (first_texts names words) notes h
        (λ note is. two_same note.second (λ second. (text_at names' note.name, text_at words' note.first)) (λ second. (text_at names note.name, text_at words note.first))
        (some_so note.second (λ m. m < length words) _ (λ m l. λ j. (name_same note.name is.name j, word_same note.first is.first j)) is.second)) i;
    second = flat_equal (IsNoteIn names words) (second_texts names' words') (second_texts names words) notes h
        (λ note is. two_same note.second (λ second. (text_at names' note.name, text_at words' second)) (λ second. (text_at names note.name, text_at words second))
        (some_so note.second (λ m. m < length words) _ (λ m l. λ j. (name_same note.name is.name j, word_same m l j)) is.second)) i;
    alone = flat_equal (IsNoteIn names words) (alone_texts names' words') (alone_texts names words) notes h
        (λ note is. ap (λ (key : List ℕ × List ℕ). with_one note.second key) (λ j. (name_same note.name is.name j, word_same note.first is.first j))) i;
  }

-- ---- one note

pub noted_two : (names words : List (List ℕ)) (note : Note) (number : ℕ) (name first second : List ℕ) → note.second ≡ Some number → slice_get names note.name ≡ Some name → slice_get words note.first ≡ Some first →
    slice_get words number ≡ Some second → two_counted name first second ≡ noted names words (note ∷ [])
noted_two names words note number name first second is name_is first_is second_is =
    let a = text_is names note.name name name_is in
    let b = text_is words note.first first first_is in
    let c = text_is words number second second_is in
    sym ((λ i. record {
      both = with_two (is i) (λ (s : ℕ). (text_at names note.name, text_at words note.first, text_at words s)) ++ [];
      first = with_two (is i) (λ (s : ℕ). (text_at names note.name, text_at words note.first)) ++ [];
      second = with_two (is i) (λ (s : ℕ). (text_at names note.name, text_at words s)) ++ [];
      alone = with_one (is i) (text_at names note.name, text_at words note.first) ++ [];
    }) ∙ (λ i. two_counted (a i) (b i) (c i)))

pub noted_one : (names words : List (List ℕ)) (note : Note) (name word : List ℕ) → note.second ≡ None → slice_get names note.name ≡ Some name → slice_get words note.first ≡ Some word → one_counted name word ≡ noted names words (note ∷ [])
noted_one names words note name word is name_is word_is =
    let a = text_is names note.name name name_is in
    let b = text_is words note.first word word_is in
    sym ((λ i. record {
      both = with_two (is i) (λ (s : ℕ). (text_at names note.name, text_at words note.first, text_at words s)) ++ [];
      first = with_two (is i) (λ (s : ℕ). (text_at names note.name, text_at words note.first)) ++ [];
      second = with_two (is i) (λ (s : ℕ). (text_at names note.name, text_at words s)) ++ [];
      alone = with_one (is i) (text_at names note.name, text_at words note.first) ++ [];
    }) ∙ (λ i. one_counted (a i) (b i)))

-- ---- notes are taken away, one after another

module _ (names words : List (List ℕ)) (notes : List Note) (k : ℕ) where
  pub first_part : IsSum (noted names words (take k notes)) (noted names words (drop k notes)) (noted names words notes)
  first_part = subst (λ (ns : List Note). IsSum (noted names words (take k notes)) (noted names words (drop k notes)) (noted names words ns)) (take-append-drop k notes) (noted_joined names words (take k notes) (drop k notes))

  pub one_more : (d : Note) → k < length notes → IsSum (noted names words (take k notes)) (noted names words (get_or notes k d ∷ [])) (noted names words (take (k + 1) notes))
  one_more d l = subst (λ (ns : List Note). IsSum (noted names words (take k notes)) (noted names words (get_or notes k d ∷ [])) (noted names words ns)) (sym (take_more notes k d l)) (noted_joined names words (take k notes) (get_or notes k d ∷ []))

pub taking_next : (names words : List (List ℕ)) (notes : List Note) (k : ℕ) (d : Note) (first now next : Counted) → k < length notes → (IsWithin (noted names words notes) first → IsSum (noted names words (take k notes)) now first) →
    (IsWithin (noted names words (get_or notes k d ∷ [])) now → IsSum (noted names words (get_or notes k d ∷ [])) next now) → IsWithin (noted names words notes) first → IsSum (noted names words (take (k + 1) notes)) next first
taking_next names words notes k d first now next l before here within =
    let sum = before within in
    let more = one_more names words notes k d l in
    let all = first_part names words notes (k + 1) in
    let taken = here (record {
      both = λ n x y. omega (arith, within.both n x y, sum.both (is_three n x y), more.both (is_three n x y), all.both (is_three n x y));
      first = λ n x. omega (arith, within.first n x, sum.first (is_two n x), more.first (is_two n x), all.first (is_two n x));
      second = λ n y. omega (arith, within.second n y, sum.second (is_two n y), more.second (is_two n y), all.second (is_two n y));
      alone = λ n x. omega (arith, within.alone n x, sum.alone (is_two n x), more.alone (is_two n x), all.alone (is_two n x));
    }) in
    record {
      both = λ p. omega (arith, sum.both p, more.both p, taken.both p);
      first = λ p. omega (arith, sum.first p, more.first p, taken.first p);
      second = λ p. omega (arith, sum.second p, more.second p, taken.second p);
      alone = λ p. omega (arith, sum.alone p, more.alone p, taken.alone p);
    }

pub taking_whole : (names words : List (List ℕ)) (notes : List Note) (k : ℕ) (first now : Counted) → length notes ≤ k → (IsWithin (noted names words notes) first → IsSum (noted names words (take k notes)) now first) →
    IsWithin (noted names words notes) first → IsSum (noted names words notes) now first
taking_whole names words notes k first now l h within = subst (λ (ns : List Note). IsSum (noted names words ns) now first) (take_all k notes l) (h within)

pub taking_none : (names words : List (List ℕ)) (notes : List Note) (now : Counted) → IsSum (noted names words (take 0 notes)) now now
taking_none names words notes now = subst (λ (ns : List Note). IsSum (noted names words ns) now now) (sym (nothing notes)) (record { both = λ p. omega arith; first = λ p. omega arith; second = λ p. omega arith; alone = λ p. omega arith })
  where
    nothing : (ns : List Note) → take 0 ns ≡ []
    nothing [] = refl
    nothing (n ∷ ns) = refl
