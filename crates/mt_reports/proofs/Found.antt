-- Which text of a segment a live text of the corpus is.
use Rattle.std.proofs.Common.{◌≡◌, ℕ, zero, suc, ◌+◌, ◌-◌, ◌<◌, ◌≤◌, Bool, true, false, cond, List, [], ◌∷◌, ◌++◌, length, take, map, get_or, slice_get, refl, sym, ◌∙◌, ap, subst, arith}
use Rattle.std.specs.List.{AllZip, filter}
use Rattle.std.proofs.lemmas.List.{length-map, length-append, get_or-map, get_or_default}
use Rattle.std.proofs.lemmas.List.Sums.{sum_by-cons}
use Rattle.mt_text_spec.specs.Registries.{Registry}
use Rattle.mt_text_spec.specs.Texts.{Text}
use Rattle.mt_match_spec.specs.Values.{Images}
use Rattle.mt_segment_spec.specs.Tables.{Tables, AreTablesOf}
use Rattle.mt_corpus_spec.specs.Groups.{Group, all_texts, live_texts, corpus_of}
use Rattle.mt_report_spec.specs.Held.{StandFor, live_numbers}
use Rattle.mt_reports.specs.Places.{Stands, texts_of}

-- ## Lists

pub zip_at : {A B : Type 0} (R : A → B → Type 0) (xs : List A) (ys : List B) (i : ℕ) (d : A) (e : B) → AllZip R xs ys → i < length xs → R (get_or xs i d) (get_or ys i e)
zip_at R [] ys i d e all l = absurd (omega arith)
zip_at R (x ∷ xs) [] i d e all l = absurd all
zip_at R (x ∷ xs) (y ∷ ys) zero d e all l = all.0
zip_at R (x ∷ xs) (y ∷ ys) (suc i) d e all l = zip_at R xs ys i d e all.1 (omega arith)

pub zip_length : {A B : Type 0} (R : A → B → Type 0) (xs : List A) (ys : List B) → AllZip R xs ys → length xs ≡ length ys
zip_length R [] [] all = refl
zip_length R [] (y ∷ ys) all = absurd all
zip_length R (x ∷ xs) [] all = absurd all
zip_length R (x ∷ xs) (y ∷ ys) all = ap suc (zip_length R xs ys all.1)

get_left : {X : Type 0} (xs ys : List X) (k : ℕ) → k < length xs → slice_get (xs ++ ys) k ≡ slice_get xs k
get_left [] ys k l = absurd (omega arith)
get_left (x ∷ xs) ys zero l = refl
get_left (x ∷ xs) ys (suc k) l = get_left xs ys k (omega arith)

get_right : {X : Type 0} (xs ys : List X) (k : ℕ) → slice_get (xs ++ ys) (length xs + k) ≡ slice_get ys k
get_right [] ys k = let none : 0 + k ≡ k = omega arith in ap (slice_get ys) none
get_right (x ∷ xs) ys k = ap (slice_get (x ∷ xs ++ ys)) next ∙ get_right xs ys k
  where
    next : length (x ∷ xs) + k ≡ suc (length xs + k)
    next = omega arith

-- ## Live texts

pub count_live : (first : ℕ) (group : Group) → length (live_numbers first group) ≡ length (live_texts group)
count_live first [] = refl
count_live first (member ∷ members) = by member.1 (count_live (first + 1) members)
  where
    by : (live : Bool) → length (live_numbers (first + 1) members) ≡ length (live_texts members) →
        length (cond live (first ∷ live_numbers (first + 1) members) (live_numbers (first + 1) members)) ≡ length (map (λ (m : Text × Bool). m.0) (cond live (member ∷ filter (λ (m : Text × Bool). m.1) members) (filter (λ (m : Text × Bool). m.1) members)))
    by true rest = ap suc rest
    by false rest = rest

-- the number that stands at a place of the live ones is that of the live text with this place
record IsMarked (group : Group) (first : ℕ) (numbers : List ℕ) (texts : List Text) (k : ℕ) : Type 0 where
  from : first ≤ get_or numbers k 0
  there : slice_get (all_texts group) (get_or numbers k 0 - first) ≡ slice_get texts k

one_on : (x : Text) (xs : List Text) (n first : ℕ) → first + 1 ≤ n → slice_get (x ∷ xs) (n - first) ≡ slice_get xs (n - (first + 1))
one_on x xs n first l = ap (slice_get (x ∷ xs)) next
  where
    next : n - first ≡ suc (n - (first + 1))
    next = omega arith

marked : (group : Group) (first k : ℕ) → k < length (live_numbers first group) → IsMarked group first (live_numbers first group) (live_texts group) k
marked [] first k l = absurd (omega arith)
marked (member ∷ members) first k l = by (λ j m. on j (marked members (first + 1) j m)) member.1 k l
  where
    on : (k : ℕ) → IsMarked members (first + 1) (live_numbers (first + 1) members) (live_texts members) k → IsMarked (member ∷ members) first (live_numbers (first + 1) members) (live_texts members) k
    on k rest = record {
      from = omega (arith, rest.from);
      there = one_on member.0 (all_texts members) (get_or (live_numbers (first + 1) members) k 0) first rest.from ∙ rest.there;
    }

    by : ((k : ℕ) → k < length (live_numbers (first + 1) members) → IsMarked (member ∷ members) first (live_numbers (first + 1) members) (live_texts members) k) →
        (live : Bool) (k : ℕ) → k < length (cond live (first ∷ live_numbers (first + 1) members) (live_numbers (first + 1) members)) →
        IsMarked (member ∷ members) first (cond live (first ∷ live_numbers (first + 1) members) (live_numbers (first + 1) members)) (map (λ (m : Text × Bool). m.0) (cond live (member ∷ filter (λ (m : Text × Bool). m.1) members) (filter (λ (m : Text × Bool). m.1) members))) k
    by rests true zero l = record { from = omega arith; there = let none : first - first ≡ 0 = omega arith in ap (slice_get (all_texts (member ∷ members))) none }
    by rests true (suc k) l = let rest = rests k (omega arith) in record { from = rest.from; there = rest.there }
    by rests false k l = rests k l

-- ## The corpus

numbers_of : List Group → List (List ℕ)
numbers_of groups = map (live_numbers 0) groups

pub total_live : (groups : List Group) → texts_of (map (live_numbers 0) groups) ≡ length (corpus_of groups)
total_live [] = refl
total_live (group ∷ groups) =
    sum_by-cons (λ (numbers : List ℕ). length numbers) (live_numbers 0 group) (map (live_numbers 0) groups)
    ∙ omega (arith, count_live 0 group, total_live groups, length-append (live_texts group) (corpus_of groups))

located : (groups : List Group) (segment before text : ℕ) → segment < length groups → before ≡ texts_of (take segment (map (live_numbers 0) groups)) → before ≤ text →
    text < before + length (live_texts (get_or groups segment [])) → slice_get (corpus_of groups) text ≡ slice_get (live_texts (get_or groups segment [])) (text - before)
located [] segment before text l is from to = absurd (omega arith)
located (group ∷ groups) zero before text l is from to =
    let none : before ≡ 0 = is in
    let same : text - before ≡ text = omega arith in
    get_left (live_texts group) (corpus_of groups) text (omega arith) ∙ ap (slice_get (live_texts group)) (sym same)
located (group ∷ groups) (suc segment) before text l is from to =
    let size = length (live_texts group) in
    let rest = texts_of (take segment (map (live_numbers 0) groups)) in
    let parts : before ≡ size + rest = is ∙ sum_by-cons (λ (numbers : List ℕ). length numbers) (live_numbers 0 group) (take segment (map (live_numbers 0) groups)) ∙ ap (λ n. n + rest) (count_live 0 group) in
    let split : text ≡ size + (text - size) = omega arith in
    let same : text - size - rest ≡ text - before = omega arith in
    ap (slice_get (live_texts group ++ corpus_of groups)) split ∙ get_right (live_texts group) (corpus_of groups) (text - size)
    ∙ located groups segment rest (text - size) (omega arith) refl (omega arith) (omega arith) ∙ ap (slice_get (live_texts (get_or groups segment []))) same

-- The text of a segment that a live text is, by the numbers of the live texts.
pub record IsFound (images : Images) (registry : Registry) (groups : List Group) (text segment number : ℕ) (tables : Tables) : Type 0 where
  pub are : AreTablesOf images registry (all_texts (get_or groups segment [])) tables
  pub there : slice_get (corpus_of groups) text ≡ slice_get (all_texts (get_or groups segment [])) number

pub found : (images : Images) (registry : Registry) (groups : List Group) (segments : List Tables) (live : List (List ℕ)) (text segment before : ℕ) (tables : Tables) (numbers : List ℕ) (number : ℕ) →
    StandFor images registry groups segments live → Stands live text segment before → tables ≡ get_or segments segment tables → numbers ≡ get_or live segment numbers →
    number ≡ get_or numbers (text - before) number → IsFound images registry groups text segment number tables
found images registry groups segments live text segment before tables numbers number stand stands tables_are numbers_are number_is = record {
  are = subst (AreTablesOf images registry (all_texts (get_or groups segment []))) (sym tables_are) (zip_at _ groups segments segment [] tables stand.tables inside);
  there = located groups segment before text inside (stands.at.count ∙ ap (λ (all : List (List ℕ)). texts_of (take segment all)) stand.marks) stands.from
      (omega (arith, stands.to, count_live 0 group, ap length same)) ∙ sym (marks.there) ∙ ap (slice_get (all_texts group)) place;
}
  where
    inside : segment < length groups
    inside = omega (arith, stands.inside, ap length stand.marks, length-map groups (live_numbers 0))

    group : Group
    group = get_or groups segment []

    same : get_or live segment [] ≡ live_numbers 0 group
    same = ap (λ (all : List (List ℕ)). get_or all segment []) stand.marks ∙ get_or-map (live_numbers 0) groups segment [] [] inside

    numbers_same : numbers ≡ live_numbers 0 group
    numbers_same = numbers_are ∙ get_or_default live segment numbers [] stands.inside ∙ same

    within : text - before < length (live_numbers 0 group)
    within = omega (arith, stands.to, stands.from, ap length same)

    marks : IsMarked group 0 (live_numbers 0 group) (live_texts group) (text - before)
    marks = marked group 0 (text - before) within

    place : get_or (live_numbers 0 group) (text - before) 0 - 0 ≡ number
    place =
        let zero_less : get_or (live_numbers 0 group) (text - before) 0 - 0 ≡ get_or (live_numbers 0 group) (text - before) 0 = omega arith in
        zero_less ∙ get_or_default (live_numbers 0 group) (text - before) 0 number within ∙ ap (λ (all : List ℕ). get_or all (text - before) number) (sym numbers_same) ∙ sym number_is
