-- Lists of everything that a property holds of, each once.
use Rattle.std.proofs.Common.{◌≡◌, ◌≢◌, ℕ, ◌+◌, ◌-◌, ◌<◌, ◌≤◌, Bool, true, false, Some, if◌then◌else◌, suc, List, [], ◌∷◌, ◌++◌, length, map, take, append_assoc, get_or, slice_get, refl, sym, ap, subst, ◌∙◌, arith, true≢false, ◌⊎◌, inl, inr, length-append}
use Rattle.std.specs.List.{Contains}
use Rattle.std.specs.Str.{bytes_eq}
use Rattle.std.specs.Cmp.Lexicographic.{bytes_decides}
use Rattle.std.proofs.lemmas.Bool.{cases_lt, and_parts, and_from}
use Rattle.std.proofs.lemmas.List.{take_more, map-append, length-map, get_or-map, get_or_append_left, get_or-append_right}
use Rattle.std.proofs.lemmas.List.Elements.{Contains-append_left, Contains-append_right, Contains-append_cases, Contains-get_or}
use Rattle.std.proofs.lemmas.Option.{slice_get_within, get_or_from_slice_get, slice_get-get_or}
use Rattle.mt_counts.specs.Names.{AreDistinct}
use Rattle.mt_counts.specs.Totals.{total}
use Rattle.mt_counts.specs.Tallies.{IsAt, AreOnce, HasKeysBelow, IsPlaced, ListsOnce}
use Rattle.mt_counts.specs.Counted.{is_two}
use Rattle.mt_counts.specs.Tables.{text_at, named_word, counted, AreInside}
use Rattle.mt_counts.specs.Listed.{IsHead, head_count, entry_at, head_at}
use Rattle.mt_counts.specs.declared.tables.Tables.{Tables}
use Rattle.mt_counts.specs.declared.listing.Head.{Head}
use Rattle.mt_counts.proofs.Totals.{part, total-map, total-one}

-- ---- lists

first_item : {X : Type 0} (xs : List X) → 0 < length xs → X
first_item [] l = absurd (omega (arith, l))
first_item (x ∷ xs) l = x

pub put_map : {X Y : Type 0} (g : X → Y) (xs : List X) (x : X) → Contains xs x → Contains (map g xs) (g x)
put_map g xs x h = (h.0, omega (arith, h.1, length-map xs g), get_or-map g xs h.0 x (g x) h.1 ∙ ap g h.2)

from_map : {X Y : Type 0} (g : X → Y) (xs : List X) (y : Y) → Contains (map g xs) y → (x : X) × Contains xs x × (g x ≡ y)
from_map g xs y h =
    let low : h.0 < length xs = omega (arith, h.1, length-map xs g) in
    let d = first_item xs (omega (arith, low)) in
    (get_or xs h.0 d, Contains-get_or xs h.0 d low, sym (get_or-map g xs h.0 d y low) ∙ h.2)

pub lists_map : {X Y : Type 0} (P : X → Type 0) (Q : Y → Type 0) (g : X → Y) (xs : List X) → ListsOnce P xs → ((x : X) → P x → Q (g x)) → ((y : Y) → Q y → (x : X) × P x × (g x ≡ y)) →
    ((x z : X) → P x → P z → g x ≡ g z → x ≡ z) → ListsOnce Q (map g xs)
lists_map {X} {Y} P Q g xs all there back one = record {
  once = λ i j d l m. λ (same : get_or (map g xs) i d ≡ get_or (map g xs) j d).
      let high : j < length xs = omega (arith, m, length-map xs g) in
      let low : i < length xs = omega (arith, l, high) in
      let x = first_item xs (omega (arith, high)) in
      all.once i j x l high
      (one (get_or xs i x) (get_or xs j x) (all.only (get_or xs i x) (Contains-get_or xs i x low)) (all.only (get_or xs j x) (Contains-get_or xs j x high))
      (sym (get_or-map g xs i x d low) ∙ same ∙ get_or-map g xs j x d high));
  only = λ y h. let f = from_map g xs y h in subst Q f.2 (there f.0 (all.only f.0 f.1));
  each = λ y q. let b = back y q in subst (Contains (map g xs)) b.2 (put_map g xs b.0 (all.each b.0 b.1));
}

-- two lists of things that differ are one list of all of them
pub lists_both : {X : Type 0} (P Q R : X → Type 0) (xs ys : List X) → ListsOnce P xs → ListsOnce Q ys → ((x : X) → P x → R x) → ((x : X) → Q x → R x) → ((x : X) → R x → P x ⊎ Q x) → ((x : X) → P x → Q x → ⊥) → ListsOnce R (xs ++ ys)
lists_both {X} P Q R xs ys first second p q either apart = record {
  once = λ i j d l m. λ (same : get_or (xs ++ ys) i d ≡ get_or (xs ++ ys) j d). at i j d l m same (cases_lt i (length xs)) (cases_lt j (length xs));
  only = λ x h. of x (Contains-append_cases xs ys x h);
  each = λ x r. put x (either x r);
}
  where
    of : (x : X) → Contains xs x ⊎ Contains ys x → R x
    of x (inl h) = p x (first.only x h)
    of x (inr h) = q x (second.only x h)

    put : (x : X) → P x ⊎ Q x → Contains (xs ++ ys) x
    put x (inl h) = Contains-append_left xs ys x (first.each x h)
    put x (inr h) = Contains-append_right xs ys x (second.each x h)

    left : (k : ℕ) (d : X) → k < length xs → get_or (xs ++ ys) k d ≡ get_or xs k d
    left k d l = get_or_append_left xs ys d k l

    right : (k : ℕ) (d : X) → length xs ≤ k → get_or (xs ++ ys) k d ≡ get_or ys (k - length xs) d
    right k d l = get_or-append_right xs ys (length xs) k d refl l

    at : (i j : ℕ) (d : X) → i < j → j < length (xs ++ ys) → get_or (xs ++ ys) i d ≡ get_or (xs ++ ys) j d → (i < length xs) ⊎ (length xs ≤ i) → (j < length xs) ⊎ (length xs ≤ j) → ⊥
    at i j d l m same (inl a) (inl b) = first.once i j d l b (sym (left i d a) ∙ same ∙ left j d b)
    at i j d l m same (inl a) (inr b) =
        let within : j - length xs < length ys = omega (arith, m, b, length-append xs ys) in
        let is : get_or xs i d ≡ get_or ys (j - length xs) d = sym (left i d a) ∙ same ∙ right j d b in
        apart (get_or xs i d) (first.only (get_or xs i d) (Contains-get_or xs i d a)) (subst Q (sym is) (second.only (get_or ys (j - length xs) d) (Contains-get_or ys (j - length xs) d within)))
    at i j d l m same (inr a) (inl b) = absurd (omega (arith, l, a, b))
    at i j d l m same (inr a) (inr b) =
        let within : j - length xs < length ys = omega (arith, m, b, length-append xs ys) in
        second.once (i - length xs) (j - length xs) d (omega (arith, l, a)) within (sym (right i d a) ∙ same ∙ right j d b)

-- ---- texts

pub bytes_same : (a b : List ℕ) → bytes_eq a b ≡ true → a ≡ b
bytes_same a b h = (bytes_decides a b).0 h

pub bytes_own : (a : List ℕ) → bytes_eq a a ≡ true
bytes_own a = (bytes_decides a a).1 refl

pub same_text : (texts : List (List ℕ)) (a b : ℕ) → AreDistinct texts → a < length texts → b < length texts → text_at texts a ≡ text_at texts b → a ≡ b
same_text texts a b distinct l m e = distinct (text_at texts b) a b (slice_get-get_or texts a [] l ∙ ap Some e) (slice_get-get_or texts b [] m)

pub two_same : (name word : List ℕ) (key : List ℕ × List ℕ) → is_two name word key ≡ true → (name ≡ key.0) × (word ≡ key.1)
two_same name word key h = let parts = and_parts (bytes_eq name key.0) (bytes_eq word key.1) h in (bytes_same name key.0 parts.0, bytes_same word key.1 parts.1)

pub two_own : (name word : List ℕ) → is_two name word (name, word) ≡ true
two_own name word = and_from (bytes_eq name name) (bytes_eq word word) (bytes_own name) (bytes_own word)

-- some key that passes has a count
pub record HasSome {K : Type 0} (p : K → Bool) (es : List (K × ℕ)) : Type 0 where
  pub key : K
  pub count : ℕ
  pub place : ℕ
  pub there : slice_get es place ≡ Some (key, count)
  pub passes : p key ≡ true
  pub some : 0 < count

pub total-some : {K : Type 0} (p : K → Bool) (es : List (K × ℕ)) → 0 < total p es → HasSome p es
total-some p [] l = absurd (omega (arith, l))
total-some {K} p (e ∷ es) l = by (p e.0) refl (cases_lt 0 e.1) (λ (m : 0 < total p es). total-some p es m)
  where
    later : HasSome p es → HasSome p (e ∷ es)
    later h = record { key = h.key; count = h.count; place = suc h.place; there = h.there; passes = h.passes; some = h.some }

    by : (b : Bool) → p e.0 ≡ b → (0 < e.1) ⊎ (e.1 ≤ 0) → (0 < total p es → HasSome p es) → HasSome p (e ∷ es)
    by true h (inl some) rest = record { key = e.0; count = e.1; place = 0; there = refl; passes = h; some = some }
    by true h (inr none) rest = let here : part p e.0 e.1 ≡ e.1 = ap (λ (b : Bool). if b then e.1 else 0) h in later (rest (omega (arith, l, none, here)))
    by false h either rest = let here : part p e.0 e.1 ≡ 0 = ap (λ (b : Bool). if b then e.1 else 0) h in later (rest (omega (arith, l, here)))

-- ---- the names under which a word stands

module _ (names words : List (List ℕ)) (entries : List ((ℕ × ℕ) × ℕ)) (once : AreOnce entries) (names_differ : AreDistinct names) (words_differ : AreDistinct words)
    (below : HasKeysBelow (length words) (length names) entries) (x : ℕ) (there : x < length words) where
  named : ℕ × ℕ → List ℕ × List ℕ
  named = named_word names words

  -- the key that stands for a name and the word
  key_is : (key : ℕ × ℕ) (k : ℕ) → IsAt entries key k → (name : ℕ) → name < length names → is_two (text_at names name) (text_at words x) (named_word names words key) ≡ true → key ≡ (x, name)
  key_is key k at name l h =
      let low = below key k at in
      let same = two_same (text_at names name) (text_at words x) (named_word names words key) h in
      let word : key.0 ≡ x = same_text words key.0 x words_differ low.0 there (sym same.1) in
      let other : key.1 ≡ name = same_text names key.1 name names_differ low.1 l (sym same.0) in
      λ i. (word i, other i)

  -- how often the word stands under the name at a place
  pub count_here : (place : ℕ) (p : IsPlaced entries x place) → total (is_two (text_at names p.member) (text_at words x)) (map (λ e. (named_word names words e.0, e.1)) entries) ≡ p.count
  count_here place p =
      let at : IsAt entries (x, p.member) place = record { count = p.count; there = p.there } in
      let low = below (x, p.member) place at in
      let test : List ℕ × List ℕ → Bool = is_two (text_at names p.member) (text_at words x) in
      total-map (named_word names words) test entries ∙
      total-one (λ k. test (named_word names words k)) entries (x, p.member) p.count place p.there (two_own (text_at names p.member) (text_at words x))
      (λ other m k e ne. no_other place p other m k e ne (test (named_word names words other)) refl)
    where
      no_other : (place : ℕ) (p : IsPlaced entries x place) (other : ℕ × ℕ) (m k : ℕ) → slice_get entries k ≡ Some (other, m) → k ≢ place → (b : Bool) → is_two (text_at names p.member) (text_at words x) (named_word names words other) ≡ b →
          is_two (text_at names p.member) (text_at words x) (named_word names words other) ≡ false
      no_other place p other m k e ne false h = h
      no_other place p other m k e ne true h =
          let at : IsAt entries (x, p.member) place = record { count = p.count; there = p.there } in
          let stands : IsAt entries other k = record { count = m; there = e } in
          let is = key_is other k stands p.member (below (x, p.member) place at).1 h in
          absurd (ne (once (x, p.member) k place (subst (λ (key : ℕ × ℕ). IsAt entries key k) is stands) at))

  -- a name under which it stands has a place
  pub found_here : (name : List ℕ) → 0 < total (is_two name (text_at words x)) (map (λ e. (named_word names words e.0, e.1)) entries) → (place : ℕ) × IsPlaced entries x place × (text_at names (entry_at entries place).0.1 ≡ name)
  found_here name l =
      let test : List ℕ × List ℕ → Bool = is_two name (text_at words x) in
      let h = total-some (λ k. test (named_word names words k)) entries (subst (λ (n : ℕ). 0 < n) (total-map (named_word names words) test entries) l) in
      let low = below h.key h.place (record { count = h.count; there = h.there }) in
      let same = two_same name (text_at words x) (named_word names words h.key) h.passes in
      let word : h.key.0 ≡ x = same_text words h.key.0 x words_differ low.0 there (sym same.1) in
      let entry = get_or_from_slice_get entries h.place (h.key, h.count) ((0, 0), 0) h.there in
      (h.place, record { member = h.key.1; count = h.count; there = h.there ∙ ap (λ (w : ℕ). Some ((w, h.key.1), h.count)) word; some = h.some }, ap (λ (e : (ℕ × ℕ) × ℕ). text_at names e.0.1) entry ∙ sym same.0)

-- what stands at a place
pub entry_is : (entries : List ((ℕ × ℕ) × ℕ)) (x place : ℕ) (p : IsPlaced entries x place) → entry_at entries place ≡ ((x, p.member), p.count)
entry_is entries x place p = get_or_from_slice_get entries place ((x, p.member), p.count) ((0, 0), 0) p.there

-- ---- heads are added, one after another

pub head_more : (names : List (List ℕ)) (entries : List ((ℕ × ℕ) × ℕ)) (unary : Bool) (places : List ℕ) (old now next : List Head) (i place : ℕ) (entry : (ℕ × ℕ) × ℕ) (name : List ℕ) →
    now ≡ old ++ map (head_at names entries unary) (take i places) → i < length places → place ≡ get_or places i 0 → slice_get entries place ≡ Some entry → slice_get names entry.0.1 ≡ Some name →
    next ≡ now ++ record { name = name; unary = unary; count = entry.1 } ∷ [] → next ≡ old ++ map (head_at names entries unary) (take (i + 1) places)
head_more names entries unary places old now next i place entry name before l at there is e =
    let H : ℕ → Head = head_at names entries unary in
    let stands : entry_at entries place ≡ entry = get_or_from_slice_get entries place entry ((0, 0), 0) there in
    let head : H place ≡ record { name = name; unary = unary; count = entry.1 } =
    ap (λ (x : (ℕ × ℕ) × ℕ). let h : Head = record { name = text_at names x.0.1; unary = unary; count = x.1 } in h) stands ∙
    ap (λ (n : List ℕ). let h : Head = record { name = n; unary = unary; count = entry.1 } in h) (get_or_from_slice_get names entry.0.1 name [] is) in
    let more : map H (take (i + 1) places) ≡ map H (take i places) ++ H place ∷ [] =
    ap (λ (ps : List ℕ). map H ps) (take_more places i 0 l) ∙ map-append H (take i places) (get_or places i 0 ∷ []) ∙ ap (λ (q : ℕ). map H (take i places) ++ H q ∷ []) (sym at) in
    e ∙ ap (λ (hs : List Head). hs ++ record { name = name; unary = unary; count = entry.1 } ∷ []) before ∙ append_assoc old (map H (take i places)) (record { name = name; unary = unary; count = entry.1 } ∷ []) ∙
    ap (λ (h : Head). old ++ (map H (take i places) ++ h ∷ [])) (sym head) ∙ ap (λ (hs : List Head). old ++ hs) (sym more)

-- the heads at the places of both tallies are those of the word
IsHeadOf : (unary : Bool) → (names words : List (List ℕ)) (entries : List ((ℕ × ℕ) × ℕ)) (x : ℕ) → Head → Type 0
IsHeadOf unary names words entries x head =
    (0 < head.count) × (head.count ≡ total (is_two head.name (text_at words x)) (map (λ e. (named_word names words e.0, e.1)) entries)) × (head.unary ≡ unary)

some_heads : (unary : Bool) (names words : List (List ℕ)) (entries : List ((ℕ × ℕ) × ℕ)) (x : ℕ) (places : List ℕ) → AreOnce entries → AreDistinct names → AreDistinct words → HasKeysBelow (length words) (length names) entries → x < length words →
    ListsOnce (IsPlaced entries x) places → ListsOnce (IsHeadOf unary names words entries x) (map (head_at names entries unary) places)
unfolding IsHeadOf
some_heads unary names words entries x places once names_differ words_differ below there all =
    lists_map (IsPlaced entries x) (IsHeadOf unary names words entries x) (head_at names entries unary) places all is_one back apart
  where
    count_at : (place : ℕ) (p : IsPlaced entries x place) → total (is_two (text_at names p.member) (text_at words x)) (map (λ e. (named_word names words e.0, e.1)) entries) ≡ p.count
    count_at place p = count_here names words entries once names_differ words_differ below x there place p

    is_one : (place : ℕ) → IsPlaced entries x place → IsHeadOf unary names words entries x (head_at names entries unary place)
    is_one place p = rw (entry_is entries x place p) (p.some, sym (count_at place p), refl)

    back : (head : Head) → IsHeadOf unary names words entries x head → (place : ℕ) × IsPlaced entries x place × (head_at names entries unary place ≡ head)
    back head h =
        let f = found_here names words entries once names_differ words_differ below x there head.name (subst (λ (n : ℕ). 0 < n) h.1 h.0) in
        let entry = entry_is entries x f.0 f.1 in
        let name : text_at names f.1.member ≡ head.name = ap (λ (e : (ℕ × ℕ) × ℕ). text_at names e.0.1) (sym entry) ∙ f.2 in
        let count : (entry_at entries f.0).1 ≡ head.count =
        ap (λ (e : (ℕ × ℕ) × ℕ). e.1) entry ∙ sym (count_at f.0 f.1) ∙ ap (λ (n : List ℕ). total (is_two n (text_at words x)) (map (λ e. (named_word names words e.0, e.1)) entries)) name ∙ sym h.1 in
        (f.0, f.1, λ i. record { name = f.2 i; unary = sym h.2 i; count = count i })

    apart : (a b : ℕ) → IsPlaced entries x a → IsPlaced entries x b → head_at names entries unary a ≡ head_at names entries unary b → a ≡ b
    apart a b p q same =
        let low = below (x, p.member) a (record { count = p.count; there = p.there }) in
        let high = below (x, q.member) b (record { count = q.count; there = q.there }) in
        let name : text_at names p.member ≡ text_at names q.member =
        ap (λ (e : (ℕ × ℕ) × ℕ). text_at names e.0.1) (sym (entry_is entries x a p)) ∙ ap (λ (h : Head). h.name) same ∙ ap (λ (e : (ℕ × ℕ) × ℕ). text_at names e.0.1) (entry_is entries x b q) in
        let member = same_text names p.member q.member names_differ low.1 high.1 name in
        once (x, p.member) a b (record { count = p.count; there = p.there }) (record { count = q.count; there = q.there ∙ ap (λ (m : ℕ). Some ((x, m), q.count)) (sym member) })

pub heads_exact : (t : Tables) (x : ℕ) (rows alone : List ℕ) → AreInside t → x < length t.words → AreOnce t.rows → AreOnce t.alone → AreDistinct t.names → AreDistinct t.words → ListsOnce (IsPlaced t.rows x) rows → ListsOnce (IsPlaced t.alone x) alone →
    ListsOnce (IsHead (counted t) (text_at t.words x)) (map (head_at t.names t.rows false) rows ++ map (head_at t.names t.alone true) alone)
unfolding IsHeadOf
heads_exact t x rows alone inside there rows_once alone_once names_differ words_differ all_rows all_alone =
    lists_both (IsHeadOf false t.names t.words t.rows x) (IsHeadOf true t.names t.words t.alone x) (IsHead (counted t) (text_at t.words x)) (map (head_at t.names t.rows false) rows) (map (head_at t.names t.alone true) alone)
    (some_heads false t.names t.words t.rows x rows rows_once names_differ words_differ inside.rows there all_rows) (some_heads true t.names t.words t.alone x alone alone_once names_differ words_differ inside.alone there all_alone)
    first second either (λ head p q. true≢false (sym q.2 ∙ p.2))
  where
    first : (head : Head) → IsHeadOf false t.names t.words t.rows x head → IsHead (counted t) (text_at t.words x) head
    first head h = record { some = h.0; is = h.1 ∙ ap (λ (b : Bool). head_count (counted t) head.name (text_at t.words x) b) (sym h.2) }

    second : (head : Head) → IsHeadOf true t.names t.words t.alone x head → IsHead (counted t) (text_at t.words x) head
    second head h = record { some = h.0; is = h.1 ∙ ap (λ (b : Bool). head_count (counted t) head.name (text_at t.words x) b) (sym h.2) }

    by : (b : Bool) (head : Head) → head.unary ≡ b → 0 < head.count → head.count ≡ head_count (counted t) head.name (text_at t.words x) b → IsHeadOf false t.names t.words t.rows x head ⊎ IsHeadOf true t.names t.words t.alone x head
    by false head e some is = inl (some, is, e)
    by true head e some is = inr (some, is, e)

    either : (head : Head) → IsHead (counted t) (text_at t.words x) head → IsHeadOf false t.names t.words t.rows x head ⊎ IsHeadOf true t.names t.words t.alone x head
    either head h = by head.unary head refl h.some h.is

pub places_within : (entries : List ((ℕ × ℕ) × ℕ)) (x : ℕ) (places items : List ℕ) → ListsOnce (IsPlaced entries x) places → items ≡ places → (k : ℕ) → k < length items → get_or items k 0 < length entries
places_within entries x places items all e k l =
    let low : k < length places = omega (arith, l, ap (λ (ps : List ℕ). length ps) e) in
    let p = all.only (get_or places k 0) (Contains-get_or places k 0 low) in
    rw e (slice_get_within entries (get_or places k 0) ((x, p.member), p.count) p.there)

-- ---- a word that has no number stands nowhere

pub unnamed : (names words : List (List ℕ)) (entries : List ((ℕ × ℕ) × ℕ)) (name word : List ℕ) → HasKeysBelow (length words) (length names) entries → ((number : ℕ) → slice_get words number ≡ Some word → ⊥) →
    0 < total (is_two name word) (map (λ e. (named_word names words e.0, e.1)) entries) → ⊥
unnamed names words entries name word below none l =
    let test : List ℕ × List ℕ → Bool = is_two name word in
    let h = total-some (λ k. test (named_word names words k)) entries (subst (λ (n : ℕ). 0 < n) (total-map (named_word names words) test entries) l) in
    let low = below h.key h.place (record { count = h.count; there = h.there }) in
    let same = two_same name word (named_word names words h.key) h.passes in
    none h.key.0 (slice_get-get_or words h.key.0 [] low.0 ∙ ap Some (sym same.1))

pub no_heads : (t : Tables) (word : List ℕ) → AreInside t → ((number : ℕ) → slice_get t.words number ≡ Some word → ⊥) → ListsOnce (IsHead (counted t) word) []
no_heads t word inside none = record {
  once = λ i j d l m. absurd (omega (arith, m));
  only = λ head h. absurd (omega (arith, h.1));
  each = λ head h. absurd (nowhere head.unary head.name head.count h.some h.is);
}
  where
    nowhere : (unary : Bool) (name : List ℕ) (count : ℕ) → 0 < count → count ≡ head_count (counted t) name word unary → ⊥
    nowhere false name count some is = unnamed t.names t.words t.rows name word inside.rows none (subst (λ (n : ℕ). 0 < n) is some)
    nowhere true name count some is = unnamed t.names t.words t.alone name word inside.alone none (subst (λ (n : ℕ). 0 < n) is some)
