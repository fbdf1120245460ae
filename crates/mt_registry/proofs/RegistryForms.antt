-- The forms of the lines of a registry file are read as they are written.
use Rattle.std.proofs.Common.{ℕ, ◌≡◌, ◌≢◌, ◌+◌, ◌-◌, ◌<◌, ◌≤◌, ◌⊎◌, inl, inr, ◌==◌, ◌&&◌, ◌||◌, Bool, true, false, cond, nat_eq, nat_lt, nat_le, List, [], ◌∷◌, ◌++◌, length, take, drop, get_or, refl, sym, ◌∙◌, ap, subst, arith, append_assoc}
use Rattle.std.specs.Prelude.{slice_index, slice_range}
use Rattle.std.specs.List.{AllPass, prefix_len, suffix_len}
use Rattle.std.specs.Cmp.Lexicographic.{pointwise}
use Rattle.std.proofs.lemmas.Bool.{cond-true, cond-false, and_parts, and_from, or_cases, or_from, eqb-true, eqb-false, eq-eqb, ne_eqb, ltb-true, lt-ltb, leb-true, le-leb, false_from_ne_true, both_ways, cases_lt}
use Rattle.std.proofs.lemmas.List.{length-append, length-take-le, length-drop, get_or-take, get_or-drop, take_more, take_all, take-append-drop}
use Rattle.std.proofs.lemmas.List.Elements.{All-append, All-from_get_or, All-nil}
use Rattle.std.proofs.lemmas.List.Sums.{prefix_len_passes}
use Rattle.std.proofs.lemmas.Slice.Eq.{bytes_eq-Decides}
use Rattle.mt_text_spec.specs.Words.{is_identifier_byte}
use Rattle.mt_file_spec.specs.RegistryFile.{is_blank, trimmed, trimmed_end, Form, Skipped, Closing, Entry, Formless, is_quoted, unquoted, opens_block, valued, entry, key_len, keyed, bare_form}
use Rattle.mt_registry.specs.RegistryForms.{IsGap, IsKey, IsTight, quoted, IsWritten, EndsOpening, IsForm, Empty, Comment, Brace, Lone, Opening}
use Rattle.mt_registry.proofs.Trims.{get_left, get_right, take_left, drop_left, prefix_all, trimmed_is, trimmed_none, IsTrimmed, is_trimmed, is_trimmed_end}

-- ## Bytes

or_blank : (b : ℕ) → (b == 32 ≡ true) ⊎ (b == 9 ≡ true) → is_identifier_byte b ≡ false
or_blank b (inl e) = subst (λ n. is_identifier_byte n ≡ false) (sym (eqb-true b 32 e)) refl
or_blank b (inr e) = subst (λ n. is_identifier_byte n ≡ false) (sym (eqb-true b 9 e)) refl

blank_no_key : (b : ℕ) → is_blank b ≡ true → is_identifier_byte b ≡ false
blank_no_key b e = or_blank b (or_cases (b == 32) (b == 9) e)

key_no_blank : (b : ℕ) → is_identifier_byte b ≡ true → is_blank b ≡ false
key_no_blank b e = false_from_ne_true (is_blank b) (λ t. both_ways (is_identifier_byte b) (blank_no_key b t) e)

key_is_not : (b mark : ℕ) → is_identifier_byte mark ≡ false → is_identifier_byte b ≡ true → (b == mark) ≡ false
key_is_not b mark none e = false_from_ne_true (b == mark) (λ t. both_ways (is_identifier_byte b) (ap is_identifier_byte (eqb-true b mark t) ∙ none) e)

-- a list and its last element, its last two
last_of : (xs : List ℕ) (n : ℕ) → length xs ≡ n + 1 → xs ≡ take n xs ++ get_or xs n 0 ∷ []
last_of xs n l = sym (take_all (n + 1) xs (omega arith)) ∙ take_more xs n 0 (omega arith)

last_two : (xs : List ℕ) (n : ℕ) → length xs ≡ n + 2 → xs ≡ take n xs ++ get_or xs n 0 ∷ get_or xs (n + 1) 0 ∷ []
last_two xs n l =
    last_of xs (n + 1) (omega arith) ∙ ap (λ (t : List ℕ). t ++ get_or xs (n + 1) 0 ∷ []) (take_more xs n 0 (omega arith)) ∙ append_assoc (take n xs) (get_or xs n 0 ∷ []) (get_or xs (n + 1) 0 ∷ [])

-- ## Values

quoted_of : (text : List ℕ) → is_quoted text ≡ true → text ≡ quoted (slice_range text 1 (length text - 1))
quoted_of [] e = let h : 2 ≤ 0 = leb-true 2 0 (and_parts (nat_le 2 0) (slice_index [] 0 == 34 && slice_index [] (length {A = ℕ} [] - 1) == 34) e).0 in absurd (omega arith)
quoted_of (x ∷ xs) e =
    let p = and_parts (nat_le 2 (length (x ∷ xs))) (slice_index (x ∷ xs) 0 == 34 && slice_index (x ∷ xs) (length (x ∷ xs) - 1) == 34) e in
    let q = and_parts (slice_index (x ∷ xs) 0 == 34) (slice_index (x ∷ xs) (length (x ∷ xs) - 1) == 34) p.1 in
    let some : 2 ≤ length (x ∷ xs) = leb-true 2 (length (x ∷ xs)) p.0 in
    let first : x ≡ 34 = eqb-true x 34 q.0 in
    let last : get_or (x ∷ xs) (length (x ∷ xs) - 1) 0 ≡ 34 = eqb-true (get_or (x ∷ xs) (length (x ∷ xs) - 1) 0) 34 q.1 in
    let at_end : get_or (x ∷ xs) (length (x ∷ xs) - 1) 0 ≡ get_or xs (length xs - 1) 0 = get_right (x ∷ []) xs (length (x ∷ xs) - 1) (omega arith) ∙ ap (λ k. get_or xs k 0) (omega arith) in
    let n : length (x ∷ xs) - 1 - 1 ≡ length xs - 1 = omega arith in
    let tail : xs ≡ take (length xs - 1) xs ++ get_or xs (length xs - 1) 0 ∷ [] = last_of xs (length xs - 1) (omega arith) in
    ap (λ y. y ∷ xs) first ∙ ap (λ (t : List ℕ). 34 ∷ t) (tail ∙ ap (λ y. take (length xs - 1) xs ++ y ∷ []) (sym at_end ∙ last) ∙ ap (λ k. take k xs ++ 34 ∷ []) (sym n))

is_quoted_is : (value : List ℕ) → is_quoted (quoted value) ≡ true
is_quoted_is value =
    let l : length (value ++ 34 ∷ []) ≡ length value + 1 = length-append value (34 ∷ []) in
    let last : get_or (quoted value) (length (quoted value) - 1) 0 ≡ 34 =
    get_right (34 ∷ []) (value ++ 34 ∷ []) (length (quoted value) - 1) (omega arith) ∙ get_right value (34 ∷ []) (length (quoted value) - 1 - 1) (omega arith)
    ∙ ap (λ k. get_or (34 ∷ []) k 0) (let z : length (quoted value) - 1 - 1 - length value ≡ 0 = omega arith in z) in
    and_from (nat_le 2 (length (quoted value))) (slice_index (quoted value) 0 == 34 && slice_index (quoted value) (length (quoted value) - 1) == 34) (le-leb 2 (length (quoted value)) (omega arith))
    (and_from (slice_index (quoted value) 0 == 34) (slice_index (quoted value) (length (quoted value) - 1) == 34) refl (eq-eqb (get_or (quoted value) (length (quoted value) - 1) 0) 34 last))

inside : (value : List ℕ) → slice_range (quoted value) 1 (length (quoted value) - 1) ≡ value
inside value =
    let l : length (value ++ 34 ∷ []) ≡ length value + 1 = length-append value (34 ∷ []) in
    let n : length (quoted value) - 1 - 1 ≡ length value = omega arith in
    ap (λ k. take k (value ++ 34 ∷ [])) n ∙ take_left value (34 ∷ [])

unquoted_is : (text value : List ℕ) → IsWritten text value → unquoted text ≡ value
unquoted_is text value (inl e) = ap unquoted e ∙ cond-true (is_quoted (quoted value)) (slice_range (quoted value) 1 (length (quoted value) - 1)) (quoted value) (is_quoted_is value) ∙ inside value
unquoted_is text value (inr w) =
    cond-false (is_quoted text) (slice_range text 1 (length text - 1)) text (false_from_ne_true (is_quoted text) (λ t. w.0 (slice_range text 1 (length text - 1)) (quoted_of text t))) ∙ w.1

written : (text : List ℕ) (b : Bool) → is_quoted text ≡ b → IsWritten text (unquoted text)
written text true e = inl (quoted_of text e ∙ ap quoted (sym (cond-true (is_quoted text) (slice_range text 1 (length text - 1)) text e)))
written text false e = inr (λ inner q. both_ways (is_quoted text) e (ap is_quoted q ∙ is_quoted_is inner), sym (cond-false (is_quoted text) (slice_range text 1 (length text - 1)) text e))

valued_is : (key text value : List ℕ) (opens : Bool) → 0 < length text → unquoted text ≡ value → valued key text opens ≡ Entry key value opens
valued_is key text value opens some e =
    cond-false (length text == 0) Formless (Entry key (unquoted text) opens) (ne_eqb (length text) 0 (λ z. omega arith)) ∙ ap (λ v. Entry key v opens) e

-- ## Opening braces

opens_is : (front : List ℕ) → 0 < length front → is_blank (get_or front (length front - 1) 0) ≡ true → opens_block (front ++ 123 ∷ []) ≡ true
opens_is front some blank =
    let rest : List ℕ = front ++ 123 ∷ [] in
    let l : length (front ++ 123 ∷ []) ≡ length front + 1 = length-append front (123 ∷ []) in
    let last : get_or (front ++ 123 ∷ []) (length (front ++ 123 ∷ []) - 1) 0 ≡ 123 =
    get_right front (123 ∷ []) (length (front ++ 123 ∷ []) - 1) (omega arith) ∙ ap (λ k. get_or (123 ∷ []) k 0) (let z : length (front ++ 123 ∷ []) - 1 - length front ≡ 0 = omega arith in z) in
    let behind : is_blank (get_or (front ++ 123 ∷ []) (length (front ++ 123 ∷ []) - 2) 0) ≡ true =
    ap is_blank (get_left front (123 ∷ []) (length (front ++ 123 ∷ []) - 2) (omega arith) ∙ ap (λ k. get_or front k 0) (let z : length (front ++ 123 ∷ []) - 2 ≡ length front - 1 = omega arith in z)) ∙ blank in
    and_from (nat_le 2 (length rest)) (slice_index rest (length rest - 1) == 123 && is_blank (slice_index rest (length rest - 2))) (le-leb 2 (length rest) (omega arith))
    (and_from (slice_index rest (length rest - 1) == 123) (is_blank (slice_index rest (length rest - 2))) (eq-eqb (get_or rest (length rest - 1) 0) 123 last) behind)

-- what is known where an opening brace stands last behind a blank
record Opens (rest : List ℕ) : Type 0 where
  some : 2 ≤ length rest
  last : get_or rest (length rest - 1) 0 ≡ 123
  blank : is_blank (get_or rest (length rest - 2) 0) ≡ true

opens_of : (rest : List ℕ) → opens_block rest ≡ true → Opens rest
opens_of rest e =
    let p = and_parts (nat_le 2 (length rest)) (slice_index rest (length rest - 1) == 123 && is_blank (slice_index rest (length rest - 2))) e in
    let q = and_parts (slice_index rest (length rest - 1) == 123) (is_blank (slice_index rest (length rest - 2))) p.1 in
    record { some = leb-true 2 (length rest) p.0; last = eqb-true (get_or rest (length rest - 1) 0) 123 q.0; blank = q.1 }

ends_opening : (gap text : List ℕ) → 0 < length text → Opens (gap ++ text) → (length text < 2) ⊎ (2 ≤ length text) → EndsOpening text
ends_opening gap text some o (inl one) =
    let l : length (gap ++ text) ≡ length gap + length text = length-append gap text in
    let last : get_or text 0 0 ≡ 123 = ap (λ k. get_or text k 0) (let z : 0 ≡ length (gap ++ text) - 1 - length gap = omega arith in z) ∙ sym (get_right gap text (length (gap ++ text) - 1) (omega arith)) ∙ o.last in
    inl (last_of text 0 (omega arith) ∙ ap (λ y. y ∷ []) last)
ends_opening gap text some o (inr more) =
    let l : length (gap ++ text) ≡ length gap + length text = length-append gap text in
    let last : get_or text (length text - 2 + 1) 0 ≡ 123 =
    ap (λ k. get_or text k 0) (let z : length text - 2 + 1 ≡ length (gap ++ text) - 1 - length gap = omega arith in z) ∙ sym (get_right gap text (length (gap ++ text) - 1) (omega arith)) ∙ o.last in
    let blank : is_blank (get_or text (length text - 2) 0) ≡ true =
    ap is_blank (ap (λ k. get_or text k 0) (let z : length text - 2 ≡ length (gap ++ text) - 2 - length gap = omega arith in z) ∙ sym (get_right gap text (length (gap ++ text) - 2) (omega arith))) ∙ o.blank in
    inr (
      take (length text - 2) text,
      get_or text (length text - 2) 0,
      blank,
      last_two text (length text - 2) (omega arith) ∙ ap (λ y. take (length text - 2) text ++ get_or text (length text - 2) 0 ∷ y ∷ []) last,
    )

-- ## Keys

key_len_is : (key rest : List ℕ) → IsKey key → is_blank (get_or rest 0 0) ≡ true → key_len (key ++ rest) ≡ length key
key_len_is key rest k blank = prefix_all is_identifier_byte key rest k.each (blank_no_key (get_or rest 0 0) blank)

some_there : (rest : List ℕ) → is_blank (get_or rest 0 0) ≡ true → 0 < length rest
some_there [] e = cc
some_there (x ∷ rest) e = omega arith

keyed_is : (key rest : List ℕ) → IsKey key → is_blank (get_or rest 0 0) ≡ true → keyed (key ++ rest) ≡ entry key rest
keyed_is key rest k blank =
    let bare : List ℕ = key ++ rest in
    let n : key_len (key ++ rest) ≡ length key = key_len_is key rest k blank in
    let l : length (key ++ rest) ≡ length key + length rest = length-append key rest in
    let r : 0 < length rest = some_there rest blank in
    let ks = k.some in
    let there : is_blank (get_or (key ++ rest) (key_len (key ++ rest)) 0) ≡ true =
    ap (λ i. is_blank (get_or (key ++ rest) i 0)) n ∙ ap is_blank (get_right key rest (length key) (omega arith) ∙ ap (λ i. get_or rest i 0) (let z : length key - length key ≡ 0 = omega arith in z)) ∙ blank in
    cond-true (nat_lt 0 (key_len bare) && (nat_lt (key_len bare) (length bare) && is_blank (slice_index bare (key_len bare)))) (entry (take (key_len bare) bare) (drop (key_len bare) bare)) Formless
    (and_from (nat_lt 0 (key_len bare)) (nat_lt (key_len bare) (length bare) && is_blank (slice_index bare (key_len bare))) (lt-ltb 0 (key_len bare) (omega arith))
    (and_from (nat_lt (key_len bare) (length bare)) (is_blank (slice_index bare (key_len bare))) (lt-ltb (key_len bare) (length bare) (omega arith)) there))
    ∙ ap (λ i. entry (take i (key ++ rest)) (drop i (key ++ rest))) n ∙ ap (λ (x : List ℕ). entry x (drop (length key) (key ++ rest))) (take_left key rest) ∙ ap (entry key) (drop_left key rest)

-- ## Lines without blanks at their ends

not_empty : (b : ℕ) (bs : List ℕ) → (length (b ∷ bs) == 0) ≡ false
not_empty b bs = ne_eqb (length (b ∷ bs)) 0 (λ z. omega arith)

comment_form : (b : ℕ) (bs : List ℕ) → (b == 35) ≡ true → bare_form (b ∷ bs) ≡ Skipped
comment_form b bs e =
    cond-true (length (b ∷ bs) == 0 || b == 35) Skipped (cond (pointwise nat_eq (b ∷ bs) (125 ∷ [])) Closing (keyed (b ∷ bs))) (ap (λ c. c || b == 35) (not_empty b bs) ∙ e)

other_form : (b : ℕ) (bs : List ℕ) → (b == 35) ≡ false → bare_form (b ∷ bs) ≡ cond (pointwise nat_eq (b ∷ bs) (125 ∷ [])) Closing (keyed (b ∷ bs))
other_form b bs e =
    cond-false (length (b ∷ bs) == 0 || b == 35) Skipped (cond (pointwise nat_eq (b ∷ bs) (125 ∷ [])) Closing (keyed (b ∷ bs))) (or_from (length (b ∷ bs) == 0) (b == 35) (not_empty b bs) e)

keyed_form : (bare : List ℕ) → 0 < length bare → is_identifier_byte (get_or bare 0 0) ≡ true → bare_form bare ≡ keyed bare
keyed_form [] some key = absurd (omega arith)
keyed_form (b ∷ bs) some key =
    other_form b bs (key_is_not b 35 refl key)
    ∙ cond-false (pointwise nat_eq (b ∷ bs) (125 ∷ [])) Closing (keyed (b ∷ bs)) (false_from_ne_true (pointwise nat_eq (b ∷ bs) (125 ∷ [])) (λ t.
    let same : b ∷ bs ≡ 125 ∷ [] = (bytes_eq-Decides (b ∷ bs) (125 ∷ [])).0 t in
    let head : b ≡ 125 = cc in both_ways (is_identifier_byte b) (ap is_identifier_byte head) key))

-- ## What is written so is read so

begins_comment : (bare : List ℕ) → 0 < length bare → get_or bare 0 0 ≡ 35 → bare_form bare ≡ Skipped
begins_comment [] some e = absurd (omega arith)
begins_comment (b ∷ bs) some e = comment_form b bs (eq-eqb b 35 e)

comment_read : (left rest : List ℕ) → AllPass is_blank left → bare_form (trimmed (left ++ 35 ∷ rest)) ≡ Skipped
comment_read left rest before =
    let line : List ℕ = left ++ 35 ∷ rest in
    let n : prefix_len is_blank line ≡ length left = prefix_all is_blank left (35 ∷ rest) before refl in
    let d : drop (prefix_len is_blank line) line ≡ 35 ∷ rest = ap (λ k. drop k line) n ∙ drop_left left (35 ∷ rest) in
    let e : trimmed line ≡ trimmed_end (35 ∷ rest) = ap trimmed_end d in
    let m : ℕ = length (35 ∷ rest) - suffix_len is_blank (35 ∷ rest) in
    let some : 0 < m = elim (cases_lt 0 m) [ inl h ↦ h | inr h ↦ (let t = is_trimmed_end (35 ∷ rest) 0 (omega arith) h in cc) ] in
    let tl : length (take m (35 ∷ rest)) ≡ m = length-take-le m (35 ∷ rest) (omega arith) in
    ap bare_form e ∙ begins_comment (take m (35 ∷ rest)) (omega arith) (get_or-take m (35 ∷ rest) 0 0 some)

tight_entry : (key gap text : List ℕ) → IsKey key → IsTight text → IsTight (key ++ (gap ++ text))
tight_entry key gap text k t =
    let l : length (key ++ (gap ++ text)) ≡ length key + length (gap ++ text) = length-append key (gap ++ text) in
    let g : length (gap ++ text) ≡ length gap + length text = length-append gap text in
    let ks = k.some in let ts = t.some in
    record {
      some = omega arith;
      first = ap is_blank (get_left key (gap ++ text) 0 ks) ∙ key_no_blank (get_or key 0 0) (k.each 0 0 ks);
      last = ap is_blank (get_right key (gap ++ text) (length (key ++ (gap ++ text)) - 1) (omega arith) ∙ get_right gap text (length (key ++ (gap ++ text)) - 1 - length key) (omega arith)
          ∙ ap (λ i. get_or text i 0) (let z : length (key ++ (gap ++ text)) - 1 - length key - length gap ≡ length text - 1 = omega arith in z)) ∙ t.last;
    }

first_key : (key rest : List ℕ) → IsKey key → is_identifier_byte (get_or (key ++ rest) 0 0) ≡ true
first_key key rest k = ap is_identifier_byte (get_left key rest 0 k.some) ∙ k.each 0 0 k.some

first_gap : (gap rest : List ℕ) → IsGap gap → is_blank (get_or (gap ++ rest) 0 0) ≡ true
first_gap gap rest g = ap is_blank (get_left gap rest 0 g.some) ∙ g.each 0 0 g.some

read_keyed : (key rest : List ℕ) → IsKey key → is_blank (get_or rest 0 0) ≡ true → bare_form (key ++ rest) ≡ entry key rest
read_keyed key rest k blank =
    let ks = k.some in
    keyed_form (key ++ rest) (omega (arith, length-append key rest)) (first_key key rest k) ∙ keyed_is key rest k blank

nothing : (xs : List ℕ) → xs ++ [] ≡ xs
nothing [] = refl
nothing (x ∷ xs) = ap (λ ys. x ∷ ys) (nothing xs)

lone_entry : (key gap text value : List ℕ) → IsGap gap → IsTight text → (EndsOpening text → ⊥) → IsWritten text value → entry key (gap ++ text) ≡ Entry key value false
lone_entry key gap text value g t none w =
    cond-false (opens_block (gap ++ text)) (valued key (trimmed (take (length (gap ++ text) - 1) (gap ++ text))) true) (valued key (trimmed (gap ++ text)) false)
    (false_from_ne_true (opens_block (gap ++ text)) (λ o. none (ends_opening gap text t.some (opens_of (gap ++ text) o) (cases_lt (length text) 2))))
    ∙ ap (λ (x : List ℕ). valued key x false) (ap (λ (x : List ℕ). trimmed (gap ++ x)) (sym (nothing text)) ∙ trimmed_is gap text [] g.each (All-nil (λ b. is_blank b ≡ true)) t)
    ∙ valued_is key text value false t.some (unquoted_is text value w)

last_gap : (front before : List ℕ) → IsGap before → is_blank (get_or (front ++ before) (length (front ++ before) - 1) 0) ≡ true
last_gap front before g =
    let l : length (front ++ before) ≡ length front + length before = length-append front before in
    let s = g.some in
    ap is_blank (get_right front before (length (front ++ before) - 1) (omega arith)) ∙ g.each (length (front ++ before) - 1 - length front) 0 (omega arith)

opening_entry : (key gap text before value : List ℕ) → IsGap gap → IsTight text → IsWritten text value → IsGap before → entry key ((gap ++ (text ++ before)) ++ 123 ∷ []) ≡ Entry key value true
opening_entry key gap text before value g t w b =
    let front : List ℕ = gap ++ (text ++ before) in
    let rest : List ℕ = front ++ 123 ∷ [] in
    let l : length ((gap ++ (text ++ before)) ++ 123 ∷ []) ≡ length (gap ++ (text ++ before)) + 1 = length-append (gap ++ (text ++ before)) (123 ∷ []) in
    let lg : length (gap ++ (text ++ before)) ≡ length gap + length (text ++ before) = length-append gap (text ++ before) in
    let gs = g.some in
    let blank : is_blank (get_or (gap ++ (text ++ before)) (length (gap ++ (text ++ before)) - 1) 0) ≡ true =
    ap (λ (x : List ℕ). is_blank (get_or x (length x - 1) 0)) (sym (append_assoc gap text before)) ∙ last_gap (gap ++ text) before b in
    let n : length rest - 1 ≡ length front = omega arith in
    cond-true (opens_block rest) (valued key (trimmed (take (length rest - 1) rest)) true) (valued key (trimmed rest) false) (opens_is front (omega arith) blank)
    ∙ ap (λ k. valued key (trimmed (take k rest)) true) n ∙ ap (λ (x : List ℕ). valued key (trimmed x) true) (take_left front (123 ∷ []))
    ∙ ap (λ (x : List ℕ). valued key x true) (trimmed_is gap text before g.each b.each t) ∙ valued_is key text value true t.some (unquoted_is text value w)

-- the brackets of a line, moved
lone_line : (left key gap text right : List ℕ) → left ++ (key ++ (gap ++ (text ++ right))) ≡ left ++ ((key ++ (gap ++ text)) ++ right)
lone_line left key gap text right = ap (λ (x : List ℕ). left ++ x) (ap (λ (x : List ℕ). key ++ x) (sym (append_assoc gap text right)) ∙ sym (append_assoc key (gap ++ text) right))

opening_line : (left key gap text before right : List ℕ) → left ++ (key ++ (gap ++ (text ++ (before ++ 123 ∷ right)))) ≡ left ++ ((key ++ (gap ++ (text ++ (before ++ 123 ∷ [])))) ++ right)
opening_line left key gap text before right =
    ap (λ (x : List ℕ). left ++ (key ++ (gap ++ (text ++ x)))) (sym (append_assoc before (123 ∷ []) right))
    ∙ ap (λ (x : List ℕ). left ++ (key ++ (gap ++ x))) (sym (append_assoc text (before ++ 123 ∷ []) right))
    ∙ lone_line left key gap (text ++ (before ++ 123 ∷ [])) right

opening_rest : (gap text before : List ℕ) → gap ++ (text ++ (before ++ 123 ∷ [])) ≡ (gap ++ (text ++ before)) ++ 123 ∷ []
opening_rest gap text before = ap (λ (x : List ℕ). gap ++ x) (sym (append_assoc text before (123 ∷ []))) ∙ sym (append_assoc gap (text ++ before) (123 ∷ []))

tight_brace : (text before : List ℕ) → IsTight text → IsTight (text ++ (before ++ 123 ∷ []))
tight_brace text before t =
    let ts = t.some in
    let l : length (text ++ (before ++ 123 ∷ [])) ≡ length text + length (before ++ 123 ∷ []) = length-append text (before ++ 123 ∷ []) in
    let b : length (before ++ 123 ∷ []) ≡ length before + 1 = length-append before (123 ∷ []) in
    record {
      some = omega arith;
      first = ap is_blank (get_left text (before ++ 123 ∷ []) 0 ts) ∙ t.first;
      last = ap is_blank (get_right text (before ++ 123 ∷ []) (length (text ++ (before ++ 123 ∷ [])) - 1) (omega arith)
          ∙ get_right before (123 ∷ []) (length (text ++ (before ++ 123 ∷ [])) - 1 - length text) (omega arith)
          ∙ ap (λ i. get_or (123 ∷ []) i 0) (let z : length (text ++ (before ++ 123 ∷ [])) - 1 - length text - length before ≡ 0 = omega arith in z));
    }

pub read_form : (line : List ℕ) (form : Form) → IsForm line form → bare_form (trimmed line) ≡ form
read_form line form (Empty all is) = ap bare_form (trimmed_none line all) ∙ sym is
read_form line form (Comment left rest before are is) = ap (λ (x : List ℕ). bare_form (trimmed x)) are ∙ comment_read left rest before ∙ sym is
read_form line form (Brace left right before behind are is) =
    ap (λ (x : List ℕ). bare_form (trimmed x)) are ∙ ap bare_form (trimmed_is left (125 ∷ []) right before behind (record { some = omega arith; first = refl; last = refl })) ∙ sym is
read_form line form (Lone left key gap text right value before k g t none w behind are is) =
    ap (λ (x : List ℕ). bare_form (trimmed x)) (are ∙ lone_line left key gap text right) ∙ ap bare_form (trimmed_is left (key ++ (gap ++ text)) right before behind (tight_entry key gap text k t))
    ∙ read_keyed key (gap ++ text) k (first_gap gap text g) ∙ lone_entry key gap text value g t none w ∙ sym is
read_form line form (Opening left key gap text b right value before k g t w bg behind are is) =
    ap (λ (x : List ℕ). bare_form (trimmed x)) (are ∙ opening_line left key gap text b right)
    ∙ ap bare_form (trimmed_is left (key ++ (gap ++ (text ++ (b ++ 123 ∷ [])))) right before behind (tight_entry key gap (text ++ (b ++ 123 ∷ [])) k (tight_brace text b t)))
    ∙ read_keyed key (gap ++ (text ++ (b ++ 123 ∷ []))) k (first_gap gap (text ++ (b ++ 123 ∷ [])) g)
    ∙ ap (entry key) (opening_rest gap text b) ∙ opening_entry key gap text b value g t w bg ∙ sym is

-- ## What has a form is written so

gap_before : (front text more : List ℕ) → AllPass is_blank front → IsTight text → is_blank (get_or (front ++ (text ++ more)) 0 0) ≡ true → IsGap front
gap_before [] text more all t e = absurd (both_ways (is_blank (get_or (text ++ more) 0 0)) (ap is_blank (get_left text more 0 t.some) ∙ t.first) e)
gap_before (x ∷ front) text more all t e = record { some = omega arith; each = all }

gap_behind : (front text more : List ℕ) → AllPass is_blank more → IsTight text → is_blank (get_or (front ++ (text ++ more)) (length (front ++ (text ++ more)) - 1) 0) ≡ true → IsGap more
gap_behind front text [] all t e =
    let l : length (front ++ (text ++ [])) ≡ length front + length (text ++ []) = length-append front (text ++ []) in
    let lt : length (text ++ []) ≡ length text = ap length (nothing text) in
    let ts = t.some in
    absurd (both_ways (is_blank (get_or (front ++ (text ++ [])) (length (front ++ (text ++ [])) - 1) 0))
    (ap is_blank (get_right front (text ++ []) (length (front ++ (text ++ [])) - 1) (omega arith) ∙ get_left text [] (length (front ++ (text ++ [])) - 1 - length front) (omega arith)
    ∙ ap (λ i. get_or text i 0) (let z : length (front ++ (text ++ [])) - 1 - length front ≡ length text - 1 = omega arith in z)) ∙ t.last) e)
gap_behind front text (x ∷ more) all t e = record { some = omega arith; each = all }

no_gap_behind : (front text more : List ℕ) → AllPass is_blank more → is_blank (get_or (front ++ (text ++ more)) (length (front ++ (text ++ more)) - 1) 0) ≡ false → more ≡ []
no_gap_behind front text [] all e = refl
no_gap_behind front text (x ∷ more) all e =
    let g : IsGap (x ∷ more) = record { some = omega arith; each = all } in
    absurd (both_ways (is_blank (get_or (front ++ (text ++ x ∷ more)) (length (front ++ (text ++ x ∷ more)) - 1) 0)) e
    (ap (λ (y : List ℕ). is_blank (get_or y (length y - 1) 0)) (sym (append_assoc front text (x ∷ more))) ∙ last_gap (front ++ text) (x ∷ more) g))

opens_again : (gap text : List ℕ) → IsGap gap → EndsOpening text → opens_block (gap ++ text) ≡ true
opens_again gap text g (inl e) = ap (λ (x : List ℕ). opens_block (gap ++ x)) e ∙ opens_is gap g.some (g.each (length gap - 1) 0 (let s = g.some in omega arith))
opens_again gap text g (inr w) =
    let front : List ℕ = w.0 in let b : ℕ = w.1 in
    let whole : gap ++ text ≡ ((gap ++ front) ++ b ∷ []) ++ 123 ∷ [] =
    ap (λ (x : List ℕ). gap ++ x) w.3 ∙ sym (append_assoc gap front (b ∷ 123 ∷ [])) ∙ sym (append_assoc (gap ++ front) (b ∷ []) (123 ∷ [])) in
    let l : length ((gap ++ front) ++ b ∷ []) ≡ length (gap ++ front) + 1 = length-append (gap ++ front) (b ∷ []) in
    let last : is_blank (get_or ((gap ++ front) ++ b ∷ []) (length ((gap ++ front) ++ b ∷ []) - 1) 0) ≡ true =
    ap is_blank (get_right (gap ++ front) (b ∷ []) (length ((gap ++ front) ++ b ∷ []) - 1) (omega arith)
    ∙ ap (λ i. get_or (b ∷ []) i 0) (let z : length ((gap ++ front) ++ b ∷ []) - 1 - length (gap ++ front) ≡ 0 = omega arith in z)) ∙ w.2 in
    ap opens_block whole ∙ opens_is ((gap ++ front) ++ b ∷ []) (omega arith) last

-- what is known of a line with a key
record AtKey (line left key rest right : List ℕ) : Type 0 where
  are : line ≡ left ++ ((key ++ rest) ++ right)
  before : AllPass is_blank left
  behind : AllPass is_blank right
  named : IsKey key
  blank : is_blank (get_or rest 0 0) ≡ true
  last : is_blank (get_or rest (length rest - 1) 0) ≡ false

lone_written : (line left key rest right text : List ℕ) (form : Form) → AtKey line left key rest right → opens_block rest ≡ false → IsTrimmed rest text → (b : Bool) → (length text == 0) ≡ b → valued key text false ≡ form → form ≢ Formless →
    IsForm line form
lone_written line left key rest right text form a closed t true none e other = absurd (other (sym e ∙ cond-true (length text == 0) Formless (Entry key (unquoted text) false) none))
lone_written line left key rest right text form a closed t false some e other =
    let there : 0 < length text = (let n = eqb-false (length text) 0 some in elim (cases_lt 0 (length text)) [ inl h ↦ h | inr h ↦ absurd (n (omega arith)) ]) in
    let tight : IsTight text = t.tight there in
    let end : t.right ≡ [] = no_gap_behind t.left text t.right t.behind (ap (λ (x : List ℕ). is_blank (get_or x (length x - 1) 0)) (sym t.are) ∙ a.last) in
    let gap : IsGap t.left = gap_before t.left text t.right t.before tight (ap (λ (x : List ℕ). is_blank (get_or x 0 0)) (sym t.are) ∙ a.blank) in
    let whole : rest ≡ t.left ++ text = t.are ∙ ap (λ (x : List ℕ). t.left ++ (text ++ x)) end ∙ ap (λ (x : List ℕ). t.left ++ x) (nothing text) in
    Lone left key t.left text right (unquoted text) a.before a.named gap tight (λ o. both_ways (opens_block rest) closed (ap opens_block whole ∙ opens_again t.left text gap o)) (written text (is_quoted text) refl) a.behind
    (a.are ∙ ap (λ (x : List ℕ). left ++ ((key ++ x) ++ right)) whole ∙ sym (lone_line left key t.left text right))
    (sym e ∙ cond-false (length text == 0) Formless (Entry key (unquoted text) false) some)

opening_written : (line left key rest right text : List ℕ) (form : Form) → AtKey line left key rest right → Opens rest → IsTrimmed (take (length rest - 1) rest) text → (b : Bool) → (length text == 0) ≡ b → valued key text true ≡ form →
    form ≢ Formless → IsForm line form
opening_written line left key rest right text form a o t true none e other = absurd (other (sym e ∙ cond-true (length text == 0) Formless (Entry key (unquoted text) true) none))
opening_written line left key rest right text form a o t false some e other =
    let there : 0 < length text = (let n = eqb-false (length text) 0 some in elim (cases_lt 0 (length text)) [ inl h ↦ h | inr h ↦ absurd (n (omega arith)) ]) in
    let tight : IsTight text = t.tight there in
    let os = o.some in
    let front : List ℕ = take (length rest - 1) rest in
    let lf : length (take (length rest - 1) rest) ≡ length rest - 1 = length-take-le (length rest - 1) rest (omega arith) in
    let first : is_blank (get_or front 0 0) ≡ true = ap is_blank (get_or-take (length rest - 1) rest 0 0 (omega arith)) ∙ a.blank in
    let final : is_blank (get_or front (length front - 1) 0) ≡ true =
    ap (λ k. is_blank (get_or front k 0)) (let z : length front - 1 ≡ length rest - 2 = omega arith in z) ∙ ap is_blank (get_or-take (length rest - 1) rest (length rest - 2) 0 (omega arith)) ∙ o.blank in
    let gap : IsGap t.left = gap_before t.left text t.right t.before tight (ap (λ (x : List ℕ). is_blank (get_or x 0 0)) (sym t.are) ∙ first) in
    let after : IsGap t.right = gap_behind t.left text t.right t.behind tight (ap (λ (x : List ℕ). is_blank (get_or x (length x - 1) 0)) (sym t.are) ∙ final) in
    let whole : rest ≡ t.left ++ (text ++ (t.right ++ 123 ∷ [])) =
    last_of rest (length rest - 1) (omega arith) ∙ ap (λ y. front ++ y ∷ []) o.last ∙ ap (λ (x : List ℕ). x ++ 123 ∷ []) t.are ∙ sym (opening_rest t.left text t.right) in
    Opening left key t.left text t.right right (unquoted text) a.before a.named gap tight (written text (is_quoted text) refl) after a.behind
    (a.are ∙ ap (λ (x : List ℕ). left ++ ((key ++ x) ++ right)) whole ∙ sym (opening_line left key t.left text t.right right))
    (sym e ∙ cond-false (length text == 0) Formless (Entry key (unquoted text) true) some)

entry_written : (line left key rest right : List ℕ) (form : Form) → AtKey line left key rest right → (b : Bool) → opens_block rest ≡ b → entry key rest ≡ form → form ≢ Formless → IsForm line form
entry_written line left key rest right form a true is e other =
    let text : List ℕ = trimmed (take (length rest - 1) rest) in
    opening_written line left key rest right text form a (opens_of rest is) (is_trimmed (take (length rest - 1) rest)) (length text == 0) refl
    (sym (cond-true (opens_block rest) (valued key text true) (valued key (trimmed rest) false) is) ∙ e) other
entry_written line left key rest right form a false is e other =
    let text : List ℕ = trimmed rest in
    lone_written line left key rest right text form a is (is_trimmed rest) (length text == 0) refl
    (sym (cond-false (opens_block rest) (valued key (trimmed (take (length rest - 1) rest)) true) (valued key text false) is) ∙ e) other

abbrev has_key : List ℕ → Bool
has_key bare = nat_lt 0 (key_len bare) && (nat_lt (key_len bare) (length bare) && is_blank (slice_index bare (key_len bare)))

keyed_written : (line bare : List ℕ) (form : Form) → IsTrimmed line bare → 0 < length bare → (b : Bool) → has_key bare ≡ b → keyed bare ≡ form → form ≢ Formless → IsForm line form
keyed_written line bare form t some false is e other = absurd (other (sym e ∙ cond-false (has_key bare) (entry (take (key_len bare) bare) (drop (key_len bare) bare)) Formless is))
keyed_written line bare form t some true is e other =
    let n : ℕ = key_len bare in
    let p = and_parts (nat_lt 0 n) (nat_lt n (length bare) && is_blank (slice_index bare n)) is in
    let q = and_parts (nat_lt n (length bare)) (is_blank (slice_index bare n)) p.1 in
    let low : 0 < n = ltb-true 0 n p.0 in
    let high : n < length bare = ltb-true n (length bare) q.0 in
    let lk : length (take n bare) ≡ n = length-take-le n bare (omega arith) in
    let lr : length (drop n bare) ≡ length bare - n = length-drop n bare in
    entry_written line t.left (take n bare) (drop n bare) t.right form
    (record {
      are = t.are ∙ ap (λ (x : List ℕ). t.left ++ (x ++ t.right)) (sym (take-append-drop n bare));
      before = t.before;
      behind = t.behind;
      named = record { some = omega arith; each = All-from_get_or (λ b. is_identifier_byte b ≡ true) (take n bare) 0 (λ k l. ap is_identifier_byte (get_or-take n bare k 0 (omega arith)) ∙ prefix_len_passes is_identifier_byte bare k 0 (omega arith)) };
      blank = ap is_blank (get_or-drop n bare 0 0 ∙ ap (λ j. get_or bare j 0) (let z : n + 0 ≡ n = omega arith in z)) ∙ q.1;
      last = ap is_blank (get_or-drop n bare (length (drop n bare) - 1) 0 ∙ ap (λ j. get_or bare j 0) (let z : n + (length (drop n bare) - 1) ≡ length bare - 1 = omega arith in z)) ∙ (t.tight some).last;
    })
    (opens_block (drop n bare)) refl (sym (cond-true (has_key bare) (entry (take n bare) (drop n bare)) Formless is) ∙ e) other

brace_written : (line : List ℕ) (b : ℕ) (bs : List ℕ) (form : Form) → IsTrimmed line (b ∷ bs) → (b == 35) ≡ false → (c : Bool) → pointwise nat_eq (b ∷ bs) (125 ∷ []) ≡ c → bare_form (b ∷ bs) ≡ form → form ≢ Formless → IsForm line form
brace_written line b bs form t other true is e some =
    let same : b ∷ bs ≡ 125 ∷ [] = (bytes_eq-Decides (b ∷ bs) (125 ∷ [])).0 is in
    Brace t.left t.right t.before t.behind (t.are ∙ ap (λ (x : List ℕ). t.left ++ (x ++ t.right)) same)
    (sym e ∙ other_form b bs other ∙ cond-true (pointwise nat_eq (b ∷ bs) (125 ∷ [])) Closing (keyed (b ∷ bs)) is)
brace_written line b bs form t other false is e some =
    keyed_written line (b ∷ bs) form t (omega arith) (has_key (b ∷ bs)) refl (sym (cond-false (pointwise nat_eq (b ∷ bs) (125 ∷ [])) Closing (keyed (b ∷ bs)) is) ∙ sym (other_form b bs other) ∙ e) some

bare_written : (line : List ℕ) (b : ℕ) (bs : List ℕ) (form : Form) → IsTrimmed line (b ∷ bs) → (c : Bool) → (b == 35) ≡ c → bare_form (b ∷ bs) ≡ form → form ≢ Formless → IsForm line form
bare_written line b bs form t true is e other =
    Comment t.left (bs ++ t.right) t.before (t.are ∙ ap (λ x. t.left ++ x ∷ (bs ++ t.right)) (eqb-true b 35 is)) (sym e ∙ comment_form b bs is)
bare_written line b bs form t false is e other = brace_written line b bs form t is (pointwise nat_eq (b ∷ bs) (125 ∷ [])) refl e other

by_bare : (line bare : List ℕ) (form : Form) → IsTrimmed line bare → bare_form bare ≡ form → form ≢ Formless → IsForm line form
by_bare line [] form t e other =
    Empty (subst (λ (x : List ℕ). AllPass is_blank x) (sym t.are) (All-append (λ b. is_blank b ≡ true) t.left t.right t.before t.behind)) (sym e)
by_bare line (b ∷ bs) form t e other = bare_written line b bs form t (b == 35) refl e other

pub form_written : (line : List ℕ) (form : Form) → bare_form (trimmed line) ≡ form → form ≢ Formless → IsForm line form
form_written line form e other = by_bare line (trimmed line) form (is_trimmed line) e other
