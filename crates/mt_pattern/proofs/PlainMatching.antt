-- The expression that a text of plain characters is read as, between the marks for a value's start and end, matches that text alone.
use Rattle.std.proofs.Common.{◌≡◌, ℕ, suc, zero, ◌+◌, ◌≤◌, inl, inr, true, List, [], ◌∷◌, ◌++◌, length, map, drop, is_some, refl, sym, ◌∙◌, ap, arith, append_assoc, append-nil, length-append, true≢false, encode_utf8, encode_utf8_all, IsUtf8, drop-drop}
use Rattle.std.proofs.lemmas.Bool.{cases_lt}
use Rattle.std.proofs.lemmas.List.{drop_all}
use Rattle.std.proofs.lemmas.Option.{slice_get-get_or, slice_get_past}
use Rattle.std.proofs.lemmas.Str.{IsCharBoundary-start}
use Rattle.std.proofs.Math.Seq.{drop-append_seam}
use Rattle.regex.proofs.ForCallers.{find_str_sound, find_str_complete}
use Rattle.regex.proofs.SearchLemmas.{leftmost_attempt}
use Rattle.regex.specs.Patterns.{find_str, in_ranges}
use Rattle.regex_hir.proofs.OptionLemmas.{value_of_IsSome}
use Rattle.regex_hir.proofs.TextLemmas.{byte_before-zero, byte_before-add-one, has_bytes_at_parts, has_bytes_at_from}
use Rattle.regex_hir.specs.declared.look.Look.TheVariants.{Start, End}
use Rattle.regex_hir.specs.Looks.{holds, holds_between}
use Rattle.regex_hir.specs.Matches.{Matches}
use Rattle.regex_hir.specs.Meaning.{cat_all, alt_all}
use Rattle.regex_hir.specs.Re.{Re, look}
use Rattle.regex_syntax.proofs.EscapeLemmas.{itself}
use Rattle.mt_pattern.proofs.PlainReading.{whole, inner}

-- ---- where assertions hold

at_start : (hay : List ℕ) (i : ℕ) → i ≤ length hay → holds Start hay i ≡ true → i ≡ 0
unfolding holds holds_between
at_start hay zero le h = refl
at_start hay (suc i) le h =
    let next : suc i ≡ i + 1 = omega arith in
    absurd (true≢false (sym h ∙ rw (next, byte_before-add-one hay i, slice_get-get_or hay i 0 (omega arith))))

at_end : (hay : List ℕ) (i : ℕ) → holds End hay i ≡ true → length hay ≤ i
unfolding holds holds_between
at_end hay i h = elim (cases_lt i (length hay))
    [ inl lt ↦ absurd (true≢false (sym h ∙ rw (slice_get-get_or hay i 0 lt))) | inr ge ↦ ge ]

holds_at_start : (hay : List ℕ) → holds Start hay 0 ≡ true
unfolding holds holds_between
holds_at_start hay = rw (byte_before-zero hay) refl

holds_at_end : (hay : List ℕ) → holds End hay (length hay) ≡ true
unfolding holds holds_between
holds_at_end hay = rw (slice_get_past hay (length hay) (omega arith)) refl

-- ---- characters one after another

abbrev letters : List ℕ → Re
letters cs = cat_all (map (λ part. part.value) (map itself cs))

spelled : (hay cs : List ℕ) (i j : ℕ) → Matches hay (letters cs) i j → drop i hay ≡ encode_utf8_all cs ++ drop j hay
spelled hay [] i j m = ap (λ n. drop n hay) (sym m)
spelled hay (c ∷ cs) i j (l, one, others) =
    has_bytes_at_parts hay i (encode_utf8 c) one.0
    ∙ ap (λ n. encode_utf8 c ++ drop n hay) (sym one.1)
    ∙ ap (λ (rest : List ℕ). encode_utf8 c ++ rest) (spelled hay cs l j others)
    ∙ sym (append_assoc (encode_utf8 c) (encode_utf8_all cs) (drop j hay))

spells : (hay cs rest : List ℕ) (i j : ℕ) → drop i hay ≡ encode_utf8_all cs ++ rest → j ≡ i + length (encode_utf8_all cs) → Matches hay (letters cs) i j
spells hay [] rest i j e to = omega arith
spells hay (c ∷ cs) rest i j e to =
    let front : List ℕ = encode_utf8 c in
    let here : drop i hay ≡ front ++ (encode_utf8_all cs ++ rest) = e ∙ append_assoc front (encode_utf8_all cs) rest in
    let after : drop (i + length front) hay ≡ encode_utf8_all cs ++ rest = passed hay front (encode_utf8_all cs ++ rest) i here in (
      i + length front,
      (has_bytes_at_from hay i front (encode_utf8_all cs ++ rest) here, refl),
      spells hay cs rest (i + length front) j after (omega (arith, length-append front (encode_utf8_all cs))),
    )
  where
    passed : (hay front rest : List ℕ) (i : ℕ) → drop i hay ≡ front ++ rest → drop (i + length front) hay ≡ rest
    passed hay front rest i e = sym (drop-drop (length front) i hay) ∙ ap (drop (length front)) e ∙ drop-append_seam front rest

-- ---- the whole

none_there : (hay : List ℕ) (i j : ℕ) → Matches hay (alt_all []) i j → ⊥
unfolding in_ranges
none_there hay i j m = true≢false (sym m.2)

one_way : (hay : List ℕ) (re : Re) (i j : ℕ) → Matches hay (alt_all (re ∷ [])) i j → Matches hay re i j
one_way hay re i j (inl m) = m
one_way hay re i j (inr none) = absurd (none_there hay i j none)

of_letters : (hay cs : List ℕ) (i j : ℕ) → i ≡ 0 → length hay ≤ j → Matches hay (letters cs) i j → hay ≡ encode_utf8_all cs
of_letters hay cs i j from to m =
    ap (λ n. drop n hay) (sym from) ∙ spelled hay cs i j m ∙ ap (λ (rest : List ℕ). encode_utf8_all cs ++ rest) (drop_all j hay to) ∙ append-nil (encode_utf8_all cs)

abbrev sequence : List ℕ → Re
sequence cs = cat_all (look Start ∷ (inner cs).value ∷ look End ∷ [])

of_sequence : (hay cs : List ℕ) (i j : ℕ) → i ≤ length hay → Matches hay (sequence cs) i j → hay ≡ encode_utf8_all cs
of_sequence hay cs i j low (k, start, (l, group, (end, last, others))) =
    of_letters hay cs k l (start.1 ∙ at_start hay i low start.0) (at_end hay l last.0) (one_way hay (letters cs) k l group)

of_match : (hay cs : List ℕ) (i j : ℕ) → i ≤ length hay → Matches hay (whole cs).value i j → hay ≡ encode_utf8_all cs
of_match hay cs i j low m = of_sequence hay cs i j low (one_way hay (sequence cs) i j m)

pub only_itself : (cs hay : List ℕ) → is_some (find_str (whole cs).value hay 0) ≡ true → hay ≡ encode_utf8_all cs
only_itself cs hay h =
    let found = value_of_IsSome (find_str (whole cs).value hay 0) h in
    let m = (find_str_sound (whole cs).value hay 0 found.0 found.1).1 in
    let low = (leftmost_attempt (whole cs).value hay true 0 found.0 found.1).1 in
    of_match hay cs _ _ low m

pub itself_too : (cs hay : List ℕ) → IsUtf8 hay → hay ≡ encode_utf8_all cs → is_some (find_str (whole cs).value hay 0) ≡ true
itself_too cs hay utf8 e =
    let n : ℕ = length hay in
    let spelt : Matches hay (letters cs) 0 n = spells hay cs [] 0 n (e ∙ sym (append-nil (encode_utf8_all cs))) (omega (arith, ap length e)) in
    find_str_complete (whole cs).value hay 0 0 n (omega arith) (IsCharBoundary-start hay utf8)
    (inl (0, (holds_at_start hay, refl), (n, inl spelt, (n, (holds_at_end hay, refl), refl))))
