-- Where a text is cut after some of its characters.
use Rattle.std.proofs.Common.{◌≡◌, ℕ, ◌+◌, ◌-◌, ◌≤◌, ◌<◌, List, ◌∷◌, ◌++◌, length, take, drop, get_or, sym, ◌∙◌, ap, subst, arith, length-append, chars, encode_utf8_all}
use Rattle.std.specs.Str.{IsUtf8, IsCharBoundary}
use Rattle.std.proofs.lemmas.List.{take_all, drop_more, take-append-drop, length-drop}
use Rattle.std.proofs.lemmas.Str.{encodes-chars, encodes-append, cons_from_encodes, length-le-encodes, IsCharBoundary-at_seam, IsCharBoundary-from_take}
use Rattle.std.proofs.Math.Seq.{drop-append_seam, take-append_seam}
use Rattle.std.specs.Char.{encode_utf8}
use Rattle.std.specs.List.{slice_range}
use Rattle.mt_mapper.specs.Images.{prefix}

-- the text is its first characters and the others
pub parts : (text : List ℕ) (k : ℕ) → IsUtf8 text → text ≡ encode_utf8_all (take k (chars text)) ++ encode_utf8_all (drop k (chars text))
parts text k u = sym (encodes-chars text u) ∙ ap encode_utf8_all (sym (take-append-drop k (chars text))) ∙ encodes-append (take k (chars text)) (drop k (chars text))

pub seam : (text rest : List ℕ) (k : ℕ) → IsUtf8 text → rest ≡ encode_utf8_all (drop k (chars text)) → text ≡ encode_utf8_all (take k (chars text)) ++ rest
seam text rest k u e = rw e (parts text k u)

-- one character more was passed
pub passed : (cs rest others : List ℕ) (k c : ℕ) → rest ≡ encode_utf8_all (drop k cs) → rest ≡ encode_utf8 c ++ others → k ≤ length cs →
    (k + 1 ≤ length cs) × (others ≡ encode_utf8_all (drop (k + 1) cs))
passed cs rest others k c e f l =
    let (es, head, tail) = cons_from_encodes (drop k cs) others c (sym e ∙ f) in
    let more : k < length cs = omega (arith, ap length head, length-drop k cs) in
    let both : get_or cs k 0 ∷ drop (k + 1) cs ≡ c ∷ es = sym (drop_more cs k 0 more) ∙ head in
    let same : drop (k + 1) cs ≡ es = cc in
    (omega arith, sym tail ∙ ap encode_utf8_all (sym same))

-- no character is left: the text has no more than so many
pub whole : (text rest : List ℕ) (k count : ℕ) → IsUtf8 text → rest ≡ encode_utf8_all (drop k (chars text)) → length rest ≡ 0 → k ≤ count → text ≡ prefix count text
whole text rest k count u e none l =
    let few : length (chars text) ≤ k = omega (arith, ap length e, length-le-encodes (drop k (chars text)), length-drop k (chars text)) in
    sym (encodes-chars text u) ∙ ap encode_utf8_all (sym (take_all count (chars text) (omega arith)))

front_of : (text first rest : List ℕ) → text ≡ first ++ rest → slice_range text 0 (length text - length rest) ≡ first
front_of text first rest e =
    let n : length text - length rest - 0 ≡ length first = omega (arith, ap length e, length-append first rest) in
    ap (λ k. take k text) n ∙ ap (take (length first)) e ∙ take-append_seam first rest

pub front : (text rest : List ℕ) (k : ℕ) → IsUtf8 text → rest ≡ encode_utf8_all (drop k (chars text)) → slice_range text 0 (length text - length rest) ≡ prefix k text
front text rest k u e = front_of text (prefix k text) rest (seam text rest k u e)

pub short : (text rest : List ℕ) (k : ℕ) → IsUtf8 text → rest ≡ encode_utf8_all (drop k (chars text)) → length rest ≤ length text
short text rest k u e = omega (arith, ap length (seam text rest k u e), length-append (prefix k text) rest)

pub boundary : (text rest : List ℕ) (k : ℕ) → IsUtf8 text → IsUtf8 rest → rest ≡ encode_utf8_all (drop k (chars text)) → IsCharBoundary text (length text - length rest)
boundary text rest k u v e =
    let are : text ≡ prefix k text ++ rest = seam text rest k u e in
    let n : length (prefix k text) ≡ length text - length rest = omega (arith, ap length are, length-append (prefix k text) rest) in
    subst (IsCharBoundary text) n (IsCharBoundary-at_seam text (prefix k text) rest are v)

back_of : (text first rest : List ℕ) → text ≡ first ++ rest → drop (length first) text ≡ rest
back_of text first rest e = rw e (drop-append_seam first rest)

pub back : (text : List ℕ) (k : ℕ) → IsUtf8 text → drop (length (prefix k text)) text ≡ encode_utf8_all (drop k (chars text))
back text k u = back_of text (prefix k text) (encode_utf8_all (drop k (chars text))) (parts text k u)

pub back_boundary : (text first : List ℕ) (k : ℕ) → IsUtf8 text → IsUtf8 first → first ≡ prefix k text → IsCharBoundary text (length first)
back_boundary text first k u v e =
    let rest : List ℕ = encode_utf8_all (drop k (chars text)) in
    let are : text ≡ first ++ rest = parts text k u ∙ ap (λ (f : List ℕ). f ++ rest) (sym e) in
    let seen : take (length first) text ≡ first = ap (take (length first)) are ∙ take-append_seam first rest in
    IsCharBoundary-from_take text (length first) u (omega (arith, ap length are, length-append first rest)) (subst IsUtf8 (sym seen) v)
