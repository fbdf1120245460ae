-- Attributes in tags: each is read exactly where it is spelled.
use Rattle.std.proofs.Common.{◌≡◌, ℕ, suc, ◌+◌, ◌<◌, Bool, true, false, ◌==◌, ◌&&◌, if◌then◌else◌, List, [], ◌∷◌, ◌++◌, length, take, drop, get_or, nat_lt, nat_le, refl, sym, ◌∙◌, ap, subst, arith, append_assoc, Option, None, Some}
use Rattle.std.specs.List.{AllPass, prefix_len}
use Rattle.std.proofs.lemmas.Bool.{and_parts, eqb-true, ltb-true, le-leb, leb-true}
use Rattle.std.proofs.lemmas.Grind.{common_steps}
use Rattle.std.proofs.lemmas.List.{take-append-drop}
use Rattle.std.proofs.lemmas.List.Sums.{prefix_len_stops}
use Rattle.mt_text_spec.specs.Words.{is_identifier_start, is_identifier_byte, IsIdentifier}
use Rattle.mt_file_spec.specs.Tags.{is_space, AreSpaces, is_quote, differs, TagAttr, SpellsAttr, SpellsAttrs}
use Rattle.mt_vertical.specs.TagReading.{◌>>=◌, past, starts, behind, identifier_at, equals_at, quote_at, quoted_at, attr_at, ReadsAttrs}
use Rattle.mt_vertical.proofs.Steps.{then_some, if_some, same, none_some, some_once, all_head, front_of, take_front, left_of, parts, front_passes, some_pass}

-- ## Identifiers

start_is_in : (b : ℕ) → is_identifier_start b ≡ true → is_identifier_byte b ≡ true
start_is_in b e = grind (arith, common_steps)

starts_in : (bytes : List ℕ) → starts is_identifier_start bytes ≡ true → starts is_identifier_byte bytes ≡ true
starts_in [] e = cc
starts_in (b ∷ bytes) e = start_is_in b e

pub first_taken : (p q : ℕ → Bool) (bytes : List ℕ) → starts q bytes ≡ true → 0 < length (take (prefix_len p bytes) bytes) → q (get_or (take (prefix_len p bytes) bytes) 0 0) ≡ true
first_taken p q [] e some = cc
first_taken p q (b ∷ bytes) e some = elim (p b) as (λ t. 0 < length (take (if t then 1 + prefix_len p bytes else 0) (b ∷ bytes)) → q (get_or (take (if t then 1 + prefix_len p bytes else 0) (b ∷ bytes)) 0 0) ≡ true)
    [ true ↦ λ _. grind (arith, common_steps, e) | false ↦ λ none. absurd (omega (arith, none)) ] some

-- what is read as an identifier is one
pub identifier_gives : (bytes : List ℕ) (found : List ℕ × List ℕ) → identifier_at bytes ≡ Some found → (bytes ≡ found.0 ++ found.1) × IsIdentifier found.0
unfolding identifier_at
identifier_gives bytes found e =
    let n : ℕ = prefix_len is_identifier_byte bytes in
    if_some (starts is_identifier_start bytes && nat_le n 64) (Some (take n bytes, drop n bytes)) found e (λ t r.
    let is : (take n bytes, drop n bytes) ≡ found = same _ _ r in
    let both = and_parts (starts is_identifier_start bytes) (nat_le n 64) t in
    let some : 0 < length (take n bytes) = some_pass is_identifier_byte bytes (starts_in bytes both.0) in
    rw (← is) (
      parts is_identifier_byte bytes,
      record {
        some = some;
        short = grind (arith, common_steps, leb-true n 64 both.1);
        first = first_taken is_identifier_byte is_identifier_start bytes both.0 some;
        each = front_passes is_identifier_byte bytes;
      },
    ))

pub starts_of : (p : ℕ → Bool) (xs ys : List ℕ) → 0 < length xs → p (get_or xs 0 0) ≡ true → starts p (xs ++ ys) ≡ true
starts_of p [] ys some e = absurd (omega arith)
starts_of p (x ∷ xs) ys some e = e

-- an identifier is read
pub identifier_back : (name rest : List ℕ) → IsIdentifier name → starts is_identifier_byte rest ≡ false → identifier_at (name ++ rest) ≡ Some (name, rest)
unfolding identifier_at
identifier_back name rest is stop =
    rw (front_of is_identifier_byte name rest is.each stop, starts_of is_identifier_start name rest is.some is.first, le-leb (length name) 64 is.short)
    (grind (arith, common_steps))

-- ## `=`

pub behind_gives : (byte : ℕ) (bytes rest : List ℕ) → behind byte bytes ≡ Some rest → bytes ≡ byte ∷ rest
unfolding behind
behind_gives byte [] rest e = cc
behind_gives byte (b ∷ bytes) rest e = if_some (b == byte) (Some bytes) rest e (λ t r.
    let is : bytes ≡ rest = same _ _ r in let same_byte : b ≡ byte = eqb-true b byte t in cc)

pub behind_back : (byte : ℕ) (rest : List ℕ) → behind byte (byte ∷ rest) ≡ Some rest
unfolding behind
behind_back byte rest = grind arith

-- the parts round an `=`
record IsEquals (bytes rest : List ℕ) : Type 0 where
  pub left : List ℕ
  pub right : List ℕ
  pub are : bytes ≡ left ++ 61 ∷ (right ++ rest)
  pub spaces_left : AreSpaces left
  pub spaces_right : AreSpaces right

equals_gives : (bytes rest : List ℕ) → equals_at bytes ≡ Some rest → IsEquals bytes rest
unfolding equals_at
equals_gives bytes rest e = then_some (behind 61 (past is_space bytes)) (λ r. Some (past is_space r)) rest e (λ more b r.
    let is : past is_space more ≡ rest = same _ _ r in
    record {
      left = take (prefix_len is_space bytes) bytes;
      right = take (prefix_len is_space more) more;
      are = parts is_space bytes ∙ ap (λ s. take (prefix_len is_space bytes) bytes ++ s)
          (behind_gives 61 (past is_space bytes) more b ∙ ap (λ s. 61 ∷ s) (parts is_space more ∙ ap (λ s. take (prefix_len is_space more) more ++ s) is));
      spaces_left = front_passes is_space bytes;
      spaces_right = front_passes is_space more;
    })

equals_back : (left right rest : List ℕ) → AreSpaces left → AreSpaces right → starts is_space rest ≡ false → equals_at (left ++ 61 ∷ (right ++ rest)) ≡ Some rest
unfolding equals_at
equals_back left right rest l r stop =
    rw (left_of is_space left (61 ∷ (right ++ rest)) l refl, behind_back 61 (right ++ rest)) (ap Some (left_of is_space right rest r stop))

-- ## Quoted values

-- a value between quotes
record IsQuoted (bytes value rest : List ℕ) : Type 0 where
  pub quote : ℕ
  pub are : bytes ≡ quote ∷ (value ++ quote ∷ rest)
  pub quoted : is_quote quote ≡ true
  pub inside : AllPass (differs quote) value

not_differs : (quote b : ℕ) → differs quote b ≡ false → b ≡ quote
not_differs quote b e = grind (arith, common_steps)

cut_at : (xs : List ℕ) (n : ℕ) → n < length xs → xs ≡ take n xs ++ get_or xs n 0 ∷ drop (n + 1) xs
cut_at xs n l = grind (arith, common_steps, take-append-drop)

quote_gives : (quote : ℕ) (bytes : List ℕ) (found : List ℕ × List ℕ) → is_quote quote ≡ true → quote_at quote bytes ≡ Some found → IsQuoted (quote ∷ bytes) found.0 found.1
unfolding quote_at
quote_gives quote bytes found q e =
    let n : ℕ = prefix_len (differs quote) bytes in
    if_some (nat_lt n (length bytes)) (Some (take n bytes, drop (n + 1) bytes)) found e (λ t r.
    let is : (take n bytes, drop (n + 1) bytes) ≡ found = same _ _ r in
    let low : n < length bytes = ltb-true n (length bytes) t in
    rw (← is) (record {
      quote = quote;
      are = ap (λ s. quote ∷ s) (cut_at bytes n low ∙ ap (λ b. take n bytes ++ b ∷ drop (n + 1) bytes) (not_differs quote (get_or bytes n 0) (prefix_len_stops (differs quote) bytes 0 low)));
      quoted = q;
      inside = front_passes (differs quote) bytes;
    }))

quoted_gives : (bytes : List ℕ) (found : List ℕ × List ℕ) → quoted_at bytes ≡ Some found → IsQuoted bytes found.0 found.1
unfolding quoted_at
quoted_gives [] found e = cc
quoted_gives (b ∷ bytes) found e = if_some (is_quote b) (quote_at b bytes) found e (λ t r. quote_gives b bytes found t r)

differs_same : (quote : ℕ) → differs quote quote ≡ false
differs_same quote = grind arith

within : (value rest : List ℕ) (quote : ℕ) → nat_lt (length value) (length (value ++ quote ∷ rest)) ≡ true
within value rest quote = grind (arith, common_steps)

drop_past : (value rest : List ℕ) (quote : ℕ) → drop (length value + 1) (value ++ quote ∷ rest) ≡ rest
drop_past [] rest quote = refl
drop_past (x ∷ value) rest quote =
    let more : length (x ∷ value) + 1 ≡ suc (length value + 1) = omega arith in
    ap (λ n. drop n (x ∷ (value ++ quote ∷ rest))) more ∙ drop_past value rest quote

quoted_back : (quote : ℕ) (value rest : List ℕ) → is_quote quote ≡ true → AllPass (differs quote) value → quoted_at (quote ∷ (value ++ quote ∷ rest)) ≡ Some (value, rest)
unfolding quoted_at quote_at
quoted_back quote value rest q all =
    rw (q, front_of (differs quote) value (quote ∷ rest) all (differs_same quote), within value rest quote, take_front value (quote ∷ rest), drop_past value rest quote) refl

-- ## Attributes

-- an attribute and what follows it
pub record IsAttr (bytes : List ℕ) (attr : TagAttr) (rest : List ℕ) : Type 0 where
  pub front : List ℕ
  pub are : bytes ≡ front ++ rest
  pub spelled : SpellsAttr front attr

joined : (before name left right value : List ℕ) (quote : ℕ) (rest : List ℕ) →
    before ++ (name ++ (left ++ 61 ∷ (right ++ quote ∷ (value ++ quote ∷ rest)))) ≡ (before ++ name ++ left ++ 61 ∷ right ++ quote ∷ value ++ quote ∷ []) ++ rest
joined before name left right value quote rest = simp append_assoc refl

pub attr_gives : (bytes : List ℕ) (attr : TagAttr) (rest : List ℕ) → attr_at bytes ≡ Some (attr, rest) → IsAttr bytes attr rest
unfolding attr_at
attr_gives bytes attr rest e =
    let named : List ℕ × List ℕ → List ℕ × List ℕ → Option (TagAttr × List ℕ) = λ name value. Some (record { name = name.0; value = value.0 }, value.1) in
    if_some (starts is_space bytes) (identifier_at (past is_space bytes) >>= (λ name. equals_at name.1 >>= (λ rest. quoted_at rest >>= named name))) (attr, rest) e (λ t e1.
    then_some (identifier_at (past is_space bytes)) (λ name. equals_at name.1 >>= (λ rest. quoted_at rest >>= named name)) (attr, rest) e1 (λ name n e2.
    then_some (equals_at name.1) (λ rest. quoted_at rest >>= named name) (attr, rest) e2 (λ behind_equals b e3.
    then_some (quoted_at behind_equals) (named name) (attr, rest) e3 (λ value v e4.
    let is : (record { name = name.0; value = value.0 }, value.1) ≡ (attr, rest) = same _ _ e4 in
    let i = identifier_gives (past is_space bytes) name n in
    let q = equals_gives name.1 behind_equals b in
    let u = quoted_gives behind_equals value v in
    let one : record { name = name.0; value = value.0 } ≡ attr = ap (λ p. p.0) is in
    let others : value.1 ≡ rest = ap (λ p. p.1) is in
    rw (← one, ← others) (record {
      front = take (prefix_len is_space bytes) bytes ++ name.0 ++ q.left ++ 61 ∷ q.right ++ u.quote ∷ value.0 ++ u.quote ∷ [];
      are = parts is_space bytes ∙ ap (λ s. take (prefix_len is_space bytes) bytes ++ s) (i.0 ∙ ap (λ s. name.0 ++ s) (q.are ∙ ap (λ s. q.left ++ 61 ∷ (q.right ++ s)) u.are))
          ∙ joined (take (prefix_len is_space bytes) bytes) name.0 q.left q.right value.0 u.quote value.1;
      spelled = record {
        before = take (prefix_len is_space bytes) bytes;
        left = q.left;
        right = q.right;
        quote = u.quote;
        are = refl;
        apart = some_pass is_space bytes t;
        spaces = front_passes is_space bytes;
        named = i.1;
        spaces_left = q.spaces_left;
        spaces_right = q.spaces_right;
        quoted = u.quoted;
        inside = u.inside;
      };
    })))))

-- ## A spelled attribute is read

space_no_name : (b : ℕ) → is_space b ≡ true → is_identifier_byte b ≡ false
space_no_name b e = let is : b ≡ 32 = eqb-true b 32 e in rw is refl

quote_no_space : (b : ℕ) → is_quote b ≡ true → is_space b ≡ false
quote_no_space b e = grind (arith, common_steps)

stops_name : (left rest : List ℕ) → AreSpaces left → starts is_identifier_byte (left ++ 61 ∷ rest) ≡ false
stops_name [] rest s = refl
stops_name (b ∷ left) rest s = space_no_name b (all_head (λ b. is_space b ≡ true) b left s)

name_no_space : (b : ℕ) → is_identifier_start b ≡ true → is_space b ≡ false
name_no_space b e = grind (arith, common_steps)

stops_spaces : (name rest : List ℕ) → IsIdentifier name → starts is_space (name ++ rest) ≡ false
stops_spaces [] rest i = let some : 0 < 0 = i.some in absurd (omega arith)
stops_spaces (b ∷ name) rest i = name_no_space b i.first

starts_apart : (before rest : List ℕ) → AreSpaces before → 0 < length before → starts is_space (before ++ rest) ≡ true
starts_apart [] rest s some = absurd (omega arith)
starts_apart (b ∷ before) rest s some = all_head (λ b. is_space b ≡ true) b before s

pub attr_back : (front : List ℕ) (attr : TagAttr) (rest : List ℕ) → SpellsAttr front attr → attr_at (front ++ rest) ≡ Some (attr, rest)
unfolding attr_at
attr_back front attr rest s =
    let bytes : front ++ rest ≡ s.before ++ (attr.name ++ (s.left ++ 61 ∷ (s.right ++ s.quote ∷ (attr.value ++ s.quote ∷ rest)))) =
    ap (λ f. f ++ rest) s.are ∙ sym (joined s.before attr.name s.left s.right attr.value s.quote rest) in
    let behind_name : List ℕ = s.left ++ 61 ∷ (s.right ++ s.quote ∷ (attr.value ++ s.quote ∷ rest)) in
    let stop : starts is_space (attr.name ++ behind_name) ≡ false = stops_spaces attr.name behind_name s.named in
    let quote_stop : starts is_space (s.quote ∷ (attr.value ++ s.quote ∷ rest)) ≡ false = quote_no_space s.quote s.quoted in
    rw (
      bytes,
      starts_apart s.before (attr.name ++ behind_name) s.spaces s.apart,
      left_of is_space s.before (attr.name ++ behind_name) s.spaces stop,
      identifier_back attr.name behind_name s.named (stops_name s.left (s.right ++ s.quote ∷ (attr.value ++ s.quote ∷ rest)) s.spaces_left),
      equals_back s.left s.right (s.quote ∷ (attr.value ++ s.quote ∷ rest)) s.spaces_left s.spaces_right quote_stop,
      quoted_back s.quote attr.value rest s.quoted s.inside,
    ) refl

-- ## Attributes one after another

-- the bytes begin with attributes in one way
pub attrs_once : (bytes : List ℕ) (xs ys : List TagAttr) (r s : List ℕ) → ReadsAttrs bytes xs r → ReadsAttrs bytes ys s → (xs ≡ ys) × (r ≡ s)
attrs_once bytes [] [] r s h k = (refl, sym h.1 ∙ k.1)
attrs_once bytes [] (y ∷ ys) r s h k = none_some (attr_at bytes) (y, k.0) h.0 k.1
attrs_once bytes (x ∷ xs) [] r s h k = none_some (attr_at bytes) (x, h.0) k.0 h.1
attrs_once bytes (x ∷ xs) (y ∷ ys) r s h k =
    let both : (x, h.0) ≡ (y, k.0) = some_once (attr_at bytes) (x, h.0) (y, k.0) h.1 k.1 in
    let one : x ≡ y = ap (λ p. p.0) both in
    let more : h.0 ≡ k.0 = ap (λ p. p.1) both in
    let rest = attrs_once k.0 xs ys r s (let P : List ℕ → Type 0 = λ b. ReadsAttrs b xs r in subst P more h.2) k.2 in
    (rw (one, rest.0) refl, rest.1)

-- what the bytes begin with
pub record AreAttrs (bytes : List ℕ) (attrs : List TagAttr) (rest : List ℕ) : Type 0 where
  pub front : List ℕ
  pub are : bytes ≡ front ++ rest
  pub spelled : SpellsAttrs front attrs

pub attrs_give : (bytes : List ℕ) (attrs : List TagAttr) (rest : List ℕ) → ReadsAttrs bytes attrs rest → AreAttrs bytes attrs rest
attrs_give bytes [] rest h = record { front = []; are = h.1; spelled = refl }
attrs_give bytes (attr ∷ attrs) rest h =
    let one = attr_gives bytes attr h.0 h.1 in
    let others = attrs_give h.0 attrs rest h.2 in
    record {
      front = one.front ++ others.front;
      are = one.are ∙ ap (λ s. one.front ++ s) others.are ∙ sym (append_assoc one.front others.front rest);
      spelled = (one.front, others.front, refl, one.spelled, others.spelled);
    }

pub attrs_back : (front : List ℕ) (attrs : List TagAttr) (rest : List ℕ) → SpellsAttrs front attrs → attr_at rest ≡ None → ReadsAttrs (front ++ rest) attrs rest
attrs_back front [] rest s none = rw s (none, refl)
attrs_back front (attr ∷ attrs) rest s none =
    (s.1 ++ rest, ap (λ f. attr_at (f ++ rest)) s.2 ∙ ap attr_at (append_assoc s.0 s.1 rest) ∙ attr_back s.0 attr (s.1 ++ rest) s.3, attrs_back s.1 attrs rest s.4 none)

longer : (before name left right value : List ℕ) (quote : ℕ) → 0 < length before → 0 < length (before ++ name ++ left ++ 61 ∷ right ++ quote ∷ value ++ quote ∷ [])
longer before name left right value quote h = grind (arith, common_steps)

apart_len : (front rest : List ℕ) → 0 < length front → length rest < length (front ++ rest)
apart_len front rest h = grind (arith, common_steps)

-- an attribute takes bytes
pub attr_takes : (bytes : List ℕ) (attr : TagAttr) (rest : List ℕ) → attr_at bytes ≡ Some (attr, rest) → length rest < length bytes
attr_takes bytes attr rest e =
    let one = attr_gives bytes attr rest e in
    let s = one.spelled in
    let some : 0 < length one.front = rw s.are (longer s.before attr.name s.left s.right attr.value s.quote s.apart) in
    rw one.are (apart_len one.front rest some)
