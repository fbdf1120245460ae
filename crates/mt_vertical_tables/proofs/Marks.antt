-- Marks tell where the first byte is, and a text's first line ends at its first line feed.
use Rattle.std.proofs.Common.{◌≡◌, ℕ, ◌+◌, ◌-◌, ◌/◌, ◌%◌, ◌^◌, ◌<◌, ◌≤◌, Bool, true, false, cond, eqb, ne_eqb, eq-eqb, ◌==◌, List, [], ◌∷◌, ◌++◌, length, map, take, drop, get_or, get_or-take, get_or-drop, shr-shr, None, Some, refl, sym, ◌∙◌, ap, ap₂, subst, arith}
use lib.Lanes.{chunk}
use Rattle.std.specs.Simd.Lanes.{mask_l}
use Rattle.std.specs.Int.{bit_at}
use Rattle.std.specs.List.{All, slice_range, slice_split}
use Rattle.std.specs.Str.{IsUtf8, IsCharBoundary}
use Rattle.std.specs.Str.Lines.{lines, lines_of_parts, strip_carriage_return}
use Rattle.std.proofs.lemmas.Bool.{eqb-true, false_from_ne_true}
use Rattle.std.proofs.lemmas.Grind.{common_steps}
use Rattle.std.proofs.lemmas.List.{get_or-map, length-take, length-drop, take-append-drop}
use Rattle.std.proofs.lemmas.List.Elements.{All-from_get_or}
use Rattle.std.proofs.lemmas.List.Splits.{slice_split_at, slice_split_none, length-slice_split}
use Rattle.std.proofs.lemmas.Nat.Bits.{bit_at-zero}
use Rattle.std.proofs.lemmas.Simd.{length-chunk, get_or-chunk, bit_mask_l}
use Rattle.std.proofs.lemmas.Str.{IsCharBoundary-after_ascii}
use Rattle.memchr.specs.Find.{IsFirst, Nowhere, Passes, is_byte}
use Rattle.mt_file_spec.specs.VerticalLines.{columns}
use Rattle.mt_vertical.proofs.Columns.{cut_at_tab, only_column}
use Rattle.mt_vertical_tables.specs.Marks.{AreMarks, AreTabs, IsBehindColumn, IsFirstColumn}

-- ---- marks

told : (b : Bool) → ◌≡◌ {A = ℕ} (cond b 1 0) 1 → b ≡ true
told true e = refl
told false e = absurd (omega (arith, e))

bit_is : (byte : ℕ) (bytes : List ℕ) (marks k : ℕ) → 32 ≤ length bytes → marks ≡ mask_l (map (λ x. eqb x byte) (chunk 0 32 bytes)) → k < 32 → bit_at marks k ≡ cond (eqb (get_or bytes k 0) byte) 1 0
bit_is byte bytes marks k long e l =
    let v : List ℕ = chunk 0 32 bytes in
    let lanes : length v ≡ 32 = length-chunk 0 32 bytes (omega (arith, long)) in
    let at : get_or v k 0 ≡ get_or bytes k 0 = get_or-chunk 0 32 bytes k 0 l ∙ ap (λ n. get_or bytes n 0) (omega arith) in
    ap (λ m. bit_at m k) e ∙ bit_mask_l (map (λ x. eqb x byte) v) k
    ∙ ap (λ b. cond b 1 0) (get_or-map (λ x. eqb x byte) v k 0 false (omega (arith, lanes, l)) ∙ ap (λ x. eqb x byte) at)

pub marked : (byte : ℕ) (bytes : List ℕ) (marks : ℕ) → 32 ≤ length bytes → marks ≡ mask_l (map (λ x. eqb x byte) (chunk 0 32 bytes)) → AreMarks byte bytes marks
marked byte bytes marks long e = record {
  set = λ k l within same. bit_is byte bytes marks k long e l ∙ ap (λ b. cond b 1 0) (eq-eqb (get_or bytes k 0) byte same);
  only = λ k l within one. eqb-true (get_or bytes k 0) byte (told (eqb (get_or bytes k 0) byte) (sym (bit_is byte bytes marks k long e l) ∙ one));
}

pub none_found : (byte : ℕ) (bytes : List ℕ) (marks end : ℕ) → AreMarks byte bytes marks → end ≤ 32 → end ≤ length bytes → ((k : ℕ) → k < end → bit_at marks k ≡ 0) → IsFirst (Passes (is_byte byte) bytes) 0 end None
none_found byte bytes marks end m few within none = λ k low high at.
    let l : k < 32 = omega (arith, few, high) in
    let n : k < length bytes = omega (arith, within, high) in
    omega (arith, none k high, m.set k l n (eqb-true (get_or bytes k 0) byte at))

pub one_found : (byte : ℕ) (bytes : List ℕ) (marks end place : ℕ) → AreMarks byte bytes marks → end ≤ 32 → end ≤ length bytes → place < end → bit_at marks place ≡ 1 → ((k : ℕ) → k < place → bit_at marks k ≡ 0) →
    IsFirst (Passes (is_byte byte) bytes) 0 end (Some place)
one_found byte bytes marks end place m few within below one none = (
  record { low = omega arith; high = below; before = none_found byte bytes marks place m (omega (arith, few, below)) (omega (arith, within, below)) none },
  eq-eqb (get_or bytes place 0) byte (m.only place (omega (arith, few, below)) (omega (arith, within, below)) one),
)

pub none_set : (marks k : ℕ) → marks ≡ 0 → bit_at marks k ≡ 0
none_set marks k e = ap (λ m. bit_at m k) e ∙ bit_at-zero k

tabs_behind : (text rest : List ℕ) (tabs place : ℕ) → AreTabs text tabs → place < length text → rest ≡ drop (place + 1) text → AreTabs rest (tabs / 2 ^ (place + 1))
tabs_behind text rest tabs place t l e =
    let count : length rest ≡ length text - (place + 1) = ap length e ∙ length-drop (place + 1) text in
    let bit = λ (k : ℕ). ap (λ x. x % 2) (shr-shr tabs (place + 1) k) in
    let byte = λ (k : ℕ). ap (λ (bs : List ℕ). get_or bs k 0) e ∙ get_or-drop (place + 1) text k 0 in
    record {
      few = omega (arith, count, t.few);
      marks = record {
        set = λ k low within same. bit k ∙ t.marks.set (place + 1 + k) (omega (arith, count, within, t.few)) (omega (arith, count, within)) (sym (byte k) ∙ same);
        only = λ k low within one. byte k ∙ t.marks.only (place + 1 + k) (omega (arith, count, within, t.few)) (omega (arith, count, within)) (sym (bit k) ∙ one);
      };
    }

-- ---- columns

pub behind_tab_is : (text rest : List ℕ) (tabs more place : ℕ) → AreTabs text tabs → IsFirst (Passes (is_byte 9) text) 0 (length text) (Some place) → rest ≡ drop (place + 1) text → more ≡ tabs / 2 ^ (place + 1) → IsBehindColumn text rest more
behind_tab_is text rest tabs more place t at e m = record {
  first = slice_range text 0 place;
  is = cut_at_tab text text (slice_range text 0 place) rest place refl at.0 at.1 refl e;
  marked = subst (AreTabs rest) (sym m) (tabs_behind text rest tabs place t at.0.high e);
}

pub first_is : (text first : List ℕ) (place : ℕ) → IsFirst (Passes (is_byte 9) text) 0 (length text) (Some place) → first ≡ slice_range text 0 place → IsFirstColumn text first
first_is text first place at e = record { others = columns (drop (place + 1) text); is = cut_at_tab text text first (drop (place + 1) text) place refl at.0 at.1 e refl }

pub only_is : (text : List ℕ) → IsFirst (Passes (is_byte 9) text) 0 (length text) None → IsFirstColumn text text
only_is text none = record { others = []; is = only_column text none }

-- a text may be cut behind an ASCII byte
pub behind_byte : (byte : ℕ) (text : List ℕ) (place : ℕ) → byte < 128 → IsUtf8 text → place < length text → Passes (is_byte byte) text place → IsCharBoundary text (place + 1)
behind_byte byte text place low u l at =
    let is : get_or text place 0 ≡ byte = eqb-true (get_or text place 0) byte at in
    IsCharBoundary-after_ascii text place u l (omega (arith, is, low))

-- ---- lines

no_feed : (xs : List ℕ) (n : ℕ) → Nowhere (Passes (is_byte 10) xs) 0 n → All (λ b. (b == 10) ≡ false) (take n xs)
no_feed xs n none = All-from_get_or (λ b. (b == 10) ≡ false) (take n xs) 0 (λ k l.
    let low : k < n = omega (arith, length-take n xs, l) in
    ap (λ b. b == 10) (get_or-take n xs k 0 low) ∙ false_from_ne_true (get_or xs k 0 == 10) (none k (omega arith) low))

no_feed_at_all : (xs : List ℕ) → Nowhere (Passes (is_byte 10) xs) 0 (length xs) → All (λ b. (b == 10) ≡ false) xs
no_feed_at_all xs none = All-from_get_or (λ b. (b == 10) ≡ false) xs 0 (λ k l. false_from_ne_true (get_or xs k 0 == 10) (none k (omega arith) l))

pub cut_at : (xs : List ℕ) (n : ℕ) → n < length xs → xs ≡ take n xs ++ get_or xs n 0 ∷ drop (n + 1) xs
cut_at xs n l = grind (arith, common_steps, take-append-drop)

pub of_parts : (x : List ℕ) (parts : List (List ℕ)) → 0 < length parts → lines_of_parts (x ∷ parts) ≡ strip_carriage_return x ∷ lines_of_parts parts
of_parts x [] l = absurd (omega (arith, l))
of_parts x (y ∷ more) l = refl

pub first_line : (text cut line rest : List ℕ) (place : ℕ) → IsFirst (Passes (is_byte 10) text) 0 (length text) (Some place) → cut ≡ slice_range text 0 place → line ≡ strip_carriage_return cut → rest ≡ drop (place + 1) text →
    lines text ≡ line ∷ lines rest
first_line text cut line rest place at c e r =
    let p = λ (b : ℕ). eqb b 10 in
    let zero_less : place - 0 ≡ place = omega arith in
    let front : cut ≡ take place text = c ∙ ap (λ n. take n text) zero_less in
    let whole : text ≡ take place text ++ 10 ∷ drop (place + 1) text = cut_at text place at.0.high ∙ ap (λ b. take place text ++ b ∷ drop (place + 1) text) (eqb-true (get_or text place 0) 10 at.1) in
    ap lines whole ∙ ap lines_of_parts (slice_split_at p (take place text) 10 (drop (place + 1) text) (no_feed text place at.0.before) refl)
    ∙ of_parts (take place text) (slice_split p (drop (place + 1) text)) (omega (arith, length-slice_split p (drop (place + 1) text)))
    ∙ ap₂ (λ (l ls : List ℕ). strip_carriage_return l ∷ lines ls) (sym front) (sym r) ∙ ap (λ l. l ∷ lines rest) (sym e)

pub last_line : (text : List ℕ) → 0 < length text → IsFirst (Passes (is_byte 10) text) 0 (length text) None → lines text ≡ text ∷ []
last_line text some none =
    ap lines_of_parts (slice_split_none (λ b. eqb b 10) text (no_feed_at_all text none)) ∙ ap (λ t. cond t [] (text ∷ [])) (ne_eqb (length text) 0 (λ z. omega (arith, z, some)))
