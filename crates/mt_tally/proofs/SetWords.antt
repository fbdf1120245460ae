-- The places of a set, a word at a time.
use Rattle.std.proofs.Common.{◌≡◌, ℕ, ◌+◌, ◌*◌, ◌^◌, ◌<◌, ◌≤◌, ◌==◌, Bool, List, get_or, count_ones, sym, ◌∙◌, ap, subst, arith}
use Rattle.std.specs.Cmp.{unsigned_Decides}
use Rattle.std.specs.Int.{bit_at}
use Rattle.mt_places.specs.Places.{In, bit}
use Rattle.mt_places.proofs.Bits.{bit_word}
use Rattle.mt_tally.specs.Counts.{CountsBelow, marked_from}
use Rattle.mt_tally.proofs.Marked.{few_marks, longer}
use Rattle.mt_tally.proofs.Ones.{ones_are}

abbrev has : List ℕ → ℕ → Bool
has set place = bit set place == 1

pub word_more : (set : List ℕ) (at count word ones all : ℕ) → word ≡ get_or set at 0 → word < 2 ^ 64 → ones ≡ count_ones word → all ≡ count + ones → CountsBelow (64 * at) (In set) count → CountsBelow (64 * (at + 1)) (In set) all
word_more set at count word ones all is low e f c =
    let here : ones ≡ marked_from (has set) (64 * at) 64 = e ∙ ones_are word (64 * at) (has set) low
    (λ j l. ap (λ (b : ℕ). b == 1) (bit_word set at j l ∙ ap (λ (w : ℕ). bit_at w j) (sym is))) in
    let more : CountsBelow (64 * at + 64) (In set) (count + marked_from (has set) (64 * at) 64) = longer (64 * at) 64 (In set) (has set) count c (λ k l. unsigned_Decides (bit set k) 1) in
    subst (λ (limit : ℕ). CountsBelow limit (In set) all) (let g : 64 * at + 64 ≡ 64 * (at + 1) = omega arith in g)
    (subst (CountsBelow (64 * at + 64) (In set)) (let g : count + marked_from (has set) (64 * at) 64 ≡ all = omega (arith, here, f) in g) more)

pub few_ones : (word : ℕ) → word < 2 ^ 64 → count_ones word ≤ 64
few_ones word low =
    let marks : ℕ → Bool = λ (k : ℕ). bit_at word k == 1 in
    let are = ones_are word 0 marks low (λ j l. ap (λ (k : ℕ). bit_at word k == 1) (let e : 0 + j ≡ j = omega arith in e)) in
    let few = few_marks marks 0 64 in
    omega (arith, are, few)
