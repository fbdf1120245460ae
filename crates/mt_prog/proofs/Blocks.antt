-- A file that is read in blocks: what was read so far, and what that says at the end.
use Rattle.std.proofs.Common.{◌≡◌, ℕ, ◌+◌, ◌-◌, ◌≤◌, List, [], ◌++◌, length, take, drop, Option, Some, None, refl, sym, ap, subst, ◌∙◌, arith, append-nil}
use Rattle.std.proofs.lemmas.Grind.{common_steps}
use Rattle.std.proofs.lemmas.List.{nil_from_length}
use Rattle.std.specs.Io.KnownBytes.{Consumes, IsAtEnd}
use Rattle.std.proofs.KnownBytes.{Consumes-trans}
use Rattle.mt_outside.specs.Shelves.{Finds}
use Rattle.mt_prog.specs.Blocks.{ReadsOn}
use Rattle.mt_outside.specs.declared.shelf.Loaded.TheVariants.{Whole, TooLong}

-- nothing was read yet
pub none_yet : (a : Option (List ℕ)) → Consumes a a []
none_yet None = tt
none_yet (Some x) = refl

-- one block more
pub one_more : (a b c : Option (List ℕ)) (n : ℕ) (out new : List ℕ) → Consumes a b out → ReadsOn b c n out new → Consumes a c new
one_more a b c n out new p r = subst (Consumes a c) (sym r.behind) (Consumes-trans a b c out r.block p r.taken)

-- how many bytes there are then, and how many may come
pub room_left : (a b : Option (List ℕ)) (n room limit : ℕ) (out new : List ℕ) → ReadsOn a b n out new → length out + room ≡ limit + 1 → n ≤ room → length new + (room - n) ≡ limit + 1
room_left a b n room limit out new r full within = grind (arith, common_steps, r.behind, r.count, full, within)

-- a buffer that was written as a slice is as long as before
pub as_long : (count k : ℕ) (given items lent : List ℕ) → count ≡ length items → lent ≡ items → length given ≡ length lent → length items ≡ k → length (take count (given ++ drop (length given) items)) ≡ k
as_long count k given items lent are is same long = grind (arith, common_steps, are, is, same, long)

-- the end: all was read
pub at_end : (a b c : Option (List ℕ)) (n : ℕ) (out new all : List ℕ) (limit : ℕ) → Consumes a b out → ReadsOn b c n out new → n ≡ 0 → a ≡ Some all → length out ≤ limit → Finds (Some all) limit new Whole
at_end a b c n out new all limit p r none is short =
    let nothing : r.block ≡ [] = nil_from_length r.block (r.count ∙ none) in
    let same : new ≡ out = r.behind ∙ ap (λ block. out ++ block) nothing ∙ append-nil out in
    (ap Some (all_read a c new all (one_more a b c n out new p r) (r.end none) is), subst (λ xs. length xs ≤ limit) (sym same) short)
  where
    all_read : (a c : Option (List ℕ)) (out all : List ℕ) → Consumes a c out → IsAtEnd c → a ≡ Some all → all ≡ out
    all_read None c out all p end is = absurd (grind (arith, common_steps, is))
    all_read (Some x) None out all p end is = absurd p
    all_read (Some x) (Some y) out all p end is = grind (arith, common_steps, p, end, is)

-- more than the limit was read
pub beyond : (a b : Option (List ℕ)) (out all : List ℕ) (limit room : ℕ) → Consumes a b out → length out + room ≡ limit + 1 → room ≡ 0 → a ≡ Some all → Finds (Some all) limit out TooLong
beyond None b out all limit room p count full is = absurd (grind (arith, common_steps, is))
beyond (Some x) None out all limit room p count full is = absurd p
beyond (Some x) (Some y) out all limit room p count full is = (all, refl, grind (arith, common_steps, p, count, full, is))
