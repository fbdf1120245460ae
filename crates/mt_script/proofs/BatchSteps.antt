-- What is so between two lines of a batch.
use Rattle.std.proofs.Common.{◌≡◌, ◌≢◌, ℕ, ◌<◌, false, ◌==◌, List, [], ◌∷◌, ◌++◌, length, refl, sym, ◌∙◌, ap, append_assoc, append-nil, arith, eqb-true}
use Rattle.std.specs.Prelude.{map}
use Rattle.std.specs.List.{All, AllZip, flat_map, slice_split}
use Rattle.std.specs.Str.Lines.{lines, lines_of_parts, strip_carriage_return}
use Rattle.std.proofs.lemmas.Bool.{false_from_ne_true}
use Rattle.std.proofs.lemmas.Grind.{common_steps}
use Rattle.std.proofs.lemmas.List.Elements.{All-weaker, All-head, All-tail}
use Rattle.std.proofs.lemmas.List.Splits.{slice_split_at, length-slice_split}
use Rattle.mt_text_spec.specs.Lines.{IsLine, Block, closed}
use Rattle.mt_script_spec.specs.Commands.{BatchLine, IsBatchLine}
use Rattle.mt_script.specs.declared.command.BatchLine.{BatchLine as RustBatchLine}
use Rattle.mt_script.specs.Seen.{batch_line_of}

-- the lines before the rest are read as these
pub record HasRead (body : List ℕ) (rest : List (List ℕ)) (read : List RustBatchLine) : Type 0 where
  pub before : List (List ℕ)
  pub all : lines body ≡ before ++ rest
  pub each : AllZip IsBatchLine before (map batch_line_of read)

zip_more : (xs : List (List ℕ)) (ys : List BatchLine) (x : List ℕ) (y : BatchLine) → AllZip IsBatchLine xs ys → IsBatchLine x y → AllZip IsBatchLine (xs ++ x ∷ []) (ys ++ y ∷ [])
zip_more [] [] x y z h = (h, tt)
zip_more [] (b ∷ ys) x y z h = absurd z
zip_more (a ∷ xs) [] x y z h = absurd z
zip_more (a ∷ xs) (b ∷ ys) x y z h = (z.0, zip_more xs ys x y z.1 h)

map-push : (read : List RustBatchLine) (one : RustBatchLine) → map batch_line_of read ++ batch_line_of one ∷ [] ≡ map batch_line_of (read ++ one ∷ [])
map-push read one = grind (arith, common_steps)

-- a line more
pub one_line_more : (body line : List ℕ) (old rest : List (List ℕ)) (read more : List RustBatchLine) (one : RustBatchLine) → HasRead body old read → old ≡ line ∷ rest →
    IsBatchLine line (batch_line_of one) → more ≡ read ++ one ∷ [] → HasRead body rest more
one_line_more body line old rest read more one r left is pushed = record {
  before = r.before ++ line ∷ [];
  all = r.all ∙ ap (λ ls. r.before ++ ls) left ∙ sym (append_assoc r.before (line ∷ []) rest);
  each = rw (pushed, ← map-push read one) (zip_more r.before (map batch_line_of read) line (batch_line_of one) r.each is);
}

append-none : (xs : List (List ℕ)) → xs ++ [] ≡ xs
append-none xs = grind (arith, common_steps)

-- all lines
pub all_read : (body : List ℕ) (rest : List (List ℕ)) (read : List RustBatchLine) → HasRead body rest read → rest ≡ [] → AllZip IsBatchLine (lines body) (map batch_line_of read)
all_read body rest read r none = rw (r.all, none, append-none r.before) r.each

-- ---- a last line without its line feed

two_parts : (x : List ℕ) (parts : List (List ℕ)) → 0 < length parts → lines_of_parts (x ∷ parts) ≡ strip_carriage_return x ∷ lines_of_parts parts
two_parts x [] h = absurd (omega arith)
two_parts x (y ∷ more) h = refl

-- the lines of one line and others
line_then : (line others : List ℕ) → IsLine line → lines (line ++ 10 ∷ others) ≡ strip_carriage_return line ∷ lines others
line_then line others one =
    let none : All (λ b. (b == 10) ≡ false) line = All-weaker (λ b. b ≢ 10) (λ b. (b == 10) ≡ false) (λ b ne. false_from_ne_true (b == 10) (λ e. ne (eqb-true b 10 e))) line one in
    ap lines_of_parts (slice_split_at (λ b. b == 10) line 10 others none refl)
    ∙ two_parts line (slice_split (λ b. b == 10) others) (let e = length-slice_split (λ b. b == 10) others in omega arith)

-- the lines of a block and others
block_then : (all : List (List ℕ)) (others : List ℕ) → All IsLine all → lines (flat_map closed all ++ others) ≡ map strip_carriage_return all ++ lines others
block_then [] others each = refl
block_then (line ∷ all) others each =
    ap lines (append_assoc (closed line) (flat_map closed all) others ∙ append_assoc line (10 ∷ []) (flat_map closed all ++ others))
    ∙ line_then line (flat_map closed all ++ others) (All-head IsLine line all each)
    ∙ ap (λ (ls : List (List ℕ)). strip_carriage_return line ∷ ls) (block_then all others (All-tail IsLine line all each))

pub open_lines : (n : ℕ) (front last : List ℕ) → Block n front → IsLine last → lines (closed (front ++ last)) ≡ lines front ++ strip_carriage_return last ∷ []
open_lines n front last block one =
    let whole : lines front ≡ map strip_carriage_return block.all ++ [] =
    ap lines (block.are ∙ sym (append-nil (flat_map closed block.all))) ∙ block_then block.all [] block.each in
    let more : lines (closed (front ++ last)) ≡ map strip_carriage_return block.all ++ lines (last ++ 10 ∷ []) =
    ap lines (append_assoc front last (10 ∷ []) ∙ ap (λ (f : List ℕ). f ++ (last ++ 10 ∷ [])) block.are) ∙ block_then block.all (last ++ 10 ∷ []) block.each in
    more ∙ ap (λ (ls : List (List ℕ)). map strip_carriage_return block.all ++ ls) (line_then last [] one)
    ∙ ap (λ (ls : List (List ℕ)). ls ++ strip_carriage_return last ∷ []) (sym (whole ∙ append-nil (map strip_carriage_return block.all)))

-- all lines and the last one
pub open_read : (n : ℕ) (front last line : List ℕ) (read more : List RustBatchLine) (one : RustBatchLine) → Block n front → IsLine last → AllZip IsBatchLine (lines front) (map batch_line_of read) →
    line ≡ strip_carriage_return last → IsBatchLine line (batch_line_of one) → more ≡ read ++ one ∷ [] → AllZip IsBatchLine (lines (closed (front ++ last))) (map batch_line_of more)
open_read n front last line read more one block alone each is good pushed =
    rw (pushed, ← map-push read one, open_lines n front last block alone, ← is) (zip_more (lines front) (map batch_line_of read) line (batch_line_of one) each good)
