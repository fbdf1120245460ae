use Rattle.std.proofs.Common.{ℕ, ◌≡◌, ◌-◌, ◌*◌, ◌<◌, List, length, drop, replicate, false, sym, ap, ◌∙◌, arith, subst}
use Rattle.std.specs.Bool.{MatchBool}
use Rattle.std.proofs.lemmas.Bool.{le-ltb}
use Rattle.std.proofs.lemmas.List.{length-drop}
use Rattle.mt_store_spec.specs.Codes.{bits, Unread}
use Rattle.mt_postings.proofs.Words.{length-bits}
use Rattle.mt_postings.proofs.Coding.{padding_told, no_padding}
use Rattle.mt_postings.proofs.reader.BitReader.is_padding.Goals as goal

left_length : (bytes : List ℕ) (at : ℕ) (unread : Unread) → record { left = drop at (bits bytes); place = at } ≡ unread → 8 * length bytes - at ≡ length unread.left
left_length bytes at unread e =
    let l : length unread.left ≡ length (bits bytes) - at = ap (λ u. length u.left) (sym e) ∙ length-drop at (bits bytes) in
    let k = length-bits bytes in
    omega arith

pub returns-then-self-lt8 : goal.returns-then-self-lt8
returns-then-self-lt8 c =
    let n = left_length c.self.inside.bytes.now c.self.inside.at c.args.self.now c.self.view_is in
    padding_told c.next_word.result c.args.self.now.left c.next_word.ensures (omega arith)

pub returns-else-self-lt8 : goal.returns-else-self-lt8
returns-else-self-lt8 c =
    let n = left_length c.self.inside.bytes.now c.self.inside.at c.args.self.now c.self.view_is in
    let f = no_padding c.args.self.now.left (omega arith) in
    subst (λ b. MatchBool b ((m : ℕ) × (m < 8) × (c.args.self.now.left ≡ replicate m false)) ((m : ℕ) → m < 8 → c.args.self.now.left ≡ replicate m false → ⊥)) (sym (le-ltb (8 * length c.self.inside.bytes.now - c.self.inside.at) 8 c.if-self-lt8.false)) f
