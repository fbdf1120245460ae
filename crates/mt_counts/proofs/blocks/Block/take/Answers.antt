use Rattle.std.proofs.Common.{◌≡◌, List, [], ◌∷◌, ◌++◌, take, map, ap, sym, refl, ◌∙◌, arith}
use Rattle.std.proofs.lemmas.List.{take_all}
use Rattle.mt_counts.specs.Notes.{renumbered}
use Rattle.mt_counts.specs.declared.note.Note.{Note}
use Rattle.mt_counts.proofs.Counting.{map_more}
use Rattle.mt_counts.proofs.blocks.Block.take.Goals as goal

nothing : (notes : List Note) → take 0 notes ≡ []
nothing [] = refl
nothing (note ∷ notes) = refl

pub loop-k-init : goal.loop-k-init
loop-k-init c = c.clear.ensures.items ∙ ap (λ (notes : List Note). map (renumbered c.args.names.now c.args.words.now) notes) (sym (nothing c.args.notes.now))

pub loop-k-preserved : goal.loop-k-preserved
loop-k-preserved c = map_more (renumbered c.args.names.now c.args.words.now) c.args.notes.now c.loop-k.k _ c.loop-k.self.notes.items c.push.new.self.items c.loop-k-test.true c.loop-k.invariant
    (c.in_ok-push.ensures.items ∙ ap (λ (note : Note). c.loop-k.self.notes.items ++ note ∷ []) c.renumber.ensures)

pub returns : goal.returns
returns c = c.loop-k.invariant ∙ ap (λ (notes : List Note). map (renumbered c.args.names.now c.args.words.now) notes) (take_all c.loop-k.k c.args.notes.now (omega arith))
