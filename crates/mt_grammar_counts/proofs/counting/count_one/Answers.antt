use Rattle.std.proofs.Common.{[], ◌∷◌, refl}
use Rattle.mt_grammar_counts.proofs.Alone.{alone_texts}
use Rattle.mt_grammar_counts.proofs.Ending.{tells_all}
use Rattle.mt_grammar_counts.proofs.counting.count_one.Goals as goal

pub count_segment-requires-clause-numbers : goal.count_segment-requires-clause-numbers
count_segment-requires-clause-numbers g c = λ lifetimes outlive. alone_texts c.args.segment.now c.args.number (c.args.number ∷ []) c.requires.number refl

pub returns-clause-counts : goal.returns-clause-counts
returns-clause-counts g c = λ images text tells. c.count_segment.ensures.counts images (text ∷ []) (tells_all images c.args.registry.now c.args.segment.now c.args.number text tells)

pub returns-clause-room : goal.returns-clause-room
returns-clause-room g c = λ images text tells. c.count_segment.ensures.room images (text ∷ []) (tells_all images c.args.registry.now c.args.segment.now c.args.number text tells)

pub returns-clause-too_many : goal.returns-clause-too_many
returns-clause-too_many g c = λ images text tells h. c.count_segment.ensures.too_many images (text ∷ []) (tells_all images c.args.registry.now c.args.segment.now c.args.number text tells) h
