use Rattle.std.proofs.Common.{Err, List, [], ◌∷◌, sym, subst}
use Rattle.mt_text_spec.specs.Texts.{Text}
use Rattle.mt_count_spec.specs.Counts.{HasRoom}
use Rattle.mt_counts.specs.Counted.{Counted}
use Rattle.mt_triples.specs.CountsOf.{AreCountsOf}
use Rattle.mt_rules.specs.Ruled.{Ruled, AreOver}
use Rattle.mt_rules.proofs.Overs.{ruled_by, over_less}
use Rattle.mt_rules.proofs.Rooms.{no_room_there}
use Rattle.mt_rules.proofs.rules.Rules.remove.Goals as goal

pub unreachable-requires : goal.unreachable-requires
unreachable-requires g c =
    let grammar = c.self.inside.grammar in
    let images = c.requires.images.images in
    let agree = c.requires.images.agree in
    let registry = c.args.corpus.now.registry in
    let split = c.stands_once.ensures in
    let over : AreOver c.args.corpus.now (ruled_by grammar c.self.inside.counts) = subst (λ (r : Ruled). AreOver c.args.corpus.now r) (sym c.self.view_is) c.requires.over in
    no_room_there images registry grammar split.before split.behind split.text (subst (λ (ts : List Text). HasRoom images registry grammar ts) split.all (over.room images agree))
    (c.in-Err-TooManyRows.ensures.too_many images split agree (λ k. Err (c.in-Err-TooManyRows.field-0-is k)))

pub returns-clause-over : goal.returns-clause-over
returns-clause-over g c =
    let grammar = c.self.inside.grammar in
    let split = c.in-Ok-remove.ensures.split in
    let over : AreOver c.args.corpus.now (ruled_by grammar c.self.inside.counts) = subst (λ (r : Ruled). AreOver c.args.corpus.now r) (sym c.self.view_is) c.requires.over in
    over_less c.args.corpus.now c.remove.new.self c.args.name.now split c.in-Ok-remove.ensures.ok grammar c.self.inside.counts c.noted.result.now.counted c.subtract.new.self
    (λ images by. subst (λ (counted : Counted). AreCountsOf images c.args.corpus.now.registry grammar (split.text ∷ []) counted) (sym c.noted.ensures) (c.in-Ok.ensures.counts images split by)) c.subtract.ensures over
