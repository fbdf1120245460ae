use Rattle.std.proofs.Common.{ℕ, List, [], ◌∷◌, ◌++◌, ◌∙◌, ap, arith}
use Rattle.mt_counts.proofs.Ascending.{listed_more, listed_past, listed_all}
use Rattle.mt_counts.proofs.tables.Tables.first_words.Goals as goal
use Rattle.mt_counts.proofs.tables.Tables.first_words.Goals.{then-has+in_ok-new+in_ok-push, else-has}

pub loop-x-preserved : goal.loop-x-preserved
loop-x-preserved c = elim c.if-has.branch [
  | then-has+in_ok-new+in_ok-push w ↦
      rw w.words-is
      (listed_more c.args.self.now c.loop-x.x c.loop-x.words w.push.new.self w.get.result.now c.len-x-end.ensures.distinct c.loop-x.invariant (c.has.ensures.some w.if-has.true) w.get.ensures
      (w.in_ok-push.ensures.ok ∙ ap (λ (v : List ℕ). c.loop-x.words ++ v ∷ []) w.in_ok-new.ensures))
  | else-has w ↦ rw w.words-is (listed_past c.args.self.now c.loop-x.x c.loop-x.words c.loop-x.invariant (c.has.ensures.none w.if-has.false))
]

pub returns : goal.returns
returns c = listed_all c.args.self.now c.loop-x.x c.loop-x.words c.requires c.len.ensures.distinct c.len-x-end.ensures.distinct c.len-2.ensures.once c.loop-x.invariant (omega arith)
