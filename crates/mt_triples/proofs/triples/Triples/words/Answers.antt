use Rattle.std.proofs.Common.{IfOk, subst}
use Rattle.mt_counts.specs.Counted.{Counted}
use Rattle.mt_counts.specs.Listed.{AreFirstWords}
use Rattle.mt_triples.specs.Told.{AreFirstWordsIn}
use Rattle.mt_triples.proofs.Telling.{if_ok_so, words_told}
use Rattle.mt_triples.proofs.triples.Triples.words.Goals as goal

pub returns : goal.returns
returns c = λ images registry grammar corpus are.
    let told = subst (λ (counted : Counted). IfOk c.words.result (λ words. AreFirstWords counted words)) c.self.view_is c.words.ensures in
    if_ok_so {P = λ words. AreFirstWords c.args.self.now words} {Q = λ words. AreFirstWordsIn images registry grammar corpus words} c.words.result (λ words h. words_told images registry grammar corpus c.args.self.now are c.one_count.ensures words h) told
