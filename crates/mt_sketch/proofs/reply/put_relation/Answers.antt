use Rattle.std.proofs.Common.{List, ℕ, subst}
use Rattle.mt_triples.proofs.Telling.{ok_so}
use Rattle.mt_sketch.specs.Told.{AreShown, frequencies_of}
use Rattle.mt_sketch.proofs.Telling.{all_scored, unary_put, binary_put}
use Rattle.mt_sketch.proofs.reply.put_relation.Goals as goal

are_shown : (c : goal.After-put_words-arg-1) → AreShown (frequencies_of c.args.triples.now) c.args.heading.now.name c.args.lemma.now c.args.least c.args.max c.in_ok-words.words
are_shown c = subst (λ (name : List ℕ). AreShown (frequencies_of c.args.triples.now) name c.args.lemma.now c.args.least c.args.max c.in_ok-words.words) c.as_str.ensures c.in_ok-words.ensures

pub returns-then-heading : goal.returns-then-heading
returns-then-heading c =
    ok_so c.extend.result
    (λ last. unary_put (frequencies_of c.args.triples.now) c.args.lemma.now c.args.least c.args.max c.args.heading.now c.args.out.now c.put_heading.new.out c.extend.new.self c.if-heading.true c.requires.heading c.in_ok-put_heading.ensures last)
    c.extend.ensures.ok

pub put_words-requires : goal.put_words-requires
put_words-requires c = all_scored (frequencies_of c.args.triples.now) c.args.heading.now.name c.args.lemma.now c.args.least c.args.max c.in_ok-words.words (are_shown c)

pub returns : goal.returns
returns c =
    ok_so c.put_words.result
    (λ each. binary_put (frequencies_of c.args.triples.now) c.args.lemma.now c.args.least c.args.max c.args.heading.now c.in_ok-words.words c.len.result c.args.out.now c.put_heading.new.out c.put_number.new.out c.push.new.self c.put_words.new.out c.if-heading.false c.requires.heading
    (subst (λ (name : List ℕ). AreShown (frequencies_of c.args.triples.now) name c.args.lemma.now c.args.least c.args.max c.in_ok-words.words) c.as_str.ensures c.in_ok-words.ensures)
    c.in_ok-put_heading.ensures c.in_ok-put_number.ensures c.len.ensures c.in_ok-push.ensures.ok each)
    c.put_words.ensures
