use Rattle.std.proofs.Common.{rules, ◌++◌, List, take, Err, IsErrOf, refl, sym, subst, arith}
use Rattle.std.proofs.lemmas.List.{append-nil}
use Rattle.mt_text_spec.specs.Texts.{Text}
use Rattle.mt_match_spec.specs.Values.{Images}
use Rattle.mt_count_spec.specs.Counts.{HasRoom}
use Rattle.mt_triples.specs.CountsOf.{AreCountsOf}
use Rattle.mt_grammar_counts.specs.Told.{HasNoRoom, TellAll}
use Rattle.mt_grammar_counts.specs.declared.error.CountError.{CountError}
use Rattle.mt_grammar_counts.specs.declared.error.CountError.TheVariants.{TooManyRows}
use Rattle.mt_grammar_counts.proofs.LineLists.{no_room_in, room_more, room_none}
use Rattle.mt_grammar_counts.proofs.TextLists.{one_of, texts_more, texts_whole}
use Rattle.mt_grammar_counts.proofs.texts.add_texts.Goals as goal

pub loop-k-init : goal.loop-k-init
loop-k-init g c = record {
  fresh = c.requires.fresh;
  rows = c.requires.rows;
  counts = λ images of done tell old. subst (λ (ts : List Text). AreCountsOf images c.args.registry.now c.args.grammar.now ts c.args.collector.now.counted) (sym (append-nil done)) old;
  room = λ images of tell. room_none images c.args.registry.now c.args.grammar.now;
}

pub add_number-requires-clause-number : goal.add_number-requires-clause-number
add_number-requires-clause-number g c = λ lifetimes outlive. c.requires.numbers.within c.loop-k.k 0 (omega (arith, c.loop-k-test.true))

pub returns-in_err-add_number-clause-too_many : goal.returns-in_err-add_number-clause-too_many
returns-in_err-add_number-clause-too_many g c =
    let R = c.args.registry.now in
    let T = c.args.segment.now in
    let k : (images : Images) (of : List Text) → TellAll images R T c.args.numbers.now of → IsErrOf {T = Unit {0}} {E = CountError} (Err c.in_err-add_number.field-0.0) TooManyRows → HasNoRoom images R c.args.grammar.now of =
    λ images of tell h.
    let one = one_of images R T c.args.numbers.now of c.loop-k.k _ tell (omega (arith, c.loop-k-test.true)) refl in
    no_room_in images R c.args.grammar.now of c.loop-k.k one.text one.within one.at (c.in_err-add_number.ensures.too_many images one.text one.tells h) in
    search (rules, k)

pub loop-k-preserved : goal.loop-k-preserved
loop-k-preserved g c =
    let R = c.args.registry.now in
    let T = c.args.segment.now in
    record {
      fresh = c.in_ok-add_number.ensures.fresh;
      rows = c.add_number.ensures.rows;
      counts = λ images of done tell old.
          let one = one_of images R T c.args.numbers.now of c.loop-k.k _ tell (omega (arith, c.loop-k-test.true)) refl in
          subst (λ (ts : List Text). AreCountsOf images R c.args.grammar.now ts c.add_number.new.collector.counted) (texts_more done of c.loop-k.k one.text one.within one.at)
          (c.in_ok-add_number.ensures.counts images one.text (done ++ take c.loop-k.k of) one.tells (c.loop-k.invariant.counts images of done tell old));
      room = λ images of tell.
          let one = one_of images R T c.args.numbers.now of c.loop-k.k _ tell (omega (arith, c.loop-k-test.true)) refl in
          room_more images R c.args.grammar.now of c.loop-k.k one.text one.within one.at (c.loop-k.invariant.room images of tell) (c.in_ok-add_number.ensures.room images one.text one.tells);
    }

pub returns-clause-counts : goal.returns-clause-counts
returns-clause-counts g c = λ images of done tell old.
    subst (λ (ts : List Text). AreCountsOf images c.args.registry.now c.args.grammar.now (done ++ ts) c.loop-k.collector.counted)
    (texts_whole images c.args.registry.now c.args.segment.now c.args.numbers.now of c.loop-k.k tell (omega (arith, c.loop-k-test.false))) (c.loop-k.invariant.counts images of done tell old)

pub returns-clause-room : goal.returns-clause-room
returns-clause-room g c = λ images of tell.
    subst (λ (ts : List Text). HasRoom images c.args.registry.now c.args.grammar.now ts)
    (texts_whole images c.args.registry.now c.args.segment.now c.args.numbers.now of c.loop-k.k tell (omega (arith, c.loop-k-test.false))) (c.loop-k.invariant.room images of tell)
