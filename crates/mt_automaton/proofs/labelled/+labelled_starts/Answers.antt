use Rattle.mt_match_spec.specs.Matches.{Matches}
use Rattle.mt_automaton.specs.LabelledParts.{labelled_meant}
use Rattle.mt_automaton.proofs.Forward.{meet_somehow}
use Rattle.mt_automaton.proofs.Somehow.{plain, token, joined, chosen}
use Rattle.mt_automaton.proofs.labelled.+labelled_starts.Goals as goal

pub returns-in-Plain : goal.returns-in-Plain
returns-in-Plain g t c = record {
  inside = c.tokens-inside.ensures.inside;
  begins = rw c.in-Plain.is (plain (g.V.View.seen c.args.view.now) c.in-Plain.plain c.args.to c.starts.result c.starts.ensures);
}

pub returns-in-Token : goal.returns-in-Token
returns-in-Token g t c = record {
  inside = c.tokens-inside.ensures.inside;
  begins = rw c.in-Token.is (token (g.V.View.seen c.args.view.now) c.in-Token.field-0 c.in-Token.test c.args.to c.starts-in-Token.result c.starts-in-Token.ensures);
}

pub returns-in_ok-cut-in-Seq : goal.returns-in_ok-cut-in-Seq
returns-in_ok-cut-in-Seq g t c =
    let v = g.V.View.seen c.args.view.now in
    let left = labelled_meant v c.in-Seq.left.value in
    let right = labelled_meant v c.in-Seq.right.value in
    record {
      inside = c.tokens-inside.ensures.inside;
      begins = rw c.in-Seq.is
          (joined (Matches v.text left) (Matches v.text right) c.args.to c.in_ok-cut-in-Seq.cut c.labelled_starts-in-Seq.result (meet_somehow v c.tokens-inside.ensures.inside left right c.args.to c.requires)
          (rw c.deref.ensures at c.in_ok-cut-in-Seq.ensures.begins) (rw c.deref-in-Seq.ensures at c.labelled_starts-in-Seq.ensures.begins));
    }

pub returns-in_ok-more-in-Choice : goal.returns-in_ok-more-in-Choice
returns-in_ok-more-in-Choice g t c =
    let v = g.V.View.seen c.args.view.now in
    record {
      inside = c.tokens-inside.ensures.inside;
      begins = rw c.in-Choice.is
          (chosen (Matches v.text (labelled_meant v c.in-Choice.left.value)) (Matches v.text (labelled_meant v c.in-Choice.right.value)) c.args.to c.in_ok-all-in-Choice.all c.in_ok-more-in-Choice.more c.add.new.self
          (rw c.deref-in-Choice.ensures at c.in_ok-all-in-Choice.ensures.begins) (rw (c.in_ok-again-in-Choice.ensures, c.deref-in-Choice-2.ensures) at c.in_ok-more-in-Choice.ensures.begins) c.add.ensures.width c.add.ensures.places);
    }
