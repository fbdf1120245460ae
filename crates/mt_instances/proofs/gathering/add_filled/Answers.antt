use Rattle.std.proofs.Common.{ℕ, List, length, subst, sym}
use Rattle.std.proofs.lemmas.Result.{on_ok_weaker}
use Rattle.std.proofs.lemmas.Option.{slice_get_within}
use Rattle.mt_count_spec.specs.Instances.{Instance, IsFilled}
use Rattle.mt_counts.specs.Tables.{text_at}
use Rattle.mt_instances.specs.Gains.{Gains}
use Rattle.mt_instances.specs.Given.{OfPair, OfFilled}
use Rattle.mt_instances.specs.Gathered.{value_in}
use Rattle.mt_instances.proofs.Known.{gathered_more, text_is, value_within}
use Rattle.mt_instances.proofs.ByKind.{filled_gains, unfilled_gains}
use Rattle.mt_instances.proofs.gathering.add_filled.Goals as goal

pub number-requires : goal.number-requires
number-requires c = c.requires.labels 3 c.in-Some.third c.in-Some.ensures.set

pub filled_name-requires-clause-value : goal.filled_name-requires-clause-value
filled_name-requires-clause-value c = rw c.number.ensures (value_within c.args.words.now.lexicon.now c.args.words.now.numbers.now c.in-Some.third c.requires.gathered.valued (c.requires.labels 3 c.in-Some.third c.in-Some.ensures.set))

pub add_pair-requires : goal.add_pair-requires
add_pair-requires c = let filled = rw c.in-Some-2.is at c.in_ok-number-in-Some.ensures.filled in slice_get_within c.filled_name.new.gathered.instances.names c.in-Some-2.number filled.0 filled.1

pub returns-in-Some-2-clause-gathered : goal.returns-in-Some-2-clause-gathered
returns-in-Some-2-clause-gathered c =
    gathered_more c.args.words.now.lexicon.now c.args.words.now.numbers.now c.filled_name.new.gathered c.add_pair.new.instances c.add_pair.ensures.names (c.add_pair.ensures.lies (length c.args.words.now.numbers.now) c.requires.labels) c.in_ok-number-in-Some.ensures.gathered

pub returns-in-Some-2-clause-given : goal.returns-in-Some-2-clause-given
returns-in-Some-2-clause-given c =
    let old = c.args.gathered.now.instances in
    let mid = c.filled_name.new.gathered.instances in
    let new = c.add_pair.new.instances in
    let row = c.args.row.now in
    let filled = rw c.in-Some-2.is at c.in_ok-number-in-Some.ensures.filled in
    let value = value_in c.args.words.now.lexicon.now c.args.words.now.numbers.now in
    let is = subst (λ (n : ℕ). IsFilled (text_at old.names c.args.name) (text_at c.args.words.now.lexicon.now n) filled.0) c.number.ensures filled.2 in
    on_ok_weaker c.add_pair.result
    (λ g. filled_gains old.given new.given (text_at old.names c.args.name) filled.0 value row c.in-Some.third c.in-Some.ensures.set is
    (subst (λ (n : List ℕ). Gains old.given new.given (OfPair n row)) (text_is mid.names c.in-Some-2.number filled.0 filled.1) (subst (λ (given : List Instance). Gains given new.given (OfPair (text_at mid.names c.in-Some-2.number) row)) c.in_ok-number-in-Some.ensures.given g)))
    c.add_pair.ensures.given

pub returns-in-None-2-clause-given : goal.returns-in-None-2-clause-given
returns-in-None-2-clause-given c =
    let old = c.args.gathered.now.instances in
    let none = rw c.in-None-2.is at c.in_ok-number-in-Some.ensures.filled in
    let value = value_in c.args.words.now.lexicon.now c.args.words.now.numbers.now in
    subst (λ (given : List Instance). Gains old.given given (OfFilled (text_at old.names c.args.name) value c.args.row.now)) (sym c.in_ok-number-in-Some.ensures.given)
    (unfilled_gains old.given (text_at old.names c.args.name) value c.args.row.now c.in-Some.third c.in-Some.ensures.set (subst (λ (n : ℕ). (other : List ℕ) → ¬ IsFilled (text_at old.names c.args.name) (text_at c.args.words.now.lexicon.now n) other) c.number.ensures none))
