use Rattle.std.proofs.Common.{◌-◌, ◌^◌, ◌<◌, ◌∙◌, length, length-append, [], ◌∷◌, sym, arith, ap}
use Rattle.std.specs.List.{Contains}
use Rattle.mt_lexicon.proofs.FirstSight.{seen_again, seen_first, distinct_more}
use Rattle.mt_lexicon.proofs.Places.{pushed}
use Rattle.mt_lexicon.proofs.Sought.{hashed_more}
use Rattle.mt_lexicon.proofs.builder.LexiconBuilder.add.Goals as goal

pub returns-in-Some-clause-values : goal.returns-in-Some-clause-values
returns-in-Some-clause-values c = seen_again c.args.self.now c.args.value.now c.in-Some.number c.in-Some.ensures.found

pub invariant_of-self-2 : goal.invariant_of-self-2
invariant_of-self-2 c =
    let seen = c.self.inside.seen in
    let value = c.args.value.now in
    let none : (Contains seen value → ⊥) = rw (← c.self.view_is) at c.in_default.ensures.none in
    let few : length seen < 2 ^ 32 - 1 = rw (← c.self.view_is) at c.requires in (
      hashed_more seen c.push.new.self c.reserve.new.self.0 c.push-2.new.self.0 value c.hash_of-hash.result (c.in_ok-reserve.ensures.hashes ∙ c.self.invariant.0) c.in_ok-push.ensures.ok c.push-2.ensures.hashes c.hash_of-hash.ensures,
      rw c.in_ok-push.ensures.ok (distinct_more seen value c.self.invariant.1 none),
      omega (arith, ap length c.in_ok-push.ensures.ok, length-append seen (value ∷ [])),
    )

pub returns-clause-values : goal.returns-clause-values
returns-clause-values c = rw c.in_ok-push.ensures.ok (rw c.self.view_is (seen_first c.args.self.now c.args.value.now c.in_default.ensures.none))

pub returns-clause-number : goal.returns-clause-number
returns-clause-number c = rw c.in_ok-push.ensures.ok (pushed c.self.inside.seen c.args.value.now c.len-number.result (sym c.len-number.ensures))
