-- Nothing is known of a text, and nothing is counted.
use Rattle.std.proofs.Common.{◌≡◌, ℕ, ◌<◌, Option, Some, List, [], length, sym, subst, arith}
use Rattle.std.specs.List.{Contains}
use Rattle.std.proofs.lemmas.List.Elements.{All-same, All-nil}
use Rattle.std.proofs.lemmas.Option.{slice_get_within}
use Rattle.mt_instances.specs.Numbers.{AreNumbers, AreWithin}
use Rattle.mt_instances.specs.Filled.{AreFills}
use Rattle.mt_instances.specs.Gains.{LiesIn}
use Rattle.mt_instances.specs.Collected.{AreCollected}
use Rattle.mt_instances.specs.declared.gathering.Gathered.{Gathered}
use Rattle.mt_instances.specs.declared.counter.Counter.{Counter}

nothing_in : {X : Type 0} (x : X) → Contains [] x → ⊥
nothing_in x c = omega (arith, c.1)

no_fills : (names lexicon : List (List ℕ)) → AreFills names lexicon []
no_fills names lexicon name value number c = absurd (nothing_in ((name, value), number) c)

no_numbers : (from to : List (List ℕ)) → AreNumbers from to []
no_numbers from to here there e = search

none_within : (texts : ℕ) → AreWithin texts []
none_within texts here there e = absurd (omega (arith, slice_get_within [] here (Some there) e))

pub none_collected : (lexicon : List (List ℕ)) (numbers : List ℕ) (gathered : Gathered) (counter : Counter) → numbers ≡ [] → gathered.instances.given ≡ [] → gathered.fills ≡ [] → counter.names ≡ [] → counter.words ≡ [] →
    AreCollected lexicon numbers gathered counter
none_collected lexicon numbers gathered counter no_places none unfilled unnamed unworded = record {
  gathered_is = record {
    valued = All-same (λ (number : ℕ). number < length lexicon) numbers [] no_places (All-nil (λ (number : ℕ). number < length lexicon));
    lie = All-same (LiesIn (length numbers)) gathered.instances.given [] none (All-nil (LiesIn (length numbers)));
    fills_are = subst (λ (fills : List ((ℕ × ℕ) × ℕ)). AreFills gathered.instances.names lexicon fills) (sym unfilled) (no_fills gathered.instances.names lexicon);
  };
  ready = record {
    names_are = subst (λ (known : List (Option ℕ)). AreNumbers gathered.instances.names counter.noted.names known) (sym unnamed) (no_numbers gathered.instances.names counter.noted.names);
    words_are = subst (λ (known : List (Option ℕ)). AreNumbers lexicon counter.noted.words known) (sym unworded) (no_numbers lexicon counter.noted.words);
    names_within = subst (λ (known : List (Option ℕ)). AreWithin (length gathered.instances.names) known) (sym unnamed) (none_within (length gathered.instances.names));
  };
}
