-- What builders of patterns say of texts, in the words of the checks.
use Rattle.std.proofs.Common.{ℕ, inl, inr, List, [], ◌∷◌, refl, arith}
use Rattle.std.specs.List.{Contains}
use Rattle.mt_pattern_spec.specs.Patterns.{wrapped}
use Rattle.mt_pattern.specs.Shops.{RefusedOne}
use Rattle.mt_prepare.specs.Built as built
use Rattle.mt_answer.specs.Told.{IsRefusedSince, PatternsAreTold}
use Rattle.mt_answer.proofs.Patterns.{wholes_of, stops_of, bad_or_deep, none_bad}

at_front : (text : List ℕ) → Contains (text ∷ []) text
at_front text = (0, omega arith, refl)

-- a text that is told as refused was refused meanwhile
since : (texts old new : List (List ℕ)) (k : ℕ) → built.IsRefusedAt 1 texts old new k → IsRefusedSince texts old new k
since texts old new k stop = by stop.refused
  where
    by : RefusedOne old stop.text new → IsRefusedSince texts old new k
    by (inl e) = record { refused = stop.text ∷ []; more = e; one = record { text = stop.text; stops = stops_of texts k stop.text stop.stops; among = inl (at_front stop.text) } }
    by (inr (alone, e)) = record { refused = wrapped stop.text ∷ []; more = e; one = record { text = stop.text; stops = stops_of texts k stop.text stop.stops; among = inr (at_front (wrapped stop.text)) } }

pub told : PatternsAreTold
told = record {
  whole = λ texts k all bad. none_bad texts k (wholes_of texts all) bad;
  bad = λ texts old new k blames. bad_or_deep texts k blames.0.text (stops_of texts k blames.0.text blames.0.stops) blames.0.none;
  kept = λ texts old new k blames. blames.1;
  refused = λ texts old new k stop. since texts old new k stop;
}
