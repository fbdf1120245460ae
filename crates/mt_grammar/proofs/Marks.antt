-- Whether `%s` stands in a heading, as the standard library tells it.
use Rattle.std.proofs.Common.{◌≡◌, ℕ, ◌≤◌, Bool, true, false, None, List, ◌++◌, length, take, drop, refl, sym, ◌∙◌, ap, arith, append_assoc}
use Rattle.std.specs.Prelude.{MatchBool, IsTrue}
use Rattle.std.specs.Str.Pattern.{FindsText, HasMatch}
use Rattle.std.proofs.lemmas.List.{take-append-drop, length-append}
use Rattle.std.proofs.lemmas.List.Prefix.{front_rest}
use Rattle.mt_grammar_spec.specs.GrammarFile.{mark, HasMark}

there : (heading : List ℕ) → HasMatch (FindsText mark) heading → HasMark heading
there heading h = record {
  front = take h.0 heading;
  back = drop h.1 heading;
  are = sym (take-append-drop h.0 heading) ∙ ap (λ (xs : List ℕ). take h.0 heading ++ xs) (h.2).1.split ∙ sym (append_assoc (take h.0 heading) mark (drop h.1 heading));
}

nowhere : (heading : List ℕ) → FindsText mark heading None → HasMark heading → ⊥
nowhere heading none m =
    let whole : heading ≡ m.front ++ (mark ++ m.back) = m.are ∙ append_assoc m.front mark m.back in
    let long : length m.front ≤ length heading = omega (arith, ap length whole, length-append m.front (mark ++ m.back)) in
    none (length m.front) long m.back (front_rest heading m.front (mark ++ m.back) whole)

pub is_mark : (heading : List ℕ) (found : Bool) → MatchBool found (HasMatch (FindsText mark) heading) (FindsText mark heading None) → (IsTrue found → HasMark heading) × (HasMark heading → IsTrue found)
is_mark heading true h = (λ _. there heading h, λ _. refl)
is_mark heading false h = (λ t. cc, λ m. absurd (nowhere heading h m))
