-- Instances under names that grow in number.
use Rattle.std.proofs.Common.{◌≡◌, ℕ, ◌<◌, ◌≤◌, List, [], ◌∷◌, length, map, get_or, refl, ap, ◌∙◌, arith, length-append}
use Rattle.std.proofs.lemmas.List.{get_or_append_left}
use Rattle.std.proofs.lemmas.List.Elements.{All-head, All-tail, All-weaker}
use Rattle.mt_counts.specs.Names.{Begins}
use Rattle.mt_counts.specs.Tables.{text_at}
use Rattle.mt_counts.specs.declared.note.Note.{Note}
use Rattle.mt_instances.specs.Entries.{instance_at, instance_of, AreNamed}

pub text_at-begins : (old new : List (List ℕ)) (n : ℕ) → Begins old new → n < length old → text_at new n ≡ text_at old n
text_at-begins old new n h l = ap (λ (xs : List (List ℕ)). get_or xs n []) h.are ∙ get_or_append_left old h.more [] n l

pub length-begins : (old new : List (List ℕ)) → Begins old new → length old ≤ length new
length-begins old new h = let e = ap (λ (xs : List (List ℕ)). length xs) h.are in omega (arith, e, length-append old h.more)

pub named-begins : (old new : List (List ℕ)) (entries : List Note) → Begins old new → AreNamed (length old) entries → AreNamed (length new) entries
named-begins old new entries h named = let more = length-begins old new h in All-weaker (λ (e : Note). e.name < length old) (λ (e : Note). e.name < length new) (λ e l. omega (arith, l, more)) entries named

pub instances-begins : (old new : List (List ℕ)) (entries : List Note) → Begins old new → AreNamed (length old) entries → map (instance_of new) entries ≡ map (instance_of old) entries
instances-begins old new [] h named = refl
instances-begins old new (e ∷ entries) h named =
    let name = text_at-begins old new e.name h (All-head (λ (x : Note). x.name < length old) e entries named) in
    let rest = instances-begins old new entries h (All-tail (λ (x : Note). x.name < length old) e entries named) in
    λ i. instance_at (name i) e.first e.second ∷ rest i
