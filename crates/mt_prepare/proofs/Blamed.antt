-- Where building stops, in texts that stand one after another.
use Rattle.std.proofs.Common.{ℕ, ◌≡◌, ◌+◌, List, [], ◌∷◌, ◌++◌, length, refl, sym, ◌∙◌, ap, arith, append_assoc, length-append}
use Rattle.std.specs.List.{All}
use Rattle.std.proofs.Common.{Result, Ok, Err, IfErr, OnOk, subst}
use Rattle.std.proofs.lemmas.List.Elements.{All-append, All-nil}
use Rattle.mt_prepare.specs.Built.{IsWhole, StopsAt, Blames}
use Rattle.mt_prepare.specs.declared.patterns.PatternError.{PatternError}
use Rattle.mt_prepare.specs.declared.patterns.PatternError.TheVariants.{Syntax, Refused, NoMemory}

pub stops_first : (first k : ℕ) (a b : List (List ℕ)) (text : List ℕ) → StopsAt first a k text → StopsAt first (a ++ b) k text
stops_first first k a b text s = record {
  before = s.before;
  behind = s.behind ++ b;
  split = ap (λ (l : List (List ℕ)). l ++ b) s.split ∙ append_assoc s.before (text ∷ s.behind) b;
  number = s.number;
  patterns = s.patterns;
}

pub stops_later : (first later k : ℕ) (a b : List (List ℕ)) (text : List ℕ) → later ≡ first + length a → All IsWhole a → StopsAt later b k text → StopsAt first (a ++ b) k text
stops_later first later k a b text e patterns s = record {
  before = a ++ s.before;
  behind = s.behind;
  split = ap (λ (l : List (List ℕ)). a ++ l) s.split ∙ sym (append_assoc a s.before (text ∷ s.behind));
  number = omega (arith, s.number, length-append a s.before);
  patterns = All-append IsWhole a s.before patterns s.patterns;
}

pub stops_here : (first : ℕ) (text : List ℕ) → StopsAt first (text ∷ []) first text
stops_here first text = record { before = []; behind = []; split = refl; number = omega arith; patterns = All-nil IsWhole }

-- ## Errors

pub blames_first : (first : ℕ) (a b old new : List (List ℕ)) (e : PatternError) → Blames first a old new e → Blames first (a ++ b) old new e
blames_first first a b old new (Syntax k) h = (record { text = h.0.text; stops = stops_first first k a b h.0.text h.0.stops; none = h.0.none }, h.1)
blames_first first a b old new (Refused k) h = record { text = h.text; stops = stops_first first k a b h.text h.stops; refused = h.refused }
blames_first first a b old new NoMemory h = h

pub blames_later : (first later : ℕ) (a b old new : List (List ℕ)) (e : PatternError) → later ≡ first + length a → All IsWhole a → Blames later b old new e → Blames first (a ++ b) old new e
blames_later first later a b old new (Syntax k) n w h = (record { text = h.0.text; stops = stops_later first later k a b h.0.text n w h.0.stops; none = h.0.none }, h.1)
blames_later first later a b old new (Refused k) n w h = record { text = h.text; stops = stops_later first later k a b h.text n w h.stops; refused = h.refused }
blames_later first later a b old new NoMemory n w h = h

-- what is said of the texts behind others that are built, after which no more had been refused
pub later_part : {X : Type 0} (r : Result X PatternError) (first later : ℕ) (a b old middle new : List (List ℕ)) → later ≡ first + length a → All IsWhole a → middle ≡ old →
    IfErr r (Blames later b middle new) → IfErr r (Blames first (a ++ b) old new)
later_part (Ok x) first later a b old middle new n w same h = tt
later_part (Err e) first later a b old middle new n w same h =
    blames_later first later a b old new e n w (subst (λ (shop : List (List ℕ)). Blames later b shop new e) same h)

pub front_part : {X : Type 0} (r : Result X PatternError) (first : ℕ) (a b old new : List (List ℕ)) → IfErr r (Blames first a old new) → IfErr r (Blames first (a ++ b) old new)
front_part (Ok x) first a b old new h = tt
front_part (Err e) first a b old new h = blames_first first a b old new e h

-- where texts begin that come behind others
pub behind : (all before a : List (List ℕ)) → all ≡ before ++ a → length all + 1 ≡ length before + 1 + length a
behind all before a e = omega (arith, ap length e, length-append before a)

-- ## Three parts

pub middle_part : (e : PatternError) (first later : ℕ) (a b d old middle new : List (List ℕ)) → later ≡ first + length a → All IsWhole a → middle ≡ old →
    Blames later b middle new e → Blames first (a ++ b ++ d) old new e
middle_part e first later a b d old middle new n w same h =
    blames_first first (a ++ b) d old new e (blames_later first later a b old new e n w (subst (λ (shop : List (List ℕ)). Blames later b shop new e) same h))

pub last_part : {X : Type 0} (r : Result X PatternError) (first later : ℕ) (a b d old middle new : List (List ℕ)) → later ≡ first + length a + length b → All IsWhole a → All IsWhole b → middle ≡ old →
    IfErr r (Blames later d middle new) → IfErr r (Blames first (a ++ b ++ d) old new)
last_part r first later a b d old middle new n v w same h =
    later_part r first later (a ++ b) d old middle new (omega (arith, n, length-append a b)) (All-append IsWhole a b v w) same h

pub all_three : {X : Type 0} (r : Result X PatternError) (a b d : List (List ℕ)) → All IsWhole a → All IsWhole b → OnOk r (All IsWhole d) → OnOk r (All IsWhole (a ++ b ++ d))
all_three (Ok x) a b d u v w = All-append IsWhole (a ++ b) d (All-append IsWhole a b u v) w
all_three (Err e) a b d u v w = tt

pub behind_two : (all middle before a b : List (List ℕ)) → all ≡ middle ++ b → middle ≡ before ++ a → length all + 1 ≡ length before + 1 + length a + length b
behind_two all middle before a b e f = omega (arith, ap length e, length-append middle b, ap length f, length-append before a)

-- ## Texts behind others

pub behind_part : (e : PatternError) (first later : ℕ) (a b old middle new : List (List ℕ)) → later ≡ first + length a → All IsWhole a → middle ≡ old → Blames later b middle new e → Blames first (a ++ b) old new e
behind_part e first later a b old middle new n w same h = blames_later first later a b old new e n w (subst (λ (shop : List (List ℕ)). Blames later b shop new e) same h)

pub behind_none : (all none a : List (List ℕ)) → all ≡ none ++ a → none ≡ [] → length all + 1 ≡ 1 + length a
behind_none all none a e f = omega (arith, ap length e, length-append none a, ap length f)
