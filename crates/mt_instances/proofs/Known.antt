-- What is known of a text stays so as names and instances are added.
use Rattle.std.proofs.Common.{◌≡◌, ℕ, ◌<◌, ◌⊎◌, inl, inr, Some, List, [], length, get_or, slice_get, sym, subst, ◌∙◌, arith}
use Rattle.std.specs.List.{All, Contains}
use Rattle.std.proofs.lemmas.List.Elements.{All-same, All-get_or}
use Rattle.std.proofs.lemmas.Option.{slice_get_within, get_or_from_slice_get}
use Rattle.mt_count_spec.specs.Instances.{IsFilled}
use Rattle.mt_counts.specs.Names.{Begins}
use Rattle.mt_counts.specs.Tables.{text_at}
use Rattle.mt_counts.proofs.Numbering.{begins_at}
use Rattle.mt_instances.specs.Named.{Named}
use Rattle.mt_instances.specs.Gains.{LiesIn}
use Rattle.mt_instances.specs.Filled.{HasOnly, IsFill, AreFills}
use Rattle.mt_instances.specs.Gathered.{AreGathered}
use Rattle.mt_instances.specs.declared.gathering.Gathered.{Gathered}
use Rattle.mt_instances.proofs.Growing.{text_at-begins, length-begins}

pub text_is : (texts : List (List ℕ)) (n : ℕ) (text : List ℕ) → slice_get texts n ≡ Some text → text_at texts n ≡ text
text_is texts n text e = get_or_from_slice_get texts n text [] e

fills-begins : (old new lexicon : List (List ℕ)) (fills : List ((ℕ × ℕ) × ℕ)) → Begins old new → AreFills old lexicon fills → AreFills new lexicon fills
fills-begins old new lexicon fills h are name value number c =
    let is = are name value number c in
    let within = is.named in
    let more = length-begins old new h in
    record {
      named = omega (arith, within, more);
      filled = is.filled;
      there = begins_at old new number is.filled h is.there;
      is = subst (λ (n : List ℕ). IsFilled n (text_at lexicon value) is.filled) (sym (text_at-begins old new name h within)) is.is;
    }

fills-set : (names lexicon : List (List ℕ)) (old new : List ((ℕ × ℕ) × ℕ)) (name value number : ℕ) → AreFills names lexicon old → IsFill names lexicon name value number → HasOnly old ((name, value), number) new → AreFills names lexicon new
fills-set names lexicon old new name value number are is only n v k c = by (only ((n, v), k) c)
  where
    by : Contains old ((n, v), k) ⊎ ◌≡◌ {A = (ℕ × ℕ) × ℕ} ((n, v), k) ((name, value), number) → IsFill names lexicon n v k
    by (inl h) = are n v k h
    by (inr e) = subst (λ (x : (ℕ × ℕ) × ℕ). IsFill names lexicon x.0.0 x.0.1 x.1) (sym e) is

-- names were added
pub gathered_named : (lexicon : List (List ℕ)) (numbers : List ℕ) (old : Gathered) (new : Named) → Begins old.instances.names new.names → new.given ≡ old.instances.given → AreGathered lexicon numbers old → AreGathered lexicon numbers (record { instances = new; fills = old.fills })
gathered_named lexicon numbers old new h e g = record {
  valued = g.valued;
  lie = All-same (LiesIn (length numbers)) new.given old.instances.given e g.lie;
  fills_are = fills-begins old.instances.names new.names lexicon old.fills h g.fills_are;
}

-- a filled name is known
pub gathered_filled : (lexicon : List (List ℕ)) (numbers : List ℕ) (old : Gathered) (fills : List ((ℕ × ℕ) × ℕ)) (name value number : ℕ) → AreGathered lexicon numbers old → IsFill old.instances.names lexicon name value number → HasOnly old.fills ((name, value), number) fills →
    AreGathered lexicon numbers (record { instances = old.instances; fills = fills })
gathered_filled lexicon numbers old fills name value number g is only = record { valued = g.valued; lie = g.lie; fills_are = fills-set old.instances.names lexicon old.fills fills name value number g.fills_are is only }

-- instances were added under the same names
pub gathered_more : (lexicon : List (List ℕ)) (numbers : List ℕ) (old : Gathered) (new : Named) → new.names ≡ old.instances.names → (All (LiesIn (length numbers)) old.instances.given → All (LiesIn (length numbers)) new.given) → AreGathered lexicon numbers old →
    AreGathered lexicon numbers (record { instances = new; fills = old.fills })
gathered_more lexicon numbers old new e lies g = record { valued = g.valued; lie = lies g.lie; fills_are = subst (λ (names : List (List ℕ)). AreFills names lexicon old.fills) (sym e) g.fills_are }

-- a name that is filled and added
pub fill_is : (names new lexicon : List (List ℕ)) (name value number : ℕ) (text word full : List ℕ) → Begins names new → slice_get names name ≡ Some text → slice_get lexicon value ≡ Some word → slice_get new number ≡ Some full → IsFilled text word full → IsFill new lexicon name value number
fill_is names new lexicon name value number text word full h name_is value_is there is =
    let within = slice_get_within names name text name_is in
    let more = length-begins names new h in
    record {
      named = omega (arith, within, more);
      filled = full;
      there = there;
      is = subst (λ (n : List ℕ). IsFilled n (text_at lexicon value) full) (sym (text_at-begins names new name h within ∙ text_is names name text name_is)) (subst (λ (w : List ℕ). IsFilled text w full) (sym (text_is lexicon value word value_is)) is);
    }

pub value_within : (lexicon : List (List ℕ)) (numbers : List ℕ) (place : ℕ) → All (λ number. number < length lexicon) numbers → place < length numbers → get_or numbers place 0 < length lexicon
value_within lexicon numbers place all l = All-get_or (λ (number : ℕ). number < length lexicon) numbers place 0 l all

pub is_known : (names lexicon : List (List ℕ)) (name value : ℕ) (text word full : List ℕ) → slice_get names name ≡ Some text → slice_get lexicon value ≡ Some word → IsFilled text word full → IsFilled (text_at names name) (text_at lexicon value) full
is_known names lexicon name value text word full at at' h =
    subst (λ (n : List ℕ). IsFilled n (text_at lexicon value) full) (sym (text_is names name text at)) (subst (λ (w : List ℕ). IsFilled text w full) (sym (text_is lexicon value word at')) h)

pub none_known : (names lexicon : List (List ℕ)) (name value : ℕ) (text word : List ℕ) → slice_get names name ≡ Some text → slice_get lexicon value ≡ Some word → ((other : List ℕ) → ¬ IsFilled text word other) → (other : List ℕ) → ¬ IsFilled (text_at names name) (text_at lexicon value) other
none_known names lexicon name value text word at at' none other h =
    none other (subst (λ (n : List ℕ). IsFilled n word other) (text_is names name text at) (subst (λ (w : List ℕ). IsFilled (text_at names name) w other) (text_is lexicon value word at') h))
