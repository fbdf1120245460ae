-- Numbers that names and values have in the counts.
use Rattle.std.proofs.Common.{◌≡◌, ℕ, Option, Some, List, [], length, slice_get, sym, ap, subst, ◌∙◌, arith}
use Rattle.mt_counts.specs.Building.{Building}
use Rattle.mt_counts.specs.Names.{Begins}
use Rattle.mt_counts.specs.Tables.{text_at}
use Rattle.mt_counts.proofs.Numbering.{begins_at}
use Rattle.mt_instances.specs.Numbers.{AreNumbers, AreWithin}
use Rattle.mt_instances.specs.Counting.{AreReady}
use Rattle.mt_instances.specs.declared.counter.Counter.{Counter}
use Rattle.mt_instances.proofs.Growing.{text_at-begins, length-begins}
use Rattle.mt_instances.proofs.Known.{text_is}

numbers-begins : (from old new : List (List ℕ)) (numbers : List (Option ℕ)) → Begins old new → AreNumbers from old numbers → AreNumbers from new numbers
numbers-begins from old new numbers h are here there e = begins_at old new there (text_at from here) h (are here there e)

pub ready_named : (names lexicon : List (List ℕ)) (old : Counter) (new : Building) → Begins old.noted.names new.names → new.words ≡ old.noted.words → AreReady names lexicon old → AreReady names lexicon (record { names = old.names; words = old.words; noted = new })
ready_named names lexicon old new h e r = record {
  names_are = numbers-begins names old.noted.names new.names old.names h r.names_are;
  words_are = subst (λ (words : List (List ℕ)). AreNumbers lexicon words old.words) (sym e) r.words_are;
  names_within = r.names_within;
}

pub ready_worded : (names lexicon : List (List ℕ)) (old : Counter) (new : Building) → Begins old.noted.words new.words → new.names ≡ old.noted.names → AreReady names lexicon old → AreReady names lexicon (record { names = old.names; words = old.words; noted = new })
ready_worded names lexicon old new h e r = record {
  names_are = subst (λ (all : List (List ℕ)). AreNumbers names all old.names) (sym e) r.names_are;
  words_are = numbers-begins lexicon old.noted.words new.words old.words h r.words_are;
  names_within = r.names_within;
}

pub ready_counted : (names lexicon : List (List ℕ)) (old : Counter) (new : Building) → new.names ≡ old.noted.names → new.words ≡ old.noted.words → AreReady names lexicon old → AreReady names lexicon (record { names = old.names; words = old.words; noted = new })
ready_counted names lexicon old new e f r = record {
  names_are = subst (λ (all : List (List ℕ)). AreNumbers names all old.names) (sym e) r.names_are;
  words_are = subst (λ (all : List (List ℕ)). AreNumbers lexicon all old.words) (sym f) r.words_are;
  names_within = r.names_within;
}

abbrev pub Sets : (old new : List (Option ℕ)) (here there : ℕ) → Type 0
Sets old new here there = (from to : List (List ℕ)) → AreNumbers from to old → slice_get to there ≡ Some (text_at from here) → AreNumbers from to new

pub ready_name_set : (names lexicon : List (List ℕ)) (old : Counter) (numbers : List (Option ℕ)) (here there : ℕ) → Sets old.names numbers here there → AreWithin (length names) numbers → slice_get old.noted.names there ≡ Some (text_at names here) → AreReady names lexicon old →
    AreReady names lexicon (record { names = numbers; words = old.words; noted = old.noted })
ready_name_set names lexicon old numbers here there set within e r = record { names_are = set names old.noted.names r.names_are e; words_are = r.words_are; names_within = within }

pub ready_word_set : (names lexicon : List (List ℕ)) (old : Counter) (numbers : List (Option ℕ)) (here there : ℕ) → Sets old.words numbers here there → slice_get old.noted.words there ≡ Some (text_at lexicon here) → AreReady names lexicon old →
    AreReady names lexicon (record { names = old.names; words = numbers; noted = old.noted })
ready_word_set names lexicon old numbers here there set e r = record { names_are = r.names_are; words_are = set lexicon old.noted.words r.words_are e; names_within = r.names_within }

pub here_is : (from to : List (List ℕ)) (here there : ℕ) (value : List ℕ) → slice_get to there ≡ Some value → slice_get from here ≡ Some value → slice_get to there ≡ Some (text_at from here)
here_is from to here there value e f = e ∙ ap Some (sym (text_is from here value f))

-- names were added to those of instances
pub ready-begins : (names more lexicon : List (List ℕ)) (counter : Counter) → Begins names more → AreReady names lexicon counter → AreReady more lexicon counter
ready-begins names more lexicon counter h r = record {
  names_are = λ here there e. r.names_are here there e ∙ ap Some (sym (text_at-begins names more here h (r.names_within here there e)));
  words_are = r.words_are;
  names_within = λ here there e. let low = r.names_within here there e in let long = length-begins names more h in omega (arith, low, long);
}

-- the values are those of another lexicon
pub ready_turned : (names lexicon other : List (List ℕ)) (old : Counter) (words : List (Option ℕ)) → words ≡ [] → AreReady names lexicon old → AreReady names other (record { names = old.names; words = words; noted = old.noted })
ready_turned names lexicon other old words e r =
    record { names_are = r.names_are; words_are = λ here there at. let none : slice_get {X = Option ℕ} [] here ≡ Some (Some there) = subst (λ (ns : List (Option ℕ)). slice_get ns here ≡ Some (Some there)) e at in cc; names_within = r.names_within }
