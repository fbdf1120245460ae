-- How a run starts.
use Rattle.std.proofs.Common.{◌≡◌, ℕ, List, [], ◌∷◌, Option, None, Some, map, codes, refl, sym, ap, subst, ◌++◌}
use Rattle.std.proofs.lemmas.List.Elements.{All-nil, All-cons}
use mathlib.Core.List.{Mem, Mem-prop, mem-append, not-mem-nil}
use mathlib.Core.Logic.Or
use Rattle.mt_text_spec.specs.Registries.{base_attr}
use Rattle.mt_corpus_spec.specs.Images.{Image}
use Rattle.mt_session_spec.specs.Settings.{Setting, images_of}
use Rattle.mt_session_spec.specs.Runs.{Outside, EndsWell}
use Rattle.mt_shell.specs.Ends.{EndsAs, WhereTold, EndsAreAnswers, IsTheAnswer}
use Rattle.mt_shell.specs.declared.top.Status.{Status}
use Rattle.mt_shell.specs.declared.top.Status.TheVariants.{Done}
use Rattle.mt_segment.specs.Mappers.{IsThere}
use Rattle.mt_shell.specs.Serves.{Kept, Serves, first_kept, setting_of}
use Rattle.mt_shell.proofs.Registering.{same_image, not_yet}

-- what is within two is within their union
pub both_within : (whole left right : List ℕ) → ((a : ℕ) → Mem a left → Mem a whole) → ((a : ℕ) → Mem a right → Mem a whole) → (a : ℕ) → Mem a (left ++ right) → Mem a whole
both_within whole left right h k a m = Or.elim (Mem-prop {a = a} {l = whole}) ((mem-append {s = left} {t = right}).0 m) (h a) (k a)

none_within : (whole : List ℕ) (a : ℕ) → Mem a [] → Mem a whole
none_within whole a m = absurd (not-mem-nil m)

-- what is within each of three is within all, where nothing follows them
pub three_within : (whole first second third : List ℕ) → ((a : ℕ) → Mem a first → Mem a whole) → ((a : ℕ) → Mem a second → Mem a whole) → ((a : ℕ) → Mem a third → Mem a whole) →
    (a : ℕ) → Mem a (first ++ (second ++ (third ++ []))) → Mem a whole
three_within whole first second third f s t =
    both_within whole first (second ++ (third ++ [])) f (both_within whole second (third ++ []) s (both_within whole third [] t (none_within whole)))

not_some : (given : Option ℕ) (base : ℕ) → given ≡ None → given ≡ Some base → ⊥
not_some given base n e = cc

base_there : (names : List (List ℕ)) (name : List ℕ) → IsThere names (base_attr name)
base_there names name = λ base e. absurd (not_some None base refl e)

-- before any command, mappers serve in the setting that has them
pub serves_first : (mappers : List (List ℕ × (List ℕ → List ℕ))) (state : Kept) → state ≡ first_kept → Serves (setting_of mappers) mappers state
serves_first mappers state e =
    let names = map (λ (mapper : List ℕ × (List ℕ → List ℕ)). mapper.0) mappers in
    let word = base_attr (codes "word") in
    let tag = base_attr (codes "tag") in
    let lemma = base_attr (codes "lemma") in
    subst (λ (k : Kept). Serves (setting_of mappers) mappers k) (sym e) (record {
      all = λ h. refl;
      only = λ h. absurd (not_yet (sym h));
      there = All-cons (IsThere names) word (tag ∷ lemma ∷ []) (base_there names (codes "word"))
          (All-cons (IsThere names) tag (lemma ∷ []) (base_there names (codes "tag")) (All-cons (IsThere names) lemma [] (base_there names (codes "lemma")) (All-nil (IsThere names))));
      agree = record { each = λ attr there some value. same_image mappers attr.mapper value };
      taken = All-nil (λ (each : Image). images_of (setting_of mappers) each.mapper each.value ≡ each.image);
    })

-- a run that is done in one setting has the one answer in the same setting
pub one_answer : {V : Type 0} {old new : V} → old ≡ new → (setting_at : V → Setting) → EndsAreAnswers → (status : Status) → status ≡ Done → (start end : Outside) → EndsAs (setting_at old) status start end →
    IsTheAnswer (setting_at new) start end
one_answer {old = old} {new = new} same setting_at answers status done start end ends = λ input h written k files f none.
    answers (setting_at new) input written start end files f none (subst (λ (s : Setting). EndsWell s input start written end) (ap setting_at same) (ended input h written k))
  where
    ended : WhereTold (EndsWell (setting_at old)) start end
    ended = subst (λ (s : Status). EndsAs (setting_at old) s start end) done ends
