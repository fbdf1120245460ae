-- What follows of what is held, with a text more or less, and where nothing has changed.
use Rattle.std.proofs.Common.{◌≡◌, ℕ, Bool, Result, Ok, Err, Option, None, Some, List, [], refl, sym, ◌∙◌, ap, subst}
use Rattle.std.specs.Prelude.{IfSome, OnOk, OnErr}
use Rattle.std.proofs.lemmas.List.Elements.{All-append}
use Rattle.mt_text_spec.specs.Registries.{Registry}
use Rattle.mt_text_spec.specs.Texts.{Text}
use Rattle.mt_text_spec.specs.Queries.{Grammar}
use Rattle.mt_segment_spec.specs.Tables.{Tables}
use Rattle.mt_corpus_spec.specs.Groups.{Group}
use Rattle.mt_corpus_spec.specs.Images.{Corpus, Image, AreImagesBy}
use Rattle.mt_corpus_spec.specs.Decoded.{images_in}
use Rattle.mt_corpus.specs.Added.{MayBeKept, SomeMayBeKept}
use Rattle.mt_corpus.specs.Keeping.{firsts, is_named}
use Rattle.mt_sketch.specs.Told.{AreOfSome}
use Rattle.mt_session_spec.specs.World.{Held, ValidHeld, with_text}
use Rattle.mt_session_spec.specs.Settings.{Setting, images_of}
use Rattle.mt_session_spec.specs.Laws.{HeldIsValid}
use Rattle.mt_answer.specs.Rows.{HasImages}
use Rattle.mt_rules.specs.Ruled.{Ruled, AreOver}
use Rattle.mt_rules.specs.Keeping.{HaveImages, KeepsAlone, IsTooRich, IsNotTooRich}
use Rattle.mt_shell.specs.Serves.{Kept, Serves, kept}
use Rattle.mt_shell.specs.Holding.{IsSound, grammar_of, corpus_in}
use Rattle.mt_shell.specs.Answers.{IsRich}

-- ## Results

pub ok_as : {V E A B : Type 0} (result : Result V E) → OnOk result A → (A → B) → OnOk result B
ok_as (Ok value) a f = f a
ok_as (Err error) a f = tt

pub either_way : {V E A B C : Type 0} (result : Result V E) → OnOk result A → OnErr result B → (A → C) → (B → C) → C
either_way (Ok value) a b f g = f a
either_way (Err error) a b f g = g b

-- ## The grammar that is held

-- its counts are those of some texts
pub some_counted : (images : List ℕ → List ℕ → List ℕ) (corpus : Corpus) (ruled : Ruled) → AreOver corpus ruled → AreImagesBy images corpus.taken → AreOfSome ruled.counted
some_counted images corpus ruled over agree = record { images = images; registry = corpus.registry; grammar = ruled.grammar; corpus = _; are = over.counts images agree }

-- what is told of what is held holds of the corpus
pub taken_for : (setting : Setting) (state : Kept) (accepted : Bool) (grammar : Option Grammar) (corpus : Corpus) → kept accepted grammar corpus ≡ state → AreImagesBy (images_of setting) state.taken → AreImagesBy (images_of setting) corpus.taken
taken_for setting state accepted grammar corpus v agree = rw (← (ap (λ (k : Kept). k.taken) v)) at agree

pub some_images : (setting : Setting) (state : Kept) (accepted : Bool) (grammar : Option Grammar) (corpus : Corpus) → kept accepted grammar corpus ≡ state → AreImagesBy (images_of setting) state.taken → HasImages corpus
some_images setting state accepted grammar corpus v agree = record { images = images_of setting; agree = taken_for setting state accepted grammar corpus v agree }

pub same_corpus : (state : Kept) (accepted : Bool) (grammar : Option Grammar) (corpus : Corpus) → kept accepted grammar corpus ≡ state → corpus_in state ≡ corpus
same_corpus state accepted grammar corpus v = ap corpus_in (sym v)

-- what is seen of the rules, where they are these
pub seen_as : (state : Kept) (accepted : Bool) (rules other : Option Ruled) (corpus : Corpus) → rules ≡ other → kept accepted (grammar_of rules) corpus ≡ state → kept accepted (grammar_of other) corpus ≡ state
seen_as state accepted rules other corpus is v = subst (λ (r : Option Ruled). kept accepted (grammar_of r) corpus ≡ state) is v

pub sound_as : (accepted : Bool) (rules other : Option Ruled) (corpus : Corpus) → rules ≡ other → IsSound accepted rules corpus → IsSound accepted other corpus
sound_as accepted rules other corpus is s = subst (λ (r : Option Ruled). IsSound accepted r corpus) is s

pub over_of : (accepted : Bool) (rules : Option Ruled) (ruled : Ruled) (corpus : Corpus) → rules ≡ Some ruled → IsSound accepted rules corpus → AreOver corpus ruled
over_of accepted rules ruled corpus is s = (sound_as accepted rules (Some ruled) corpus is s).over

pub over_none : (rules : Option Ruled) (corpus : Corpus) → rules ≡ None → IfSome rules (AreOver corpus)
over_none rules corpus is = subst (λ (r : Option Ruled). IfSome r (AreOver corpus)) (sym is) tt

-- a text that may be kept in what is held may be in the corpus, and its tables have the images of the setting there too
module _ (state : Kept) (accepted : Bool) (grammar : Option Grammar) (corpus : Corpus) (v : kept accepted grammar corpus ≡ state) where
  pub may_here : (text : Text) (tables : Tables) → MayBeKept (corpus_in state) text tables → MayBeKept corpus text tables
  may_here text tables may = subst (λ (c : Corpus). MayBeKept c text tables) (same_corpus state accepted grammar corpus v) may

  pub some_here : (tables : Tables) → SomeMayBeKept (corpus_in state) tables → SomeMayBeKept corpus tables
  some_here tables some = subst (λ (c : Corpus). SomeMayBeKept c tables) (same_corpus state accepted grammar corpus v) some

  pub images_here : (setting : Setting) (tables : Tables) → AreImagesBy (images_of setting) (images_in state.held.registry tables) → AreImagesBy (images_of setting) (images_in corpus.registry tables)
  images_here setting tables images = subst (λ (k : Kept). AreImagesBy (images_of setting) (images_in k.held.registry tables)) (sym v) images

  pub have_images : (setting : Setting) (tables : Tables) → AreImagesBy (images_of setting) (images_in state.held.registry tables) → AreImagesBy (images_of setting) state.taken → HaveImages corpus tables
  have_images setting tables images taken = record { images = images_of setting; taken = taken_for setting state accepted grammar corpus v taken; more = images_here setting tables images }

  pub serves_here : (setting : Setting) (mappers : List (List ℕ × (List ℕ → List ℕ))) → Serves setting mappers state → Serves setting mappers (kept accepted grammar corpus)
  serves_here setting mappers s = subst (λ (k : Kept). Serves setting mappers k) (sym v) s

-- ## As it was

module _ (accepted : Bool) (old new : Option Ruled) (corpus more : Corpus) (g : grammar_of new ≡ grammar_of old) (m : more ≡ corpus) where
  pub same_kept : kept accepted (grammar_of new) more ≡ kept accepted (grammar_of old) corpus
  same_kept = ap (λ (grammar : Option Grammar). kept accepted grammar more) g ∙ ap (λ (c : Corpus). kept accepted (grammar_of old) c) m

  pub serves_same : (setting : Setting) (mappers : List (List ℕ × (List ℕ → List ℕ))) → Serves setting mappers (kept accepted (grammar_of old) corpus) → Serves setting mappers (kept accepted (grammar_of new) more)
  serves_same setting mappers s = subst (λ (k : Kept). Serves setting mappers k) (sym same_kept) s

  pub sound_same : IfSome new (AreOver more) → IsSound accepted old corpus → IsSound accepted new more
  sound_same over s = record { held = subst (λ (k : Kept). ValidHeld k.held) (sym same_kept) s.held; over = over }

-- ## With a text more

module _ (accepted : Bool) (old new : Option Ruled) (corpus more : Corpus) (text : Text) (tables : Tables) (g : grammar_of new ≡ grammar_of old) (k : KeepsAlone corpus text tables more) where
  pub text_held : (kept accepted (grammar_of new) more).held ≡ with_text (kept accepted (grammar_of old) corpus).held text
  text_held =
      let held : Registry → Option Grammar → List Group → Held = λ registry grammar groups. record { registry = registry; accepted = accepted; grammar = grammar; groups = groups } in
      ap (λ registry. held registry (grammar_of new) more.groups) k.registry ∙ ap (λ grammar. held corpus.registry grammar more.groups) g ∙ ap (λ groups. held corpus.registry (grammar_of old) groups) k.groups

  pub sound_more : HeldIsValid → MayBeKept corpus text tables → IfSome new (AreOver more) → IsSound accepted old corpus → IsSound accepted new more
  sound_more laws may over s = record {
    held = subst ValidHeld (sym text_held) (laws.text (kept accepted (grammar_of old) corpus).held text s.held may.valid may.free may.room);
    over = over;
  }

  pub serves_alone : (setting : Setting) (mappers : List (List ℕ × (List ℕ → List ℕ))) → AreImagesBy (images_of setting) (images_in corpus.registry tables) → Serves setting mappers (kept accepted (grammar_of old) corpus) →
      Serves setting mappers (kept accepted (grammar_of new) more)
  serves_alone setting mappers images s = record {
    all = s.all;
    only = λ e. s.only e ∙ ap (λ (registry : Registry). firsts (λ (mapper : List ℕ × (List ℕ → List ℕ)). mapper.0) (is_named registry) [] setting.mappers) (sym k.registry);
    there = rw k.registry s.there;
    agree = rw k.registry s.agree;
    taken = subst (AreImagesBy (images_of setting)) (sym k.taken) (All-append (λ (each : Image). images_of setting each.mapper each.value ≡ each.image) corpus.taken (images_in corpus.registry tables) s.taken images);
  }

-- ## What has too many rows

pub rich_of : (setting : Setting) (state : Kept) (accepted : Bool) (corpus : Corpus) (ruled : Ruled) (text : Text) (tables : Tables) → kept accepted (Some ruled.grammar) corpus ≡ state → AreImagesBy (images_of setting) (images_in corpus.registry tables) →
    IsTooRich corpus ruled.grammar text tables → IsRich setting state.held text
rich_of setting state accepted corpus ruled text tables v images t =
    subst (λ (k : Kept). IsRich setting k.held text) v (record { grammar = ruled.grammar; ruled = refl; many = t (images_of setting) images })

pub poor_of : (setting : Setting) (state : Kept) (accepted : Bool) (corpus : Corpus) (ruled : Ruled) (text : Text) (tables : Tables) → kept accepted (Some ruled.grammar) corpus ≡ state → AreImagesBy (images_of setting) (images_in corpus.registry tables) →
    IsNotTooRich corpus ruled.grammar text tables → IsRich setting state.held text → ⊥
poor_of setting state accepted corpus ruled text tables v images t rich =
    let some : Some ruled.grammar ≡ Some rich.grammar = ap (λ (k : Kept). k.held.grammar) v ∙ rich.ruled in
    let same : rich.grammar ≡ ruled.grammar = cc in
    let there : corpus.registry ≡ state.held.registry = ap (λ (k : Kept). k.held.registry) v in
    t (images_of setting) images (rw (same, ← there) at rich.many)
