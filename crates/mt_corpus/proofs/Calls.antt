-- Counts of calls, and images of values that were taken.
use Rattle.std.proofs.Common.{◌≡◌, ℕ, ◌<◌, List, [], ◌∷◌, ◌++◌, length, OnOk, OnErr, IfOk, IsSome, Option, Some, Result, Ok, Err, refl, sym, subst, arith}
use Rattle.std.proofs.lemmas.List.Elements.{All-append, Contains-get_or}
use Rattle.mt_text_spec.specs.Registries.{Registry, ValidRegistry, base_attr}
use Rattle.mt_text_spec.specs.Texts.{Text}
use Rattle.mt_segment.specs.Mappers.{AreCalled, image_by}
use Rattle.mt_segment_spec.specs.Tables.{AreTablesOf, Tables, attr_at}
use Rattle.mt_corpus_spec.specs.Images.{AreImagesBy, Corpus, Image}
use Rattle.mt_corpus_spec.specs.Decoded.{images_in}
use Rattle.mt_decode_laws.specs.Laws.{ImagesAreDecoded}
use Rattle.mt_corpus.specs.Keeping.{AgreeWith}
use Rattle.mt_corpus.proofs.Agree.{under_agreeing}

-- calls that were made are made, also where memory is wanted later
pub calls_stay : {T E U F : Type 0} (due : ℕ → ℕ) (old new : List ℕ) (x : T) (r : Result U F) → AreCalled {T = T} {E = E} due old new (Ok x) → AreCalled due old new r
calls_stay due old new x (Ok y) k = record { count = k.count; each = λ m l. let e = k.each m l in record { all = e.all; halfway = tt } }
calls_stay due old new x (Err y) k = record { count = k.count; each = λ m l. let e = k.each m l in record { all = tt; halfway = record { more = due m; few = omega arith; are = e.all } } }

pub calls_halfway : {T E U F : Type 0} (due : ℕ → ℕ) (old new : List ℕ) (x : E) (y : F) → AreCalled {T = T} {E = E} due old new (Err x) → AreCalled {T = U} {E = F} due old new (Err y)
calls_halfway due old new x y k = record { count = k.count; each = λ m l. let e = k.each m l in record { all = tt; halfway = e.halfway } }

-- the images that a new segment adds are those of the mappers that the registry names
pub taken_more : (law : ImagesAreDecoded) (registry : Registry) (text : Text) (tables : Tables) (images : List ℕ → List ℕ → List ℕ) (mappers : List (List ℕ × (List ℕ → List ℕ))) → ValidRegistry registry →
    AreTablesOf (image_by mappers) registry (text ∷ []) tables → AgreeWith images mappers registry → AreImagesBy images (images_in registry tables)
taken_more law registry text tables images mappers valid are agree =
    let made = under_agreeing registry (image_by mappers) images same (text ∷ []) tables are in
    (law images registry (text ∷ []) tables valid made).own
  where
    some_is : (o : Option ℕ) (b : ℕ) → o ≡ Some b → IsSome o
    some_is o b e = subst IsSome (sym e) refl

    same : (number base : ℕ) → number < length registry.attrs → (attr_at registry number).base ≡ Some base → image_by mappers (attr_at registry number).mapper ≡ images (attr_at registry number).mapper
    same number base l some = λ i value. (sym (agree.each (attr_at registry number) (Contains-get_or registry.attrs number (base_attr []) l) (some_is (attr_at registry number).base base some) value)) i

pub images_taken : {E : Type 0} (law : ImagesAreDecoded) (registry : Registry) (text : Text) (images : List ℕ → List ℕ → List ℕ) (mappers : List (List ℕ × (List ℕ → List ℕ))) (r : Result Tables E) → ValidRegistry registry →
    IfOk r (λ tables. AreTablesOf (image_by mappers) registry (text ∷ []) tables) → AgreeWith images mappers registry → IfOk r (λ tables. AreImagesBy images (images_in registry tables))
images_taken law registry text images mappers (Ok tables) valid are agree = taken_more law registry text tables images mappers valid are agree
images_taken law registry text images mappers (Err e) valid are agree = tt

pub taken_either : {E : Type 0} (old new : Corpus) (more : List Image) (images : List ℕ → List ℕ → List ℕ) (r : Result (Unit {0}) E) → OnOk r (new.taken ≡ old.taken ++ more) → OnErr r (new ≡ old) →
    AreImagesBy images more → AreImagesBy images old.taken → AreImagesBy images new.taken
taken_either old new more images (Ok x) ok err its by = subst (AreImagesBy images) (sym ok) (All-append (λ (each : Image). images each.mapper each.value ≡ each.image) old.taken more by its)
taken_either old new more images (Err x) ok err its by = subst (λ (c : Corpus). AreImagesBy images c.taken) (sym err) by
