-- What the replies to `registry` mean.
use Rattle.std.proofs.Common.{◌≡◌, ◌⊎◌, inl, inr, ℕ, Bool, Option, None, true, false, if◌then◌else◌, map, subst, List, [], ◌∷◌, ◌++◌, refl, sym, ◌∙◌, ap, append-nil}
use Rattle.mt_text_spec.specs.Lines.{closed}
use Rattle.mt_text_spec.specs.Registries.{Registry}
use Rattle.mt_text_spec.specs.Queries.{Grammar}
use Rattle.mt_shelf_spec.specs.Files.{Files}
use Rattle.mt_file_spec.specs.RegistryFile.{ReadsRegistry as Reads, FirstRegistryFault, LacksBase, RegistryCause}
use Rattle.mt_registry.specs.RegistryLaws.{AreApart}
use Rattle.mt_script_spec.specs.Commands.{Registry as RegistryCommand}
use Rattle.mt_session_spec.specs.World.{Held}
use Rattle.std.specs.Str.{bytes_eq}
use Rattle.std.proofs.lemmas.List.Elements.{All-nil}
use Rattle.mt_corpus_spec.specs.Images.{Corpus, Image}
use Rattle.mt_corpus.specs.Keeping.{AgreeWith, firsts, is_named}
use Rattle.mt_segment.specs.Mappers.{AreThere, named, image_by as by_segment}
use Rattle.mt_shell.specs.Serves.{Kept, Serves, kept}
use Rattle.mt_shell.proofs.Adding.{called_named}
use Rattle.mt_session_spec.specs.Settings.{Setting, mapper_names, images_of, image_by as by_setting}
use Rattle.mt_session_spec.specs.Gains.{Gained, none_gained}
use Rattle.mt_session_spec.specs.Refusals.{Refusal, RegistryLate, NoSuchFile, FileTooLong, BadRegistry, NoAttribute, refusal_line, failure_line, no_memory_line, ok_line}
use Rattle.mt_session_spec.specs.Checks.{Passes, FirstStands}
use Rattle.mt_session_spec.specs.Answers as answers
use Rattle.mt_session_spec.specs.Files.{IsAbsent, IsTooLong, IsFile, file_checks}
use Rattle.mt_session_spec.specs.Meaning.{Starved, Blocked}
use Rattle.mt_session_spec.specs.Registering.{IsLate, IsNoRegistry, BadLine as NoRegistryLine, Baseless as NoRegistryBase, registry_front, registering, with_registry}
use Rattle.mt_session_spec.specs.Steps.{StepBy, Meant, Excepted, Declined, Accepted}
use Rattle.mt_answer.specs.declared.reply.Reply.{Reply}
use Rattle.mt_answer.specs.declared.reply.Reply.TheVariants.{Lines, NoMemory}
use Rattle.mt_answer.specs.Replies.{SaysLines, SaysNoMemory, Given}
use Rattle.mt_shell.specs.Answers.{Answers, AnswersAlone, Sets, Set, SetStarved, SetsRegistry, Registers, BadLine, Baseless, Good, Unread, ReadsRegistry, over}
use Rattle.mt_shell.proofs.Meanings.{declined, kept_from, starved, no_cause, first_behind, none_both}
use Rattle.mt_shell.proofs.Shelves.{same_bytes, not_absent, file_is_there, at_file}

-- a registry that comes too late
pub late : (setting : Setting) (held : Held) (file : List ℕ) (reply : Reply) → IsLate held → Given (answers.Refused (refusal_line RegistryLate)) reply → AnswersAlone setting held (RegistryCommand file) reply held
late setting held file reply l g files =
    declined (registering setting (over held files) file) (over held files) none_gained RegistryLate reply (inl (record { is = refl; there = l })) Starved g

pub absent : (setting : Setting) (held : Held) (file : List ℕ) (reply : Reply) (files : Files) → (IsLate held → ⊥) → IsAbsent files file → Given (answers.Refused (refusal_line (NoSuchFile file))) reply →
    Answers setting (over held files) (RegistryCommand file) none_gained reply (over held files)
absent setting held file reply files free a g =
    declined (registering setting (over held files) file) (over held files) none_gained (NoSuchFile file) reply (inr (no_cause free, inl (record { is = refl; there = a }))) Starved g

pub too_long : (setting : Setting) (held : Held) (file : List ℕ) (reply : Reply) (files : Files) → (IsLate held → ⊥) → IsTooLong files file → Given (answers.Refused (refusal_line (FileTooLong file))) reply →
    Answers setting (over held files) (RegistryCommand file) none_gained reply (over held files)
too_long setting held file reply files free t g =
    declined (registering setting (over held files) file) (over held files) none_gained (FileTooLong file) reply
    (inr (no_cause free, inr (no_cause (not_absent files file t.bytes t.found), inl (record { is = refl; there = t })))) Starved g

pub failed_at : (setting : Setting) (held : Held) (file : List ℕ) (reply : Reply) (files : Files) → (IsLate held → ⊥) → Given (answers.Refused (failure_line file)) reply →
    Answers setting (over held files) (RegistryCommand file) (record { failed = file ∷ []; refused = [] }) reply (over held files)
failed_at setting held file reply files free g =
    let gained : Gained = record { failed = file ∷ []; refused = [] } in
    kept_from (registering setting (over held files) file) (over held files) gained file reply (Blocked file (record { is = refl; reached = (no_cause free, tt) }) (at_file file)) Starved g

pub starved_at : (setting : Setting) (held : Held) (file : List ℕ) (files : Files) (gained : Gained) → Answers setting (over held files) (RegistryCommand file) gained NoMemory (over held files)
starved_at setting held file files gained = starved (registering setting (over held files) file) (over held files) gained Starved

-- ## The bytes of the file

-- in time, and where the file is there, what is said of its bytes is the first
fault_first : (setting : Setting) (held : Held) (file bytes : List ℕ) (files : Files) (refusal : Refusal) → (IsLate held → ⊥) → IsFile files file bytes → IsNoRegistry setting (over held files) file refusal →
    FirstStands (registering setting (over held files) file).checks refusal
fault_first setting held file bytes files refusal free f n =
    first_behind (registry_front (over held files) ++ file_checks files file) (IsNoRegistry setting (over held files) file ∷ []) refusal (no_cause free, file_is_there files file bytes f) (inl n)

no_fault : (apart : AreApart) (setting : Setting) (held : Held) (file bytes : List ℕ) (files : Files) (registry : Registry) → IsFile files file bytes → Reads (mapper_names setting) bytes registry →
    Passes (IsNoRegistry setting (over held files) file)
no_fault apart setting held file bytes files registry f r refusal (NoRegistryLine other line cause g fault) =
    apart.read_or_faulty (mapper_names setting) bytes registry line cause r (rw (same_bytes files file other bytes g.found f.found) at fault)
no_fault apart setting held file bytes files registry f r refusal (NoRegistryBase other g lacks) =
    apart.read_or_baseless (mapper_names setting) bytes registry r (rw (same_bytes files file other bytes g.found f.found) at lacks)

registers_by : (apart : AreApart) (setting : Setting) (held new : Held) (file bytes : List ℕ) (files : Files) (gained : Gained) (answer : answers.Answer) → (IsLate held → ⊥) → IsFile files file bytes → Registers setting held bytes answer new →
    StepBy (registering setting (over held files) file) (over held files) gained (over new files) answer
registers_by apart setting held new file bytes files gained answer free f (BadLine line cause fault) =
    Meant (over held files) (answers.Refused (refusal_line (BadRegistry line cause)))
    (Declined (BadRegistry line cause) (fault_first setting held file bytes files (BadRegistry line cause) free f (NoRegistryLine bytes line cause f fault)))
registers_by apart setting held new file bytes files gained answer free f (Baseless lacks) =
    Meant (over held files) (answers.Refused (refusal_line NoAttribute)) (Declined NoAttribute (fault_first setting held file bytes files NoAttribute free f (NoRegistryBase bytes f lacks)))
registers_by apart setting held new file bytes files gained answer free f (Good registry r) =
    Meant (over (with_registry held registry) files) (answers.Lines (ok_line ∷ [])) (Accepted (over (with_registry held registry) files) (answers.Lines (ok_line ∷ []))
    (none_both (registry_front (over held files) ++ file_checks files file) (IsNoRegistry setting (over held files) file ∷ []) (no_cause free, file_is_there files file bytes f)
    (no_fault apart setting held file bytes files registry f r, tt))
    (record { bytes = bytes; found = f; registry = registry; read = r; changed = refl; says = refl }))
registers_by apart setting held new file bytes files gained answer free f Unread = Excepted (over held files) (answers.Refused no_memory_line) Starved

pub whole : (apart : AreApart) (setting : Setting) (held new : Held) (file bytes : List ℕ) (reply : Reply) (files : Files) → (IsLate held → ⊥) → IsFile files file bytes → ReadsRegistry setting held bytes reply new →
    Answers setting (over held files) (RegistryCommand file) none_gained reply (over new files)
whole apart setting held new file bytes reply files free f r = record { answer = r.answer; says = r.says; holds = registers_by apart setting held new file bytes files none_gained r.answer free f r.holds }

-- ## Parts

given_by : (setting : Setting) (held : Held) (bytes line : List ℕ) (reply : Reply) → Registers setting held bytes (answers.Refused line) held → Given (answers.Refused line) reply → ReadsRegistry setting held bytes reply held
given_by setting held bytes line reply r g = record { answer = g.answer; says = g.says; holds = by g.answer g.holds }
  where
    by : (answer : answers.Answer) → (answer ≡ answers.Refused line) ⊎ (answer ≡ answers.Refused no_memory_line) → Registers setting held bytes answer held
    by answer (inl e) = rw e r
    by answer (inr e) = rw e Unread

pub bad_line : (setting : Setting) (held : Held) (bytes : List ℕ) (line : ℕ) (cause : RegistryCause) (reply : Reply) → FirstRegistryFault (mapper_names setting) bytes line cause →
    Given (answers.Refused (refusal_line (BadRegistry line cause))) reply → ReadsRegistry setting held bytes reply held
bad_line setting held bytes line cause reply f g = given_by setting held bytes (refusal_line (BadRegistry line cause)) reply (BadLine line cause f) g

pub baseless : (setting : Setting) (held : Held) (bytes : List ℕ) (reply : Reply) → LacksBase (mapper_names setting) bytes → Given (answers.Refused (refusal_line NoAttribute)) reply → ReadsRegistry setting held bytes reply held
baseless setting held bytes reply l g = given_by setting held bytes (refusal_line NoAttribute) reply (Baseless l) g

pub good : (setting : Setting) (held new : Held) (bytes : List ℕ) (registry : Registry) (reply : Reply) → Reads (mapper_names setting) bytes registry → SetsRegistry held registry reply new → ReadsRegistry setting held bytes reply new
good setting held new bytes registry reply r s = record { answer = s.answer; says = s.says; holds = by s.answer new s.holds }
  where
    by : (answer : answers.Answer) (changed : Held) → Sets held registry answer changed → Registers setting held bytes answer changed
    by answer changed Set = Good registry r
    by answer changed SetStarved = Unread

pub unread : (setting : Setting) (held : Held) (bytes : List ℕ) → ReadsRegistry setting held bytes NoMemory held
unread setting held bytes = record { answer = answers.Refused no_memory_line; says = SaysNoMemory; holds = Unread }

-- a corpus of no texts under this registry
abbrev bare : Registry → Corpus
bare registry = record { registry = registry; groups = []; taken = [] }

pub registry_changed : (state : Kept) (accepted : Bool) (grammar : Option Grammar) (corpus none : Corpus) (registry : Registry) → kept accepted grammar corpus ≡ state → none ≡ bare registry → (kept true None none).held ≡ with_registry state.held registry
registry_changed state accepted grammar corpus none registry v n = ap (λ (c : Corpus). (kept true None c).held) n ∙ ap (λ (k : Kept). with_registry k.held registry) v

pub same_image : (mappers : List (List ℕ × (List ℕ → List ℕ))) (name value : List ℕ) → by_setting mappers name value ≡ by_segment mappers name value
same_image [] name value = refl
same_image (mapper ∷ mappers) name value = by (bytes_eq name mapper.0) (same_image mappers name value)
  where
    by : (b : Bool) → by_setting mappers name value ≡ by_segment mappers name value → (if b then mapper.1 else by_setting mappers name) value ≡ (if b then mapper.1 else by_segment mappers name) value
    by true e = refl
    by false e = e

pub not_yet : true ≡ false → ⊥
not_yet e = cc

pub serves_registry : (setting : Setting) (old new : List (List ℕ × (List ℕ → List ℕ))) (state : Kept) (registry : Registry) (none : Corpus) → none ≡ bare registry → Serves setting old state → state.held.accepted ≡ false →
    AreThere (map (λ mapper. mapper.0) new) registry.attrs → AgreeWith (by_segment old) new registry → new ≡ firsts (λ mapper. mapper.0) (is_named registry) [] old → Serves setting new (kept true None none)
serves_registry setting old new state registry none n s early there agree left = subst (λ (c : Corpus). Serves setting new (kept true None c)) (sym n) (record {
  all = λ e. absurd (not_yet e);
  only = λ e. left ∙ ap (firsts (λ (mapper : List ℕ × (List ℕ → List ℕ)). mapper.0) (is_named registry) []) (s.all early);
  there = there;
  agree = record { each = λ attr there some value. ap (λ mappers. by_setting mappers attr.mapper value) (sym (s.all early)) ∙ same_image old attr.mapper value ∙ agree.each attr there some value };
  taken = All-nil (λ (each : Image). images_of setting each.mapper each.value ≡ each.image);
})

pub names_there : {M : Type 0} (called : M → List ℕ) (image : M → List ℕ → List ℕ) (mappers : List M) (registry : Registry) → AreThere (map called mappers) registry.attrs → AreThere (map (λ mapper. mapper.0) (named called image mappers)) registry.attrs
names_there called image mappers registry t = rw (called_named called image mappers) t

-- the names of the mappers at hand are those of the setting
pub names_are : {M : Type 0} (called : M → List ℕ) (image : M → List ℕ → List ℕ) (mappers : List M) (setting : Setting) (state : Kept) → Serves setting (named called image mappers) state → state.held.accepted ≡ false →
    map called mappers ≡ mapper_names setting
names_are called image mappers setting state s early = sym (called_named called image mappers) ∙ ap (map (λ mapper. mapper.0)) (s.all early)

pub not_late : (held : Held) → (IsLate held → ⊥) → held.accepted ≡ false
not_late held free = by held.accepted refl
  where
    by : (b : Bool) → held.accepted ≡ b → held.accepted ≡ false
    by true e = absurd (free (inl e))
    by false e = e

pub set : (held new : Held) (registry : Registry) (line : List ℕ) → line ≡ closed ok_line → new ≡ with_registry held registry → SetsRegistry held registry (Lines line) new
set held new registry line e is = record {
  answer = answers.Lines (ok_line ∷ []);
  says = SaysLines line (ok_line ∷ []) (e ∙ sym (append-nil (closed ok_line)));
  holds = rw is Set;
}

pub set_not : (held : Held) (registry : Registry) → SetsRegistry held registry NoMemory held
set_not held registry = record { answer = answers.Refused no_memory_line; says = SaysNoMemory; holds = SetStarved }
