-- Lines that tell that the shop refused a pattern.
use Rattle.std.proofs.Common.{◌≡◌, ℕ, zero, suc, ◌+◌, ◌^◌, ◌<◌, ◌≤◌, ◌⊎◌, inl, inr, Bool, true, false, cond, List, [], ◌∷◌, ◌++◌, length, Some, Result, Ok, get_or, arith, refl, sym, ◌∙◌, ap, subst, codes}
use Rattle.std.specs.Prelude.{slice_get, ◌||◌}
use Rattle.std.specs.List.{count_by}
use Rattle.std.specs.Fmt.{decimal}
use Rattle.std.specs.Str.{bytes_eq}
use Rattle.std.proofs.lemmas.Fmt.{decimal_injective}
use Rattle.std.proofs.lemmas.List.{append_cancel_left}
use Rattle.std.proofs.lemmas.List.Sums.{sum_by-append, sum_by-cons}
use Rattle.std.proofs.lemmas.Option.{slice_get_within}
use Rattle.std.proofs.lemmas.Slice.Eq.{bytes_eq-Decides}
use Rattle.mt_text_spec.specs.Queries.{Query}
use Rattle.mt_query_spec.specs.Contents.{patterns}
use Rattle.mt_query_spec.specs.Verdicts as verdict
use Rattle.mt_rule_spec.specs.Rules.{grammar_patterns}
use Rattle.mt_pattern_spec.specs.Patterns.{wrapped}
use Rattle.mt_script_spec.specs.Commands as command
use Rattle.mt_script_spec.specs.Commands.{Ask, Command}
use Rattle.mt_script_spec.specs.Script.{Item, Given}
use Rattle.mt_session_spec.specs.World.{World}
use Rattle.mt_session_spec.specs.Settings.{Setting}
use Rattle.mt_session_spec.specs.Scenes.{Scene, scene_of}
use Rattle.mt_session_spec.specs.Gains.{Gained}
use Rattle.mt_session_spec.specs.Refusals as refusal
use Rattle.mt_session_spec.specs.Refusals.{Refusal, refusal_line, pattern_refused_line, failure_line, no_memory_line}
use Rattle.mt_session_spec.specs.Answers.{Answer, Refused, Lines}
use Rattle.mt_session_spec.specs.Patterns.{IsAmong, IsRefused}
use Rattle.mt_session_spec.specs.Asking.{ExceptsQuery, Deep, Refused as RefusedPattern}
use Rattle.mt_session_spec.specs.Files.{IsFile}
use Rattle.mt_session_spec.specs.Ruling.{SetsGrammar, ExceptsRules, Plainly, Deep as DeepRule, Unbuilt, ruling, ruling_by_file}
use Rattle.mt_session_spec.specs.Meaning.{Meaning, Question, LoadsNone, LoadsBehind, Exception, Starved, Blocked, asking, QuestionStarved, QuestionExcepted}
use Rattle.mt_session_spec.specs.Meanings.{question}
use Rattle.mt_session_spec.specs.Steps.{StepBy, Meant, Excepted, Declined, Accepted}
use Rattle.mt_session_spec.specs.Replies.{ItemStep, PatternsOfQuery, PatternsOfRules, AskHas}
use Rattle.mt_session_spec.specs.Laws.{TellsRefusal, NoneTells, OneTells, OneTellsNot, RefusalsAreGained}
use Rattle.mt_session_laws.specs.Lawful.{PatternLaws}
use Rattle.mt_session_laws.proofs.Failures.{no_refused as no_failure}
use Rattle.mt_session_laws.proofs.Ones.{AreOne, same_bytes, same_grammar}
use Rattle.mt_session_laws.proofs.Few.{few_patterns, few_rules}

-- ## Which lines tell of one

abbrev third : List ℕ → ℕ
third line = get_or line 2 0

abbrev fourth : List ℕ → ℕ
fourth line = get_or line 3 0

apart : (a b : ℕ) → a < b → a ≡ b → ⊥
apart a b l h = omega arith

no_refused : (given : Refusal) (k : ℕ) → refusal_line given ≡ pattern_refused_line k → ⊥
no_refused refusal.BadCommand k e = apart 49 50 (omega arith) (ap third e)
no_refused refusal.CutShort k e = apart 49 50 (omega arith) (ap third e)
no_refused refusal.RegistryLate k e = apart 49 50 (omega arith) (ap third e)
no_refused (refusal.NameTaken name) k e = apart 49 50 (omega arith) (ap third e)
no_refused (refusal.NoSuchFile missing) k e = apart 49 50 (omega arith) (ap third e)
no_refused (refusal.FileTooLong long) k e = apart 49 50 (omega arith) (ap third e)
no_refused (refusal.BadRegistry line cause) k e = apart 49 50 (omega arith) (ap third e)
no_refused refusal.NoAttribute k e = apart 49 50 (omega arith) (ap third e)
no_refused (refusal.BadVertical line cause) k e = apart 49 50 (omega arith) (ap third e)
no_refused (refusal.BadQuery at cause) k e = apart 49 50 (omega arith) (ap third e)
no_refused (refusal.UnknownName name) k e = apart 49 50 (omega arith) (ap third e)
no_refused (refusal.BadPattern n) k e = apart 48 49 (omega arith) (ap fourth e)
no_refused refusal.TooManyRows k e = apart 49 50 (omega arith) (sym (ap fourth e))
no_refused refusal.CorpusFull k e = apart 49 51 (omega arith) (sym (ap fourth e))
no_refused refusal.NoGrammar k e = apart 49 53 (omega arith) (sym (ap fourth e))
no_refused (refusal.BadGrammar line cause) k e = apart 49 54 (omega arith) (sym (ap fourth e))
no_refused refusal.NoRelation k e = apart 49 54 (omega arith) (sym (ap fourth e))
no_refused refusal.QueryTooLarge k e = apart 49 55 (omega arith) (sym (ap fourth e))
no_refused (refusal.NoSuchText name) k e = apart 50 51 (omega arith) (sym (ap third e))

not_starved : (k : ℕ) → no_memory_line ≡ pattern_refused_line k → ⊥
not_starved k e = apart 50 51 (omega arith) (sym (ap third e))

same_number : (a b : ℕ) → a < 2 ^ 64 → b < 2 ^ 64 → pattern_refused_line a ≡ pattern_refused_line b → a ≡ b
same_number a b low high e = decimal_injective a b low high (append_cancel_left (codes "! 21 PatternRefused ") (decimal a) (decimal b) e)

-- ## One item

-- how many of these texts are the pattern, alone or between the marks
abbrev refusals : List ℕ → List (List ℕ) → ℕ
refusals pattern texts = count_by (λ text. bytes_eq text pattern || bytes_eq text (wrapped pattern)) texts

or_true : (b : Bool) → (b || true) ≡ true
or_true true = refl
or_true false = refl

is_one : (pattern text : List ℕ) → (text ≡ pattern) ⊎ (text ≡ wrapped pattern) → (bytes_eq text pattern || bytes_eq text (wrapped pattern)) ≡ true
is_one pattern text (inl e) = ap (λ (b : Bool). b || bytes_eq text (wrapped pattern)) ((bytes_eq-Decides text pattern).1 e)
is_one pattern text (inr e) = ap (λ (b : Bool). bytes_eq text pattern || b) ((bytes_eq-Decides text (wrapped pattern)).1 e) ∙ or_true (bytes_eq text pattern)

one_there : (pattern other : List ℕ) (texts : List (List ℕ)) (k : ℕ) → (other ≡ pattern) ⊎ (other ≡ wrapped pattern) → k < length texts → get_or texts k other ≡ other → 0 < refusals pattern texts
one_there pattern other [] k is l e = absurd (omega arith)
one_there pattern other (x ∷ texts) zero is l e =
    let yes = is_one pattern x (subst (λ t. (t ≡ pattern) ⊎ (t ≡ wrapped pattern)) (sym e) is) in
    let one : cond (bytes_eq x pattern || bytes_eq x (wrapped pattern)) 1 0 ≡ suc zero = ap (λ (b : Bool). cond b 1 0) yes in
    let all : refusals pattern (x ∷ texts) ≡ cond (bytes_eq x pattern || bytes_eq x (wrapped pattern)) 1 0 + refusals pattern texts = sum_by-cons (λ (t : List ℕ). cond (bytes_eq t pattern || bytes_eq t (wrapped pattern)) 1 0) x texts in
    omega (arith, one, all)
one_there pattern other (x ∷ texts) (suc k) is l e =
    let more = one_there pattern other texts k is (omega arith) e in
    let all : refusals pattern (x ∷ texts) ≡ cond (bytes_eq x pattern || bytes_eq x (wrapped pattern)) 1 0 + refusals pattern texts = sum_by-cons (λ (t : List ℕ). cond (bytes_eq t pattern || bytes_eq t (wrapped pattern)) 1 0) x texts in
    omega (arith, more, all)

among_there : (pattern : List ℕ) (refused : List (List ℕ)) → IsAmong refused pattern → 0 < refusals pattern refused
among_there pattern refused (inl c) = one_there pattern pattern refused c.0 (inl refl) c.1 c.2
among_there pattern refused (inr c) = one_there pattern (wrapped pattern) refused c.0 (inr refl) c.1 c.2

-- the text behind a front stands at the front's length
stands_at : (before : List (List ℕ)) (text : List ℕ) (behind : List (List ℕ)) → slice_get (before ++ text ∷ behind) (length before) ≡ Some text
stands_at [] text behind = refl
stands_at (x ∷ before) text behind = stands_at before text behind

front_short : (before : List (List ℕ)) (text : List ℕ) (behind : List (List ℕ)) → length before < length (before ++ text ∷ behind)
front_short [] text behind = omega arith
front_short (x ∷ before) text behind = let h = front_short before text behind in omega arith

-- the line of a pattern that was refused tells of the pattern with its number
refused_told : (texts : List (List ℕ)) (pattern : List ℕ) (refused : List (List ℕ)) (k number : ℕ) → length texts < 2 ^ 32 → slice_get texts number ≡ Some pattern →
    pattern_refused_line k ≡ pattern_refused_line (suc number) → IsRefused texts refused k → 0 < refusals pattern refused
refused_told texts pattern refused k number few there e is =
    let stops = is.stops in
    let inside : number < length texts = slice_get_within texts number pattern there in
    let short : length stops.before < length texts = subst (λ (all : List (List ℕ)). length stops.before < length all) (sym stops.split) (front_short stops.before is.text stops.behind) in
    let k_is : k ≡ suc (length stops.before) = stops.number in
    let k_low : k < 2 ^ 64 = omega (arith, short, k_is, few) in
    let n_low : suc number < 2 ^ 64 = omega (arith, inside, few) in
    let numbers : k ≡ suc number = same_number k (suc number) k_low n_low e in
    let at : length stops.before ≡ number = omega (arith, numbers, k_is) in
    let found : slice_get texts (length stops.before) ≡ Some is.text = ap (λ (all : List (List ℕ)). slice_get all (length stops.before)) stops.split ∙ stands_at stops.before is.text stops.behind in
    let same : Some is.text ≡ Some pattern = sym found ∙ ap (slice_get texts) at ∙ there in
    let text_is : is.text ≡ pattern = cc in
    among_there pattern refused (subst (λ (t : List ℕ). IsAmong refused t) text_is is.among)

same_read : (read other : Result Query verdict.Refusal) (a b : Query) → read ≡ Ok a → other ≡ Ok b → read ≡ other → a ≡ b
same_read read other a b r s e = cc

query_told : PatternLaws → (scene : Scene) (cql : List ℕ) (gained : Gained) (line pattern : List ℕ) (texts : List (List ℕ)) (number : ℕ) → PatternsOfQuery scene.registry cql texts → slice_get texts number ≡ Some pattern →
    line ≡ pattern_refused_line (suc number) → ExceptsQuery scene cql gained line → 0 < refusals pattern gained.refused
query_told laws scene cql gained line pattern texts number asked there e (Deep q k r deep) = absurd (no_refused (refusal.BadPattern k) (suc number) e)
query_told laws scene cql gained line pattern texts number asked there e (RefusedPattern q k r refused) =
    let same : q ≡ asked.query = same_read (Ok q) (Ok asked.query) q asked.query refl refl (laws.one_query scene.registry 0 cql (Ok q) (Ok asked.query) r asked.read) in
    let all : texts ≡ patterns q = asked.are ∙ ap patterns (sym same) in
    let few : length (patterns q) ≤ 256 = few_patterns laws scene.registry 0 cql q r in
    refused_told (patterns q) pattern gained.refused k number (omega (arith, few)) (subst (λ (t : List (List ℕ)). slice_get t number ≡ Some pattern) all there) e refused

no_lines : (line : List ℕ) (lines : List (List ℕ)) → Lines lines ≡ Refused line → ⊥
no_lines line lines e = cc

same_line : (a b : List ℕ) → Refused a ≡ Refused b → a ≡ b
same_line a b e = cc

-- what one question tells of a pattern
ask_told : (asked : Question) (world : World) (gained : Gained) (k : ℕ) (Told : Type 0) → ((line : List ℕ) → line ≡ pattern_refused_line k → asked.Excepts gained line → Told) → (new : World) (answer : Answer) →
    answer ≡ Refused (pattern_refused_line k) → StepBy (asking asked world) world gained new answer → Told
ask_told asked world gained k Told tells new answer e (Meant n a (Declined given first)) = absurd (no_refused given k (same_line (refusal_line given) (pattern_refused_line k) e))
ask_told asked world gained k Told tells new answer e (Meant n a (Accepted m b none accepts)) = absurd (no_lines (pattern_refused_line k) accepts.lines (sym accepts.says ∙ e))
ask_told asked world gained k Told tells new answer e (Excepted n a QuestionStarved) = absurd (not_starved k (same_line no_memory_line (pattern_refused_line k) e))
ask_told asked world gained k Told tells new answer e (Excepted n a (QuestionExcepted line x)) = tells line (same_line line (pattern_refused_line k) e) x

question_told : PatternLaws → (scene : Scene) (ask : Ask) (gained : Gained) (pattern : List ℕ) (texts : List (List ℕ)) (number : ℕ) → AskHas scene.registry ask texts → slice_get texts number ≡ Some pattern →
    (line : List ℕ) → line ≡ pattern_refused_line (suc number) → (question scene ask).Excepts gained line → 0 < refusals pattern gained.refused
question_told laws scene (command.Count cql) gained pattern texts number asked there line e x = query_told laws scene cql gained line pattern texts number asked there e x
question_told laws scene (command.Query cql) gained pattern texts number asked there line e x = query_told laws scene cql gained line pattern texts number asked there e x
question_told laws scene (command.Freq attr offset cql) gained pattern texts number asked there line e x = query_told laws scene cql gained line pattern texts number asked there e x.excepts
question_told laws scene (command.Colloc attr first last least cql) gained pattern texts number asked there line e x =
    query_told laws scene cql gained line pattern texts number asked there e x.excepts
question_told laws scene (command.Sketch least most lemma) gained pattern texts number asked there line e x = absurd asked
question_told laws scene (command.Thes most lemma) gained pattern texts number asked there line e x = absurd asked

no_plain : (world : World) (Loads : List ℕ → Type 0) (gained : Gained) (k : ℕ) (new : World) (answer : Answer) → answer ≡ Refused (pattern_refused_line k) → Exception world Loads gained new answer → ⊥
no_plain world Loads gained k new answer e Starved = not_starved k (same_line no_memory_line (pattern_refused_line k) e)
no_plain world Loads gained k new answer e (Blocked file loads there) = no_failure k file (sym (same_line (failure_line file) (pattern_refused_line k) e))

-- what may come in place of a grammar tells of a pattern that was refused
rules_told : PatternLaws → (world : World) (Loads Found : List ℕ → Type 0) → AreOne Found → (gained : Gained) (new : World) (answer : Answer) (pattern : List ℕ) (texts : List (List ℕ)) (number : ℕ) →
    PatternsOfRules world.held.registry Found texts → slice_get texts number ≡ Some pattern → answer ≡ Refused (pattern_refused_line (suc number)) → ExceptsRules world Loads Found gained new answer →
    0 < refusals pattern gained.refused
rules_told laws world Loads Found one gained new answer pattern texts number asked there e (Plainly a x) = absurd (no_plain world Loads gained (suc number) new a e x)
rules_told laws world Loads Found one gained new answer pattern texts number asked there e (DeepRule grammar k gives deep) =
    absurd (no_refused (refusal.BadPattern k) (suc number) (same_line (refusal_line (refusal.BadPattern k)) (pattern_refused_line (suc number)) e))
rules_told laws world Loads Found one gained new answer pattern texts number asked there e (Unbuilt grammar k gives refused) =
    let same = same_grammar laws.one_grammar world.held.registry Found one grammar asked.grammar gives asked.gives in
    let all : texts ≡ grammar_patterns grammar = asked.are ∙ ap grammar_patterns (sym same) in
    let few = few_rules laws world.held.registry gives.bytes grammar gives.read in
    refused_told (grammar_patterns grammar) pattern gained.refused k number (omega (arith, few)) (subst (λ (t : List (List ℕ)). slice_get t number ≡ Some pattern) all there)
    (same_line (pattern_refused_line k) (pattern_refused_line (suc number)) e) refused

ruling_told : PatternLaws → (world : World) (meant : Meaning) (Loads Found : List ℕ → Type 0) → AreOne Found → meant.Accepts ≡ SetsGrammar world Found → meant.Excepts ≡ ExceptsRules world Loads Found →
    (gained : Gained) (new : World) (answer : Answer) (pattern : List ℕ) (texts : List (List ℕ)) (number : ℕ) → PatternsOfRules world.held.registry Found texts → slice_get texts number ≡ Some pattern →
    answer ≡ Refused (pattern_refused_line (suc number)) → StepBy meant world gained new answer → 0 < refusals pattern gained.refused
ruling_told laws world meant Loads Found one accepts excepts gained new answer pattern texts number asked there e (Meant n a (Declined given first)) =
    absurd (no_refused given (suc number) (same_line (refusal_line given) (pattern_refused_line (suc number)) e))
ruling_told laws world meant Loads Found one accepts excepts gained new answer pattern texts number asked there e (Meant n a (Accepted m b none x)) =
    let set : SetsGrammar world Found m b = rw accepts at x in absurd (no_lines (pattern_refused_line (suc number)) _ (sym set.says ∙ e))
ruling_told laws world meant Loads Found one accepts excepts gained new answer pattern texts number asked there e (Excepted n a x) =
    rules_told laws world Loads Found one gained n a pattern texts number asked there e (rw excepts at x)

item_told : PatternLaws → (setting : Setting) (world : World) (item : Item) (gained : Gained) (new : World) (answer : Answer) (pattern : List ℕ) → TellsRefusal pattern world item answer → ItemStep setting world item gained new answer →
    0 < refusals pattern gained.refused
item_told laws setting world (Given (command.Asks ask)) gained new answer pattern tells s =
    let scene = scene_of setting world.held in
    ask_told (question scene ask) world gained (suc tells.number) (0 < refusals pattern gained.refused) (question_told laws scene ask gained pattern tells.texts tells.number tells.asked tells.there) new answer tells.told s
item_told laws setting world (Given (command.Rules body)) gained new answer pattern tells s =
    ruling_told laws world (ruling setting world body) LoadsNone (λ bytes. bytes ≡ body) (λ a b f g. f ∙ sym g) refl refl gained new answer pattern tells.texts tells.number tells.asked tells.there tells.told s
item_told laws setting world (Given (command.Grammar file)) gained new answer pattern tells s =
    ruling_told laws world (ruling_by_file setting world file) (LoadsBehind [] file) (IsFile world.files file) (same_bytes world.files file) refl refl gained new answer pattern tells.texts tells.number
    tells.asked tells.there tells.told s
item_told laws setting world item gained new answer pattern tells s = absurd tells.asked

-- ## Many items

refusals_split : (pattern : List ℕ) (here later : List (List ℕ)) → refusals pattern (here ++ later) ≡ refusals pattern here + refusals pattern later
refusals_split pattern here later = sum_by-append (λ (t : List ℕ). cond (bytes_eq t pattern || bytes_eq t (wrapped pattern)) 1 0) here later

pub refusals_gained : PatternLaws → RefusalsAreGained
refusals_gained laws setting [] known gained answers pattern count (NoneTells at) = omega arith
refusals_gained laws setting (item ∷ items) known gained answers pattern count (OneTells i is at next here later answer more rest s tells told) =
    let one = item_told laws setting s.world item here s.new answer pattern tells s.step in
    let more_told = refusals_gained laws setting items next later more pattern rest told in
    let split = refusals_split pattern here.refused later.refused in
    omega (arith, one, more_told, split)
refusals_gained laws setting (item ∷ items) known gained answers pattern count (OneTellsNot i is at next here later answer more rest s told) =
    let more_told = refusals_gained laws setting items next later more pattern rest told in
    let split = refusals_split pattern here.refused later.refused in
    omega (arith, more_told, split)
