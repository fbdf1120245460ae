-- Many items: from one command to a script.
use Rattle.std.proofs.Common.{◌≡◌, ℕ, suc, ◌≤◌, List, [], ◌∷◌, ◌++◌, Some, refl, sym, ◌∙◌, ap, subst, arith}
use Rattle.std.specs.List.{All, count_by}
use Rattle.std.specs.Str.{bytes_eq}
use Rattle.mt_script_spec.specs.Script.{Item, Given, Bad, CutShort}
use Rattle.mt_shelf_spec.specs.Files.{Files}
use Rattle.mt_session_spec.specs.World.{World, Held, ValidHeld, first_held}
use Rattle.mt_session_spec.specs.Settings.{Setting, images_of}
use Rattle.mt_session_spec.specs.Gains.{Gained, none_gained, gained_then}
use Rattle.mt_session_spec.specs.Refusals.{Refusal, refusal_line, no_memory_line, BadCommand, CutShort as CutShortRefusal}
use Rattle.mt_session_spec.specs.Answers.{Answer, Refused}
use Rattle.mt_session_spec.specs.Scenes.{Scene, scene_of}
use Rattle.mt_session_spec.specs.Steps.{Meant, AskStep}
use Rattle.mt_session_spec.specs.Replies.{ItemStep, FineItem, IsNoCommand, Known, known_after, Replies, NoReplies, ThenReply, AreAnswers, NoAnswers, ThenAnswer, NoneStarved, AsksDeep, NoneDeep}
use Rattle.mt_session_spec.specs.Laws.{IsSaidItem, SomeMeaning, OneMeaning, StepsKeepValid, QuestionsSeeTheCorpus, SomeAnswers, OneAnswers, RepliesAreAnswers, FailuresAreGained, told_failures}
use Rattle.mt_session_laws.proofs.Failures.{no_failure, one_untold, told_then, gained_split}
use Rattle.mt_session_laws.proofs.Meanings.{fine_step, told_step}
use Rattle.mt_session_laws.proofs.Worlds.{first_valid}

head_of : (P : Item → Type 0) (item : Item) (items : List Item) → All P (item ∷ items) → P item
head_of P item items all = all 0 item (omega arith)

tail_of : (P : Item → Type 0) (item : Item) (items : List Item) → All P (item ∷ items) → All P items
tail_of P item items all = λ k d low. all (suc k) d (omega arith)

-- ## One item

no_command : (refusal : Refusal) (world new other : World) (gained more : Gained) (answer another : Answer) → IsNoCommand refusal world gained new answer → IsNoCommand refusal world more other another → (new ≡ other) × (answer ≡ another)
no_command refusal world new other gained more answer another a b = (a.same ∙ sym b.same, a.says ∙ sym b.says)

one_item : OneMeaning → (setting : Setting) (world : World) (item : Item) → ValidHeld world.held → IsSaidItem item → (new other : World) (answer another : Answer) → FineItem setting world item new answer →
    FineItem setting world item other another → (new ≡ other) × (answer ≡ another)
one_item law setting world (Given command) valid said new other answer another a b = law setting world command valid said new other answer another a b
one_item law setting world Bad valid said new other answer another a b = no_command BadCommand world new other none_gained none_gained answer another a b
one_item law setting world CutShort valid said new other answer another a b = no_command CutShortRefusal world new other none_gained none_gained answer another a b

some_item : SomeMeaning → (setting : Setting) (world : World) (item : Item) → ValidHeld world.held → IsSaidItem item → ((new : World) (answer : Answer) → FineItem setting world item new answer → ⊥) → ⊥
some_item law setting world (Given command) valid said k = law setting world command valid said k
some_item law setting world Bad valid said k = k world (Refused (refusal_line BadCommand)) (record { none = refl; same = refl; says = refl })
some_item law setting world CutShort valid said k = k world (Refused (refusal_line CutShortRefusal)) (record { none = refl; same = refl; says = refl })

item_keeps : StepsKeepValid → (setting : Setting) (world : World) (item : Item) → ValidHeld world.held → IsSaidItem item → (new : World) (answer : Answer) → FineItem setting world item new answer → ValidHeld new.held
item_keeps law setting world (Given command) valid said new answer f = law setting world command none_gained valid said new answer (Meant new answer f)
item_keeps law setting world Bad valid said new answer f = subst (λ (w : World). ValidHeld w.held) (sym f.same) valid
item_keeps law setting world CutShort valid said new answer f = subst (λ (w : World). ValidHeld w.held) (sym f.same) valid

fine_item : (setting : Setting) (world : World) (item : Item) (gained : Gained) (new : World) (answer : Answer) → (AsksDeep world item → ⊥) → gained ≡ none_gained → (answer ≡ Refused no_memory_line → ⊥) →
    ItemStep setting world item gained new answer → FineItem setting world item new answer
fine_item setting world (Given command) gained new answer none e ne s = fine_step setting world command gained new answer none e ne s
fine_item setting world Bad gained new answer none e ne s = record { none = refl; same = s.same; says = s.says }
fine_item setting world CutShort gained new answer none e ne s = record { none = refl; same = s.same; says = s.says }

item_told : (setting : Setting) (world : World) (item : Item) (gained : Gained) (new : World) (answer : Answer) (file : List ℕ) → ItemStep setting world item gained new answer →
    told_failures file (answer ∷ []) ≤ count_by (λ name. bytes_eq name file) gained.failed
item_told setting world (Given command) gained new answer file s = told_step setting world command gained new answer file s
item_told setting world Bad gained new answer file s =
    let none : told_failures file (answer ∷ []) ≡ 0 = ap (λ (a : Answer). told_failures file (a ∷ [])) s.says ∙ one_untold (refusal_line BadCommand) file (no_failure BadCommand file) in omega (arith, none)
item_told setting world CutShort gained new answer file s =
    let none : told_failures file (answer ∷ []) ≡ 0 = ap (λ (a : Answer). told_failures file (a ∷ [])) s.says ∙ one_untold (refusal_line CutShortRefusal) file (no_failure CutShortRefusal file) in omega (arith, none)

-- ## Questions

pub questions_see : QuestionsSeeTheCorpus
questions_see setting held other ask r c g gained answer a =
    let same : scene_of setting held ≡ scene_of setting other = λ i. record { images = images_of setting; registry = r i; corpus = c i; grammar = g i } in
    subst (λ (scene : Scene). AskStep scene ask gained answer) same a

-- ## Many items

pub some_answers : SomeMeaning → StepsKeepValid → SomeAnswers
some_answers some keep setting [] world valid said k = k [] world (NoAnswers world)
some_answers some keep setting (item ∷ items) world valid said k =
    let here = head_of IsSaidItem item items said in
    some_item some setting world item valid here (λ new answer f.
    some_answers some keep setting items new (item_keeps keep setting world item valid here new answer f) (tail_of IsSaidItem item items said) (λ answers last more.
    k (answer ∷ answers) last (ThenAnswer item items world new last answer answers f more)))

pub one_answers : OneMeaning → StepsKeepValid → OneAnswers
one_answers one keep setting [] world valid said answers others last other (NoAnswers w) (NoAnswers v) = (refl, refl)
one_answers one keep setting (item ∷ items) world valid said answers others last other (ThenAnswer i is w next l answer more f rest) (ThenAnswer j js v next' m answer' more' g rest') =
    let here = head_of IsSaidItem item items said in
    let same = one_item one setting world item valid here next next' answer answer' f g in
    let later = one_answers one keep setting items next' (item_keeps keep setting world item valid here next' answer' g) (tail_of IsSaidItem item items said) more more' last other
    (subst (λ w. AreAnswers setting items w more last) same.0 rest) rest' in
    (ap (λ (a : Answer). a ∷ more) same.1 ∙ ap (λ (rest : List Answer). answer' ∷ rest) later.0, later.1)

-- ## Replies

abbrev known_by : Held → Files → Known
known_by held files = record { held = held; files = Some files }

world_of : (known : World) (held : Held) (files : Files) → known.held ≡ held → known.files ≡ files → known ≡ record { held = held; files = files }
world_of known held files h f = ap (λ x. record { held = x; files = known.files }) h ∙ ap (λ x. record { held = held; files = x }) f

record Replied (setting : Setting) (items : List Item) (held : Held) (files : Files) (answers : List Answer) : Type 0 where
  pub last : World
  pub are : AreAnswers setting items (record { held = held; files = files }) answers last

first_starved : (answer : Answer) (answers : List Answer) → NoneStarved (answer ∷ answers) → (answer ≡ Refused no_memory_line → ⊥)
first_starved answer answers all = all 0 answer (omega arith)

later_starved : (answer : Answer) (answers : List Answer) → NoneStarved (answer ∷ answers) → NoneStarved answers
later_starved answer answers all = λ k d low. all (suc k) d (omega arith)

no_strings : (xs ys : List (List ℕ)) → xs ++ ys ≡ [] → (xs ≡ []) × (ys ≡ [])
no_strings [] ys e = (refl, e)
no_strings (x ∷ xs) ys e = cc

none_here : (here later : Gained) → gained_then here later ≡ none_gained → (here ≡ none_gained) × (later ≡ none_gained)
none_here here later e =
    let f = no_strings here.failed later.failed (ap (λ (g : Gained). g.failed) e) in
    let r = no_strings here.refused later.refused (ap (λ (g : Gained). g.refused) e) in
    let made : List (List ℕ) → List (List ℕ) → Gained = λ failed refused. record { failed = failed; refused = refused } in
    (ap (λ x. made x here.refused) f.0 ∙ ap (λ x. made [] x) r.0, ap (λ x. made x later.refused) f.1 ∙ ap (λ x. made [] x) r.1)

replied : (setting : Setting) (items : List Item) (known : Known) (held : Held) (files : Files) (gained : Gained) (answers : List Answer) (last : Known) → known ≡ known_by held files → gained ≡ none_gained → NoneStarved answers → NoneDeep setting items (record { held = held; files = files }) →
    Replies setting items known gained answers last → Replied setting items held files answers
replied setting [] known held files gained answers last k e ne none (NoReplies at) = record { last = record { held = held; files = files }; are = NoAnswers (record { held = held; files = files }) }
replied setting (item ∷ items) known held files gained answers last k e ne none (ThenReply i is at next l here later answer more s r) =
    let parts = none_here here later e in
    let held_is : (s.world).held ≡ held = (s.may_be).held ∙ ap (λ (x : Known). x.held) k in
    let files_are : (s.world).files ≡ files = (s.may_be).files files (ap (λ (x : Known). x.files) k) in
    let world_is = world_of s.world held files held_is files_are in
    let began : World = record { held = held; files = files } in
    let step = fine_item setting began item here s.new answer none.0 parts.0 (first_starved answer more ne) (subst (λ w. ItemStep setting w item here s.new answer) world_is s.step) in
    let next_is : next ≡ known_by (s.new).held (s.new).files = s.behind ∙ ap (λ (x : Known). known_after x s.new) k in
    let rest = replied setting items next (s.new).held (s.new).files later more last next_is parts.1 (later_starved answer more ne) (none.1 s.new answer step) r in
    record {
      last = rest.last;
      are = ThenAnswer item items began s.new rest.last answer more step rest.are;
    }

pub replies_answers : OneAnswers → RepliesAreAnswers
replies_answers law setting items files answers last said r ne none =
    let got = replied setting items (known_by first_held files) first_held files none_gained answers last refl refl ne none r in
    record {
      last = got.last;
      are = got.are;
      one = λ others other a. (law setting items (record { held = first_held; files = files }) first_valid said others answers other got.last a got.are).0;
    }

pub failures_gained : FailuresAreGained
failures_gained setting [] known gained answers last (NoReplies at) file = omega arith
failures_gained setting (item ∷ items) known gained answers last (ThenReply i is at next l here later answer more s r) file =
    let one = item_told setting s.world item here s.new answer file s.step in
    let rest = failures_gained setting items next later more last r file in
    let told = told_then answer more file in
    let split = gained_split here later file in
    omega (arith, one, rest, told, split)
