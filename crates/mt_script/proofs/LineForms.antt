-- Lines: each is read exactly where its words have a form.
use Rattle.std.proofs.Common.{◌≡◌, ℕ, Bool, true, false, if◌then◌else◌, ◌≤◌, length, List, ◌∷◌, ◌++◌, codes, Option, Some, None, refl, sym, ◌∙◌, ap}
use Rattle.std.specs.Prelude.{nat_eq}
use Rattle.std.specs.Cmp.Lexicographic.{pointwise}
use Rattle.mt_script_spec.specs.Commands.{Ask, Count, Query, Freq, Colloc, Sketch, Thes, Command, Registry, Text, Add, Generate, Asks, Grammar, Rules, Merge, Batch, Segments, Save, Load, Quit, Remove, Subcorpus, Subcount, Keywords, Partner, Header, Lone, TextHead, RulesHead, BatchHead, HasAskForm, HasLoneForm, HasForm, line_bytes_limit, IsHeader, IsAsked}
use Rattle.std.specs.Str.{IsUtf8}
use Rattle.std.proofs.lemmas.Option.{none-some}
use Rattle.mt_script.specs.declared.keyword.Keyword.{Keyword}
use Rattle.mt_script.specs.declared.keyword.Keyword.TheVariants as first
use Rattle.mt_script.specs.Reading.{cut, keyword_at, count_at, query_at, freq_at, colloc_at, sketch_at, thes_at, ask_at, asked_at, words_at, word_at, line_from, line_at, registry_at, text_at, add_at, generate_at, grammar_at, rules_at, merge_at, batch_at, save_at, load_at, remove_at, subcorpus_at, subcount_at, keywords_at, partner_at}
use Rattle.mt_script.proofs.Forms.{then_some, same, spelled, cut_parts}
use Rattle.mt_script.proofs.AskForms.{count_gives, count_back, query_gives, query_back, freq_gives, freq_back, colloc_gives, colloc_back, sketch_gives, sketch_back, thes_gives, thes_back}
use Rattle.mt_script.proofs.HeadForms.{registry_gives, registry_back, text_gives, text_back, add_gives, add_back, generate_gives, generate_back, grammar_gives, grammar_back, rules_gives, rules_back, merge_gives, merge_back, batch_gives, batch_back, merging_batch_back, save_gives, save_back, load_gives, load_back, remove_gives, remove_back, subcorpus_gives, subcorpus_back, subcount_gives, subcount_back, keywords_gives, keywords_back, partner_gives, partner_back}

-- ## First words

abbrev spelling : Keyword → List ℕ
spelling first.Registry = codes "registry"
spelling first.Text = codes "text"
spelling first.Add = codes "add"
spelling first.Generate = codes "generate"
spelling first.Count = codes "count"
spelling first.Query = codes "query"
spelling first.Freq = codes "freq"
spelling first.Colloc = codes "colloc"
spelling first.Grammar = codes "grammar"
spelling first.Rules = codes "rules"
spelling first.Sketch = codes "sketch"
spelling first.Thes = codes "thes"
spelling first.Merge = codes "merge"
spelling first.Batch = codes "batch"
spelling first.Segments = codes "segments"
spelling first.Save = codes "save"
spelling first.Open = codes "open"
spelling first.Quit = codes "quit"
spelling first.Remove = codes "remove"
spelling first.Subcorpus = codes "subcorpus"
spelling first.Subcount = codes "subcount"
spelling first.Keywords = codes "keywords"
spelling first.Partner = codes "partner"

named : (word text : List ℕ) (here : Keyword) (others : Option Keyword) (keyword : Keyword) → text ≡ spelling here → (others ≡ Some keyword → word ≡ spelling keyword) →
    (if pointwise nat_eq word text then Some here else others) ≡ Some keyword → word ≡ spelling keyword
named word text here others keyword s more e = go (pointwise nat_eq word text) refl e
  where
    go : (t : Bool) → pointwise nat_eq word text ≡ t → (if t then Some here else others) ≡ Some keyword → word ≡ spelling keyword
    go true t e = spelled word text t ∙ s ∙ ap spelling (same _ _ e)
    go false t e = more e

keyword_gives : (word : List ℕ) (keyword : Keyword) → keyword_at word ≡ Some keyword → word ≡ spelling keyword
unfolding keyword_at
keyword_gives word keyword =
    named word (codes "registry") first.Registry _ keyword refl (
    named word (codes "text") first.Text _ keyword refl (
    named word (codes "add") first.Add _ keyword refl (
    named word (codes "generate") first.Generate _ keyword refl (
    named word (codes "count") first.Count _ keyword refl (
    named word (codes "query") first.Query _ keyword refl (
    named word (codes "freq") first.Freq _ keyword refl (
    named word (codes "colloc") first.Colloc _ keyword refl (
    named word (codes "grammar") first.Grammar _ keyword refl (
    named word (codes "rules") first.Rules _ keyword refl (
    named word (codes "sketch") first.Sketch _ keyword refl (
    named word (codes "thes") first.Thes _ keyword refl (
    named word (codes "merge") first.Merge _ keyword refl (
    named word (codes "batch") first.Batch _ keyword refl (
    named word (codes "segments") first.Segments _ keyword refl (
    named word (codes "save") first.Save _ keyword refl (
    named word (codes "open") first.Open _ keyword refl (
    named word (codes "quit") first.Quit _ keyword refl (
    named word (codes "remove") first.Remove _ keyword refl (
    named word (codes "subcorpus") first.Subcorpus _ keyword refl (
    named word (codes "subcount") first.Subcount _ keyword refl (
    named word (codes "keywords") first.Keywords _ keyword refl (
    named word (codes "partner") first.Partner _ keyword refl (
    (λ e. cc))))))))))))))))))))))))

-- ## Questions

ask_gives : (keyword : Keyword) (words : List ℕ) (ask : Ask) → ask_at keyword words ≡ Some ask → HasAskForm ask (spelling keyword ++ 32 ∷ words)
unfolding ask_at
ask_gives first.Registry words ask e = cc
ask_gives first.Text words ask e = cc
ask_gives first.Add words ask e = cc
ask_gives first.Generate words ask e = cc
ask_gives first.Count words ask e = count_gives words ask e
ask_gives first.Query words ask e = query_gives words ask e
ask_gives first.Freq words ask e = freq_gives words ask e
ask_gives first.Colloc words ask e = colloc_gives words ask e
ask_gives first.Grammar words ask e = cc
ask_gives first.Rules words ask e = cc
ask_gives first.Sketch words ask e = sketch_gives words ask e
ask_gives first.Thes words ask e = thes_gives words ask e
ask_gives first.Merge words ask e = cc
ask_gives first.Batch words ask e = cc
ask_gives first.Segments words ask e = cc
ask_gives first.Save words ask e = cc
ask_gives first.Open words ask e = cc
ask_gives first.Quit words ask e = cc
ask_gives first.Remove words ask e = cc
ask_gives first.Subcorpus words ask e = cc
ask_gives first.Subcount words ask e = cc
ask_gives first.Keywords words ask e = cc
ask_gives first.Partner words ask e = cc

-- a line with this first word, seen as what follows it
behind : (line : List ℕ) (parts : List ℕ × List ℕ) (keyword : Keyword) → cut line ≡ Some parts → keyword_at parts.0 ≡ Some keyword → line ≡ spelling keyword ++ 32 ∷ parts.1
behind line parts keyword c k = cut_parts line parts c ∙ ap (λ word. word ++ 32 ∷ parts.1) (keyword_gives parts.0 keyword k)

pub asked_gives : (line : List ℕ) (ask : Ask) → asked_at line ≡ Some ask → HasAskForm ask line
unfolding asked_at
asked_gives line ask e =
    then_some (cut line) _ ask e (λ parts c e1. then_some (keyword_at parts.0) _ ask e1 (λ keyword k e2.
    rw (behind line parts keyword c k) (ask_gives keyword parts.1 ask e2)))

-- what is read of a line that has the form of a question
record IsRead (line : List ℕ) (ask : Ask) : Type 0 where
  asked : asked_at line ≡ Some ask
  lone : line_at line ≡ Some (Lone (Asks ask))

count_line : (words : List ℕ) (ask : Ask) → count_at words ≡ Some ask → IsRead (codes "count" ++ 32 ∷ words) ask
unfolding asked_at line_at cut keyword_at words_at ask_at
count_line words ask e = record { asked = e; lone = rw e refl }

query_line : (words : List ℕ) (ask : Ask) → query_at words ≡ Some ask → IsRead (codes "query" ++ 32 ∷ words) ask
unfolding asked_at line_at cut keyword_at words_at ask_at
query_line words ask e = record { asked = e; lone = rw e refl }

freq_line : (words : List ℕ) (ask : Ask) → freq_at words ≡ Some ask → IsRead (codes "freq" ++ 32 ∷ words) ask
unfolding asked_at line_at cut keyword_at words_at ask_at
freq_line words ask e = record { asked = e; lone = rw e refl }

colloc_line : (words : List ℕ) (ask : Ask) → colloc_at words ≡ Some ask → IsRead (codes "colloc" ++ 32 ∷ words) ask
unfolding asked_at line_at cut keyword_at words_at ask_at
colloc_line words ask e = record { asked = e; lone = rw e refl }

sketch_line : (words : List ℕ) (ask : Ask) → sketch_at words ≡ Some ask → IsRead (codes "sketch" ++ 32 ∷ words) ask
unfolding asked_at line_at cut keyword_at words_at ask_at
sketch_line words ask e = record { asked = e; lone = rw e refl }

thes_line : (words : List ℕ) (ask : Ask) → thes_at words ≡ Some ask → IsRead (codes "thes" ++ 32 ∷ words) ask
unfolding asked_at line_at cut keyword_at words_at ask_at
thes_line words ask e = record { asked = e; lone = rw e refl }

is_read : (ask : Ask) (line : List ℕ) → HasAskForm ask line → IsRead line ask
is_read (Count cql) line f = rw f.words (count_line _ _ (count_back cql f.some))
is_read (Query cql) line f = rw f.words (query_line _ _ (query_back cql f.some))
is_read (Freq attr offset cql) line f = rw f.words (freq_line _ _ (freq_back attr offset f.written cql f.named f.at f.some))
is_read (Colloc attr first last least cql) line f = rw f.words (colloc_line _ _ (colloc_back attr first last f.begin f.end least cql f.named f.begins f.ends f.order f.small f.some))
is_read (Sketch least most lemma) line f = rw f.words (sketch_line _ _ (sketch_back least most lemma f.low f.high f.some))
is_read (Thes most lemma) line f = rw f.words (thes_line _ _ (thes_back most lemma f.small f.some))

pub asked_back : (ask : Ask) (line : List ℕ) → HasAskForm ask line → asked_at line ≡ Some ask
asked_back ask line f = (is_read ask line f).asked

-- ## Commands

words_gives : (keyword : Keyword) (words : List ℕ) (header : Header) → words_at keyword words ≡ Some header → HasForm header (spelling keyword ++ 32 ∷ words)
unfolding words_at
words_gives first.Registry words header e = registry_gives words header e
words_gives first.Text words header e = text_gives words header e
words_gives first.Add words header e = add_gives words header e
words_gives first.Generate words header e = generate_gives words header e
words_gives first.Count words header e = then_some (ask_at first.Count words) _ header e (λ ask a s. rw (← same _ _ s) (ask_gives first.Count words ask a))
words_gives first.Query words header e = then_some (ask_at first.Query words) _ header e (λ ask a s. rw (← same _ _ s) (ask_gives first.Query words ask a))
words_gives first.Freq words header e = then_some (ask_at first.Freq words) _ header e (λ ask a s. rw (← same _ _ s) (ask_gives first.Freq words ask a))
words_gives first.Colloc words header e = then_some (ask_at first.Colloc words) _ header e (λ ask a s. rw (← same _ _ s) (ask_gives first.Colloc words ask a))
words_gives first.Grammar words header e = grammar_gives words header e
words_gives first.Rules words header e = rules_gives words header e
words_gives first.Sketch words header e = then_some (ask_at first.Sketch words) _ header e (λ ask a s. rw (← same _ _ s) (ask_gives first.Sketch words ask a))
words_gives first.Thes words header e = then_some (ask_at first.Thes words) _ header e (λ ask a s. rw (← same _ _ s) (ask_gives first.Thes words ask a))
words_gives first.Merge words header e = merge_gives words header e
words_gives first.Batch words header e = batch_gives words header e
words_gives first.Segments words header e = then_some (ask_at first.Segments words) _ header e (λ ask a s. rw (← same _ _ s) (ask_gives first.Segments words ask a))
words_gives first.Save words header e = save_gives words header e
words_gives first.Open words header e = load_gives words header e
words_gives first.Quit words header e = then_some (ask_at first.Quit words) _ header e (λ ask a s. rw (← same _ _ s) (ask_gives first.Quit words ask a))
words_gives first.Remove words header e = remove_gives words header e
words_gives first.Subcorpus words header e = subcorpus_gives words header e
words_gives first.Subcount words header e = subcount_gives words header e
words_gives first.Keywords words header e = keywords_gives words header e
words_gives first.Partner words header e = partner_gives words header e

word_gives : (keyword : Keyword) (header : Header) → word_at keyword ≡ Some header → HasForm header (spelling keyword)
unfolding word_at
word_gives first.Registry header e = cc
word_gives first.Text header e = cc
word_gives first.Add header e = cc
word_gives first.Generate header e = cc
word_gives first.Count header e = cc
word_gives first.Query header e = cc
word_gives first.Freq header e = cc
word_gives first.Colloc header e = cc
word_gives first.Grammar header e = cc
word_gives first.Rules header e = cc
word_gives first.Sketch header e = cc
word_gives first.Thes header e = cc
word_gives first.Merge header e = cc
word_gives first.Batch header e = cc
word_gives first.Segments header e = rw (← same _ _ e) refl
word_gives first.Save header e = cc
word_gives first.Open header e = cc
word_gives first.Quit header e = rw (← same _ _ e) refl
word_gives first.Remove header e = cc
word_gives first.Subcorpus header e = cc
word_gives first.Subcount header e = cc
word_gives first.Keywords header e = cc
word_gives first.Partner header e = cc

from_gives : (line : List ℕ) (parts : Option (List ℕ × List ℕ)) (header : Header) → cut line ≡ parts → line_from line parts ≡ Some header → HasForm header line
from_gives line None header c e =
    then_some (keyword_at line) _ header e (λ keyword k e1. rw (keyword_gives line keyword k) (word_gives keyword header e1))
from_gives line (Some parts) header c e =
    then_some (keyword_at parts.0) _ header e (λ keyword k e1. rw (behind line parts keyword c k) (words_gives keyword parts.1 header e1))

-- what is read has its form
pub line_gives : (line : List ℕ) (header : Header) → line_at line ≡ Some header → HasForm header line
unfolding line_at
line_gives line header e = from_gives line (cut line) header refl e

registry_line : (words : List ℕ) → line_at (codes "registry" ++ 32 ∷ words) ≡ registry_at words
unfolding line_at cut keyword_at words_at
registry_line words = refl

text_line : (words : List ℕ) → line_at (codes "text" ++ 32 ∷ words) ≡ text_at words
unfolding line_at cut keyword_at words_at
text_line words = refl

add_line : (words : List ℕ) → line_at (codes "add" ++ 32 ∷ words) ≡ add_at words
unfolding line_at cut keyword_at words_at
add_line words = refl

generate_line : (words : List ℕ) → line_at (codes "generate" ++ 32 ∷ words) ≡ generate_at words
unfolding line_at cut keyword_at words_at
generate_line words = refl

grammar_line : (words : List ℕ) → line_at (codes "grammar" ++ 32 ∷ words) ≡ grammar_at words
unfolding line_at cut keyword_at words_at
grammar_line words = refl

rules_line : (words : List ℕ) → line_at (codes "rules" ++ 32 ∷ words) ≡ rules_at words
unfolding line_at cut keyword_at words_at
rules_line words = refl

merge_line : (words : List ℕ) → line_at (codes "merge" ++ 32 ∷ words) ≡ merge_at words
unfolding line_at cut keyword_at words_at
merge_line words = refl

batch_line : (words : List ℕ) → line_at (codes "batch" ++ 32 ∷ words) ≡ batch_at words
unfolding line_at cut keyword_at words_at
batch_line words = refl

save_line : (words : List ℕ) → line_at (codes "save" ++ 32 ∷ words) ≡ save_at words
unfolding line_at cut keyword_at words_at
save_line words = refl

load_line : (words : List ℕ) → line_at (codes "open" ++ 32 ∷ words) ≡ load_at words
unfolding line_at cut keyword_at words_at
load_line words = refl

remove_line : (words : List ℕ) → line_at (codes "remove" ++ 32 ∷ words) ≡ remove_at words
unfolding line_at cut keyword_at words_at
remove_line words = refl

subcorpus_line : (words : List ℕ) → line_at (codes "subcorpus" ++ 32 ∷ words) ≡ subcorpus_at words
unfolding line_at cut keyword_at words_at
subcorpus_line words = refl

subcount_line : (words : List ℕ) → line_at (codes "subcount" ++ 32 ∷ words) ≡ subcount_at words
unfolding line_at cut keyword_at words_at
subcount_line words = refl

keywords_line : (words : List ℕ) → line_at (codes "keywords" ++ 32 ∷ words) ≡ keywords_at words
unfolding line_at cut keyword_at words_at
keywords_line words = refl

partner_line : (words : List ℕ) → line_at (codes "partner" ++ 32 ∷ words) ≡ partner_at words
unfolding line_at cut keyword_at words_at
partner_line words = refl

lone_back : (command : Command) (line : List ℕ) → HasLoneForm command line → line_at line ≡ Some (Lone command)
unfolding line_at cut keyword_at word_at
lone_back (Registry file) line f = rw f.words (registry_line _ ∙ registry_back file f.named)
lone_back (Text name body) line f = absurd f
lone_back (Add name file) line f = rw f.words (add_line _ ∙ add_back name file f.named f.filed)
lone_back (Generate name seed tokens) line f = rw f.words (generate_line _ ∙ generate_back name seed tokens f.named f.seeded f.few)
lone_back (Asks ask) line f = (is_read ask line f).lone
lone_back (Grammar file) line f = rw f.words (grammar_line _ ∙ grammar_back file f.named)
lone_back (Rules body) line f = absurd f
lone_back (Merge first last) line f = rw f.words (merge_line _ ∙ merge_back first last f.low f.high)
lone_back (Batch asked merge) line f = absurd f
lone_back Segments line f = rw f refl
lone_back (Save name) line f = rw f.words (save_line _ ∙ save_back name f.named)
lone_back (Load name) line f = rw f.words (load_line _ ∙ load_back name f.named)
lone_back Quit line f = rw f refl
lone_back (Remove name) line f = rw f.words (remove_line _ ∙ remove_back name f.named)
lone_back (Subcorpus name cql) line f = rw f.words (subcorpus_line _ ∙ subcorpus_back name cql f.named f.some)
lone_back (Subcount name cql) line f = rw f.words (subcount_line _ ∙ subcount_back name cql f.named f.some)
lone_back (Keywords name attr rarity most) line f = rw f.words (keywords_line _ ∙ keywords_back name attr rarity most f.named f.attributed f.weighed f.small)
lone_back (Partner name kind) line f = rw f.words (partner_line _ ∙ partner_back name kind f.named f.called f.kinded)

-- what has a form is read so
pub line_back : (header : Header) (line : List ℕ) → HasForm header line → line_at line ≡ Some header
line_back (Lone command) line f = lone_back command line f
line_back (TextHead name number) line f = rw f.words (text_line _ ∙ text_back name number f.named f.small)
line_back (RulesHead number) line f = rw f.words (rules_line _ ∙ rules_back number f.small)
line_back (BatchHead number None) line f = rw f.words (batch_line _ ∙ batch_back number f.few)
line_back (BatchHead number (Some range)) line f = rw f.words (batch_line _ ∙ merging_batch_back number range.0 range.1 f.few f.low f.high)

-- ## Lines as they stand

pub is_asked : (line seen : List ℕ) (ask : Ask) → line ≡ seen → IsUtf8 line → asked_at seen ≡ Some ask → IsAsked line ask
is_asked line seen ask same text e = record { text = text; form = asked_gives line ask (rw same e) }

pub not_asked : (line seen : List ℕ) → line ≡ seen → asked_at seen ≡ None → (ask : Ask) → IsAsked line ask → ⊥
not_asked line seen same e ask a = none-some ask (sym e ∙ rw (← same) (asked_back ask line a.form))

pub is_header : (line seen : List ℕ) (header : Header) → line ≡ seen → length line ≤ line_bytes_limit → IsUtf8 line → line_at seen ≡ Some header → IsHeader line header
is_header line seen header same short text e = record { short = short; text = text; form = line_gives line header (rw same e) }

pub no_header : (line seen : List ℕ) → line ≡ seen → line_at seen ≡ None → (header : Header) → IsHeader line header → ⊥
no_header line seen same e header h = none-some header (sym e ∙ rw (← same) (line_back header line h.form))

-- a line has at most one form
pub one_header : (line : List ℕ) (a b : Header) → IsHeader line a → IsHeader line b → a ≡ b
one_header line a b h k = same _ _ (sym (line_back a line h.form) ∙ line_back b line k.form)

pub one_ask : (line : List ℕ) (a b : Ask) → IsAsked line a → IsAsked line b → a ≡ b
one_ask line a b h k = same _ _ (sym (asked_back a line h.form) ∙ asked_back b line k.form)
