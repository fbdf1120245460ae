-- What the functions that read lines compute. What they promise stands apart from it, with the forms of commands.
use Rattle.std.specs.Prelude.{ℕ, ℤ, pos, neg_ℤ, ◌≡◌, ◌^◌, ◌==◌, ◌&&◌, ◌||◌, not, Bool, nat_eq, nat_lt, nat_le, int_le, if◌then◌else◌, List, [], ◌∷◌, length, slice_index, drop, codes, Option, None, Some, Result, Ok, Err}
use Rattle.std.specs.List.{list_all}
use Rattle.std.specs.Char.{is_ascii_alphanumeric, is_ascii_digit}
use Rattle.std.specs.Cmp.Lexicographic.{pointwise}
use Rattle.std.specs.Str.Parse.{digits_value}
use Rattle.mt_text_spec.specs.Words.{is_name_byte, is_identifier_start, is_identifier_byte}
use Rattle.mt_script_spec.specs.Commands.{Ask, Count, Query, Freq, Colloc, Sketch, Thes, Registry, Add, Generate, Asks, Grammar, Merge, Segments, Save, Load, Quit, Remove, Subcorpus, Subcount, Keywords, Partner, Header, Lone, TextHead, RulesHead, BatchHead}
use Rattle.mt_script.specs.declared.words.Unread.{Unread}
use Rattle.mt_script.specs.declared.words.Unread.TheVariants as unread
use Rattle.mt_script.specs.declared.keyword.Keyword.{Keyword}
use Rattle.mt_script.specs.declared.keyword.Keyword.TheVariants as first

-- what a function returned, seen so, is what reading gives, unless memory ran out
abbrev pub Unreads : {Y : Type 0} → Unread → Option Y → Type 0
Unreads unread.NoMemory r = Unit {0}
Unreads unread.NoCommand r = r ≡ None

abbrev pub Reads : {X Y : Type 0} → (X → Y) → Result X Unread → Option Y → Type 0
Reads view (Ok x) r = r ≡ Some (view x)
Reads view (Err e) r = Unreads e r

infixl 10 ◌>>=◌
abbrev pub ◌>>=◌ : {A B : Type 0} → Option A → (A → Option B) → Option B
None >>= f = None
(Some x) >>= f = f x

-- ## Words

-- what stands before the first space, and what follows it
unfoldable pub cut : List ℕ → Option (List ℕ × List ℕ)
cut [] = None
cut (b ∷ bytes) = if b == 32 then Some ([], bytes) else cut bytes >>= (λ parts. Some (b ∷ parts.0, parts.1))

unfoldable pub is_name : List ℕ → Bool
is_name word = nat_lt 0 (length word) && (nat_le (length word) 64 && (is_ascii_alphanumeric (slice_index word 0) && list_all is_name_byte word))

unfoldable pub is_identifier : List ℕ → Bool
is_identifier word = nat_lt 0 (length word) && (nat_le (length word) 64 && (is_identifier_start (slice_index word 0) && list_all is_identifier_byte word))

-- digits, of which the first is 0 only where it is alone
unfoldable pub is_decimal : List ℕ → Bool
is_decimal word = nat_lt 0 (length word) && ((not (slice_index word 0 == 48) || length word == 1) && list_all is_ascii_digit word)

unfoldable pub name_at : List ℕ → Option (List ℕ)
name_at word = if is_name word then Some word else None

unfoldable pub saved_name_at : List ℕ → Option (List ℕ)
saved_name_at word = if nat_le (length word) 56 then name_at word else None

unfoldable pub identifier_at : List ℕ → Option (List ℕ)
identifier_at word = if is_identifier word then Some word else None

unfoldable pub decimal_at : List ℕ → Option ℕ
decimal_at word = if is_decimal word then (if nat_lt (digits_value 10 word) (2 ^ 64) then Some (digits_value 10 word) else None) else None

unfoldable pub number_at : ℕ → ℕ → List ℕ → Option ℕ
number_at least most word = decimal_at word >>= (λ n. if nat_le least n then (if nat_le n most then Some n else None) else None)

unfoldable pub small_at : List ℕ → Option ℕ
small_at word = number_at 0 999999999 word

abbrev pub plus_at : ℕ → List ℕ → Option ℤ
plus_at most digits = number_at 0 most digits >>= (λ n. Some (pos n))

abbrev pub minus_at : ℕ → List ℕ → Option ℤ
minus_at most digits = number_at 0 most digits >>= (λ n. Some (neg_ℤ (pos n)))

unfoldable pub signed_at : ℕ → List ℕ → Option ℤ
signed_at most word = if slice_index word 0 == 45 then minus_at most (drop 1 word) else plus_at most word

unfoldable pub rest_at : List ℕ → Option (List ℕ)
rest_at [] = None
rest_at (b ∷ bytes) = Some (b ∷ bytes)

-- the command that a first word names
unfoldable pub keyword_at : List ℕ → Option Keyword
keyword_at word =
    if pointwise nat_eq word (codes "registry") then Some first.Registry
    else if pointwise nat_eq word (codes "text") then Some first.Text
    else if pointwise nat_eq word (codes "add") then Some first.Add
    else if pointwise nat_eq word (codes "generate") then Some first.Generate
    else if pointwise nat_eq word (codes "count") then Some first.Count
    else if pointwise nat_eq word (codes "query") then Some first.Query
    else if pointwise nat_eq word (codes "freq") then Some first.Freq
    else if pointwise nat_eq word (codes "colloc") then Some first.Colloc
    else if pointwise nat_eq word (codes "grammar") then Some first.Grammar
    else if pointwise nat_eq word (codes "rules") then Some first.Rules
    else if pointwise nat_eq word (codes "sketch") then Some first.Sketch
    else if pointwise nat_eq word (codes "thes") then Some first.Thes
    else if pointwise nat_eq word (codes "merge") then Some first.Merge
    else if pointwise nat_eq word (codes "batch") then Some first.Batch
    else if pointwise nat_eq word (codes "segments") then Some first.Segments
    else if pointwise nat_eq word (codes "save") then Some first.Save
    else if pointwise nat_eq word (codes "open") then Some first.Open
    else if pointwise nat_eq word (codes "quit") then Some first.Quit
    else if pointwise nat_eq word (codes "remove") then Some first.Remove
    else if pointwise nat_eq word (codes "subcorpus") then Some first.Subcorpus
    else if pointwise nat_eq word (codes "subcount") then Some first.Subcount
    else if pointwise nat_eq word (codes "keywords") then Some first.Keywords
    else if pointwise nat_eq word (codes "partner") then Some first.Partner
    else None

-- ## Questions, behind their first words

unfoldable pub count_at : List ℕ → Option Ask
count_at words = rest_at words >>= (λ cql. Some (Count cql))

unfoldable pub query_at : List ℕ → Option Ask
query_at words = rest_at words >>= (λ cql. Some (Query cql))

unfoldable pub freq_at : List ℕ → Option Ask
freq_at words = cut words >>= (λ a. identifier_at a.0 >>= (λ attr. cut a.1 >>= (λ b. signed_at 1000 b.0 >>= (λ offset. rest_at b.1 >>= (λ cql. Some (Freq attr offset cql))))))

unfoldable pub colloc_at : List ℕ → Option Ask
colloc_at words = cut words >>= (λ a. identifier_at a.0 >>= (λ attr. cut a.1 >>= (λ b. signed_at 100 b.0 >>= (λ first. cut b.1 >>= (λ c. signed_at 100 c.0 >>= (λ last.
    if int_le first last then cut c.1 >>= (λ d. small_at d.0 >>= (λ least. rest_at d.1 >>= (λ cql. Some (Colloc attr first last least cql)))) else None))))))

unfoldable pub sketch_at : List ℕ → Option Ask
sketch_at words = cut words >>= (λ a. small_at a.0 >>= (λ least. cut a.1 >>= (λ b. small_at b.0 >>= (λ most. rest_at b.1 >>= (λ lemma. Some (Sketch least most lemma))))))

unfoldable pub thes_at : List ℕ → Option Ask
thes_at words = cut words >>= (λ a. small_at a.0 >>= (λ most. rest_at a.1 >>= (λ lemma. Some (Thes most lemma))))

unfoldable pub ask_at : Keyword → List ℕ → Option Ask
ask_at first.Count words = count_at words
ask_at first.Query words = query_at words
ask_at first.Freq words = freq_at words
ask_at first.Colloc words = colloc_at words
ask_at first.Sketch words = sketch_at words
ask_at first.Thes words = thes_at words
ask_at _ words = None

-- a line of a batch
unfoldable pub asked_at : List ℕ → Option Ask
asked_at line = cut line >>= (λ parts. keyword_at parts.0 >>= (λ keyword. ask_at keyword parts.1))

-- ## Commands, behind their first words

unfoldable pub registry_at : List ℕ → Option Header
registry_at words = name_at words >>= (λ file. Some (Lone (Registry file)))

unfoldable pub text_at : List ℕ → Option Header
text_at words = cut words >>= (λ a. name_at a.0 >>= (λ name. small_at a.1 >>= (λ number. Some (TextHead name number))))

unfoldable pub add_at : List ℕ → Option Header
add_at words = cut words >>= (λ a. name_at a.0 >>= (λ name. name_at a.1 >>= (λ file. Some (Lone (Add name file)))))

unfoldable pub generate_at : List ℕ → Option Header
generate_at words = cut words >>= (λ a. name_at a.0 >>= (λ name. cut a.1 >>= (λ b. decimal_at b.0 >>= (λ seed. number_at 0 1048576 b.1 >>= (λ tokens. Some (Lone (Generate name seed tokens)))))))

unfoldable pub grammar_at : List ℕ → Option Header
grammar_at words = name_at words >>= (λ file. Some (Lone (Grammar file)))

unfoldable pub rules_at : List ℕ → Option Header
rules_at words = small_at words >>= (λ number. Some (RulesHead number))

unfoldable pub range_at : List ℕ → Option (ℕ × ℕ)
range_at words = cut words >>= (λ a. small_at a.0 >>= (λ first. small_at a.1 >>= (λ last. Some (first, last))))

unfoldable pub merge_at : List ℕ → Option Header
merge_at words = range_at words >>= (λ range. Some (Lone (Merge range.0 range.1)))

-- the range of a batch that merges
unfoldable pub merging_at : List ℕ → Option (ℕ × ℕ)
merging_at words = cut words >>= (λ a. if pointwise nat_eq a.0 (codes "merge") then range_at a.1 else None)

abbrev pub batch_from : List ℕ → Option (List ℕ × List ℕ) → Option Header
batch_from words None = number_at 1 32 words >>= (λ number. Some (BatchHead number None))
batch_from words (Some a) = number_at 1 32 a.0 >>= (λ number. merging_at a.1 >>= (λ range. Some (BatchHead number (Some range))))

unfoldable pub batch_at : List ℕ → Option Header
batch_at words = batch_from words (cut words)

unfoldable pub save_at : List ℕ → Option Header
save_at words = saved_name_at words >>= (λ name. Some (Lone (Save name)))

unfoldable pub load_at : List ℕ → Option Header
load_at words = saved_name_at words >>= (λ name. Some (Lone (Load name)))

unfoldable pub remove_at : List ℕ → Option Header
remove_at words = name_at words >>= (λ name. Some (Lone (Remove name)))

unfoldable pub subcorpus_at : List ℕ → Option Header
subcorpus_at words = cut words >>= (λ a. name_at a.0 >>= (λ name. rest_at a.1 >>= (λ cql. Some (Lone (Subcorpus name cql)))))

unfoldable pub subcount_at : List ℕ → Option Header
subcount_at words = cut words >>= (λ a. name_at a.0 >>= (λ name. rest_at a.1 >>= (λ cql. Some (Lone (Subcount name cql)))))

unfoldable pub keywords_at : List ℕ → Option Header
keywords_at words = cut words >>= (λ a. name_at a.0 >>= (λ name. cut a.1 >>= (λ b. identifier_at b.0 >>= (λ attr. cut b.1 >>= (λ c. number_at 1 1000000 c.0 >>= (λ rarity.
    small_at c.1 >>= (λ most. Some (Lone (Keywords name attr rarity most)))))))))

unfoldable pub partner_at : List ℕ → Option Header
partner_at words = cut words >>= (λ a. if is_identifier a.0 then saved_name_at a.0 >>= (λ name. identifier_at a.1 >>= (λ kind. Some (Lone (Partner name kind)))) else None)

unfoldable pub words_at : Keyword → List ℕ → Option Header
words_at first.Registry words = registry_at words
words_at first.Text words = text_at words
words_at first.Add words = add_at words
words_at first.Generate words = generate_at words
words_at first.Grammar words = grammar_at words
words_at first.Rules words = rules_at words
words_at first.Merge words = merge_at words
words_at first.Batch words = batch_at words
words_at first.Save words = save_at words
words_at first.Open words = load_at words
words_at first.Remove words = remove_at words
words_at first.Subcorpus words = subcorpus_at words
words_at first.Subcount words = subcount_at words
words_at first.Keywords words = keywords_at words
words_at first.Partner words = partner_at words
words_at keyword words = ask_at keyword words >>= (λ ask. Some (Lone (Asks ask)))

-- a command that is one word
unfoldable pub word_at : Keyword → Option Header
word_at first.Segments = Some (Lone Segments)
word_at first.Quit = Some (Lone Quit)
word_at _ = None

abbrev pub line_from : List ℕ → Option (List ℕ × List ℕ) → Option Header
line_from line None = keyword_at line >>= (λ keyword. word_at keyword)
line_from line (Some parts) = keyword_at parts.0 >>= (λ keyword. words_at keyword parts.1)

-- a command line
unfoldable pub line_at : List ℕ → Option Header
line_at line = line_from line (cut line)
