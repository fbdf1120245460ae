-- The words of the command line: which are good, and which options they say.
use Rattle.std.specs.Prelude.{ℕ, ◌≡◌, ◌≤◌, List, [], ◌∷◌, map, codes, Option, Some, None, decimal, String}
use Rattle.std.specs.String.{string_bytes}
use Rattle.std.specs.declared.alloc.Global.{Global}
use Rattle.clap.specs.Words.{App, Rule, Text, new_app, new_rule, with_rule, matches_of, fault_of, first_of}
use Rattle.clap.specs.declared.builder.ArgAction.TheVariants.{Set}
use Rattle.mt_words.specs.declared.Options.{Options}

-- ## What `clap` makes of the words

-- the program's name, which is the first word for `clap`
abbrev pub program : Text
program = codes "corpus_shell"

-- an option with one value, which is given at most once
abbrev pub option : Text → Rule
option name = record (new_rule name) { long = Some name; action = Some Set }

-- the number of workers
abbrev pub workers_option : Rule
workers_option = option (codes "workers")

-- the number of texts of the demo
abbrev pub demo_option : Rule
demo_option = option (codes "demo")

-- the command with these two options, and with nothing else but what `clap` adds to each
abbrev pub shell : App
shell = with_rule (with_rule (new_app program) workers_option) demo_option

-- the words behind the program's name, as texts
abbrev pub texts : List (String Global) → List Text
texts = map string_bytes

-- `clap` takes the words: it finds no fault in them, and they are no call for help
abbrev pub AreTaken : List Text → Type 0
AreTaken words = fault_of shell (program ∷ words) ≡ []

-- the value that the words give an option, where they give one
abbrev pub value_of : Rule → List Text → Option Text
value_of rule words = first_of rule.id (matches_of shell (program ∷ words))

-- ## What the words say

-- a number from 1 to the greatest, written in decimal: without sign, without leading zeros
pub record IsNumberTo (greatest : ℕ) (text : Text) (number : ℕ) : Type 0 where
  pub written : text ≡ decimal number
  pub least : 1 ≤ number
  pub most : number ≤ greatest

-- the most workers
abbrev pub most_workers : ℕ
most_workers = 64

-- the most texts of a demo
abbrev pub most_texts : ℕ
most_texts = 50

-- how many workers there are where the words say nothing of them
abbrev pub usual_workers : ℕ
usual_workers = 4

-- the number of workers that an option says, given or not
abbrev pub SaysWorkers : Option Text → ℕ → Type 0
SaysWorkers None workers = workers ≡ usual_workers
SaysWorkers (Some text) workers = IsNumberTo most_workers text workers

-- the number of texts of a demo that an option says, where it is given; without it there is no demo
abbrev pub SaysDemo : Option Text → Option ℕ → Type 0
SaysDemo None None = Unit {0}
SaysDemo None (Some number) = ⊥
SaysDemo (Some text) None = ⊥
SaysDemo (Some text) (Some number) = IsNumberTo most_texts text number

-- The words are good and say these options: `clap` takes them, and each value that is given is a number in its range.
pub record IsGood (words : List Text) (options : Options) : Type 0 where
  pub taken : AreTaken words
  pub workers : SaysWorkers (value_of workers_option words) options.workers
  pub demo : SaysDemo (value_of demo_option words) options.demo

-- the words say some options
abbrev pub AreGood : List Text → Type 0
AreGood words = (options : Options) × IsGood words options
