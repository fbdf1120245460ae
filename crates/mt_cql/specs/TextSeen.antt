-- What comes next in a text, as the program has it, and how deep a text nests.
use Rattle.std.specs.Prelude.{ℕ, ◌≡◌, ◌+◌, ◌<◌, [], length, None, Some, IsUtf8}
use Rattle.mt_query_spec.specs.Tokens as t
use Rattle.mt_cql.specs.declared.text_reader.Next.{Next}
use Rattle.mt_cql.specs.declared.text_reader.Next.TheVariants.{End, Token, Bad}
use Rattle.mt_cql.specs.declared.text_reader.Nesting.{Nesting}
use Rattle.mt_cql.specs.Seen.{token_seen, unlexed_seen}

-- the tokens of a text by what comes next in it
abbrev pub NextSeen : Next → t.Tokens → Type 0
NextSeen End tokens = tokens ≡ record { tokens = []; stop = None }
NextSeen (Bad at why) tokens = tokens ≡ record { tokens = []; stop = Some (at, unlexed_seen why) }
NextSeen (Token at token end rest) tokens = tokens ≡ t.preceded (at, token_seen token) (t.tokens_from end 0 rest.now)

-- where a token ends the rest of the text begins, which is shorter than `bound`; the text ends at `total`
abbrev pub IsBehind : (total bound : ℕ) → Next → Type 0
IsBehind total bound End = Unit {0}
IsBehind total bound (Bad at why) = Unit {0}
IsBehind total bound (Token at token end rest) = (end + length rest.now ≡ total) × (length rest.now < bound) × IsUtf8 rest.now

abbrev pub nesting_seen : Nesting → t.Nesting
nesting_seen nesting = record { opened = nesting.opened; most = nesting.most; in_string = nesting.in_string; taken = nesting.taken }
