-- Commands, behind their first words: each is read exactly where the words have its form. `gives` is what is read, `back` that what has the form is read.
use Rattle.std.proofs.Common.{◌≡◌, ◌≢◌, ℕ, ◌<◌, ◌≤◌, ◌^◌, List, [], ◌∷◌, ◌++◌, codes, Option, Some, None, arith, refl, subst}
use Rattle.std.specs.Prelude.{nat_eq}
use Rattle.std.specs.Cmp.Lexicographic.{pointwise}
use Rattle.std.specs.Fmt.{decimal}
use Rattle.mt_text_spec.specs.Words.{IsName, IsIdentifier}
use Rattle.mt_script_spec.specs.Commands.{Registry, Add, Generate, Grammar, Merge, Save, Load, Remove, Subcorpus, Subcount, Keywords, Partner, Header, Lone, TextHead, RulesHead, BatchHead, HasForm, IsSavedName, IsSmall, IsWithin}
use Rattle.mt_script.specs.Reading.{cut, is_identifier, name_at, saved_name_at, identifier_at, decimal_at, number_at, small_at, rest_at, registry_at, text_at, add_at, generate_at, grammar_at, rules_at, range_at, merge_at, merging_at, batch_from, batch_at, save_at, load_at, remove_at, subcorpus_at, subcount_at, keywords_at, partner_at}
use Rattle.mt_script.proofs.Forms.{then_some, if_some, same, joined, spelled, cut_at, cut_none, cut_parts, name_gives, name_at_yes, name_plain, saved_name_gives, saved_name_at_yes, identifier_from, identifier_true, identifier_gives, identifier_at_yes, identifier_plain, decimal_gives, decimal_at_yes, decimal_plain, number_gives, number_at_yes, within_plain, small_gives, small_at_yes, small_plain, rest_gives, rest_at_yes}

pub registry_gives : (words : List ℕ) (header : Header) → registry_at words ≡ Some header → HasForm header (codes "registry" ++ 32 ∷ words)
unfolding registry_at
registry_gives words header e =
    then_some (name_at words) _ header e (λ file at_file e1.
    let is_file = name_gives words file at_file in
    let is : words ≡ file = is_file.0 in
    rw (← same _ _ e1) (record { words = rw is refl; named = is_file.1 }))

pub registry_back : (file : List ℕ) → IsName file → registry_at file ≡ Some (Lone (Registry file))
unfolding registry_at
registry_back file h_file = rw (name_at_yes file h_file) refl

pub text_gives : (words : List ℕ) (header : Header) → text_at words ≡ Some header → HasForm header (codes "text" ++ 32 ∷ words)
unfolding text_at
text_gives words header e =
    then_some (cut words) _ header e (λ a cut_a e1. then_some (name_at a.0) _ header e1 (λ name at_name e2. then_some (small_at a.1) _ header e2 (λ number at_number e3.
    let is_name = name_gives a.0 name at_name in
    let is_number = small_gives a.1 number at_number in
    let is : words ≡ name ++ 32 ∷ decimal number = joined (cut_parts words a cut_a) is_name.0 (is_number.0) in
    rw (← same _ _ e3) (record { words = rw is refl; named = is_name.1; small = is_number.1 }))))

pub text_back : (name : List ℕ) (number : ℕ) → IsName name → IsSmall number → text_at (name ++ 32 ∷ decimal number) ≡ Some (TextHead name number)
unfolding text_at
text_back name number h_name h_number = rw (cut_at name (decimal number) (name_plain name h_name), name_at_yes name h_name, small_at_yes number h_number) refl

pub add_gives : (words : List ℕ) (header : Header) → add_at words ≡ Some header → HasForm header (codes "add" ++ 32 ∷ words)
unfolding add_at
add_gives words header e =
    then_some (cut words) _ header e (λ a cut_a e1. then_some (name_at a.0) _ header e1 (λ name at_name e2. then_some (name_at a.1) _ header e2 (λ file at_file e3.
    let is_name = name_gives a.0 name at_name in
    let is_file = name_gives a.1 file at_file in
    let is : words ≡ name ++ 32 ∷ file = joined (cut_parts words a cut_a) is_name.0 (is_file.0) in
    rw (← same _ _ e3) (record { words = rw is refl; named = is_name.1; filed = is_file.1 }))))

pub add_back : (name : List ℕ) (file : List ℕ) → IsName name → IsName file → add_at (name ++ 32 ∷ file) ≡ Some (Lone (Add name file))
unfolding add_at
add_back name file h_name h_file = rw (cut_at name file (name_plain name h_name), name_at_yes name h_name, name_at_yes file h_file) refl

pub generate_gives : (words : List ℕ) (header : Header) → generate_at words ≡ Some header → HasForm header (codes "generate" ++ 32 ∷ words)
unfolding generate_at
generate_gives words header e =
    then_some (cut words) _ header e (λ a cut_a e1. then_some (name_at a.0) _ header e1 (λ name at_name e2. then_some (cut a.1) _ header e2 (λ b cut_b e3. then_some (decimal_at b.0) _ header e3 (λ seed at_seed e4. then_some (number_at 0 1048576 b.1) _ header e4 (λ tokens at_tokens e5.
    let is_name = name_gives a.0 name at_name in
    let is_seed = decimal_gives b.0 seed at_seed in
    let is_tokens = number_gives 0 1048576 b.1 tokens at_tokens in
    let is : words ≡ name ++ 32 ∷ (decimal seed ++ 32 ∷ decimal tokens) = joined (cut_parts words a cut_a) is_name.0 (joined (cut_parts a.1 b cut_b) is_seed.0 (is_tokens.0)) in
    rw (← same _ _ e5) (record { words = rw is refl; named = is_name.1; seeded = is_seed.1; few = is_tokens.1.high }))))))

pub generate_back : (name : List ℕ) (seed : ℕ) (tokens : ℕ) → IsName name → seed < 2 ^ 64 → tokens ≤ 1048576 → generate_at (name ++ 32 ∷ (decimal seed ++ 32 ∷ decimal tokens)) ≡ Some (Lone (Generate name seed tokens))
unfolding generate_at
generate_back name seed tokens h_name h_seed h_tokens = rw (cut_at name (decimal seed ++ 32 ∷ decimal tokens) (name_plain name h_name), name_at_yes name h_name, cut_at (decimal seed) (decimal tokens) (decimal_plain seed h_seed), decimal_at_yes seed h_seed, number_at_yes 0 1048576 tokens (omega arith) h_tokens (omega arith)) refl

pub grammar_gives : (words : List ℕ) (header : Header) → grammar_at words ≡ Some header → HasForm header (codes "grammar" ++ 32 ∷ words)
unfolding grammar_at
grammar_gives words header e =
    then_some (name_at words) _ header e (λ file at_file e1.
    let is_file = name_gives words file at_file in
    let is : words ≡ file = is_file.0 in
    rw (← same _ _ e1) (record { words = rw is refl; named = is_file.1 }))

pub grammar_back : (file : List ℕ) → IsName file → grammar_at file ≡ Some (Lone (Grammar file))
unfolding grammar_at
grammar_back file h_file = rw (name_at_yes file h_file) refl

pub rules_gives : (words : List ℕ) (header : Header) → rules_at words ≡ Some header → HasForm header (codes "rules" ++ 32 ∷ words)
unfolding rules_at
rules_gives words header e =
    then_some (small_at words) _ header e (λ number at_number e1.
    let is_number = small_gives words number at_number in
    let is : words ≡ decimal number = is_number.0 in
    rw (← same _ _ e1) (record { words = rw is refl; small = is_number.1 }))

pub rules_back : (number : ℕ) → IsSmall number → rules_at (decimal number) ≡ Some (RulesHead number)
unfolding rules_at
rules_back number h_number = rw (small_at_yes number h_number) refl

pub save_gives : (words : List ℕ) (header : Header) → save_at words ≡ Some header → HasForm header (codes "save" ++ 32 ∷ words)
unfolding save_at
save_gives words header e =
    then_some (saved_name_at words) _ header e (λ name at_name e1.
    let is_name = saved_name_gives words name at_name in
    let is : words ≡ name = is_name.0 in
    rw (← same _ _ e1) (record { words = rw is refl; named = is_name.1 }))

pub save_back : (name : List ℕ) → IsSavedName name → save_at name ≡ Some (Lone (Save name))
unfolding save_at
save_back name h_name = rw (saved_name_at_yes name h_name) refl

pub load_gives : (words : List ℕ) (header : Header) → load_at words ≡ Some header → HasForm header (codes "open" ++ 32 ∷ words)
unfolding load_at
load_gives words header e =
    then_some (saved_name_at words) _ header e (λ name at_name e1.
    let is_name = saved_name_gives words name at_name in
    let is : words ≡ name = is_name.0 in
    rw (← same _ _ e1) (record { words = rw is refl; named = is_name.1 }))

pub load_back : (name : List ℕ) → IsSavedName name → load_at name ≡ Some (Lone (Load name))
unfolding load_at
load_back name h_name = rw (saved_name_at_yes name h_name) refl

pub remove_gives : (words : List ℕ) (header : Header) → remove_at words ≡ Some header → HasForm header (codes "remove" ++ 32 ∷ words)
unfolding remove_at
remove_gives words header e =
    then_some (name_at words) _ header e (λ name at_name e1.
    let is_name = name_gives words name at_name in
    let is : words ≡ name = is_name.0 in
    rw (← same _ _ e1) (record { words = rw is refl; named = is_name.1 }))

pub remove_back : (name : List ℕ) → IsName name → remove_at name ≡ Some (Lone (Remove name))
unfolding remove_at
remove_back name h_name = rw (name_at_yes name h_name) refl

pub subcorpus_gives : (words : List ℕ) (header : Header) → subcorpus_at words ≡ Some header → HasForm header (codes "subcorpus" ++ 32 ∷ words)
unfolding subcorpus_at
subcorpus_gives words header e =
    then_some (cut words) _ header e (λ a cut_a e1. then_some (name_at a.0) _ header e1 (λ name at_name e2. then_some (rest_at a.1) _ header e2 (λ cql at_cql e3.
    let is_name = name_gives a.0 name at_name in
    let is_cql = rest_gives a.1 cql at_cql in
    let is : words ≡ name ++ 32 ∷ cql = joined (cut_parts words a cut_a) is_name.0 (is_cql.0) in
    rw (← same _ _ e3) (record { words = rw is refl; named = is_name.1; some = is_cql.1 }))))

pub subcorpus_back : (name : List ℕ) (cql : List ℕ) → IsName name → cql ≢ [] → subcorpus_at (name ++ 32 ∷ cql) ≡ Some (Lone (Subcorpus name cql))
unfolding subcorpus_at
subcorpus_back name cql h_name h_cql = rw (cut_at name cql (name_plain name h_name), name_at_yes name h_name, rest_at_yes cql h_cql) refl

pub subcount_gives : (words : List ℕ) (header : Header) → subcount_at words ≡ Some header → HasForm header (codes "subcount" ++ 32 ∷ words)
unfolding subcount_at
subcount_gives words header e =
    then_some (cut words) _ header e (λ a cut_a e1. then_some (name_at a.0) _ header e1 (λ name at_name e2. then_some (rest_at a.1) _ header e2 (λ cql at_cql e3.
    let is_name = name_gives a.0 name at_name in
    let is_cql = rest_gives a.1 cql at_cql in
    let is : words ≡ name ++ 32 ∷ cql = joined (cut_parts words a cut_a) is_name.0 (is_cql.0) in
    rw (← same _ _ e3) (record { words = rw is refl; named = is_name.1; some = is_cql.1 }))))

pub subcount_back : (name : List ℕ) (cql : List ℕ) → IsName name → cql ≢ [] → subcount_at (name ++ 32 ∷ cql) ≡ Some (Lone (Subcount name cql))
unfolding subcount_at
subcount_back name cql h_name h_cql = rw (cut_at name cql (name_plain name h_name), name_at_yes name h_name, rest_at_yes cql h_cql) refl

pub keywords_gives : (words : List ℕ) (header : Header) → keywords_at words ≡ Some header → HasForm header (codes "keywords" ++ 32 ∷ words)
unfolding keywords_at
keywords_gives words header e =
    then_some (cut words) _ header e (λ a cut_a e1. then_some (name_at a.0) _ header e1 (λ name at_name e2. then_some (cut a.1) _ header e2 (λ b cut_b e3. then_some (identifier_at b.0) _ header e3 (λ attr at_attr e4. then_some (cut b.1) _ header e4 (λ d cut_d e5. then_some (number_at 1 1000000 d.0) _ header e5 (λ rarity at_rarity e6. then_some (small_at d.1) _ header e6 (λ most at_most e7.
    let is_name = name_gives a.0 name at_name in
    let is_attr = identifier_gives b.0 attr at_attr in
    let is_rarity = number_gives 1 1000000 d.0 rarity at_rarity in
    let is_most = small_gives d.1 most at_most in
    let is : words ≡ name ++ 32 ∷ (attr ++ 32 ∷ (decimal rarity ++ 32 ∷ decimal most)) = joined (cut_parts words a cut_a) is_name.0 (joined (cut_parts a.1 b cut_b) is_attr.0 (joined (cut_parts b.1 d cut_d) is_rarity.0 (is_most.0))) in
    rw (← same _ _ e7) (record { words = rw is refl; named = is_name.1; attributed = is_attr.1; weighed = is_rarity.1; small = is_most.1 }))))))))

pub keywords_back : (name : List ℕ) (attr : List ℕ) (rarity : ℕ) (most : ℕ) → IsName name → IsIdentifier attr → IsWithin 1 1000000 rarity → IsSmall most → keywords_at (name ++ 32 ∷ (attr ++ 32 ∷ (decimal rarity ++ 32 ∷ decimal most))) ≡ Some (Lone (Keywords name attr rarity most))
unfolding keywords_at
keywords_back name attr rarity most h_name h_attr h_rarity h_most = rw (cut_at name (attr ++ 32 ∷ (decimal rarity ++ 32 ∷ decimal most)) (name_plain name h_name), name_at_yes name h_name, cut_at attr (decimal rarity ++ 32 ∷ decimal most) (identifier_plain attr h_attr), identifier_at_yes attr h_attr, cut_at (decimal rarity) (decimal most) (within_plain 1 1000000 rarity h_rarity (omega arith)), number_at_yes 1 1000000 rarity h_rarity.low h_rarity.high (omega arith), small_at_yes most h_most) refl

pub range_gives : (words : List ℕ) (range : ℕ × ℕ) → range_at words ≡ Some range → (words ≡ decimal range.0 ++ 32 ∷ decimal range.1) × IsSmall range.0 × IsSmall range.1
unfolding range_at
range_gives words range e =
    then_some (cut words) _ range e (λ a cut_a e1. then_some (small_at a.0) _ range e1 (λ first at_first e2. then_some (small_at a.1) _ range e2 (λ last at_last e3.
    let is_first = small_gives a.0 first at_first in
    let is_last = small_gives a.1 last at_last in
    rw (← same _ _ e3) (joined (cut_parts words a cut_a) is_first.0 is_last.0, is_first.1, is_last.1))))

pub range_back : (first last : ℕ) → IsSmall first → IsSmall last → range_at (decimal first ++ 32 ∷ decimal last) ≡ Some (first, last)
unfolding range_at
range_back first last low high = rw (cut_at (decimal first) (decimal last) (small_plain first low), small_at_yes first low, small_at_yes last high) refl

pub merge_gives : (words : List ℕ) (header : Header) → merge_at words ≡ Some header → HasForm header (codes "merge" ++ 32 ∷ words)
unfolding merge_at
merge_gives words header e =
    then_some (range_at words) _ header e (λ range at_range e1.
    let is_range = range_gives words range at_range in
    rw (← same _ _ e1) (record { words = rw is_range.0 refl; low = is_range.1; high = is_range.2 }))

pub merge_back : (first last : ℕ) → IsSmall first → IsSmall last → merge_at (decimal first ++ 32 ∷ decimal last) ≡ Some (Lone (Merge first last))
unfolding merge_at
merge_back first last low high = rw (range_back first last low high) refl

pub merging_gives : (words : List ℕ) (range : ℕ × ℕ) → merging_at words ≡ Some range → (words ≡ codes "merge" ++ 32 ∷ (decimal range.0 ++ 32 ∷ decimal range.1)) × IsSmall range.0 × IsSmall range.1
unfolding merging_at
merging_gives words range e =
    then_some (cut words) _ range e (λ a cut_a e1. if_some (pointwise nat_eq a.0 (codes "merge")) _ range e1 (λ word e2.
    let is_range = range_gives a.1 range e2 in
    (joined (cut_parts words a cut_a) (spelled a.0 (codes "merge") word) is_range.0, is_range.1, is_range.2)))

pub merging_back : (first last : ℕ) → IsSmall first → IsSmall last → merging_at (codes "merge" ++ 32 ∷ (decimal first ++ 32 ∷ decimal last)) ≡ Some (first, last)
unfolding merging_at cut
merging_back first last low high = range_back first last low high

batch_from_gives : (words : List ℕ) (parts : Option (List ℕ × List ℕ)) (header : Header) → cut words ≡ parts → batch_from words parts ≡ Some header → HasForm header (codes "batch" ++ 32 ∷ words)
batch_from_gives words None header none e =
    then_some (number_at 1 32 words) _ header e (λ number at_number e1.
    let is_number = number_gives 1 32 words number at_number in
    rw (← same _ _ e1) (record { words = rw is_number.0 refl; few = is_number.1 }))
batch_from_gives words (Some a) header cut_a e =
    then_some (number_at 1 32 a.0) _ header e (λ number at_number e1. then_some (merging_at a.1) _ header e1 (λ range at_range e2.
    let is_number = number_gives 1 32 a.0 number at_number in
    let is_range = merging_gives a.1 range at_range in
    let is : words ≡ decimal number ++ 32 ∷ (codes "merge" ++ 32 ∷ (decimal range.0 ++ 32 ∷ decimal range.1)) = joined (cut_parts words a cut_a) is_number.0 is_range.0 in
    rw (← same _ _ e2) (record { words = rw is refl; few = is_number.1; low = is_range.1; high = is_range.2 })))

pub batch_gives : (words : List ℕ) (header : Header) → batch_at words ≡ Some header → HasForm header (codes "batch" ++ 32 ∷ words)
unfolding batch_at
batch_gives words header e = batch_from_gives words (cut words) header refl e

pub batch_back : (number : ℕ) → IsWithin 1 32 number → batch_at (decimal number) ≡ Some (BatchHead number None)
unfolding batch_at
batch_back number few = rw (cut_none (decimal number) (within_plain 1 32 number few (omega arith)), number_at_yes 1 32 number few.low few.high (omega arith)) refl

pub merging_batch_back : (number first last : ℕ) → IsWithin 1 32 number → IsSmall first → IsSmall last →
    batch_at (decimal number ++ 32 ∷ (codes "merge" ++ 32 ∷ (decimal first ++ 32 ∷ decimal last))) ≡ Some (BatchHead number (Some (first, last)))
unfolding batch_at
merging_batch_back number first last few low high = rw (
  cut_at (decimal number) (codes "merge" ++ 32 ∷ (decimal first ++ 32 ∷ decimal last)) (within_plain 1 32 number few (omega arith)),
  number_at_yes 1 32 number few.low few.high (omega arith),
  merging_back first last low high,
) refl

pub partner_gives : (words : List ℕ) (header : Header) → partner_at words ≡ Some header → HasForm header (codes "partner" ++ 32 ∷ words)
unfolding partner_at
partner_gives words header e =
    then_some (cut words) _ header e (λ a cut_a e1. if_some (is_identifier a.0) _ header e1 (λ called e2. then_some (saved_name_at a.0) _ header e2 (λ name at_name e3. then_some (identifier_at a.1) _ header e3 (λ kind at_kind e4.
    let is_name = saved_name_gives a.0 name at_name in
    let is_kind = identifier_gives a.1 kind at_kind in
    let is : words ≡ name ++ 32 ∷ kind = joined (cut_parts words a cut_a) is_name.0 is_kind.0 in
    rw (← same _ _ e4) (record { words = rw is refl; named = is_name.1; called = subst IsIdentifier is_name.0 (identifier_from a.0 called); kinded = is_kind.1 })))))

pub partner_back : (name kind : List ℕ) → IsSavedName name → IsIdentifier name → IsIdentifier kind → partner_at (name ++ 32 ∷ kind) ≡ Some (Lone (Partner name kind))
unfolding partner_at
partner_back name kind named called kinded = rw (cut_at name kind (identifier_plain name called), identifier_true name called, saved_name_at_yes name named, identifier_at_yes kind kinded) refl
