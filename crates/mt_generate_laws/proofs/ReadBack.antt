-- A generated vertical is read as the generated text.
use Rattle.std.proofs.Common.{◌≡◌, ℕ, zero, suc, ◌+◌, ◌-◌, ◌*◌, ◌≤◌, min, false, List, [], ◌∷◌, ◌++◌, length, map, codes, refl, sym, ◌∙◌, ap, ap₂, arith, append_assoc, append-nil}
use Rattle.std.specs.List.{All, AllZip, flat_map, range_with_len}
use Rattle.std.proofs.lemmas.Grind.{flat_map-append}
use Rattle.std.proofs.lemmas.List.Elements.{All-nil, All-cons, All-append}
use Rattle.std.proofs.lemmas.List.FromFn.{length-map-range_with_len}
use Rattle.mt_text_spec.specs.Words.{IsName}
use Rattle.mt_text_spec.specs.Registries.{standard_registry}
use Rattle.mt_text_spec.specs.Texts.{Token, StructSpan, text_tokens_limit}
use Rattle.mt_file_spec.specs.VerticalLines.{Role, Opens, Closes, Gives}
use Rattle.mt_file_spec.specs.Vertical.{Vertical, text_lines, token_in, tokens_in, is_tag_of, next_place, instances_from}
use Rattle.mt_generate_spec.specs.Draws.{draw}
use Rattle.mt_generate_spec.specs.Generated.{token_at, tokens_from, sentence_count, sentence_begin, sentence_end, sentence, document, generated_text}
use Rattle.mt_generate_spec.specs.Verticals.{token_line, sentence_lines, vertical_lines, generated_vertical}
use Rattle.mt_generate_laws.proofs.ValidTexts.{rank_small}
use Rattle.mt_generate_laws.proofs.LineRoles.{IsGood, doc_opens, doc_closes, s_opens, s_closes, token_gives}
use Rattle.mt_generate_laws.proofs.ReadLines.{lines_back, zip_append, plain_lines, are_read, next_at, BeginsNone, none_begun}

-- ## What the lines do

abbrev sentence_tokens : ℕ → ℕ → ℕ → List Token
sentence_tokens seed tokens number = tokens_from seed (sentence_begin number) (sentence_end tokens number - sentence_begin number)

abbrev sentence_roles : ℕ → ℕ → ℕ → List Role
sentence_roles seed tokens number = Opens 1 [] ∷ (map Gives (sentence_tokens seed tokens number) ++ Closes 1 ∷ [])

abbrev inner_roles : ℕ → ℕ → ℕ → ℕ → List Role
inner_roles seed tokens number count = flat_map (sentence_roles seed tokens) (range_with_len number count)

abbrev roles_of : List ℕ → ℕ → ℕ → List Role
roles_of name seed tokens = Opens 0 (name ∷ []) ∷ (inner_roles seed tokens 0 (sentence_count tokens) ++ Closes 0 ∷ [])

token_good : (seed place : ℕ) → IsGood standard_registry (token_line (token_at seed place)) (Gives (token_at seed place))
unfolding token_at
token_good seed place = token_gives _ _ (rank_small (draw seed (3 * place)) (draw seed (3 * place + 1)))

tokens_good : (seed place count : ℕ) → AllZip (IsGood standard_registry) (map token_line (tokens_from seed place count)) (map Gives (tokens_from seed place count))
tokens_good seed place zero = tt
tokens_good seed place (suc count) = (token_good seed place, tokens_good seed (place + 1) count)

sentence_good : (seed tokens number : ℕ) → AllZip (IsGood standard_registry) (sentence_lines seed tokens number) (sentence_roles seed tokens number)
sentence_good seed tokens number =
    let ts = sentence_tokens seed tokens number in
    (s_opens, zip_append (IsGood standard_registry) (map token_line ts) (map Gives ts) (codes "</s>" ∷ []) (Closes 1 ∷ []) (tokens_good seed (sentence_begin number) (sentence_end tokens number - sentence_begin number)) (s_closes, tt))

sentences_good : (seed tokens number count : ℕ) → AllZip (IsGood standard_registry) (flat_map (sentence_lines seed tokens) (range_with_len number count)) (inner_roles seed tokens number count)
sentences_good seed tokens number zero = tt
sentences_good seed tokens number (suc count) = zip_append (IsGood standard_registry) (sentence_lines seed tokens number) (sentence_roles seed tokens number)
    (flat_map (sentence_lines seed tokens) (range_with_len (number + 1) count)) (inner_roles seed tokens (number + 1) count) (sentence_good seed tokens number) (sentences_good seed tokens (number + 1) count)

lines_good : (name : List ℕ) (seed tokens : ℕ) → IsName name → AllZip (IsGood standard_registry) (vertical_lines name seed tokens) (roles_of name seed tokens)
lines_good name seed tokens is = (
  doc_opens name is,
  zip_append (IsGood standard_registry) (flat_map (sentence_lines seed tokens) (range_with_len 0 (sentence_count tokens))) (inner_roles seed tokens 0 (sentence_count tokens)) (codes "</doc>" ∷ []) (Closes 0 ∷ [])
      (sentences_good seed tokens 0 (sentence_count tokens)) (doc_closes, tt),
)

-- ## Tokens

given_tokens : (ts : List Token) → tokens_in (map Gives ts) ≡ ts
given_tokens [] = refl
given_tokens (token ∷ ts) = ap (λ (rest : List Token). token ∷ rest) (given_tokens ts)

of_sentence : (seed tokens number : ℕ) → tokens_in (sentence_roles seed tokens number) ≡ sentence_tokens seed tokens number
of_sentence seed tokens number =
    let ts = sentence_tokens seed tokens number in
    flat_map-append token_in (map Gives ts) (Closes 1 ∷ []) ∙ append-nil (tokens_in (map Gives ts)) ∙ given_tokens ts

tokens_join : (seed place first more : ℕ) → tokens_from seed place first ++ tokens_from seed (place + first) more ≡ tokens_from seed place (first + more)
tokens_join seed place zero more = let e : place + 0 ≡ place = omega arith in let z : more ≡ 0 + more = omega arith in ap₂ (λ p n. tokens_from seed p n) e z
tokens_join seed place (suc first) more =
    let e : place + suc first ≡ place + 1 + first = omega arith in
    let n : suc (first + more) ≡ suc first + more = omega arith in
    ap (λ p. tokens_from seed place (suc first) ++ tokens_from seed p more) e ∙ ap (λ (ts : List Token). token_at seed place ∷ ts) (tokens_join seed (place + 1) first more) ∙ ap (tokens_from seed place) n

inner_tokens : (seed tokens number count : ℕ) → number + count ≡ sentence_count tokens → tokens_in (inner_roles seed tokens number count) ≡ tokens_from seed (min (10 * number) tokens) (tokens - min (10 * number) tokens)
inner_tokens seed tokens number zero all = let none : 0 ≡ tokens - min (10 * number) tokens = omega (arith, all) in ap (tokens_from seed (min (10 * number) tokens)) none
inner_tokens seed tokens number (suc count) all =
    let begin = min (10 * number) tokens in
    let next = min (10 * (number + 1)) tokens in
    let size = sentence_end tokens number - sentence_begin number in
    let at : sentence_begin number ≡ begin = omega (arith, all) in
    let on : next ≡ begin + size = omega (arith, all) in
    let whole : size + (tokens - next) ≡ tokens - begin = omega (arith, all) in
    flat_map-append token_in (sentence_roles seed tokens number) (inner_roles seed tokens (number + 1) count)
    ∙ ap₂ (λ (xs ys : List Token). xs ++ ys) (of_sentence seed tokens number ∙ ap (λ p. tokens_from seed p size) at)
    (inner_tokens seed tokens (number + 1) count (omega (arith, all)) ∙ ap (λ p. tokens_from seed p (tokens - next)) on)
    ∙ tokens_join seed begin size (tokens - next) ∙ ap (tokens_from seed begin) whole

all_inner : (seed tokens : ℕ) → tokens_in (inner_roles seed tokens 0 (sentence_count tokens)) ≡ tokens_from seed 0 tokens
all_inner seed tokens =
    let first : min (10 * 0) tokens ≡ 0 = omega arith in
    let all : tokens - min (10 * 0) tokens ≡ tokens = omega arith in
    inner_tokens seed tokens 0 (sentence_count tokens) (omega arith) ∙ ap₂ (λ p n. tokens_from seed p n) first all

all_tokens : (name : List ℕ) (seed tokens : ℕ) → tokens_in (roles_of name seed tokens) ≡ tokens_from seed 0 tokens
all_tokens name seed tokens =
    let inner = inner_roles seed tokens 0 (sentence_count tokens) in
    flat_map-append token_in inner (Closes 0 ∷ []) ∙ append-nil (tokens_in inner) ∙ all_inner seed tokens

-- ## Instances

-- what is so of all lines of tokens and of the tags of sentences
each_given : (Q : Role → Type 0) → ((token : Token) → Q (Gives token)) → (ts : List Token) → All Q (map Gives ts)
each_given Q gives [] = All-nil Q
each_given Q gives (token ∷ ts) = All-cons Q (Gives token) (map Gives ts) (gives token) (each_given Q gives ts)

each_inner : (Q : Role → Type 0) → Q (Opens 1 []) → ((token : Token) → Q (Gives token)) → Q (Closes 1) → (seed tokens number count : ℕ) → All Q (inner_roles seed tokens number count)
each_inner Q opens gives closes seed tokens number zero = All-nil Q
each_inner Q opens gives closes seed tokens number (suc count) =
    let ts = sentence_tokens seed tokens number in
    All-append Q (sentence_roles seed tokens number) (inner_roles seed tokens (number + 1) count)
    (All-cons Q (Opens 1 []) (map Gives ts ++ Closes 1 ∷ []) opens (All-append Q (map Gives ts) (Closes 1 ∷ []) (each_given Q gives ts) (All-cons Q (Closes 1) [] closes (All-nil Q))))
    (each_inner Q opens gives closes seed tokens (number + 1) count)

span : ℕ → ℕ → List (List ℕ) → StructSpan
span begin end values = record { kind = 0; begin = begin; end = end; values = values }

documents : (name : List ℕ) (seed tokens : ℕ) → instances_from 0 0 (roles_of name seed tokens) ≡ document name tokens ∷ []
documents name seed tokens =
    let inner = inner_roles seed tokens 0 (sentence_count tokens) in
    let plain : All (λ r. is_tag_of 0 r ≡ false) inner = each_inner (λ r. is_tag_of 0 r ≡ false) refl (λ token. refl) refl seed tokens 0 (sentence_count tokens) in
    let none : All (BeginsNone 0) inner = each_inner (BeginsNone 0) (λ place after. refl) (λ token place after. refl) (λ place after. refl) seed tokens 0 (sentence_count tokens) in
    let last : All (BeginsNone 0) (Closes 0 ∷ []) = All-cons (BeginsNone 0) (Closes 0) [] (λ place after. refl) (All-nil (BeginsNone 0)) in
    let count : 0 + length (tokens_in inner) ≡ tokens = let l = ap length (all_inner seed tokens) ∙ length-map-range_with_len (token_at seed) 0 tokens in omega (arith, l) in
    let end : next_place 0 0 (inner ++ Closes 0 ∷ []) ≡ tokens = next_at 0 0 inner (Closes 0) [] plain refl ∙ count in
    ap₂ (λ (n : ℕ) (rest : List StructSpan). document name n ∷ rest) end (none_begun 0 0 (inner ++ Closes 0 ∷ []) (All-append (BeginsNone 0) inner (Closes 0 ∷ []) none last))

others : (name : List ℕ) (seed tokens : ℕ) → instances_from 2 0 (roles_of name seed tokens) ≡ []
others name seed tokens =
    let inner = inner_roles seed tokens 0 (sentence_count tokens) in
    let none : All (BeginsNone 2) inner = each_inner (BeginsNone 2) (λ place after. refl) (λ token place after. refl) (λ place after. refl) seed tokens 0 (sentence_count tokens) in
    let last : All (BeginsNone 2) (Closes 0 ∷ []) = All-cons (BeginsNone 2) (Closes 0) [] (λ place after. refl) (All-nil (BeginsNone 2)) in
    none_begun 2 0 (roles_of name seed tokens)
    (All-cons (BeginsNone 2) (Opens 0 (name ∷ [])) (inner ++ Closes 0 ∷ []) (λ place after. refl) (All-append (BeginsNone 2) inner (Closes 0 ∷ []) none last))

-- past the tokens of a sentence
past_given : (place : ℕ) (ts : List Token) (more : List Role) → instances_from 1 place (map Gives ts ++ Closes 1 ∷ more) ≡ instances_from 1 (place + length ts) more
past_given place [] more = let e : place ≡ place + 0 = omega arith in ap (λ p. instances_from 1 p more) e
past_given place (token ∷ ts) more = let e : place + 1 + length ts ≡ place + length (token ∷ ts) = omega arith in past_given (place + 1) ts more ∙ ap (λ p. instances_from 1 p more) e

next_given : (place : ℕ) (ts : List Token) (more : List Role) → next_place 1 place (map Gives ts ++ Closes 1 ∷ more) ≡ place + length ts
next_given place ts more =
    next_at 1 place (map Gives ts) (Closes 1) more (each_given (λ r. is_tag_of 1 r ≡ false) (λ token. refl) ts) refl ∙ ap (λ (xs : List Token). place + length xs) (given_tokens ts)

regroup : (seed tokens number : ℕ) (rest : List Role) → sentence_roles seed tokens number ++ rest ≡ Opens 1 [] ∷ (map Gives (sentence_tokens seed tokens number) ++ Closes 1 ∷ rest)
regroup seed tokens number rest = ap (λ (rs : List Role). Opens 1 [] ∷ rs) (append_assoc (map Gives (sentence_tokens seed tokens number)) (Closes 1 ∷ []) rest)

abbrev one : ℕ → ℕ → StructSpan
one begin end = record { kind = 1; begin = begin; end = end; values = [] }

sentences : (seed tokens number count : ℕ) → number + count ≡ sentence_count tokens →
    instances_from 1 (min (10 * number) tokens) (inner_roles seed tokens number count ++ Closes 0 ∷ []) ≡ map (sentence tokens) (range_with_len number count)
sentences seed tokens number zero all = refl
sentences seed tokens number (suc count) all =
    let place = min (10 * number) tokens in
    let next = min (10 * (number + 1)) tokens in
    let ts = sentence_tokens seed tokens number in
    let rest = inner_roles seed tokens (number + 1) count ++ Closes 0 ∷ [] in
    let size : length ts ≡ sentence_end tokens number - sentence_begin number = length-map-range_with_len (token_at seed) (sentence_begin number) (sentence_end tokens number - sentence_begin number) in
    let begins : place ≡ sentence_begin number = omega (arith, all) in
    let on : place + length ts ≡ next = omega (arith, all, size) in
    let ends : place + length ts ≡ sentence_end tokens number = omega (arith, all, size) in
    ap (instances_from 1 place) (append_assoc (sentence_roles seed tokens number) (inner_roles seed tokens (number + 1) count) (Closes 0 ∷ []) ∙ regroup seed tokens number rest)
    ∙ ap₂ (λ (e : ℕ) (spans : List StructSpan). one place e ∷ spans) (next_given place ts rest ∙ ends)
    (past_given place ts rest ∙ ap (λ p. instances_from 1 p rest) on ∙ sentences seed tokens (number + 1) count (omega (arith, all)))
    ∙ ap (λ b. one b (sentence_end tokens number) ∷ map (sentence tokens) (range_with_len (number + 1) count)) begins

all_sentences : (name : List ℕ) (seed tokens : ℕ) → instances_from 1 0 (roles_of name seed tokens) ≡ map (sentence tokens) (range_with_len 0 (sentence_count tokens))
all_sentences name seed tokens =
    let first : 0 ≡ min (10 * 0) tokens = omega arith in
    ap (λ p. instances_from 1 p (inner_roles seed tokens 0 (sentence_count tokens) ++ Closes 0 ∷ [])) first ∙ sentences seed tokens 0 (sentence_count tokens) (omega arith)

-- ## The text

pub read_back : (name : List ℕ) (seed tokens : ℕ) → IsName name → tokens ≤ text_tokens_limit → Vertical standard_registry name (generated_vertical name seed tokens) (generated_text name seed tokens)
read_back name seed tokens is few =
    let roles = roles_of name seed tokens in
    let good = lines_good name seed tokens is in
    let back : text_lines (generated_vertical name seed tokens) ≡ vertical_lines name seed tokens = lines_back (vertical_lines name seed tokens) (plain_lines standard_registry (vertical_lines name seed tokens) roles good) in
    let many : 0 + length (tokens_in roles) ≤ text_tokens_limit = let l = ap length (all_tokens name seed tokens) ∙ length-map-range_with_len (token_at seed) 0 tokens in omega (arith, l, few) in
    let begun : instances_from 0 0 roles ++ instances_from 1 0 roles ++ instances_from 2 0 roles ≡ document name tokens ∷ map (sentence tokens) (range_with_len 0 (sentence_count tokens)) =
    ap (λ (spans : List StructSpan). spans ++ instances_from 1 0 roles ++ instances_from 2 0 roles) (documents name seed tokens)
    ∙ ap₂ (λ (ones twos : List StructSpan). document name tokens ∷ ones ++ twos) (all_sentences name seed tokens) (others name seed tokens)
    ∙ ap (λ (spans : List StructSpan). document name tokens ∷ spans) (append-nil (map (sentence tokens) (range_with_len 0 (sentence_count tokens)))) in
    record {
      roles = roles;
      read = rw back (are_read standard_registry 0 (vertical_lines name seed tokens) roles good many);
      named = refl;
      tokens = sym (all_tokens name seed tokens);
      structs = sym begun;
    }
