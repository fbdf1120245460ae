-- How lines are read that have no cause against them.
use Rattle.std.proofs.Common.{◌≡◌, ℕ, ◌+◌, ◌-◌, ◌<◌, ◌≤◌, Bool, true, false, ◌==◌, if◌then◌else◌, List, [], ◌∷◌, ◌++◌, length, take, get_or, refl, sym, ◌∙◌, ap, subst, arith, append_assoc, length-append}
use Rattle.std.specs.List.{All, AllZip, flat_map, slice_split}
use Rattle.std.specs.Str.Lines.{lines, lines_of_parts, strip_carriage_return}
use Rattle.std.proofs.lemmas.Bool.{false_from_ne_true, eqb-true}
use Rattle.std.proofs.lemmas.List.Elements.{All-nil, All-cons, All-head, All-tail, All-weaker}
use Rattle.std.proofs.lemmas.List.Splits.{slice_split_at, length-slice_split}
use Rattle.mt_text_spec.specs.Lines.{closed}
use Rattle.mt_text_spec.specs.Registries.{Registry}
use Rattle.mt_text_spec.specs.Texts.{StructSpan, text_tokens_limit, value_bytes_limit}
use Rattle.mt_file_spec.specs.VerticalLines.{Role, Passes, Opens, Stands, Closes, Gives}
use Rattle.mt_file_spec.specs.Vertical.{TextCause, NotUtf8, TooManyTokens, ValueTooLong, HasCause, AreRead, past, token_in, tokens_in, is_tag_of, next_place, begun, instances_from, kept}
use Rattle.mt_generate_laws.proofs.LineRoles.{IsPlain, IsGood, plain_text}

-- ## Lines

two_parts : (x : List ℕ) (parts : List (List ℕ)) → 0 < length parts → lines_of_parts (x ∷ parts) ≡ strip_carriage_return x ∷ lines_of_parts parts
two_parts x [] h = absurd (omega arith)
two_parts x (y ∷ more) h = refl

strip_if : (b : ℕ) (line : List ℕ) → (b ≡ 13 → ⊥) → (if b == 13 then take (length line - 1) line else line) ≡ line
strip_if b line ne = ap (λ t. if t then take (length line - 1) line else line) (false_from_ne_true (b == 13) (λ e. ne (eqb-true b 13 e)))

stays : (line : List ℕ) → All IsPlain line → strip_carriage_return line ≡ line
stays [] plain = refl
stays (b ∷ line) plain = strip_if (get_or (b ∷ line) (length (b ∷ line) - 1) 0) (b ∷ line) ((plain (length (b ∷ line) - 1) 0 (omega arith)).2)

line_then : (line others : List ℕ) → All IsPlain line → lines (line ++ 10 ∷ others) ≡ line ∷ lines others
line_then line others plain =
    let none : All (λ b. (b == 10) ≡ false) line = All-weaker IsPlain (λ b. (b == 10) ≡ false) (λ b h. false_from_ne_true (b == 10) (λ e. h.1 (eqb-true b 10 e))) line plain in
    ap lines_of_parts (slice_split_at (λ b. b == 10) line 10 others none refl)
    ∙ two_parts line (slice_split (λ b. b == 10) others) (let e = length-slice_split (λ b. b == 10) others in omega arith)
    ∙ ap (λ (l : List ℕ). l ∷ lines others) (stays line plain)

-- closed lines are read as they are
pub lines_back : (all : List (List ℕ)) → All (All IsPlain) all → lines (flat_map closed all) ≡ all
lines_back [] plain = refl
lines_back (line ∷ all) plain =
    ap lines (append_assoc line (10 ∷ []) (flat_map closed all))
    ∙ line_then line (flat_map closed all) (All-head (All IsPlain) line all plain)
    ∙ ap (λ (ls : List (List ℕ)). line ∷ ls) (lines_back all (All-tail (All IsPlain) line all plain))

-- ## Lines and what they do

pub zip_append : {X Y : Type 0} (R : X → Y → Type 0) (xs : List X) (bs : List Y) (cs : List X) (ds : List Y) → AllZip R xs bs → AllZip R cs ds → AllZip R (xs ++ cs) (bs ++ ds)
zip_append R [] [] cs ds x y = y
zip_append R [] (b ∷ bs) cs ds x y = absurd x
zip_append R (a ∷ xs) [] cs ds x y = absurd x
zip_append R (a ∷ xs) (b ∷ bs) cs ds x y = (x.0, zip_append R xs bs cs ds x.1 y)

pub plain_lines : (registry : Registry) (ls : List (List ℕ)) (roles : List Role) → AllZip (IsGood registry) ls roles → All (All IsPlain) ls
plain_lines registry [] roles z = All-nil (All IsPlain)
plain_lines registry (line ∷ ls) [] z = absurd z
plain_lines registry (line ∷ ls) (role ∷ roles) z = All-cons (All IsPlain) line ls (z.0).plain (plain_lines registry ls roles z.1)

-- the place behind a line
past_length : (place : ℕ) (role : Role) (roles : List Role) → past place role + length (tokens_in roles) ≡ place + length (tokens_in (role ∷ roles))
past_length place Passes roles = refl
past_length place (Opens kind values) roles = refl
past_length place (Stands kind values) roles = refl
past_length place (Closes kind) roles = refl
past_length place (Gives token) roles = omega arith

no_cause : (registry : Registry) (place : ℕ) (line : List ℕ) (role : Role) (roles : List Role) → IsGood registry line role → place + length (tokens_in (role ∷ roles)) ≤ text_tokens_limit → (cause : TextCause) → HasCause registry place line cause → ⊥
no_cause registry place line role roles good few NotUtf8 h = h (plain_text line good.plain)
no_cause registry place line role roles good few TooManyTokens h =
    let some : 0 < length (token_in role) = good.lone h.1.0 h.1.1 in
    let both : length (token_in role ++ tokens_in roles) ≡ length (token_in role) + length (tokens_in roles) = length-append (token_in role) (tokens_in roles) in
    let full : place ≡ text_tokens_limit = h.0 in
    omega (arith, some, both, full, few)
no_cause registry place line role roles good few ValueTooLong h =
    let value = h.2.1 in
    let low : length (get_or (kept h.0) h.2.0 value) ≤ value_bytes_limit = good.short h.0 h.1 h.2.0 value h.2.2 in
    let high : value_bytes_limit < length value = h.2.4 in
    let same : length (get_or (kept h.0) h.2.0 value) ≡ length value = ap length h.2.3 in
    omega (arith, low, high, same)

pub are_read : (registry : Registry) (place : ℕ) (ls : List (List ℕ)) (roles : List Role) → AllZip (IsGood registry) ls roles → place + length (tokens_in roles) ≤ text_tokens_limit → AreRead registry place ls roles
are_read registry place [] [] z few = tt
are_read registry place [] (role ∷ roles) z few = absurd z
are_read registry place (line ∷ ls) [] z few = absurd z
are_read registry place (line ∷ ls) (role ∷ roles) z few =
    ((z.0).plays, no_cause registry place line role roles z.0 few, are_read registry (past place role) ls roles z.1 (subst (λ n. n ≤ text_tokens_limit) (sym (past_length place role roles)) few))

-- ## Instances

next_if : (t : Bool) (here later : ℕ) → t ≡ false → (if t then here else later) ≡ later
next_if t here later e = ap (λ b. if b then here else later) e

-- an instance ends at the first tag of its kind
pub next_at : (kind place : ℕ) (roles : List Role) (role : Role) (more : List Role) → All (λ r. is_tag_of kind r ≡ false) roles → is_tag_of kind role ≡ true → next_place kind place (roles ++ role ∷ more) ≡ place + length (tokens_in roles)
next_at kind place [] role more none is = let e : place ≡ place + 0 = omega arith in ap (λ b. if b then place else next_place kind (past place role) more) is ∙ e
next_at kind place (first ∷ roles) role more none is =
    next_if (is_tag_of kind first) place (next_place kind (past place first) (roles ++ role ∷ more)) (All-head (λ r. is_tag_of kind r ≡ false) first roles none)
    ∙ next_at kind (past place first) roles role more (All-tail (λ r. is_tag_of kind r ≡ false) first roles none) is ∙ past_length place first roles

-- the line begins no instance of this kind
abbrev pub BeginsNone : ℕ → Role → Type 0
BeginsNone kind role = (place : ℕ) (after : List Role) → begun kind place after role ≡ []

pub none_begun : (kind place : ℕ) (roles : List Role) → All (BeginsNone kind) roles → instances_from kind place roles ≡ []
none_begun kind place [] none = refl
none_begun kind place (role ∷ roles) none =
    ap (λ (spans : List StructSpan). spans ++ instances_from kind (past place role) roles) (All-head (BeginsNone kind) role roles none place roles) ∙ none_begun kind (past place role) roles (All-tail (BeginsNone kind) role roles none)
