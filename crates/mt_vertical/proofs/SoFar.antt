-- What reading a line adds to what was read.
use Rattle.std.proofs.Common.{◌≡◌, ℕ, zero, suc, ◌+◌, ◌<◌, ◌≤◌, List, [], ◌∷◌, ◌++◌, length, get_or, replicate, refl, sym, ◌∙◌, ap, subst, arith, append_assoc, Option, None, Some, option_map}
use Rattle.std.proofs.lemmas.Grind.{common_steps}
use Rattle.mt_text_spec.specs.Registries.{Registry, base_count}
use Rattle.mt_text_spec.specs.Texts.{Token, Text, text_tokens_limit}
use Rattle.mt_file_spec.specs.VerticalLines.{Role, Passes, Opens, Stands, Closes, Gives, Plays}
use Rattle.mt_file_spec.specs.Vertical.{TextCause, HasCause, AreRead, token_in, tokens_in, past, text_lines, instances_in, Vertical, FirstTextFault}
use Rattle.mt_vertical.specs.Causes.{text_cause_of}
use Rattle.mt_vertical.specs.declared.error.TextCause.{TextCause as RustCause}
use Rattle.mt_vertical.specs.Readers.{State, Kept, IsSound, HasReadLine, IsRead, Refuses, step, gathered}
use Rattle.mt_vertical.proofs.KeptInstances.{Stands_for, none_yet, line_more, gathered_all}

-- ## Places

unfoldable pub place_after : ℕ → List Role → ℕ
place_after place [] = place
place_after place (role ∷ roles) = place_after (past place role) roles

past_is : (place : ℕ) (role : Role) → past place role ≡ place + length (token_in role)
past_is place Passes = omega arith
past_is place (Opens number values) = omega arith
past_is place (Stands number values) = omega arith
past_is place (Closes number) = omega arith
past_is place (Gives token) = omega arith

length-both : (xs ys : List Token) → length (xs ++ ys) ≡ length xs + length ys
length-both xs ys = grind (arith, common_steps)

pub place_is : (place : ℕ) (roles : List Role) → place_after place roles ≡ place + length (tokens_in roles)
unfolding place_after
place_is place [] = omega arith
place_is place (role ∷ roles) =
    let here : past place role ≡ place + length (token_in role) = past_is place role in
    let both : length (token_in role ++ tokens_in roles) ≡ length (token_in role) + length (tokens_in roles) = length-both (token_in role) (tokens_in roles) in
    place_is (past place role) roles ∙ omega (arith, here, both)

-- ## Lines

abbrev pub IsGood : Registry → ℕ → List ℕ → Type 0
IsGood registry place line = (cause : TextCause) → ¬ HasCause registry place line cause

read_more : (registry : Registry) (place : ℕ) (ls : List (List ℕ)) (roles : List Role) (line : List ℕ) (role : Role) → AreRead registry place ls roles → Plays registry line role →
    IsGood registry (place_after place roles) line → AreRead registry place (ls ++ line ∷ []) (roles ++ role ∷ [])
unfolding place_after
read_more registry place [] [] line role r p g = (p, g, tt)
read_more registry place [] (x ∷ roles) line role r p g = absurd r
read_more registry place (l ∷ ls) [] line role r p g = absurd r
read_more registry place (l ∷ ls) (x ∷ roles) line role r p g = (r.0, r.1, read_more registry (past place x) ls roles line role r.2 p g)

tokens_more : (roles : List Role) (role : Role) → tokens_in (roles ++ role ∷ []) ≡ tokens_in roles ++ token_in role
tokens_more roles role = grind (arith, common_steps)

-- what was read so far
pub record HasRead (registry : Registry) (all rest : List (List ℕ)) (number : ℕ) (state : State) : Type 0 where
  pub before : List (List ℕ)
  pub roles : List Role
  pub are : all ≡ before ++ rest
  pub count : number ≡ length before
  pub read : AreRead registry 0 before roles
  pub tokens : state.tokens ≡ tokens_in roles
  pub kinds : (kind : ℕ) → kind < length state.kinds → Stands_for kind (length state.tokens) roles (get_or state.kinds kind (record { done = []; open_one = None }))
  pub sound : IsSound registry state

abbrev nothing : Kept
nothing = record { done = []; open_one = None }

at_copies : (n k : ℕ) → get_or (replicate n nothing) k nothing ≡ nothing
at_copies zero k = refl
at_copies (suc n) zero = refl
at_copies (suc n) (suc k) = at_copies n k

copies_len : (n : ℕ) → length (replicate n nothing) ≡ n
copies_len zero = refl
copies_len (suc n) = ap suc (copies_len n)

-- before the first line
pub nothing_read : (registry : Registry) (all rest : List (List ℕ)) (state : State) → rest ≡ all → state.columns ≡ base_count registry.attrs → state.tokens ≡ [] →
    state.kinds ≡ replicate (length registry.kinds) nothing → HasRead registry all rest 0 state
nothing_read registry all rest state e c t k = record {
  before = [];
  roles = [];
  are = sym e;
  count = refl;
  read = tt;
  tokens = t;
  kinds = λ kind l.
      let P : Kept → Type 0 = λ k. Stands_for kind (length state.tokens) [] k in
      let Q : ℕ → Type 0 = λ p. Stands_for kind p [] nothing in
      subst P (sym (ap (λ ks. get_or ks kind nothing) k ∙ at_copies (length registry.kinds) kind)) (subst Q (sym (ap length t)) (none_yet kind));
  sound = record {
    columns = c;
    few = let P : ℕ → Type 0 = λ n. n ≤ text_tokens_limit in subst P (sym (ap length t)) (omega arith);
    count = ap length k ∙ copies_len (length registry.kinds);
  };
}

snoc_len : {A : Type 0} → (xs : List A) (x : A) → length (xs ++ x ∷ []) ≡ length xs + 1
snoc_len xs x = grind (arith, common_steps)

next_number : (number next : ℕ) (before : List (List ℕ)) (line : List ℕ) → next ≡ number + 1 → number ≡ length before → next ≡ length (before ++ line ∷ [])
next_number number next before line n c = omega (arith, n, c, snoc_len before line)

place_before : (roles : List Role) (tokens : List Token) → tokens ≡ tokens_in roles → length tokens ≡ place_after 0 roles
place_before roles tokens t = ap length t ∙ omega (arith, place_is 0 roles)

place_behind : (old new : List Token) (role : Role) → new ≡ old ++ token_in role → past (length old) role ≡ length new
place_behind old new role t = past_is (length old) role ∙ sym (ap length t ∙ length-both old (token_in role))

-- where no cause is told the line is read
pub line_is_read : (registry : Registry) (state : State) (line : List ℕ) (new : State) (found : Option RustCause) → found ≡ None → IsRead registry state line new (option_map text_cause_of found) →
    HasReadLine registry state line new
line_is_read registry state line new None e h = h
line_is_read registry state line new (Some cause) e h = cc

-- a line more
pub line_read : (registry : Registry) (all old rest : List (List ℕ)) (line : List ℕ) (number next : ℕ) (state new : State) → HasRead registry all old number state → old ≡ line ∷ rest → next ≡ number + 1 →
    HasReadLine registry state line new → HasRead registry all rest next new
line_read registry all old rest line number next state new h e n r = record {
  before = h.before ++ line ∷ [];
  roles = h.roles ++ r.role ∷ [];
  are = h.are ∙ ap (λ ls. h.before ++ ls) e ∙ sym (append_assoc h.before (line ∷ []) rest);
  count = next_number number next h.before line n h.count;
  read = read_more registry 0 h.before h.roles line r.role h.read r.plays (let P : ℕ → Type 0 = λ p. IsGood registry p line in subst P (place_before h.roles state.tokens h.tokens) r.good);
  tokens = r.did.tokens ∙ ap (λ ts. ts ++ token_in r.role) h.tokens ∙ sym (tokens_more h.roles r.role);
  kinds = λ kind l.
      let within : kind < length state.kinds = omega (arith, l, r.did.count) in
      let P : Kept → Type 0 = λ k. Stands_for kind (length new.tokens) (h.roles ++ r.role ∷ []) k in
      let Q : ℕ → Type 0 = λ p. Stands_for kind p (h.roles ++ r.role ∷ []) (step kind (length state.tokens) r.role (get_or state.kinds kind nothing)) in
      subst P (sym (r.did.each kind nothing within))
      (subst Q (place_behind state.tokens new.tokens r.role r.did.tokens) (line_more kind (length state.tokens) h.roles r.role (get_or state.kinds kind nothing) (h.kinds kind within)));
  sound = r.sound;
}

append_nil : {A : Type 0} → (xs : List A) → xs ++ [] ≡ xs
append_nil [] = refl
append_nil (x ∷ xs) = ap (λ ys. x ∷ ys) (append_nil xs)

-- behind the last line
pub text_is : (registry : Registry) (name bytes : List ℕ) (number : ℕ) (state : State) (text : Text) → HasRead registry (text_lines bytes) [] number state → text.name ≡ name → text.tokens ≡ state.tokens →
    text.structs ≡ gathered 0 (length state.tokens) state.kinds → Vertical registry name bytes text
text_is registry name bytes number state text h n t s = record {
  roles = h.roles;
  read = let P : List (List ℕ) → Type 0 = λ ls. AreRead registry 0 ls h.roles in subst P (sym (h.are ∙ append_nil h.before)) h.read;
  named = n;
  tokens = t ∙ h.tokens;
  structs = s ∙ gathered_all (length state.tokens) h.roles state.kinds nothing h.kinds ∙ ap (λ n. instances_in n h.roles) h.sound.count;
}

-- at a line that has a cause
pub fault_is : (registry : Registry) (bytes : List ℕ) (old rest : List (List ℕ)) (line : List ℕ) (number next : ℕ) (state : State) (cause : TextCause) → HasRead registry (text_lines bytes) old number state →
    old ≡ line ∷ rest → next ≡ number + 1 → Refuses registry state line cause → FirstTextFault registry bytes next cause
fault_is registry bytes old rest line number next state cause h e n r = record {
  before = h.before;
  line = line;
  after = rest;
  are = h.are ∙ ap (λ ls. h.before ++ ls) e;
  place = omega (arith, n, h.count);
  roles = h.roles;
  read = h.read;
  has = let P : ℕ → Type 0 = λ p. HasCause registry p line cause in subst P (ap length h.tokens) r.has;
  first = λ other low. let P : ℕ → Type 0 = λ p. ¬ HasCause registry p line other in subst P (ap length h.tokens) (r.first other low);
}
