-- What a line that was read does, and that it has no cause.
use Rattle.std.proofs.Common.{◌≡◌, ◌≢◌, ℕ, zero, suc, ◌+◌, ◌<◌, ◌≤◌, inl, inr, List, [], ◌∷◌, ◌++◌, length, map, get_or, refl, sym, ◌∙◌, ap, subst, arith, Some}
use Rattle.std.specs.Prelude.{slice_get}
use Rattle.std.specs.List.{Contains}
use Rattle.std.specs.Str.{IsUtf8}
use Rattle.std.proofs.lemmas.Grind.{common_steps}
use Rattle.mt_text_spec.specs.Registries.{Registry, Kind, ValidRegistry, kind_names}
use Rattle.mt_text_spec.specs.Texts.{Token, text_tokens_limit, value_bytes_limit}
use Rattle.mt_file_spec.specs.Tags.{TagAttr, OpeningTag, EmptyTag, ClosingTag, IsTag, tag_value}
use Rattle.mt_file_spec.specs.VerticalLines.{IsSkipped, Role, Passes, Opens, Stands, Closes, Gives, Plays, tag_name, columns, first_columns}
use Rattle.mt_file_spec.specs.Vertical.{TextCause, NotUtf8, TooManyTokens, ValueTooLong, cause_rank, HasCause, token_in, kept}
use Rattle.mt_vertical.specs.declared.tags.Form.{Form}
use Rattle.mt_vertical.specs.declared.tags.Form.TheVariants as form
use Rattle.mt_vertical.specs.Lines.{IsToken}
use Rattle.mt_vertical.specs.Readers.{State, Kept, Did, DidKinds, state_of, step, IsSound, HasReadLine, Refuses, AreShort, HasLong, token_role}
use Rattle.mt_vertical.specs.TagReading.{ReadsAttrs}
use Rattle.mt_vertical.specs.TagForms.{IsFound, tag_of}
use Rattle.mt_vertical.proofs.Steps.{same}
use Rattle.mt_vertical.proofs.OneRole.{plays_once}

-- ## Causes

not_long : (values : List (List ℕ)) → AreShort values → HasLong values → ⊥
not_long values short any =
    let here : length (get_or values any.0 any.1) ≤ value_bytes_limit = short any.0 any.1 any.2 in
    let is : get_or values any.0 any.1 ≡ any.1 = any.3 in
    let low : length any.1 ≤ value_bytes_limit = subst (λ v. length v ≤ value_bytes_limit) is here in
    let high : value_bytes_limit < length any.1 = any.4 in omega arith

no_cause : (registry : Registry) (place : ℕ) (line : List ℕ) (role : Role) → ValidRegistry registry → IsUtf8 line → Plays registry line role → ((token : Token) → role ≡ Gives token → place ≢ text_tokens_limit) →
    AreShort (kept role) → (cause : TextCause) → ¬ HasCause registry place line cause
no_cause registry place line role v u p few short NotUtf8 h = h u
no_cause registry place line role v u p few short TooManyTokens h = few h.1.0 (plays_once registry line role (Gives h.1.0) v p h.1.1) h.0
no_cause registry place line role v u p few short ValueTooLong h =
    not_long (kept role) short (let P : Role → Type 0 = λ r. HasLong (kept r) in subst P (plays_once registry line h.0 role v h.1 p) h.2)

gives_none : (token : Token) → Passes ≡ Gives token → ⊥
gives_none token e = cc

opens_none : (kind : ℕ) (values : List (List ℕ)) (token : Token) → Opens kind values ≡ Gives token → ⊥
opens_none kind values token e = cc

stands_none : (kind : ℕ) (values : List (List ℕ)) (token : Token) → Stands kind values ≡ Gives token → ⊥
stands_none kind values token e = cc

closes_none : (kind : ℕ) (token : Token) → Closes kind ≡ Gives token → ⊥
closes_none kind token e = cc

none_short : AreShort []
none_short k d l = absurd (omega arith)

-- ## Lines that do nothing

append_nil : {A : Type 0} → (xs : List A) → xs ++ [] ≡ xs
append_nil [] = refl
append_nil (x ∷ xs) = ap (λ ys. x ∷ ys) (append_nil xs)

passes : (registry : Registry) (state : State) (line : List ℕ) → ValidRegistry registry → IsSound registry state → IsUtf8 line → Plays registry line Passes → HasReadLine registry state line state
passes registry state line v s u p = record {
  role = Passes;
  plays = p;
  good = no_cause registry (length state.tokens) line Passes v u p (λ token e. absurd (gives_none token e)) none_short;
  did = record { columns = refl; tokens = sym (append_nil state.tokens); count = refl; each = λ kind d l. refl };
  sound = s;
}

pub skipped_read : (registry : Registry) (state : State) (line : List ℕ) → ValidRegistry registry → IsSound registry state → IsUtf8 line → IsSkipped line → HasReadLine registry state line state
skipped_read registry state line v s u k = passes registry state line v s u (inl k)

name_of_tag : (f : Form) (name : List ℕ) (attrs : List TagAttr) → tag_name (tag_of f name attrs) ≡ name
name_of_tag form.Opening name attrs = refl
name_of_tag form.Empty name attrs = refl
name_of_tag form.Closing name attrs = refl

pub foreign_read : (registry : Registry) (state : State) (f : Form) (name region : List ℕ) → ValidRegistry registry → IsSound registry state → ¬ Contains (kind_names registry.kinds) name →
    (line : List ℕ) → IsUtf8 line → IsFound line f name region → HasReadLine registry state line state
foreign_read registry state f name region v s n line u h = passes registry state line v s u (inr (
  tag_of f name h.attrs,
  record {
    spelled = h.spelled;
    foreign = let P : List ℕ → Type 0 = λ m. ¬ Contains (kind_names registry.kinds) m in subst P (sym (name_of_tag f name h.attrs)) n;
  },
))

-- ## Tags of declared kinds

pub did_kinds : (columns place : ℕ) (tokens : List Token) (old new : List Kept) (role : Role) → place ≡ length tokens → token_in role ≡ [] → DidKinds place old role new →
    Did (state_of columns tokens old) role (state_of columns tokens new)
did_kinds columns place tokens old new role e none d = record {
  columns = refl;
  tokens = sym (append_nil tokens) ∙ ap (λ ts. tokens ++ ts) (sym none);
  count = d.count;
  each = λ kind k l. let P : ℕ → Type 0 = λ p. get_or new kind k ≡ step kind p role (get_or old kind k) in subst P e (d.each kind k l);
}

sound_same : (registry : Registry) (state new : State) (role : Role) → IsSound registry state → Did state role new → token_in role ≡ [] → IsSound registry new
sound_same registry state new role s d none =
    let same : new.tokens ≡ state.tokens = d.tokens ∙ ap (λ ts. state.tokens ++ ts) none ∙ append_nil state.tokens in
    record { columns = d.columns ∙ s.columns; few = rw same s.few; count = d.count ∙ s.count }

-- the kind of this number
record KindAt (kinds : List Kind) (number : ℕ) (name : List ℕ) (kind : Kind) : Type 0 where
  pub declared : slice_get kinds number ≡ Some kind
  pub named : kind.name ≡ name

kind_at : (kinds : List Kind) (number : ℕ) (name : List ℕ) (kind : Kind) → slice_get (kind_names kinds) number ≡ Some name → kind ≡ get_or kinds number kind → KindAt kinds number name kind
kind_at [] number name kind e k = cc
kind_at (x ∷ kinds) zero name kind e k = record { declared = ap (λ k. Some k) (sym k); named = ap (λ k. k.name) k ∙ same x.name name e }
kind_at (x ∷ kinds) (suc number) name kind e k = let r = kind_at kinds number name kind e k in record { declared = r.declared; named = r.named }

opening_plays : (registry : Registry) (line name region : List ℕ) (number : ℕ) (kind : Kind) (values : List (List ℕ)) → KindAt registry.kinds number name kind → IsFound line form.Opening name region →
    ((all : List TagAttr) (rest : List ℕ) → ReadsAttrs region all rest → values ≡ map (tag_value all) kind.attrs) → Plays registry line (Opens number values)
opening_plays registry line name region number kind values k h are = record {
  kind = kind;
  declared = k.declared;
  attrs = h.attrs;
  spelled = let P : List ℕ → Type 0 = λ n. IsTag line (OpeningTag n h.attrs) in subst P (sym k.named) h.spelled;
  are = are h.attrs h.inside.0 h.inside.1;
}

empty_plays : (registry : Registry) (line name region : List ℕ) (number : ℕ) (kind : Kind) (values : List (List ℕ)) → KindAt registry.kinds number name kind → IsFound line form.Empty name region →
    ((all : List TagAttr) (rest : List ℕ) → ReadsAttrs region all rest → values ≡ map (tag_value all) kind.attrs) → Plays registry line (Stands number values)
empty_plays registry line name region number kind values k h are = record {
  kind = kind;
  declared = k.declared;
  attrs = h.attrs;
  spelled = let P : List ℕ → Type 0 = λ n. IsTag line (EmptyTag n h.attrs) in subst P (sym k.named) h.spelled;
  are = are h.attrs h.inside.0 h.inside.1;
}

closing_plays : (registry : Registry) (line name region : List ℕ) (number : ℕ) (kind : Kind) → KindAt registry.kinds number name kind → IsFound line form.Closing name region → Plays registry line (Closes number)
closing_plays registry line name region number kind k h = record {
  kind = kind;
  declared = k.declared;
  spelled = let P : List ℕ → Type 0 = λ n. IsTag line (ClosingTag n) in subst P (sym k.named) h.spelled;
}

of_form : (line : List ℕ) (f g : Form) (name region : List ℕ) → f ≡ g → IsFound line f name region → IsFound line g name region
of_form line f g name region e h = let P : Form → Type 0 = λ f. IsFound line f name region in subst P e h

pub opening_read : (registry : Registry) (state new : State) (f : Form) (name region : List ℕ) (number : ℕ) (kind : Kind) (values : List (List ℕ)) → ValidRegistry registry → IsSound registry state →
    f ≡ form.Opening → slice_get (kind_names registry.kinds) number ≡ Some name → kind ≡ get_or registry.kinds number kind →
    ((all : List TagAttr) (rest : List ℕ) → ReadsAttrs region all rest → values ≡ map (tag_value all) kind.attrs) → AreShort values → Did state (Opens number values) new →
    (line : List ℕ) → IsUtf8 line → IsFound line f name region → HasReadLine registry state line new
opening_read registry state new f name region number kind values v s e n k are short d line u h =
    let p : Plays registry line (Opens number values) = opening_plays registry line name region number kind values (kind_at registry.kinds number name kind n k) (of_form line f form.Opening name region e h) are in
    record {
      role = Opens number values;
      plays = p;
      good = no_cause registry (length state.tokens) line (Opens number values) v u p (λ token e. absurd (opens_none number values token e)) short;
      did = d;
      sound = sound_same registry state new (Opens number values) s d refl;
    }

pub empty_read : (registry : Registry) (state new : State) (f : Form) (name region : List ℕ) (number : ℕ) (kind : Kind) (values : List (List ℕ)) → ValidRegistry registry → IsSound registry state →
    f ≡ form.Empty → slice_get (kind_names registry.kinds) number ≡ Some name → kind ≡ get_or registry.kinds number kind →
    ((all : List TagAttr) (rest : List ℕ) → ReadsAttrs region all rest → values ≡ map (tag_value all) kind.attrs) → AreShort values → Did state (Stands number values) new →
    (line : List ℕ) → IsUtf8 line → IsFound line f name region → HasReadLine registry state line new
empty_read registry state new f name region number kind values v s e n k are short d line u h =
    let p : Plays registry line (Stands number values) = empty_plays registry line name region number kind values (kind_at registry.kinds number name kind n k) (of_form line f form.Empty name region e h) are in
    record {
      role = Stands number values;
      plays = p;
      good = no_cause registry (length state.tokens) line (Stands number values) v u p (λ token e. absurd (stands_none number values token e)) short;
      did = d;
      sound = sound_same registry state new (Stands number values) s d refl;
    }

pub closing_read : (registry : Registry) (state new : State) (f : Form) (name region : List ℕ) (number : ℕ) (kind : Kind) → ValidRegistry registry → IsSound registry state →
    f ≡ form.Closing → slice_get (kind_names registry.kinds) number ≡ Some name → kind ≡ get_or registry.kinds number kind → Did state (Closes number) new →
    (line : List ℕ) → IsUtf8 line → IsFound line f name region → HasReadLine registry state line new
closing_read registry state new f name region number kind v s e n k d line u h =
    let p : Plays registry line (Closes number) = closing_plays registry line name region number kind (kind_at registry.kinds number name kind n k) (of_form line f form.Closing name region e h) in
    record {
      role = Closes number;
      plays = p;
      good = no_cause registry (length state.tokens) line (Closes number) v u p (λ token e. absurd (closes_none number token e)) none_short;
      did = d;
      sound = sound_same registry state new (Closes number) s d refl;
    }

-- a tag whose values are too long, which is no token
long_refused : (registry : Registry) (state : State) (line : List ℕ) (role : Role) → ValidRegistry registry → IsUtf8 line → Plays registry line role → ((token : Token) → role ≡ Gives token → length state.tokens ≢ text_tokens_limit) →
    HasLong (kept role) → (other : TextCause) → cause_rank other < 2 → ¬ HasCause registry (length state.tokens) line other
long_refused registry state line role v u p few long NotUtf8 low h = h u
long_refused registry state line role v u p few long TooManyTokens low h = few h.1.0 (plays_once registry line role (Gives h.1.0) v p h.1.1) h.0
long_refused registry state line role v u p few long ValueTooLong low h = absurd (omega arith)

refuses_long : (registry : Registry) (state : State) (line : List ℕ) (role : Role) → ValidRegistry registry → IsUtf8 line → Plays registry line role → ((token : Token) → role ≡ Gives token → length state.tokens ≢ text_tokens_limit) →
    HasLong (kept role) → Refuses registry state line ValueTooLong
refuses_long registry state line role v u p few long = record { has = (role, p, long); first = long_refused registry state line role v u p few long }

pub opening_long : (registry : Registry) (state : State) (f : Form) (name region : List ℕ) (number : ℕ) (kind : Kind) → ValidRegistry registry →
    f ≡ form.Opening → slice_get (kind_names registry.kinds) number ≡ Some name → kind ≡ get_or registry.kinds number kind →
    ((all : List TagAttr) (rest : List ℕ) → ReadsAttrs region all rest → HasLong (map (tag_value all) kind.attrs)) →
    (line : List ℕ) → IsUtf8 line → IsFound line f name region → Refuses registry state line ValueTooLong
opening_long registry state f name region number kind v e n k long line u h =
    let o = of_form line f form.Opening name region e h in
    let values : List (List ℕ) = map (tag_value o.attrs) kind.attrs in
    refuses_long registry state line (Opens number values) v u
    (let a = kind_at registry.kinds number name kind n k in record {
      kind = kind;
      declared = a.declared;
      attrs = o.attrs;
      spelled = let P : List ℕ → Type 0 = λ n. IsTag line (OpeningTag n o.attrs) in subst P (sym a.named) o.spelled;
      are = refl;
    })
    (λ token e. absurd (opens_none number values token e)) (long o.attrs o.inside.0 o.inside.1)

pub empty_long : (registry : Registry) (state : State) (f : Form) (name region : List ℕ) (number : ℕ) (kind : Kind) → ValidRegistry registry →
    f ≡ form.Empty → slice_get (kind_names registry.kinds) number ≡ Some name → kind ≡ get_or registry.kinds number kind →
    ((all : List TagAttr) (rest : List ℕ) → ReadsAttrs region all rest → HasLong (map (tag_value all) kind.attrs)) →
    (line : List ℕ) → IsUtf8 line → IsFound line f name region → Refuses registry state line ValueTooLong
empty_long registry state f name region number kind v e n k long line u h =
    let o = of_form line f form.Empty name region e h in
    let values : List (List ℕ) = map (tag_value o.attrs) kind.attrs in
    refuses_long registry state line (Stands number values) v u
    (let a = kind_at registry.kinds number name kind n k in record {
      kind = kind;
      declared = a.declared;
      attrs = o.attrs;
      spelled = let P : List ℕ → Type 0 = λ n. IsTag line (EmptyTag n o.attrs) in subst P (sym a.named) o.spelled;
      are = refl;
    })
    (λ token e. absurd (stands_none number values token e)) (long o.attrs o.inside.0 o.inside.1)

-- ## Tokens

token_plays : (registry : Registry) (state : State) (line : List ℕ) → IsSound registry state → IsToken line → Plays registry line (token_role state.columns line)
token_plays registry state line s t = record { stays = t.stays; untagged = t.untagged; are = ap (λ n. first_columns n (columns line)) s.columns }

few_more : (old new : List Token) (token : Token) → new ≡ old ++ token ∷ [] → length old ≤ text_tokens_limit → length old ≢ text_tokens_limit → length new ≤ text_tokens_limit
few_more old new token e l n = let count : length (old ++ token ∷ []) ≡ length old + 1 = grind (arith, common_steps) in omega (arith, ap length e, count, l, n)

pub token_read : (registry : Registry) (state new : State) (line : List ℕ) → ValidRegistry registry → IsSound registry state → IsToken line →
    Did state (token_role state.columns line) new → AreShort (first_columns state.columns (columns line)) → length state.tokens ≢ text_tokens_limit → HasReadLine registry state line new
token_read registry state new line v s t d short few =
    let p = token_plays registry state line s t in
    record {
      role = token_role state.columns line;
      plays = p;
      good = no_cause registry (length state.tokens) line (token_role state.columns line) v t.text p (λ token e. few) short;
      did = d;
      sound = record { columns = d.columns ∙ s.columns; few = few_more state.tokens new.tokens (record { values = first_columns state.columns (columns line) }) d.tokens s.few few; count = d.count ∙ s.count };
    }

pub token_did : (old inside new : State) (row : List (List ℕ)) (line : List ℕ) → inside ≡ old → new.columns ≡ inside.columns → new.tokens ≡ inside.tokens ++ record { values = row } ∷ [] → new.kinds ≡ inside.kinds →
    row ≡ first_columns inside.columns (columns line) → Did old (token_role old.columns line) new
token_did old inside new row line e c t k r =
    let P : State → Type 0 = λ o. Did o (token_role o.columns line) new in
    subst P e (record {
      columns = c;
      tokens = t ∙ ap (λ r. inside.tokens ++ record { values = r } ∷ []) r;
      count = ap length k;
      each = λ kind d l. ap (λ ks. get_or ks kind d) k;
    })

only_utf8 : (registry : Registry) (place : ℕ) (line : List ℕ) → IsUtf8 line → (other : TextCause) → cause_rank other < 1 → ¬ HasCause registry place line other
only_utf8 registry place line u NotUtf8 low h = h u
only_utf8 registry place line u TooManyTokens low h = absurd (omega arith)
only_utf8 registry place line u ValueTooLong low h = absurd (omega arith)

pub token_many : (registry : Registry) (state : State) (line : List ℕ) → IsSound registry state → IsToken line → length state.tokens ≡ text_tokens_limit →
    Refuses registry state line TooManyTokens
token_many registry state line s t full = record {
  has = (full, (record { values = first_columns state.columns (columns line) }, token_plays registry state line s t));
  first = only_utf8 registry (length state.tokens) line t.text;
}

pub token_long : (registry : Registry) (state : State) (line : List ℕ) → ValidRegistry registry → IsSound registry state → IsToken line →
    HasLong (first_columns state.columns (columns line)) → length state.tokens ≢ text_tokens_limit → Refuses registry state line ValueTooLong
token_long registry state line v s t long few =
    refuses_long registry state line (token_role state.columns line) v t.text (token_plays registry state line s t) (λ token e. few) long

nothing_before : (registry : Registry) (place : ℕ) (line : List ℕ) (other : TextCause) → cause_rank other < 0 → ¬ HasCause registry place line other
nothing_before registry place line other low h = absurd (omega arith)

pub not_text : (registry : Registry) (state : State) (line : List ℕ) → ¬ IsUtf8 line → Refuses registry state line NotUtf8
not_text registry state line n = record { has = n; first = nothing_before registry (length state.tokens) line }
