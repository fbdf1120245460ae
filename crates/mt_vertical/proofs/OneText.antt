-- Bytes are read as one text, or refused for one cause.
use Rattle.std.proofs.Common.{◌≡◌, ℕ, ◌+◌, ◌<◌, ◌≤◌, ◌⊎◌, inl, inr, List, [], ◌∷◌, ◌++◌, length, refl, sym, ◌∙◌, ap, subst, arith}
use Rattle.std.proofs.lemmas.Bool.{cases_lt}
use Rattle.mt_text_spec.specs.Registries.{Registry, ValidRegistry}
use Rattle.mt_text_spec.specs.Texts.{Token, StructSpan, Text}
use Rattle.mt_file_spec.specs.VerticalLines.{Role}
use Rattle.mt_file_spec.specs.Vertical.{TextCause, NotUtf8, TooManyTokens, ValueTooLong, cause_rank, HasCause, AreRead, past, tokens_in, instances_in, text_lines, Vertical, FirstTextFault}
use Rattle.mt_vertical.proofs.SoFar.{IsGood, place_after, place_is}
use Rattle.mt_vertical.proofs.OneRole.{plays_once}

-- lines do one thing each
read_once : (registry : Registry) (place : ℕ) (ls : List (List ℕ)) (xs ys : List Role) → ValidRegistry registry → AreRead registry place ls xs → AreRead registry place ls ys → xs ≡ ys
read_once registry place [] [] [] v h k = refl
read_once registry place [] [] (y ∷ ys) v h k = absurd k
read_once registry place [] (x ∷ xs) ys v h k = absurd h
read_once registry place (line ∷ ls) [] ys v h k = absurd h
read_once registry place (line ∷ ls) (x ∷ xs) [] v h k = absurd k
read_once registry place (line ∷ ls) (x ∷ xs) (y ∷ ys) v h k =
    let one : x ≡ y = plays_once registry line x y v h.0 k.0 in
    let P : Role → Type 0 = λ r. AreRead registry (past place r) ls xs in
    ap (λ r. r ∷ xs) one ∙ ap (λ rs. y ∷ rs) (read_once registry (past place y) ls xs ys v (subst P one h.2) k.2)

text_same : (t u : Text) → t.name ≡ u.name → t.tokens ≡ u.tokens → t.structs ≡ u.structs → t ≡ u
text_same t u n k s =
    let made : List ℕ → List Token → List StructSpan → Text = λ name tokens structs. record { name = name; tokens = tokens; structs = structs } in
    ap (λ name. made name t.tokens t.structs) n ∙ ap (λ tokens. made u.name tokens t.structs) k ∙ ap (λ structs. made u.name u.tokens structs) s

pub one_text : (registry : Registry) (name bytes : List ℕ) (a b : Text) → ValidRegistry registry → Vertical registry name bytes a → Vertical registry name bytes b → a ≡ b
one_text registry name bytes a b v h k =
    let one : h.roles ≡ k.roles = read_once registry 0 (text_lines bytes) h.roles k.roles v h.read k.read in
    text_same a b (h.named ∙ sym k.named) (h.tokens ∙ ap tokens_in one ∙ sym k.tokens) (h.structs ∙ ap (instances_in (length registry.kinds)) one ∙ sym k.structs)

-- a line among others, and what those before it do
record Among (registry : Registry) (place : ℕ) (before : List (List ℕ)) (line : List ℕ) : Type 0 where
  pub roles : List Role
  pub read : AreRead registry place before roles
  pub good : IsGood registry (place_after place roles) line

among : (registry : Registry) (place : ℕ) (before : List (List ℕ)) (line : List ℕ) (after : List (List ℕ)) (roles : List Role) → AreRead registry place (before ++ line ∷ after) roles → Among registry place before line
unfolding place_after
among registry place [] line after [] h = absurd h
among registry place [] line after (role ∷ roles) h = record { roles = []; read = tt; good = h.1 }
among registry place (x ∷ before) line after [] h = absurd h
among registry place (x ∷ before) line after (role ∷ roles) h =
    let r = among registry (past place role) before line after roles h.2 in record { roles = role ∷ r.roles; read = (h.0, h.1, r.read); good = r.good }

zero_plus : (n : ℕ) → 0 + n ≡ n
zero_plus n = omega arith

-- a line that is good where it stands has no cause there
good_has_none : (registry : Registry) (before after : List (List ℕ)) (line : List ℕ) (roles others : List Role) (cause : TextCause) → ValidRegistry registry → AreRead registry 0 (before ++ line ∷ after) roles →
    AreRead registry 0 before others → ¬ HasCause registry (length (tokens_in others)) line cause
good_has_none registry before after line roles others cause v h k has =
    let a = among registry 0 before line after roles h in
    let one : a.roles ≡ others = read_once registry 0 before a.roles others v a.read k in
    let place : place_after 0 a.roles ≡ length (tokens_in others) = place_is 0 a.roles ∙ zero_plus (length (tokens_in a.roles)) ∙ ap (λ rs. length (tokens_in rs)) one in
    let P : ℕ → Type 0 = λ p. IsGood registry p line in subst P place a.good cause has

pub no_text_with_fault : (registry : Registry) (name bytes : List ℕ) (text : Text) (line : ℕ) (cause : TextCause) → ValidRegistry registry → Vertical registry name bytes text → ¬ FirstTextFault registry bytes line cause
no_text_with_fault registry name bytes text line cause v h f =
    let P : List (List ℕ) → Type 0 = λ ls. AreRead registry 0 ls h.roles in
    good_has_none registry f.before f.after f.line h.roles f.roles cause v (subst P f.are h.read) f.read f.has

-- two places in a list
record Later (xs ys : List (List ℕ)) (x : List ℕ) : Type 0 where
  pub mid : List (List ℕ)
  pub are : ys ≡ xs ++ x ∷ mid

parts_same : (x y : List ℕ) (xs ys : List (List ℕ)) → x ∷ xs ≡ y ∷ ys → (x ≡ y) × (xs ≡ ys)
parts_same x y xs ys e = (cc, cc)

place_more : (z w : List ℕ) (xs ys : List (List ℕ)) (x y : List ℕ) → z ≡ w → ((xs ≡ ys) × (x ≡ y)) ⊎ (Later xs ys x ⊎ Later ys xs y) →
    ((z ∷ xs ≡ w ∷ ys) × (x ≡ y)) ⊎ (Later (z ∷ xs) (w ∷ ys) x ⊎ Later (w ∷ ys) (z ∷ xs) y)
place_more z w xs ys x y e (inl s) = inl (ap (λ a. a ∷ xs) e ∙ ap (λ ls. w ∷ ls) s.0, s.1)
place_more z w xs ys x y e (inr (inl l)) = inr (inl (record { mid = l.mid; are = ap (λ ls. w ∷ ls) l.are ∙ ap (λ a. a ∷ (xs ++ x ∷ l.mid)) (sym e) }))
place_more z w xs ys x y e (inr (inr l)) = inr (inr (record { mid = l.mid; are = ap (λ ls. z ∷ ls) l.are ∙ ap (λ a. a ∷ (ys ++ y ∷ l.mid)) e }))

places : (xs ys ms bs : List (List ℕ)) (x y : List ℕ) → xs ++ x ∷ ms ≡ ys ++ y ∷ bs → ((xs ≡ ys) × (x ≡ y)) ⊎ (Later xs ys x ⊎ Later ys xs y)
places [] [] ms bs x y e = inl (refl, (parts_same x y ms bs e).0)
places [] (z ∷ ys) ms bs x y e = inr (inl (record { mid = ys; are = ap (λ w. w ∷ ys) (sym (parts_same x z ms (ys ++ y ∷ bs) e).0) }))
places (z ∷ xs) [] ms bs x y e = inr (inr (record { mid = xs; are = ap (λ w. w ∷ xs) (parts_same z y (xs ++ x ∷ ms) bs e).0 }))
places (z ∷ xs) (w ∷ ys) ms bs x y e =
    let p = parts_same z w (xs ++ x ∷ ms) (ys ++ y ∷ bs) e in
    place_more z w xs ys x y p.0 (places xs ys ms bs x y p.1)

rank_same : (c d : TextCause) → cause_rank c ≡ cause_rank d → c ≡ d
rank_same NotUtf8 NotUtf8 e = refl
rank_same NotUtf8 TooManyTokens e = absurd (omega arith)
rank_same NotUtf8 ValueTooLong e = absurd (omega arith)
rank_same TooManyTokens NotUtf8 e = absurd (omega arith)
rank_same TooManyTokens TooManyTokens e = refl
rank_same TooManyTokens ValueTooLong e = absurd (omega arith)
rank_same ValueTooLong NotUtf8 e = absurd (omega arith)
rank_same ValueTooLong TooManyTokens e = absurd (omega arith)
rank_same ValueTooLong ValueTooLong e = refl

one_cause : (registry : Registry) (place : ℕ) (line : List ℕ) (c d : TextCause) → HasCause registry place line c → HasCause registry place line d →
    ((other : TextCause) → cause_rank other < cause_rank c → ¬ HasCause registry place line other) → ((other : TextCause) → cause_rank other < cause_rank d → ¬ HasCause registry place line other) →
    (cause_rank c < cause_rank d) ⊎ (cause_rank d ≤ cause_rank c) → (cause_rank d < cause_rank c) ⊎ (cause_rank c ≤ cause_rank d) → c ≡ d
one_cause registry place line c d h k first second (inl l) m = absurd (second c l h)
one_cause registry place line c d h k first second (inr l) (inl m) = absurd (first d m k)
one_cause registry place line c d h k first second (inr l) (inr m) = rank_same c d (omega arith)

fault_cases : (registry : Registry) (bytes : List ℕ) (line other : ℕ) (cause another : TextCause) → ValidRegistry registry → (f : FirstTextFault registry bytes line cause) → (g : FirstTextFault registry bytes other another) →
    ((f.before ≡ g.before) × (f.line ≡ g.line)) ⊎ (Later f.before g.before f.line ⊎ Later g.before f.before g.line) → (line ≡ other) × (cause ≡ another)
fault_cases registry bytes line other cause another v f g (inl s) =
    let P : List (List ℕ) → Type 0 = λ ls. AreRead registry 0 ls f.roles in
    let one : f.roles ≡ g.roles = read_once registry 0 g.before f.roles g.roles v (subst P s.0 f.read) g.read in
    let place : length (tokens_in f.roles) ≡ length (tokens_in g.roles) = ap (λ rs. length (tokens_in rs)) one in
    let Has : TextCause → ℕ → List ℕ → Type 0 = λ c p l. HasCause registry p l c in (
      f.place ∙ ap (λ ls. length ls + 1) s.0 ∙ sym g.place,
      one_cause registry (length (tokens_in g.roles)) g.line cause another (subst (λ l. Has cause (length (tokens_in g.roles)) l) s.1 (subst (λ p. Has cause p f.line) place f.has)) g.has
          (λ c low h. f.first c low (subst (λ p. Has c p f.line) (sym place) (subst (λ l. Has c (length (tokens_in g.roles)) l) (sym s.1) h)))
          g.first (cases_lt (cause_rank cause) (cause_rank another)) (cases_lt (cause_rank another) (cause_rank cause)),
    )
fault_cases registry bytes line other cause another v f g (inr (inl l)) =
    let P : List (List ℕ) → Type 0 = λ ls. AreRead registry 0 ls g.roles in
    absurd (good_has_none registry f.before l.mid f.line g.roles f.roles cause v (subst P l.are g.read) f.read f.has)
fault_cases registry bytes line other cause another v f g (inr (inr l)) =
    let P : List (List ℕ) → Type 0 = λ ls. AreRead registry 0 ls f.roles in
    absurd (good_has_none registry g.before l.mid g.line f.roles g.roles another v (subst P l.are f.read) g.read g.has)

pub one_fault : (registry : Registry) (bytes : List ℕ) (line other : ℕ) (cause another : TextCause) → ValidRegistry registry → FirstTextFault registry bytes line cause → FirstTextFault registry bytes other another →
    (line ≡ other) × (cause ≡ another)
one_fault registry bytes line other cause another v f g =
    fault_cases registry bytes line other cause another v f g (places f.before g.before f.after g.after f.line g.line (sym f.are ∙ g.are))
