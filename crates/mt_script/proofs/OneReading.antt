-- A script has at most one reading.
use Rattle.std.proofs.Common.{◌≡◌, ℕ, ◌+◌, ◌<◌, ◌≤◌, suc, inl, inr, Bool, true, false, List, [], ◌∷◌, ◌++◌, length, refl, sym, ◌∙◌, ap, subst, arith, append_assoc}
use Rattle.std.specs.List.{All, AllZip, flat_map}
use Rattle.std.specs.Str.Lines.{lines, strip_carriage_return}
use Rattle.mt_text_spec.specs.Lines.{IsLine, Block, closed}
use Rattle.mt_script_spec.specs.Commands.{Command, Batch, BatchLine, Good, BadLine, Header, Lone, TextHead, RulesHead, BatchHead, body_lines, WithBody, IsBatchLine, IsHeader, IsSkipped}
use Rattle.mt_script_spec.specs.Script.{Item, Given, ClosedLine, OpenLine, FirstLine, ClosedBody, OpenBody, Body, Fewer, Whole, Commanded, Refused, Broken, Begins, Nothing, Skips, Then, IsRest, Items}
use Rattle.std.proofs.lemmas.Bool.{true≢false}
use Rattle.mt_script.proofs.LineForms.{one_header, one_ask}

-- ## Lines

tail_line : (b : ℕ) (bytes : List ℕ) → IsLine (b ∷ bytes) → IsLine bytes
tail_line b bytes l i d h = l (suc i) d (omega arith)

no_feed_in : (raw others : List ℕ) → IsLine (raw ++ 10 ∷ others) → ⊥
no_feed_in [] others l = l 0 0 (omega arith) refl
no_feed_in (b ∷ raw) others l = no_feed_in raw others (tail_line b (raw ++ 10 ∷ others) l)

head_same : (a b : ℕ) (xs ys : List ℕ) → a ∷ xs ≡ b ∷ ys → (a ≡ b) × (xs ≡ ys)
head_same a b xs ys e = (cc, cc)

-- two lines and what follows them
split_same : (xs ys a b : List ℕ) → IsLine xs → IsLine ys → xs ++ 10 ∷ a ≡ ys ++ 10 ∷ b → (xs ≡ ys) × (a ≡ b)
split_same [] [] a b l m e = (refl, (head_same 10 10 a b e).1)
split_same [] (y ∷ ys) a b l m e = absurd (m 0 0 (omega arith) (sym (head_same 10 y a (ys ++ 10 ∷ b) e).0))
split_same (x ∷ xs) [] a b l m e = absurd (l 0 0 (omega arith) (head_same x 10 (xs ++ 10 ∷ a) b e).0)
split_same (x ∷ xs) (y ∷ ys) a b l m e =
    let h = head_same x y (xs ++ 10 ∷ a) (ys ++ 10 ∷ b) e in
    let r = split_same xs ys a b (tail_line x xs l) (tail_line y ys m) h.1 in
    (rw (h.0, r.0) refl, r.1)

closed_once : (bytes l m o p : List ℕ) → ClosedLine bytes l o → ClosedLine bytes m p → (l ≡ m) × (o ≡ p)
closed_once bytes l m o p f g =
    let s = split_same f.raw g.raw o p f.one g.one (sym f.are ∙ g.are) in
    (f.is ∙ ap strip_carriage_return s.0 ∙ sym g.is, s.1)

closed_or_open : {ended : Bool} → (bytes l m o p : List ℕ) → ClosedLine bytes l o → OpenLine ended bytes m p → ⊥
closed_or_open bytes l m o p f g = no_feed_in f.raw o (subst IsLine f.are g.one)

first_once : {ended : Bool} → (bytes l m o p : List ℕ) → FirstLine ended bytes l o → FirstLine ended bytes m p → (l ≡ m) × (o ≡ p)
first_once bytes l m o p (inl f) (inl g) = closed_once bytes l m o p f g
first_once bytes l m o p (inl f) (inr g) = absurd (closed_or_open bytes l m o p f g)
first_once bytes l m o p (inr f) (inl g) = absurd (closed_or_open bytes m l p o g f)
first_once bytes l m o p (inr f) (inr g) = (f.is ∙ sym g.is, f.nothing ∙ sym g.nothing)

-- ## Bodies

tail_lines : (x : List ℕ) (xs : List (List ℕ)) → All IsLine (x ∷ xs) → All IsLine xs
tail_lines x xs l i d h = l (suc i) d (omega arith)

head_line : (x : List ℕ) (xs : List (List ℕ)) → All IsLine (x ∷ xs) → IsLine x
head_line x xs l = l 0 [] (omega arith)

spread : (x : List ℕ) (xs : List (List ℕ)) (a : List ℕ) → flat_map closed (x ∷ xs) ++ a ≡ x ++ 10 ∷ (flat_map closed xs ++ a)
spread x xs a = simp append_assoc

-- so many lines in front, and what follows them
front_same : (xs ys : List (List ℕ)) (a b : List ℕ) → All IsLine xs → All IsLine ys → length xs ≡ length ys → flat_map closed xs ++ a ≡ flat_map closed ys ++ b →
    (flat_map closed xs ≡ flat_map closed ys) × (a ≡ b)
front_same [] [] a b l m n e = (refl, e)
front_same [] (y ∷ ys) a b l m n e = absurd (omega arith)
front_same (x ∷ xs) [] a b l m n e = absurd (omega arith)
front_same (x ∷ xs) (y ∷ ys) a b l m n e =
    let s = split_same x y (flat_map closed xs ++ a) (flat_map closed ys ++ b) (head_line x xs l) (head_line y ys m) (sym (spread x xs a) ∙ e ∙ spread y ys b) in
    let r = front_same xs ys a b (tail_lines x xs l) (tail_lines y ys m) (omega arith) s.1 in
    (rw (s.0, r.0) refl, r.1)

-- there are no more whole lines than these, where the last line has no line feed
most_lines : (xs ys : List (List ℕ)) (last b : List ℕ) → All IsLine xs → All IsLine ys → IsLine last → flat_map closed xs ++ last ≡ flat_map closed ys ++ b → length ys ≤ length xs
most_lines xs [] last b l m n e = omega arith
most_lines [] (y ∷ ys) last b l m n e = absurd (no_feed_in y (flat_map closed ys ++ b) (subst IsLine (e ∙ spread y ys b) n))
most_lines (x ∷ xs) (y ∷ ys) last b l m n e =
    let s = split_same x y (flat_map closed xs ++ last) (flat_map closed ys ++ b) (head_line x xs l) (head_line y ys m) (sym (spread x xs last) ∙ e ∙ spread y ys b) in
    let r : length ys ≤ length xs = most_lines xs ys last b (tail_lines x xs l) (tail_lines y ys m) n s.1 in
    omega arith

blocks_same : (n m : ℕ) (f g a b : List ℕ) → Block n f → Block m g → n ≡ m → f ++ a ≡ g ++ b → (f ≡ g) × (a ≡ b)
blocks_same n m f g a b p q same e =
    let counts : length p.all ≡ length q.all = p.count ∙ same ∙ sym q.count in
    let r = front_same p.all q.all a b p.each q.each counts (ap (λ s. s ++ a) (sym p.are) ∙ e ∙ ap (λ s. s ++ b) q.are) in
    (p.are ∙ r.0 ∙ sym q.are, r.1)

blocks_most : (n m : ℕ) (f g last b : List ℕ) → Block n f → Block m g → IsLine last → f ++ last ≡ g ++ b → m ≤ n
blocks_most n m f g last b p q one e =
    let most : length q.all ≤ length p.all = most_lines p.all q.all last b p.each q.each one (ap (λ s. s ++ last) (sym p.are) ∙ e ∙ ap (λ s. s ++ b) q.are) in
    let cn : length p.all ≡ n = p.count in let cm : length q.all ≡ m = q.count in omega arith

-- a body to its end, and one that the input cuts off
closed_or_last : {ended : Bool} → (n : ℕ) (bytes body others body' others' : List ℕ) → ClosedBody n bytes body others → OpenBody ended n bytes body' others' → ⊥
closed_or_last n bytes body others body' others' c o =
    let most : n ≤ o.before = blocks_most o.before n o.front body o.line others o.lines c.lines o.one (sym o.are ∙ c.are) in
    let count : n ≡ o.before + 1 = o.count in absurd (omega arith)

body_once : {ended : Bool} → (n : ℕ) (bytes b c o p : List ℕ) → Body ended n bytes b o → Body ended n bytes c p → (b ≡ c) × (o ≡ p)
body_once n bytes b c o p (inl f) (inl g) = blocks_same n n b c o p f.lines g.lines refl (sym f.are ∙ g.are)
body_once n bytes b c o p (inl f) (inr g) = absurd (closed_or_last n bytes b o c p f g)
body_once n bytes b c o p (inr f) (inl g) = absurd (closed_or_last n bytes c p b o g f)
body_once n bytes b c o p (inr f) (inr g) = (f.is ∙ sym g.is, f.nothing ∙ sym g.nothing)

-- no body is there and is cut short
body_or_fewer : {ended : Bool} → (n : ℕ) (bytes body others : List ℕ) → Body ended n bytes body others → Fewer ended n bytes → ⊥
body_or_fewer n bytes body others (inl f) g =
    let most : n ≤ g.before = blocks_most g.before n g.front body g.line others g.lines f.lines g.one (sym g.are ∙ f.are) in
    let few : g.before < n = g.few in absurd (omega arith)
body_or_fewer n bytes body others (inr f) g =
    let up : f.before ≤ g.before = blocks_most g.before f.before g.front f.front g.line f.line g.lines f.lines g.one (sym g.are ∙ f.are) in
    let down : g.before ≤ f.before = blocks_most f.before g.before f.front g.front f.line g.line f.lines g.lines f.one (sym f.are ∙ g.are) in
    let same : f.before ≡ g.before = omega arith in
    let line : f.line ≡ g.line = (blocks_same f.before g.before f.front g.front f.line g.line f.lines g.lines same (sym f.are ∙ g.are)).1 in
    let fewer : g.before + 1 < n = g.fewer f.last (λ e. f.some (line ∙ e)) in
    let count : n ≡ f.before + 1 = f.count in absurd (omega arith)

-- ## Commands

batch_line_once : (line : List ℕ) (a b : BatchLine) → IsBatchLine line a → IsBatchLine line b → a ≡ b
batch_line_once line (Good a) (Good b) h k = ap Good (one_ask line a b h k)
batch_line_once line (Good a) BadLine h k = absurd (k a h)
batch_line_once line BadLine (Good b) h k = absurd (h b k)
batch_line_once line BadLine BadLine h k = refl

batch_once : (ls : List (List ℕ)) (xs ys : List BatchLine) → AllZip IsBatchLine ls xs → AllZip IsBatchLine ls ys → xs ≡ ys
batch_once [] [] [] h k = refl
batch_once [] [] (y ∷ ys) h k = absurd k
batch_once [] (x ∷ xs) ys h k = absurd h
batch_once (l ∷ ls) [] ys h k = absurd h
batch_once (l ∷ ls) (x ∷ xs) [] h k = absurd k
batch_once (l ∷ ls) (x ∷ xs) (y ∷ ys) h k = rw (batch_line_once l x y h.0 k.0, batch_once ls xs ys h.1 k.1) refl

command_once : (header : Header) (body : List ℕ) (a b : Command) → WithBody header body a → WithBody header body b → a ≡ b
command_once (Lone alone) body a b h k = h ∙ sym k
command_once (TextHead name number) body a b h k = h ∙ sym k
command_once (RulesHead number) body a b h k = h ∙ sym k
command_once (BatchHead number merge) body a b h k = h.is ∙ ap (λ asked. Batch asked merge) (batch_once (lines body) h.asked k.asked h.each k.each) ∙ sym k.is

-- ## Items

whole_command : {ended : Bool} → (bytes line mid : List ℕ) (header : Header) (body : List ℕ) (command : Command) (others : List ℕ) (item : Item) (p : List ℕ) →
    FirstLine ended bytes line mid → IsHeader line header → Body ended (body_lines header) mid body others → WithBody header body command → Whole ended bytes item p → (Given command ≡ item) × (others ≡ p)
whole_command bytes line mid header body command others item p f good b w (Commanded line' mid' header' body' command' others' f' stays' good' b' w') =
    let first = first_once bytes line line' mid mid' f f' in
    let head : header ≡ header' = one_header line header header' good (rw first.0 good') in
    let bodies = body_once (body_lines header) mid body body' others others' b (rw (first.1, head) b') in
    (ap Given (command_once header body command command' w (rw (head, bodies.0) w')), bodies.1)
whole_command bytes line mid header body command others item p f good b w (Refused line' others' f' stays' none') =
    absurd (none' header (rw (← (first_once bytes line line' mid others' f f').0) good))
whole_command bytes line mid header body command others item p f good b w (Broken line' mid' header' last' f' stays' good' few') =
    let first = first_once bytes line line' mid mid' f f' in
    let head : header ≡ header' = one_header line header header' good (rw first.0 good') in
    absurd (body_or_fewer (body_lines header) mid body others b (rw (first.1, head) few'))

whole_once : {ended : Bool} → (bytes : List ℕ) (x y : Item) (o p : List ℕ) → Whole ended bytes x o → Whole ended bytes y p → (x ≡ y) × (o ≡ p)
whole_once bytes x y o p (Commanded line mid header body command others f stays good b w) k = whole_command bytes line mid header body command o y p f good b w k
whole_once bytes x y o p h (Commanded line mid header body command others f stays good b w) =
    let r = whole_command bytes line mid header body command p x o f good b w h in (sym r.0, sym r.1)
whole_once bytes x y o p (Refused line others f stays none) (Refused line' others' f' stays' none') = (refl, (first_once bytes line line' o p f f').1)
whole_once bytes x y o p (Refused line others f stays none) (Broken line' mid' header' last' f' stays' good' few') =
    absurd (none header' (rw (first_once bytes line line' o mid' f f').0 good'))
whole_once bytes x y o p (Broken line mid header last f stays good few) (Refused line' others' f' stays' none') =
    absurd (none' header (rw (← (first_once bytes line line' mid p f f').0) good))
whole_once bytes x y o p (Broken line mid header last f stays good few) (Broken line' mid' header' last' f' stays' good' few') = (refl, refl)

-- ## The end

no_line : {ended : Bool} → (line mid : List ℕ) → FirstLine ended [] line mid → ⊥
no_line line mid (inl f) = let n : length (f.raw ++ 10 ∷ mid) ≡ 0 = ap length (sym f.are) in none f.raw n
  where
    none : (raw : List ℕ) → length (raw ++ 10 ∷ mid) ≡ 0 → ⊥
    none [] e = omega arith
    none (b ∷ raw) e = omega arith
no_line line mid (inr f) = f.some refl

-- the first line of what is a rest is the head of a command that lacks its body
rest_first : (ended : Bool) (bytes line mid : List ℕ) → IsRest ended bytes → FirstLine ended bytes line mid → (ended ≡ false) × ((IsSkipped line → ⊥) × ((header : Header) × IsHeader line header × Fewer false (body_lines header) mid))
rest_first true bytes line mid r f = absurd (no_line line mid (subst (λ b. FirstLine true b line mid) r f))
rest_first false bytes line mid (inl one) (inl f) = absurd (no_feed_in f.raw mid (subst IsLine f.are one))
rest_first false bytes line mid (inl one) (inr f) = cc
rest_first false bytes line mid (inr lacks) f =
    let first = first_once bytes line lacks.line mid lacks.mid f (inl lacks.first) in
    (refl, (λ s. lacks.stays (rw (← first.0) s), (lacks.header, rw first.0 lacks.good, rw first.1 lacks.few)))

rest_or_whole : (ended : Bool) (bytes : List ℕ) (item : Item) (p : List ℕ) → IsRest ended bytes → Whole ended bytes item p → ⊥
rest_or_whole ended bytes item p r (Commanded line mid header body command others f stays good b w) =
    let rest = rest_first ended bytes line mid r f in
    let head : header ≡ rest.1.1.0 = one_header line header rest.1.1.0 good rest.1.1.1 in
    let few : Fewer ended (body_lines header) mid = rw (rest.0, head) rest.1.1.2 in
    body_or_fewer (body_lines header) mid body others b few
rest_or_whole ended bytes item p r (Refused line others f stays none) = let rest = rest_first ended bytes line others r f in none rest.1.1.0 rest.1.1.1
rest_or_whole ended bytes item p r (Broken line mid header last f stays good few) = let rest = rest_first ended bytes line mid r f in true≢false (sym last ∙ rest.0)

skipped_or_whole : {ended : Bool} → (bytes line mid : List ℕ) (item : Item) (p : List ℕ) → FirstLine ended bytes line mid → IsSkipped line → Whole ended bytes item p → ⊥
skipped_or_whole bytes line mid item p f s (Commanded line' mid' header body command others f' stays good b w) = stays (rw (← (first_once bytes line line' mid mid' f f').0) s)
skipped_or_whole bytes line mid item p f s (Refused line' others f' stays none) = stays (rw (← (first_once bytes line line' mid others f f').0) s)
skipped_or_whole bytes line mid item p f s (Broken line' mid' header last f' stays good few) = stays (rw (← (first_once bytes line line' mid mid' f f').0) s)

begins_once : {ended : Bool} → (bytes : List ℕ) (xs ys : List Item) (r s : List ℕ) → Begins ended bytes xs r → IsRest ended r → Begins ended bytes ys s → IsRest ended s → (xs ≡ ys) × (r ≡ s)
begins_once {ended = ended} bytes xs ys r s (Nothing b) rest (Nothing b') rest' = (refl, refl)
begins_once {ended = ended} bytes xs ys r s (Nothing b) rest (Skips b' line mid items others f skip t) rest' = absurd ((rest_first ended bytes line mid rest f).1.0 skip)
begins_once {ended = ended} bytes xs ys r s (Nothing b) rest (Then b' item mid items others w t) rest' = absurd (rest_or_whole ended bytes item mid rest w)
begins_once {ended = ended} bytes xs ys r s (Skips b line mid items others f skip t) rest (Nothing b') rest' = absurd ((rest_first ended bytes line mid rest' f).1.0 skip)
begins_once {ended = ended} bytes xs ys r s (Skips b line mid items others f skip t) rest (Skips b' line' mid' items' others' f' skip' t') rest' =
    let first = first_once bytes line line' mid mid' f f' in
    begins_once mid xs ys r s t rest (rw first.1 t') rest'
begins_once {ended = ended} bytes xs ys r s (Skips b line mid items others f skip t) rest (Then b' item mid' items' others' w t') rest' = absurd (skipped_or_whole bytes line mid item mid' f skip w)
begins_once {ended = ended} bytes xs ys r s (Then b item mid items others w t) rest (Nothing b') rest' = absurd (rest_or_whole ended bytes item mid rest' w)
begins_once {ended = ended} bytes xs ys r s (Then b item mid items others w t) rest (Skips b' line' mid' items' others' f' skip' t') rest' = absurd (skipped_or_whole bytes line' mid' item mid f' skip' w)
begins_once {ended = ended} bytes xs ys r s (Then b item mid items others w t) rest (Then b' item' mid' items' others' w' t') rest' =
    let whole = whole_once bytes item item' mid mid' w w' in
    let more = begins_once mid items items' r s t rest (rw whole.1 t') rest' in
    (rw (whole.0, more.0) refl, more.1)

pub one_reading : (ended : Bool) (bytes : List ℕ) (xs ys : List Item) (r s : List ℕ) → Items ended bytes xs r → Items ended bytes ys s → (xs ≡ ys) × (r ≡ s)
one_reading ended bytes xs ys r s h k = begins_once bytes xs ys r s h.begins h.rests k.begins k.rests
