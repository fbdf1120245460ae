-- Lines, bodies and items, from the places at which they begin and end.
use Rattle.std.proofs.Common.{◌≡◌, ◌≢◌, ℕ, ◌+◌, ◌-◌, ◌<◌, ◌≤◌, inl, inr, Bool, true, false, List, [], ◌∷◌, ◌++◌, length, take, drop, get_or, slice_range, arith, refl, sym, ◌∙◌, ap, subst, append_assoc, append-nil}
use Rattle.std.specs.List.{flat_map}
use Rattle.std.specs.Str.Lines.{strip_carriage_return}
use Rattle.std.proofs.Math.Seq.{drop-append-add, take-append_seam}
use Rattle.std.proofs.lemmas.Grind.{common_steps}
use Rattle.std.proofs.lemmas.List.{take-append-drop}
use Rattle.std.proofs.lemmas.List.Elements.{All-nil, All-push, All-from_get_or}
use Rattle.mt_text_spec.specs.Lines.{IsLine, Block, closed}
use Rattle.mt_script_spec.specs.Commands.{Command, Header, body_lines, WithBody, IsHeader, IsSkipped}
use Rattle.mt_script_spec.specs.Script.{Item, Given, Bad, CutShort, ClosedLine, OpenLine, Whole, Commanded, Refused, Broken, Begins, Nothing, Skips, Then, IsRest}
use Rattle.mt_script.specs.Places.{NoFeed, LineAt}
use Rattle.mt_script.specs.Scans.{Opened}

-- ## Lines

get_between : (bytes : List ℕ) (line n k : ℕ) → k < n → get_or (take n (drop line bytes)) k 0 ≡ get_or bytes (line + k) 0
get_between bytes line n k h = grind (arith, common_steps)

length_between : (bytes : List ℕ) (line n : ℕ) → length (take n (drop line bytes)) ≤ n
length_between bytes line n = grind (arith, common_steps)

pub is_line : (bytes : List ℕ) (line end : ℕ) → NoFeed bytes line end → IsLine (slice_range bytes line end)
is_line bytes line end none = All-from_get_or (λ b. b ≢ 10) (slice_range bytes line end) 0 (λ k l.
    let low : k < end - line = omega (arith, l, length_between bytes line (end - line)) in
    λ e. none (line + k) (omega arith) (omega arith) (sym (get_between bytes line (end - line) k low) ∙ e))

split_at : (xs : List ℕ) (n : ℕ) → n < length xs → get_or xs n 0 ≡ 10 → xs ≡ take n xs ++ 10 ∷ drop (n + 1) xs
split_at xs n l e = grind (arith, common_steps, take-append-drop)

drop_twice : (bytes : List ℕ) (m n k : ℕ) → k ≡ m + n → drop n (drop m bytes) ≡ drop k bytes
drop_twice bytes m n k e = grind (arith, common_steps)

-- the line, its line feed and what follows
pub cut : (bytes : List ℕ) (line end : ℕ) → LineAt bytes line end → drop line bytes ≡ slice_range bytes line end ++ 10 ∷ drop (end + 1) bytes
cut bytes line end l =
    let low : line ≤ end = l.order in
    let high : end < length bytes = l.within in
    let n : end - line < length (drop line bytes) = grind (arith, common_steps) in
    let here : get_or (drop line bytes) (end - line) 0 ≡ get_or bytes end 0 = grind (arith, common_steps) in
    split_at (drop line bytes) (end - line) n (here ∙ l.feed) ∙ ap (λ s. slice_range bytes line end ++ 10 ∷ s) (drop_twice bytes line (end - line + 1) (end + 1) (omega arith))

first_is : (bytes : List ℕ) (end : ℕ) → slice_range bytes 0 end ≡ take end bytes
first_is bytes end = grind (arith, common_steps)

pub drop_none : (bytes : List ℕ) → drop 0 bytes ≡ bytes
drop_none bytes = grind (arith, common_steps)

cut_first : (bytes : List ℕ) (end : ℕ) → LineAt bytes 0 end → bytes ≡ take end bytes ++ 10 ∷ drop (end + 1) bytes
cut_first bytes end l = sym (drop_none bytes) ∙ cut bytes 0 end l ∙ ap (λ s. s ++ 10 ∷ drop (end + 1) bytes) (first_is bytes end)

one_first : (bytes : List ℕ) (end : ℕ) → LineAt bytes 0 end → IsLine (take end bytes)
one_first bytes end l = subst IsLine (first_is bytes end) (is_line bytes 0 end l.none)

closed_line : (bytes : List ℕ) (end : ℕ) → LineAt bytes 0 end → ClosedLine bytes (strip_carriage_return (take end bytes)) (drop (end + 1) bytes)
closed_line bytes end l = record { raw = take end bytes; are = cut_first bytes end l; one = one_first bytes end l; is = refl }

-- the rest, in which no line feed is
pub rest_line : (bytes : List ℕ) (line : ℕ) → NoFeed bytes line (length bytes) → IsLine (drop line bytes)
rest_line bytes line none =
    let same : slice_range bytes line (length bytes) ≡ drop line bytes = grind (arith, common_steps) in
    subst IsLine same (is_line bytes line (length bytes) none)

-- ## Items

-- one part after another
pub then_begins : {ended : Bool} → (a b c : List ℕ) (xs ys : List Item) → Begins ended a xs b → Begins ended b ys c → Begins ended a (xs ++ ys) c
then_begins a b c xs ys (Nothing bytes) r = r
then_begins a b c xs ys (Skips bytes line mid items others f s t) r = Skips a line mid (xs ++ ys) c f s (then_begins mid b c xs ys t r)
then_begins a b c xs ys (Then bytes item mid items others w t) r = Then a item mid (items ++ ys) c w (then_begins mid b c items ys t r)

one_item : {ended : Bool} → (a b : List ℕ) (item : Item) → Whole ended a item b → Begins ended a (item ∷ []) b
one_item a b item w = Then a item b [] b w (Nothing b)

pub skipped_more : {ended : Bool} → (a b : List ℕ) (end : ℕ) → Begins ended a [] b → LineAt b 0 end → IsSkipped (strip_carriage_return (take end b)) →
    Begins ended a [] (drop (end + 1) b)
skipped_more a b end t l s = then_begins a b (drop (end + 1) b) [] [] t (Skips b _ _ [] _ (inl (closed_line b end l)) s (Nothing (drop (end + 1) b)))

pub bad_item : {ended : Bool} → (b : List ℕ) (end : ℕ) → LineAt b 0 end → (IsSkipped (strip_carriage_return (take end b)) → ⊥) →
    ((header : Header) → IsHeader (strip_carriage_return (take end b)) header → ⊥) → Begins ended b (Bad ∷ []) (drop (end + 1) b)
bad_item b end l stays none = one_item b _ Bad (Refused _ _ (inl (closed_line b end l)) stays none)

-- ## A header and its body

no_lines : Block 0 []
no_lines = record { all = []; count = refl; each = All-nil IsLine; are = refl }

flat-append : (xs ys : List (List ℕ)) → flat_map closed (xs ++ ys) ≡ flat_map closed xs ++ flat_map closed ys
flat-append xs ys = grind (arith, common_steps)

one_closed : (line : List ℕ) → flat_map closed (line ∷ []) ≡ closed line
one_closed line = append-nil (closed line)

line_more : (n m : ℕ) (front line : List ℕ) → Block n front → IsLine line → m ≡ n + 1 → Block m (front ++ closed line)
line_more n m front line b l e = record {
  all = b.all ++ line ∷ [];
  count = let c : length b.all ≡ n = b.count in grind (arith, common_steps);
  each = All-push IsLine b.all line b.each l;
  are = rw (flat-append b.all (line ∷ []), one_closed line, b.are) refl;
}

pub opened : (b : List ℕ) (end : ℕ) (header : Header) (missing : ℕ) → LineAt b 0 end → (IsSkipped (strip_carriage_return (take end b)) → ⊥) →
    IsHeader (strip_carriage_return (take end b)) header → missing ≡ body_lines header → Opened b header (end + 1) (end + 1) missing
opened b end header missing l stays good e =
    let high : end < length b = l.within in
    let long : length (take end b) ≡ end = grind (arith, common_steps) in
    record {
      raw = take end b;
      front = [];
      got = 0;
      are = cut_first b end l;
      one = one_first b end l;
      stays = stays;
      good = good;
      lines = no_lines;
      count = omega (arith, e);
      body_at = omega (arith, long);
      line_at = omega (arith, long);
    }

regroup : (raw front line rest : List ℕ) → raw ++ 10 ∷ (front ++ (line ++ 10 ∷ rest)) ≡ raw ++ 10 ∷ ((front ++ closed line) ++ rest)
regroup raw front line rest = simp append_assoc

-- one line of the body more
pub body_more : (b : List ℕ) (header : Header) (body line end missing fewer : ℕ) → Opened b header body line missing → LineAt b line end → fewer + 1 ≡ missing →
    Opened b header body (end + 1) fewer
body_more b header body line end missing fewer o l e =
    let low : line ≤ end = l.order in
    let high : end < length b = l.within in
    let long : length (slice_range b line end) ≡ end - line = grind (arith, common_steps) in
    let more : length (closed (slice_range b line end)) ≡ end - line + 1 = grind (arith, common_steps, long) in
    let wide : length (o.front ++ closed (slice_range b line end)) ≡ length o.front + (end - line + 1) = grind (arith, common_steps, more) in
    let at : line ≡ body + length o.front = o.line_at in
    let count : o.got + missing ≡ body_lines header = o.count in
    record {
      raw = o.raw;
      front = o.front ++ closed (slice_range b line end);
      got = o.got + 1;
      are = o.are ∙ ap (λ s. o.raw ++ 10 ∷ (o.front ++ s)) (cut b line end l) ∙ regroup o.raw o.front (slice_range b line end) (drop (end + 1) b);
      one = o.one;
      stays = o.stays;
      good = o.good;
      lines = line_more o.got (o.got + 1) o.front (slice_range b line end) o.lines (is_line b line end l.none) refl;
      count = omega arith;
      body_at = o.body_at;
      line_at = omega arith;
    }

opened_line : (b : List ℕ) (header : Header) (body line missing : ℕ) → (o : Opened b header body line missing) → ClosedLine b (strip_carriage_return o.raw) (o.front ++ drop line b)
opened_line b header body line missing o = record { raw = o.raw; are = o.are; one = o.one; is = refl }

pub rest_of : (b raw front rest : List ℕ) (body : ℕ) → b ≡ raw ++ 10 ∷ (front ++ rest) → body ≡ length raw + 1 → drop body b ≡ front ++ rest
rest_of b raw front rest body e s = rw (e, s) (drop-append-add raw (10 ∷ (front ++ rest)) 1)

pub front_of : (b raw front rest : List ℕ) (body line : ℕ) → b ≡ raw ++ 10 ∷ (front ++ rest) → body ≡ length raw + 1 → line ≡ body + length front → slice_range b body line ≡ front
front_of b raw front rest body line e s t =
    let n : line - body ≡ length front = omega arith in
    ap (λ s. take (line - body) s) (rest_of b raw front rest body e s) ∙ ap (λ n. take n (front ++ rest)) n ∙ take-append_seam front rest

-- the whole command
pub command_item : {ended : Bool} → (b : List ℕ) (header : Header) (body line missing : ℕ) (command : Command) → Opened b header body line missing → missing ≡ 0 →
    WithBody header (slice_range b body line) command → Begins ended b (Given command ∷ []) (drop line b)
command_item b header body line missing command o z whole =
    let count : o.got + missing ≡ body_lines header = o.count in
    let all : o.got ≡ body_lines header = omega arith in
    let lines : Block (body_lines header) o.front = let P : ℕ → Type 0 = λ n. Block n o.front in subst P all o.lines in
    let made : WithBody header o.front command = subst (λ s. WithBody header s command) (front_of b o.raw o.front (drop line b) body line o.are o.body_at o.line_at) whole in
    one_item b (drop line b) _ (Commanded _ _ header o.front command (drop line b) (inl (opened_line b header body line missing o)) o.stays o.good (inl (record { are = refl; lines = lines })) made)

-- its body has not come to its end
pub lacks_body : (b : List ℕ) (header : Header) (body line missing : ℕ) → Opened b header body line missing → 0 < missing → NoFeed b line (length b) → IsRest false b
lacks_body b header body line missing o some none =
    let count : o.got + missing ≡ body_lines header = o.count in
    inr (record {
      line = strip_carriage_return o.raw;
      mid = o.front ++ drop line b;
      header = header;
      first = opened_line b header body line missing o;
      stays = o.stays;
      good = o.good;
      few = record { front = o.front; line = drop line b; are = refl; one = rest_line b line none; before = o.got; lines = o.lines; few = omega arith; fewer = λ e. cc };
    })

-- the input cuts its body short
pub cut_item : (b : List ℕ) (header : Header) (body line missing : ℕ) → Opened b header body line missing → 0 < missing → NoFeed b line (length b) →
    (missing ≡ 1 → drop line b ≡ []) → Begins true b (CutShort ∷ []) []
cut_item b header body line missing o some none last =
    let count : o.got + missing ≡ body_lines header = o.count in
    one_item b [] CutShort (Broken _ _ header refl (inl (opened_line b header body line missing o)) o.stays o.good (record {
      front = o.front;
      line = drop line b;
      are = refl;
      one = rest_line b line none;
      before = o.got;
      lines = o.lines;
      few = omega arith;
      fewer = λ e ne. let two : missing ≢ 1 = λ is. ne (last is) in omega arith;
    }))

-- the input ends with the last line of its body
pub last_item : (b : List ℕ) (header : Header) (body line missing : ℕ) (command : Command) → Opened b header body line missing → missing ≡ 1 → NoFeed b line (length b) → drop line b ≢ [] →
    WithBody header (closed (drop body b)) command → Begins true b (Given command ∷ []) []
last_item b header body line missing command o one none some whole =
    let count : o.got + missing ≡ body_lines header = o.count in
    one_item b [] _ (Commanded _ _ header (closed (drop body b)) command [] (inl (opened_line b header body line missing o)) o.stays o.good (inr (record {
      last = refl;
      front = o.front;
      line = drop line b;
      are = refl;
      one = rest_line b line none;
      some = some;
      before = o.got;
      lines = o.lines;
      count = omega arith;
      is = ap closed (rest_of b o.raw o.front (drop line b) body o.are o.body_at);
      nothing = refl;
    })) whole)

-- ## The end of the input

last_line : (b : List ℕ) → IsLine b → (IsSkipped b → ⊥) → OpenLine true b b []
last_line b one stays = record { last = refl; is = refl; one = one; some = λ e. stays (rw e tt); nothing = refl }

pub skipped_last : (b : List ℕ) → IsLine b → IsSkipped b → Begins true b [] []
skipped_last [] one s = Nothing []
skipped_last (x ∷ xs) one s = Skips (x ∷ xs) (x ∷ xs) [] [] [] (inr (record { last = refl; is = refl; one = one; some = λ e. cc; nothing = refl })) s (Nothing [])

pub bad_last : (b : List ℕ) → IsLine b → (IsSkipped b → ⊥) → ((header : Header) → IsHeader b header → ⊥) → Begins true b (Bad ∷ []) []
bad_last b one stays none = one_item b [] Bad (Refused b [] (inr (last_line b one stays)) stays none)

pub command_last : (b : List ℕ) (header : Header) (command : Command) → IsLine b → (IsSkipped b → ⊥) → IsHeader b header → body_lines header ≡ 0 → WithBody header [] command →
    Begins true b (Given command ∷ []) []
command_last b header command one stays good none whole =
    let lines : Block (body_lines header) [] = rw none no_lines in
    one_item b [] _ (Commanded b [] header [] command [] (inr (last_line b one stays)) stays good (inl (record { are = refl; lines = lines })) whole)

pub cut_last : (b : List ℕ) (header : Header) → IsLine b → (IsSkipped b → ⊥) → IsHeader b header → 0 < body_lines header → Begins true b (CutShort ∷ []) []
cut_last b header one stays good some =
    one_item b [] CutShort (Broken b [] header refl (inr (last_line b one stays)) stays good (record {
      front = [];
      line = [];
      are = refl;
      one = All-nil _;
      before = 0;
      lines = no_lines;
      few = some;
      fewer = λ e ne. absurd (ne refl);
    }))
