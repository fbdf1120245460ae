-- Steps of a scan, in the words of its contracts.
use Rattle.std.proofs.Common.{◌≡◌, ◌≢◌, ℕ, ◌+◌, ◌<◌, ◌≤◌, Bool, List, [], ◌∷◌, ◌++◌, length, take, drop, Option, None, Some, IsSome, slice_range, arith, refl, sym, ◌∙◌, ap, subst, true, false, Result, Ok, Err, IfOk, get_or, append_assoc}
use Rattle.std.proofs.Math.Seq.{drop-length}
use Rattle.std.proofs.lemmas.List.{drop-append-le}
use Rattle.std.proofs.lemmas.Grind.{common_steps}
use Rattle.std.specs.Str.Lines.{strip_carriage_return}
use Rattle.mt_text_spec.specs.Lines.{IsLine, Block, closed}
use Rattle.mt_script_spec.specs.Commands.{Command, Header, body_lines, WithBody, IsHeader, IsSkipped}
use Rattle.mt_script_spec.specs.Script.{Item, Given, Bad, CutShort, Begins, Nothing, IsRest}
use Rattle.mt_script.specs.declared.header.Header.{Header as RustHeader}
use Rattle.mt_script.specs.Headers.{header_of}
use Rattle.mt_script.specs.Places.{NoFeed, Looked, LineAt}
use Rattle.mt_script.specs.Scans.{Opened, Opens, IsSound, wait, Leads, FindsHeader, Gives, StarvesOr}
use Rattle.mt_script.specs.declared.command.Next.{Next}
use Rattle.mt_script.specs.declared.command.Next.TheVariants.{Command as NextCommand, Bad as NextBad, CutShort as NextCutShort, More as NextMore, End as NextEnd, NoMemory as NextNoMemory}
use Rattle.mt_script.specs.declared.scan.Scan.{Scan}
use Rattle.mt_script.specs.declared.scan.Found.{Found}
use Rattle.mt_script.specs.declared.scan.Found.TheVariants.{Header as FoundHeader, Bad as FoundBad, Partial}
use Rattle.mt_base.specs.declared.NoMemory.{NoMemory}
use Rattle.mt_script.proofs.Items.{then_begins, rest_line, drop_none, bad_item, opened, skipped_more, body_more, command_item, lacks_body, cut_item, last_item, rest_of, front_of}

-- nothing was looked at from here on
pub looked_from : (b : List ℕ) (at : ℕ) → at ≤ length b → Looked b at at
looked_from b at h = record { order = omega arith; within = h; none = λ k low high. absurd (omega arith) }

-- the first line is no header
pub bad_here : {ended : Bool} → (b line seen new : List ℕ) (end : ℕ) → LineAt b 0 end → (IsSkipped (strip_carriage_return (take end b)) → ⊥) →
    line ≡ strip_carriage_return (take end seen) → seen ≡ b → ((header : Header) → IsHeader line header → ⊥) → new ≡ drop (end + 1) b → Begins ended b (Bad ∷ []) new
bad_here b line seen new end l stays e s none n =
    let is : line ≡ strip_carriage_return (take end b) = e ∙ ap (λ t. strip_carriage_return (take end t)) s in
    rw n (bad_item b end l stays (λ header h. none header (rw is h)))

-- the first line is a header
pub opened_here : (b line seen : List ℕ) (end : ℕ) (header : Header) (missing : ℕ) → LineAt b 0 end → (IsSkipped (strip_carriage_return (take end b)) → ⊥) →
    line ≡ strip_carriage_return (take end seen) → seen ≡ b → IsHeader line header → missing ≡ body_lines header → Opened b header (end + 1) (end + 1) missing
opened_here b line seen end header missing l stays e s good m =
    let is : line ≡ strip_carriage_return (take end b) = e ∙ ap (λ t. strip_carriage_return (take end t)) s in
    opened b end header missing l stays (rw (← is) good) m

-- the first line stands for nothing
pub skipped_here : {ended : Bool} → (a b line seen new : List ℕ) (end : ℕ) → Begins ended a [] b → LineAt b 0 end → line ≡ strip_carriage_return (take end seen) → seen ≡ b →
    IsSkipped line → new ≡ drop (end + 1) b → Begins ended a [] new
skipped_here a b line seen new end t l e s skipped n =
    let is : line ≡ strip_carriage_return (take end b) = e ∙ ap (λ t. strip_carriage_return (take end t)) s in
    rw n (skipped_more a b end t l (rw (← is) skipped))

-- one line more of the body of the header that is open
pub opens_more : (header : Option RustHeader) (b : List ℕ) (body line end missing fewer : ℕ) → IsSome header → Opens header b body line missing → LineAt b line end → fewer + 1 ≡ missing →
    Opens header b body (end + 1) fewer
opens_more None b body line end missing fewer some o l e = cc
opens_more (Some header) b body line end missing fewer some o l e = body_more b (header_of header) body line end missing fewer o l e

-- the command of the header that is open
pub command_here : {ended : Bool} → (was : Option RustHeader) (header : RustHeader) (b new bytes : List ℕ) (body line missing : ℕ) → was ≡ Some header → Opens was b body line missing → missing ≡ 0 →
    bytes ≡ slice_range b body line → new ≡ drop line b → (command : Command) → WithBody (header_of header) bytes command → Begins ended b (Given command ∷ []) new
command_here was header b new bytes body line missing e o z s n command whole =
    let p : Opens (Some header) b body line missing = rw e at o in
    let made : WithBody (header_of header) (slice_range b body line) command = subst (λ t. WithBody (header_of header) t command) s whole in
    rw n (command_item b (header_of header) body line missing command p z made)

pub some_too : (new old : Option RustHeader) → new ≡ old → IsSome old → IsSome new
some_too new old e s = rw e s

pub no_feed_line : (b : List ℕ) → NoFeed b 0 (length b) → IsLine b
no_feed_line b none = subst IsLine (drop_none b) (rest_line b 0 none)

leads_on : (a b c : Scan) (xs ys : List Item) → Leads a xs b → Leads b ys c → Leads a (xs ++ ys) c
leads_on a b c xs ys l m ended = then_begins (wait a) (wait b) (wait c) xs ys (l ended) (m ended)

found_after : (a b c : Scan) (found : Found) → Leads a [] b → FindsHeader b found c → FindsHeader a found c
found_after a b c FoundHeader l f = (f.0, leads_on a b c [] [] l f.1)
found_after a b c FoundBad l f = (f.0, leads_on a b c [] (Bad ∷ []) l f.1)
found_after a b c Partial l f = (f.0, leads_on a b c [] [] l f.1, f.2)

pub finds_after : (a b c : Scan) (r : Result Found NoMemory) → Leads a [] b → IfOk r (λ found. FindsHeader b found c) → IfOk r (λ found. FindsHeader a found c)
finds_after a b c (Ok found) l f = found_after a b c found l f
finds_after a b c (Err e) l f = f

-- the input cuts the body of the header that is open short
pub cut_here : (was : Option RustHeader) (b new : List ℕ) (body line missing : ℕ) → IsSome was → Opens was b body line missing → 0 < missing → NoFeed b line (length b) →
    (missing ≡ 1 → line ≡ length b) → new ≡ [] → Begins true b (CutShort ∷ []) new
cut_here None b new body line missing some o m none last n = cc
cut_here (Some header) b new body line missing some o m none last n =
    rw n (cut_item b (header_of header) body line missing o m none (λ e. rw (last e) (drop-length b)))

not_nothing : (b : List ℕ) (line : ℕ) → line ≤ length b → line ≢ length b → drop line b ≢ []
not_nothing b line low ne e = ne (let long : length (drop line b) ≡ 0 = ap length e in let is : length (drop line b) + line ≡ length b = grind (arith, common_steps) in omega arith)

-- the input ends with the last line of the body of the header that is open
pub last_here : (was : Option RustHeader) (header : RustHeader) (b new bytes : List ℕ) (body line missing : ℕ) → was ≡ Some header → Opens was b body line missing → missing ≡ 1 →
    NoFeed b line (length b) → line ≤ length b → line ≢ length b → bytes ≡ closed (drop body b) → new ≡ [] → (command : Command) → WithBody (header_of header) bytes command → Begins true b (Given command ∷ []) new
last_here was header b new bytes body line missing e o m none low ne s n command whole =
    let p : Opens (Some header) b body line missing = rw e at o in
    let made : WithBody (header_of header) (closed (drop body b)) command = subst (λ t. WithBody (header_of header) t command) s whole in
    rw n (last_item b (header_of header) body line missing command p m none (not_nothing b line low ne) made)

-- the lines that are there of the body
pub lines_here : (was : Option RustHeader) (b : List ℕ) (body line missing : ℕ) → IsSome was → Opens was b body line missing → (n : ℕ) × Block n (slice_range b body line)
lines_here None b body line missing some o = cc
lines_here (Some header) b body line missing some o = (o.got, subst (Block o.got) (sym (front_of b o.raw o.front (drop line b) body line o.are o.body_at o.line_at)) o.lines)

-- the body is these lines and what follows them
pub body_here : (was : Option RustHeader) (b : List ℕ) (body line missing : ℕ) → IsSome was → Opens was b body line missing → slice_range b body line ++ drop line b ≡ drop body b
body_here None b body line missing some o = cc
body_here (Some header) b body line missing some o =
    ap (λ s. s ++ drop line b) (front_of b o.raw o.front (drop line b) body line o.are o.body_at o.line_at) ∙ sym (rest_of b o.raw o.front (drop line b) body o.are o.body_at)

pub gives_after : (ended : Bool) (a b c : List ℕ) (next : Next) → Begins ended a [] b → Gives ended b next c → StarvesOr (Gives ended a next c) next
gives_after ended a b c (NextCommand command) t g = then_begins a b c [] _ t g
gives_after ended a b c NextBad t g = then_begins a b c [] _ t g
gives_after ended a b c NextCutShort t g = then_begins a b c [] _ t g
gives_after ended a b c NextMore t g = (g.0, then_begins a b c [] [] t g.1, g.2)
gives_after ended a b c NextEnd t g = (g.0, then_begins a b c [] [] t g.1, g.2)
gives_after ended a b c NextNoMemory t g = tt

-- the body of the header that is open has not come to its end
rest_here : (was : Option RustHeader) (b : List ℕ) (body line missing : ℕ) → IsSome was → Opens was b body line missing → 0 < missing → NoFeed b line (length b) → IsRest false b
rest_here None b body line missing some o m none = cc
rest_here (Some header) b body line missing some o m none = lacks_body b (header_of header) body line missing o m none

pub more_here : (ended : Bool) (a b : Scan) → ended ≡ false → b.held ≡ a.held → b.start ≡ a.start → IsSound b → IsSome b.header → (0 < b.missing) × NoFeed (wait b) b.line (length (wait b)) →
    Gives ended (wait a) NextMore (wait b)
more_here ended a b e held start sound some part =
    let same : wait b ≡ wait a = rw (held, start) refl in
    let rest : IsRest false (wait b) = rest_here b.header (wait b) b.body b.line b.missing some sound.opens part.0 part.1 in
    rw e (refl, rw same (Nothing (wait a)), rest)

-- the same bytes and more behind them
looked_grows : (b piece : List ℕ) (line scanned : ℕ) → Looked b line scanned → Looked (b ++ piece) line scanned
looked_grows b piece line scanned l =
    let high : scanned ≤ length b = l.within in
    record {
      order = l.order;
      within = grind (arith, common_steps);
      none = λ k low under. let same : get_or (b ++ piece) k 0 ≡ get_or b k 0 = grind (arith, common_steps) in λ is. l.none k low under (sym same ∙ is);
    }

opened_grows : (b piece : List ℕ) (header : Header) (body line missing : ℕ) → line ≤ length b → Opened b header body line missing → Opened (b ++ piece) header body line missing
opened_grows b piece header body line missing low o = record {
  raw = o.raw;
  front = o.front;
  got = o.got;
  are = rw (drop-append-le line b piece low) (ap (λ s. s ++ piece) o.are ∙ simp append_assoc);
  one = o.one;
  stays = o.stays;
  good = o.good;
  lines = o.lines;
  count = o.count;
  body_at = o.body_at;
  line_at = o.line_at;
}

opens_grow : (was : Option RustHeader) (b piece : List ℕ) (body line missing : ℕ) → line ≤ length b → Opens was b body line missing → Opens was (b ++ piece) body line missing
opens_grow None b piece body line missing low o = o
opens_grow (Some header) b piece body line missing low o = opened_grows b piece (header_of header) body line missing low o

pub sound_grows : (old new : Scan) (piece : List ℕ) → IsSound old → new.held.items ≡ old.held.items ++ piece → new.start ≡ old.start → new.scanned ≡ old.scanned → new.header ≡ old.header →
    new.body ≡ old.body → new.line ≡ old.line → new.missing ≡ old.missing → IsSound new
sound_grows old new piece sound held start scanned header body line missing =
    let inside : old.start ≤ length old.held.items = sound.within in
    let wide : wait new ≡ wait old ++ piece = rw (start, held) (drop-append-le old.start old.held.items piece inside) in
    let low : old.line ≤ length (wait old) = (let a = sound.looked.order in let b = sound.looked.within in omega arith) in
    record {
      within = rw (start, held) (grind (arith, common_steps));
      looked = rw (wide, line, scanned) (looked_grows (wait old) piece old.line old.scanned sound.looked);
      opens = rw (wide, header, body, line, missing) (opens_grow old.header (wait old) piece old.body old.line old.missing low sound.opens);
    }
