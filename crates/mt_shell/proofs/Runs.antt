-- Parts of a run, one after another.
use Rattle.std.proofs.Common.{◌≡◌, ◌≢◌, ℕ, suc, ◌+◌, ◌-◌, ◌<◌, ◌≤◌, inl, inr, Bool, true, false, List, [], ◌∷◌, ◌++◌, length, take, Option, Some, None, arith, refl, sym, ◌∙◌, ap, append_assoc, append-nil, length-append, subst, MatchOption}
use Rattle.std.proofs.lemmas.Grind.{common_steps}
use Rattle.std.proofs.lemmas.List.Elements.{All-append, All-take, All-nil, All-cons}
use Rattle.mt_shelf_spec.specs.Files.{Files}
use Rattle.mt_script_spec.specs.Commands.{Command, Quit}
use Rattle.mt_script_spec.specs.Script.{Item, Given, Bad, CutShort, ClosedLine, FirstLine, Body, Whole, Commanded, Refused, Broken, Begins, Nothing, Skips, Then, IsRest}
use Rattle.mt_session_spec.specs.World.{Held}
use Rattle.mt_session_spec.specs.Settings.{Setting}
use Rattle.mt_session_spec.specs.Gains.{Gained, none_gained, gained_then}
use Rattle.mt_session_spec.specs.Answers.{Answer, bytes_of, output_of}
use Rattle.mt_session_spec.specs.Steps.{IsSaid}
use Rattle.mt_session_spec.specs.Replies.{Known, KnownStep, Replies, NoReplies, ThenReply, NoQuit}
use Rattle.mt_session_spec.specs.Runs.{Outside, Leaves, InPart}
use Rattle.mt_outside.specs.Told.{Told}
use Rattle.mt_script.specs.Seen.{command_of}
use Rattle.mt_script.specs.declared.command.Next.{Next}
use Rattle.mt_script.specs.declared.command.Next.TheVariants.{Command as NextCommand, Bad as NextBad, CutShort as NextCutShort, More as NextMore, End as NextEnd, NoMemory as NextNoMemory}
use Rattle.mt_script.specs.Scans.{Gives}
use Rattle.mt_shell.specs.Outsides.{known}
use Rattle.mt_shell.specs.Reads.{Replied, RepliedInPart, Progress, ProgressToQuit, ProgressInPart, item_of, IsSaidNext, IsLast}

-- ## What is outside

-- one thing after another
pub later : (start : Outside) (written output : List ℕ) (stored : Option Files) (gained : Gained) (at : Outside) (more : List ℕ) (files : Option Files) (gains : Gained) (end : Outside) →
    Leaves start written output stored gained at → Leaves at (written ++ output) more files gains end → Leaves start written (output ++ more) files (gained_then gained gains) end
later start written output stored gained at more files gains end l m = record {
  held = rw (m.held, append_assoc) refl;
  files = m.files;
  failed = rw (m.failed, l.failed, append_assoc) refl;
  refused = rw (m.refused, l.refused, append_assoc) refl;
}

pub nothing_yet : (start : Outside) (written : List ℕ) → start.written ≡ Some written → Leaves start written [] start.files none_gained start
nothing_yet start written e = record { held = rw append-nil e; files = refl; failed = sym (append-nil start.failed); refused = sym (append-nil start.refused) }

-- ## Items without a `quit`

pub none_quits : NoQuit []
none_quits = All-nil (λ item. item ≢ Given Quit)

pub one_goes_on : (item : Item) → item ≢ Given Quit → NoQuit (item ∷ [])
one_goes_on item h = All-cons (λ item. item ≢ Given Quit) item [] h none_quits

pub none_quit : (xs ys : List Item) → NoQuit xs → NoQuit ys → NoQuit (xs ++ ys)
none_quit xs ys a b = All-append (λ item. item ≢ Given Quit) xs ys a b

pub front_quits : (n : ℕ) (xs : List Item) → NoQuit xs → NoQuit (take n xs)
front_quits n xs a = All-take (λ item. item ≢ Given Quit) n xs a

longer : (x : Item) (xs : List Item) (y : Item) (ys : List Item) → length (x ∷ (xs ++ y ∷ ys)) - 1 ≡ suc (length (xs ++ y ∷ ys) - 1)
longer x xs y ys = let some : length (xs ++ y ∷ ys) ≡ length xs + suc (length ys) = length-append xs (y ∷ ys) in omega (arith, some)

but_last : (xs : List Item) (y : Item) (ys : List Item) → take (length (xs ++ y ∷ ys) - 1) (xs ++ y ∷ ys) ≡ xs ++ take (length (y ∷ ys) - 1) (y ∷ ys)
but_last [] y ys = refl
but_last (x ∷ xs) y ys = ap (λ (n : ℕ). take n (x ∷ (xs ++ y ∷ ys))) (longer x xs y ys) ∙ ap (λ (l : List Item). x ∷ l) (but_last xs y ys)

-- none before the last of these
pub before_last : (xs ys : List Item) → NoQuit xs → NoQuit (take (length ys - 1) ys) → NoQuit (take (length (xs ++ ys) - 1) (xs ++ ys))
before_last xs [] a b = rw append-nil (front_quits (length xs - 1) xs a)
before_last xs (y ∷ ys) a b = rw (but_last xs y ys) (none_quit xs (take (length (y ∷ ys) - 1) (y ∷ ys)) a b)

one_before_last : (item : Item) → NoQuit (take (length (item ∷ []) - 1) (item ∷ []))
one_before_last item = none_quits

-- ## Answers

pub outputs : (answers more : List Answer) → output_of (answers ++ more) ≡ output_of answers ++ output_of more
outputs answers more = grind (arith, common_steps)

-- one answer is written whole before these
part_behind_one : (answer : Answer) (answers : List Answer) (output : List ℕ) → InPart answers output → InPart (answer ∷ answers) (bytes_of answer ++ output)
part_behind_one answer [] output p = ([], sym (append-nil (bytes_of answer)) ∙ ap (λ (o : List ℕ). bytes_of answer ++ o) (sym p) ∙ sym (append-nil (bytes_of answer ++ output)))
part_behind_one answer (next ∷ answers) output p = (output, refl, p)

-- answers are written whole before these
pub in_part_behind : (before answers : List Answer) (output : List ℕ) → InPart answers output → InPart (before ++ answers) (output_of before ++ output)
in_part_behind [] answers output p = p
in_part_behind (answer ∷ before) answers output p = rw append_assoc (part_behind_one answer (before ++ answers) (output_of before ++ output) (in_part_behind before answers output p))

-- all of them are written whole
pub all_in_part : (answers : List Answer) → InPart answers (output_of answers)
all_in_part answers = let part : InPart (answers ++ []) (output_of answers ++ []) = in_part_behind answers [] [] refl in rw (append-nil answers, append-nil (output_of answers)) at part

-- ## Replies

first_of_none : (gained : Gained) → gained_then gained none_gained ≡ gained
first_of_none gained = ap (λ (f : List (List ℕ)). record { failed = f; refused = gained.refused ++ [] }) (append-nil gained.failed) ∙ ap (λ (r : List (List ℕ)). record { failed = gained.failed; refused = r }) (append-nil gained.refused)

gained_on : (a b c : Gained) → gained_then (gained_then a b) c ≡ gained_then a (gained_then b c)
gained_on a b c = ap (λ (f : List (List ℕ)). record { failed = f; refused = (a.refused ++ b.refused) ++ c.refused }) (append_assoc a.failed b.failed c.failed) ∙
    ap (λ (r : List (List ℕ)). record { failed = a.failed ++ (b.failed ++ c.failed); refused = r }) (append_assoc a.refused b.refused c.refused)

-- the replies to items, and then to others
pub joined : {setting : Setting} → (xs ys : List Item) (old mid new : Known) (f g : Gained) (o p : List Answer) → Replies setting xs old f o mid → Replies setting ys mid g p new →
    Replies setting (xs ++ ys) old (gained_then f g) (o ++ p) new
joined {setting} xs ys old mid new f g o p (NoReplies same) s = s
joined {setting} xs ys old mid new f g o p (ThenReply item items first next last here after answer answers step r) s =
    subst (λ (all : Gained). Replies setting (item ∷ (items ++ ys)) old all (answer ∷ (answers ++ p)) new) (sym (gained_on here after g))
    (ThenReply item (items ++ ys) old next new here (gained_then after g) answer (answers ++ p) step (joined items ys next mid new after g answers p r s))

pub one_reply : {setting : Setting} → (item : Item) (old new : Known) (gained : Gained) (answer : Answer) → KnownStep setting old item gained new answer →
    Replies setting (item ∷ []) old gained (answer ∷ []) new
one_reply {setting} item old new gained answer s =
    subst (λ (all : Gained). Replies setting (item ∷ []) old all (answer ∷ []) new) (first_of_none gained) (ThenReply item [] old new new gained none_gained answer [] s (NoReplies new))

-- ## Progress

-- the bytes begin with these items, and then with others
pub then_begins : {ended : Bool} → (a b c : List ℕ) (xs ys : List Item) → Begins ended a xs b → Begins ended b ys c → Begins ended a (xs ++ ys) c
then_begins a b c xs ys (Nothing bytes) r = r
then_begins a b c xs ys (Skips bytes line mid items others f s t) r = Skips a line mid (xs ++ ys) c f s (then_begins mid b c xs ys t r)
then_begins a b c xs ys (Then bytes item mid items others w t) r = Then a item mid (items ++ ys) c w (then_begins mid b c items ys t r)

-- nothing was answered yet
pub none_yet : {setting : Setting} → {ended : Bool} → (bytes : List ℕ) (held : Held) (start : Outside) (written : List ℕ) → start.written ≡ Some written → Progress setting ended bytes bytes held held start written start
none_yet bytes held start written e = record {
  items = [];
  gained = none_gained;
  answers = [];
  taken = Nothing bytes;
  no_quit = none_quits;
  replies = NoReplies (known held start);
  leaves = nothing_yet start written e;
}

-- one answer more is written whole
one_leaves : (start : Outside) (written : List ℕ) (answers : List Answer) (gained : Gained) (at : Outside) (answer : Answer) (files : Option Files) (gains : Gained) (end : Outside) →
    Leaves start written (output_of answers) at.files gained at → Leaves at (written ++ output_of answers) (bytes_of answer) files gains end →
    Leaves start written (output_of (answers ++ answer ∷ [])) files (gained_then gained gains) end
one_leaves start written answers gained at answer files gains end l m =
    let are : output_of answers ++ bytes_of answer ≡ output_of (answers ++ answer ∷ []) = sym (outputs answers (answer ∷ []) ∙ ap (λ (one : List ℕ). output_of answers ++ one) (append-nil (bytes_of answer))) in
    subst (λ (output : List ℕ). Leaves start written output files (gained_then gained gains) end) are
    (later start written (output_of answers) at.files gained at (bytes_of answer) files gains end l m)

-- one item more
pub one_more : {setting : Setting} → {ended : Bool} → (a b c : List ℕ) (item : Item) (old mid new : Held) (start : Outside) (written : List ℕ) (at end : Outside) → Progress setting ended a b old mid start written at →
    Begins ended b (item ∷ []) c → item ≢ Given Quit → Told at.written (λ here. Replied setting mid item new at here end) → Progress setting ended a c old new start written end
one_more a b c item old mid new start written at end p t ne told =
    let r = told (written ++ output_of p.answers) p.leaves.held in
    record {
      items = p.items ++ item ∷ [];
      gained = gained_then p.gained r.gained;
      answers = p.answers ++ r.answer ∷ [];
      taken = then_begins a b c p.items (item ∷ []) p.taken t;
      no_quit = none_quit p.items (item ∷ []) p.no_quit (one_goes_on item ne);
      replies = joined p.items (item ∷ []) (known old start) (known mid at) (known new end) p.gained r.gained p.answers (r.answer ∷ []) p.replies
          (one_reply item (known mid at) (known new end) r.gained r.answer r.step);
      leaves = one_leaves start written p.answers p.gained at r.answer end.files r.gained end p.leaves r.leaves;
    }

-- and then a `quit`
quit_more : {setting : Setting} → {ended : Bool} → (a b c : List ℕ) (old mid new : Held) (start : Outside) (written : List ℕ) (at end : Outside) → Progress setting ended a b old mid start written at →
    Begins ended b (Given Quit ∷ []) c → Told at.written (λ here. Replied setting mid (Given Quit) new at here end) → ProgressToQuit setting ended a old start written end
quit_more a b c old mid new start written at end p t told =
    let r = told (written ++ output_of p.answers) p.leaves.held in
    record {
      items = p.items;
      others = c;
      gained = gained_then p.gained r.gained;
      answers = p.answers ++ r.answer ∷ [];
      last = known new end;
      taken = then_begins a b c p.items (Given Quit ∷ []) p.taken t;
      no_quit = p.no_quit;
      replies = joined p.items (Given Quit ∷ []) (known old start) (known mid at) (known new end) p.gained r.gained p.answers (r.answer ∷ []) p.replies
          (one_reply (Given Quit) (known mid at) (known new end) r.gained r.answer r.step);
      leaves = one_leaves start written p.answers p.gained at r.answer end.files r.gained end p.leaves r.leaves;
    }

pub quit_at : {setting : Setting} → {ended : Bool} → (a b c : List ℕ) (item : Item) (old mid new : Held) (start : Outside) (written : List ℕ) (at end : Outside) → Progress setting ended a b old mid start written at →
    Begins ended b (item ∷ []) c → item ≡ Given Quit → Told at.written (λ here. Replied setting mid item new at here end) → ProgressToQuit setting ended a old start written end
quit_at {setting = setting} {ended} a b c item old mid new start written at end p t e told =
    quit_more a b c old mid new start written at end p (subst (λ (i : Item). Begins ended b (i ∷ []) c) e t) (subst (λ (i : Item). Told at.written (λ here. Replied setting mid i new at here end)) e told)

-- lines that stand for nothing more
pub and_rest : {setting : Setting} → {ended : Bool} → (a b c : List ℕ) (old mid : Held) (start : Outside) (written : List ℕ) (at : Outside) → Progress setting ended a b old mid start written at → Begins ended b [] c →
    Progress setting ended a c old mid start written at
and_rest a b c old mid start written at p t = record {
  items = p.items;
  gained = p.gained;
  answers = p.answers;
  taken = rw (← append-nil p.items) (then_begins a b c p.items [] p.taken t);
  no_quit = p.no_quit;
  replies = p.replies;
  leaves = p.leaves;
}

-- one item more, whose reply was written in part
one_in_part : {setting : Setting} → {ended : Bool} → (a b c : List ℕ) (item : Item) (old mid : Held) (start : Outside) (written : List ℕ) (at end : Outside) → Progress setting ended a b old mid start written at →
    Begins ended b (item ∷ []) c → Told at.written (λ here. RepliedInPart setting mid item at here end) → ProgressInPart setting ended a old start written end
one_in_part a b c item old mid start written at end p t told =
    let r = told (written ++ output_of p.answers) p.leaves.held in
    record {
      items = p.items ++ item ∷ [];
      others = c;
      gained = gained_then p.gained r.gained;
      answers = p.answers ++ r.answer ∷ [];
      last = r.last;
      output = output_of p.answers ++ r.front;
      taken = then_begins a b c p.items (item ∷ []) p.taken t;
      no_quit = before_last p.items (item ∷ []) p.no_quit (one_before_last item);
      replies = joined p.items (item ∷ []) (known old start) (known mid at) r.last p.gained r.gained p.answers (r.answer ∷ []) p.replies
          (one_reply item (known mid at) r.last r.gained r.answer r.step);
      part = in_part_behind p.answers (r.answer ∷ []) r.front (r.unwritten, r.are);
      leaves = later start written (output_of p.answers) at.files p.gained at r.front r.last.files r.gained end p.leaves r.leaves;
    }

-- nothing more was written
none_in_part : {setting : Setting} → {ended : Bool} → (a b : List ℕ) (old mid : Held) (start : Outside) (written : List ℕ) (at end : Outside) → Progress setting ended a b old mid start written at →
    Told at.written (λ here. Leaves at here [] at.files none_gained end) → ProgressInPart setting ended a old start written end
none_in_part a b old mid start written at end p told =
    let leaves : Leaves start written (output_of p.answers ++ []) at.files (gained_then p.gained none_gained) end =
    later start written (output_of p.answers) at.files p.gained at [] at.files none_gained end p.leaves (told (written ++ output_of p.answers) p.leaves.held) in
    record {
      items = p.items;
      others = b;
      gained = p.gained;
      answers = p.answers;
      last = known mid at;
      output = output_of p.answers;
      taken = p.taken;
      no_quit = front_quits (length p.items - 1) p.items p.no_quit;
      replies = p.replies;
      part = all_in_part p.answers;
      leaves = record {
        held = rw append-nil at leaves.held;
        files = leaves.files;
        failed = rw append-nil at leaves.failed;
        refused = rw append-nil at leaves.refused;
      };
    }

-- nothing was read, since memory ran out
pub nothing_done : {setting : Setting} → {ended : Bool} → (bytes : List ℕ) (held : Held) (start : Outside) (written : List ℕ) → start.written ≡ Some written → ProgressInPart setting ended bytes held start written start
nothing_done bytes held start written e = record {
  items = [];
  others = bytes;
  gained = none_gained;
  answers = [];
  last = known held start;
  output = [];
  taken = Nothing bytes;
  no_quit = none_quits;
  replies = NoReplies (known held start);
  part = refl;
  leaves = nothing_yet start written e;
}

-- an error at the item that comes next, or where none came since memory ran out
pub part_at : {setting : Setting} → {ended : Bool} → (next : Option Item) (a b c : List ℕ) (old mid : Held) (start : Outside) (written : List ℕ) (at end : Outside) → Progress setting ended a b old mid start written at →
    ((item : Item) → next ≡ Some item → Begins ended b (item ∷ []) c) →
    Told at.written (λ here. MatchOption next (Leaves at here [] at.files none_gained end) (λ item. RepliedInPart setting mid item at here end)) → ProgressInPart setting ended a old start written end
part_at None a b c old mid start written at end p t told = none_in_part a b old mid start written at end p told
part_at (Some item) a b c old mid start written at end p t told = one_in_part a b c item old mid start written at end p (t item refl) told

-- ## What comes next

-- what next gives is its item
pub gives_item : (ended : Bool) (old new : List ℕ) (next : Next) (item : Item) → Gives ended old next new → item_of next ≡ Some item → Begins ended old (item ∷ []) new
gives_item ended old new (NextCommand command) item g e = let i : Given _ ≡ item = cc in rw (← i) g
gives_item ended old new NextBad item g e = let i : Bad ≡ item = cc in rw (← i) g
gives_item ended old new NextCutShort item g e = let i : CutShort ≡ item = cc in rw (← i) g
gives_item ended old new NextMore item g e = cc
gives_item ended old new NextEnd item g e = cc
gives_item ended old new NextNoMemory item g e = cc

-- at the last no whole item is left
pub gives_last : (ended : Bool) (old new : List ℕ) (next : Next) → Gives ended old next new → IsLast next → Begins ended old [] new × IsRest ended new
gives_last ended old new (NextCommand command) g l = absurd l
gives_last ended old new NextBad g l = absurd l
gives_last ended old new NextCutShort g l = absurd l
gives_last ended old new NextMore g l = (g.1, g.2)
gives_last ended old new NextEnd g l = (g.1, g.2)
gives_last ended old new NextNoMemory g l = absurd l

some_bytes : (bytes : List ℕ) → bytes ≢ [] → 0 < length bytes
some_bytes [] ne = absurd (ne refl)
some_bytes (b ∷ bytes) ne = grind (arith, common_steps)

line_shortens : (ended : Bool) (bytes line others : List ℕ) → FirstLine ended bytes line others → length others < length bytes
line_shortens ended bytes line others (inl c) = rw c.are (grind (arith, common_steps))
line_shortens ended bytes line others (inr o) = rw o.nothing (some_bytes bytes o.some)

body_shortens : (ended : Bool) (n : ℕ) (bytes body others : List ℕ) → Body ended n bytes body others → length others ≤ length bytes
body_shortens ended n bytes body others (inl c) = rw c.are (grind (arith, common_steps))
body_shortens ended n bytes body others (inr o) = rw o.nothing (grind (arith, common_steps))

whole_shortens : {ended : Bool} → (bytes : List ℕ) (item : Item) (others : List ℕ) → Whole ended bytes item others → length others < length bytes
whole_shortens {ended} bytes item others (Commanded line mid header body command others' f s g b w) =
    let one = line_shortens ended bytes line mid f in let two = body_shortens ended _ mid body others b in omega (arith, one, two)
whole_shortens {ended} bytes item others (Refused line others' f s n) = line_shortens ended bytes line others f
whole_shortens {ended} bytes item others (Broken line mid header e f s g few) = let one = line_shortens ended bytes line mid f in omega (arith, one)

never_longer : {ended : Bool} → (a b : List ℕ) (items : List Item) → Begins ended a items b → length b ≤ length a
never_longer a b items (Nothing bytes) = omega arith
never_longer {ended} a b items (Skips bytes line mid more others f s t) = let one = line_shortens ended a line mid f in let two = never_longer mid b items t in omega (arith, one, two)
never_longer a b items (Then bytes item mid more others w t) = let one = whole_shortens a item mid w in let two = never_longer mid b more t in omega (arith, one, two)

-- an item takes some bytes
pub item_shortens : {ended : Bool} → (a b : List ℕ) (item : Item) (items : List Item) → Begins ended a (item ∷ items) b → length b < length a
item_shortens {ended} a b item items (Skips bytes line mid more others f s t) = let one = line_shortens ended a line mid f in let two = item_shortens mid b item items t in omega (arith, one, two)
item_shortens a b item items (Then bytes item' mid more others w t) = let one = whole_shortens a item mid w in let two = never_longer mid b items t in omega (arith, one, two)

-- a command that comes next is one that some script has
whole_said : {ended : Bool} → (bytes others : List ℕ) (item : Item) (command : Command) → item ≡ Given command → Whole ended bytes item others → IsSaid command
whole_said bytes others item command e (Commanded line mid header body given others' f s g b w) = let same : given ≡ command = cc in record { line = line; header = header; body = body; good = g; with_body = rw (← same) w }
whole_said bytes others item command e (Refused line others' f s n) = cc
whole_said bytes others item command e (Broken line mid header last f s g few) = cc

begins_said : {ended : Bool} → (bytes others : List ℕ) (items more : List Item) (command : Command) → items ≡ Given command ∷ more → Begins ended bytes items others → IsSaid command
begins_said bytes others items more command e (Nothing same) = cc
begins_said {ended} bytes others items more command e (Skips from line mid rest left f s t) = begins_said {ended = ended} mid others items more command e t
begins_said {ended} bytes others items more command e (Then from item mid rest left w t) = let first : item ≡ Given command = cc in whole_said {ended = ended} bytes mid item command first w

pub gives_said : (ended : Bool) (old new : List ℕ) (next : Next) → Gives ended old next new → IsSaidNext next
gives_said ended old new (NextCommand command) g = begins_said {ended = ended} old new (Given (command_of command) ∷ []) [] (command_of command) refl g
gives_said ended old new NextBad g = tt
gives_said ended old new NextCutShort g = tt
gives_said ended old new NextMore g = tt
gives_said ended old new NextEnd g = tt
gives_said ended old new NextNoMemory g = tt

-- whatever follows, the bytes begin with the same items
closed_grows : (bytes line others more : List ℕ) → ClosedLine bytes line others → ClosedLine (bytes ++ more) line (others ++ more)
closed_grows bytes line others more c = record { raw = c.raw; are = rw (c.are, append_assoc) refl; one = c.one; is = c.is }

line_grows : (ended : Bool) (bytes line others more : List ℕ) → FirstLine false bytes line others → FirstLine ended (bytes ++ more) line (others ++ more)
line_grows ended bytes line others more (inl c) = inl (closed_grows bytes line others more c)
line_grows ended bytes line others more (inr o) = let e : false ≡ true = o.last in cc

body_grows : (ended : Bool) (n : ℕ) (bytes body others more : List ℕ) → Body false n bytes body others → Body ended n (bytes ++ more) body (others ++ more)
body_grows ended n bytes body others more (inl c) = inl (record { are = rw (c.are, append_assoc) refl; lines = c.lines })
body_grows ended n bytes body others more (inr o) = let e : false ≡ true = o.last in cc

whole_grows : (ended : Bool) (bytes : List ℕ) (item : Item) (others more : List ℕ) → Whole false bytes item others → Whole ended (bytes ++ more) item (others ++ more)
whole_grows ended bytes item others more (Commanded line mid header body command others' f s g b w) =
    Commanded line (mid ++ more) header body command (others ++ more) (line_grows ended bytes line mid more f) s g (body_grows ended _ mid body others more b) w
whole_grows ended bytes item others more (Refused line others' f s n) = Refused line (others ++ more) (line_grows ended bytes line others more f) s n
whole_grows ended bytes item others more (Broken line mid header e f s g few) = let is : false ≡ true = e in cc

pub grows : (ended : Bool) (a b more : List ℕ) (items : List Item) → Begins false a items b → Begins ended (a ++ more) items (b ++ more)
grows ended a b more items (Nothing bytes) = Nothing (a ++ more)
grows ended a b more items (Skips bytes line mid rest others f s t) = Skips (a ++ more) line (mid ++ more) items (b ++ more) (line_grows ended a line mid more f) s (grows ended mid b more items t)
grows ended a b more items (Then bytes item mid rest others w t) = Then (a ++ more) item (mid ++ more) rest (b ++ more) (whole_grows ended a item mid more w) (grows ended mid b more rest t)

-- the same bytes where the input ends with them
pub ends : (a b : List ℕ) (items : List Item) → Begins false a items b → Begins true a items b
ends a b items t = let P : List ℕ → List ℕ → Type 0 = λ x y. Begins true x items y in subst (λ x. P x b) (append-nil a) (subst (λ y. P (a ++ []) y) (append-nil b) (grows true a b [] items t))
