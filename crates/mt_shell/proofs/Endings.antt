-- How a run goes on and ends.
use Rattle.std.proofs.Common.{◌≡◌, ◌≢◌, ℕ, ◌+◌, ◌<◌, ◌≤◌, ◌⊎◌, inl, inr, true, false, List, [], ◌∷◌, ◌++◌, length, take, drop, Some, Err, arith, refl, sym, ◌∙◌, ap, append_assoc, append-nil, subst}
use Rattle.std.proofs.lemmas.Grind.{common_steps}
use Rattle.std.proofs.lemmas.List.{take-append-drop, take-append-le}
use Rattle.std.proofs.lemmas.List.Elements.{All-nil}
use Rattle.mt_outside.specs.Told.{Told, Takes}
use Rattle.mt_outside.specs.Faults.{Rose}
use Rattle.mt_script_spec.specs.Commands.{Quit}
use Rattle.mt_script_spec.specs.Script.{Given, Nothing, IsRest}
use Rattle.mt_session_spec.specs.World.{Held, first_held}
use Rattle.mt_session_spec.specs.Settings.{Setting}
use Rattle.mt_session_spec.specs.Gains.{Gained, none_gained, gained_then}
use Rattle.mt_session_spec.specs.Replies.{NoReplies, first_known}
use Rattle.mt_session_spec.specs.Answers.{output_of}
use Rattle.mt_session_spec.specs.Runs.{Outside, Leaves, script_bytes_limit, block_bytes_limit, Took as Taken, HoldsNoQuit, IsLastRead, EndsWell, EndsWithFault, EndsTooLong, EndsInPart}
use Rattle.mt_shell.specs.declared.top.Status.{Status}
use Rattle.mt_shell.specs.declared.top.Status.TheVariants.{Done, Usage, SourceFault, SinkFault, ScriptTooLong, NoMemory}
use Rattle.mt_outside.specs.declared.sink.SinkError.{SinkError}
use Rattle.mt_outside.specs.declared.sink.SinkError.TheVariants.{Failed, NoMemory as Starved}
use Rattle.mt_shell.specs.declared.talk.Flow.{Flow}
use Rattle.mt_shell.specs.Outsides.{beside, reads_on, known, SameSource, NoFaults, CountsSink}
use Rattle.mt_shell.specs.Reads.{Progress, ProgressToQuit, ProgressInPart}
use Rattle.mt_shell.specs.Ends.{Took, ReadsOn, FinishesAs, FinishCounts, EndsAs, FaultsAs, WhereTold, IsLong}
use Rattle.mt_shell.proofs.Runs.{nothing_yet, none_quits, then_begins, later, joined, none_quit, before_last, none_yet, grows, ends, outputs, in_part_behind}

-- ## Reading

pub no_line : IsRest false []
no_line = inl (All-nil (λ b. b ≢ 10))

pub at_first : {setting : Setting} → (input written wait : List ℕ) (held : Held) (start : Outside) → start.left ≡ Some input → start.written ≡ Some written → wait ≡ [] → held ≡ first_held →
    ReadsOn setting input 0 wait held start written start
at_first input written wait held start l k w h =
    rw (w, h) (record { front = []; back = input; are = refl; rest = l; count = refl; progress = none_yet [] first_held start written k })

pub took_first : (input : List ℕ) (start : Outside) → start.left ≡ Some input → Took input 0 start
took_first input start l = record { front = []; back = input; are = refl; rest = l; count = refl }

piece_is : (front back piece : List ℕ) (n : ℕ) → piece ≡ take n back → front ++ back ≡ (front ++ piece) ++ drop n back
piece_is front back piece n e = rw (append_assoc, e, take-append-drop n back) refl

count_is : (front back piece : List ℕ) (n taken : ℕ) → piece ≡ take n back → n ≤ length back → length front ≡ taken → length (front ++ piece) ≡ taken + n
count_is front back piece n taken e h c = rw e (grind (arith, common_steps))

-- the piece that is handed on is what was read
pub piece_read : (n : ℕ) (buf rest : List ℕ) → n ≤ length buf → take n (buf ++ rest) ≡ take n buf
piece_read n buf rest h = take-append-le n buf rest h

-- what is left goes on from one state of what is outside to the next
pub took_on : (input buf : List ℕ) (n taken more : ℕ) (at mid end : Outside) → Took input taken at → Told at.left (λ all. Takes all n buf mid.left) → end.left ≡ mid.left → more ≡ taken + n → Took input more end
took_on input buf n taken more at mid end t told s m =
    let k = told t.back t.rest in
    record {
      front = t.front ++ take n buf;
      back = drop n t.back;
      are = t.are ∙ piece_is t.front t.back (take n buf) n k.front;
      rest = s ∙ k.rest;
      count = count_is t.front t.back (take n buf) n taken k.front k.count t.count ∙ sym m;
    }

-- a read changes nothing of what was answered
leaves_on : (start at mid : Outside) (written output : List ℕ) (gained : Gained) → mid ≡ reads_on at mid → Leaves start written output at.files gained at → Leaves start written output mid.files gained mid
leaves_on start at mid written output gained e l = record {
  held = ap (λ (o : Outside). o.written) e ∙ l.held;
  files = refl;
  failed = ap (λ (o : Outside). o.failed) e ∙ l.failed;
  refused = ap (λ (o : Outside). o.refused) e ∙ l.refused;
}

answered_on : {setting : Setting} → (bytes wait : List ℕ) (held : Held) (start at mid : Outside) (written : List ℕ) → mid ≡ reads_on at mid → Progress setting false bytes wait first_held held start written at →
    Progress setting false bytes wait first_held held start written mid
answered_on bytes wait held start at mid written e p =
    let same : known held at ≡ known held mid = ap (λ (o : Outside). known held o) (sym e) in
    record {
      items = p.items;
      gained = p.gained;
      answers = p.answers;
      taken = p.taken;
      no_quit = p.no_quit;
      replies = rw (← same) p.replies;
      leaves = leaves_on start at mid written (output_of p.answers) p.gained e p.leaves;
    }

-- what was answered up to a read that brought this piece
record Brought (setting : Setting) (input piece : List ℕ) (more : ℕ) (wait : List ℕ) (held : Held) (start : Outside) (written : List ℕ) (mid : Outside) : Type 0 where
  pub front : List ℕ
  pub back : List ℕ
  pub are : input ≡ (front ++ piece) ++ back
  pub rest : mid.left ≡ Some back
  pub count : length (front ++ piece) ≡ more
  pub progress : Progress setting false front wait first_held held start written mid

brought : {setting : Setting} → (input buf piece wait : List ℕ) (n taken : ℕ) (held : Held) (start at mid : Outside) (written : List ℕ) → ReadsOn setting input taken wait held start written at → mid ≡ reads_on at mid →
    Told at.left (λ all. Takes all n buf mid.left) → piece ≡ take n buf → Brought setting input piece (taken + n) wait held start written mid
brought input buf piece wait n taken held start at mid written r e told p =
    let k = told r.back r.rest in
    let is : piece ≡ take n r.back = p ∙ k.front in
    record {
      front = r.front;
      back = drop n r.back;
      are = r.are ∙ piece_is r.front r.back piece n is;
      rest = k.rest;
      count = count_is r.front r.back piece n taken is k.count r.count;
      progress = answered_on r.front wait held start at mid written e r.progress;
    }

-- no `quit` was read before the last read
none_before : {setting : Setting} → (front wait : List ℕ) (held : Held) (start at : Outside) (written : List ℕ) → Progress setting false front wait first_held held start written at → IsRest false wait → HoldsNoQuit front
none_before front wait held start at written p rest = record { items = p.items; rest = wait; read = record { begins = p.taken; rests = rest }; no_quit = p.no_quit }

took_piece : {setting : Setting} → {input piece : List ℕ} → {more : ℕ} → {wait : List ℕ} → {held : Held} → {start : Outside} → {written : List ℕ} → {mid : Outside} → (end : Outside) → (b : Brought setting input piece more wait held start written mid) →
    end.left ≡ mid.left → more ≤ script_bytes_limit → Taken input (b.front ++ piece) false end
took_piece {input} {piece} {more} end b s low = record {
  back = b.back;
  are = b.are;
  rest = s ∙ b.rest;
  whole = λ no. cc;
  short = let count : length (b.front ++ piece) ≡ more = b.count in omega arith;
}

last_read : {setting : Setting} → {input piece : List ℕ} → {more : ℕ} → {wait : List ℕ} → {held : Held} → {start : Outside} → {written : List ℕ} → {mid : Outside} → (b : Brought setting input piece more wait held start written mid) → IsRest false wait →
    length piece ≤ block_bytes_limit → IsLastRead (b.front ++ piece)
last_read {input} {piece} {more} {wait} {held} {start} {written} {mid} b rest one = record {
  before = b.front;
  piece = piece;
  are = refl;
  one = one;
  none = none_before b.front wait held start mid written b.progress rest;
}

-- ## One part after another

and_then : {setting : Setting} → (front wait piece still : List ℕ) (held new : Held) (start mid end : Outside) (written : List ℕ) → Progress setting false front wait first_held held start written mid →
    Told mid.written (λ w. Progress setting false (wait ++ piece) still held new mid w end) → Progress setting false (front ++ piece) still first_held new start written end
and_then front wait piece still held new start mid end written p told =
    let q = told (written ++ output_of p.answers) p.leaves.held in
    record {
      items = p.items ++ q.items;
      gained = gained_then p.gained q.gained;
      answers = p.answers ++ q.answers;
      taken = then_begins (front ++ piece) (wait ++ piece) still p.items q.items (grows false front wait piece p.items p.taken) q.taken;
      no_quit = none_quit p.items q.items p.no_quit q.no_quit;
      replies = joined p.items q.items (known first_held start) (known held mid) (known new end) p.gained q.gained p.answers q.answers p.replies q.replies;
      leaves = rw (outputs p.answers q.answers) (later start written (output_of p.answers) mid.files p.gained mid (output_of q.answers) end.files q.gained end p.leaves q.leaves);
    }

pub read_on : {setting : Setting} → (input buf piece wait still : List ℕ) (n taken more : ℕ) (held new : Held) (start at mid end : Outside) (written : List ℕ) → ReadsOn setting input taken wait held start written at → mid ≡ reads_on at mid →
    Told at.left (λ all. Takes all n buf mid.left) → piece ≡ take n buf → Told mid.written (λ w. Progress setting false (wait ++ piece) still held new mid w end) → end.left ≡ mid.left → more ≡ taken + n →
    ReadsOn setting input more still new start written end
read_on input buf piece wait still n taken more held new start at mid end written r e told p on s m =
    let b = brought input buf piece wait n taken held start at mid written r e told p in
    record {
      front = b.front ++ piece;
      back = b.back;
      are = b.are;
      rest = s ∙ b.rest;
      count = b.count ∙ sym m;
      progress = and_then b.front wait piece still held new start mid end written b.progress on;
    }

-- ## Ends

-- in part, after a piece more
pub ends_in_part : {setting : Setting} → (input buf piece wait : List ℕ) (n taken : ℕ) (held : Held) (start at mid end : Outside) (written : List ℕ) → ReadsOn setting input taken wait held start written at → IsRest false wait → mid ≡ reads_on at mid →
    Told at.left (λ all. Takes all n buf mid.left) → piece ≡ take n buf → length piece ≤ block_bytes_limit → taken + n ≤ script_bytes_limit →
    Told mid.written (λ w. ProgressInPart setting false (wait ++ piece) held mid w end) → end.left ≡ mid.left → EndsInPart setting input start written end
ends_in_part input buf piece wait n taken held start at mid end written r rest e told p one low on s =
    let b = brought input buf piece wait n taken held start at mid written r e told p in
    let f = b.progress in
    let q = on (written ++ output_of f.answers) f.leaves.held in
    record {
      ended = false;
      taken = b.front ++ piece;
      took = took_piece end b s low;
      last = last_read b rest one;
      answered = record {
        items = f.items ++ q.items;
        others = q.others;
        gained = gained_then f.gained q.gained;
        answers = f.answers ++ q.answers;
        last = q.last;
        output = output_of f.answers ++ q.output;
        read = then_begins (b.front ++ piece) (wait ++ piece) q.others f.items q.items (grows false b.front wait piece f.items f.taken) q.taken;
        no_quit = before_last f.items q.items f.no_quit q.no_quit;
        replies = joined f.items q.items (known first_held start) (known held mid) q.last f.gained q.gained f.answers q.answers f.replies q.replies;
        part = in_part_behind f.answers q.answers q.output q.part;
        leaves = later start written (output_of f.answers) mid.files f.gained mid q.output q.last.files q.gained end f.leaves q.leaves;
      };
    }

-- at a `quit`, after a piece more
pub ends_at_quit : {setting : Setting} → (input buf piece wait : List ℕ) (n taken : ℕ) (held : Held) (start at mid end : Outside) (written : List ℕ) → ReadsOn setting input taken wait held start written at → IsRest false wait → mid ≡ reads_on at mid →
    Told at.left (λ all. Takes all n buf mid.left) → piece ≡ take n buf → length piece ≤ block_bytes_limit → taken + n ≤ script_bytes_limit →
    Told mid.written (λ w. ProgressToQuit setting false (wait ++ piece) held mid w end) → end.left ≡ mid.left → EndsWell setting input start written end
ends_at_quit input buf piece wait n taken held start at mid end written r rest e told p one low on s =
    let b = brought input buf piece wait n taken held start at mid written r e told p in
    let f = b.progress in
    let q = on (written ++ output_of f.answers) f.leaves.held in
    inr (record {
      ended = false;
      taken = b.front ++ piece;
      took = took_piece end b s low;
      last = last_read b rest one;
      answered = record {
        items = f.items ++ q.items;
        others = q.others;
        gained = gained_then f.gained q.gained;
        answers = f.answers ++ q.answers;
        last = q.last;
        read = rw append_assoc (then_begins (b.front ++ piece) (wait ++ piece) q.others f.items (q.items ++ Given Quit ∷ []) (grows false b.front wait piece f.items f.taken) q.taken);
        no_quit = none_quit f.items q.items f.no_quit q.no_quit;
        replies = rw append_assoc (joined f.items (q.items ++ Given Quit ∷ []) (known first_held start) (known held mid) q.last f.gained q.gained f.answers q.answers f.replies q.replies);
        leaves = rw (outputs f.answers q.answers) (later start written (output_of f.answers) mid.files f.gained mid (output_of q.answers) q.last.files q.gained end f.leaves q.leaves);
      };
    })

-- a fault of the source
pub ends_with_fault : {setting : Setting} → (input wait : List ℕ) (taken : ℕ) (held : Held) (start at mid : Outside) (written : List ℕ) → ReadsOn setting input taken wait held start written at → IsRest false wait →
    taken ≤ script_bytes_limit → mid ≡ reads_on at mid → mid.left ≡ at.left → EndsWithFault setting input start written mid
ends_with_fault input wait taken held start at mid written r rest low e same =
    let p = answered_on r.front wait held start at mid written e r.progress in
    let count : length r.front ≡ taken = r.count in
    record {
      taken = r.front;
      took = record { back = r.back; are = r.are; rest = same ∙ r.rest; whole = λ no. cc; short = omega arith };
      answered = record { items = p.items; rest = wait; gained = p.gained; answers = p.answers; last = known held mid; read = record { begins = p.taken; rests = rest }; no_quit = p.no_quit; replies = p.replies; leaves = p.leaves };
    }

cut_one : (back : List ℕ) (n : ℕ) → n ≢ 0 → n ≤ 1 → n ≤ length back → (b : ℕ) × (back ≡ b ∷ drop n back)
cut_one [] n ne low h = absurd (ne (omega arith))
cut_one (b ∷ bs) n ne low h = let e : n ≡ 1 = omega arith in (b, rw e refl)

-- one byte too many
pub ends_too_long : {setting : Setting} → (input buf wait : List ℕ) (n taken : ℕ) (held : Held) (start at mid : Outside) (written : List ℕ) → ReadsOn setting input taken wait held start written at → IsRest false wait →
    taken ≡ script_bytes_limit → mid ≡ reads_on at mid → Told at.left (λ all. Takes all n buf mid.left) → n ≢ 0 → n ≤ 1 → EndsTooLong setting input start written mid
ends_too_long input buf wait n taken held start at mid written r rest full e told ne low =
    let p = answered_on r.front wait held start at mid written e r.progress in
    let k = told r.back r.rest in
    let one = cut_one r.back n ne low k.count in
    record {
      taken = r.front;
      more = one.0;
      back = drop n r.back;
      are = r.are ∙ ap (λ s. r.front ++ s) one.1;
      rest = k.rest;
      full = r.count ∙ full;
      answered = record { items = p.items; rest = wait; gained = p.gained; answers = p.answers; last = known held mid; read = record { begins = p.taken; rests = rest }; no_quit = p.no_quit; replies = p.replies; leaves = p.leaves };
    }

pub is_long : (input buf : List ℕ) (n taken : ℕ) (at mid : Outside) → Took input taken at → taken ≡ script_bytes_limit → Told at.left (λ all. Takes all n buf mid.left) → n ≢ 0 → script_bytes_limit < length input
is_long input buf n taken at mid t full told ne =
    let k = told t.back t.rest in
    let some : n ≤ length t.back = k.count in
    let count : length t.front ≡ taken = t.count in
    let long : length input ≡ length t.front + length t.back = rw t.are (grind (arith, common_steps)) in
    omega arith

-- ## Where the source is at its end

at_end : (input front back : List ℕ) → input ≡ front ++ back → back ≡ [] → front ≡ input
at_end input front back e n = rw (e, n) (sym (append-nil front))

whole_input : (input : List ℕ) (end : Outside) → end.left ≡ Some [] → length input ≤ script_bytes_limit → Taken input input true end
whole_input input end l short = record { back = []; are = sym (append-nil input); rest = l; whole = λ yes. refl; short = short }

last_of_all : {setting : Setting} → (input wait : List ℕ) (held : Held) (start mid : Outside) (written : List ℕ) → Progress setting false input wait first_held held start written mid → IsRest false wait → IsLastRead input
last_of_all input wait held start mid written p rest = record { before = input; piece = []; are = sym (append-nil input); one = omega arith; none = none_before input wait held start mid written p rest }

well : {setting : Setting} → (input wait : List ℕ) (held new : Held) (start mid end : Outside) (written : List ℕ) → end.left ≡ Some [] → length input ≤ script_bytes_limit → IsRest false wait → Progress setting false input wait first_held held start written mid →
    Told mid.written (λ w. Progress setting true wait [] held new mid w end ⊎ ProgressToQuit setting true wait held mid w end) → EndsWell setting input start written end
well {setting = setting} input wait held new start mid end written l short rest p told = by (told (written ++ output_of p.answers) p.leaves.held)
  where
    by : Progress setting true wait [] held new mid (written ++ output_of p.answers) end ⊎ ProgressToQuit setting true wait held mid (written ++ output_of p.answers) end → EndsWell setting input start written end
    by (inl q) = inl (record {
      none_left = l;
      short = short;
      answered = record {
        items = p.items ++ q.items;
        rest = [];
        gained = gained_then p.gained q.gained;
        answers = p.answers ++ q.answers;
        last = known new end;
        read = record { begins = then_begins input wait [] p.items q.items (ends input wait p.items p.taken) q.taken; rests = refl };
        no_quit = none_quit p.items q.items p.no_quit q.no_quit;
        replies = joined p.items q.items (known first_held start) (known held mid) (known new end) p.gained q.gained p.answers q.answers p.replies q.replies;
        leaves = rw (outputs p.answers q.answers) (later start written (output_of p.answers) mid.files p.gained mid (output_of q.answers) end.files q.gained end p.leaves q.leaves);
      };
    })
    by (inr q) = inr (record {
      ended = true;
      taken = input;
      took = whole_input input end l short;
      last = last_of_all input wait held start mid written p rest;
      answered = record {
        items = p.items ++ q.items;
        others = q.others;
        gained = gained_then p.gained q.gained;
        answers = p.answers ++ q.answers;
        last = q.last;
        read = rw append_assoc (then_begins input wait q.others p.items (q.items ++ Given Quit ∷ []) (ends input wait p.items p.taken) q.taken);
        no_quit = none_quit p.items q.items p.no_quit q.no_quit;
        replies = rw append_assoc (joined p.items (q.items ++ Given Quit ∷ []) (known first_held start) (known held mid) q.last p.gained q.gained p.answers q.answers p.replies q.replies);
        leaves = rw (outputs p.answers q.answers) (later start written (output_of p.answers) mid.files p.gained mid (output_of q.answers) q.last.files q.gained end p.leaves q.leaves);
      };
    })

in_part : {setting : Setting} → (input wait : List ℕ) (held : Held) (start mid end : Outside) (written : List ℕ) → end.left ≡ Some [] → length input ≤ script_bytes_limit → IsRest false wait → Progress setting false input wait first_held held start written mid →
    Told mid.written (λ w. ProgressInPart setting true wait held mid w end) → EndsInPart setting input start written end
in_part input wait held start mid end written l short rest p told =
    let q = told (written ++ output_of p.answers) p.leaves.held in
    record {
      ended = true;
      taken = input;
      took = whole_input input end l short;
      last = last_of_all input wait held start mid written p rest;
      answered = record {
        items = p.items ++ q.items;
        others = q.others;
        gained = gained_then p.gained q.gained;
        answers = p.answers ++ q.answers;
        last = q.last;
        output = output_of p.answers ++ q.output;
        read = then_begins input wait q.others p.items q.items (ends input wait p.items p.taken) q.taken;
        no_quit = before_last p.items q.items p.no_quit q.no_quit;
        replies = joined p.items q.items (known first_held start) (known held mid) q.last p.gained q.gained p.answers q.answers p.replies q.replies;
        part = in_part_behind p.answers q.answers q.output q.part;
        leaves = later start written (output_of p.answers) mid.files p.gained mid q.output q.last.files q.gained end p.leaves q.leaves;
      };
    }

-- the end of a run by its status, where this much was told
abbrev pub EndsSo : Setting → Status → List ℕ → Outside → List ℕ → Outside → Type 0
EndsSo setting Done input start written end = EndsWell setting input start written end
EndsSo setting Usage input start written end = ⊥
EndsSo setting SourceFault input start written end = EndsWithFault setting input start written end
EndsSo setting SinkFault input start written end = EndsInPart setting input start written end
EndsSo setting ScriptTooLong input start written end = EndsTooLong setting input start written end
EndsSo setting NoMemory input start written end = EndsInPart setting input start written end

finished : {setting : Setting} → (status : Status) (input wait : List ℕ) (held new : Held) (start mid end : Outside) (written : List ℕ) → end.left ≡ Some [] → length input ≤ script_bytes_limit → IsRest false wait →
    Progress setting false input wait first_held held start written mid → Told mid.written (λ w. FinishesAs setting status wait held new mid w end) → EndsSo setting status input start written end
finished Done input wait held new start mid end written l short rest p told = well input wait held new start mid end written l short rest p told
finished Usage input wait held new start mid end written l short rest p told = absurd (told (written ++ output_of p.answers) p.leaves.held)
finished SourceFault input wait held new start mid end written l short rest p told = absurd (told (written ++ output_of p.answers) p.leaves.held)
finished SinkFault input wait held new start mid end written l short rest p told = in_part input wait held start mid end written l short rest p told
finished ScriptTooLong input wait held new start mid end written l short rest p told = absurd (told (written ++ output_of p.answers) p.leaves.held)
finished NoMemory input wait held new start mid end written l short rest p told = in_part input wait held start mid end written l short rest p told

none_left : (n : ℕ) (back : List ℕ) → back ≡ [] → n ≡ 0 → drop n back ≡ []
none_left n back e z = rw (e, z) refl

pub finish_beside : (status : Status) (mid end : Outside) (before after : List (List ℕ)) → FinishCounts status mid end → FinishCounts status (beside mid before) (beside end after)
finish_beside Done mid end before after c = (record { left = (c.0).left; faults = (c.0).faults }, c.1)
finish_beside Usage mid end before after c = c
finish_beside SourceFault mid end before after c = c
finish_beside SinkFault mid end before after c = (record { left = (c.0).left; faults = (c.0).faults }, c.1)
finish_beside ScriptTooLong mid end before after c = c
finish_beside NoMemory mid end before after c = (record { left = (c.0).left; faults = (c.0).faults }, c.1)

pub finish_same : (status : Status) (mid end : Outside) → FinishCounts status mid end → SameSource mid end
finish_same Done mid end c = c.0
finish_same Usage mid end c = absurd c
finish_same SourceFault mid end c = absurd c
finish_same SinkFault mid end c = c.0
finish_same ScriptTooLong mid end c = absurd c
finish_same NoMemory mid end c = c.0

-- where the source is at its end
pub ends_at_end : {setting : Setting} → (status : Status) (input buf wait : List ℕ) (n taken : ℕ) (held new : Held) (start at mid end : Outside) (written : List ℕ) → ReadsOn setting input taken wait held start written at → IsRest false wait →
    mid ≡ reads_on at mid → Told at.left (λ all. Takes all n buf mid.left) → n ≡ 0 → length buf ≢ 0 → taken ≤ script_bytes_limit → Told mid.written (λ w. FinishesAs setting status wait held new mid w end) →
    FinishCounts status mid end → EndsSo setting status input start written end
ends_at_end {setting = setting} status input buf wait n taken held new start at mid end written r rest e told z ne low on c =
    let k = told r.back r.rest in
    let none : r.back ≡ [] = k.end z ne in
    let is : r.front ≡ input = at_end input r.front r.back r.are none in
    let count : length r.front ≡ taken = r.count in
    let short : length input ≤ script_bytes_limit = rw (← is) (omega arith) in
    let p : Progress setting false input wait first_held held start written mid =
    let P : List ℕ → Type 0 = λ s. Progress setting false s wait first_held held start written mid in subst P is (answered_on r.front wait held start at mid written e r.progress) in
    finished status input wait held new start mid end written ((finish_same status mid end c).left ∙ k.rest ∙ ap Some (none_left n r.back none z)) short rest p on

-- what holds of all that may be told is the end
pub ends_as : (setting : Setting) (status : Status) (start end : Outside) → status ≢ Usage → Told start.left (λ input. Told start.written (λ written. EndsSo setting status input start written end)) → EndsAs setting status start end
ends_as setting Done start end good told = told
ends_as setting Usage start end good told = absurd (good refl)
ends_as setting SourceFault start end good told = told
ends_as setting SinkFault start end good told = told
ends_as setting ScriptTooLong start end good told = told
ends_as setting NoMemory start end good told = told

-- ## Counts of faults

-- a read that did not fail
pub faults_on : (start at mid : Outside) → NoFaults start at → mid ≡ reads_on at mid → mid.source_faults ≡ at.source_faults → NoFaults start mid
faults_on start at mid f e same = record { source = same ∙ f.source; sink = ap (λ (o : Outside). o.sink_faults) e ∙ f.sink }

-- one that did
pub source_fault : (start at mid : Outside) → NoFaults start at → mid ≡ reads_on at mid → Rose at.source_faults mid.source_faults → FaultsAs SourceFault start mid
source_fault start at mid f e r = (rw f.source at r, ap (λ (o : Outside). o.sink_faults) e ∙ f.sink)

-- a call that answers well leaves the counts
pub faults_stay : (start mid end : Outside) → NoFaults start mid → SameSource mid end → end.sink_faults ≡ mid.sink_faults → NoFaults start end
faults_stay start mid end f s k = record { source = s.faults ∙ f.source; sink = k ∙ f.sink }

sink_fault : (start mid end : Outside) → NoFaults start mid → SameSource mid end → Rose mid.sink_faults end.sink_faults → FaultsAs SinkFault start end
sink_fault start mid end f s r = (s.faults ∙ f.source, rw f.sink at r)

pub faults_at_end : (status : Status) (start mid end : Outside) → NoFaults start mid → FinishCounts status mid end → FaultsAs status start end
faults_at_end Done start mid end f c = faults_stay start mid end f c.0 c.1
faults_at_end Usage start mid end f c = absurd c
faults_at_end SourceFault start mid end f c = absurd c
faults_at_end SinkFault start mid end f c = sink_fault start mid end f c.0 c.1
faults_at_end ScriptTooLong start mid end f c = absurd c
faults_at_end NoMemory start mid end f c = faults_stay start mid end f c.0 c.1

pub finish_good : (status : Status) (mid end : Outside) → FinishCounts status mid end → (status ≢ Usage) × (status ≢ ScriptTooLong)
finish_good Done mid end c = (λ e. cc, λ e. cc)
finish_good Usage mid end c = absurd c
finish_good SourceFault mid end c = absurd c
finish_good SinkFault mid end c = (λ e. cc, λ e. cc)
finish_good ScriptTooLong mid end c = absurd c
finish_good NoMemory mid end c = (λ e. cc, λ e. cc)

-- ## Where the sink took no more

pub error_ends : {setting : Setting} → (error : SinkError) (status : Status) (start end : Outside) → (error ≡ Failed → status ≡ SinkFault) → (error ≡ Starved → status ≡ NoMemory) → WhereTold (EndsInPart setting) start end → EndsAs setting status start end
error_ends Failed status start end f s p = rw (f refl) p
error_ends Starved status start end f s p = rw (s refl) p

pub error_faults_beside : (error : SinkError) (status : Status) (start mid end : Outside) (before after : List (List ℕ)) → (error ≡ Failed → status ≡ SinkFault) → (error ≡ Starved → status ≡ NoMemory) → NoFaults start (beside mid before) →
    CountsSink {X = Flow} (Err error) mid end → FaultsAs status start (beside end after)
error_faults_beside Failed status start mid end before after f s k c = rw (f refl) (sink_fault start (beside mid before) (beside end after) k (record { left = c.0.left; faults = c.0.faults }) c.1)
error_faults_beside Starved status start mid end before after f s k c = rw (s refl) (faults_stay start (beside mid before) (beside end after) k (record { left = c.0.left; faults = c.0.faults }) c.1)

pub error_good : (error : SinkError) (status : Status) → (error ≡ Failed → status ≡ SinkFault) → (error ≡ Starved → status ≡ NoMemory) → (status ≢ Usage) × (status ≢ ScriptTooLong)
error_good Failed status f s = rw (f refl) (λ e. cc, λ e. cc)
error_good Starved status f s = rw (s refl) (λ e. cc, λ e. cc)

pub error_left : (error : SinkError) (mid end : Outside) → CountsSink {X = Flow} (Err error) mid end → end.left ≡ mid.left
error_left Failed mid end c = (c.0).left
error_left Starved mid end c = (c.0).left

pub block_kept : (buf block : List ℕ) (room : ℕ) → length buf ≡ room → room ≤ length block → length (buf ++ drop room block) ≡ length block
block_kept buf block room e h = grind (arith, common_steps)

-- ## Where nothing was read

pub nothing_read : {setting : Setting} → (input written : List ℕ) (start : Outside) → start.left ≡ Some input → start.written ≡ Some written → EndsInPart setting input start written start
nothing_read input written start l k = record {
  ended = false;
  taken = [];
  took = record { back = input; are = refl; rest = l; whole = λ no. cc; short = omega arith };
  last = record { before = []; piece = []; are = refl; one = omega arith; none = record { items = []; rest = []; read = record { begins = Nothing []; rests = no_line }; no_quit = none_quits } };
  answered = record {
    items = [];
    others = [];
    gained = none_gained;
    answers = [];
    last = first_known start.files;
    output = [];
    read = Nothing [];
    no_quit = none_quits;
    replies = NoReplies (first_known start.files);
    part = refl;
    leaves = nothing_yet start written k;
  };
}

-- ## The causes

-- with no fault and a script that is not too long the run is done, or memory ran out
pub complete_by : (status : Status) (input : List ℕ) (start end : Outside) → status ≢ Usage → FaultsAs status start end → (status ≡ ScriptTooLong → IsLong start) → start.left ≡ Some input →
    (Rose start.source_faults end.source_faults → ⊥) → (Rose start.sink_faults end.sink_faults → ⊥) → length input ≤ script_bytes_limit → (status ≡ Done) ⊎ (status ≡ NoMemory)
complete_by Done input start end good f long l source sink short = inl refl
complete_by Usage input start end good f long l source sink short = absurd (good refl)
complete_by SourceFault input start end good f long l source sink short = absurd (source f.0)
complete_by SinkFault input start end good f long l source sink short = absurd (sink f.1)
complete_by ScriptTooLong input start end good f long l source sink short = let over : script_bytes_limit < length input = long refl input l in absurd (omega arith)
complete_by NoMemory input start end good f long l source sink short = inr refl
