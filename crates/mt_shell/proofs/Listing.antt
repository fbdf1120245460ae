-- What the reply to `segments` means.
use Rattle.std.proofs.Common.{◌≡◌, ℕ, zero, suc, Bool, true, false, Option, ◌+◌, ◌<◌, ◌≤◌, arith, get_or, List, [], ◌∷◌, ◌++◌, length, map, take, sum, refl, sym, ◌∙◌, ap, ap₂, subst, codes, append-nil, append_assoc}
use Rattle.std.specs.List.{All, AllZip, flat_map}
use Rattle.std.specs.Fmt.{decimal}
use Rattle.std.proofs.lemmas.List.{take_all, length_push}
use Rattle.std.proofs.lemmas.List.Sums.{sum-map, sum_by-cons}
use Rattle.std.proofs.lemmas.Grind.{flat_map-append}
use Rattle.mt_text_spec.specs.Lines.{closed}
use Rattle.mt_text_spec.specs.Registries.{Registry}
use Rattle.mt_text_spec.specs.Texts.{Text, total_tokens}
use Rattle.mt_text_spec.specs.Queries.{Grammar}
use Rattle.mt_segment_spec.specs.Tables.{Tables, AreTablesOf, heads_of}
use Rattle.mt_corpus_spec.specs.Groups.{Group, all_texts, live_texts}
use Rattle.mt_corpus_spec.specs.Images.{Corpus, AreImagesBy}
use Rattle.mt_corpus_spec.specs.Segments.{StandFor, live_numbers}
use Rattle.mt_corpus.specs.Held.{AreLive}
use Rattle.mt_script_spec.specs.Commands.{Segments}
use Rattle.mt_session_spec.specs.World.{Held}
use Rattle.mt_session_spec.specs.Settings.{Setting, images_of}
use Rattle.mt_session_spec.specs.Gains.{none_gained}
use Rattle.mt_session_spec.specs.Answers as answers
use Rattle.mt_session_spec.specs.Meaning.{Starved}
use Rattle.mt_session_spec.specs.Listing.{group_line, group_lines, listing}
use Rattle.mt_session_spec.specs.Steps.{Meant, Accepted}
use Rattle.mt_answer.specs.declared.reply.Reply.TheVariants.{Lines, NoMemory}
use Rattle.mt_answer.specs.Replies.{SaysLines}
use Rattle.mt_shell.specs.Listed.{tokens_listed, line_listed, each_listed, lines_listed}
use Rattle.mt_shell.specs.Serves.{Kept, kept}
use Rattle.mt_shell.specs.Answers.{AnswersAlone, over}
use Rattle.mt_shell.proofs.Meanings.{starved}

-- ## Lines

pub same_long : (segments : List Tables) (live : List (List ℕ)) → AllZip AreLive segments live → length live ≡ length segments
same_long [] [] all = refl
same_long [] (numbers ∷ live) all = absurd all
same_long (tables ∷ segments) [] all = absurd all
same_long (tables ∷ segments) (numbers ∷ live) all = ap suc (same_long segments live all.1)

-- the live numbers of a segment are numbers of its texts
live_there : (segments : List Tables) (live : List (List ℕ)) (k : ℕ) (d : Tables) (e : List ℕ) → AllZip AreLive segments live → k < length segments → All (λ n. n < length (get_or segments k d).texts) (get_or live k e)
live_there [] live k d e all l = absurd (omega (arith, l))
live_there (tables ∷ segments) [] k d e all l = absurd all
live_there (tables ∷ segments) (numbers ∷ live) zero d e all l = all.0.within
live_there (tables ∷ segments) (numbers ∷ live) (suc k) d e all l = live_there segments live k d e all.1 (omega (arith, l))

pub numbers_there : (segments : List Tables) (live : List (List ℕ)) (k : ℕ) (tables : Tables) (own numbers : List ℕ) → AllZip AreLive segments live → k < length segments → tables ≡ get_or segments k tables → own ≡ get_or live k own →
    numbers ≡ own → All (λ n. n < length tables.texts) numbers
numbers_there segments live k tables own numbers all l t o n =
    subst (λ (ts : Tables). All (λ m. m < length ts.texts) numbers) (sym t)
    (subst (λ (ns : List ℕ). All (λ m. m < length (get_or segments k tables).texts) ns) (sym (n ∙ o)) (live_there segments live k tables own all l))

each_more : (segments : List Tables) (live : List (List ℕ)) (k : ℕ) (d : Tables) (e : List ℕ) → k < length segments → k < length live →
    each_listed (take (suc k) segments) (take (suc k) live) ≡ each_listed (take k segments) (take k live) ++ line_listed (get_or segments k d) (get_or live k e) ∷ []
each_more [] live k d e l m = absurd (omega (arith, l))
each_more (tables ∷ segments) [] k d e l m = absurd (omega (arith, m))
each_more (tables ∷ segments) (numbers ∷ live) zero d e l m = refl
each_more (tables ∷ segments) (numbers ∷ live) (suc k) d e l m = ap (λ (rest : List (List ℕ)). line_listed tables numbers ∷ rest) (each_more segments live k d e (omega (arith, l)) (omega (arith, m)))

-- the number of all segments, and the lines of those so far
abbrev pub lines_so_far : List Tables → List (List ℕ) → ℕ → List ℕ
lines_so_far segments live k = closed (codes "= " ++ decimal (length segments)) ++ flat_map closed (each_listed (take k segments) (take k live))

pub no_lines : (segments : List Tables) (live : List (List ℕ)) (bytes : List ℕ) → bytes ≡ closed (codes "=" ++ 32 ∷ decimal (length segments)) → bytes ≡ lines_so_far segments live 0
no_lines segments live bytes e = e ∙ sym (append-nil (closed (codes "= " ++ decimal (length segments))))

pub one_more : (segments : List Tables) (live : List (List ℕ)) (k : ℕ) (tables : Tables) (own numbers old line new : List ℕ) → AllZip AreLive segments live → k < length segments → tables ≡ get_or segments k tables → own ≡ get_or live k own →
    numbers ≡ own → old ≡ lines_so_far segments live k → line ≡ closed (line_listed tables numbers) → new ≡ old ++ line → new ≡ lines_so_far segments live (k + 1)
one_more segments live k tables own numbers old line new all l t m is_own o is n =
    let same = same_long segments live all in
    let head = closed (codes "= " ++ decimal (length segments)) in
    let front = each_listed (take k segments) (take k live) in
    let said = line_listed (get_or segments k tables) (get_or live k own) in
    let read : line ≡ closed said = is ∙ ap₂ (λ (ts : Tables) (ns : List ℕ). closed (line_listed ts ns)) t (is_own ∙ m) in
    let step : k + 1 ≡ suc k = omega arith in
    let more : flat_map closed (each_listed (take (k + 1) segments) (take (k + 1) live)) ≡ flat_map closed front ++ closed said =
    ap (λ (j : ℕ). flat_map closed (each_listed (take j segments) (take j live))) step ∙ ap (flat_map closed) (each_more segments live k tables own l (omega (arith, l, same)))
    ∙ flat_map-append closed front (said ∷ []) ∙ ap (λ (rest : List ℕ). flat_map closed front ++ rest) (append-nil (closed said)) in
    n ∙ ap₂ (λ (a b : List ℕ). a ++ b) o read ∙ append_assoc head (flat_map closed front) (closed said) ∙ ap (λ (rest : List ℕ). head ++ rest) (sym more)

pub all_lines : (segments : List Tables) (live : List (List ℕ)) (k : ℕ) (bytes : List ℕ) → length segments ≤ k → AllZip AreLive segments live → bytes ≡ lines_so_far segments live k → bytes ≡ flat_map closed (lines_listed segments live)
all_lines segments live k bytes high all e =
    let same = same_long segments live all in
    e ∙ ap₂ (λ (a : List Tables) (b : List (List ℕ)). closed (codes "= " ++ decimal (length segments)) ++ flat_map closed (each_listed a b)) (take_all k segments high) (take_all k live (omega (arith, high, same)))

-- ## Groups

live_count : (group : Group) (first : ℕ) → length (live_numbers first group) ≡ length (live_texts group)
live_count [] first = refl
live_count ((text, live) ∷ group) first = by live (live_count group (first + 1))
  where
    by : (b : Bool) → length (live_numbers (first + 1) group) ≡ length (live_texts group) → length (live_numbers first ((text, b) ∷ group)) ≡ length (live_texts ((text, b) ∷ group))
    by true h = ap suc h
    by false h = h

-- what stands behind a front
behind_front : (front rest : List (List ℕ × ℕ)) (head : List ℕ × ℕ) (d : List ℕ × ℕ) → get_or (front ++ head ∷ rest) (length front) d ≡ head
behind_front [] rest head d = refl
behind_front (one ∷ front) rest head d = behind_front front rest head d

abbrev tokens_at : List (List ℕ × ℕ) → ℕ → ℕ
tokens_at heads number = (get_or heads number ([], 0)).1

-- a text's name and how many tokens it has
abbrev head_of : Text → List ℕ × ℕ
head_of text = (text.name, length text.tokens)

sum_cons : {X : Type 0} (f : X → ℕ) (x : X) (xs : List X) → sum (map f (x ∷ xs)) ≡ f x + sum (map f xs)
sum_cons f x xs = sum-map f (x ∷ xs) ∙ sum_by-cons f x xs ∙ ap (λ n. f x + n) (sym (sum-map f xs))

-- the live texts of a group that stands behind a front of texts
live_tokens : (group : Group) (front : List (List ℕ × ℕ)) (first : ℕ) → first ≡ length front → sum (map (tokens_at (front ++ heads_of (all_texts group))) (live_numbers first group)) ≡ total_tokens (live_texts group)
live_tokens [] front first f = refl
live_tokens ((text, live) ∷ group) front first f =
    let regrouped = ap (λ (heads : List (List ℕ × ℕ)). sum (map (tokens_at heads) (live_numbers (first + 1) group))) (sym (append_assoc front (head_of text ∷ []) (heads_of (all_texts group)))) in
    by live (regrouped ∙ live_tokens group (front ++ head_of text ∷ []) (first + 1) (omega (arith, f, length_push front (head_of text))))
  where
    here : tokens_at (front ++ head_of text ∷ heads_of (all_texts group)) first ≡ length text.tokens
    here = ap (tokens_at (front ++ head_of text ∷ heads_of (all_texts group))) f ∙ ap (λ (h : List ℕ × ℕ). h.1) (behind_front front (heads_of (all_texts group)) (head_of text) ([], 0))

    by : (b : Bool) → sum (map (tokens_at (front ++ head_of text ∷ heads_of (all_texts group))) (live_numbers (first + 1) group)) ≡ total_tokens (live_texts group) →
        sum (map (tokens_at (front ++ head_of text ∷ heads_of (all_texts group))) (live_numbers first ((text, b) ∷ group))) ≡ total_tokens (live_texts ((text, b) ∷ group))
    by true h =
        sum_cons (tokens_at (front ++ head_of text ∷ heads_of (all_texts group))) first (live_numbers (first + 1) group) ∙ ap₂ (λ (m n : ℕ). m + n) here h
        ∙ sym (sum_cons (λ (t : Text). length t.tokens) text (live_texts group))
    by false h = h

-- the line of a segment is that of its group
line_is : (group : Group) (tables : Tables) → tables.texts ≡ heads_of (all_texts group) → line_listed tables (live_numbers 0 group) ≡ group_line group
line_is group tables e =
    let tokens : tokens_listed tables (live_numbers 0 group) ≡ total_tokens (live_texts group) =
    ap (λ (heads : List (List ℕ × ℕ)). sum (map (tokens_at heads) (live_numbers 0 group))) e ∙ live_tokens group [] 0 refl in
    ap₂ (λ (m n : ℕ). decimal m ++ 32 ∷ decimal n) (live_count group 0) tokens

module _ (images : List ℕ → List ℕ → List ℕ) (registry : Registry) where
  each_is : (groups : List Group) (segments : List Tables) → AllZip (λ group tables. AreTablesOf images registry (all_texts group) tables) groups segments → each_listed segments (map (live_numbers 0) groups) ≡ map group_line groups
  each_is [] [] all = refl
  each_is [] (tables ∷ segments) all = absurd all
  each_is (group ∷ groups) [] all = absurd all
  each_is (group ∷ groups) (tables ∷ segments) all = ap₂ (λ (line : List ℕ) (rest : List (List ℕ)). line ∷ rest) (line_is group tables all.0.texts) (each_is groups segments all.1)

  as_many : (groups : List Group) (segments : List Tables) → AllZip (λ group tables. AreTablesOf images registry (all_texts group) tables) groups segments → length segments ≡ length groups
  as_many [] [] all = refl
  as_many [] (tables ∷ segments) all = absurd all
  as_many (group ∷ groups) [] all = absurd all
  as_many (group ∷ groups) (tables ∷ segments) all = ap suc (as_many groups segments all.1)

  lines_are : (groups : List Group) (segments : List Tables) (live : List (List ℕ)) → StandFor images registry groups segments live → lines_listed segments live ≡ group_lines groups
  lines_are groups segments live stand =
      ap₂ (λ (n : ℕ) (rest : List (List ℕ)). (codes "= " ++ decimal n) ∷ rest) (as_many groups segments stand.tables) (ap (each_listed segments) stand.marks ∙ each_is groups segments stand.tables)

-- ## The reply

listed : (setting : Setting) (held : Held) (images : List ℕ → List ℕ → List ℕ) (segments : List Tables) (live : List (List ℕ)) (bytes : List ℕ) → StandFor images held.registry held.groups segments live →
    bytes ≡ flat_map closed (lines_listed segments live) → AnswersAlone setting held Segments (Lines bytes) held
listed setting held images segments live bytes stand e files =
    let world = over held files in
    record {
      answer = answers.Lines (group_lines held.groups);
      says = SaysLines bytes (group_lines held.groups) (e ∙ ap (flat_map closed) (lines_are images held.registry held.groups segments live stand));
      holds = Meant world (answers.Lines (group_lines held.groups)) (Accepted world (answers.Lines (group_lines held.groups)) tt (record { same = refl; says = refl }));
    }

pub listed_by : (setting : Setting) (state : Kept) (accepted : Bool) (grammar : Option Grammar) (corpus : Corpus) (segments : List Tables) (live : List (List ℕ)) (bytes : List ℕ) → kept accepted grammar corpus ≡ state → AreImagesBy (images_of setting) state.taken →
    ((images : List ℕ → List ℕ → List ℕ) → AreImagesBy images corpus.taken → StandFor images corpus.registry corpus.groups segments live) → bytes ≡ flat_map closed (lines_listed segments live) →
    AnswersAlone setting state.held Segments (Lines bytes) state.held
listed_by setting state accepted grammar corpus segments live bytes v agree stand e =
    let images : AreImagesBy (images_of setting) corpus.taken = rw (← (ap (λ (k : Kept). k.taken) v)) at agree in
    subst (λ (k : Kept). AnswersAlone setting k.held Segments (Lines bytes) k.held) v (listed setting (kept accepted grammar corpus).held (images_of setting) segments live bytes (stand (images_of setting) images) e)

pub not_listed : (setting : Setting) (held : Held) → AnswersAlone setting held Segments NoMemory held
not_listed setting held files = starved (listing (over held files)) (over held files) none_gained Starved
