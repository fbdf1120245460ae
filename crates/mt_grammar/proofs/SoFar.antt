-- What reading a line adds to what was read.
use Rattle.std.proofs.Common.{◌≡◌, ℕ, zero, suc, ◌+◌, ◌<◌, ◌≤◌, Bool, true, false, Option, None, Some, List, [], ◌∷◌, ◌++◌, length, refl, sym, ◌∙◌, ap, subst, arith, append_assoc, append-nil}
use Rattle.std.specs.Prelude.{◌==◌}
use Rattle.std.specs.List.{Contains, filter}
use Rattle.std.proofs.lemmas.Bool.{eqb-true, false_from_ne_true}
use Rattle.std.proofs.lemmas.Grind.{common_steps}
use Rattle.std.proofs.lemmas.List.Elements.{filter-append}
use Rattle.std.specs.Str.Lines.{lines}
use Rattle.mt_text_spec.specs.Registries.{Registry}
use Rattle.mt_text_spec.specs.Queries.{Query, RelationKind, Relation, Grammar}
use Rattle.mt_grammar_spec.specs.GrammarLines.{OfKind, DefaultAttr, StructLimit, Unknown, Form, Skipped, Directs, Heads, Asks, form_of}
use Rattle.mt_grammar_spec.specs.GrammarFile.{Before, at_top, Line, lines_from, lines_of, behind, kind_waiting, GrammarCause, HasCause, IsFaultless, FirstGrammarFault}
use Rattle.mt_grammar_spec.specs.ReadGrammar.{limited, is_heading, is_query, heading_lines, query_lines, IsQueryOf, AreQueries, NoQueries, ThenQuery, IsRelationOf, AreRelations, NoRelations, ThenRelation, ReadsGrammar, LacksRelation}
use Rattle.mt_grammar.specs.Reading.{State, at_first, kind_of, with_last, relations_in, before_of, next_line, IsSound, with_query, begun, Does, IsClean, HasTaken, IsFirstCause}

-- ## Lists

abbrev pub Each : {X : Type 0} → (X → Type 0) → List X → Type 0
Each P [] = Unit {0}
Each P (x ∷ xs) = P x × Each P xs

each_more : {X : Type 0} (P : X → Type 0) (xs : List X) (x : X) → Each P xs → P x → Each P (xs ++ x ∷ [])
each_more P [] x h p = (p, tt)
each_more P (y ∷ xs) x h p = (h.0, each_more P xs x h.1 p)

each_weaker : {X : Type 0} (P Q : X → Type 0) (xs : List X) → ((x : X) → P x → Q x) → Each P xs → Each Q xs
each_weaker P Q [] f h = tt
each_weaker P Q (x ∷ xs) f h = (f x h.0, each_weaker P Q xs f h.1)

faultless_more : (registry : Registry) (earlier : List Line) (line : Line) → IsFaultless registry earlier → IsClean registry line → IsFaultless registry (earlier ++ line ∷ [])
faultless_more registry [] line before here other cause (zero, l, e) h = here cause (subst (λ (x : Line). HasCause registry x cause) (sym e) h)
faultless_more registry [] line before here other cause (suc k, l, e) h = absurd (omega (arith, l))
faultless_more registry (x ∷ earlier) line before here other cause (zero, l, e) h = before other cause (0, omega arith, e) h
faultless_more registry (x ∷ earlier) line before here other cause (suc k, l, e) h =
    faultless_more registry earlier line (λ o c m. before o c (suc m.0, omega (arith, m.1), m.2)) here other cause (k, omega (arith, l), e) h

-- ## The lines of a heading

-- the queries of one line
abbrev queries_in : Line → ℕ → List Line
queries_in line n = query_lines (line ∷ []) n

queries_split : (file : List Line) (line : Line) (n : ℕ) → query_lines (file ++ line ∷ []) n ≡ query_lines file n ++ queries_in line n
queries_split file line n =
    ap (λ (ls : List Line). filter (λ (l : Line). is_query (form_of l.text)) ls) (filter-append (λ (l : Line). l.before.headings == n) file (line ∷ [])) ∙
    filter-append (λ (l : Line). is_query (form_of l.text)) (filter (λ (l : Line). l.before.headings == n) file) (filter (λ (l : Line). l.before.headings == n) (line ∷ []))

no_query_in : (line : Line) (n : ℕ) → is_query (form_of line.text) ≡ false → queries_in line n ≡ []
no_query_in line n e = by (line.before.headings == n) refl
  where
    by : (b : Bool) → (line.before.headings == n) ≡ b → queries_in line n ≡ []
    by true h = rw h (rw e refl)
    by false h = rw h refl

not_under : (line : Line) (n : ℕ) → (line.before.headings ≡ n → ⊥) → queries_in line n ≡ []
not_under line n h = rw (false_from_ne_true (line.before.headings == n) (λ e. h (eqb-true line.before.headings n e))) refl

one_query_in : (line : Line) (n : ℕ) → line.before.headings ≡ n → is_query (form_of line.text) ≡ true → queries_in line n ≡ line ∷ []
one_query_in line n h q =
    let e : (line.before.headings == n) ≡ true = grind (arith, common_steps, h) in
    rw e (rw q refl)

none_more : (file : List Line) (line : Line) (n : ℕ) → queries_in line n ≡ [] → query_lines (file ++ line ∷ []) n ≡ query_lines file n
none_more file line n e = queries_split file line n ∙ ap (λ (ls : List Line). query_lines file n ++ ls) e ∙ append-nil (query_lines file n)

-- no query is of a heading that is still to come
nothing_yet : (file : List Line) (n : ℕ) → Each (λ (l : Line). l.before.headings < n) file → query_lines file n ≡ []
nothing_yet [] n h = refl
nothing_yet (line ∷ file) n h =
    let e : (line.before.headings == n) ≡ false = false_from_ne_true (line.before.headings == n) (λ e. let s = eqb-true line.before.headings n e in omega (arith, s, h.0)) in
    rw e (nothing_yet file n h.1)

-- ## Relations in a longer file

relation_moved : (registry : Registry) (file other : List Line) (line : Line) (relation : Relation) → query_lines other (line.before.headings + 1) ≡ query_lines file (line.before.headings + 1) →
    IsRelationOf registry file line relation → IsRelationOf registry other line relation
relation_moved registry file other line relation e h = record {
  heading = h.heading;
  form = h.form;
  kind = h.kind;
  name = h.name;
  second = h.second;
  queries = subst (λ (ls : List Line). AreQueries registry ls relation.queries) (sym e) h.queries;
}

relations_moved : (registry : Registry) (file other : List Line) (heads : List Line) (relations : List Relation) →
    Each (λ (h : Line). query_lines other (h.before.headings + 1) ≡ query_lines file (h.before.headings + 1)) heads → AreRelations registry file heads relations → AreRelations registry other heads relations
relations_moved registry file other [] relations e NoRelations = NoRelations
relations_moved registry file other (line ∷ heads) relations e (ThenRelation l ls r rs h t) =
    ThenRelation line heads r rs (relation_moved registry file other line r e.0 h) (relations_moved registry file other heads rs e.1 t)

relations_more : (registry : Registry) (file heads : List Line) (line : Line) (relations : List Relation) (relation : Relation) → AreRelations registry file heads relations →
    IsRelationOf registry file line relation → AreRelations registry file (heads ++ line ∷ []) (relations ++ relation ∷ [])
relations_more registry file [] line relations relation NoRelations r = ThenRelation line [] relation [] r NoRelations
relations_more registry file (h ∷ heads) line relations relation (ThenRelation l ls x xs i t) r =
    ThenRelation h (heads ++ line ∷ []) x (xs ++ relation ∷ []) i (relations_more registry file heads line xs relation t r)

queries_more : (registry : Registry) (all : List Line) (line : Line) (queries : List Query) (query : Query) → AreQueries registry all queries → IsQueryOf registry line query →
    AreQueries registry (all ++ line ∷ []) (queries ++ query ∷ [])
queries_more registry [] line queries query NoQueries q = ThenQuery line [] query [] q NoQueries
queries_more registry (h ∷ all) line queries query (ThenQuery l ls x xs i t) q = ThenQuery h (all ++ line ∷ []) x (xs ++ query ∷ []) i (queries_more registry all line xs query t q)

-- ## What was read so far

-- the heading that is last, and its relation
pub record IsUnder (registry : Registry) (earlier heads : List Line) (place : ℕ) (relation : Relation) : Type 0 where
  pub head : Line
  pub all : heading_lines earlier ≡ heads ++ head ∷ []
  pub here : head.before.headings ≡ place
  pub is : IsRelationOf registry earlier head relation

abbrev pub LastIs : Registry → List Line → List Line → ℕ → Option Relation → Type 0
LastIs registry earlier heads place None = (heading_lines earlier ≡ heads) × (heads ≡ [])
LastIs registry earlier heads place (Some relation) = IsUnder registry earlier heads place relation

pub record HasRead (registry : Registry) (all rest : List (List ℕ)) (state : State) : Type 0 where
  pub earlier : List Line
  pub are : lines_from registry 1 at_top all ≡ earlier ++ lines_from registry (state.number + 1) (before_of state) rest
  pub count : length all ≡ state.number + length rest
  pub faultless : IsFaultless registry earlier
  pub heads : List Line
  pub done : AreRelations registry earlier heads state.done
  pub closed : Each (λ (h : Line). h.before.headings < length state.done) heads
  pub last : LastIs registry earlier heads (length state.done) state.last
  pub within : Each (λ (l : Line). l.before.headings ≤ length (relations_in state)) earlier
  pub sound : IsSound registry state

none_in : (registry : Registry) (cause : GrammarCause) (line : Line) → Contains [] line → HasCause registry line cause → ⊥
none_in registry cause line m h = omega (arith, m.1)

-- before the first line
pub nothing_read : (registry : Registry) (all rest : List (List ℕ)) (state : State) → rest ≡ all → state ≡ at_first → IsSound registry at_first → HasRead registry all rest state
nothing_read registry all rest state r e sound =
    subst (λ (ls : List (List ℕ)). HasRead registry all ls state) (sym r)
    (subst (λ (s : State). HasRead registry all all s) (sym e)
    (record {
      earlier = [];
      are = refl;
      count = omega arith;
      faultless = λ line cause m h. none_in registry cause line m h;
      heads = [];
      done = NoRelations;
      closed = tt;
      last = (refl, refl);
      within = tt;
      sound = sound;
    }))

pub more_relations : (done : List Relation) (relation : Relation) → length (done ++ relation ∷ []) ≡ length done + 1
more_relations done relation = grind (arith, common_steps)

-- the lines that are left
left : (registry : Registry) (all old rest : List (List ℕ)) (text : List ℕ) (state x : State) → (h : HasRead registry all old state) → old ≡ text ∷ rest → x.number ≡ state.number + 1 →
    before_of x ≡ behind registry (before_of state) (form_of text) → lines_from registry 1 at_top all ≡ (h.earlier ++ next_line state text ∷ []) ++ lines_from registry (x.number + 1) (before_of x) rest
left registry all old rest text state x h e n b =
    let on : lines_from registry (state.number + 1 + 1) (behind registry (before_of state) (form_of text)) rest ≡ lines_from registry (x.number + 1) (before_of x) rest =
    ap (λ (m : ℕ). lines_from registry (m + 1) (behind registry (before_of state) (form_of text)) rest) (sym n) ∙ ap (λ (p : Before). lines_from registry (x.number + 1) p rest) (sym b) in
    h.are ∙ ap (λ (ls : List (List ℕ)). h.earlier ++ lines_from registry (state.number + 1) (before_of state) ls) e ∙
    ap (λ (ls : List Line). h.earlier ++ next_line state text ∷ ls) on ∙ sym (append_assoc h.earlier (next_line state text ∷ []) (lines_from registry (x.number + 1) (before_of x) rest))

fewer : (all old rest : List (List ℕ)) (text : List ℕ) (n m : ℕ) → length all ≡ n + length old → old ≡ text ∷ rest → m ≡ n + 1 → length all ≡ m + length rest
fewer all old rest text n m c e s = let l : length old ≡ length rest + 1 = ap length e ∙ omega arith in omega (arith, c, l, s)

headings_split : (file : List Line) (line : Line) (b : Bool) → is_heading (form_of line.text) ≡ b → heading_lines (file ++ line ∷ []) ≡ heading_lines file ++ filter (λ (l : Line). is_heading (form_of l.text)) (line ∷ [])
headings_split file line b e = filter-append (λ (l : Line). is_heading (form_of l.text)) file (line ∷ [])

no_heading_more : (file : List Line) (line : Line) → is_heading (form_of line.text) ≡ false → heading_lines (file ++ line ∷ []) ≡ heading_lines file
no_heading_more file line e = headings_split file line false e ∙ ap (λ (ls : List Line). heading_lines file ++ ls) (let n : filter (λ (l : Line). is_heading (form_of l.text)) (line ∷ []) ≡ [] = rw e refl in n) ∙ append-nil (heading_lines file)

heading_more : (file : List Line) (line : Line) → is_heading (form_of line.text) ≡ true → heading_lines (file ++ line ∷ []) ≡ heading_lines file ++ line ∷ []
heading_more file line e = headings_split file line true e ∙ ap (λ (ls : List Line). heading_lines file ++ ls) (let n : filter (λ (l : Line). is_heading (form_of l.text)) (line ∷ []) ≡ line ∷ [] = rw e refl in n)

-- the last relation stands in a longer file, to which no query of it was added
last_moved : (registry : Registry) (file heads : List Line) (place : ℕ) (last : Option Relation) (line : Line) → is_heading (form_of line.text) ≡ false →
    ((n : ℕ) → queries_in line n ≡ []) → LastIs registry file heads place last → LastIs registry (file ++ line ∷ []) heads place last
last_moved registry file heads place None line e q h = (no_heading_more file line e ∙ h.0, h.1)
last_moved registry file heads place (Some relation) line e q h = record {
  head = h.head;
  all = no_heading_more file line e ∙ h.all;
  here = h.here;
  is = relation_moved registry file (file ++ line ∷ []) h.head relation (none_more file line (h.head.before.headings + 1) (q _)) h.is;
}

-- a line that is no heading and no query
line_passes : (registry : Registry) (all old rest : List (List ℕ)) (text : List ℕ) (state x : State) → (h : HasRead registry all old state) → old ≡ text ∷ rest → x.number ≡ state.number + 1 →
    before_of x ≡ behind registry (before_of state) (form_of text) → x.done ≡ state.done → x.last ≡ state.last → is_heading (form_of text) ≡ false → is_query (form_of text) ≡ false →
    IsClean registry (next_line state text) → IsSound registry x → HasRead registry all rest x
line_passes registry all old rest text state x h e n b d o no_head no_query clean sound =
    let line : Line = next_line state text in
    let file : List Line = h.earlier ++ line ∷ [] in
    let same : (m : ℕ) → query_lines file m ≡ query_lines h.earlier m = λ m. none_more h.earlier line m (no_query_in line m no_query) in
    let rs : relations_in state ≡ relations_in x = ap (λ (ds : List Relation). with_last ds state.last) (sym d) ∙ ap (λ (r : Option Relation). with_last x.done r) (sym o) in
    record {
      earlier = file;
      are = left registry all old rest text state x h e n b;
      count = fewer all old rest text state.number x.number h.count e n;
      faultless = faultless_more registry h.earlier line h.faultless clean;
      heads = h.heads;
      done = subst (λ (ds : List Relation). AreRelations registry file h.heads ds) (sym d) (relations_moved registry h.earlier file h.heads state.done (each_weaker _ _ h.heads (λ l k. same (l.before.headings + 1)) h.closed) h.done);
      closed = subst (λ (ds : List Relation). Each (λ (l : Line). l.before.headings < length ds) h.heads) (sym d) h.closed;
      last = subst (λ (ds : List Relation). LastIs registry file h.heads (length ds) x.last) (sym d)
          (subst (λ (r : Option Relation). LastIs registry file h.heads (length state.done) r) (sym o) (last_moved registry h.earlier h.heads (length state.done) state.last line no_head (λ m. no_query_in line m no_query) h.last));
      within = subst (λ (ds : List Relation). Each (λ (l : Line). l.before.headings ≤ length ds) file) rs (each_more _ h.earlier line h.within (omega arith));
      sound = sound;
    }

-- ## A heading

-- the relations whose last query is read, when the next heading begins
record Closed (registry : Registry) (earlier : List Line) (relations : List Relation) : Type 0 where
  heads : List Line
  all : heading_lines earlier ≡ heads
  are : AreRelations registry earlier heads relations
  closed : Each (λ (h : Line). h.before.headings < length relations) heads

closed_up : (registry : Registry) (earlier heads : List Line) (done : List Relation) (last : Option Relation) → AreRelations registry earlier heads done →
    Each (λ (h : Line). h.before.headings < length done) heads → LastIs registry earlier heads (length done) last → Closed registry earlier (with_last done last)
closed_up registry earlier heads done None r c l = record { heads = heads; all = l.0; are = r; closed = c }
closed_up registry earlier heads done (Some relation) r c l =
    let more = more_relations done relation in
    record {
      heads = heads ++ l.head ∷ [];
      all = l.all;
      are = relations_more registry earlier heads l.head done relation r l.is;
      closed = each_more _ heads l.head (each_weaker _ _ heads (λ h k. omega (arith, k, more)) c) (let here = l.here in omega (arith, here, more));
    }

begun_before : (state : State) (heading : List ℕ) (relation : Relation) → relation.kind ≡ kind_waiting state.pending →
    before_of (record state { number = state.number + 1; pending = None; done = relations_in state; last = Some relation }) ≡
    record (before_of state) { pending = None; under = Some (kind_waiting state.pending); headings = length (relations_in state) + 1 }
begun_before state heading relation k =
    ap (λ (n : ℕ). record { pending = None; default = state.default; limit = state.limit; under = Some relation.kind; headings = n; queries = state.queries }) (more_relations (relations_in state) relation) ∙
    ap (λ (kind : RelationKind). record { pending = None; default = state.default; limit = state.limit; under = Some kind; headings = length (relations_in state) + 1; queries = state.queries }) k

heading_begins : (registry : Registry) (all old rest : List (List ℕ)) (text heading : List ℕ) (state : State) → (h : HasRead registry all old state) → old ≡ text ∷ rest → form_of text ≡ Heads heading →
    IsClean registry (next_line state text) →
    IsSound registry (record state { number = state.number + 1; pending = None; done = relations_in state; last = Some (begun (kind_waiting state.pending) heading) }) →
    HasRead registry all rest (record state { number = state.number + 1; pending = None; done = relations_in state; last = Some (begun (kind_waiting state.pending) heading) })
heading_begins registry all old rest text heading state h e form clean sound =
    let relation : Relation = begun (kind_waiting state.pending) heading in
    let x : State = record state { number = state.number + 1; pending = None; done = relations_in state; last = Some relation } in
    let line : Line = next_line state text in
    let file : List Line = h.earlier ++ line ∷ [] in
    let no_query : is_query (form_of text) ≡ false = ap is_query form in
    let same : (m : ℕ) → query_lines file m ≡ query_lines h.earlier m = λ m. none_more h.earlier line m (no_query_in line m no_query) in
    let c : Closed registry h.earlier (relations_in state) = closed_up registry h.earlier h.heads state.done state.last h.done h.closed h.last in
    let more = more_relations (relations_in state) relation in
    let before : before_of x ≡ behind registry (before_of state) (form_of text) = begun_before state heading relation refl ∙ ap (λ (f : Form). behind registry (before_of state) f) (sym form) in
    let none : query_lines file (length (relations_in state) + 1) ≡ [] =
    same (length (relations_in state) + 1) ∙ nothing_yet h.earlier (length (relations_in state) + 1) (each_weaker _ _ h.earlier (λ l k. omega (arith, k)) h.within) in
    record {
      earlier = file;
      are = left registry all old rest text state x h e refl before;
      count = fewer all old rest text state.number (state.number + 1) h.count e refl;
      faultless = faultless_more registry h.earlier line h.faultless clean;
      heads = c.heads;
      done = relations_moved registry h.earlier file c.heads (relations_in state) (each_weaker _ _ c.heads (λ l k. same (l.before.headings + 1)) c.closed) c.are;
      closed = c.closed;
      last = record {
        head = line;
        all = heading_more h.earlier line (ap is_heading form) ∙ ap (λ (ls : List Line). ls ++ line ∷ []) c.all;
        here = refl;
        is = record { heading = heading; form = form; kind = refl; name = refl; second = refl; queries = subst (λ (ls : List Line). AreQueries registry ls []) (sym none) NoQueries };
      };
      within = each_more _ h.earlier line (each_weaker _ _ h.earlier (λ l k. omega (arith, k, more)) h.within) (omega (arith, more));
      sound = sound;
    }

-- ## A query

under_some : (registry : Registry) (earlier heads : List Line) (place : ℕ) (last : Option Relation) (relation : Relation) → last ≡ Some relation → LastIs registry earlier heads place last →
    IsUnder registry earlier heads place relation
under_some registry earlier heads place last relation e h = subst (λ (r : Option Relation). LastIs registry earlier heads place r) e h

asked_before : (state : State) (relation more : Relation) → state.last ≡ Some relation → more.kind ≡ relation.kind →
    before_of (record state { number = state.number + 1; queries = state.queries + 1; last = Some more }) ≡ record (before_of state) { queries = state.queries + 1 }
asked_before state relation more e k =
    let Told : Option RelationKind → ℕ → Before = λ kind n. record { pending = state.pending; default = state.default; limit = state.limit; under = kind; headings = n; queries = state.queries + 1 } in
    let n : length (state.done ++ more ∷ []) ≡ length (state.done ++ relation ∷ []) = more_relations state.done more ∙ sym (more_relations state.done relation) in
    ap (λ (m : ℕ). Told (Some more.kind) m) n ∙ ap (λ (kind : RelationKind). Told (Some kind) (length (state.done ++ relation ∷ []))) k ∙
    ap (λ (r : Option Relation). Told (kind_of r) (length (with_last state.done r))) (sym e)

query_added : (registry : Registry) (all old rest : List (List ℕ)) (text asked : List ℕ) (state : State) (relation : Relation) (own : Query) → (h : HasRead registry all old state) → old ≡ text ∷ rest →
    form_of text ≡ Asks asked → state.last ≡ Some relation → IsQueryOf registry (next_line state text) (limited state.limit own) → IsClean registry (next_line state text) →
    IsSound registry (record state { number = state.number + 1; queries = state.queries + 1; last = Some (with_query relation (limited state.limit own)) }) →
    HasRead registry all rest (record state { number = state.number + 1; queries = state.queries + 1; last = Some (with_query relation (limited state.limit own)) })
query_added registry all old rest text asked state relation own h e form under query clean sound =
    let more : Relation = with_query relation (limited state.limit own) in
    let x : State = record state { number = state.number + 1; queries = state.queries + 1; last = Some more } in
    let line : Line = next_line state text in
    let file : List Line = h.earlier ++ line ∷ [] in
    let u : IsUnder registry h.earlier h.heads (length state.done) relation = under_some registry h.earlier h.heads (length state.done) state.last relation under h.last in
    let place : line.before.headings ≡ length state.done + 1 = ap (λ (r : Option Relation). length (with_last state.done r)) under ∙ more_relations state.done relation in
    let others : (l : Line) → l.before.headings < length state.done → query_lines file (l.before.headings + 1) ≡ query_lines h.earlier (l.before.headings + 1) =
    λ l k. none_more h.earlier line (l.before.headings + 1) (not_under line (l.before.headings + 1) (λ s. omega (arith, place, s, k))) in
    let here : line.before.headings ≡ u.head.before.headings + 1 = let p = u.here in omega (arith, place, p) in
    let asks : query_lines file (u.head.before.headings + 1) ≡ query_lines h.earlier (u.head.before.headings + 1) ++ line ∷ [] =
    queries_split h.earlier line (u.head.before.headings + 1) ∙
    ap (λ (ls : List Line). query_lines h.earlier (u.head.before.headings + 1) ++ ls) (one_query_in line (u.head.before.headings + 1) here (ap is_query form)) in
    let before : before_of x ≡ behind registry (before_of state) (form_of text) = asked_before state relation more under refl ∙ ap (λ (f : Form). behind registry (before_of state) f) (sym form) in
    let size : length (relations_in state) ≡ length (state.done ++ more ∷ []) = place ∙ sym (more_relations state.done more) in
    record {
      earlier = file;
      are = left registry all old rest text state x h e refl before;
      count = fewer all old rest text state.number (state.number + 1) h.count e refl;
      faultless = faultless_more registry h.earlier line h.faultless clean;
      heads = h.heads;
      done = relations_moved registry h.earlier file h.heads state.done (each_weaker _ _ h.heads others h.closed) h.done;
      closed = h.closed;
      last = record {
        head = u.head;
        all = no_heading_more h.earlier line (ap is_heading form) ∙ u.all;
        here = u.here;
        is = record {
          heading = u.is.heading;
          form = u.is.form;
          kind = u.is.kind;
          name = u.is.name;
          second = u.is.second;
          queries = subst (λ (ls : List Line). AreQueries registry ls (relation.queries ++ limited state.limit own ∷ [])) (sym asks)
              (queries_more registry (query_lines h.earlier (u.head.before.headings + 1)) line relation.queries (limited state.limit own) u.is.queries query);
        };
      };
      within = each_more _ h.earlier line (each_weaker _ _ h.earlier (λ l k. omega (arith, k, size)) h.within) (omega (arith, size));
      sound = sound;
    }

-- ## Any line

pub line_read : (registry : Registry) (all old rest : List (List ℕ)) (text : List ℕ) (state new : State) → HasRead registry all old state → old ≡ text ∷ rest → HasTaken registry state text new → HasRead registry all rest new
line_read registry all old rest text state new h e t = by (form_of text) refl t.did
  where
    back : (x : State) → new ≡ x → (IsSound registry x → HasRead registry all rest x) → HasRead registry all rest new
    back x d f = subst (λ (s : State). HasRead registry all rest s) (sym d) (f (subst (λ (s : State). IsSound registry s) d t.sound))

    behind_by : (form : Form) → form_of text ≡ form → behind registry (before_of state) form ≡ behind registry (before_of state) (form_of text)
    behind_by form f = ap (λ (g : Form). behind registry (before_of state) g) (sym f)

    by : (form : Form) → form_of text ≡ form → Does registry (record state { number = state.number + 1 }) form new → HasRead registry all rest new
    by Skipped f d = back _ d (line_passes registry all old rest text state _ h e refl (behind_by Skipped f) refl refl (ap is_heading f) (ap is_query f) t.clean)
    by (Directs (OfKind kind)) f d = back _ d (line_passes registry all old rest text state _ h e refl (behind_by (Directs (OfKind kind)) f) refl refl (ap is_heading f) (ap is_query f) t.clean)
    by (Directs (DefaultAttr name)) f d = back _ d (line_passes registry all old rest text state _ h e refl (behind_by (Directs (DefaultAttr name)) f) refl refl (ap is_heading f) (ap is_query f) t.clean)
    by (Directs (StructLimit name)) f d = back _ d (line_passes registry all old rest text state _ h e refl (behind_by (Directs (StructLimit name)) f) refl refl (ap is_heading f) (ap is_query f) t.clean)
    by (Directs Unknown) f d = absurd d
    by (Heads heading) f d = back _ d (heading_begins registry all old rest text heading state h e f t.clean)
    by (Asks asked) f d =
        back _ d.is (query_added registry all old rest text asked state d.relation d.own h e f d.under (record { text = asked; form = f; own = d.own; means = d.means; is = refl }) t.clean)

-- ## Behind the last line, or at a line that has a cause

whole : (registry : Registry) (bytes : List ℕ) (state : State) → (h : HasRead registry (lines bytes) [] state) → h.earlier ≡ lines_of registry bytes
whole registry bytes state h = sym (h.are ∙ append-nil h.earlier)

something : {X : Type 0} (xs : List X) (x : X) → xs ++ x ∷ [] ≡ [] → ⊥
something [] x e = cc
something (y ∷ xs) x e = cc

pub grammar_is : (registry : Registry) (bytes : List ℕ) (state : State) (relation : Relation) (grammar : Grammar) → HasRead registry (lines bytes) [] state → state.last ≡ Some relation →
    grammar.relations ≡ relations_in state → ReadsGrammar registry bytes grammar
grammar_is registry bytes state relation grammar h under are =
    let u : IsUnder registry h.earlier h.heads (length state.done) relation = under_some registry h.earlier h.heads (length state.done) state.last relation under h.last in
    let w = whole registry bytes state h in
    let rs : state.done ++ relation ∷ [] ≡ grammar.relations = ap (λ (r : Option Relation). with_last state.done r) (sym under) ∙ sym are in
    record {
      faultless = subst (λ (ls : List Line). IsFaultless registry ls) w h.faultless;
      some = λ none. something h.heads u.head (sym u.all ∙ ap heading_lines w ∙ none);
      are = subst (λ (ls : List Line). AreRelations registry ls (heading_lines ls) grammar.relations) w
          (subst (λ (hs : List Line). AreRelations registry h.earlier hs grammar.relations) (sym u.all)
          (subst (λ (r : List Relation). AreRelations registry h.earlier (h.heads ++ u.head ∷ []) r) rs (relations_more registry h.earlier h.heads u.head state.done relation h.done u.is)));
    }

pub none_is : (registry : Registry) (bytes : List ℕ) (state : State) → HasRead registry (lines bytes) [] state → state.last ≡ None → LacksRelation registry bytes
none_is registry bytes state h e =
    let w = whole registry bytes state h in
    let l : LastIs registry h.earlier h.heads (length state.done) None = subst (λ (r : Option Relation). LastIs registry h.earlier h.heads (length state.done) r) e h.last in
    record {
      faultless = subst (λ (ls : List Line). IsFaultless registry ls) w h.faultless;
      none = sym (ap heading_lines w) ∙ l.0 ∙ l.1;
    }

pub fault_is : (registry : Registry) (bytes : List ℕ) (old rest : List (List ℕ)) (text : List ℕ) (state : State) (number : ℕ) (cause : GrammarCause) → HasRead registry (lines bytes) old state → old ≡ text ∷ rest →
    number ≡ state.number + 1 → IsFirstCause registry (next_line state text) cause → FirstGrammarFault registry bytes number cause
fault_is registry bytes old rest text state number cause h e n f = record {
  earlier = h.earlier;
  line = next_line state text;
  later = lines_from registry (state.number + 1 + 1) (behind registry (before_of state) (form_of text)) rest;
  are = h.are ∙ ap (λ (ls : List (List ℕ)). h.earlier ++ lines_from registry (state.number + 1) (before_of state) ls) e;
  numbered = sym n;
  here = f.here;
  first_cause = f.first;
  first_line = h.faultless;
}
