-- What the parser computes of a text is what the text is.
use Rattle.std.proofs.Common.{ℕ, zero, suc, ◌≡◌, Bool, true, false, cond, List, [], ◌∷◌, ◌++◌, None, Some, Option, Err, refl, sym, ◌∙◌, ap, append_assoc, append-nil, length, take, subst, ◌+◌, arith}
use Rattle.std.proofs.Math.Seq.{take-append_seam, take-append-add}
use Rattle.std.proofs.lemmas.List.{length-map}
use Rattle.std.specs.Prelude.{slice_get}
use Rattle.mt_text_spec.specs.Registries.{Registry}
use Rattle.mt_query_spec.specs.Tokens.{Token, Unlexed, tokens_of}
use Rattle.mt_query_spec.specs.Trees.{QueryTree, query_tokens}
use Rattle.mt_query_spec.specs.Verdicts.{TooLarge, Syntax, NoQuery, is_too_long, plain, Begins, verdict, Means, too_long, unlexed, no_query, cut_short, written}
use Rattle.mt_query_laws.specs.Machine.{and_then}
use Rattle.mt_query_laws.specs.Exprs.{start, step, run, finish}
use Rattle.mt_query_laws.specs.Reading.{Answer, or_refused, end_of, read_from, read, answer}
use Rattle.mt_query_laws.proofs.Building.{tree_ways}
use Rattle.mt_query_laws.proofs.Spelling.{TreeState, spelled, run_kept, finish_spelled}
use Rattle.mt_query_laws.proofs.Reading.{run_append, then_run, last_run, query_reads}
use Rattle.mt_query_laws.proofs.Closing.{state_closes}
use Rattle.mt_query_laws.proofs.PartLaws.{seen}
use Rattle.mt_query_laws.proofs.Steps.{seen_state, step_seen, finish_seen}

-- the tokens lead from the start to a state
abbrev pub Leads : List Token → TreeState → Type 0
Leads tokens state = run tree_ways (start tree_ways) tokens ≡ Some state

spelled_start : (tokens : List Token) (state : TreeState) → Leads tokens state → spelled state ≡ tokens
spelled_start tokens state h = run_kept (start tree_ways) tokens state h

-- where tokens lead to a state, some query begins with them
pub leads_begins : (tokens : List Token) (state : TreeState) → Leads tokens state → Begins tokens
leads_begins tokens state h =
    let c = state_closes state in
    let r : Leads (tokens ++ c.tokens) c.ends.end = then_run (start tree_ways) state tokens c.tokens _ h c.ends.runs in
    record { query = c.ends.query; more = c.tokens; written = finish_spelled c.ends.end c.ends.query c.ends.is ∙ spelled_start (tokens ++ c.tokens) c.ends.end r }

-- where some query begins with tokens, they lead to a state
pub begins_leads : (tokens : List Token) → Begins tokens → (state : TreeState) × Leads tokens state
begins_leads tokens b = go (run tree_ways (start tree_ways) tokens) refl
  where
    go : (found : Option TreeState) → run tree_ways (start tree_ways) tokens ≡ found → (state : TreeState) × Leads tokens state
    go (Some state) e = (state, e)
    go None e =
        let r = query_reads b.query in
        let k : run tree_ways (start tree_ways) (tokens ++ b.more) ≡ Some r.end = ap (run tree_ways (start tree_ways)) (sym b.written) ∙ r.runs in
        let l : run tree_ways (start tree_ways) (tokens ++ b.more) ≡ None = run_append (start tree_ways) tokens b.more ∙ ap (λ x. and_then x (λ next. run tree_ways next b.more)) e in
        cc

-- the query that is read where the tokens lead
pub leads_query : (tokens : List Token) (state : TreeState) (query : QueryTree) → Leads tokens state → query_tokens query ≡ tokens → finish tree_ways state ≡ Some query
leads_query tokens state query h e =
    let r = query_reads query in
    let k : Some r.end ≡ Some state = sym r.runs ∙ ap (run tree_ways (start tree_ways)) e ∙ h in
    let l : r.end ≡ state = cc in
    ap (finish tree_ways) (sym l) ∙ r.is

-- no step, where every step leads to what is not so
pub stuck : (state : TreeState) (token : Token) → ((next : TreeState) → step tree_ways state token ≡ Some next → ⊥) → step tree_ways state token ≡ None
stuck state token never = go (step tree_ways state token) refl
  where
    go : (found : Option TreeState) → step tree_ways state token ≡ found → step tree_ways state token ≡ None
    go None e = e
    go (Some next) e = absurd (never next e)

pub unfinished : (state : TreeState) → ((query : QueryTree) → finish tree_ways state ≡ Some query → ⊥) → finish tree_ways state ≡ None
unfinished state never = go (finish tree_ways state) refl
  where
    go : (found : Option QueryTree) → finish tree_ways state ≡ found → finish tree_ways state ≡ None
    go None e = e
    go (Some query) e = absurd (never query e)

-- each list of tokens is written for one query at most
pub one_query : (a b : QueryTree) → query_tokens a ≡ query_tokens b → a ≡ b
one_query a b e =
    let r = query_reads a in
    let k : finish tree_ways r.end ≡ Some b = leads_query (query_tokens a) r.end b r.runs (sym e) in
    let l : Some a ≡ Some b = sym r.is ∙ k in
    cc

plain_append : (xs ys : List (ℕ × Token)) → plain (xs ++ ys) ≡ plain xs ++ plain ys
plain_append [] ys = refl
plain_append (x ∷ xs) ys = ap (λ z. x.1 ∷ z) (plain_append xs ys)

take_one_more : (xs ys : List Token) (t : Token) → take (suc (length xs)) (xs ++ t ∷ ys) ≡ xs ++ t ∷ []
take_one_more xs ys t = ap (λ n. take n (xs ++ t ∷ ys)) (let e : suc (length xs) ≡ length xs + 1 = omega arith in e) ∙ take-append-add xs (t ∷ ys) 1

get_there : (xs ys : List (ℕ × Token)) (x : ℕ × Token) → slice_get (xs ++ x ∷ ys) (length xs) ≡ Some x
get_there [] ys x = refl
get_there (z ∷ xs) ys x = get_there xs ys x

length_plain : (xs : List (ℕ × Token)) → length (plain xs) ≡ length xs
length_plain xs = length-map xs (λ p. p.1)

-- what stands before a token in a list, and behind it
record SplitAt (tokens : List (ℕ × Token)) (number : ℕ) (x : ℕ × Token) : Type 0 where
  before : List (ℕ × Token)
  rest : List (ℕ × Token)
  split : tokens ≡ before ++ x ∷ rest
  counts : length before ≡ number

split_at : (tokens : List (ℕ × Token)) (number : ℕ) (x : ℕ × Token) → slice_get tokens number ≡ Some x → SplitAt tokens number x
split_at [] number x h = cc
split_at (y ∷ tokens) zero x h = let e : y ≡ x = cc in record { before = []; rest = tokens; split = ap (λ z. z ∷ tokens) e; counts = refl }
split_at (y ∷ tokens) (suc number) x h =
    let s = split_at tokens number x h in record { before = y ∷ s.before; rest = s.rest; split = ap (λ z. y ∷ z) s.split; counts = ap suc s.counts }

module _ (registry : Registry) (default : ℕ) (text : List ℕ) (short : is_too_long text ≡ false) where
  -- ## What is computed is so

  end_means : (state : TreeState) → Leads (plain (tokens_of text).tokens) state → (stop : Option (ℕ × Unlexed)) → (tokens_of text).stop ≡ stop
      → Means registry default text (end_of registry default (seen_state registry default state) stop (length text))
  unfolding end_of
  end_means state h (Some stop) e = unlexed short stop.0 stop.1 e (leads_begins (plain (tokens_of text).tokens) state h)
  end_means state h None e = rw (finish_seen registry default state) (go (finish tree_ways state) refl)
    where
      go : (found : Option QueryTree) → finish tree_ways state ≡ found
          → Means registry default text (or_refused (seen (verdict registry default) found) (length text))
      go (Some query) k = written short e query (finish_spelled state query k ∙ spelled_start (plain (tokens_of text).tokens) state h)
      go None k = cut_short short e (leads_begins (plain (tokens_of text).tokens) state h) (λ query w. let l = leads_query (plain (tokens_of text).tokens) state query h w in cc)

  no_more : (before : List (ℕ × Token)) (first : ℕ × Token) (others : List (ℕ × Token)) (state : TreeState) → (tokens_of text).tokens ≡ before ++ first ∷ others
      → Leads (plain before) state → step tree_ways state first.1 ≡ None → Means registry default text (Err (Syntax first.0 NoQuery))
  no_more before first others state split h e =
      let p : plain (tokens_of text).tokens ≡ plain before ++ plain (first ∷ others) = ap plain split ∙ plain_append before (first ∷ others) in
      no_query short (length before) first.0 first.1 (ap (λ x. slice_get x (length before)) split ∙ get_there before others first)
      (subst (λ x. Begins x) (sym (ap (take (length before)) p ∙ ap (λ n. take n (plain before ++ plain (first ∷ others))) (sym (length_plain before)) ∙ take-append_seam (plain before) (plain (first ∷ others))))
      (leads_begins (plain before) state h))
      (λ b.
      let q : take (suc (length before)) (plain (tokens_of text).tokens) ≡ plain before ++ first.1 ∷ [] =
      ap (take (suc (length before))) p ∙ ap (λ n. take (suc n) (plain before ++ plain (first ∷ others))) (sym (length_plain before)) ∙ take_one_more (plain before) (plain others) first.1 in
      let l = begins_leads (plain before ++ first.1 ∷ []) (subst (λ x. Begins x) q b) in
      let k : run tree_ways (start tree_ways) (plain before ++ first.1 ∷ []) ≡ None = then_run (start tree_ways) state (plain before) (first.1 ∷ []) None h (last_run state first.1 None e) in
      cc)

  from_means : (before rest : List (ℕ × Token)) (state : TreeState) → (tokens_of text).tokens ≡ before ++ rest → Leads (plain before) state
      → Means registry default text (read_from registry default (seen_state registry default state) rest (tokens_of text).stop (length text))
  unfolding read_from
  from_means before [] state split h =
      let e : (tokens_of text).tokens ≡ before = split ∙ append-nil before in
      end_means state (rw e h) (tokens_of text).stop refl
  from_means before (first ∷ others) state split h =
      rw (step_seen registry default state first.1) (go (λ next k. from_means (before ++ first ∷ []) others next (split ∙ sym (append_assoc before (first ∷ []) others)) k) (step tree_ways state first.1) refl)
    where
      go : ((next : TreeState) → Leads (plain (before ++ first ∷ [])) next → Means registry default text (read_from registry default (seen_state registry default next) others (tokens_of text).stop (length text)))
          → (found : Option TreeState) → step tree_ways state first.1 ≡ found
          → Means registry default text (or_refused (and_then (seen (seen_state registry default) found) (λ next. Some (read_from registry default next others (tokens_of text).stop (length text)))) first.0)
      go again None e = no_more before first others state split h e
      go again (Some next) e = again next (rw (plain_append before (first ∷ [])) (then_run (start tree_ways) state (plain before) (first.1 ∷ []) _ h (last_run state first.1 _ e)))

  -- ## It is no other

  end_reached : (before rest : List (ℕ × Token)) (state next : TreeState) (stop : Option (ℕ × Unlexed)) (end : ℕ) → run tree_ways state (plain rest) ≡ Some next
      → read_from registry default (seen_state registry default state) rest stop end ≡ end_of registry default (seen_state registry default next) stop end
  unfolding read_from run
  end_reached before [] state next stop end h = let e : state ≡ next = cc in rw e refl
  end_reached before (first ∷ others) state next stop end h =
      rw (step_seen registry default state first.1) (go (λ middle k. end_reached before others middle next stop end k) (step tree_ways state first.1) h)
    where
      go : ((middle : TreeState) → run tree_ways middle (plain others) ≡ Some next
          → read_from registry default (seen_state registry default middle) others stop end ≡ end_of registry default (seen_state registry default next) stop end)
          → (found : Option TreeState) → and_then found (λ middle. run tree_ways middle (plain others)) ≡ Some next
          → or_refused (and_then (seen (seen_state registry default) found) (λ middle. Some (read_from registry default middle others stop end))) first.0
          ≡ end_of registry default (seen_state registry default next) stop end
      go again None h = cc
      go again (Some middle) h = again middle h

  refused_there : (before : List (ℕ × Token)) (first : ℕ × Token) (others : List (ℕ × Token)) (state next : TreeState) (stop : Option (ℕ × Unlexed)) (end : ℕ)
      → run tree_ways state (plain before) ≡ Some next → step tree_ways next first.1 ≡ None
      → read_from registry default (seen_state registry default state) (before ++ first ∷ others) stop end ≡ Err (Syntax first.0 NoQuery)
  unfolding read_from run
  refused_there [] first others state next stop end h e =
      let s : state ≡ next = cc in rw (step_seen registry default state first.1, s, e) refl
  refused_there (x ∷ before) first others state next stop end h e =
      rw (step_seen registry default state x.1) (go (λ middle k. refused_there before first others middle next stop end k e) (step tree_ways state x.1) h)
    where
      go : ((middle : TreeState) → run tree_ways middle (plain before) ≡ Some next
          → read_from registry default (seen_state registry default middle) (before ++ first ∷ others) stop end ≡ Err (Syntax first.0 NoQuery))
          → (found : Option TreeState) → and_then found (λ middle. run tree_ways middle (plain before)) ≡ Some next
          → or_refused (and_then (seen (seen_state registry default) found) (λ middle. Some (read_from registry default middle (before ++ first ∷ others) stop end))) x.0
          ≡ Err (Syntax first.0 NoQuery)
      go again None h = cc
      go again (Some middle) h = again middle h

-- what is computed of a text is what it is
pub answer_means : (registry : Registry) (default : ℕ) (text : List ℕ) → Means registry default text (answer registry default text)
unfolding answer read run
answer_means registry default text = go (is_too_long text) refl
  where
    go : (long : Bool) → is_too_long text ≡ long
        → Means registry default text (cond long (Err TooLarge) (read_from registry default (seen_state registry default (start tree_ways)) (tokens_of text).tokens (tokens_of text).stop (length text)))
    go true e = too_long e
    go false e = from_means registry default text e [] (tokens_of text).tokens (start tree_ways) refl refl

computed : (registry : Registry) (default : ℕ) (text : List ℕ) → is_too_long text ≡ false
    → answer registry default text ≡ read_from registry default (seen_state registry default (start tree_ways)) (tokens_of text).tokens (tokens_of text).stop (length text)
unfolding answer read
computed registry default text short = rw short refl

-- and it is nothing else
pub means_answer : {registry : Registry} {default : ℕ} {text : List ℕ} {said : Answer} → Means registry default text said → said ≡ answer registry default text
unfolding answer end_of
means_answer (too_long long) = rw long refl
means_answer {registry = registry} {default = default} {text = text} (unlexed short at why stop b) =
    let l = begins_leads (plain (tokens_of text).tokens) b in
    sym (computed registry default text short
    ∙ end_reached registry default text short [] (tokens_of text).tokens (start tree_ways) l.0 (tokens_of text).stop (length text) l.1
    ∙ ap (λ x. end_of registry default (seen_state registry default l.0) x (length text)) stop)
means_answer {registry = registry} {default = default} {text = text} (no_query short number at token there b never) =
    let s = split_at (tokens_of text).tokens number (at, token) there in
    let p : plain (tokens_of text).tokens ≡ plain s.before ++ plain ((at, token) ∷ s.rest) = ap plain s.split ∙ plain_append s.before ((at, token) ∷ s.rest) in
    let n : length (plain s.before) ≡ number = length_plain s.before ∙ s.counts in
    let q : take number (plain (tokens_of text).tokens) ≡ plain s.before =
    ap (take number) p ∙ ap (λ n. take n (plain s.before ++ plain ((at, token) ∷ s.rest))) (sym n) ∙ take-append_seam (plain s.before) (plain ((at, token) ∷ s.rest)) in
    let o : take (suc number) (plain (tokens_of text).tokens) ≡ plain s.before ++ token ∷ [] =
    ap (take (suc number)) p ∙ ap (λ n. take (suc n) (plain s.before ++ plain ((at, token) ∷ s.rest))) (sym n) ∙ take_one_more (plain s.before) (plain s.rest) token in
    let l = begins_leads (plain s.before) (subst (λ x. Begins x) q b) in
    sym (computed registry default text short
    ∙ ap (λ x. read_from registry default (seen_state registry default (start tree_ways)) x (tokens_of text).stop (length text)) s.split
    ∙ refused_there registry default text short s.before (at, token) s.rest (start tree_ways) l.0 (tokens_of text).stop (length text) l.1
    (stuck l.0 token (λ next e. never (subst (λ x. Begins x) (sym o) (leads_begins (plain s.before ++ token ∷ []) next (then_run (start tree_ways) l.0 (plain s.before) (token ∷ []) _ l.1 (last_run l.0 token _ e)))))))
means_answer {registry = registry} {default = default} {text = text} (cut_short short stop b never) =
    let l = begins_leads (plain (tokens_of text).tokens) b in
    sym (computed registry default text short
    ∙ end_reached registry default text short [] (tokens_of text).tokens (start tree_ways) l.0 (tokens_of text).stop (length text) l.1
    ∙ ap (λ x. end_of registry default (seen_state registry default l.0) x (length text)) stop
    ∙ ap (λ x. or_refused x (length text)) (finish_seen registry default l.0)
    ∙ ap (λ x. or_refused (seen (verdict registry default) x) (length text))
    (unfinished l.0 (λ query e. never query (finish_spelled l.0 query e ∙ spelled_start (plain (tokens_of text).tokens) l.0 l.1))))
means_answer {registry = registry} {default = default} {text = text} (written short stop query w) =
    let b : Begins (plain (tokens_of text).tokens) = record { query = query; more = []; written = w ∙ sym (append-nil (plain (tokens_of text).tokens)) } in
    let l = begins_leads (plain (tokens_of text).tokens) b in
    sym (computed registry default text short
    ∙ end_reached registry default text short [] (tokens_of text).tokens (start tree_ways) l.0 (tokens_of text).stop (length text) l.1
    ∙ ap (λ x. end_of registry default (seen_state registry default l.0) x (length text)) stop
    ∙ ap (λ x. or_refused x (length text)) (finish_seen registry default l.0)
    ∙ ap (λ x. or_refused (seen (verdict registry default) x) (length text)) (leads_query (plain (tokens_of text).tokens) l.0 query l.1 w))
