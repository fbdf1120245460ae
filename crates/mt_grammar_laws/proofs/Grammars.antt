-- A grammar file has one answer.
use Rattle.std.proofs.Common.{◌≡◌, ℕ, ◌⊎◌, inl, inr, suc, List, [], ◌∷◌, ◌++◌, Result, Ok, Err, arith, refl, sym, ◌∙◌, ap, subst}
use Rattle.std.specs.Prelude.{slice_index_or}
use Rattle.std.specs.List.{Contains}
use Rattle.mt_text_spec.specs.Registries.{Registry}
use Rattle.mt_text_spec.specs.Queries.{Query, RelationKind, Relation, Grammar}
use Rattle.mt_query_spec.specs.Verdicts.{Means, Refusal, TooLarge}
use Rattle.mt_grammar_spec.specs.GrammarLines.{Form, Skipped, Directs, Heads, Asks, form_of}
use Rattle.mt_grammar_spec.specs.GrammarFile.{Line, lines_of, GrammarCause, NotUtf8, NoDirective, SecondKind, NoName, NoGoodHeading, NoHeading, TooMany, NoQuery, NoLabel, rank, FormCause, Refused, HasCause, IsFaultless, FirstGrammarFault}
use Rattle.mt_grammar_spec.specs.ReadGrammar.{limited, IsQueryOf, AreQueries, NoQueries, ThenQuery, name_by, second_by, IsRelationOf, AreRelations, NoRelations, ThenRelation, ReadsGrammar}

abbrev pub OneMeaning : Type 0
OneMeaning = (registry : Registry) (default : ℕ) (text : List ℕ) (said other : Result Query Refusal) → Means registry default text said → Means registry default text other → said ≡ other

-- ## One grammar

same_text : (a b : List ℕ) → Asks a ≡ Asks b → a ≡ b
same_text a b e = cc

same_heading : (a b : List ℕ) → Heads a ≡ Heads b → a ≡ b
same_heading a b e = cc

abbrev ok : Query → Result Query Refusal
ok query = Ok query

abbrev err : Refusal → Result Query Refusal
err refusal = Err refusal

same_ok : (a b : Query) → ok a ≡ ok b → a ≡ b
same_ok a b e = cc

same_err : (a b : Refusal) → err a ≡ err b → a ≡ b
same_err a b e = cc

one_query : OneMeaning → (registry : Registry) (line : Line) (a b : Query) → IsQueryOf registry line a → IsQueryOf registry line b → a ≡ b
one_query one registry line a b h k =
    let text = same_text h.text k.text (sym h.form ∙ k.form) in
    let means = subst (λ (t : List ℕ). Means registry line.before.default t (Ok h.own)) text h.means in
    let own = same_ok h.own k.own (one registry line.before.default k.text (Ok h.own) (Ok k.own) means k.means) in
    h.is ∙ ap (λ (q : Query). limited line.before.limit q) own ∙ sym k.is

one_list : OneMeaning → (registry : Registry) (all : List Line) (a b : List Query) → AreQueries registry all a → AreQueries registry all b → a ≡ b
one_list one registry [] a b NoQueries NoQueries = refl
one_list one registry (line ∷ all) a b (ThenQuery line' all' q qs h r) (ThenQuery line'' all'' k ks i s) =
    ap (λ (x : Query). x ∷ qs) (one_query one registry line q k h i) ∙ ap (λ (xs : List Query). k ∷ xs) (one_list one registry all qs ks r s)

one_relation : OneMeaning → (registry : Registry) (file : List Line) (line : Line) (a b : Relation) → IsRelationOf registry file line a → IsRelationOf registry file line b → a ≡ b
one_relation one registry file line a b h k =
    let heading = same_heading h.heading k.heading (sym h.form ∙ k.form) in
    let kind = h.kind ∙ sym k.kind in
    let name = h.name ∙ ap (λ (x : RelationKind). name_by x h.heading) kind ∙ ap (λ (x : List ℕ). name_by b.kind x) heading ∙ sym k.name in
    let second = h.second ∙ ap (λ (x : RelationKind). second_by x h.heading) kind ∙ ap (λ (x : List ℕ). second_by b.kind x) heading ∙ sym k.second in
    let queries = one_list one registry _ a.queries b.queries h.queries k.queries in
    same_relation a b kind name second queries
  where
    same_relation : (a b : Relation) → a.kind ≡ b.kind → a.name ≡ b.name → a.second ≡ b.second → a.queries ≡ b.queries → a ≡ b
    same_relation a b e f g h = ap (λ (x : RelationKind). record { kind = x; name = a.name; second = a.second; queries = a.queries }) e ∙
        ap (λ (x : List ℕ). record { kind = b.kind; name = x; second = a.second; queries = a.queries }) f ∙
        ap (λ (x : List ℕ). record { kind = b.kind; name = b.name; second = x; queries = a.queries }) g ∙
        ap (λ (x : List Query). record { kind = b.kind; name = b.name; second = b.second; queries = x }) h

one_relations : OneMeaning → (registry : Registry) (file all : List Line) (a b : List Relation) → AreRelations registry file all a → AreRelations registry file all b → a ≡ b
one_relations one registry file [] a b NoRelations NoRelations = refl
one_relations one registry file (line ∷ all) a b (ThenRelation line' all' q qs h r) (ThenRelation line'' all'' k ks i s) =
    ap (λ (x : Relation). x ∷ qs) (one_relation one registry file line q k h i) ∙ ap (λ (xs : List Relation). k ∷ xs) (one_relations one registry file all qs ks r s)

pub one_grammar : OneMeaning → (registry : Registry) (bytes : List ℕ) (a b : Grammar) → ReadsGrammar registry bytes a → ReadsGrammar registry bytes b → a ≡ b
one_grammar one registry bytes a b h k = ap (λ (rs : List Relation). record { relations = rs }) (one_relations one registry _ _ a.relations b.relations h.are k.are)

-- ## One fault

-- a line stands among others
stands : {X : Type 0} (earlier later : List X) (x : X) → Contains (earlier ++ x ∷ later) x
stands [] later x = (0, omega arith, refl)
stands (y ∷ earlier) later x = let m = stands earlier later x in (suc m.0, omega (arith, m.1), m.2)

-- Where a list is cut at two of its items, it is cut at one, or either stands before the other.
cuts : {X : Type 0} (xs ys cs ds : List X) (x y : X) → xs ++ x ∷ ys ≡ cs ++ y ∷ ds → (x ≡ y) ⊎ (Contains cs x ⊎ Contains xs y)
cuts [] ys [] ds x y e = inl cc
cuts [] ys (c ∷ cs) ds x y e = let same : x ≡ c = cc in inr (inl (subst (λ z. Contains (c ∷ cs) z) (sym same) (0, omega arith, refl)))
cuts (a ∷ xs) ys [] ds x y e = let same : a ≡ y = cc in inr (inr (subst (λ z. Contains (a ∷ xs) z) same (0, omega arith, refl)))
cuts (a ∷ xs) ys (c ∷ cs) ds x y e = deeper (cuts xs ys cs ds x y cc)
  where
    more : {X : Type 0} (z : X) (zs : List X) (w : X) → Contains zs w → Contains (z ∷ zs) w
    more z zs w m = (suc m.0, omega (arith, m.1), m.2)

    deeper : (x ≡ y) ⊎ (Contains cs x ⊎ Contains xs y) → (x ≡ y) ⊎ (Contains (c ∷ cs) x ⊎ Contains (a ∷ xs) y)
    deeper (inl s) = inl s
    deeper (inr (inl m)) = inr (inl (more c cs x m))
    deeper (inr (inr m)) = inr (inr (more a xs y m))

one_line : (registry : Registry) (bytes : List ℕ) (number other : ℕ) (cause another : GrammarCause) → (h : FirstGrammarFault registry bytes number cause) → (k : FirstGrammarFault registry bytes other another) → h.line ≡ k.line
one_line registry bytes number other cause another h k = by (cuts h.earlier h.later k.earlier k.later h.line k.line (sym h.are ∙ k.are))
  where
    by : (h.line ≡ k.line) ⊎ (Contains k.earlier h.line ⊎ Contains h.earlier k.line) → h.line ≡ k.line
    by (inl e) = e
    by (inr (inl m)) = absurd (k.first_line h.line cause m h.here)
    by (inr (inr m)) = absurd (h.first_line k.line another m k.here)

refused_by : OneMeaning → (registry : Registry) (line : Line) (a b : Refusal) → HasCause registry line (NoQuery a) → HasCause registry line (NoQuery b) → a ≡ b
refused_by one registry line a b h k = by (form_of line.text) h k
  where
    by : (form : Form) → FormCause registry line.before form (NoQuery a) → FormCause registry line.before form (NoQuery b) → a ≡ b
    by Skipped h k = elim h [ ]
    by (Directs directive) h k = elim h [ ]
    by (Heads heading) h k = elim h [ ]
    by (Asks text) (Refused t r m) (Refused t' r' m') = same_err a b (one registry line.before.default text (Err a) (Err b) m m')

-- the cause with this place in their order
abbrev cause_at : ℕ → Refusal → GrammarCause
cause_at n refusal = slice_index_or (NotUtf8 ∷ NoDirective ∷ SecondKind ∷ NoName ∷ NoGoodHeading ∷ NoHeading ∷ TooMany ∷ NoQuery refusal ∷ []) n NoLabel

abbrev refusal_in : GrammarCause → Refusal
refusal_in NotUtf8 = TooLarge
refusal_in NoDirective = TooLarge
refusal_in SecondKind = TooLarge
refusal_in NoName = TooLarge
refusal_in NoGoodHeading = TooLarge
refusal_in NoHeading = TooLarge
refusal_in TooMany = TooLarge
refusal_in (NoQuery refusal) = refusal
refusal_in NoLabel = TooLarge

is_at : (cause : GrammarCause) → cause ≡ cause_at (rank cause) (refusal_in cause)
is_at NotUtf8 = refl
is_at NoDirective = refl
is_at SecondKind = refl
is_at NoName = refl
is_at NoGoodHeading = refl
is_at NoHeading = refl
is_at TooMany = refl
is_at (NoQuery refusal) = refl
is_at NoLabel = refl

same_rank : OneMeaning → (registry : Registry) (line : Line) (a b : GrammarCause) → rank a ≡ rank b → HasCause registry line a → HasCause registry line b → a ≡ b
same_rank one registry line a b e h k = by a e h
  where
    is : (n : ℕ) → rank b ≡ n → b ≡ cause_at n (refusal_in b)
    is n e = is_at b ∙ ap (λ (m : ℕ). cause_at m (refusal_in b)) e

    by : (a : GrammarCause) → rank a ≡ rank b → HasCause registry line a → a ≡ b
    by NotUtf8 e h = sym (is 0 (sym e))
    by NoDirective e h = sym (is 1 (sym e))
    by SecondKind e h = sym (is 2 (sym e))
    by NoName e h = sym (is 3 (sym e))
    by NoGoodHeading e h = sym (is 4 (sym e))
    by NoHeading e h = sym (is 5 (sym e))
    by TooMany e h = sym (is 6 (sym e))
    by (NoQuery refusal) e h =
        let query = is 7 (sym e) in
        ap NoQuery (refused_by one registry line refusal (refusal_in b) h (subst (λ (c : GrammarCause). HasCause registry line c) query k)) ∙ sym query
    by NoLabel e h = sym (is 8 (sym e))

pub one_fault : OneMeaning → (registry : Registry) (bytes : List ℕ) (number other : ℕ) (cause another : GrammarCause) → FirstGrammarFault registry bytes number cause → FirstGrammarFault registry bytes other another →
    (number ≡ other) × (cause ≡ another)
one_fault one registry bytes number other cause another h k =
    let line = one_line registry bytes number other cause another h k in
    let there : HasCause registry h.line another = subst (λ (l : Line). HasCause registry l another) (sym line) k.here in
    let here : HasCause registry k.line cause = subst (λ (l : Line). HasCause registry l cause) line h.here in
    let low = h.first_cause another there in
    let high = k.first_cause cause here in
    (sym h.numbered ∙ ap (λ (l : Line). l.number) line ∙ k.numbered, same_rank one registry h.line cause another (omega (arith, low, high)) h.here there)

-- ## Apart

pub faultless : (registry : Registry) (bytes : List ℕ) (number : ℕ) (cause : GrammarCause) → IsFaultless registry (lines_of registry bytes) → FirstGrammarFault registry bytes number cause → ⊥
faultless registry bytes number cause none h = none h.line cause (subst (λ (all : List Line). Contains all h.line) (sym h.are) (stands h.earlier h.later h.line)) h.here
