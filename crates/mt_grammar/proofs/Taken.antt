-- What reading a line does, by its form.
use Rattle.std.proofs.Common.{◌≡◌, ◌≢◌, ℕ, ◌+◌, ◌<◌, Option, None, Some, List, [], ◌∷◌, length, Ok, Err, refl, sym, ◌∙◌, ap, subst, arith}
use Rattle.std.specs.Str.{IsUtf8}
use Rattle.std.specs.List.{Contains}
use Rattle.std.specs.Str.Lines.{lines}
use Rattle.mt_text_spec.specs.Registries.{Registry, ValidRegistry, attr_names, kind_names, Attr, base_count}
use Rattle.mt_text_spec.specs.Queries.{Query, RelationKind, Relation, Grammar}
use Rattle.mt_query_spec.specs.Verdicts.{Means}
use Rattle.mt_file_spec.specs.RegistryFile.{trimmed}
use Rattle.mt_grammar.specs.declared.line.Directive.{Directive as RustDirective}
use Rattle.mt_grammar.specs.SeenLine.{directive_seen}
use Rattle.std.specs.Prelude.{option_map, is_some, true, IfNone, IfOk, OnOk, IfErr, Result}
use Rattle.mt_grammar_spec.specs.GrammarLines.{Directive, OfKind, DefaultAttr, StructLimit, Form, Skipped, Directs, Heads, Asks, form_of, bare_form}
use Rattle.mt_grammar_spec.specs.GrammarFile.{GrammarCause, NotUtf8, kind_waiting, place_of, FirstGrammarFault, IsNoHeading, LacksLabel, headings_limit, grammar_queries_limit}
use Rattle.mt_grammar_spec.specs.ReadGrammar.{limited, name_by, second_by, ReadsGrammar, LacksRelation}
use Rattle.mt_cql.specs.declared.query.QueryError.TheVariants as query
use Rattle.mt_grammar.specs.declared.error.LineCause.{LineCause}
use Rattle.mt_grammar.specs.declared.error.GrammarError.{GrammarError}
use Rattle.mt_grammar.specs.declared.error.GrammarError.TheVariants as error
use Rattle.mt_grammar.specs.Errors.{Tells, IsRefusal, RefusesLine, RefusesForm, RefusesText, IsUnended, IsTextFault, line_cause_seen}
use Rattle.mt_grammar.specs.Reading.{State, at_first, kind_of, relations_in, before_of, next_line, IsSound, with_query, begun, Does, HasTaken, HasDone, IsFirstCause, IsFormFirst}
use Rattle.mt_grammar.proofs.Causes.{OneMeaning, line_clean, line_first, not_utf8, line_skipped, kind_clean, attr_clean, limit_clean, heading_clean, query_clean, refused_first}
use Rattle.mt_grammar.proofs.SoFar.{HasRead, grammar_is, fault_is, none_is, more_relations}
use Rattle.mt_grammar.proofs.Utf8.{bare_utf8, line_utf8}

tells_as_well : (F G : ℕ → GrammarCause → Type 0) (A B : Type 0) → ((number : ℕ) (cause : GrammarCause) → F number cause → G number cause) → (A → B) → (e : GrammarError) → Tells F A e → Tells G B e
tells_as_well F G A B f g (error.Line line cause) h = f line _ h
tells_as_well F G A B f g (error.Query line (query.Syntax at cause)) h = f line _ h
tells_as_well F G A B f g (error.Query line (query.Unknown at)) h = f line _ h
tells_as_well F G A B f g (error.Query line query.TooLarge) h = f line _ h
tells_as_well F G A B f g (error.Query line query.NoMemory) h = absurd h
tells_as_well F G A B f g error.NoRelation h = g h
tells_as_well F G A B f g error.NoMemory h = tt

-- a cause that is told at the line that is read
pub told : (registry : Registry) (state : State) (form : Form) (cause : LineCause) (e : GrammarError) → e ≡ error.Line state.number cause → IsFormFirst registry (before_of state) form (line_cause_seen cause) →
    RefusesForm registry state form e
told registry state form cause error e h = subst (λ (x : GrammarError). RefusesForm registry state form x) (sym e) (refl, h)

-- ## A line

pub bare_is : (line bare : List ℕ) → bare ≡ trimmed line → form_of line ≡ bare_form bare
unfolding form_of
bare_is line bare e = ap bare_form (sym e)

abbrev counted : State → State
counted state = record state { number = state.number + 1 }

counted_sound : (registry : Registry) (state : State) → IsSound registry state → IsSound registry (counted state)
counted_sound registry state s = record { default = s.default; limit = s.limit; headings = s.headings; queries = s.queries }

pub skipped_taken : (registry : Registry) (old : State) (line bare : List ℕ) → IsSound registry old → bare ≡ trimmed line → bare_form bare ≡ Skipped → HasTaken registry old line (record old { number = old.number + 1 })
skipped_taken registry old line bare s t b =
    let e : form_of line ≡ Skipped = bare_is line bare t ∙ b in
    record {
      clean = line_skipped registry (next_line old line) e;
      did = subst (λ (f : Form). Does registry (counted old) f (counted old)) (sym e) refl;
      sound = counted_sound registry old s;
    }

pub done_taken : (registry : Registry) (old new : State) (line bare : List ℕ) (form : Form) → bare ≡ trimmed line → IsUtf8 bare → form ≡ bare_form bare → HasDone registry (record old { number = old.number + 1 }) form new →
    HasTaken registry old line new
done_taken registry old new line bare form t u b h =
    let e : form_of line ≡ form = bare_is line bare t ∙ sym b in
    record {
      clean = line_clean registry (next_line old line) form e (line_utf8 line (subst IsUtf8 t u)) h.clean;
      did = subst (λ (f : Form). Does registry (counted old) f new) (sym e) h.did;
      sound = h.sound;
    }

pub form_refused : (registry : Registry) (old : State) (line bare : List ℕ) (form : Form) (e : GrammarError) → bare ≡ trimmed line → IsUtf8 bare → form ≡ bare_form bare →
    RefusesForm registry (record old { number = old.number + 1 }) form e → RefusesLine registry (next_line old line) e
form_refused registry old line bare form error t u b h =
    tells_as_well (λ number cause. (number ≡ old.number + 1) × IsFormFirst registry (before_of old) form cause) (λ number cause. (number ≡ old.number + 1) × IsFirstCause registry (next_line old line) cause) ⊥ ⊥
    (λ number cause k. (k.0, line_first registry (next_line old line) form cause (bare_is line bare t ∙ sym b) (line_utf8 line (subst IsUtf8 t u)) k.1)) (λ k. absurd k) error h

pub bytes_refused : (registry : Registry) (old : State) (line bare : List ℕ) → bare ≡ trimmed line → bare_form bare ≢ Skipped → (IsUtf8 bare → ⊥) →
    (number : ℕ) → number ≡ old.number + 1 → (number ≡ (next_line old line).number) × IsFirstCause registry (next_line old line) NotUtf8
bytes_refused registry old line bare t s u number n =
    (n, not_utf8 registry (next_line old line) (λ e. s (sym (bare_is line bare t) ∙ e)) (λ w. u (subst IsUtf8 (sym t) (bare_utf8 line w))))

-- ## Directives

pub kind_done : (registry : Registry) (old : State) (kind : RelationKind) → IsSound registry old → old.pending ≡ None → HasDone registry old (Directs (OfKind kind)) (record old { pending = Some kind })
kind_done registry old kind s none = record {
  clean = kind_clean registry (before_of old) kind none;
  did = refl;
  sound = record { default = s.default; limit = s.limit; headings = s.headings; queries = s.queries };
}

pub attr_done : (registry : Registry) (old : State) (name : List ℕ) (attr : ℕ) → IsSound registry old → attr ≡ place_of name (attr_names registry.attrs) → attr < length registry.attrs →
    Contains (attr_names registry.attrs) name → HasDone registry old (Directs (DefaultAttr name)) (record old { default = attr })
attr_done registry old name attr s e l there = record {
  clean = attr_clean registry (before_of old) name there;
  did = ap (λ (n : ℕ). record old { default = n }) e;
  sound = record { default = l; limit = s.limit; headings = s.headings; queries = s.queries };
}

limit_is : (kind other : ℕ) → Some kind ≡ Some other → kind ≡ other
limit_is kind other e = cc

pub limit_done : (registry : Registry) (old : State) (name : List ℕ) (kind : ℕ) → IsSound registry old → kind ≡ place_of name (kind_names registry.kinds) → kind < length registry.kinds →
    Contains (kind_names registry.kinds) name → HasDone registry old (Directs (StructLimit name)) (record old { limit = Some kind })
limit_done registry old name kind s e l there = record {
  clean = limit_clean registry (before_of old) name there;
  did = ap (λ (n : ℕ). record old { limit = Some n }) e;
  sound = record { default = s.default; limit = λ other o. subst (λ (n : ℕ). n < length registry.kinds) (limit_is kind other o) l; headings = s.headings; queries = s.queries };
}

-- ## Headings

pub heading_done : (registry : Registry) (old : State) (heading name second : List ℕ) (kind : RelationKind) → IsSound registry old → kind ≡ kind_waiting old.pending → (IsNoHeading kind heading → ⊥) →
    name ≡ name_by kind heading → second ≡ second_by kind heading → (length (relations_in old) ≡ 256 → ⊥) →
    HasDone registry old (Heads heading) (record old { pending = None; done = relations_in old; last = Some (record { kind = kind; name = name; second = second; queries = [] }) })
heading_done registry old heading name second kind s k good n m few =
    let room : length (relations_in old) < headings_limit = let h = s.headings in omega (arith, h, few) in
    let relation : Relation = record { kind = kind; name = name; second = second; queries = [] } in
    let more = more_relations (relations_in old) relation in
    let named : relation ≡ begun kind heading = ap (λ (x : List ℕ). record { kind = kind; name = x; second = second; queries = [] }) n ∙ ap (λ (x : List ℕ). record { kind = kind; name = name_by kind heading; second = x; queries = [] }) m in
    record {
      clean = heading_clean registry (before_of old) heading (subst (λ (x : RelationKind). IsNoHeading x heading → ⊥) k good) room;
      did = ap (λ (r : Relation). record old { pending = None; done = relations_in old; last = Some r }) (named ∙ ap (λ (x : RelationKind). begun x heading) k);
      sound = record { default = s.default; limit = s.limit; headings = omega (arith, more, room); queries = s.queries };
    }

-- ## Queries

pub text_refused : (registry : Registry) (state : State) (text : List ℕ) (kind : RelationKind) (e : GrammarError) → kind_of state.last ≡ Some kind → state.queries < grammar_queries_limit →
    RefusesText registry state text e → RefusesForm registry state (Asks text) e
text_refused registry state text kind error under few h =
    tells_as_well (IsTextFault registry state.default text state.number) (λ number cause. (number ≡ state.number) × IsFormFirst registry (before_of state) (Asks text) cause) ⊥ ⊥
    (λ number cause k. (k.numbered, subst (λ (c : GrammarCause). IsFormFirst registry (before_of state) (Asks text) c) (sym k.is) (refused_first registry (before_of state) text kind k.refusal under few k.means)))
    (λ k. absurd k) error h

pub query_done : OneMeaning → (registry : Registry) (old new : State) (text : List ℕ) (kind : RelationKind) (relation : Relation) (own : Query) → IsSound registry old → old.last ≡ Some relation →
    kind_of old.last ≡ Some kind → (old.queries ≡ 1024 → ⊥) → Means registry old.default text (Ok own) → (LacksLabel kind own → ⊥) →
    new ≡ record old { queries = old.queries + 1; last = Some (with_query relation (limited old.limit own)) } → HasDone registry old (Asks text) new
query_done one registry old new text kind relation own s last under few means has e =
    let room : old.queries < grammar_queries_limit = let h = s.queries in omega (arith, h, few) in
    let x : State = record old { queries = old.queries + 1; last = Some (with_query relation (limited old.limit own)) } in
    let more = more_relations old.done (with_query relation (limited old.limit own)) in
    let here : length (relations_in old) ≡ length old.done + 1 = ap (λ (r : Option Relation). length (relations_in (record old { last = r }))) last ∙ more_relations old.done relation in
    let sound : IsSound registry x = record { default = s.default; limit = s.limit; headings = let h = s.headings in omega (arith, more, here, h); queries = omega (arith, room) } in
    record {
      clean = query_clean one registry (before_of old) text kind own under room means has;
      did = record { relation = relation; under = last; own = own; means = means; is = e };
      sound = subst (λ (n : State). IsSound registry n) (sym e) sound;
    }

-- ## The file

some_attrs : (attrs : List Attr) → 0 < base_count attrs → 0 < length attrs
some_attrs [] l = absurd (omega (arith, l))
some_attrs (attr ∷ attrs) l = omega arith

none_some : (kind : ℕ) → None ≡ Some kind → ⊥
none_some kind e = cc

pub first_sound : (registry : Registry) → ValidRegistry registry → IsSound registry at_first
first_sound registry v = record { default = some_attrs registry.attrs v.some; limit = λ kind e. absurd (none_some kind e); headings = omega arith; queries = omega arith }

pub file_refused : (registry : Registry) (bytes : List ℕ) (old rest : List (List ℕ)) (text : List ℕ) (state : State) (e : GrammarError) → HasRead registry (lines bytes) old state → old ≡ text ∷ rest →
    RefusesLine registry (next_line state text) e → IsRefusal registry bytes e
file_refused registry bytes old rest text state error h e r =
    tells_as_well (λ number cause. (number ≡ state.number + 1) × IsFirstCause registry (next_line state text) cause) (FirstGrammarFault registry bytes) ⊥ (LacksRelation registry bytes) (λ number cause k. fault_is registry bytes old rest text state number cause h e k.0 k.1) (λ k. absurd k) error r

pub end_refused : (registry : Registry) (bytes : List ℕ) (state : State) (e : GrammarError) → HasRead registry (lines bytes) [] state → IsUnended state e → IsRefusal registry bytes e
end_refused registry bytes state error h r = tells_as_well (λ number cause. ⊥) (FirstGrammarFault registry bytes) (state.last ≡ None) (LacksRelation registry bytes) (λ number cause k. absurd k) (λ none. none_is registry bytes state h none) error r

-- ## What answers cite

pub directive_told : (registry : Registry) (state : State) (d : RustDirective) (said : Directive) (cause : LineCause) (e : GrammarError) → directive_seen d ≡ said → e ≡ error.Line state.number cause →
    IsFormFirst registry (before_of state) (Directs said) (line_cause_seen cause) → RefusesForm registry state (Directs (directive_seen d)) e
directive_told registry state d said cause error s e h = subst (λ (x : Directive). RefusesForm registry state (Directs x) error) (sym s) (told registry state (Directs said) cause error e h)

mapped_some : {K : Type 0} (f : K → RelationKind) (p : Option K) (x : K) → p ≡ Some x → option_map f p ≡ None → ⊥
mapped_some f p x e n = let s : option_map f p ≡ Some (f x) = ap (option_map f) e in cc

pub waits : {K : Type 0} (f : K → RelationKind) (p : Option K) (q : Option RelationKind) (x : K) → option_map f p ≡ q → p ≡ Some x → q ≢ None
waits f p q x v e n = mapped_some f p x e (v ∙ n)

pub if_none : {X : Type 0} (r : Option X) (P : Type 0) → r ≡ None → IfNone r P → P
if_none None P e h = h
if_none (Some x) P e h = cc

pub last_of : (o : Option Relation) (kind : RelationKind) → kind_of o ≡ Some kind → (relation : Relation) × (o ≡ Some relation)
last_of None kind e = cc
last_of (Some relation) kind e = (relation, refl)

pub on_ok : {X E : Type 0} (r : Result X E) (A B : Type 0) → (A → B) → OnOk r A → OnOk r B
on_ok (Ok x) A B f h = f h
on_ok (Err e) A B f h = tt

pub if_err : {X E : Type 0} (r : Result X E) (A B : E → Type 0) → ((e : E) → A e → B e) → IfErr r A → IfErr r B
if_err (Ok x) A B f h = tt
if_err (Err e) A B f h = f e h

some_of : (o : Option Relation) → is_some o ≡ true → (relation : Relation) × (o ≡ Some relation)
some_of None e = cc
some_of (Some relation) e = (relation, refl)

pub ended : {E : Type 0} (registry : Registry) (bytes : List ℕ) (rest : List (List ℕ)) (state : State) (r : Result Grammar E) → HasRead registry (lines bytes) rest state → rest ≡ [] →
    IfOk r (λ grammar. grammar.relations ≡ relations_in state) → IfOk r (λ grammar. is_some state.last ≡ true) → IfOk r (λ grammar. ReadsGrammar registry bytes grammar)
ended registry bytes rest state (Ok grammar) h e a s =
    let w = some_of state.last s in
    grammar_is registry bytes state w.0 grammar (subst (λ (ls : List (List ℕ)). HasRead registry (lines bytes) ls state) e h) w.1 a
ended registry bytes rest state (Err error) h e a s = tt
