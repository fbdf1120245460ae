use Rattle.std.proofs.Common.{◌+◌, ◌<◌, ◌≤◌, ◌∙◌, ℕ, Option, sym, ap, arith, Some}
use Rattle.std.specs.Prelude.{option_map}
use Rattle.std.proofs.lemmas.Result.{err_from_is_err_and}
use Rattle.mt_text_spec.specs.Queries.{Query}
use Rattle.mt_grammar_spec.specs.GrammarLines.{Asks}
use Rattle.mt_grammar_spec.specs.ReadGrammar.{limited}
use Rattle.mt_grammar.specs.declared.error.LineCause.TheVariants as cause
use Rattle.mt_grammar.specs.Reading.{State, before_of, with_query}
use Rattle.mt_grammar.specs.Seen.{kind_seen}
use Rattle.mt_grammar.proofs.Causes.{above_first, many_queries_first, unlabelled_first}
use Rattle.mt_grammar.proofs.Taken.{told, text_refused, query_done, last_of}
use Rattle.mt_grammar.proofs.reader.Reader.ask.Goals as goal

pub returns-in_default-clause-err : goal.returns-in_default-clause-err
returns-in_default-clause-err c =
    told c.args.registry.now c.args.self.now (Asks c.args.text.now) cause.NoHeading c.refused.result c.refused.ensures
    (above_first c.args.registry.now (before_of c.args.self.now) c.args.text.now (sym c.under.ensures ∙ ap (option_map kind_seen) c.in_default.is))

pub returns-then-self-eq-QUERIES_LIMIT-clause-err : goal.returns-then-self-eq-QUERIES_LIMIT-clause-err
returns-then-self-eq-QUERIES_LIMIT-clause-err c =
    let many : 1024 ≤ c.args.self.now.queries = let q = ap (λ (s : State). s.queries) c.self.view_is in let t = c.if-self-eq-QUERIES_LIMIT.true in omega (arith, q, t) in
    told c.args.registry.now c.args.self.now (Asks c.args.text.now) cause.TooMany c.refused-then-self-eq-QUERIES_LIMIT.result c.refused-then-self-eq-QUERIES_LIMIT.ensures
    (many_queries_first c.args.registry.now (before_of c.args.self.now) c.args.text.now (kind_seen c.in-Some.kind) (sym c.under.ensures ∙ ap (option_map kind_seen) c.in-Some.is) many)

pub returns-in_err-query-clause-err : goal.returns-in_err-query-clause-err
returns-in_err-query-clause-err c =
    let room : c.args.self.now.queries < 1024 =
    let q = ap (λ (s : State). s.queries) c.self.view_is in let l = c.requires.sound.queries in let n = c.if-self-eq-QUERIES_LIMIT.false in omega (arith, q, l, n) in
    let p = err_from_is_err_and c.from_residual.result c.from_residual.ensures.1 in
    rw (p.1, p.2)
    (text_refused c.args.registry.now c.args.self.now c.args.text.now (kind_seen c.in-Some.kind) c.in_err-query.field-0.0 (sym c.under.ensures ∙ ap (option_map kind_seen) c.in-Some.is) room c.in_err-query.ensures.err)

pub returns-then-lacks_label-clause-err : goal.returns-then-lacks_label-clause-err
returns-then-lacks_label-clause-err c =
    let room : c.args.self.now.queries < 1024 =
    let q = ap (λ (s : State). s.queries) c.self.view_is in let l = c.requires.sound.queries in let n = c.if-self-eq-QUERIES_LIMIT.false in omega (arith, q, l, n) in
    told c.args.registry.now c.args.self.now (Asks c.args.text.now) cause.Label c.refused-then-lacks_label.result c.refused-then-lacks_label.ensures
    (unlabelled_first c.one_meaning.ensures c.args.registry.now (before_of c.args.self.now) c.args.text.now (kind_seen c.in-Some.kind) c.in_ok-query.query (sym c.under.ensures ∙ ap (option_map kind_seen) c.in-Some.is) room
    c.in_ok-query.ensures.ok (c.lacks_label.ensures.0 c.if-lacks_label.true))

pub returns-clause-ok : goal.returns-clause-ok
returns-clause-ok c =
    let under = sym c.under.ensures ∙ ap (option_map kind_seen) c.in-Some.is in
    let r = last_of c.args.self.now.last (kind_seen c.in-Some.kind) under in
    let limit = ap (λ (s : State). s.limit) c.self.view_is in
    query_done c.one_meaning.ensures c.args.registry.now c.args.self.now c.add.new.self c.args.text.now (kind_seen c.in-Some.kind) r.0 c.in_ok-query.query c.requires.sound r.1 under
    (λ x. c.if-self-eq-QUERIES_LIMIT.false (ap (λ (s : State). s.queries) c.self.view_is ∙ x)) c.in_ok-query.ensures.ok
    (λ h. let t = c.lacks_label.ensures.1 h in let f = c.if-lacks_label.false in let x : ⊥ = cc in x)
    (c.in_ok-add.ensures r.0 r.1 ∙ ap (λ (q : Query). record c.args.self.now { queries = c.args.self.now.queries + 1; last = Some (with_query r.0 q) })
    (c.in_ok-query-2.ensures ∙ ap (λ (o : Option ℕ). limited o c.in_ok-query.query) limit))
