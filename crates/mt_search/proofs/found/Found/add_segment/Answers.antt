use Rattle.std.proofs.Common.{rules, ℕ, List, ◌+◌, ◌++◌, map, Err, IsErrOf, sym, ◌∙◌, ap, subst}
use Rattle.std.specs.List.{All, Contains}
use Rattle.mt_text_spec.specs.Registries.{Registry}
use Rattle.mt_text_spec.specs.Texts.{Text}
use Rattle.mt_match_spec.specs.Values.{Images}
use Rattle.mt_rows.specs.declared.error.EvalError.{EvalError}
use Rattle.mt_rows.specs.declared.error.EvalError.TheVariants.{TooManyRows}
use Rattle.mt_eval_spec.specs.RowsIn.{heads}
use Rattle.mt_corpus_spec.specs.Groups.{Group, live_texts}
use Rattle.mt_corpus_laws.specs.Joined.{SomeHasTooMany, placed}
use Rattle.mt_search.specs.Finds.{Finds, IsNext}
use Rattle.mt_search.proofs.Finding.{found_more, listed_in, passes_limit}
use Rattle.mt_search.proofs.Order.{order_more}
use Rattle.mt_search.proofs.Taken.{only_found, taken}
use Rattle.mt_search.proofs.found.Found.add_segment.Goals as goal

pub returns-in_err-rows-clause-too_many : goal.returns-in_err-rows-clause-too_many
returns-in_err-rows-clause-too_many g c =
    let T = c.args.segment.now in
    let Q = c.args.query.now in
    let k : (images : Images) (registry : Registry) (corpus : List Text) (group : Group) → IsNext images registry Q group T c.args.live.now → Finds images registry corpus Q c.args.self.now.rows c.args.self.now.rooms c.args.self.now.texts →
    IsErrOf {E = EvalError} (Err c.in_err-rows.field-0.0) TooManyRows → SomeHasTooMany images registry (corpus ++ live_texts group) (heads Q) =
    λ images registry corpus group next finds h.
    passes_limit images registry corpus Q group T c.args.live.now next c.args.self.now.rows c.args.self.now.rooms c.args.self.now.texts finds c.rows_are_joined.ensures (c.in_err-rows.ensures.too_many h) in
    search (rules, k)

pub add_placed-requires-clause-listed : goal.add_placed-requires-clause-listed
add_placed-requires-clause-listed g c =
    subst (λ (ns : List ℕ). All (λ row. Contains ns row.span.text) c.in_ok-rows.rows) (sym c.as_slice.ensures) (listed_in c.args.segment.now c.args.live.now c.args.query.now c.in_ok-rows.rows c.in_ok-rows.ensures.kept)

pub returns-clause-order : goal.returns-clause-order
returns-clause-order g c =
    order_more c.args.self.now.rows c.add_placed.new.rows c.in_ok-rows.rows c.args.live.now c.as_slice.result.now c.args.self.now.texts c.len.result c.in_ok-texts.texts c.requires.order c.in_ok-rows.ensures.kept.ascending
    c.requires.live.ascending (listed_in c.args.segment.now c.args.live.now c.args.query.now c.in_ok-rows.rows c.in_ok-rows.ensures.kept) c.as_slice.ensures c.len.ensures c.in_ok-texts.ensures.number c.in_ok-add_placed.ensures

pub returns-clause-finds : goal.returns-clause-finds
returns-clause-finds g c = λ images registry corpus group next finds.
    found_more images registry corpus c.args.query.now group c.args.segment.now c.args.live.now next c.args.self.now.rows c.args.self.now.rooms c.args.self.now.texts finds c.kept_are_joined.ensures c.rows_are_joined.ensures c.live_texts_are_numbered.ensures
    c.in_ok-rows.rows c.add_placed.new.rows c.eval.new.rooms c.in_ok-texts.texts c.in_ok-rows.ensures.kept c.in_ok-rows.ensures.rooms
    (c.in_ok-add_placed.ensures ∙ ap (λ (ns : List ℕ). c.args.self.now.rows ++ map (placed c.args.self.now.texts ns) c.in_ok-rows.rows) c.as_slice.ensures)
    (c.in_ok-texts.ensures.number ∙ ap (λ (n : ℕ). c.args.self.now.texts + n) c.len.ensures)

pub returns-in_err-prepared-clause-takes : goal.returns-in_err-prepared-clause-takes
returns-in_err-prepared-clause-takes g c = λ plain. only_found c.args.segment.now c.args.query.now c.args.steps.now c.prepare.new.steps c.prepare.ensures.rises (c.prepare.ensures.finds plain)

pub returns-in_err-rows-clause-takes : goal.returns-in_err-rows-clause-takes
returns-in_err-rows-clause-takes g c = λ plain.
    taken c.args.segment.now c.args.query.now c.args.steps.now c.prepare.new.steps c.eval.new.steps c.prepare.ensures.rises c.eval.ensures.rises (c.prepare.ensures.finds plain) (c.eval.ensures.few plain)

pub returns-in_err-texts-clause-takes : goal.returns-in_err-texts-clause-takes
returns-in_err-texts-clause-takes g c = λ plain.
    taken c.args.segment.now c.args.query.now c.args.steps.now c.prepare.new.steps c.eval.new.steps c.prepare.ensures.rises c.eval.ensures.rises (c.prepare.ensures.finds plain) (c.eval.ensures.few plain)

pub returns-in_err-add_placed-clause-takes : goal.returns-in_err-add_placed-clause-takes
returns-in_err-add_placed-clause-takes g c = λ plain.
    taken c.args.segment.now c.args.query.now c.args.steps.now c.prepare.new.steps c.eval.new.steps c.prepare.ensures.rises c.eval.ensures.rises (c.prepare.ensures.finds plain) (c.eval.ensures.few plain)

pub returns-clause-takes : goal.returns-clause-takes
returns-clause-takes g c = λ plain.
    taken c.args.segment.now c.args.query.now c.args.steps.now c.prepare.new.steps c.eval.new.steps c.prepare.ensures.rises c.eval.ensures.rises (c.prepare.ensures.finds plain) (c.eval.ensures.few plain)

pub eval-requires-clause-known : goal.eval-requires-clause-known
eval-requires-clause-known g c = c.new.ensures.known c.args.segment.now
