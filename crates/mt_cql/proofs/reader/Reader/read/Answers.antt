use Rattle.std.proofs.Common.{arith, sym, ◌∙◌, ap, subst, Err, length}
use Rattle.mt_query_spec.specs.Tokens.{tokens_of, tokens_from}
use Rattle.mt_query_laws.specs.Reading.{read}
use Rattle.mt_cql.specs.Read.{Said}
use Rattle.mt_cql.specs.Seen.{token_seen, unlexed_seen}
use Rattle.mt_cql.specs.StateSeen.{state_seen, next}
use Rattle.mt_cql.proofs.TextLaws.{begins, ended, stopped, stuck_at, stepped}
use Rattle.mt_cql.proofs.reader.Reader.read.Goals as goal

pub loop-state-init : goal.loop-state-init
loop-state-init c = (
  c.utf8.text,
  begins c.args.self.now.registry.now c.args.self.now.default (state_seen c.start-state.result) (tokens_of c.args.text.now) (length c.args.text.now) c.start-state.ensures,
  omega arith,
)

pub returns-in-End : goal.returns-in-End
returns-in-End c =
    subst (λ x. Said c.finish.result x)
    (ended c.args.self.now.registry.now c.args.self.now.default (state_seen c.loop-state.state) (tokens_from c.loop-state.at 0 c.loop-state.rest.now) (length c.args.text.now)
    (read c.args.self.now.registry.now c.args.self.now.default (tokens_of c.args.text.now) (length c.args.text.now)) c.in-End.ensures.next c.loop-state.invariant.1)
    c.finish.ensures

pub returns-in-Bad : goal.returns-in-Bad
returns-in-Bad c =
    subst (λ x. Said (Err c.unlexed.result) x)
    (sym (stopped c.args.self.now.registry.now c.args.self.now.default (state_seen c.loop-state.state) (tokens_from c.loop-state.at 0 c.loop-state.rest.now) (length c.args.text.now)
    c.in-Bad.at (unlexed_seen c.in-Bad.why)
    (read c.args.self.now.registry.now c.args.self.now.default (tokens_of c.args.text.now) (length c.args.text.now)) c.in-Bad.ensures.next c.loop-state.invariant.1))
    c.unlexed.ensures

pub returns-then-not-goes : goal.returns-then-not-goes
returns-then-not-goes c =
    stuck_at c.args.self.now.registry.now c.args.self.now.default (state_seen c.loop-state.state) (tokens_from c.loop-state.at 0 c.loop-state.rest.now)
    (tokens_from c.in-Token.end 0 c.in-Token.behind.now) (length c.args.text.now) c.in-Token.place (token_seen c.in-Token.token)
    (read c.args.self.now.registry.now c.args.self.now.default (tokens_of c.args.text.now) (length c.args.text.now)) c.in-Token.ensures.next
    (sym c.in-Ok.ensures ∙ ap (λ goes. next goes c.step.new.state) c.if-not-goes.true) c.loop-state.invariant.1

pub loop-state-preserved : goal.loop-state-preserved
loop-state-preserved c = (
  c.in-Token.ensures.place.2,
  stepped c.args.self.now.registry.now c.args.self.now.default (state_seen c.loop-state.state) (state_seen c.step.new.state) (tokens_from c.loop-state.at 0 c.loop-state.rest.now)
      (tokens_from c.in-Token.end 0 c.in-Token.behind.now) (length c.args.text.now) c.in-Token.place (token_seen c.in-Token.token)
      (read c.args.self.now.registry.now c.args.self.now.default (tokens_of c.args.text.now) (length c.args.text.now)) c.in-Token.ensures.next
      (sym c.in-Ok.ensures ∙ ap (λ goes. next goes c.step.new.state) c.if-not-goes.false) c.loop-state.invariant.1,
  c.in-Token.ensures.place.0 ∙ c.loop-state.invariant.2,
)
