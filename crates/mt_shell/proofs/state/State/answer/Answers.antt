use Rattle.mt_script.specs.Seen.{ask_of}
use Rattle.mt_shell.proofs.Asking.{asks_starved}
use Rattle.mt_shell.proofs.state.State.answer.Goals as goal

pub returns-in_default-clause-means : goal.returns-in_default-clause-means
returns-in_default-clause-means g c = rw c.prepare_for.ensures (asks_starved g.setting c.args.self.now.held (ask_of c.args.ask.now) (g.P.PatternShop.refused c.args.shop.now))

pub answer_prepared-requires-sync-R : goal.answer_prepared-requires-sync-R
answer_prepared-requires-sync-R g c = λ κs h. (h.0, (h.1.0, (h.1.1, (c.requires.1.1.1.0, rw c.prepare_for.ensures c.requires.1.1.1.1))))
