use Rattle.mt_shell.specs.Holding.{grammar_of}
use Rattle.mt_shell.proofs.Holding.{some_images}
use Rattle.mt_shell.proofs.state.State.remove_counted.Goals as goal

pub remove-requires-clause-images : goal.remove-requires-clause-images
remove-requires-clause-images g c = λ lifetimes outlive. some_images g.setting c.args.self.now c.self.inside.accepted (grammar_of c.self.inside.rules) c.self.inside.corpus c.self.view_is c.requires.1.1.1.1.1
