use Rattle.mt_prepare.proofs.known_pattern.KnownPattern.own_number.Goals as goal

pub returns : goal.returns
returns g c = rw (← c.self.view_is) c.own_number.ensures
