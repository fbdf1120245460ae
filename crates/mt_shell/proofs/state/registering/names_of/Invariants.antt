-- The names of the mappers so far.
use Rattle.std.proofs.Common.{◌≡◌, map, take}
use Rattle.mt_shell.proofs.state.registering.names_of.Given as goal

abbrev pub invariant-loop-mapper : goal.invariant-loop-mapper
invariant-loop-mapper g l = l.names ≡ map g.M.Mapper.called (take l.mapper-index l.mappers)
