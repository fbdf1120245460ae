use Rattle.mt_text_spec.specs.Registries.{ValidKind}
use Rattle.mt_grammar.proofs.Named.{found_place, found_within, found_there, named_utf8, all_named}
use Rattle.mt_grammar.proofs.names.find_kind.Goals as goal

pub returns-in-Ok-clause-found : goal.returns-in-Ok-clause-found
returns-in-Ok-clause-found c = found_place _ _ _ _ c.requires.distinct_kinds c.in-Ok.ensures.cases.0 c.find_kind.ensures.found

pub returns-in-Ok-clause-declared : goal.returns-in-Ok-clause-declared
returns-in-Ok-clause-declared c = found_within _ _ _ _ c.find_kind.ensures.found

pub returns-in-Ok-clause-there : goal.returns-in-Ok-clause-there
returns-in-Ok-clause-there c = found_there _ _ _ _ c.in-Ok.ensures.cases.0 c.find_kind.ensures.found

pub returns-in-Err-clause-none : goal.returns-in-Err-clause-none
returns-in-Err-clause-none c = λ there. c.in-Err.ensures.cases.0 (named_utf8 _ _ (all_named ValidKind _ _ c.requires.kinds (λ x h. h.named)) there)
