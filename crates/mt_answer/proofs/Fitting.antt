-- A valid query fits its registry.
use Rattle.mt_text_spec.specs.Registries.{Registry}
use Rattle.mt_text_spec.specs.Queries.{Query}
use Rattle.mt_query_spec.specs.Valid.{ValidQuery}
use Rattle.mt_eval_spec.specs.Fits.{Fits}

pub valid_fits : (registry : Registry) (query : Query) → ValidQuery registry query → Fits registry query
valid_fits registry query valid = record { head = valid.head; filters = valid.filters; conds = valid.conds }
