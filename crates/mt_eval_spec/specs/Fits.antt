-- Which queries can be asked of texts under a registry.
use Rattle.mt_text_spec.specs.Registries.{Registry}
use Rattle.mt_text_spec.specs.Queries.{Query}
use Rattle.mt_query_spec.specs.Valid.{ValidExpr, ValidFilters, ValidConds}

-- A query fits a registry where what it names is declared and its labels and ranges are in order. A valid query fits. One that fits may be of any size, as a query of a
-- sketch grammar with the structure that limits it.
pub record Fits (registry : Registry) (query : Query) : Type 0 where
  pub head : ValidExpr registry query.head
  pub filters : ValidFilters registry query.filters
  pub conds : ValidConds registry query.head query.conds
