use Rattle.std.proofs.lemmas.Bool.{eqb-true}
use Rattle.mt_vertical.proofs.attrs.read_to_quote.Goals as goal
use Rattle.mt_vertical.proofs.Runs.{quote_found, quote_not_found}
use Rattle.mt_vertical.proofs.Utf8.{cut_before_byte, cut_behind_byte}

pub split_at-requires : goal.split_at-requires
split_at-requires c = cut_before_byte _ _ c.in-Some.at c.args.quote c.as_bytes.ensures.value c.in-Some.ensures.0.high (eqb-true _ _ c.in-Some.ensures.1) c.requires

pub split_at-requires-in-Some : goal.split_at-requires-in-Some
split_at-requires-in-Some c = cut_behind_byte _ _ c.in-Some.at c.args.quote c.utf8.text c.as_bytes.ensures.value c.in-Some.ensures.0.high (eqb-true _ _ c.in-Some.ensures.1) c.requires

pub returns-in-Some : goal.returns-in-Some
returns-in-Some c = quote_found c.args.quote _ _ _ _ c.in-Some.at c.as_bytes.ensures.value c.in-Some.ensures.0 c.in-Some.ensures.1 c.split_at.ensures.front c.split_at-in-Some.ensures.back

pub returns-in-None : goal.returns-in-None
returns-in-None c = quote_not_found c.args.quote _ _ c.as_bytes.ensures.value c.in-None.ensures
