use Rattle.std.proofs.Common.{◌∙◌, sym}
use Rattle.mt_vertical.proofs.attrs.read_quoted.Goals as goal
use Rattle.mt_vertical.proofs.Utf8.{cut_first, quote_small}

pub split_at-requires : goal.split_at-requires
split_at-requires c = cut_first _ _ c.in_ok-quote.quote.now c.utf8.text c.as_bytes.ensures.value c.in_ok-quote.ensures.value
    (quote_small c.in_ok-quote.quote.now (sym c.is_quote_mark.ensures ∙ c.if-is_quote_mark.true))

pub read_to_quote-requires : goal.read_to_quote-requires
read_to_quote-requires c = quote_small c.in_ok-quote.quote.now (sym c.is_quote_mark.ensures ∙ c.if-is_quote_mark.true)
