-- A ledger for this query alone.
use Rattle.mt_spans.proofs.show.show_query.Given as goal

abbrev pub ghosts-rows : goal.ghosts-rows
ghosts-rows a = record { name = a.blank.name; parts = a.blank.parts }
