use Rattle.std.proofs.lemmas.List.{take_rest}
use Rattle.mt_script.proofs.Finding.{line_none, line_some}
use Rattle.mt_script.proofs.lines.line_end.Goals as goal

pub returns-in-None-clause-found : goal.returns-in-None-clause-found
returns-in-None-clause-found c = line_none c.args.bytes.now _ c.args.line c.args.scanned c.requires (take_rest c.args.bytes.now c.args.scanned) c.in-None.ensures

pub returns-in-Some-clause-found : goal.returns-in-Some-clause-found
returns-in-Some-clause-found c = line_some c.args.bytes.now _ c.args.line c.args.scanned c.in-Some.at c.requires (take_rest c.args.bytes.now c.args.scanned) c.in-Some.ensures.0 c.in-Some.ensures.1
