use Rattle.mt_counts.proofs.Lists.{heads_exact, places_within}
use Rattle.mt_counts.proofs.tables.Tables.heads.Goals as goal

pub add_heads-requires-clause-places : goal.add_heads-requires-clause-places
add_heads-requires-clause-places c = places_within c.args.self.now.rows c.args.word c.in_ok-rows.rows.items c.as_slice.result.now c.in_ok-rows.ensures c.as_slice.ensures.value

pub add_heads-requires-clause-names : goal.add_heads-requires-clause-names
add_heads-requires-clause-names c = λ key place at. (c.requires.inside.rows key place at).1

pub add_heads-requires-2-clause-places : goal.add_heads-requires-2-clause-places
add_heads-requires-2-clause-places c = places_within c.args.self.now.alone c.args.word c.in_ok-alone.alone.items c.as_slice-2.result.now c.in_ok-alone.ensures c.as_slice-2.ensures.value

pub add_heads-requires-2-clause-names : goal.add_heads-requires-2-clause-names
add_heads-requires-2-clause-names c = λ key place at. (c.requires.inside.alone key place at).1

pub returns : goal.returns
returns c = let all = heads_exact c.args.self.now c.args.word c.in_ok-rows.rows.items c.in_ok-alone.alone.items c.requires.inside c.requires.word c.len-3.ensures.once c.len-4.ensures.once c.len.ensures.distinct c.len-2.ensures.distinct c.in_ok-rows.ensures c.in_ok-alone.ensures in rw (c.in_ok-add_heads-2.ensures, c.in_ok-add_heads.ensures, c.new-heads.ensures, c.as_slice.ensures.value, c.as_slice-2.ensures.value) all
