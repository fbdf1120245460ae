use Rattle.mt_grammar_counts.proofs.GroupLists.{all_fit, all_for}
use Rattle.mt_grammar_counts.proofs.segments.add_ready.Goals as goal

pub prepare_all-requires-clause-queries : goal.prepare_all-requires-clause-queries
prepare_all-requires-clause-queries g c =
    let e = c.grammar_queries_are_in_order.ensures in
    all_for c.args.registry.now c.args.segment.now c.args.grammar.now c.requires.under (all_fit (record { head = e.head; filters = e.filters; conds = e.conds }) c.args.registry.now c.args.grammar.now c.requires.grammar)

pub add_texts-requires-clause-fit : goal.add_texts-requires-clause-fit
add_texts-requires-clause-fit g c = λ lifetimes outlive.
    let e = c.grammar_queries_are_in_order.ensures in
    all_fit (record { head = e.head; filters = e.filters; conds = e.conds }) c.args.registry.now c.args.grammar.now c.requires.grammar

pub add_texts-requires-clause-rows : goal.add_texts-requires-clause-rows
add_texts-requires-clause-rows g c = λ lifetimes outlive. c.turn.ensures.known c.args.segment.now
