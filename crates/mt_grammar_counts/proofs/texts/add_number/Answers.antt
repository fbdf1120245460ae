use Rattle.mt_grammar_counts.proofs.texts.add_number.Goals as goal

pub add_text-requires-clause-text : goal.add_text-requires-clause-text
add_text-requires-clause-text g c = λ lifetimes outlive. record { under = c.requires.under; within = c.requires.number; alone = c.in_ok-list_alone.ensures }
