use Rattle.std.proofs.Common.{length, sym, ap, ◌∙◌}
use Rattle.std.proofs.lemmas.Result.{on_ok_weaker}
use Rattle.mt_grammar.specs.Seen.{kind_seen}
use Rattle.mt_counts.specs.Tables.{text_at}
use Rattle.mt_instances.proofs.Known.{gathered_more, text_is}
use Rattle.mt_instances.proofs.ByKind.{gains_plain, gains_dual, gains_symmetric, gains_trinary, gains_unary}
use Rattle.mt_instances.proofs.gathering.add_row.Goals as goal

pub returns-in-Plain-clause-gathered : goal.returns-in-Plain-clause-gathered
returns-in-Plain-clause-gathered c =
    gathered_more c.args.words.now.lexicon.now c.args.words.now.numbers.now c.args.gathered.now c.add_pair.new.instances c.add_pair.ensures.names (c.add_pair.ensures.lies (length c.args.words.now.numbers.now) c.requires.labels) c.requires.gathered

pub returns-in-Plain-clause-given : goal.returns-in-Plain-clause-given
returns-in-Plain-clause-given c =
    let names = c.args.gathered.now.instances.names in
    let heading = c.args.heading in
    on_ok_weaker c.add_pair.result
    (λ g relation images registry text h told. gains_plain images registry text relation c.args.row.now c.args.gathered.now.instances.given c.add_pair.new.instances.given (sym (ap kind_seen c.in-Plain.is) ∙ h.kind) (text_at names heading.name) (text_is names heading.name relation.name h.name) g)
    c.add_pair.ensures.given

pub returns-in-Dual-clause-gathered : goal.returns-in-Dual-clause-gathered
returns-in-Dual-clause-gathered c =
    gathered_more c.args.words.now.lexicon.now c.args.words.now.numbers.now c.args.gathered.now c.add_both.new.instances c.add_both.ensures.names (c.add_both.ensures.lies (length c.args.words.now.numbers.now) c.requires.labels) c.requires.gathered

pub returns-in-Dual-clause-given : goal.returns-in-Dual-clause-given
returns-in-Dual-clause-given c =
    let names = c.args.gathered.now.instances.names in
    let heading = c.args.heading in
    on_ok_weaker c.add_both.result
    (λ g relation images registry text h told. let e = sym (ap kind_seen c.in-Dual.is) ∙ h.kind in gains_dual images registry text relation c.args.row.now c.args.gathered.now.instances.given c.add_both.new.instances.given e (text_at names heading.name) (text_at names heading.second)
    (text_is names heading.name relation.name h.name) (text_is names heading.second relation.second (h.second (sym e))) g)
    c.add_both.ensures.given

pub returns-in-Symmetric-clause-gathered : goal.returns-in-Symmetric-clause-gathered
returns-in-Symmetric-clause-gathered c =
    gathered_more c.args.words.now.lexicon.now c.args.words.now.numbers.now c.args.gathered.now c.add_both-in-Symmetric.new.instances c.add_both-in-Symmetric.ensures.names (c.add_both-in-Symmetric.ensures.lies (length c.args.words.now.numbers.now) c.requires.labels) c.requires.gathered

pub returns-in-Symmetric-clause-given : goal.returns-in-Symmetric-clause-given
returns-in-Symmetric-clause-given c =
    let names = c.args.gathered.now.instances.names in
    let heading = c.args.heading in
    on_ok_weaker c.add_both-in-Symmetric.result
    (λ g relation images registry text h told. gains_symmetric images registry text relation c.args.row.now c.args.gathered.now.instances.given c.add_both-in-Symmetric.new.instances.given (sym (ap kind_seen c.in-Symmetric.is) ∙ h.kind) (text_at names heading.name) (text_is names heading.name relation.name h.name) g)
    c.add_both-in-Symmetric.ensures.given

pub returns-in-Unary-clause-gathered : goal.returns-in-Unary-clause-gathered
returns-in-Unary-clause-gathered c =
    gathered_more c.args.words.now.lexicon.now c.args.words.now.numbers.now c.args.gathered.now c.add_one.new.instances c.add_one.ensures.names (c.add_one.ensures.lies (length c.args.words.now.numbers.now) c.requires.labels) c.requires.gathered

pub returns-in-Unary-clause-given : goal.returns-in-Unary-clause-given
returns-in-Unary-clause-given c =
    let names = c.args.gathered.now.instances.names in
    let heading = c.args.heading in
    on_ok_weaker c.add_one.result
    (λ g relation images registry text h told. gains_unary images registry text relation c.args.row.now c.args.gathered.now.instances.given c.add_one.new.instances.given (sym (ap kind_seen c.in-Unary.is) ∙ h.kind) (text_at names heading.name) (text_is names heading.name relation.name h.name) g)
    c.add_one.ensures.given

pub returns-in-Trinary-clause-given : goal.returns-in-Trinary-clause-given
returns-in-Trinary-clause-given c =
    let names = c.args.gathered.now.instances.names in
    let heading = c.args.heading in
    on_ok_weaker c.add_filled.result
    (λ g relation images registry text h told. gains_trinary images registry text relation c.args.row.now c.args.gathered.now.instances.given c.add_filled.new.gathered.instances.given (sym (ap kind_seen c.in-Trinary.is) ∙ h.kind) (text_at names heading.name) (text_is names heading.name relation.name h.name)
    c.args.words.now.lexicon.now c.args.words.now.numbers.now c.requires.labels told g)
    c.add_filled.ensures.given
