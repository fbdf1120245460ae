use Rattle.std.proofs.Common.{◌≡◌}
use Rattle.std.proofs.lemmas.Result.{IfOk-weaker}
use Rattle.mt_generate_tables.specs.Joined.{tables_of}
use Rattle.mt_generate_tables.proofs.Text.{parts_are}
use Rattle.mt_generate_tables.proofs.segment.of_columns.Goals as goal

pub of_tables-requires : goal.of_tables-requires
of_tables-requires c = (
  tables_of c.args.texts c.args.structs c.args.columns.word c.args.columns.tag c.args.columns.lemma,
  c.requires,
  parts_are c.args.texts c.args.structs c.args.columns.word c.args.columns.tag c.args.columns.lemma _ _ _ _ _ _ _ _ _ c.in_ok-lexicons.lexicons c.in_ok-columns.columns c.new.result c.in_ok-postings.postings
      c.word.view_is c.tag.view_is c.lemma.view_is c.in_ok-lexicons.ensures c.in_ok-columns.ensures c.new.ensures c.in_ok-postings.ensures,
)

pub returns : goal.returns
returns c =
    let all = tables_of c.args.texts c.args.structs c.args.columns.word c.args.columns.tag c.args.columns.lemma in
    let parts = parts_are c.args.texts c.args.structs c.args.columns.word c.args.columns.tag c.args.columns.lemma _ _ _ _ _ _ _ _ _ c.in_ok-lexicons.lexicons c.in_ok-columns.columns c.new.result c.in_ok-postings.postings
    c.word.view_is c.tag.view_is c.lemma.view_is c.in_ok-lexicons.ensures c.in_ok-columns.ensures c.new.ensures c.in_ok-postings.ensures in
    IfOk-weaker c.of_tables.result _ (λ segment. segment ≡ all) (λ segment told. told all c.requires parts) c.of_tables.ensures
