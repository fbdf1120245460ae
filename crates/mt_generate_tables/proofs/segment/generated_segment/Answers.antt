use Rattle.std.proofs.Common.{ℕ, List, [], ◌∷◌, ◌++◌, ◌∙◌, ap, sym, subst, arith}
use Rattle.std.proofs.lemmas.Result.{IfOk-weaker}
use Rattle.mt_text_spec.specs.Texts.{Token}
use Rattle.mt_generate_spec.specs.Generated.{generated_text}
use Rattle.mt_segment_spec.specs.Tables.{AreTablesOf}
use Rattle.mt_generate_tables.specs.Joined.{AreColumnTables}
use Rattle.mt_generate_tables.proofs.Text.{are_its, valid_alone}
use Rattle.mt_generate_tables.proofs.segment.generated_segment.Goals as goal

pub of_columns-requires : goal.of_columns-requires
of_columns-requires g c =
    let text = generated_text c.args.name c.args.seed c.args.tokens in
    let heads = c.in_ok-push.ensures.ok ∙ ap (λ texts. texts ++ (c.args.name, c.args.tokens) ∷ []) c.in_ok-texts.ensures in
    let tables = subst (λ (tokens : List Token). AreColumnTables tokens c.in_ok-columns.columns.word c.in_ok-columns.columns.tag c.in_ok-columns.columns.lemma) c.in_ok-draws.ensures c.in_ok-columns.ensures.columns in
    record {
      images = λ name value. value;
      by = record {
        valid = c.requires.registry;
        corpus = text ∷ [];
        texts = valid_alone c.args.registry.now text c.requires.text;
        some = omega arith;
        are = rw c.requires.standard (are_its (λ name value. value) c.args.name c.args.seed c.args.tokens c.in_ok-columns.columns.word c.in_ok-columns.columns.tag c.in_ok-columns.columns.lemma c.push.new.self c.in_ok-columns.structs heads
            c.in_ok-columns.ensures.structs tables);
      };
    }

pub returns : goal.returns
returns g c =
    let text = generated_text c.args.name c.args.seed c.args.tokens in
    let heads = c.in_ok-push.ensures.ok ∙ ap (λ texts. texts ++ (c.args.name, c.args.tokens) ∷ []) c.in_ok-texts.ensures in
    let tables = subst (λ (tokens : List Token). AreColumnTables tokens c.in_ok-columns.columns.word c.in_ok-columns.columns.tag c.in_ok-columns.columns.lemma) c.in_ok-draws.ensures c.in_ok-columns.ensures.columns in
    IfOk-weaker c.of_columns.result _ (λ segment. (images : List ℕ → List ℕ → List ℕ) → AreTablesOf images c.args.registry.now (text ∷ []) segment)
    (λ segment is images. subst (AreTablesOf images c.args.registry.now (text ∷ [])) (sym is) (rw c.requires.standard (are_its images c.args.name c.args.seed c.args.tokens c.in_ok-columns.columns.word c.in_ok-columns.columns.tag c.in_ok-columns.columns.lemma c.push.new.self c.in_ok-columns.structs heads
    c.in_ok-columns.ensures.structs tables)))
    c.of_columns.ensures
