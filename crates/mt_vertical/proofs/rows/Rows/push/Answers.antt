use Rattle.std.proofs.Common.{rules, arith, suc, ◌*◌, length-append, ◌≡◌, ◌∙◌, ◌+◌, ◌++◌, ◌∷◌, [], ap, sym, length, map}
use Rattle.std.proofs.lemmas.List.{length-map}
use Rattle.std.proofs.Math.Nat.{suc-mul}
use Rattle.mt_base.specs.Rows as spec
use Rattle.mt_base.proofs.Rows.{rows-push}
use Rattle.mt_file_spec.specs.VerticalLines.{columns, first_columns}
use Rattle.mt_vertical.proofs.Added.{bytes_of}
use Rattle.mt_vertical.proofs.KeptValues.{first_len}
use Rattle.mt_vertical.proofs.rows.Rows.push.Goals as goal

pub returns-clause-added : goal.returns-clause-added
returns-clause-added c = λ e.
    let old = c.self.inside in
    let n : c.in-Some.count ≡ old.count + 1 = search rules in
    ap (λ k. spec.rows old.columns k (map bytes_of c.add_column_values.new.values.items)) n
    ∙ ap (spec.rows old.columns (old.count + 1)) (c.in_ok-add_column_values.ensures.added c.if-not-branch.false)
    ∙ rows-push old.columns old.count (map bytes_of old.values.items) (first_columns old.columns (columns c.args.line.now)) (length-map old.values.items bytes_of ∙ c.self.invariant) (first_len old.columns (columns c.args.line.now))
    ∙ ap (λ t. t.tokens ++ record { values = first_columns t.columns (columns c.args.line.now) } ∷ []) c.self.view_is

pub invariant_of-self-2 : goal.invariant_of-self-2
invariant_of-self-2 c =
    let old = c.self.inside in
    let first = first_columns old.columns (columns c.args.line.now) in
    let n : c.in-Some.count ≡ suc old.count = search rules in
    omega (
      arith,
      sym (length-map c.add_column_values.new.values.items bytes_of),
      ap length (c.in_ok-add_column_values.ensures.added c.if-not-branch.false),
      length-append (map bytes_of old.values.items) first,
      length-map old.values.items bytes_of,
      c.self.invariant,
      first_len old.columns (columns c.args.line.now),
      ap (λ k. k * old.columns) n,
      suc-mul old.count old.columns,
    )
