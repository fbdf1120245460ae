use Rattle.std.proofs.Common.{◌≡◌, ◌∙◌, ◌++◌, ℕ, List, ap, ap₂, length, subst}
use Rattle.mt_text_spec.specs.Texts.{Token}
use Rattle.mt_lexicon.specs.Joins.{renumbered}
use Rattle.mt_store_spec.specs.Lexicons.{IsLexiconOf, Renumbers}
use Rattle.mt_generate_tables.specs.Coded.{TellsNumbers, all_codes, tokens_of, values_of}
use Rattle.mt_generate_tables.proofs.Codes.{column_lexicon, column_numbers, drawn_low}
use Rattle.mt_generate_tables.proofs.drawing.Draws.number.Goals as goal

pub push_parts-requires : goal.push_parts-requires
push_parts-requires c =
    let long : length c.as_slice-2.result.now ≡ 2000 = ap length c.as_slice-2.ensures.value ∙ c.in_ok-lexicon.ensures.table.long in
    rw long (drawn_low c.self.inside.seen.items (all_codes c.self.inside.parts) c.self.invariant)

pub returns-clause-lexicon : goal.returns-clause-lexicon
returns-clause-lexicon c =
    let seen = c.self.inside.seen.items in
    let lexicon = c.in_ok-lexicon.lexicon in
    let of_seen : IsLexiconOf (values_of c.args.column (tokens_of seen)) lexicon = subst (λ (codes : List ℕ). IsLexiconOf (values_of c.args.column (tokens_of codes)) lexicon) c.as_slice.ensures.value c.in_ok-lexicon.ensures.lexicon in
    subst (λ (tokens : List Token). IsLexiconOf (values_of c.args.column tokens) lexicon) c.self.view_is (column_lexicon c.args.column seen (all_codes c.self.inside.parts) c.self.invariant lexicon of_seen)

pub returns-clause-numbers : goal.returns-clause-numbers
returns-clause-numbers c =
    let seen = c.self.inside.seen.items in
    let drawn = all_codes c.self.inside.parts in
    let lexicon = c.in_ok-lexicon.lexicon in
    let table = c.in_ok-lexicon.table.items in
    let told : TellsNumbers c.args.column seen lexicon table = subst (λ (codes : List ℕ). TellsNumbers c.args.column codes lexicon table) c.as_slice.ensures.value c.in_ok-lexicon.ensures.table in
    let are : c.push_parts.new.numbers.items ≡ renumbered table drawn =
    c.in_ok-push_parts.ensures ∙ ap₂ (λ (ns ts : List ℕ). ns ++ renumbered ts drawn) c.in_ok-numbers.ensures.items c.as_slice-2.ensures.value in
    rw are (subst (λ (tokens : List Token). Renumbers (renumbered table drawn) (values_of c.args.column tokens) lexicon) c.self.view_is (column_numbers c.args.column seen drawn c.self.invariant table lexicon told))
