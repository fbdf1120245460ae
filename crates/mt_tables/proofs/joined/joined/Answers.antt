use Rattle.std.proofs.Common.{◌≡◌, ℕ, List, [], ◌∷◌, ◌++◌, codes, ◌∙◌, ap₂}
use Rattle.std.proofs.lemmas.Result.{IfOk-weaker}
use Rattle.mt_segment_spec.specs.Tables.{AreTablesUnder, HaveParts, Tables}
use Rattle.mt_tables.specs.Small.{small_tables}
use Rattle.mt_tables.proofs.Small.{parts, under}
use Rattle.mt_tables.proofs.joined.joined.Goals as goal
use Rattle.mt_tables.proofs.joined.joined.Goals.{After-new-2}

-- what is put together are the parts of the tables
its_parts : (c : After-new-2) → HaveParts small_tables c.push.new.self c.in_ok-lexicons.lexicons c.in_ok-columns.columns c.new-2.result c.in_ok-postings.postings c.in_ok-structs.structs
its_parts c =
    let texts : c.push.new.self ≡ (codes "a", 1) ∷ [] = c.in_ok-push.ensures.ok ∙ ap₂ (λ (heads : List (List ℕ × ℕ)) (name : List ℕ). heads ++ (name, 1) ∷ []) c.new-texts.ensures c.in_ok-new.ensures in
    parts _ _ _ _ _ _ texts c.in_ok-lexicons.ensures c.in_ok-columns.ensures c.new-2.ensures c.in_ok-postings.ensures c.in_ok-structs.ensures

pub of_tables-requires : goal.of_tables-requires
of_tables-requires c = (small_tables, rw c.requires under, its_parts (goal.at.of_tables-requires c).After-new-2)

pub returns : goal.returns
returns c =
    IfOk-weaker c.of_tables.result
    (λ segment. (t : Tables) → AreTablesUnder c.args.registry.now t → HaveParts t c.push.new.self c.in_ok-lexicons.lexicons c.in_ok-columns.columns c.new-2.result c.in_ok-postings.postings c.in_ok-structs.structs → segment ≡ t)
    (λ segment. segment ≡ small_tables) (λ segment all. all small_tables (rw c.requires under) (its_parts (goal.at.returns c).After-new-2)) c.of_tables.ensures
