-- Where a parenthesis behind an op opens an operand with filters.
use Rattle.std.proofs.Common.{ℕ, suc, ◌≡◌, Bool, true, false, List, [], ◌∷◌, None, Some, Option, refl, sym, map, length, ◌∙◌, ap, arith}
use Rattle.std.proofs.lemmas.Bool.Decides.{nat_tests}
use Rattle.std.specs.Prelude.{cond, nat_eq, ◌&&◌, is_none}
use Rattle.mt_cql.specs.declared.parts.Part.{Part}
use Rattle.mt_cql.specs.declared.state.Group.{Group}
use Rattle.mt_cql.specs.declared.state.Head.{Head}
use Rattle.mt_cql.specs.declared.state.State.{State}
use Rattle.mt_cql.specs.Read.{part_seen}
use Rattle.mt_cql.specs.declared.reader.Reader.{Reader}
use Rattle.mt_query_laws.specs.Exprs.{before_op, opened_operand}
use Rattle.mt_query_laws.specs.Parts as p
use Rattle.mt_cql.specs.StateSeen.{ways, group_seen, head_seen, maybe_part_seen, filtered_now, opens}

suc_not_zero : (n : ℕ) → nat_eq (suc n) 0 ≡ false
suc_not_zero n = grind (arith, nat_tests)

opened_one : (choice : p.Part) (sequence branches : Option Part) (head : Head) (heads : List Head)
    → opened_operand choice (maybe_part_seen sequence) (maybe_part_seen branches) (map head_seen (head ∷ heads))
    ≡ cond (is_none sequence && is_none branches) (Some (record { choice = choice; filters = None }, map head_seen (head ∷ heads))) None
unfolding opened_operand
opened_one choice None None head heads = refl
opened_one choice None (Some x) head heads = refl
opened_one choice (Some y) None head heads = refl
opened_one choice (Some y) (Some x) head heads = refl

before_inside : (reader : Reader) (choice : p.Part) (group : Group) (groups : List Group) (heads : List Head)
    → before_op (ways reader) choice (group_seen group ∷ map group_seen groups) (map head_seen heads)
    ≡ cond (opens group groups heads) (Some (record { choice = choice; filters = None }, map head_seen heads)) None
unfolding before_op
before_inside reader choice group [] [] = refl
before_inside reader choice group [] (head ∷ heads) = rw (suc_not_zero (length heads)) (opened_one choice group.sequence group.branches head heads)
before_inside reader choice group (other ∷ groups) [] = rw (suc_not_zero (length groups)) refl
before_inside reader choice group (other ∷ groups) (head ∷ heads) = rw (suc_not_zero (length groups)) refl

where_opened : (b : Bool) (state : State) → filtered_now b (record state { has_filters = false })
    ≡ cond b (Some (record { choice = part_seen state.part; filters = None }, map head_seen state.heads)) None
where_opened true state = refl
where_opened false state = refl

-- a choice inside a parenthesis that is taken from those round it
pub before_taken : (reader : Reader) (state : State) (group : Group) (groups : List Group) (b : Bool) → state.groups ≡ group ∷ groups → b ≡ opens group groups state.heads
    → filtered_now b (record state { groups = groups; has_filters = false }) ≡ before_op (ways reader) (part_seen state.part) (map group_seen state.groups) (map head_seen state.heads)
before_taken reader state group groups b e o =
    where_opened b (record state { groups = groups })
    ∙ ap (λ x. cond x (Some (record { choice = part_seen state.part; filters = None }, map head_seen state.heads)) None) o
    ∙ sym (ap (λ x. before_op (ways reader) (part_seen state.part) (map group_seen x) (map head_seen state.heads)) e
    ∙ before_inside reader (part_seen state.part) group groups state.heads)
