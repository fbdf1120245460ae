-- A text of characters that mean themselves, between the marks for a value's start and end, is read as that text.
use Rattle.std.proofs.Common.{◌≡◌, ℕ, ◌+◌, ◌-◌, ◌*◌, ◌≤◌, ◌<◌, true, false, List, [], ◌∷◌, ◌++◌, length, map, Some, None, max, refl, sym, ◌∙◌, ap, arith, length-append}
use Rattle.std.proofs.lemmas.Bool.Decides.{nat_tests}
use Rattle.regex_hir.specs.declared.look.Look.TheVariants.{Start, End}
use Rattle.regex_hir.specs.Meaning.{cat_all, alt_all}
use Rattle.regex_hir.specs.Re.{Re, look}
use Rattle.regex_syntax.proofs.BranchLemmas.{ends_branch, Read, repetitions_end, join_after, branch_ends, branch_goes, more_parts, group_inside, join_parts_is, branches_go, more_branches, join_ends, close_group}
use Rattle.regex_syntax.proofs.EscapeLemmas.{itself, items_escaped}
use Rattle.regex_syntax.proofs.Written.{grammar}
use Rattle.regex_syntax.specs.Brackets.{Nested, flat, join}
use Rattle.regex_syntax.specs.Grammar.{Names, Place, opens, opening, atom, item, with_repetitions, rest_of_group, items, join_parts, branches, read, names_below, group_count}
use Rattle.regex_syntax.specs.Reading.{Text, is_at, is_empty, first, skip, ◌>>=◌}
use Rattle.regex_syntax.specs.Verdict.{default_config, escaped_text}

abbrev at_text : Text → Place
at_text t = record { config = default_config; names = None ∷ []; text = t }

no_skip : (t : Text) → t ≡ skip false t
unfolding skip
no_skip t = refl

-- ---- the parts

start_atom : (rest : Text) → atom default_config (0x5C ∷ 0x41 ∷ rest) ≡ Some (flat (look Start), rest)
unfolding grammar
start_atom rest = refl

end_atom : atom default_config (0x5C ∷ 0x7A ∷ []) ≡ Some (flat (look End), [])
unfolding grammar
end_atom = refl

opening_is : (rest : Text) → opening (at_text (0x28 ∷ 0x3F ∷ 0x3A ∷ rest)) ≡ Some (opens (λ re. re), at_text rest)
unfolding grammar
opening_is rest = refl

not_empty : (c : ℕ) (t : Text) → is_empty (c ∷ t) ≡ false
not_empty c t = grind (arith, nat_tests)

closes : (end : Text) → ends_branch (0x29 ∷ end) ≡ true
unfolding first
closes end = rw (not_empty 0x29 end) refl

-- ---- the items

-- an atom that no operator of repetition follows is an item
item_of_atom : (inner : Place → Read (Nested Re)) (t rest : Text) (part : Nested Re) → is_at "(" t ≡ false →
    atom default_config t ≡ Some (part, rest) → is_at "?*+{" rest ≡ false → item inner (at_text t) ≡ Some (part, at_text rest)
unfolding item with_repetitions
item_of_atom inner t rest part no_group read_atom h =
    rw (item, no_group, read_atom, with_repetitions, repetitions_end default_config (length rest + 1) (length rest) part rest rest (omega arith) (no_skip rest) h)

-- the branch goes on after an item
branch_passes : (n m : ℕ) (earlier : List (Nested Re)) (t rest : Text) (part : Nested Re) → n ≡ m + 1 → ends_branch t ≡ false →
    item (group_inside m) (at_text t) ≡ Some (part, at_text rest) →
    join_after cat_all earlier (items n (at_text t)) ≡ join_after cat_all (earlier ++ part ∷ []) (items m (at_text rest))
branch_passes n m earlier t rest part e begins is_item =
    branch_goes n m earlier (at_text t) t (omega arith) (no_skip t) begins ∙ ap (λ o. o >>= more_parts m earlier) is_item

-- what is between the parentheses
abbrev pub inner : Text → Nested Re
inner cs = join alt_all (join cat_all (map itself cs) ∷ [])

inside_is : (cs end : Text) (m : ℕ) → length cs + 2 < m → escaped_text cs ≡ cs →
    group_inside m (at_text (cs ++ 0x29 ∷ end)) ≡ Some (inner cs, at_text (0x29 ∷ end))
unfolding first
inside_is cs end m l plain =
    let close : Text = 0x29 ∷ end in
    let branch : Nested Re = join cat_all (map itself cs) in
    let k : ℕ = m - 1 - length cs in
    let one : join_after cat_all [] (items (m - 1) (at_text (cs ++ close))) ≡ Some (branch, at_text close) =
    ap (λ t. join_after cat_all [] (items (m - 1) (at_text (t ++ close)))) (sym plain)
    ∙ items_escaped default_config (None ∷ []) refl refl cs close (m - 1) k [] (omega arith) refl
    ∙ branch_ends k (k - 1) (map itself cs) (at_text close) close (omega arith) (no_skip close) (closes end) in
    join_parts_is alt_all (branches m (at_text (cs ++ close)))
    ∙ branches_go m (m - 1) [] (at_text (cs ++ close)) (omega arith)
    ∙ ap (λ o. o >>= more_branches (m - 1) []) (join_parts_is cat_all (items (m - 1) (at_text (cs ++ close))) ∙ one)
    ∙ join_ends alt_all (branch ∷ []) (at_text close)

abbrev pub grouped : Text → Nested Re
grouped cs = record { value = (inner cs).value; depth = (inner cs).depth + 1 }

group_item : (cs end : Text) (m : ℕ) → length cs + 2 < m → escaped_text cs ≡ cs → is_at "?*+{" end ≡ false →
    item (group_inside m) (at_text (0x28 ∷ 0x3F ∷ 0x3A ∷ cs ++ 0x29 ∷ end)) ≡ Some (grouped cs, at_text end)
unfolding item with_repetitions first
group_item cs end m l plain h =
    ap (λ o. o >>= λ (how, inside). rest_of_group (group_inside m) default_config how inside) (opening_is (cs ++ 0x29 ∷ end))
    ∙ ap (λ o. o >>= close_group default_config (λ re. re)) (inside_is cs end m l plain)
    ∙ ap (λ o. o >>= λ (whole, rest). Some (whole, at_text rest)) (repetitions_end default_config (length end + 1) (length end) (grouped cs) end end (omega arith) (no_skip end) h)

-- ---- the whole

abbrev pub whole : Text → Nested Re
whole cs = join alt_all (join cat_all (flat (look Start) ∷ grouped cs ∷ flat (look End) ∷ []) ∷ [])

abbrev pub marked : Text → Text
marked cs = 0x5C ∷ 0x41 ∷ 0x28 ∷ 0x3F ∷ 0x3A ∷ cs ++ 0x29 ∷ 0x5C ∷ 0x7A ∷ []

items_are : (cs : Text) (n : ℕ) → length cs + 6 < n → escaped_text cs ≡ cs →
    join_after cat_all [] (items n (at_text (marked cs))) ≡ Some (join cat_all (flat (look Start) ∷ grouped cs ∷ flat (look End) ∷ []), at_text [])
unfolding first
items_are cs n l plain =
    let end : Text = 0x5C ∷ 0x7A ∷ [] in
    let group : Text = 0x28 ∷ 0x3F ∷ 0x3A ∷ cs ++ 0x29 ∷ end in
    branch_passes n (n - 1) [] (marked cs) group (flat (look Start)) (omega arith) (starts_no_end (0x41 ∷ group))
    (item_of_atom (group_inside (n - 1)) (marked cs) group (flat (look Start)) refl (start_atom group) refl)
    ∙ branch_passes (n - 1) (n - 2) (flat (look Start) ∷ []) group end (grouped cs) (omega arith) (opens_no_end (0x3F ∷ 0x3A ∷ cs ++ 0x29 ∷ end))
    (group_item cs end (n - 2) (omega arith) plain refl)
    ∙ branch_passes (n - 2) (n - 3) (flat (look Start) ∷ grouped cs ∷ []) end [] (flat (look End)) (omega arith) (starts_no_end (0x7A ∷ []))
    (item_of_atom (group_inside (n - 3)) end [] (flat (look End)) refl end_atom refl)
    ∙ branch_ends (n - 3) (n - 4) (flat (look Start) ∷ grouped cs ∷ flat (look End) ∷ []) (at_text []) [] (omega arith) (no_skip []) refl
  where
    starts_no_end : (t : Text) → ends_branch (0x5C ∷ t) ≡ false
    starts_no_end t = rw (not_empty 0x5C t) refl

    opens_no_end : (t : Text) → ends_branch (0x28 ∷ t) ≡ false
    opens_no_end t = rw (not_empty 0x28 t) refl

pub is_read_as : (cs : Text) → escaped_text cs ≡ cs → (names : Names) × (read default_config (marked cs) ≡ Some (whole cs, names))
unfolding read first
is_read_as cs plain =
    let t : Text = marked cs in
    let branch : Nested Re = join cat_all (flat (look Start) ∷ grouped cs ∷ flat (look End) ∷ []) in
    let long : length cs + 8 ≤ length t = omega (arith, length-append cs (0x29 ∷ 0x5C ∷ 0x7A ∷ [])) in
    let all : join_parts alt_all (branches (2 * length t + 2) (at_text t)) ≡ Some (whole cs, at_text []) =
    join_parts_is alt_all (branches (2 * length t + 2) (at_text t))
    ∙ branches_go (2 * length t + 2) (2 * length t + 1) [] (at_text t) (omega arith)
    ∙ ap (λ o. o >>= more_branches (2 * length t + 1) []) (join_parts_is cat_all (items (2 * length t + 1) (at_text t)) ∙ items_are cs (2 * length t + 1) (omega arith) plain)
    ∙ join_ends alt_all (branch ∷ []) (at_text []) in
    (names_below (whole cs).value (None ∷ []) (max 1 (group_count (whole cs).value)), rw all refl)
