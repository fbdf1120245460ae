-- `segments`: how many texts and tokens each group has. Removed texts are not counted, and a group of which none is left is listed too.
use Rattle.std.specs.Prelude.{ℕ, ◌≡◌, List, [], ◌∷◌, ◌++◌, length, map, codes}
use Rattle.std.specs.Fmt.{decimal}
use Rattle.mt_text_spec.specs.Texts.{total_tokens}
use Rattle.mt_session_spec.specs.World.{Group, World, live_texts}
use Rattle.mt_session_spec.specs.Answers.{Answer, Lines}
use Rattle.mt_session_spec.specs.Meaning.{Meaning, Exception, LoadsNone}

-- a group's texts and tokens, with a space between
abbrev pub group_line : Group → List ℕ
group_line group = decimal (length (live_texts group)) ++ 32 ∷ decimal (total_tokens (live_texts group))

-- the number of groups, and a line for each
abbrev pub group_lines : List Group → List (List ℕ)
group_lines groups = (codes "= " ++ decimal (length groups)) ∷ map group_line groups

-- the groups are listed, and nothing changes
pub record ListsGroups (world new : World) (answer : Answer) : Type 0 where
  pub same : new ≡ world
  pub says : answer ≡ Lines (group_lines world.held.groups)

-- `segments`: no check, and the list is the reply
abbrev pub listing : World → Meaning
listing world = record { checks = []; Accepts = ListsGroups world; Excepts = Exception world LoadsNone }
