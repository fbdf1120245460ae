-- What can be said in a script.
use Rattle.std.proofs.Common.{◌≡◌, ℕ, Bool, List}
use Rattle.std.specs.List.{All}
use Rattle.std.proofs.lemmas.List.Elements.{All-nil, All-cons}
use Rattle.mt_text_spec.specs.Words.{IsName}
use Rattle.mt_script_spec.specs.Commands.{Command, Text, Add, Generate, Batch, Header, Lone, TextHead, RulesHead, BatchHead, HasForm, WithBody, HasLoneForm}
use Rattle.mt_script_spec.specs.Script.{Item, Whole, Commanded, Refused, Broken, Begins, Nothing, Skips, Then}
use Rattle.mt_session_spec.specs.Steps.{IsSaid}
use Rattle.mt_session_spec.specs.Laws.{IsSaidItem}

-- the name of a text is a name
text_named : (name body line given : List ℕ) (header : Header) → HasForm header line → WithBody header given (Text name body) → IsName name
text_named name body line given (Lone command) form with = let P : Command → Type 0 = λ c. HasLoneForm c line in absurd (rw (← with) at form)
text_named name body line given (TextHead other number) form with = let same : other ≡ name = cc in rw (← same) form.named
text_named name body line given (RulesHead number) form with = let f : ⊥ = cc in absurd f
text_named name body line given (BatchHead number merge) form with = let e : Text name body ≡ Batch with.asked merge = with.is in let f : ⊥ = cc in absurd f

pub text_name : (name body : List ℕ) → IsSaid (Text name body) → IsName name
text_name name body said = text_named name body said.line said.body said.header said.good.form said.with_body

add_named : (name file line given : List ℕ) (header : Header) → HasForm header line → WithBody header given (Add name file) → IsName name
add_named name file line given (Lone command) form with = (rw (← with) at form).named
add_named name file line given (TextHead other number) form with = let f : ⊥ = cc in absurd f
add_named name file line given (RulesHead number) form with = let f : ⊥ = cc in absurd f
add_named name file line given (BatchHead number merge) form with = let e : Add name file ≡ Batch with.asked merge = with.is in let f : ⊥ = cc in absurd f

pub add_name : (name file : List ℕ) → IsSaid (Add name file) → IsName name
add_name name file said = add_named name file said.line said.body said.header said.good.form said.with_body

generate_named : (name : List ℕ) (seed tokens : ℕ) (line given : List ℕ) (header : Header) → HasForm header line → WithBody header given (Generate name seed tokens) → IsName name
generate_named name seed tokens line given (Lone command) form with = (rw (← with) at form).named
generate_named name seed tokens line given (TextHead other number) form with = let f : ⊥ = cc in absurd f
generate_named name seed tokens line given (RulesHead number) form with = let f : ⊥ = cc in absurd f
generate_named name seed tokens line given (BatchHead number merge) form with = let e : Generate name seed tokens ≡ Batch with.asked merge = with.is in let f : ⊥ = cc in absurd f

pub generate_name : (name : List ℕ) (seed tokens : ℕ) → IsSaid (Generate name seed tokens) → IsName name
generate_name name seed tokens said = generate_named name seed tokens said.line said.body said.header said.good.form said.with_body

-- ## Items of a script

whole_said : {ended : Bool} → (bytes others : List ℕ) (item : Item) → Whole ended bytes item others → IsSaidItem item
whole_said bytes others item (Commanded line mid header body given rest f s g b w) = record { line = line; header = header; body = body; good = g; with_body = w }
whole_said bytes others item (Refused line rest f s n) = tt
whole_said bytes others item (Broken line mid header last f s g few) = tt

pub items_said : (ended : Bool) (bytes rest : List ℕ) (items : List Item) → Begins ended bytes items rest → All IsSaidItem items
items_said ended bytes rest items (Nothing same) = All-nil IsSaidItem
items_said ended bytes rest items (Skips from line mid more left f s t) = items_said ended mid rest items t
items_said ended bytes rest items (Then from item mid more left w t) = All-cons IsSaidItem item more (whole_said {ended = ended} bytes mid item w) (items_said ended mid rest more t)
