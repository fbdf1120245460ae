use Rattle.std.proofs.Common.{ℕ, List, ◌++◌, ap, ◌∙◌}
use Rattle.mt_instances.proofs.Splitting.{filled_by, none_filled}
use Rattle.mt_instances.proofs.fills.filled.Goals as goal

pub returns-in_ok-push_str-in-Some-3 : goal.returns-in_ok-push_str-in-Some-3
returns-in_ok-push_str-in-Some-3 c =
    let front = c.in-Some.front.now in
    let value = c.args.value.now in
    let back = c.in-Some.back.now in
    let cut = c.in-Some.ensures.cases in
    let one = c.in_ok-push_str-in-Some.ensures.bytes ∙ ap (λ (xs : List ℕ). xs ++ front) c.new-text.ensures.bytes in
    let two = c.in_ok-push_str-in-Some-2.ensures.bytes ∙ ap (λ (xs : List ℕ). xs ++ value) one in
    let three = c.in_ok-push_str-in-Some-3.ensures.bytes ∙ ap (λ (xs : List ℕ). xs ++ back) two in
    filled_by c.args.name.now value front back c.from_string.result cut.0 cut.1 cut.2 cut.3 cut.4 cut.6 (c.from_string.ensures ∙ three)

pub returns-in-None : goal.returns-in-None
returns-in-None c = λ other h. none_filled c.args.name.now c.args.value.now other c.in-None.ensures.cases h
