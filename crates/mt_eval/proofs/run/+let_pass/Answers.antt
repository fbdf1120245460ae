use Rattle.std.proofs.Common.{rules, ◌≡◌, ℕ, ◌+◌, ◌<◌, length, get_or, subst, sym, ap, ◌∙◌, ◌∷◌, ◌++◌, [], Err, IsErrOf, arith}
use Rattle.std.proofs.lemmas.List.{length-append}
use Rattle.mt_text_spec.specs.Queries.{Expr}
use Rattle.mt_cql.specs.Shape.{shape, kind_shape, filters_shape}
use Rattle.mt_rows.specs.declared.error.EvalError.{EvalError}
use Rattle.mt_rows.specs.declared.row_list.RowList.{RowList}
use Rattle.mt_rows.specs.declared.error.EvalError.TheVariants.{TooManyRows}
use Rattle.mt_eval_spec.specs.RowsIn.{operands, heads, PassesRoom, RowsIn, SomePasses, EachLeaves}
use Rattle.mt_eval.specs.Runs.{StandAt}
use Rattle.mt_eval.proofs.Rooms.{stand_first, stand_front, stand_back, one_leaves, one_passes, both_leave, later_passes, earlier_passes, lent_leaves}
use Rattle.mt_eval.proofs.Filtered.{no_filter, all_pass, lent_pass, on_ok}
use Rattle.mt_eval.proofs.run.+let_pass.Goals as goal

pub take_rows-requires-clause-expr : goal.take_rows-requires-clause-expr
take_rows-requires-clause-expr g t c =
    let H = shape c.in-More.filter_of.value.head in
    let I = operands (filters_shape c.in-More.filter_of.value.filters) in
    let O = operands (filters_shape c.in-More.others.value) in
    let all = heads c.args.asked.now.query.now in
    let stand : StandAt all (H ∷ I ++ O) c.args.first = rw c.in-More.is at c.requires.stand in
    rw c.deref-in-More.ensures (stand_first all H (I ++ O) c.args.first stand)

pub returns-in_err-own-in-More-clause-too_many : goal.returns-in_err-own-in-More-clause-too_many
returns-in_err-own-in-More-clause-too_many g t c =
    let T = c.args.asked.now.segment.now in
    let X = c.args.asked.now.texts.now in
    let H = shape c.in-More.filter_of.value.head in
    let I = operands (filters_shape c.in-More.filter_of.value.filters) in
    let O = operands (filters_shape c.in-More.others.value) in
    let all = heads c.args.asked.now.query.now in
    let stand : StandAt all (H ∷ I ++ O) c.args.first = rw c.in-More.is at c.requires.stand in
    let k : IsErrOf {T = RowList} {E = EvalError} (Err c.in_err-own-in-More.field-0.0) TooManyRows → SomePasses T X (H ∷ I ++ O) c.args.first c.args.rooms.now =
    λ h. earlier_passes T X (H ∷ []) (I ++ O) c.args.first c.args.rooms.now
    (one_passes T X H c.args.first c.args.rooms.now (subst (λ (e : Expr). PassesRoom T X e (get_or c.args.rooms.now c.args.first 0)) (stand_first all H (I ++ O) c.args.first stand) (c.in_err-own-in-More.ensures.too_many h))) in
    rw c.in-More.is (search (rules, k))

pub overflow_add-first : goal.overflow_add-first
overflow_add-first g t c = omega (arith, c.in_ok-own-in-More.ensures.few)

pub let_pass-requires-in-More : goal.let_pass-requires-in-More
let_pass-requires-in-More g t c =
    let H = shape c.in-More.filter_of.value.head in
    let I = operands (filters_shape c.in-More.filter_of.value.filters) in
    let O = operands (filters_shape c.in-More.others.value) in
    let all = heads c.args.asked.now.query.now in
    let stand : StandAt all (H ∷ I ++ O) c.args.first = rw c.in-More.is at c.requires.stand in
    let k : StandAt all I (c.args.first + 1) = stand_front all I O (c.args.first + 1) (stand_back all (H ∷ []) (I ++ O) c.args.first stand) in
    let count = c.in_ok-own-in-More.ensures.rooms.count in
    let stand_there = rw (← c.deref-in-More-2.ensures) at k in
    let rooms = count ∙ c.requires.rooms in
    let whole : length (operands (filters_shape c.args.filters.now)) ≡ length (H ∷ I ++ O) = ap (λ f. length (operands (filters_shape f))) c.in-More.is in
    let smaller : length (operands (filters_shape c.deref-in-More-2.result.now.filters)) < length (operands (filters_shape c.args.filters.now)) =
    rw c.deref-in-More-2.ensures (let both = length-append I O in omega (arith, whole, both)) in
    search (rules, stand_there, rooms, smaller)

pub returns-in_err-next-in-More-clause-too_many : goal.returns-in_err-next-in-More-clause-too_many
returns-in_err-next-in-More-clause-too_many g t c =
    let T = c.args.asked.now.segment.now in
    let X = c.args.asked.now.texts.now in
    let H = shape c.in-More.filter_of.value.head in
    let I = operands (filters_shape c.in-More.filter_of.value.filters) in
    let O = operands (filters_shape c.in-More.others.value) in
    let all = heads c.args.asked.now.query.now in
    let stand : StandAt all (H ∷ I ++ O) c.args.first = rw c.in-More.is at c.requires.stand in
    let found : RowsIn T X H c.in_ok-own-in-More.own = subst (λ (e : Expr). RowsIn T X e c.in_ok-own-in-More.own) (stand_first all H (I ++ O) c.args.first stand) c.in_ok-own-in-More.ensures.rows in
    let first_leaves = one_leaves T X H c.args.first c.in_ok-own-in-More.own c.args.rooms.now c.take_rows.new.rooms found c.in_ok-own-in-More.ensures.rooms in
    let k : IsErrOf {T = ℕ} {E = EvalError} (Err c.in_err-next-in-More.field-0.0) TooManyRows → SomePasses T X (H ∷ I ++ O) c.args.first c.args.rooms.now =
    λ h. later_passes T X (H ∷ []) (I ++ O) c.args.first c.args.rooms.now c.take_rows.new.rooms c.take_rows.new.rooms first_leaves
    (earlier_passes T X I O (c.args.first + 1) c.take_rows.new.rooms ((rw c.deref-in-More-2.ensures at c.in_err-next-in-More.ensures.too_many) h)) in
    rw c.in-More.is (search (rules, k))

pub let_pass-requires-in-More-2 : goal.let_pass-requires-in-More-2
let_pass-requires-in-More-2 g t c =
    let H = shape c.in-More.filter_of.value.head in
    let I = operands (filters_shape c.in-More.filter_of.value.filters) in
    let O = operands (filters_shape c.in-More.others.value) in
    let all = heads c.args.asked.now.query.now in
    let stand : StandAt all (H ∷ I ++ O) c.args.first = rw c.in-More.is at c.requires.stand in
    let behind : StandAt all O (c.args.first + 1 + length I) = stand_back all I O (c.args.first + 1) (stand_back all (H ∷ []) (I ++ O) c.args.first stand) in
    let k : StandAt all O c.in_ok-next-in-More.next = subst (StandAt all O) (sym (rw c.deref-in-More-2.ensures at c.in_ok-next-in-More.ensures.next)) behind in
    let count = c.in_ok-own-in-More.ensures.rooms.count in
    let more = c.in_ok-next-in-More.ensures.rooms.count in
    let stand_there = rw (← c.deref-in-More-4.ensures) at k in
    let rooms = more ∙ count ∙ c.requires.rooms in
    let whole : length (operands (filters_shape c.args.filters.now)) ≡ length (H ∷ I ++ O) = ap (λ f. length (operands (filters_shape f))) c.in-More.is in
    let smaller : length (operands (filters_shape c.deref-in-More-4.result.now)) < length (operands (filters_shape c.args.filters.now)) =
    rw c.deref-in-More-4.ensures (let both = length-append I O in omega (arith, whole, both)) in
    search (rules, stand_there, rooms, smaller)

pub returns-in-End-clause-rows : goal.returns-in-End-clause-rows
returns-in-End-clause-rows g t c = rw c.in-End.is (no_filter c.args.asked.now.segment.now c.args.asked.now.texts.now c.args.rows.now c.len.ensures.ascending)

pub returns-in_ok-pass_by-in-More-clause-rows : goal.returns-in_ok-pass_by-in-More-clause-rows
returns-in_ok-pass_by-in-More-clause-rows g t c =
    let T = c.args.asked.now.segment.now in
    let X = c.args.asked.now.texts.now in
    let H = shape c.in-More.filter_of.value.head in
    let I = operands (filters_shape c.in-More.filter_of.value.filters) in
    let O = operands (filters_shape c.in-More.others.value) in
    let all = heads c.args.asked.now.query.now in
    let stand : StandAt all (H ∷ I ++ O) c.args.first = rw c.in-More.is at c.requires.stand in
    let found : RowsIn T X H c.in_ok-own-in-More.own = subst (λ (e : Expr). RowsIn T X e c.in_ok-own-in-More.own) (stand_first all H (I ++ O) c.args.first stand) c.in_ok-own-in-More.ensures.rows in
    rw c.in-More.is
    (on_ok c.let_pass-in-More-2.result _ _
    (all_pass T X (kind_shape c.in-More.filter_of.value.kind) H (filters_shape c.in-More.filter_of.value.filters) (filters_shape c.in-More.others.value) c.in_ok-own-in-More.own c.let_pass-in-More.new.rows c.args.rows.now c.pass_by.new.rows c.let_pass-in-More-2.new.rows
    found (rw c.deref-in-More-2.ensures at c.in_ok-next-in-More.ensures.rows) (rw c.deref-in-More-3.ensures at c.in_ok-pass_by-in-More.ensures))
    (rw c.deref-in-More-4.ensures at c.let_pass-in-More-2.ensures.rows))

pub returns-in_ok-pass_by-in-More-clause-rooms : goal.returns-in_ok-pass_by-in-More-clause-rooms
returns-in_ok-pass_by-in-More-clause-rooms g t c =
    let T = c.args.asked.now.segment.now in
    let X = c.args.asked.now.texts.now in
    let H = shape c.in-More.filter_of.value.head in
    let I = operands (filters_shape c.in-More.filter_of.value.filters) in
    let O = operands (filters_shape c.in-More.others.value) in
    let all = heads c.args.asked.now.query.now in
    let stand : StandAt all (H ∷ I ++ O) c.args.first = rw c.in-More.is at c.requires.stand in
    let found : RowsIn T X H c.in_ok-own-in-More.own = subst (λ (e : Expr). RowsIn T X e c.in_ok-own-in-More.own) (stand_first all H (I ++ O) c.args.first stand) c.in_ok-own-in-More.ensures.rows in
    let first_leaves = one_leaves T X H c.args.first c.in_ok-own-in-More.own c.args.rooms.now c.take_rows.new.rooms found c.in_ok-own-in-More.ensures.rooms in
    let inner_leaves : EachLeaves T X I (c.args.first + 1) c.take_rows.new.rooms c.let_pass-in-More.new.rooms = rw c.deref-in-More-2.ensures at c.in_ok-next-in-More.ensures.rooms in
    rw c.in-More.is
    (on_ok c.let_pass-in-More-2.result _ _
    (λ last. both_leave T X (H ∷ []) (I ++ O) c.args.first c.args.rooms.now c.take_rows.new.rooms c.let_pass-in-More-2.new.rooms first_leaves
    (both_leave T X I O (c.args.first + 1) c.take_rows.new.rooms c.let_pass-in-More.new.rooms c.let_pass-in-More-2.new.rooms inner_leaves
    (subst (λ (n : ℕ). EachLeaves T X O n c.let_pass-in-More.new.rooms c.let_pass-in-More-2.new.rooms) (rw c.deref-in-More-2.ensures at c.in_ok-next-in-More.ensures.next) last)))
    (rw c.deref-in-More-4.ensures at c.let_pass-in-More-2.ensures.rooms))

pub returns-in_ok-pass_by-in-More-clause-too_many : goal.returns-in_ok-pass_by-in-More-clause-too_many
returns-in_ok-pass_by-in-More-clause-too_many g t c =
    let T = c.args.asked.now.segment.now in
    let X = c.args.asked.now.texts.now in
    let H = shape c.in-More.filter_of.value.head in
    let I = operands (filters_shape c.in-More.filter_of.value.filters) in
    let O = operands (filters_shape c.in-More.others.value) in
    let all = heads c.args.asked.now.query.now in
    let stand : StandAt all (H ∷ I ++ O) c.args.first = rw c.in-More.is at c.requires.stand in
    let found : RowsIn T X H c.in_ok-own-in-More.own = subst (λ (e : Expr). RowsIn T X e c.in_ok-own-in-More.own) (stand_first all H (I ++ O) c.args.first stand) c.in_ok-own-in-More.ensures.rows in
    let first_leaves = one_leaves T X H c.args.first c.in_ok-own-in-More.own c.args.rooms.now c.take_rows.new.rooms found c.in_ok-own-in-More.ensures.rooms in
    let inner_leaves : EachLeaves T X I (c.args.first + 1) c.take_rows.new.rooms c.let_pass-in-More.new.rooms = rw c.deref-in-More-2.ensures at c.in_ok-next-in-More.ensures.rooms in
    rw c.in-More.is
    (λ h. later_passes T X (H ∷ []) (I ++ O) c.args.first c.args.rooms.now c.take_rows.new.rooms c.take_rows.new.rooms first_leaves
    (later_passes T X I O (c.args.first + 1) c.take_rows.new.rooms c.let_pass-in-More.new.rooms c.let_pass-in-More.new.rooms inner_leaves
    (subst (λ (n : ℕ). SomePasses T X O n c.let_pass-in-More.new.rooms) (rw c.deref-in-More-2.ensures at c.in_ok-next-in-More.ensures.next) ((rw c.deref-in-More-4.ensures at c.let_pass-in-More-2.ensures.too_many) h))))

pub lent-requires-clause-expr : goal.lent-requires-clause-expr
lent-requires-clause-expr g t c =
    let H = shape c.in-More.filter_of.value.head in
    let I = operands (filters_shape c.in-More.filter_of.value.filters) in
    let O = operands (filters_shape c.in-More.others.value) in
    let all = heads c.args.asked.now.query.now in
    let stand : StandAt all (H ∷ I ++ O) c.args.first = rw c.in-More.is at c.requires.stand in
    rw c.deref.ensures (stand_first all H (I ++ O) c.args.first stand)

pub let_pass-requires : goal.let_pass-requires
let_pass-requires g t c =
    let H = shape c.in-More.filter_of.value.head in
    let I = operands (filters_shape c.in-More.filter_of.value.filters) in
    let O = operands (filters_shape c.in-More.others.value) in
    let all = heads c.args.asked.now.query.now in
    let stand : StandAt all (H ∷ I ++ O) c.args.first = rw c.in-More.is at c.requires.stand in
    let none : length I ≡ 0 = ap (λ f. length (operands f)) (rw c.deref.ensures at c.in-Some.ensures.alone) in
    let next = c.in_ok-behind-in-More.ensures.next in
    let there : c.args.first + 1 + length I ≡ c.in_ok-behind-in-More.behind = omega (arith, none, next) in
    let k : StandAt all O c.in_ok-behind-in-More.behind = subst (StandAt all O) there (stand_back all I O (c.args.first + 1) (stand_back all (H ∷ []) (I ++ O) c.args.first stand)) in
    let count = c.in_ok-behind-in-More.ensures.rooms.count in
    let stand_there = rw (← c.deref-in-Some-2.ensures) at k in
    let rooms = count ∙ c.requires.rooms in
    let whole : length (operands (filters_shape c.args.filters.now)) ≡ length (H ∷ I ++ O) = ap (λ f. length (operands (filters_shape f))) c.in-More.is in
    let smaller : length (operands (filters_shape c.deref-in-Some-2.result.now)) < length (operands (filters_shape c.args.filters.now)) =
    rw c.deref-in-Some-2.ensures (let both = length-append I O in omega (arith, whole, both)) in
    search (rules, stand_there, rooms, smaller)

pub returns-in-Some-clause-rows : goal.returns-in-Some-clause-rows
returns-in-Some-clause-rows g t c =
    let T = c.args.asked.now.segment.now in
    let X = c.args.asked.now.texts.now in
    let H = shape c.in-More.filter_of.value.head in
    let K = kind_shape c.in-More.filter_of.value.kind in
    let F = filters_shape c.in-More.others.value in
    rw (c.in-More.is, rw c.deref.ensures at c.in-Some.ensures.alone)
    (on_ok c.let_pass.result _ _
    (lent_pass T X K H F c.in-Some.spans.now c.args.rows.now c.pass_lent.new.rows c.let_pass.new.rows (rw c.deref.ensures at c.in-Some.ensures.rows) (rw c.deref-in-Some.ensures at c.in_ok-behind-in-More.ensures.rows))
    (rw c.deref-in-Some-2.ensures at c.let_pass.ensures.rows))

pub returns-in-Some-clause-rooms : goal.returns-in-Some-clause-rooms
returns-in-Some-clause-rooms g t c =
    let T = c.args.asked.now.segment.now in
    let X = c.args.asked.now.texts.now in
    let H = shape c.in-More.filter_of.value.head in
    let O = operands (filters_shape c.in-More.others.value) in
    let first_leaves = lent_leaves T X H c.args.first c.in-Some.spans.now c.args.rooms.now c.pass_lent.new.rooms (rw c.deref.ensures at c.in-Some.ensures.rows) c.in_ok-behind-in-More.ensures.rooms in
    rw (c.in-More.is, rw c.deref.ensures at c.in-Some.ensures.alone)
    (on_ok c.let_pass.result _ _
    (λ last. both_leave T X (H ∷ []) O c.args.first c.args.rooms.now c.pass_lent.new.rooms c.let_pass.new.rooms first_leaves
    (subst (λ (n : ℕ). EachLeaves T X O n c.pass_lent.new.rooms c.let_pass.new.rooms) c.in_ok-behind-in-More.ensures.next last))
    (rw c.deref-in-Some-2.ensures at c.let_pass.ensures.rooms))

pub returns-in-Some-clause-too_many : goal.returns-in-Some-clause-too_many
returns-in-Some-clause-too_many g t c =
    let T = c.args.asked.now.segment.now in
    let X = c.args.asked.now.texts.now in
    let H = shape c.in-More.filter_of.value.head in
    let O = operands (filters_shape c.in-More.others.value) in
    let first_leaves = lent_leaves T X H c.args.first c.in-Some.spans.now c.args.rooms.now c.pass_lent.new.rooms (rw c.deref.ensures at c.in-Some.ensures.rows) c.in_ok-behind-in-More.ensures.rooms in
    rw (c.in-More.is, rw c.deref.ensures at c.in-Some.ensures.alone)
    (λ h. later_passes T X (H ∷ []) O c.args.first c.args.rooms.now c.pass_lent.new.rooms c.pass_lent.new.rooms first_leaves
    (subst (λ (n : ℕ). SomePasses T X O n c.pass_lent.new.rooms) c.in_ok-behind-in-More.ensures.next ((rw c.deref-in-Some-2.ensures at c.let_pass.ensures.too_many) h)))
