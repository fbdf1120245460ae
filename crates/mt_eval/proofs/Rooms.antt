-- Rooms of the operands of filters, which stand one after another.
use Rattle.std.proofs.Common.{◌≡◌, ℕ, zero, suc, ◌+◌, ◌-◌, ◌<◌, ◌≤◌, ◌⊎◌, inl, inr, List, [], ◌∷◌, ◌++◌, length, get_or, take, drop, set, sym, ◌∙◌, ap, subst, arith}
use Rattle.std.proofs.lemmas.Bool.{cases_lt}
use Rattle.std.proofs.lemmas.List.{length-append, length-set, get_or_append_left, get_or-append-add, get_or-set_same, get_or-set_other, set_split}
use Rattle.mt_text_spec.specs.Texts.{Row, Span}
use Rattle.mt_text_spec.specs.Queries.{Expr}
use Rattle.mt_segment_spec.specs.Tables.{Tables}
use Rattle.mt_eval_spec.specs.RowsIn.{EachLeaves, LeavesRoom, PassesRoom, RowsIn, SomePasses, expr_at}
use Rattle.mt_eval.specs.Rooms.{LowersOne}
use Rattle.mt_eval.specs.Runs.{StandAt}
use Rattle.mt_eval.specs.Spans.{AreSpansOfRows}

-- ---- expressions of two lists

at_front : (exprs more : List Expr) (i : ℕ) → i < length exprs → expr_at (exprs ++ more) i ≡ expr_at exprs i
at_front exprs more i l = get_or_append_left exprs more _ i l

at_back : (exprs more : List Expr) (i : ℕ) → expr_at (exprs ++ more) (length exprs + i) ≡ expr_at more i
at_back exprs more i = get_or-append-add exprs more i _

module _ (all exprs more : List Expr) (first : ℕ) (stand : StandAt all (exprs ++ more) first) where
  pub stand_front : StandAt all exprs first
  stand_front = record {
    within = let long = length-append exprs more in let w = stand.within in omega arith;
    each = λ i l. stand.each i (let long = length-append exprs more in omega arith) ∙ at_front exprs more i l;
  }

  pub stand_back : StandAt all more (first + length exprs)
  stand_back = record {
    within = let long = length-append exprs more in let w = stand.within in omega arith;
    each = λ i l.
        let there : first + length exprs + i ≡ first + (length exprs + i) = omega arith in
        ap (expr_at all) there ∙ stand.each (length exprs + i) (let long = length-append exprs more in omega arith) ∙ at_back exprs more i;
  }

pub stand_first : (all : List Expr) (expr : Expr) (more : List Expr) (first : ℕ) → StandAt all (expr ∷ more) first → expr_at all first ≡ expr
stand_first all expr more first stand = let same : first ≡ first + 0 = omega arith in ap (expr_at all) same ∙ stand.each 0 (omega arith)

-- ---- one room

pub lowered : (number by room : ℕ) (rooms left : List ℕ) → number < length rooms → left ≡ take number rooms ++ room ∷ drop (number + 1) rooms → get_or rooms number 0 ≡ by + room → LowersOne number by rooms left
lowered number by room rooms left l is lower =
    let next : number + 1 ≡ suc number = omega arith in
    let set_is : left ≡ set rooms number room = is ∙ ap (λ (n : ℕ). take number rooms ++ room ∷ drop n rooms) next ∙ sym (set_split rooms number room l) in
    record {
      count = ap length set_is ∙ length-set rooms number room;
      lower = lower ∙ ap (λ (n : ℕ). by + n) (sym (ap (λ (xs : List ℕ). get_or xs number 0) set_is ∙ get_or-set_same rooms number room 0 l));
      others = λ k n. ap (λ (xs : List ℕ). get_or xs k 0) set_is ∙ get_or-set_other rooms number k room 0 n;
    }

-- ---- one expression

module _ (tables : Tables) (texts : List ℕ) where
  pub one_leaves : (expr : Expr) (first : ℕ) (rows : List Row) (rooms left : List ℕ) → RowsIn tables texts expr rows → LowersOne first (length rows) rooms left → EachLeaves tables texts (expr ∷ []) first rooms left
  one_leaves expr first rows rooms left are lower = record {
    count = lower.count;
    each = λ i l. by i l;
    before = λ room l. lower.others room (λ e. absurd (omega (arith, l, e)));
    behind = λ room l. lower.others room (λ e. absurd (omega (arith, l, e)));
  }
    where
      by : (i : ℕ) → i < 1 → LeavesRoom tables texts (expr_at (expr ∷ []) i) (get_or rooms (first + i) 0) (get_or left (first + i) 0)
      by zero l = let same : first + 0 ≡ first = omega arith in
          record { rows = rows; are = are; within = ap (λ (n : ℕ). get_or rooms n 0) same ∙ lower.lower ∙ ap (λ (n : ℕ). length rows + get_or left n 0) (sym same) }
      by (suc i) l = absurd (omega (arith, l))

  -- the same where its spans are lent
  pub lent_leaves : (expr : Expr) (first : ℕ) (spans : List Span) (rooms left : List ℕ) → AreSpansOfRows tables texts expr spans → LowersOne first (length spans) rooms left → EachLeaves tables texts (expr ∷ []) first rooms left
  lent_leaves expr first spans rooms left lent lower = one_leaves expr first lent.rows rooms left lent.are (subst (λ (n : ℕ). LowersOne first n rooms left) (sym lent.count) lower)

  pub one_passes : (expr : Expr) (first : ℕ) (rooms : List ℕ) → PassesRoom tables texts expr (get_or rooms first 0) → SomePasses tables texts (expr ∷ []) first rooms
  one_passes expr first rooms p = record { number = 0; within = omega arith; passes = subst (λ (n : ℕ). PassesRoom tables texts expr (get_or rooms n 0)) (let same : first ≡ first + 0 = omega arith in same) p }

  -- ---- some expressions, and then others

  module _ (exprs more : List Expr) (first : ℕ) (rooms middle left : List ℕ) (leaves : EachLeaves tables texts exprs first rooms middle) where
    pub both_leave : EachLeaves tables texts more (first + length exprs) middle left → EachLeaves tables texts (exprs ++ more) first rooms left
    both_leave others = record {
      count = others.count ∙ leaves.count;
      each = λ i l. by i (let long = length-append exprs more in omega (arith, l)) (cases_lt i (length exprs));
      before = λ room l. others.before room (omega arith) ∙ leaves.before room l;
      behind = λ room l. let long = length-append exprs more in others.behind room (omega arith) ∙ leaves.behind room (omega arith);
    }
      where
        LeftAt : Expr → ℕ → Type 0
        LeftAt expr n = LeavesRoom tables texts expr (get_or rooms n 0) (get_or left n 0)

        by : (i : ℕ) → i < length exprs + length more → (i < length exprs) ⊎ (length exprs ≤ i) → LeavesRoom tables texts (expr_at (exprs ++ more) i) (get_or rooms (first + i) 0) (get_or left (first + i) 0)
        by i l (inl low) =
            subst (λ (e : Expr). LeavesRoom tables texts e (get_or rooms (first + i) 0) (get_or left (first + i) 0)) (sym (at_front exprs more i low))
            (subst (λ (n : ℕ). LeavesRoom tables texts (expr_at exprs i) (get_or rooms (first + i) 0) n) (sym (others.before (first + i) (omega arith))) (leaves.each i low))
        by i l (inr high) =
            let j = i - length exprs in
            let is : length exprs + j ≡ i = omega arith in
            let there : first + length exprs + j ≡ first + i = omega arith in
            let k = others.each j (omega arith) in
            let room : get_or middle (first + length exprs + j) 0 ≡ get_or rooms (first + i) 0 = leaves.behind (first + length exprs + j) (omega arith) ∙ ap (λ (n : ℕ). get_or rooms n 0) there in
            subst (λ (e : Expr). LeavesRoom tables texts e (get_or rooms (first + i) 0) (get_or left (first + i) 0)) (sym (at_back exprs more j) ∙ ap (expr_at (exprs ++ more)) is)
            (subst (λ (n : ℕ). LeavesRoom tables texts (expr_at more j) n (get_or left (first + i) 0)) room
            (subst (λ (n : ℕ). LeavesRoom tables texts (expr_at more j) (get_or middle (first + length exprs + j) 0) (get_or left n 0)) there k))

    pub later_passes : SomePasses tables texts more (first + length exprs) middle → SomePasses tables texts (exprs ++ more) first rooms
    later_passes s =
        let long = length-append exprs more in
        let there : first + length exprs + s.number ≡ first + (length exprs + s.number) = omega arith in
        let room : get_or middle (first + length exprs + s.number) 0 ≡ get_or rooms (first + (length exprs + s.number)) 0 = leaves.behind (first + length exprs + s.number) (omega arith) ∙ ap (λ (n : ℕ). get_or rooms n 0) there in
        record {
          number = length exprs + s.number;
          within = let w = s.within in omega arith;
          passes = subst (λ (e : Expr). PassesRoom tables texts e (get_or rooms (first + (length exprs + s.number)) 0)) (sym (at_back exprs more s.number)) (subst (PassesRoom tables texts (expr_at more s.number)) room s.passes);
        }

  pub earlier_passes : (exprs more : List Expr) (first : ℕ) (rooms : List ℕ) → SomePasses tables texts exprs first rooms → SomePasses tables texts (exprs ++ more) first rooms
  earlier_passes exprs more first rooms s =
      let long = length-append exprs more in
      record { number = s.number; within = let w = s.within in omega arith; passes = subst (λ (e : Expr). PassesRoom tables texts e (get_or rooms (first + s.number) 0)) (sym (at_front exprs more s.number s.within)) s.passes }
