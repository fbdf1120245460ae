-- The rows of a test of a token in the texts so far, and then in those of one segment more.
use Rattle.std.proofs.Common.{◌≡◌, ℕ, ◌+◌, ◌<◌, List, [], ◌∷◌, ◌++◌, length, length-append, map, get_or, take, sym, subst, arith}
use Rattle.std.specs.List.{All, Contains}
use Rattle.std.proofs.lemmas.List.{get_or-replicate, length-map}
use Rattle.mt_text_spec.specs.Queries.{Test, Expr, TokenTest, Query}
use Rattle.mt_text_spec.specs.Registries.{Registry}
use Rattle.mt_text_spec.specs.Texts.{Text, Row}
use Rattle.mt_match_spec.specs.Kept.{HasTooMany, operand_rows_limit}
use Rattle.mt_match_spec.specs.Values.{Images}
use Rattle.mt_match_laws.specs.Laws.{HaveRows}
use Rattle.mt_segment_spec.specs.Tables.{Tables, AreTablesUnder, token_count}
use Rattle.mt_corpus_spec.specs.Groups.{Group, corpus_of, live_texts}
use Rattle.mt_corpus_spec.specs.Segments.{live_numbers}
use Rattle.mt_corpus_laws.specs.Joined.{RowsAreJoined, RowsGoOn, placed}
use Rattle.mt_eval_spec.specs.RowsIn.{RowsIn, expr_at, heads}
use Rattle.mt_eval_spec.specs.Told.{HoldsAt}
use Rattle.mt_eval_laws.specs.Laws.{HaveRowsIn}
use Rattle.mt_search.specs.Finds.{IsNext}
use Rattle.mt_search.proofs.Finding.{found_nothing}
use Rattle.mt_search.proofs.Groups.{too_many_in_all}
use Rattle.mt_tally.specs.Counts.{CountsBelow}
use Rattle.mt_totals.specs.Totals.{HasRowTotal, IsTokenAlone}
use Rattle.mt_totals.specs.Whole.{IsWhole}
use Rattle.mt_totals.proofs.Standing.{rows_counted}
use Rattle.mt_totals.proofs.AllLive.{all_live, as_many_texts}

-- ## Nothing yet

pub no_rows : (images : Images) (registry : Registry) (query : Query) → HasRowTotal images registry [] query.head 0
no_rows images registry query =
    let leaves = (found_nothing images registry query).leaves 0 (omega arith) in
    let split = leaves.split in
    let room = get_or-replicate (length (heads query)) 0 operand_rows_limit 0 (omega arith) in
    record { rows = leaves.rows; are = leaves.are; counted = omega (arith, split, room) }

-- ## One segment more

module _ (images : Images) (registry : Registry) (corpus : List Text) (query : Query) (group : Group) (tables : Tables) (live : List ℕ) (next : IsNext images registry query group tables live) (whole : IsWhole group) where
  -- the number of the rows in a segment
  its_rows : (label : ℕ) (test : Test) (count : ℕ) (rows : List Row) → CountsBelow (token_count tables) (HoldsAt tables test) count → RowsIn tables (live_numbers 0 group) (TokenTest label test) rows → length rows ≡ count
  its_rows label test count rows c are =
      let texts = as_many_texts images registry group tables next.tell.are in
      rows_counted tables (live_numbers 0 group) label test (λ text l. subst (Contains (live_numbers 0 group)) (let e : 0 + text ≡ text = omega arith in e) (all_live 0 group whole text (omega (arith, l, texts)))) rows count are c

  pub one_more : RowsAreJoined → HaveRowsIn → AreTablesUnder registry tables → (alone : IsTokenAlone query) (count before after : ℕ) → CountsBelow (token_count tables) (HoldsAt tables alone.test) count → after ≡ before + count →
      HasRowTotal images registry corpus query.head before → HasRowTotal images registry (corpus ++ live_texts group) query.head after
  one_more law have under alone count before after c sum old =
      let (rows, are) = have registry tables (live_numbers 0 group) query.head under next.fits.head in
      let many = its_rows alone.label alone.test count rows c (subst (λ (e : Expr). RowsIn tables (live_numbers 0 group) e rows) alone.head are) in
      let both = length-append old.rows (map (placed (length corpus) (live_numbers 0 group)) rows) in
      let same = length-map rows (placed (length corpus) (live_numbers 0 group)) in
      let was = old.counted in
      record {
        rows = old.rows ++ map (placed (length corpus) (live_numbers 0 group)) rows;
        are = law images registry corpus group tables query.head old.rows rows next.fits.head next.tell old.are are;
        counted = omega (arith, many, both, same, was, sum);
      }

-- the tables of a segment are such
pub are_tables : (registry : Registry) (segments : List Tables) (i : ℕ) (tables : Tables) → All (AreTablesUnder registry) segments → i < length segments → tables ≡ get_or segments i tables → AreTablesUnder registry tables
are_tables registry segments i tables all l e = subst (AreTablesUnder registry) (sym e) (all i tables l)

-- ## Too many

-- what has too many rows in the texts up to a group has too many in all
pub too_many : HaveRows → RowsGoOn → (images : Images) (registry : Registry) (groups : List Group) (i : ℕ) (expr : Expr) (total : ℕ) → i < length groups → operand_rows_limit < total →
    HasRowTotal images registry (corpus_of (take i groups) ++ live_texts (get_or groups i [])) expr total → HasTooMany images registry (corpus_of groups) expr
too_many have law images registry groups i expr total l more has =
    let is = has.counted in
    let some = too_many_in_all have law images registry groups i [] (expr ∷ []) l (record { number = 0; within = omega arith; has = record { rows = has.rows; are = has.are; more = omega (arith, is, more) } }) in
    let low = some.within in
    subst (λ (k : ℕ). HasTooMany images registry (corpus_of groups) (expr_at (expr ∷ []) k)) (let e : some.number ≡ 0 = omega (arith, low) in e) some.has
