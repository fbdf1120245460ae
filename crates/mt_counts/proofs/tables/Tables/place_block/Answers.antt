use Rattle.std.proofs.Common.{ℕ, List, length, ap₂, sym, subst, ◌∙◌}
use Rattle.std.specs.List.{AllZip}
use Rattle.mt_counts.specs.Tallies.{IsAt}
use Rattle.mt_counts.specs.Notes.{alone_of, columns_of, pairs_of, rows_of}
use Rattle.mt_counts.specs.declared.note.Note.{Note}
use Rattle.mt_counts.proofs.Entries.{grows_none}
use Rattle.mt_counts.proofs.Counting.{alone_below, columns_below, grown_by, grown_none, keys_as, long_as, pairs_below, rows_below}
use Rattle.mt_counts.proofs.tables.Tables.place_block.Goals as goal

pub list_pairs-requires : goal.list_pairs-requires
list_pairs-requires c =
    long_as c.place_again.new.self c.args.block.now.notes.items c.as_slice.result.now c.place_again.new.places.items c.as_slice-2.result.now c.as_slice-3.result.now (c.as_slice.ensures.value ∙ c.in_ok-list.ensures.rows) c.as_slice-2.ensures.value (c.as_slice-3.ensures.value ∙ c.in_ok-list.ensures.columns) c.in_ok-place_again.ensures.places

pub returns-in_err-list-clause-grown : goal.returns-in_err-list-clause-grown
returns-in_err-list-clause-grown c = grown_none c.args.self.now

pub returns-in_err-place_again-clause-grown : goal.returns-in_err-place_again-clause-grown
returns-in_err-place_again-clause-grown c = grown_by c.args.self.now c.place_again.new.self c.args.self.now.both c.args.self.now.columns c.args.self.now.alone
    c.in_err-place_again.ensures.grows (grows_none c.args.self.now.both) (grows_none c.args.self.now.columns) (grows_none c.args.self.now.alone)
    (λ h. c.in_err-place_again.ensures.below (length c.args.self.now.words) (length c.args.self.now.names) h (keys_as (length c.args.self.now.words) (length c.args.self.now.names) (rows_of c.args.block.now.notes.items) c.as_slice.result.now (c.as_slice.ensures.value ∙ c.in_ok-list.ensures.rows) (rows_below c.args.self.now.names c.args.self.now.words c.args.block.now.notes.items c.requires.notes)))
    (λ h. h)
    (λ h. h)
    (λ h. h)

pub returns-in_err-list_pairs-clause-grown : goal.returns-in_err-list_pairs-clause-grown
returns-in_err-list_pairs-clause-grown c = grown_by c.args.self.now c.place_again.new.self c.args.self.now.both c.args.self.now.columns c.args.self.now.alone
    c.in_ok-place_again.ensures.grows (grows_none c.args.self.now.both) (grows_none c.args.self.now.columns) (grows_none c.args.self.now.alone)
    (λ h. c.in_ok-place_again.ensures.below (length c.args.self.now.words) (length c.args.self.now.names) h (keys_as (length c.args.self.now.words) (length c.args.self.now.names) (rows_of c.args.block.now.notes.items) c.as_slice.result.now (c.as_slice.ensures.value ∙ c.in_ok-list.ensures.rows) (rows_below c.args.self.now.names c.args.self.now.words c.args.block.now.notes.items c.requires.notes)))
    (λ h. h)
    (λ h. h)
    (λ h. h)

pub returns-in_err-place_all-clause-grown : goal.returns-in_err-place_all-clause-grown
returns-in_err-place_all-clause-grown c = grown_by c.args.self.now c.place_again.new.self c.place_all.new.self c.args.self.now.columns c.args.self.now.alone
    c.in_ok-place_again.ensures.grows c.in_err-place_all.ensures.grows (grows_none c.args.self.now.columns) (grows_none c.args.self.now.alone)
    (λ h. c.in_ok-place_again.ensures.below (length c.args.self.now.words) (length c.args.self.now.names) h (keys_as (length c.args.self.now.words) (length c.args.self.now.names) (rows_of c.args.block.now.notes.items) c.as_slice.result.now (c.as_slice.ensures.value ∙ c.in_ok-list.ensures.rows) (rows_below c.args.self.now.names c.args.self.now.words c.args.block.now.notes.items c.requires.notes)))
    (λ h. c.in_err-place_all.ensures.below (length c.place_again.new.self) (length c.args.self.now.words) h (keys_as (length c.place_again.new.self) (length c.args.self.now.words) (pairs_of c.place_again.new.places.items (columns_of c.args.block.now.notes.items)) c.as_slice-4.result.now (c.as_slice-4.ensures.value ∙ c.in_ok-list_pairs.ensures ∙ ap₂ (λ (rows : List ℕ) (columns : List (ℕ × ℕ)). pairs_of rows columns) c.as_slice-2.ensures.value (c.as_slice-3.ensures.value ∙ c.in_ok-list.ensures.columns)) (pairs_below c.place_again.new.self (rows_of c.args.block.now.notes.items) (columns_of c.args.block.now.notes.items) c.place_again.new.places.items (length c.args.self.now.words) (length c.args.self.now.names) (subst (λ (ks : List (ℕ × ℕ)). AllZip (IsAt c.place_again.new.self) ks c.place_again.new.places.items) (c.as_slice.ensures.value ∙ c.in_ok-list.ensures.rows) c.in_ok-place_again.ensures.places) (columns_below c.args.self.now.names c.args.self.now.words c.args.block.now.notes.items c.requires.notes))))
    (λ h. h)
    (λ h. h)

pub returns-in_err-place_again-2-clause-grown : goal.returns-in_err-place_again-2-clause-grown
returns-in_err-place_again-2-clause-grown c = grown_by c.args.self.now c.place_again.new.self c.place_all.new.self c.place_again-2.new.self c.args.self.now.alone
    c.in_ok-place_again.ensures.grows c.in_ok-place_all.ensures.grows c.in_err-place_again-2.ensures.grows (grows_none c.args.self.now.alone)
    (λ h. c.in_ok-place_again.ensures.below (length c.args.self.now.words) (length c.args.self.now.names) h (keys_as (length c.args.self.now.words) (length c.args.self.now.names) (rows_of c.args.block.now.notes.items) c.as_slice.result.now (c.as_slice.ensures.value ∙ c.in_ok-list.ensures.rows) (rows_below c.args.self.now.names c.args.self.now.words c.args.block.now.notes.items c.requires.notes)))
    (λ h. c.in_ok-place_all.ensures.below (length c.place_again.new.self) (length c.args.self.now.words) h (keys_as (length c.place_again.new.self) (length c.args.self.now.words) (pairs_of c.place_again.new.places.items (columns_of c.args.block.now.notes.items)) c.as_slice-4.result.now (c.as_slice-4.ensures.value ∙ c.in_ok-list_pairs.ensures ∙ ap₂ (λ (rows : List ℕ) (columns : List (ℕ × ℕ)). pairs_of rows columns) c.as_slice-2.ensures.value (c.as_slice-3.ensures.value ∙ c.in_ok-list.ensures.columns)) (pairs_below c.place_again.new.self (rows_of c.args.block.now.notes.items) (columns_of c.args.block.now.notes.items) c.place_again.new.places.items (length c.args.self.now.words) (length c.args.self.now.names) (subst (λ (ks : List (ℕ × ℕ)). AllZip (IsAt c.place_again.new.self) ks c.place_again.new.places.items) (c.as_slice.ensures.value ∙ c.in_ok-list.ensures.rows) c.in_ok-place_again.ensures.places) (columns_below c.args.self.now.names c.args.self.now.words c.args.block.now.notes.items c.requires.notes))))
    (λ h. c.in_err-place_again-2.ensures.below (length c.args.self.now.words) (length c.args.self.now.names) h (keys_as (length c.args.self.now.words) (length c.args.self.now.names) (columns_of c.args.block.now.notes.items) c.as_slice-5.result.now (c.as_slice-5.ensures.value ∙ c.in_ok-list.ensures.columns) (columns_below c.args.self.now.names c.args.self.now.words c.args.block.now.notes.items c.requires.notes)))
    (λ h. h)

pub returns-in_err-place_again-3-clause-grown : goal.returns-in_err-place_again-3-clause-grown
returns-in_err-place_again-3-clause-grown c = grown_by c.args.self.now c.place_again.new.self c.place_all.new.self c.place_again-2.new.self c.place_again-3.new.self
    c.in_ok-place_again.ensures.grows c.in_ok-place_all.ensures.grows c.in_ok-place_again-2.ensures.grows c.in_err-place_again-3.ensures.grows
    (λ h. c.in_ok-place_again.ensures.below (length c.args.self.now.words) (length c.args.self.now.names) h (keys_as (length c.args.self.now.words) (length c.args.self.now.names) (rows_of c.args.block.now.notes.items) c.as_slice.result.now (c.as_slice.ensures.value ∙ c.in_ok-list.ensures.rows) (rows_below c.args.self.now.names c.args.self.now.words c.args.block.now.notes.items c.requires.notes)))
    (λ h. c.in_ok-place_all.ensures.below (length c.place_again.new.self) (length c.args.self.now.words) h (keys_as (length c.place_again.new.self) (length c.args.self.now.words) (pairs_of c.place_again.new.places.items (columns_of c.args.block.now.notes.items)) c.as_slice-4.result.now (c.as_slice-4.ensures.value ∙ c.in_ok-list_pairs.ensures ∙ ap₂ (λ (rows : List ℕ) (columns : List (ℕ × ℕ)). pairs_of rows columns) c.as_slice-2.ensures.value (c.as_slice-3.ensures.value ∙ c.in_ok-list.ensures.columns)) (pairs_below c.place_again.new.self (rows_of c.args.block.now.notes.items) (columns_of c.args.block.now.notes.items) c.place_again.new.places.items (length c.args.self.now.words) (length c.args.self.now.names) (subst (λ (ks : List (ℕ × ℕ)). AllZip (IsAt c.place_again.new.self) ks c.place_again.new.places.items) (c.as_slice.ensures.value ∙ c.in_ok-list.ensures.rows) c.in_ok-place_again.ensures.places) (columns_below c.args.self.now.names c.args.self.now.words c.args.block.now.notes.items c.requires.notes))))
    (λ h. c.in_ok-place_again-2.ensures.below (length c.args.self.now.words) (length c.args.self.now.names) h (keys_as (length c.args.self.now.words) (length c.args.self.now.names) (columns_of c.args.block.now.notes.items) c.as_slice-5.result.now (c.as_slice-5.ensures.value ∙ c.in_ok-list.ensures.columns) (columns_below c.args.self.now.names c.args.self.now.words c.args.block.now.notes.items c.requires.notes)))
    (λ h. c.in_err-place_again-3.ensures.below (length c.args.self.now.words) (length c.args.self.now.names) h (keys_as (length c.args.self.now.words) (length c.args.self.now.names) (alone_of c.args.block.now.notes.items) c.as_slice-6.result.now (c.as_slice-6.ensures.value ∙ c.in_ok-list.ensures.alone) (alone_below c.args.self.now.names c.args.self.now.words c.args.block.now.notes.items c.requires.notes)))

pub returns-clause-grown : goal.returns-clause-grown
returns-clause-grown c = grown_by c.args.self.now c.place_again.new.self c.place_all.new.self c.place_again-2.new.self c.place_again-3.new.self
    c.in_ok-place_again.ensures.grows c.in_ok-place_all.ensures.grows c.in_ok-place_again-2.ensures.grows c.in_ok-place_again-3.ensures.grows
    (λ h. c.in_ok-place_again.ensures.below (length c.args.self.now.words) (length c.args.self.now.names) h (keys_as (length c.args.self.now.words) (length c.args.self.now.names) (rows_of c.args.block.now.notes.items) c.as_slice.result.now (c.as_slice.ensures.value ∙ c.in_ok-list.ensures.rows) (rows_below c.args.self.now.names c.args.self.now.words c.args.block.now.notes.items c.requires.notes)))
    (λ h. c.in_ok-place_all.ensures.below (length c.place_again.new.self) (length c.args.self.now.words) h (keys_as (length c.place_again.new.self) (length c.args.self.now.words) (pairs_of c.place_again.new.places.items (columns_of c.args.block.now.notes.items)) c.as_slice-4.result.now (c.as_slice-4.ensures.value ∙ c.in_ok-list_pairs.ensures ∙ ap₂ (λ (rows : List ℕ) (columns : List (ℕ × ℕ)). pairs_of rows columns) c.as_slice-2.ensures.value (c.as_slice-3.ensures.value ∙ c.in_ok-list.ensures.columns)) (pairs_below c.place_again.new.self (rows_of c.args.block.now.notes.items) (columns_of c.args.block.now.notes.items) c.place_again.new.places.items (length c.args.self.now.words) (length c.args.self.now.names) (subst (λ (ks : List (ℕ × ℕ)). AllZip (IsAt c.place_again.new.self) ks c.place_again.new.places.items) (c.as_slice.ensures.value ∙ c.in_ok-list.ensures.rows) c.in_ok-place_again.ensures.places) (columns_below c.args.self.now.names c.args.self.now.words c.args.block.now.notes.items c.requires.notes))))
    (λ h. c.in_ok-place_again-2.ensures.below (length c.args.self.now.words) (length c.args.self.now.names) h (keys_as (length c.args.self.now.words) (length c.args.self.now.names) (columns_of c.args.block.now.notes.items) c.as_slice-5.result.now (c.as_slice-5.ensures.value ∙ c.in_ok-list.ensures.columns) (columns_below c.args.self.now.names c.args.self.now.words c.args.block.now.notes.items c.requires.notes)))
    (λ h. c.in_ok-place_again-3.ensures.below (length c.args.self.now.words) (length c.args.self.now.names) h (keys_as (length c.args.self.now.words) (length c.args.self.now.names) (alone_of c.args.block.now.notes.items) c.as_slice-6.result.now (c.as_slice-6.ensures.value ∙ c.in_ok-list.ensures.alone) (alone_below c.args.self.now.names c.args.self.now.words c.args.block.now.notes.items c.requires.notes)))

pub returns-clause-placed : goal.returns-clause-placed
returns-clause-placed c =
    let same = sym c.in_ok-list.ensures.notes in
    record {
      rows = subst (λ (ns : List Note). AllZip (IsAt c.place_again.new.self) (rows_of ns) c.place_again.new.places.items) same (subst (λ (ks : List (ℕ × ℕ)). AllZip (IsAt c.place_again.new.self) ks c.place_again.new.places.items) (c.as_slice.ensures.value ∙ c.in_ok-list.ensures.rows) c.in_ok-place_again.ensures.places);
      both = subst (λ (ns : List Note). AllZip (IsAt c.place_all.new.self) (pairs_of c.place_again.new.places.items (columns_of ns)) c.place_all.new.places.items) same
          (subst (λ (ks : List (ℕ × ℕ)). AllZip (IsAt c.place_all.new.self) ks c.place_all.new.places.items) (c.as_slice-4.ensures.value ∙ c.in_ok-list_pairs.ensures ∙ ap₂ (λ (rows : List ℕ) (columns : List (ℕ × ℕ)). pairs_of rows columns) c.as_slice-2.ensures.value (c.as_slice-3.ensures.value ∙ c.in_ok-list.ensures.columns)) c.in_ok-place_all.ensures.places);
      columns = subst (λ (ns : List Note). AllZip (IsAt c.place_again-2.new.self) (columns_of ns) c.place_again-2.new.places.items) same
          (subst (λ (ks : List (ℕ × ℕ)). AllZip (IsAt c.place_again-2.new.self) ks c.place_again-2.new.places.items) (c.as_slice-5.ensures.value ∙ c.in_ok-list.ensures.columns) c.in_ok-place_again-2.ensures.places);
      alone = subst (λ (ns : List Note). AllZip (IsAt c.place_again-3.new.self) (alone_of ns) c.place_again-3.new.places.items) same
          (subst (λ (ks : List (ℕ × ℕ)). AllZip (IsAt c.place_again-3.new.self) ks c.place_again-3.new.places.items) (c.as_slice-6.ensures.value ∙ c.in_ok-list.ensures.alone) c.in_ok-place_again-3.ensures.places);
    }
