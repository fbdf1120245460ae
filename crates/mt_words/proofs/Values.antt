-- The first value of an option, as `clap` looks it up and as its rows tell it.
use Rattle.std.proofs.Common.{◌≡◌, Bool, true, false, List, [], ◌∷◌, refl, sym, map, option_map}
use Rattle.std.specs.Prelude.{slice_get, find, option_and_then}
use Rattle.std.specs.Str.{bytes_eq}
use Rattle.std.specs.Borrow.{Bor}
use Rattle.std.proofs.lemmas.Option.{slice_get-map}
use Rattle.clap.specs.Words.{Text, first_of, first_value, rows_of}
use Rattle.clap.specs.Facts.{Entry}
use Rattle.clap.specs.Walk.{row_of}
use Rattle.clap.specs.declared.parser.matches.Found.{Found}

in_entries : (id : Text) (entries : List Entry) → first_of id (map row_of entries)
    ≡ option_and_then (λ a. option_map (λ s. s.now) (slice_get a.vals.items 0)) (option_map (λ e. e.1) (find (λ e. bytes_eq e.0.now id) entries))
in_entries id [] = refl
in_entries id (e ∷ rest) = go (bytes_eq e.0.now id) refl (in_entries id rest)
  where
    go : (same : Bool) → bytes_eq e.0.now id ≡ same
        → first_of id (map row_of rest) ≡ option_and_then (λ a. option_map (λ s. s.now) (slice_get a.vals.items 0)) (option_map (λ x. x.1) (find (λ x. bytes_eq x.0.now id) rest))
        → first_of id (map row_of (e ∷ rest))
        ≡ option_and_then (λ a. option_map (λ s. s.now) (slice_get a.vals.items 0)) (option_map (λ x. x.1) (find (λ x. bytes_eq x.0.now id) (e ∷ rest)))
    go true is more = rw is (slice_get-map (λ (s : Bor Text). s.now) e.1.vals.items 0)
    go false is more = rw is more

pub first_is : (found : Found) (id : Text) → first_value found id ≡ first_of id (rows_of found)
first_is found id = sym (in_entries id found.entries.items)
