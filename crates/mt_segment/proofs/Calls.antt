-- Calls of mappers, whether memory ran out half-way or not.
use Rattle.std.proofs.Common.{◌≡◌, ℕ, ◌+◌, ◌<◌, ◌≤◌, List, length, get_or, Result, Ok, Err, refl, sym, subst, arith}
use Rattle.std.specs.Result.{IsErr}
use Rattle.mt_mapper.specs.Calls.{counted, CountedAtMost}
use Rattle.mt_segment.specs.Mappers.{AreCalled, Called}

-- ---- counts

-- no call leaves a count as it is
counted_none : (calls : ℕ) → counted calls 0 ≡ calls
counted_none calls = grind arith

-- calls, and then more calls
pub counted_more : (calls first second : ℕ) → counted (counted calls first) second ≡ counted calls (first + second)
counted_more calls first second = grind arith

-- ---- one mapper

-- all calls were made, whatever came then
pub called_all : {T E : Type 0} (due old new : ℕ) (answer : Result T E) → new ≡ counted old due → Called due old new answer
called_all due old new (Ok _) e = record { all = e; halfway = tt }
called_all due old new (Err _) e = record { all = tt; halfway = record { more = due; few = omega arith; are = e } }

-- at most so many of them, and then memory ran out
pub called_part : {T E : Type 0} (due old new : ℕ) (answer : Result T E) → IsErr answer → CountedAtMost old due new → Called due old new answer
called_part due old new (Ok _) is h = cc
called_part due old new (Err _) is h = record { all = tt; halfway = h }

pub called_some : {T E : Type 0} (due done old new : ℕ) (answer : Result T E) → IsErr answer → done ≤ due → new ≡ counted old done → Called due old new answer
called_some due done old new answer is few e = called_part due old new answer is (record { more = done; few = few; are = e })

-- no call was due
pub not_called : {T E : Type 0} (x : ℕ) (answer : Result T E) → Called 0 x x answer
not_called x answer = called_all 0 x x answer (sym (counted_none x))

-- what a call's answer says of its calls is said of another answer too
pub all_of : {T E : Type 0} (due old new : ℕ) (answer : Result T E) (value : T) → answer ≡ Ok value → Called due old new answer → new ≡ counted old due
all_of due old new (Ok _) value e h = h.all
all_of due old new (Err _) value e h = cc

pub halfway_of : {T E : Type 0} (due old new : ℕ) (answer : Result T E) (error : E) → answer ≡ Err error → Called due old new answer → CountedAtMost old due new
halfway_of due old new (Ok _) error e h = cc
halfway_of due old new (Err _) error e h = h.halfway

pub called_then : {T U E : Type 0} (due old new : ℕ) (first : Result T E) (value : T) (answer : Result U E) → first ≡ Ok value → Called due old new first → Called due old new answer
called_then due old new first value answer e h = called_all due old new answer (all_of due old new first value e h)

pub called_until : {T U E : Type 0} (due old new : ℕ) (first : Result T E) (error : E) (answer : Result U E) → first ≡ Err error → IsErr answer → Called due old new first → Called due old new answer
called_until due old new first error answer e is h = called_part due old new answer is (halfway_of due old new first error e h)

-- ---- several mappers

-- each was called so often
pub record AreCounted (due : ℕ → ℕ) (old new : List ℕ) : Type 0 where
  pub count : length new ≡ length old
  pub at : (mapper : ℕ) → mapper < length old → get_or new mapper 0 ≡ counted (get_or old mapper 0) (due mapper)

pub are_counted : {T E : Type 0} (due : ℕ → ℕ) (old new : List ℕ) (answer : Result T E) (value : T) → answer ≡ Ok value → AreCalled due old new answer → AreCounted due old new
are_counted due old new answer value e h = record { count = h.count; at = λ m l. all_of (due m) (get_or old m 0) (get_or new m 0) answer value e (h.each m l) }

pub all_called : {T E : Type 0} (due : ℕ → ℕ) (old new : List ℕ) (answer : Result T E) → AreCounted due old new → AreCalled due old new answer
all_called due old new answer h = record { count = h.count; each = λ m l. called_all (due m) (get_or old m 0) (get_or new m 0) answer (h.at m l) }

pub are_called_then : {T U E : Type 0} (due : ℕ → ℕ) (old new : List ℕ) (first : Result T E) (value : T) (answer : Result U E) → first ≡ Ok value → AreCalled due old new first → AreCalled due old new answer
are_called_then due old new first value answer e h = all_called due old new answer (are_counted due old new first value e h)

pub are_called_until : {T U E : Type 0} (due : ℕ → ℕ) (old new : List ℕ) (first : Result T E) (error : E) (answer : Result U E) → first ≡ Err error → IsErr answer → AreCalled due old new first → AreCalled due old new answer
are_called_until due old new first error answer e is h = record { count = h.count; each = λ m l. called_until (due m) (get_or old m 0) (get_or new m 0) first error answer e is (h.each m l) }

-- no mapper was called
pub none_due : {T E : Type 0} (counts : List ℕ) (answer : Result T E) → AreCalled (λ m. 0) counts counts answer
none_due counts answer = record { count = refl; each = λ m l. not_called (get_or counts m 0) answer }

pub none_called : {T E : Type 0} (due : ℕ → ℕ) (counts : List ℕ) (answer : Result T E) → IsErr answer → AreCalled due counts counts answer
none_called due counts answer is = record { count = refl; each = λ m l. called_some (due m) 0 (get_or counts m 0) (get_or counts m 0) answer is (omega arith) (sym (counted_none (get_or counts m 0))) }

pub same_due : {T E : Type 0} (due other : ℕ → ℕ) (old new : List ℕ) (answer : Result T E) → ((m : ℕ) → due m ≡ other m) → AreCalled due old new answer → AreCalled other old new answer
same_due due other old new answer e h = record { count = h.count; each = λ m l. subst (λ (n : ℕ). Called n (get_or old m 0) (get_or new m 0) answer) (e m) (h.each m l) }
