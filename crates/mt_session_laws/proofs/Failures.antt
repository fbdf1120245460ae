-- Lines that tell of a failure of the shelf.
use Rattle.std.proofs.Common.{◌≡◌, ℕ, zero, suc, ◌+◌, ◌<◌, ◌≤◌, Bool, true, false, List, [], ◌∷◌, ◌++◌, length, get_or, arith, refl, sym, ap, subst, codes, cond}
use Rattle.std.specs.List.{Contains, count_by}
use Rattle.std.specs.Str.{bytes_eq}
use Rattle.std.proofs.lemmas.List.{append_cancel_left}
use Rattle.std.proofs.lemmas.List.Sums.{sum_by-append, sum_by-cons}
use Rattle.std.proofs.lemmas.Slice.Eq.{bytes_eq-Decides}
use Rattle.mt_session_spec.specs.Gains.{Gained}
use Rattle.mt_session_spec.specs.Refusals as refusal
use Rattle.mt_session_spec.specs.Refusals.{Refusal, refusal_line, failure_line, no_memory_line, pattern_refused_line}
use Rattle.mt_session_spec.specs.Answers.{Answer, Refused, Lines}
use Rattle.mt_session_spec.specs.Laws.{tells_failure, told_failures}

-- ## Which lines tell of one

abbrev third : List ℕ → ℕ
third line = get_or line 2 0

abbrev fourth : List ℕ → ℕ
fourth line = get_or line 3 0

apart : (a b c d : ℕ) → a ≡ c → b ≡ d → (c < d) → a ≡ b → ⊥
apart a b c d e f l h = omega arith

pub no_failure : (given : Refusal) (file : List ℕ) → refusal_line given ≡ failure_line file → ⊥
no_failure refusal.BadCommand file e = apart 49 50 49 50 refl refl (omega arith) (ap third e)
no_failure refusal.CutShort file e = apart 49 50 49 50 refl refl (omega arith) (ap third e)
no_failure refusal.RegistryLate file e = apart 49 50 49 50 refl refl (omega arith) (ap third e)
no_failure (refusal.NameTaken name) file e = apart 49 50 49 50 refl refl (omega arith) (ap third e)
no_failure (refusal.NoSuchFile missing) file e = apart 49 50 49 50 refl refl (omega arith) (ap third e)
no_failure (refusal.FileTooLong long) file e = apart 49 50 49 50 refl refl (omega arith) (ap third e)
no_failure (refusal.BadRegistry line cause) file e = apart 49 50 49 50 refl refl (omega arith) (ap third e)
no_failure refusal.NoAttribute file e = apart 49 50 49 50 refl refl (omega arith) (ap third e)
no_failure (refusal.BadVertical line cause) file e = apart 49 50 49 50 refl refl (omega arith) (ap third e)
no_failure (refusal.BadQuery at cause) file e = apart 49 50 49 50 refl refl (omega arith) (ap third e)
no_failure (refusal.UnknownName name) file e = apart 49 50 49 50 refl refl (omega arith) (ap third e)
no_failure (refusal.BadPattern k) file e = apart 48 57 48 57 refl refl (omega arith) (ap fourth e)
no_failure refusal.TooManyRows file e = apart 50 57 50 57 refl refl (omega arith) (ap fourth e)
no_failure refusal.CorpusFull file e = apart 51 57 51 57 refl refl (omega arith) (ap fourth e)
no_failure refusal.NoGrammar file e = apart 53 57 53 57 refl refl (omega arith) (ap fourth e)
no_failure (refusal.BadGrammar line cause) file e = apart 54 57 54 57 refl refl (omega arith) (ap fourth e)
no_failure refusal.NoRelation file e = apart 54 57 54 57 refl refl (omega arith) (ap fourth e)
no_failure refusal.QueryTooLarge file e = apart 55 57 55 57 refl refl (omega arith) (ap fourth e)
no_failure (refusal.NoSuchText name) file e = apart 50 51 50 51 refl refl (omega arith) (sym (ap third e))

pub no_refused : (k : ℕ) (file : List ℕ) → pattern_refused_line k ≡ failure_line file → ⊥
no_refused k file e = apart 49 57 49 57 refl refl (omega arith) (ap fourth e)

pub no_want : (file : List ℕ) → no_memory_line ≡ failure_line file → ⊥
no_want file e = apart 50 51 50 51 refl refl (omega arith) (sym (ap third e))

same_file : (file other : List ℕ) → failure_line other ≡ failure_line file → other ≡ file
same_file file other e = append_cancel_left (codes "! 29 ShelfFailed ") other file e

-- ## Counts

-- an answer of lines tells of none
pub none_told : (answer : Answer) (lines : List (List ℕ)) (file : List ℕ) → answer ≡ Lines lines → told_failures file (answer ∷ []) ≡ 0
none_told answer lines file e = ap (λ (a : Answer). told_failures file (a ∷ [])) e

-- a line that tells of none
pub one_untold : (line file : List ℕ) → (line ≡ failure_line file → ⊥) → told_failures file (Refused line ∷ []) ≡ 0
one_untold line file none = by (bytes_eq line (failure_line file)) refl
  where
    by : (b : Bool) → bytes_eq line (failure_line file) ≡ b → told_failures file (Refused line ∷ []) ≡ 0
    by true e = absurd (none ((bytes_eq-Decides line (failure_line file)).0 e))
    by false e = ap (λ (b : Bool). 0 + cond b 1 0) e

one_there : (file : List ℕ) (xs : List (List ℕ)) (k : ℕ) → k < length xs → get_or xs k file ≡ file → 0 < count_by (λ name. bytes_eq name file) xs
one_there file [] k l e = absurd (omega arith)
one_there file (x ∷ xs) zero l e =
    let yes : bytes_eq x file ≡ true = (bytes_eq-Decides x file).1 e in
    let one : cond (bytes_eq x file) 1 0 ≡ suc zero = ap (λ (b : Bool). cond b 1 0) yes in
    let all : count_by (λ name. bytes_eq name file) (x ∷ xs) ≡ cond (bytes_eq x file) 1 0 + count_by (λ name. bytes_eq name file) xs = sum_by-cons (λ (name : List ℕ). cond (bytes_eq name file) 1 0) x xs in
    omega (arith, one, all)
one_there file (x ∷ xs) (suc k) l e =
    let more = one_there file xs k (omega arith) e in
    let all : count_by (λ name. bytes_eq name file) (x ∷ xs) ≡ cond (bytes_eq x file) 1 0 + count_by (λ name. bytes_eq name file) xs = sum_by-cons (λ (name : List ℕ). cond (bytes_eq name file) 1 0) x xs in
    omega (arith, more, all)

-- the line of a failure that was gained
pub one_told : (other file : List ℕ) (gained : Gained) → Contains gained.failed other → told_failures file (Refused (failure_line other) ∷ []) ≤ count_by (λ name. bytes_eq name file) gained.failed
one_told other file gained there = by (bytes_eq (failure_line other) (failure_line file)) refl
  where
    by : (b : Bool) → bytes_eq (failure_line other) (failure_line file) ≡ b → told_failures file (Refused (failure_line other) ∷ []) ≤ count_by (λ name. bytes_eq name file) gained.failed
    by true e =
        let same : other ≡ file = same_file file other ((bytes_eq-Decides (failure_line other) (failure_line file)).0 e) in
        let at = subst (λ (name : List ℕ). Contains gained.failed name) same there in
        let one = one_there file gained.failed at.0 at.1 at.2 in
        let count : told_failures file (Refused (failure_line other) ∷ []) ≡ 1 = ap (λ (b : Bool). 0 + cond b 1 0) e in
        omega (arith, one, count)
    by false e =
        let count : told_failures file (Refused (failure_line other) ∷ []) ≡ 0 = ap (λ (b : Bool). 0 + cond b 1 0) e in
        omega (arith, count)

-- the counts of two parts
pub told_then : (answer : Answer) (answers : List Answer) (file : List ℕ) → told_failures file (answer ∷ answers) ≡ told_failures file (answer ∷ []) + told_failures file answers
told_then answer answers file = sum_by-append (λ (a : Answer). cond (tells_failure file a) 1 0) (answer ∷ []) answers

pub gained_split : (here later : Gained) (file : List ℕ) → count_by (λ name. bytes_eq name file) (here.failed ++ later.failed) ≡
    count_by (λ name. bytes_eq name file) here.failed + count_by (λ name. bytes_eq name file) later.failed
gained_split here later file = sum_by-append (λ (name : List ℕ). cond (bytes_eq name file) 1 0) here.failed later.failed
