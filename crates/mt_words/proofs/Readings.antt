-- The words say one thing.
use Rattle.std.proofs.Common.{◌≡◌, ℕ, List, Option, Some, None, refl, sym, ◌∙◌, ap, arith}
use Rattle.clap.specs.Words.{Text}
use Rattle.mt_words.specs.Words.{SaysWorkers, SaysDemo, IsGood, most_workers, most_texts}
use Rattle.mt_words.specs.declared.Options.{Options}
use Rattle.mt_words.proofs.Numbers.{one_number}

same_workers : (value : Option Text) (one other : ℕ) → SaysWorkers value one → SaysWorkers value other → one ≡ other
same_workers None one other a b = a ∙ sym b
same_workers (Some text) one other a b = one_number most_workers one other text (omega arith) a b

same_demo : (value : Option Text) (one other : Option ℕ) → SaysDemo value one → SaysDemo value other → one ≡ other
same_demo None None None a b = refl
same_demo None None (Some m) a b = absurd b
same_demo None (Some n) other a b = absurd a
same_demo (Some text) None other a b = absurd a
same_demo (Some text) (Some n) None a b = absurd b
same_demo (Some text) (Some n) (Some m) a b = ap Some (one_number most_texts n m text (omega arith) a b)

pub one_reading : (words : List Text) (one other : Options) → IsGood words one → IsGood words other → one ≡ other
one_reading words one other a b =
    let w = same_workers _ one.workers other.workers a.workers b.workers in
    let d = same_demo _ one.demo other.demo a.demo b.demo in
    λ i. record { workers = w i; demo = d i }
