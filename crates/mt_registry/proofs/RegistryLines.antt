-- Lines of a registry file that are refused, and what is so between two lines.
use Rattle.std.proofs.Common.{ℕ, ◌≡◌, ◌+◌, ◌≤◌, ◌⊎◌, inl, inr, Bool, true, List, [], ◌∷◌, ◌++◌, length, refl, sym, ◌∙◌, ap, subst, arith, append_assoc, Option, None, Some}
use Rattle.std.specs.Prelude.{IsTrue}
use Rattle.std.specs.List.{cons_option}
use Rattle.std.proofs.lemmas.List.Elements.{All-cons, All-nil}
use Rattle.mt_file_spec.specs.RegistryFile.{Form, Entry, Block, Effect, Statement, Line, IsRefused, NoForm, NotUtf8, NoName, Stray, Unopened, TooDeep, form_of, stated, statement_in, statement_of, statements_of, lines_from, behind_all, behind, is_declaring, keyword_of}
use Rattle.mt_text_spec.specs.Words.{IsIdentifier}
use Rattle.mt_registry.specs.ReadLines.{IsBadValue, IsBadPlace, IsUnnamed, Refuses, FirstRefused, IsFirstRefused, form_effect, with_option}

abbrev line_at : ℕ → List ℕ → List Block → Line
line_at number text open_blocks = record { number = number; text = text; blocks = open_blocks }

-- ## An entry that is refused

-- what is known where a line is an entry
pub record AtEntry (number : ℕ) (text : List ℕ) (open_blocks : List Block) (key value : List ℕ) (opens : Bool) (effect : Option Effect) : Type 0 where
  pub form : form_of text ≡ Entry key value opens
  pub states : statement_of (line_at number text open_blocks) ≡ stated number value effect

pub at_entry : (number : ℕ) (text : List ℕ) (open_blocks : List Block) (form : Form) (key value : List ℕ) (opens : Bool) (effect : Option Effect) →
    form ≡ form_of text → form ≡ Entry key value opens → effect ≡ form_effect number open_blocks form → AtEntry number text open_blocks key value opens effect
at_entry number text open_blocks form key value opens effect of is e =
    let here : form_of text ≡ Entry key value opens = sym of ∙ is in
    record {
      form = here;
      states = ap (statement_in number open_blocks) here ∙ ap (stated number value) (sym (e ∙ ap (form_effect number open_blocks) is));
    }

unnamed : (number : ℕ) (text : List ℕ) (open_blocks : List Block) (key value : List ℕ) (opens : Bool) (effect : Option Effect) → AtEntry number text open_blocks key value opens effect →
    IsUnnamed value effect → IsRefused (line_at number text open_blocks)
unnamed number text open_blocks key value opens None a bad = absurd bad
unnamed number text open_blocks key value opens (Some effect) a bad =
    NoName (record { line = number; keyword = effect.keyword; place = effect.place; value = value }) a.states bad.0 bad.1

bad_value : (number : ℕ) (text : List ℕ) (open_blocks : List Block) (key value : List ℕ) (opens : Bool) (effect : Option Effect) → AtEntry number text open_blocks key value opens effect →
    IsBadValue text value effect → IsRefused (line_at number text open_blocks)
bad_value number text open_blocks key value opens effect a (inl bad) = NotUtf8 (λ skipped. let f = a.form in cc) bad
bad_value number text open_blocks key value opens effect a (inr bad) = unnamed number text open_blocks key value opens effect a bad

deep : (number : ℕ) (text : List ℕ) (open_blocks : List Block) (key value : List ℕ) (opens : Bool) → form_of text ≡ Entry key value opens → opens ≡ true → 2 ≤ length open_blocks →
    IsRefused (line_at number text open_blocks)
deep number text open_blocks key value opens form opened high = TooDeep key value (form ∙ ap (Entry key value) opened) high

bad_place : (number : ℕ) (text : List ℕ) (open_blocks : List Block) (key value : List ℕ) (opens : Bool) (effect : Option Effect) → AtEntry number text open_blocks key value opens effect →
    IsBadPlace open_blocks key opens → IsRefused (line_at number text open_blocks)
bad_place number text open_blocks key value opens effect a (inl bad) = deep number text open_blocks key value opens a.form bad.0 bad.1
bad_place number text open_blocks key value opens effect a (inr bad) = Stray key value opens a.form bad.1 bad.0

named_wrong : (number : ℕ) (value : List ℕ) (effect : Option Effect) (statement : Statement) → stated number value effect ≡ Some statement → is_declaring statement.keyword ≡ true →
    (IsIdentifier statement.value → ⊥) → IsUnnamed value effect
named_wrong number value None statement e declaring bad = cc
named_wrong number value (Some effect) statement e declaring bad =
    let same : record { line = number; keyword = effect.keyword; place = effect.place; value = value } ≡ statement = cc in
    (ap (λ s. is_declaring s.keyword) same ∙ declaring, λ good. bad (subst (λ (s : Statement). IsIdentifier s.value) same good))

why_refused : (number : ℕ) (text : List ℕ) (open_blocks : List Block) (key value : List ℕ) (opens : Bool) (effect : Option Effect) → AtEntry number text open_blocks key value opens effect →
    IsRefused (line_at number text open_blocks) → IsBadValue text value effect ⊎ IsBadPlace open_blocks key opens
why_refused number text open_blocks key value opens effect a (NoForm e) = let f = a.form in cc
why_refused number text open_blocks key value opens effect a (NotUtf8 other bad) = inl (inl bad)
why_refused number text open_blocks key value opens effect a (NoName statement e declaring bad) =
    inl (inr (named_wrong number value effect statement (sym a.states ∙ e) declaring bad))
why_refused number text open_blocks key value opens effect a (Stray k v o e keyword heeded) =
    let same : k ≡ key = (let f = a.form in cc) in
    inr (inr (heeded, ap keyword_of (sym same) ∙ keyword))
why_refused number text open_blocks key value opens effect a (Unopened e none) = let f = a.form in cc
why_refused number text open_blocks key value opens effect a (TooDeep k v e high) =
    let opened : opens ≡ true = (let f = a.form in cc) in inr (inl (opened, high))

pub entry_refused : (number : ℕ) (text : List ℕ) (open_blocks : List Block) (key value : List ℕ) (opens : Bool) (effect : Option Effect) (b : Bool) →
    AtEntry number text open_blocks key value opens effect → b ≡ true → IsBadValue text value effect →
    (IsTrue b → IsRefused (line_at number text open_blocks)) × (IsRefused (line_at number text open_blocks) → IsTrue b)
entry_refused number text open_blocks key value opens effect b a holds bad = (λ _. bad_value number text open_blocks key value opens effect a bad, λ _. holds)

by_place : (open_blocks : List Block) (text key value : List ℕ) (opens : Bool) (effect : Option Effect) (b : Bool) → (IsBadValue text value effect → ⊥) → (IsBadPlace open_blocks key opens → IsTrue b) →
    IsBadValue text value effect ⊎ IsBadPlace open_blocks key opens → IsTrue b
by_place open_blocks text key value opens effect b good only (inl bad) = absurd (good bad)
by_place open_blocks text key value opens effect b good only (inr bad) = only bad

pub entry_placed : (number : ℕ) (text : List ℕ) (open_blocks : List Block) (key value : List ℕ) (opens : Bool) (effect : Option Effect) (b : Bool) →
    AtEntry number text open_blocks key value opens effect → (IsBadValue text value effect → ⊥) →
    (IsTrue b → IsBadPlace open_blocks key opens) × (IsBadPlace open_blocks key opens → IsTrue b) →
    (IsTrue b → IsRefused (line_at number text open_blocks)) × (IsRefused (line_at number text open_blocks) → IsTrue b)
entry_placed number text open_blocks key value opens effect b a good says = (
  λ holds. bad_place number text open_blocks key value opens effect a (says.0 holds),
  λ refused. by_place open_blocks text key value opens effect b good says.1 (why_refused number text open_blocks key value opens effect a refused),
)

-- ## What is noted

pub noted : (line : Line) (old : Option ℕ) → old ≡ None → IsRefused line → Refuses line old (Some line.number)
noted line old none refused = subst (λ (o : Option ℕ). Refuses line o (Some line.number)) (sym none) (refl, refused)

pub passed : (line : Line) (old : Option ℕ) → old ≡ None → (IsRefused line → ⊥) → Refuses line old old
passed line old none fine = subst (λ (o : Option ℕ). Refuses line o o) (sym none) fine

-- ## Between two lines

-- what is first refused in the rest is first refused in all lines, unless a line was refused before
abbrev pub StillFirst : List Line → List Line → Option ℕ → Type 0
StillFirst all rest None = (refused : Option ℕ) → IsFirstRefused rest refused → IsFirstRefused all refused
StillFirst all rest (Some number) = FirstRefused all number

-- so many lines are read, these blocks are open, and this is stated and refused; the rest is to come
pub record HasReadLines (texts : List (List ℕ)) (number : ℕ) (open_blocks : List Block) (statements : List Statement) (refused : Option ℕ) (rest : List (List ℕ)) : Type 0 where
  pub count : number + length rest ≡ length texts
  pub blocks : behind_all 1 [] texts ≡ behind_all (number + 1) open_blocks rest
  pub states : statements_of (lines_from 1 [] texts) ≡ statements ++ statements_of (lines_from (number + 1) open_blocks rest)
  pub first : StillFirst (lines_from 1 [] texts) (lines_from (number + 1) open_blocks rest) refused

pub nothing_read : (texts : List (List ℕ)) (number : ℕ) (open_blocks : List Block) (statements : List Statement) (refused : Option ℕ) → number ≡ 0 → open_blocks ≡ [] → statements ≡ [] → refused ≡ None →
    HasReadLines texts number open_blocks statements refused texts
nothing_read texts number open_blocks statements refused a b c d =
    subst (λ (o : Option ℕ). HasReadLines texts number open_blocks statements o texts) (sym d)
    (subst (λ (s : List Statement). HasReadLines texts number open_blocks s None texts) (sym c)
    (subst (λ (s : List Block). HasReadLines texts number s [] None texts) (sym b)
    (subst (λ (n : ℕ). HasReadLines texts n [] [] None texts) (sym a)
    (record { count = omega arith; blocks = refl; states = refl; first = λ _ f. f }))))

then_more : (statements : List Statement) (one : Option Statement) (more : List Statement) → statements ++ cons_option one more ≡ with_option statements one ++ more
then_more statements None more = refl
then_more statements (Some one) more = sym (append_assoc statements (one ∷ []) more)

one_later : (line : Line) (rest : List Line) (refused : Option ℕ) → (IsRefused line → ⊥) → IsFirstRefused rest refused → IsFirstRefused (line ∷ rest) refused
one_later line rest None fine f = All-cons (λ l. IsRefused l → ⊥) line rest fine f
one_later line rest (Some number) fine f = record {
  before = line ∷ f.before;
  line = f.line;
  after = f.after;
  are = ap (λ ls. line ∷ ls) f.are;
  none = All-cons (λ l. IsRefused l → ⊥) line f.before fine f.none;
  here = f.here;
  place = f.place;
}

at_front : (line : Line) (rest : List Line) (number : ℕ) → (number ≡ line.number) × IsRefused line → IsFirstRefused (line ∷ rest) (Some number)
at_front line rest number n = record {
  before = [];
  line = line;
  after = rest;
  are = refl;
  none = All-nil (λ l. IsRefused l → ⊥);
  here = n.1;
  place = sym n.0;
}

next_first : (all rest : List Line) (line : Line) (old new : Option ℕ) → StillFirst all (line ∷ rest) old → Refuses line old new → StillFirst all rest new
next_first all rest line None None first n = λ refused f. first refused (one_later line rest refused n f)
next_first all rest line None (Some number) first n = first (Some number) (at_front line rest number n)
next_first all rest line (Some old) new first n = subst (λ (o : Option ℕ). StillFirst all rest o) (sym n) first

-- one line more
pub one_more_line : (texts : List (List ℕ)) (number : ℕ) (open_blocks : List Block) (statements : List Statement) (refused : Option ℕ) (rest : List (List ℕ)) (text : List ℕ) (more : List (List ℕ))
    (new_number : ℕ) (new_blocks : List Block) (new_statements : List Statement) (new_refused : Option ℕ) → HasReadLines texts number open_blocks statements refused rest → rest ≡ text ∷ more →
    new_number ≡ number + 1 → new_blocks ≡ behind (number + 1) open_blocks (form_of text) →
    new_statements ≡ with_option statements (statement_in (number + 1) open_blocks (form_of text)) → Refuses (line_at (number + 1) text open_blocks) refused new_refused →
    HasReadLines texts new_number new_blocks new_statements new_refused more
one_more_line texts number open_blocks statements refused rest text more new_number new_blocks new_statements new_refused old left n b s r =
    subst (λ (o : List Statement). HasReadLines texts new_number new_blocks o new_refused more) (sym s)
    (subst (λ (o : List Block). HasReadLines texts new_number o (with_option statements (statement_in (number + 1) open_blocks (form_of text))) new_refused more) (sym b)
    (subst (λ (o : ℕ). HasReadLines texts o (behind (number + 1) open_blocks (form_of text)) (with_option statements (statement_in (number + 1) open_blocks (form_of text))) new_refused more) (sym n)
    (record {
      count = omega (arith, old.count, ap length left);
      blocks = old.blocks ∙ ap (λ (ts : List (List ℕ)). behind_all (number + 1) open_blocks ts) left;
      states = old.states ∙ ap (λ (ts : List (List ℕ)). statements ++ statements_of (lines_from (number + 1) open_blocks ts)) left
          ∙ then_more statements (statement_in (number + 1) open_blocks (form_of text)) (statements_of (lines_from (number + 1 + 1) (behind (number + 1) open_blocks (form_of text)) more));
      first = next_first (lines_from 1 [] texts) (lines_from (number + 1 + 1) (behind (number + 1) open_blocks (form_of text)) more) (line_at (number + 1) text open_blocks) refused new_refused
          (subst (λ (ts : List (List ℕ)). StillFirst (lines_from 1 [] texts) (lines_from (number + 1) open_blocks ts) refused) left old.first) r;
    })))

at_last : (all : List Line) (refused : Option ℕ) → StillFirst all [] refused → IsFirstRefused all refused
at_last all None first = first None (All-nil (λ l. IsRefused l → ⊥))
at_last all (Some number) first = first

-- all lines are read
pub all_read : (texts : List (List ℕ)) (number : ℕ) (open_blocks : List Block) (statements : List Statement) (refused : Option ℕ) (rest : List (List ℕ)) →
    HasReadLines texts number open_blocks statements refused rest → rest ≡ [] → HasReadLines texts number open_blocks statements refused []
all_read texts number open_blocks statements refused rest all none = subst (λ (ts : List (List ℕ)). HasReadLines texts number open_blocks statements refused ts) none all

pub first_of_all : (texts : List (List ℕ)) (number : ℕ) (open_blocks : List Block) (statements : List Statement) (refused : Option ℕ) →
    HasReadLines texts number open_blocks statements refused [] → IsFirstRefused (lines_from 1 [] texts) refused
first_of_all texts number open_blocks statements refused all = at_last (lines_from 1 [] texts) refused all.first
