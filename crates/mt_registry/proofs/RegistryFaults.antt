-- The first fault of a registry file.
use Rattle.std.proofs.Common.{ℕ, ◌≡◌, ◌+◌, ◌<◌, ◌≤◌, ◌⊎◌, inl, inr, ◌==◌, Bool, true, false, nat_lt, List, [], ◌∷◌, ◌++◌, length, if◌then◌else◌, refl, sym, ◌∙◌, ap, subst, arith, Option, None, Some, eqb-true}
use Rattle.std.specs.List.{cons_option}
use Rattle.std.specs.Str.Lines.{lines}
use Rattle.std.proofs.lemmas.Bool.{cases_lt}
use Rattle.std.proofs.lemmas.Bool.Decides.{nat_tests}
use borrow.Author.Tests.{ltb-true, ltb-false}
use Rattle.std.proofs.lemmas.List.Elements.{filter_map-append}
use Rattle.mt_file_spec.specs.RegistryFile.{Form, Skipped, Closing, Entry, Formless, Block, Effect, Statement, Line, File, RegistryCause, Syntax, rank, IsRefused, IsCause, HasCause, Refused, Unclosed, Misstated, IsFaultless, FirstRegistryFault, form_of, stated, statement_in, statement_of, statements_of, lines_from, behind, behind_all, effect_of, unclosed_at, file_of}
use Rattle.mt_registry.specs.ReadLines.{FirstRefused, IsFirstRefused}
use Rattle.mt_registry.specs.Misstated.{Blamed, FirstBlamed, IsFirstBlamed, IsFirstOf, syntax_of, first_of}
use Rattle.mt_registry.proofs.Splits.{no_split, later_split, same_split, All-split}

-- ## Numbers of lines

numbered : (number : ℕ) (open_blocks : List Block) (texts : List (List ℕ)) (e : List Line) (line : Line) (r : List Line) → lines_from number open_blocks texts ≡ e ++ line ∷ r → line.number ≡ number + length e
numbered number open_blocks [] e line r same = absurd (no_split e line r same)
numbered number open_blocks (text ∷ texts) [] line r same =
    let head : record { number = number; text = text; blocks = open_blocks } ≡ line = cc in ap (λ (l : Line). l.number) (sym head) ∙ omega arith
numbered number open_blocks (text ∷ texts) (l ∷ e) line r same =
    let tail : lines_from (number + 1) (behind number open_blocks (form_of text)) texts ≡ e ++ line ∷ r = cc in
    let n = numbered (number + 1) (behind number open_blocks (form_of text)) texts e line r tail in omega arith

length-lines_from : (number : ℕ) (open_blocks : List Block) (texts : List (List ℕ)) → length (lines_from number open_blocks texts) ≡ length texts
length-lines_from number open_blocks [] = refl
length-lines_from number open_blocks (text ∷ texts) =
    let n = length-lines_from (number + 1) (behind number open_blocks (form_of text)) texts in omega arith

-- ## Lines and what they state

stated_line : (number : ℕ) (value : List ℕ) (effect : Option Effect) (s : Statement) → stated number value effect ≡ Some s → s.line ≡ number
stated_line number value None s e = cc
stated_line number value (Some effect) s e =
    let same : record { line = number; keyword = effect.keyword; place = effect.place; value = value } ≡ s = cc in ap (λ (t : Statement). t.line) (sym same)

statement_line_in : (number : ℕ) (open_blocks : List Block) (form : Form) (s : Statement) → statement_in number open_blocks form ≡ Some s → s.line ≡ number
statement_line_in number open_blocks Skipped s e = cc
statement_line_in number open_blocks Closing s e = cc
statement_line_in number open_blocks Formless s e = cc
statement_line_in number open_blocks (Entry key value opens) s e = stated_line number value (effect_of number open_blocks key) s e

statement_line : (line : Line) (s : Statement) → statement_of line ≡ Some s → s.line ≡ line.number
statement_line line s e = statement_line_in line.number line.blocks (form_of line.text) s e

pub statements_split : (all e : List Line) (line : Line) (r : List Line) (s : Statement) → all ≡ e ++ line ∷ r → statement_of line ≡ Some s → statements_of all ≡ statements_of e ++ s ∷ statements_of r
statements_split all e line r s are is =
    ap statements_of are ∙ filter_map-append statement_of e (line ∷ r) ∙ ap (λ o. statements_of e ++ cons_option o (statements_of r)) is

-- the line that states what stands here among all statements
pub record StatedAt (all : List Line) (before : List Statement) (s : Statement) : Type 0 where
  pub earlier : List Line
  pub line : Line
  pub later : List Line
  pub are : all ≡ earlier ++ line ∷ later
  pub states : statement_of line ≡ Some s
  pub others : statements_of earlier ≡ before

one_line_earlier : (line : Line) (all : List Line) (before : List Statement) (s : Statement) (o : Option Statement) → statement_of line ≡ o → StatedAt all before s →
    StatedAt (line ∷ all) (cons_option o before) s
one_line_earlier line all before s o is a = record {
  earlier = line ∷ a.earlier;
  line = a.line;
  later = a.later;
  are = ap (λ ls. line ∷ ls) a.are;
  states = a.states;
  others = ap (λ p. cons_option p (statements_of a.earlier)) is ∙ ap (λ ss. cons_option o ss) a.others;
}

mutual_at : (line : Line) (all : List Line) (before : List Statement) (s : Statement) (after : List Statement) (o : Option Statement) → statement_of line ≡ o →
    ((b : List Statement) → statements_of all ≡ b ++ s ∷ after → StatedAt all b s) → cons_option o (statements_of all) ≡ before ++ s ∷ after → StatedAt (line ∷ all) before s
mutual_at line all before s after None is rest e = one_line_earlier line all before s None is (rest before e)
mutual_at line all [] s after (Some t) is rest e =
    let head : t ≡ s = cc in record { earlier = []; line = line; later = all; are = refl; states = is ∙ ap Some head; others = refl }
mutual_at line all (b ∷ before) s after (Some t) is rest e =
    let head : t ≡ b = cc in
    let tail : statements_of all ≡ before ++ s ∷ after = cc in
    subst (λ (x : Statement). StatedAt (line ∷ all) (x ∷ before) s) head (one_line_earlier line all before s (Some t) is (rest before tail))

pub stated_at : (all : List Line) (before : List Statement) (s : Statement) (after : List Statement) → statements_of all ≡ before ++ s ∷ after → StatedAt all before s
stated_at [] before s after e = absurd (no_split before s after e)
stated_at (line ∷ all) before s after e = mutual_at line all before s after (statement_of line) refl (λ b t. stated_at all b s after t) e

-- ## Where causes stand

-- each line has its place among the lines as its number
pub record AreNumbered (all : List Line) : Type 0 where
  pub number : (e : List Line) (line : Line) (r : List Line) → all ≡ e ++ line ∷ r → line.number ≡ 1 + length e

abbrev AfterSyntax : Option ℕ → ℕ → Type 0
AfterSyntax None n = ⊥
AfterSyntax (Some s) n = s ≤ n

abbrev AfterBlamed : Option Blamed → ℕ → RegistryCause → Type 0
AfterBlamed None n other = ⊥
AfterBlamed (Some b) n other = (b.line ≤ n) × (n ≡ b.line → rank b.cause ≤ rank other)

refused_order : (all : List Line) (number : ℕ) (e : List Line) (line : Line) (r : List Line) → AreNumbered all → (f : FirstRefused all number) → all ≡ e ++ line ∷ r → IsRefused line →
    (length e < length f.before) ⊎ (length f.before ≤ length e) → number ≤ line.number
refused_order all number e line r n f are bad (inl less) =
    let l = later_split e line r f.before f.line f.after (sym are ∙ f.are) less in
    absurd (All-split (λ x. IsRefused x → ⊥) f.before e line l.0 l.1 f.none bad)
refused_order all number e line r n f are bad (inr more) =
    omega (arith, f.place, n.number f.before f.line f.after f.are, n.number e line r are)

-- a refused line is not before the first
after_first_refused : (all : List Line) (refused : Option ℕ) (unclosed : ℕ) (e : List Line) (line : Line) (r : List Line) → AreNumbered all → IsFirstRefused all refused → all ≡ e ++ line ∷ r → IsRefused line →
    AfterSyntax (syntax_of refused unclosed) line.number
after_first_refused all None unclosed e line r n f are bad = absurd (All-split (λ x. IsRefused x → ⊥) all e line r are f bad)
after_first_refused all (Some number) unclosed e line r n f are bad =
    refused_order all number e line r n f are bad (cases_lt (length e) (length f.before))

cons_length : {A : Type 0} (all e : List A) (x : A) (r : List A) → all ≡ e ++ x ∷ r → length e + 1 ≤ length all
cons_length all [] x r e = let h = ap length e in omega arith
cons_length [] (y ∷ ys) x r e = absurd (no_split (y ∷ ys) x r e)
cons_length (z ∷ all) (y ∷ ys) x r e = let tail : all ≡ ys ++ x ∷ r = cc in let h = cons_length all ys x r tail in omega arith

unclosed_some : (open_blocks : List Block) (last number : ℕ) → 0 < number → unclosed_at open_blocks last ≡ number → last ≡ number
unclosed_some [] last number some e = absurd (omega arith)
unclosed_some (b ∷ open_blocks) last number some e = e

after_unclosed_alone : (unclosed number : ℕ) (b : Bool) → (unclosed == 0) ≡ b → 0 < number → unclosed ≡ number → AfterSyntax (if b then None else Some unclosed) number
after_unclosed_alone unclosed number true is some e = let z : unclosed ≡ 0 = eqb-true unclosed 0 is in absurd (omega arith)
after_unclosed_alone unclosed number false is some e = omega arith

-- nor is the last line
after_unclosed : (all : List Line) (refused : Option ℕ) (unclosed number : ℕ) → AreNumbered all → IsFirstRefused all refused → (0 < unclosed → unclosed ≡ length all) → 0 < number → unclosed ≡ number →
    AfterSyntax (syntax_of refused unclosed) number
after_unclosed all None unclosed number n f last some e = after_unclosed_alone unclosed number (unclosed == 0) refl some e
after_unclosed all (Some s) unclosed number n f last some e =
    let l = last (omega arith) in omega (arith, f.place, n.number f.before f.line f.after f.are, cons_length all f.before f.line f.after f.are)

blamed_order : (mappers : List (List ℕ)) (all : List Line) (unclosed : ℕ) (b : Blamed) (e : List Line) (line : Line) (r : List Line) (s : Statement) (other : RegistryCause) → AreNumbered all →
    (f : FirstBlamed mappers (statements_of all) unclosed b) → (a : StatedAt all f.earlier f.statement) → all ≡ e ++ line ∷ r → statement_of line ≡ Some s →
    IsCause mappers (statements_of all) unclosed (statements_of e) s other → (length e < length a.earlier) ⊎ (length a.earlier ≤ length e) → AfterBlamed (Some b) line.number other
blamed_order mappers all unclosed b e line r s other n f a are is has (inl less) =
    let l = later_split e line r a.earlier a.line a.later (sym are ∙ a.are) less in
    absurd (f.before (statements_of e) s (statements_of l.0) other (sym a.others ∙ statements_split a.earlier e line l.0 s l.1 is) has)
blamed_order mappers all unclosed b e line r s other n f a are is has (inr more) =
    let at_b : a.line.number ≡ b.line = sym (statement_line a.line f.statement a.states) ∙ f.line in
    let na = n.number a.earlier a.line a.later a.are in
    let nl = n.number e line r are in (
      omega arith,
      λ same.
          let lengths : length a.earlier ≡ length e = omega arith in
          let w = same_split a.earlier a.line a.later e line r (sym a.are ∙ are) lengths in
          let ends : f.statement ≡ s = (let h : Some f.statement ≡ Some s = sym a.states ∙ ap statement_of w.1 ∙ is in cc) in
          f.here.1 other
          (subst (λ (t : Statement). IsCause mappers (statements_of all) unclosed f.earlier t other) (sym ends)
          (subst (λ (x : List Statement). IsCause mappers (statements_of all) unclosed x s other) (sym (ap statements_of w.0) ∙ a.others) has)),
    )

-- what states something with a cause is not before the first
after_first_blamed : (mappers : List (List ℕ)) (all : List Line) (unclosed : ℕ) (blamed : Option Blamed) (e : List Line) (line : Line) (r : List Line) (s : Statement) (other : RegistryCause) → AreNumbered all →
    IsFirstBlamed mappers (statements_of all) unclosed blamed → all ≡ e ++ line ∷ r → statement_of line ≡ Some s →
    IsCause mappers (statements_of all) unclosed (statements_of e) s other → AfterBlamed blamed line.number other
after_first_blamed mappers all unclosed None e line r s other n f are is has =
    f (statements_of e) s (statements_of r) other (statements_split all e line r s are is) has
after_first_blamed mappers all unclosed (Some b) e line r s other n f are is has =
    let a = stated_at all f.earlier f.statement f.later f.are in
    blamed_order mappers all unclosed b e line r s other n f a are is has (cases_lt (length e) (length a.earlier))

-- what is known of a file when all its lines are read
pub record IsRead (mappers : List (List ℕ)) (file : File) (refused : Option ℕ) (blamed : Option Blamed) : Type 0 where
  pub numbers : AreNumbered file.lines
  pub last : 0 < file.unclosed → file.unclosed ≡ length file.lines
  pub first : IsFirstRefused file.lines refused
  pub blame : IsFirstBlamed mappers (statements_of file.lines) file.unclosed blamed

after : (mappers : List (List ℕ)) (file : File) (refused : Option ℕ) (blamed : Option Blamed) (number : ℕ) (other : RegistryCause) → IsRead mappers file refused blamed → HasCause mappers file number other →
    ((other ≡ Syntax) × AfterSyntax (syntax_of refused file.unclosed) number) ⊎ AfterBlamed blamed number other
after mappers file refused blamed number other k (Refused e line at place is bad) =
    inl (is, subst (λ (n : ℕ). AfterSyntax (syntax_of refused file.unclosed) n) place (after_first_refused file.lines refused file.unclosed e line at.later k.numbers k.first at.are bad))
after mappers file refused blamed number other k (Unclosed some ends is) =
    inl (is, after_unclosed file.lines refused file.unclosed number k.numbers k.first k.last some ends)
after mappers file refused blamed number other k (Misstated e line s at place is has) =
    inr (subst (λ (n : ℕ). AfterBlamed blamed n other) place (after_first_blamed mappers file.lines file.unclosed blamed e line at.later s other k.numbers k.blame at.are is has))

-- ## The cause of the first line

above_zero : (unclosed s : ℕ) → (unclosed == 0) ≡ false → unclosed ≡ s → 0 < s
above_zero unclosed s is same = grind (arith, nat_tests)

unclosed_here : (mappers : List (List ℕ)) (file : File) (b : Bool) (s : ℕ) → (file.unclosed == 0) ≡ b → (if b then None else Some file.unclosed) ≡ Some s → HasCause mappers file s Syntax
unclosed_here mappers file true s is e = cc
unclosed_here mappers file false s is e =
    let same : file.unclosed ≡ s = cc in
    Unclosed (above_zero file.unclosed s is same) same refl

syntax_here : (mappers : List (List ℕ)) (file : File) (refused : Option ℕ) (blamed : Option Blamed) (s : ℕ) → IsRead mappers file refused blamed → syntax_of refused file.unclosed ≡ Some s → HasCause mappers file s Syntax
syntax_here mappers file None blamed s k e = unclosed_here mappers file (file.unclosed == 0) s refl e
syntax_here mappers file (Some r) blamed s k e =
    let same : r ≡ s = cc in Refused k.first.before k.first.line (record { later = k.first.after; are = k.first.are }) (k.first.place ∙ same) refl k.first.here

blamed_here : (mappers : List (List ℕ)) (file : File) (b : Blamed) → FirstBlamed mappers (statements_of file.lines) file.unclosed b → HasCause mappers file b.line b.cause
blamed_here mappers file b f =
    let a = stated_at file.lines f.earlier f.statement f.later f.are in
    Misstated a.earlier a.line f.statement (record { later = a.later; are = a.are }) (sym (statement_line a.line f.statement a.states) ∙ f.line) a.states
    (subst (λ (x : List Statement). IsCause mappers (statements_of file.lines) file.unclosed x f.statement b.cause) (sym a.others) f.here.0)

-- the first of what was found is the first fault, and where nothing was found there is none
abbrev pub IsFirstFault : List (List ℕ) → List ℕ → Option Blamed → Type 0
IsFirstFault mappers bytes None = IsFaultless mappers (file_of bytes)
IsFirstFault mappers bytes (Some b) = FirstRegistryFault mappers bytes b.line b.cause

no_fault : (syntax : Option ℕ) (blamed : Option Blamed) (number : ℕ) (other : RegistryCause) → syntax ≡ None → blamed ≡ None →
    ((other ≡ Syntax) × AfterSyntax syntax number) ⊎ AfterBlamed blamed number other → ⊥
no_fault None None number other a b (inl w) = w.1
no_fault None None number other a b (inr w) = w
no_fault (Some s) blamed number other a b w = cc
no_fault None (Some x) number other a b w = cc

blamed_line : (syntax : Option ℕ) (b : Blamed) (number : ℕ) (other : RegistryCause) → (AfterSyntax syntax number → b.line < number) →
    ((other ≡ Syntax) × AfterSyntax syntax number) ⊎ AfterBlamed (Some b) number other → b.line ≤ number
blamed_line syntax b number other low (inl w) = let l = low w.1 in omega arith
blamed_line syntax b number other low (inr w) = w.0

blamed_cause : (syntax : Option ℕ) (b : Blamed) (other : RegistryCause) → (AfterSyntax syntax b.line → b.line < b.line) →
    ((other ≡ Syntax) × AfterSyntax syntax b.line) ⊎ AfterBlamed (Some b) b.line other → rank b.cause ≤ rank other
blamed_cause syntax b other low (inl w) = absurd (let l = low w.1 in omega arith)
blamed_cause syntax b other low (inr w) = w.1 refl

syntax_line : (s : ℕ) (blamed : Option Blamed) (number : ℕ) (other : RegistryCause) → (AfterBlamed blamed number other → s ≤ number) →
    ((other ≡ Syntax) × AfterSyntax (Some s) number) ⊎ AfterBlamed blamed number other → s ≤ number
syntax_line s blamed number other low (inl w) = w.1
syntax_line s blamed number other low (inr w) = low w

is_blamed : (mappers : List (List ℕ)) (bytes : List ℕ) (refused : Option ℕ) (b : Blamed) → IsRead mappers (file_of bytes) refused (Some b) →
    ((number : ℕ) → AfterSyntax (syntax_of refused (file_of bytes).unclosed) number → b.line < number) → FirstRegistryFault mappers bytes b.line b.cause
is_blamed mappers bytes refused b k low = record {
  here = blamed_here mappers (file_of bytes) b k.blame;
  first_cause = λ other has. blamed_cause (syntax_of refused (file_of bytes).unclosed) b other (low b.line) (after mappers (file_of bytes) refused (Some b) b.line other k has);
  first_line = λ number other has. blamed_line (syntax_of refused (file_of bytes).unclosed) b number other (low number) (after mappers (file_of bytes) refused (Some b) number other k has);
}

is_syntax : (mappers : List (List ℕ)) (bytes : List ℕ) (refused : Option ℕ) (blamed : Option Blamed) (s : ℕ) → IsRead mappers (file_of bytes) refused blamed →
    syntax_of refused (file_of bytes).unclosed ≡ Some s → ((number : ℕ) (other : RegistryCause) → AfterBlamed blamed number other → s ≤ number) → FirstRegistryFault mappers bytes s Syntax
is_syntax mappers bytes refused blamed s k e low = record {
  here = syntax_here mappers (file_of bytes) refused blamed s k e;
  first_cause = λ other has. omega arith;
  first_line = λ number other has. syntax_line s blamed number other (low number other)
      (subst (λ (o : Option ℕ). ((other ≡ Syntax) × AfterSyntax o number) ⊎ AfterBlamed blamed number other) e (after mappers (file_of bytes) refused blamed number other k has));
}

both : (mappers : List (List ℕ)) (bytes : List ℕ) (refused : Option ℕ) (b : Blamed) (s : ℕ) (less : Bool) → nat_lt b.line s ≡ less → IsRead mappers (file_of bytes) refused (Some b) →
    syntax_of refused (file_of bytes).unclosed ≡ Some s → IsFirstFault mappers bytes (if less then Some b else Some (record { line = s; cause = Syntax }))
both mappers bytes refused b s true is k e =
    is_blamed mappers bytes refused b k (λ number a. let a' : AfterSyntax (Some s) number = subst (λ (o : Option ℕ). AfterSyntax o number) e a in let l : b.line < s = ltb-true b.line s is in omega arith)
both mappers bytes refused b s false is k e =
    is_syntax mappers bytes refused (Some b) s k e (λ number other a. let l : s ≤ b.line = ltb-false b.line s is in omega (arith, a.0))

by_found : (mappers : List (List ℕ)) (bytes : List ℕ) (refused : Option ℕ) (blamed : Option Blamed) (syntax : Option ℕ) → IsRead mappers (file_of bytes) refused blamed →
    syntax_of refused (file_of bytes).unclosed ≡ syntax → IsFirstFault mappers bytes (first_of blamed syntax)
by_found mappers bytes refused None None k e = λ number cause has.
    no_fault (syntax_of refused (file_of bytes).unclosed) None number cause e refl (after mappers (file_of bytes) refused None number cause k has)
by_found mappers bytes refused (Some b) None k e = is_blamed mappers bytes refused b k (λ number a. absurd (subst (λ (o : Option ℕ). AfterSyntax o number) e a))
by_found mappers bytes refused None (Some s) k e = is_syntax mappers bytes refused None s k e (λ number other a. absurd a)
by_found mappers bytes refused (Some b) (Some s) k e = both mappers bytes refused b s (nat_lt b.line s) refl k e

unclosed_last : (open_blocks : List Block) (last : ℕ) → 0 < unclosed_at open_blocks last → unclosed_at open_blocks last ≡ last
unclosed_last [] last some = absurd (omega arith)
unclosed_last (b ∷ open_blocks) last some = refl

pub first_fault_of : (mappers : List (List ℕ)) (bytes : List ℕ) (statements : List Statement) (refused : Option ℕ) (unclosed : ℕ) (result : Option Blamed) →
    statements ≡ statements_of (file_of bytes).lines → IsFirstRefused (file_of bytes).lines refused → unclosed ≡ (file_of bytes).unclosed →
    IsFirstOf mappers statements refused unclosed result → IsFirstFault mappers bytes result
first_fault_of mappers bytes statements refused unclosed result s r u f =
    let blame : IsFirstBlamed mappers (statements_of (file_of bytes).lines) (file_of bytes).unclosed f.blamed =
    subst (λ (x : List Statement). IsFirstBlamed mappers x (file_of bytes).unclosed f.blamed) s (subst (λ (n : ℕ). IsFirstBlamed mappers statements n f.blamed) u f.statement) in
    let k : IsRead mappers (file_of bytes) refused f.blamed = record {
      numbers = record { number = λ e line rest are. numbered 1 [] (lines bytes) e line rest are };
      last = λ some. unclosed_last (behind_all 1 [] (lines bytes)) (length (lines bytes)) some ∙ sym (length-lines_from 1 [] (lines bytes));
      first = r;
      blame = blame;
    } in
    subst (λ (o : Option Blamed). IsFirstFault mappers bytes o) (sym (f.is ∙ ap (λ n. first_of f.blamed (syntax_of refused n)) u))
    (by_found mappers bytes refused f.blamed (syntax_of refused (file_of bytes).unclosed) k refl)

pub same_unclosed : (bytes : List ℕ) (open_blocks : List Block) (number : ℕ) → open_blocks ≡ behind_all 1 [] (lines bytes) → number ≡ length (lines bytes) → unclosed_at open_blocks number ≡ (file_of bytes).unclosed
same_unclosed bytes open_blocks number b n = ap (λ bs. unclosed_at bs number) b ∙ ap (λ k. unclosed_at (behind_all 1 [] (lines bytes)) k) n
