-- What is known of a script of which the front was given out.
use Rattle.std.specs.Prelude.{ℕ, ◌≡◌, ◌+◌, ◌≤◌, Bool, true, false, List, [], ◌∷◌, ◌++◌, length, drop, Option, None, Some, IsSome}
use Rattle.std.specs.Str.Lines.{strip_carriage_return}
use Rattle.mt_text_spec.specs.Lines.{IsLine, Block}
use Rattle.mt_script_spec.specs.Commands.{Header, body_lines, IsHeader, IsSkipped}
use Rattle.mt_script_spec.specs.Script.{Item, Given, Bad as BadItem, CutShort as CutItem, Begins, IsRest}
use Rattle.mt_script.specs.declared.header.Header.{Header as RustHeader}
use Rattle.mt_script.specs.declared.scan.Scan.{Scan}
use Rattle.mt_script.specs.declared.scan.Found.{Found}
use Rattle.mt_script.specs.declared.scan.Found.TheVariants.{Header as FoundHeader, Bad as FoundBad, Partial}
use Rattle.mt_script.specs.declared.command.Next.{Next}
use Rattle.mt_script.specs.declared.command.Next.TheVariants.{Command, Bad, CutShort, More, End, NoMemory}
use Rattle.mt_script.specs.Places.{Looked}
use Rattle.mt_script.specs.Headers.{header_of}
use Rattle.mt_script.specs.Seen.{command_of}

-- the bytes that were fed and not given out
abbrev pub wait : Scan → List ℕ
wait scan = drop scan.start scan.held.items

-- The bytes begin with this header's line; its body begins at one place, its next line at another, and so many lines are missing.
pub record Opened (bytes : List ℕ) (header : Header) (body line missing : ℕ) : Type 0 where
  pub raw : List ℕ
  pub front : List ℕ
  pub got : ℕ
  pub are : bytes ≡ raw ++ 10 ∷ (front ++ drop line bytes)
  pub one : IsLine raw
  pub stays : IsSkipped (strip_carriage_return raw) → ⊥
  pub good : IsHeader (strip_carriage_return raw) header
  pub lines : Block got front
  pub count : got + missing ≡ body_lines header
  pub body_at : body ≡ length raw + 1
  pub line_at : line ≡ body + length front

-- where no header is open, a line is looked for at the front
abbrev pub Opens : Option RustHeader → List ℕ → ℕ → ℕ → ℕ → Type 0
Opens None bytes body line missing = line ≡ 0
Opens (Some header) bytes body line missing = Opened bytes (header_of header) body line missing

-- what holds between calls
pub record IsSound (scan : Scan) : Type 0 where
  pub within : scan.start ≤ length scan.held.items
  pub looked : Looked (wait scan) scan.line scan.scanned
  pub opens : Opens scan.header (wait scan) scan.body scan.line scan.missing

-- whatever follows, the bytes begin so
abbrev pub Leads : Scan → List Item → Scan → Type 0
Leads old items new = (ended : Bool) → Begins ended (wait old) items (wait new)

-- what looking for a header finds
abbrev pub FindsHeader : Scan → Found → Scan → Type 0
FindsHeader old FoundHeader new = IsSome new.header × Leads old [] new
FindsHeader old FoundBad new = (new.header ≡ None) × Leads old (BadItem ∷ []) new
FindsHeader old Partial new = (new.header ≡ None) × Leads old [] new × IsLine (wait new)

-- What is given out of bytes that wait, and which wait then.
abbrev pub Gives : Bool → List ℕ → Next → List ℕ → Type 0
Gives ended old (Command command) new = Begins ended old (Given (command_of command) ∷ []) new
Gives ended old Bad new = Begins ended old (BadItem ∷ []) new
Gives ended old CutShort new = Begins ended old (CutItem ∷ []) new
Gives ended old More new = (ended ≡ false) × Begins ended old [] new × IsRest ended new
Gives ended old End new = (ended ≡ true) × Begins ended old [] new × IsRest ended new
Gives ended old NoMemory new = new ≡ old

-- this holds, or memory ran out
abbrev pub StarvesOr : Type 0 → Next → Type 0
StarvesOr P (Command command) = P
StarvesOr P Bad = P
StarvesOr P CutShort = P
StarvesOr P More = P
StarvesOr P End = P
StarvesOr P NoMemory = Unit {0}
