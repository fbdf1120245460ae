-- What contracts see of a command line's header.
use Rattle.std.specs.Prelude.{ℕ, ◌≡◌, ◌<◌, List, length, slice_index}
use Rattle.std.specs.Char.{IsAsciiDigit}
use Rattle.mt_script_spec.specs.Commands.{Header, Lone, TextHead, RulesHead, BatchHead}
use Rattle.mt_script.specs.declared.header.Header.{Header as RustHeader}
use Rattle.mt_script.specs.declared.header.Header.TheVariants as rust
use Rattle.mt_script.specs.Seen.{command_of}

-- a header
abbrev pub header_of : RustHeader → Header
header_of (rust.Lone command) = Lone (command_of command)
header_of (rust.Text name number) = TextHead name number
header_of (rust.Rules number) = RulesHead number
header_of (rust.Batch number merge) = BatchHead number merge

-- digits, the first of which is 0 only where it is alone
pub record IsDecimal (bytes : List ℕ) : Type 0 where
  pub some : 0 < length bytes
  pub lead : slice_index bytes 0 ≡ 48 → length bytes ≡ 1
  pub each : (i : ℕ) → i < length bytes → IsAsciiDigit (slice_index bytes i)
