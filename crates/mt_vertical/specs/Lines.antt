-- What a line is, as the function that tells finds it.
use Rattle.std.specs.Prelude.{ℕ, List, IsUtf8}
use Rattle.mt_file_spec.specs.Tags.{Tag, IsTag}
use Rattle.mt_file_spec.specs.VerticalLines.{IsSkipped}
use Rattle.mt_vertical.specs.TagForms.{IsFound}
use Rattle.mt_vertical.specs.declared.lines.Line.{Line}
use Rattle.mt_vertical.specs.declared.lines.Line.TheVariants as line

-- text that is not skipped and is no tag
pub record IsToken (line : List ℕ) : Type 0 where
  pub text : IsUtf8 line
  pub stays : ¬ IsSkipped line
  pub untagged : (tag : Tag) → ¬ IsTag line tag

abbrev pub IsLine : List ℕ → Line → Type 0
IsLine bytes line.Skipped = IsSkipped bytes
IsLine bytes (line.Tag tag) = IsFound bytes tag.form tag.name.now tag.attrs.now
IsLine bytes line.Token = IsToken bytes
