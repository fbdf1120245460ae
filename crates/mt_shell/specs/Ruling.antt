-- What is done with the file of a `grammar`.
use Rattle.std.specs.Prelude.{ℕ, ◌≡◌, List, ◌++◌}
use Rattle.mt_shelf_spec.specs.Files.{Files}
use Rattle.mt_script_spec.specs.Commands as spec
use Rattle.mt_session_spec.specs.World.{Held}
use Rattle.mt_session_spec.specs.Settings.{Setting}
use Rattle.mt_answer.specs.declared.reply.Reply.{Reply}
use Rattle.mt_shell.specs.declared.fetch.Fetched.{Fetched}
use Rattle.mt_shell.specs.Fetches.{Finds, failures}
use Rattle.mt_shell.specs.Answers.{Answers, over}

-- The reply and the change are those that the command means over any files where this is found of its file. Meanwhile the shop, which had refused the old texts, came to
-- have refused the new ones.
pub record TakesGrammar (setting : Setting) (held : Held) (file : List ℕ) (fetched : Fetched) (said : Reply) (new : Held) (before after : List (List ℕ)) : Type 0 where
  pub refused : List (List ℕ)
  pub more : after ≡ before ++ refused
  pub answers : (files : Files) → Finds files file fetched → Answers setting (over held files) (spec.Grammar file) (record { failed = failures file fetched; refused = refused }) said (over new files)
