-- What contracts see of commands.
use Rattle.std.specs.Prelude.{map}
use Rattle.mt_script_spec.specs.Commands.{Ask, Count, Query, Freq, Colloc, Sketch, Thes, BatchLine, Good, BadLine, Command, Registry, Text, Add, Generate, Asks, Grammar, Rules, Merge, Batch, Segments, Save, Load, Quit, Remove, Subcorpus, Subcount, Keywords, Partner}
use Rattle.mt_script.specs.declared.command.Ask.{Ask as RustAsk}
use Rattle.mt_script.specs.declared.command.Ask.TheVariants as ask
use Rattle.mt_script.specs.declared.command.BatchLine.{BatchLine as RustBatchLine}
use Rattle.mt_script.specs.declared.command.BatchLine.TheVariants as line
use Rattle.mt_script.specs.declared.command.Command.{Command as RustCommand}
use Rattle.mt_script.specs.declared.command.Command.TheVariants as command

-- a question
abbrev pub ask_of : RustAsk → Ask
ask_of (ask.Count cql) = Count cql
ask_of (ask.Query cql) = Query cql
ask_of (ask.Freq attr offset cql) = Freq attr offset cql
ask_of (ask.Colloc attr first last least cql) = Colloc attr first last least cql
ask_of (ask.Sketch least most lemma) = Sketch least most lemma
ask_of (ask.Thes most lemma) = Thes most lemma

-- a line of a batch
abbrev pub batch_line_of : RustBatchLine → BatchLine
batch_line_of (line.Good asked) = Good (ask_of asked)
batch_line_of line.Bad = BadLine

-- a command
abbrev pub command_of : RustCommand → Command
command_of (command.Registry file) = Registry file
command_of (command.Text name body) = Text name body
command_of (command.Add name file) = Add name file
command_of (command.Generate name seed tokens) = Generate name seed tokens
command_of (command.Ask asked) = Asks (ask_of asked)
command_of (command.Grammar file) = Grammar file
command_of (command.Rules body) = Rules body
command_of (command.Merge first last) = Merge first last
command_of (command.Batch lines merge) = Batch (map batch_line_of lines) merge
command_of command.Segments = Segments
command_of (command.Save name) = Save name
command_of (command.Load name) = Load name
command_of command.Quit = Quit
command_of (command.Remove name) = Remove name
command_of (command.Subcorpus name cql) = Subcorpus name cql
command_of (command.Subcount name cql) = Subcount name cql
command_of (command.Keywords name attr rarity most) = Keywords name attr rarity most
command_of (command.Partner name kind) = Partner name kind
