-- What contracts see of a line.
use Rattle.mt_grammar_spec.specs.GrammarLines as spec
use Rattle.mt_grammar.specs.declared.line.Directive.{Directive}
use Rattle.mt_grammar.specs.declared.line.Directive.TheVariants as directive
use Rattle.mt_grammar.specs.declared.line.Line.{Line}
use Rattle.mt_grammar.specs.declared.line.Line.TheVariants as line
use Rattle.mt_grammar.specs.Seen.{kind_seen}

-- what a directive says
abbrev pub directive_seen : Directive → spec.Directive
directive_seen (directive.Kind kind) = spec.OfKind (kind_seen kind)
directive_seen (directive.DefaultAttr name) = spec.DefaultAttr name.now
directive_seen (directive.StructLimit name) = spec.StructLimit name.now
directive_seen directive.Unknown = spec.Unknown

-- what a line that is not skipped is
abbrev pub line_seen : Line → spec.Form
line_seen (line.Directive directive) = spec.Directs (directive_seen directive)
line_seen (line.Heading heading) = spec.Heads heading.now
line_seen (line.Query text) = spec.Asks text.now
