use Rattle.std.proofs.Common.{lit<, None, Some}
use Rattle.std.proofs.lemmas.Str.Pattern.{strip_prefix_char}
use Rattle.mt_script.proofs.Forms.{stripped_some, stripped_none}
use Rattle.mt_script.proofs.words.read_signed.Goals as goal

pub returns-in-Some : goal.returns-in-Some
returns-in-Some c = stripped_some c.args.most c.args.word.now c.in-Some.digits.now c.read_minus.result
    (strip_prefix_char 45 c.args.word.now (Some c.in-Some.digits) c.in-Some.ensures.cases (lit< tt)) c.read_minus.ensures

pub returns-in-None : goal.returns-in-None
returns-in-None c = stripped_none c.args.most c.args.word.now c.read_plus.result
    (strip_prefix_char 45 c.args.word.now None c.in-None.ensures.cases (lit< tt)) c.read_plus.ensures
