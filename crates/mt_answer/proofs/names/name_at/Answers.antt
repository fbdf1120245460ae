use Rattle.std.proofs.Common.{◌-◌, length, take, drop}
use Rattle.mt_answer.proofs.Texts.{front_is_text}
use Rattle.mt_answer.proofs.names.name_at.Goals as goal

pub returns-in-Err : goal.returns-in-Err
returns-in-Err c = absurd (c.in-Err.ensures.cases.0 (front_is_text (take (length c.as_bytes-bytes.result.now - c.args.at) (drop c.args.at c.as_bytes-bytes.result.now)) c.identifier_len.result c.identifier_len.ensures.count))
