-- What contracts see of causes.
use Rattle.mt_file_spec.specs.Vertical.{TextCause, NotUtf8, TooManyTokens, ValueTooLong}
use Rattle.mt_vertical.specs.declared.error.TextCause.{TextCause as RustCause}
use Rattle.mt_vertical.specs.declared.error.TextCause.TheVariants as cause

-- the cause that is told
abbrev pub text_cause_of : RustCause → TextCause
text_cause_of cause.NotUtf8 = NotUtf8
text_cause_of cause.TooManyTokens = TooManyTokens
text_cause_of cause.ValueTooLong = ValueTooLong
