use Rattle.std.proofs.Common.{ap}
use Rattle.mt_registry.specs.SeenForm.{form_seen}
use Rattle.mt_registry.proofs.RegistryLines.{at_entry, entry_refused, entry_placed}
use Rattle.mt_registry.proofs.lines.Reader.is_refused.Goals as goal

pub returns-then-is_bad_value : goal.returns-then-is_bad_value
returns-then-is_bad_value c = entry_refused _ _ _ c.in-Entry.key.now c.in-Entry.value.now c.in-Entry.opens _ c.is_bad_value.result
    (at_entry _ _ _ _ _ _ _ _ c.requires.form (ap form_seen c.in-Entry.is) c.requires.effect) c.if-is_bad_value.true (c.is_bad_value.ensures.0 c.if-is_bad_value.true)

pub returns-else-is_bad_value : goal.returns-else-is_bad_value
returns-else-is_bad_value c = entry_placed _ _ _ c.in-Entry.key.now c.in-Entry.value.now c.in-Entry.opens _ c.is_bad_place.result
    (at_entry _ _ _ _ _ _ _ _ c.requires.form (ap form_seen c.in-Entry.is) c.requires.effect) (λ bad. let said = c.is_bad_value.ensures.1 bad in let not_so = c.if-is_bad_value.false in cc) c.is_bad_place.ensures
