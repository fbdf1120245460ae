-- What is outside of a session, and how it changes.
use Rattle.std.specs.Prelude.{ℕ, ◌≡◌, List, ◌++◌, Option, Result, Ok, Err}
use Rattle.mt_shelf_spec.specs.Files.{Files}
use Rattle.mt_session_spec.specs.Gains.{Gained}
use Rattle.mt_session_spec.specs.Replies.{Known}
use Rattle.mt_session_spec.specs.World.{Held}
use Rattle.mt_session_spec.specs.Runs.{Outside}
use Rattle.mt_outside.specs.Faults.{Rose}
use Rattle.mt_outside.specs.declared.sink.SinkError.{SinkError}
use Rattle.mt_outside.specs.declared.sink.SinkError.TheVariants.{Failed, NoMemory}

-- a source, a sink, a shelf and a shop
abbrev pub outside : Option (List ℕ) → ℕ → Option (List ℕ) → ℕ → Option Files → List (List ℕ) → List (List ℕ) → Outside
outside left source_faults written sink_faults files failed refused =
    record { left = left; source_faults = source_faults; written = written; sink_faults = sink_faults; files = files; failed = failed; refused = refused }

-- what is outside, and a shop beside it that refused these texts
abbrev pub beside : Outside → List (List ℕ) → Outside
beside start refused = record start { refused = refused }

-- ## What a call changes: all else is as it was

-- a read changes what the source has left and its count of faults
abbrev pub reads_on : Outside → Outside → Outside
reads_on old new = record old { left = new.left; source_faults = new.source_faults }

-- a write changes what the sink holds and its count of faults
abbrev pub writes_on : Outside → Outside → Outside
writes_on old new = record old { written = new.written; sink_faults = new.sink_faults }

-- a load changes the names at which calls of the shelf failed
abbrev pub loads_on : Outside → Outside → Outside
loads_on old new = record old { failed = new.failed }

-- the objects outside gained this, and the shelf tells its files as before
abbrev pub gains : Outside → Gained → Outside
gains old gained = record old { failed = old.failed ++ gained.failed; refused = old.refused ++ gained.refused }

-- what is known of the world by what is held and what is outside
abbrev pub known : Held → Outside → Known
known held start = record { held = held; files = start.files }

-- ## Counts of faults

-- nothing more was read, and no read failed
pub record SameSource (old new : Outside) : Type 0 where
  pub left : new.left ≡ old.left
  pub faults : new.source_faults ≡ old.source_faults

-- no call of source or sink failed
pub record NoFaults (old new : Outside) : Type 0 where
  pub source : new.source_faults ≡ old.source_faults
  pub sink : new.sink_faults ≡ old.sink_faults

-- The count of faults of the sink, by what is answered where nothing is read: a failed write ends all, and is counted.
abbrev pub CountsSink : {X : Type 0} → Result X SinkError → Outside → Outside → Type 0
CountsSink (Ok x) old new = SameSource old new × (new.sink_faults ≡ old.sink_faults)
CountsSink (Err Failed) old new = SameSource old new × Rose old.sink_faults new.sink_faults
CountsSink (Err NoMemory) old new = SameSource old new × (new.sink_faults ≡ old.sink_faults)
