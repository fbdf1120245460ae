-- What each command and each question means: one case for each.
use Rattle.mt_script_spec.specs.Commands.{Ask, Count, Query, Freq, Colloc, Sketch, Thes, Command, Registry, Text, Add, Generate, Asks, Grammar, Rules, Merge, Batch, Segments, Save, Load, Quit, Remove, Subcorpus, Subcount, Keywords, Partner}
use Rattle.mt_session_spec.specs.World.{World}
use Rattle.mt_session_spec.specs.Settings.{Setting}
use Rattle.mt_session_spec.specs.Scenes.{Scene, scene_of}
use Rattle.mt_session_spec.specs.Meaning.{Meaning, Question, unbuilt, asking}
use Rattle.mt_session_spec.specs.Registering.{registering}
use Rattle.mt_session_spec.specs.Adding.{texting, adding}
use Rattle.mt_session_spec.specs.Generating.{generating}
use Rattle.mt_session_spec.specs.Counting.{counting}
use Rattle.mt_session_spec.specs.Querying.{querying}
use Rattle.mt_session_spec.specs.Reporting.{listing_frequencies, listing_collocates}
use Rattle.mt_session_spec.specs.Ruling.{ruling_by_file, ruling}
use Rattle.mt_session_spec.specs.Sketching.{sketching, finding_alike}
use Rattle.mt_session_spec.specs.Listing.{listing}
use Rattle.mt_session_spec.specs.Quitting.{quitting}
use Rattle.mt_session_spec.specs.Removing.{removing}

-- what a question means where this is seen
abbrev pub question : Scene → Ask → Question
question scene (Count cql) = counting scene cql
question scene (Query cql) = querying scene cql
question scene (Freq attr offset cql) = listing_frequencies scene attr offset cql
question scene (Colloc attr first last least cql) = listing_collocates scene attr first last least cql
question scene (Sketch least most lemma) = sketching scene least most lemma
question scene (Thes most lemma) = finding_alike scene most lemma

-- what a command means in a world
abbrev pub meaning : Setting → World → Command → Meaning
meaning setting world (Registry file) = registering setting world file
meaning setting world (Text name body) = texting setting world name body
meaning setting world (Add name file) = adding setting world name file
meaning setting world (Generate name seed tokens) = generating setting world name seed tokens
meaning setting world (Asks ask) = asking (question (scene_of setting world.held) ask) world
meaning setting world (Grammar file) = ruling_by_file setting world file
meaning setting world (Rules body) = ruling setting world body
meaning setting world (Merge first last) = unbuilt world
meaning setting world (Batch asked merge) = unbuilt world
meaning setting world Segments = listing world
meaning setting world (Save name) = unbuilt world
meaning setting world (Load name) = unbuilt world
meaning setting world Quit = quitting world
meaning setting world (Remove name) = removing world name
meaning setting world (Subcorpus name cql) = unbuilt world
meaning setting world (Subcount name cql) = unbuilt world
meaning setting world (Keywords name attr rarity most) = unbuilt world
meaning setting world (Partner name kind) = unbuilt world
