-- What stands in a table, and in the sets beside it, said of the structs.
use Rattle.sheet.specs.declared.Table.{Table}
use Rattle.theory.specs.Danger.{Jobs}
use Rattle.theory.specs.Form1.{form1}
use Rattle.conflicts.specs.declared.sets.Sets as declared
use Rattle.conflicts.specs.Laid.{Stands}
use Rattle.conflicts.specs.Sets.{Sets}
use Rattle.conflicts.specs.SetsFound.{SetsFound}

-- as many jobs as the table says stand in its arrays, on objects below the number that it says
abbrev pub StandsIn : Table → Type 0
StandsIn t = Stands t.jobs t.objects t.kind t.object

-- the sets belong to these jobs
abbrev pub SetsOf : Jobs form1 → declared.Sets → Type 0
SetsOf js sets = Sets form1 js sets.table.now.kind sets.writers sets.ww sets.rw sets.wr sets.clash

-- likewise, with every entry of the sets settled
abbrev pub FoundOf : Jobs form1 → declared.Sets → Type 0
FoundOf js sets = SetsFound js sets.table.now.kind sets.table.now.object sets.writers sets.ww sets.rw sets.wr sets.clash
