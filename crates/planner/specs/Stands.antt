-- What is known of sets that are lent with their table: jobs that stand in the table, and that the sets are those of jobs with which
-- these conflict.
use Rattle.std.specs.Prelude.{◌≡◌, length}
use Rattle.theory.specs.Danger.{Jobs}
use Rattle.theory.specs.Form1.{form1}
use Rattle.conflicts.specs.Laid.{Laid}
use Rattle.conflicts.specs.SetsOf.{SetsOf}
use Rattle.conflicts.specs.declared.sets.Sets as declared

pub record SetsStand (s : declared.Sets) : Type 0 where
  pub js : Jobs form1
  pub size : length js ≡ s.table.now.jobs
  pub laid : Laid s.table.now.kind s.table.now.object js
  pub sets : SetsOf js s
