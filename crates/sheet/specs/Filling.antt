-- A table while it is being filled: what a step of the code finds in it, and what it leaves of it.
use Rattle.std.specs.Prelude.{ℕ, ◌≡◌, replicate}
use Rattle.sheet.specs.Sheet.{Cells, Rows}
use Rattle.sheet.specs.declared.Table.{Table}

-- a table into which nothing is read
abbrev pub empty_table : Table
empty_table =
    record { jobs = 0; objects = 0; level = replicate 32 0; count = replicate 32 0; kind = replicate 512 0; object = replicate 512 0 }

-- the operations in a table, and the place of the next
abbrev pub cells_in : Table → ℕ → Cells
cells_in t at = record { at = at; kind = t.kind; object = t.object }

-- the jobs in a table, and the place of the next record
abbrev pub rows_in : Table → ℕ → Rows
rows_in t at = record { at = at; level = t.level; count = t.count; kind = t.kind; object = t.object }

-- what a job record leaves of the table: the number of jobs and of objects
abbrev pub SameHead : Table → Table → Type 0
SameHead t u = (u.jobs ≡ t.jobs) × (u.objects ≡ t.objects)

-- what its operations leave: the levels and the counts too
abbrev pub SameRows : Table → Table → Type 0
SameRows t u = (u.jobs ≡ t.jobs) × (u.objects ≡ t.objects) × (u.level ≡ t.level) × (u.count ≡ t.count)
