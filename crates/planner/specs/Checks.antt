-- The checks that a question makes before it answers (document 01, "Reasons for turning a call down"): the sheet's own faults come
-- first, then 13, 14 and 15, each only where the question has that argument.
use Rattle.std.specs.Prelude.{ℕ, suc, not, List, [], ◌∷◌, ltb, eqb, length, Result}
use Rattle.sheet.specs.Step.{Step, ok, refuse, next}
use Rattle.sheet.specs.Sheet.{sheet_of}
use Rattle.sheet.specs.Answer.{step_of}
use Rattle.sheet.specs.declared.Refusal.{Refusal}
use Rattle.sheet.specs.declared.Table.{Table}

-- 14: the first level above top, the levels being counted from i
unfoldable pub none_above : ℕ → ℕ → List ℕ → Step (Unit {0})
none_above top i [] = ok tt
none_above top i (l ∷ ls) = refuse (ltb top l) 14 i (none_above top (suc i) ls)

-- 13, then 14; levels are offered up to SSI
unfoldable pub levels_at : ℕ → List ℕ → Step (Unit {0})
levels_at jobs ls = refuse (not (eqb (length ls) jobs)) 13 0 (none_above 2 0 ls)

-- 15
unfoldable pub room_at : ℕ → ℕ → Step (Unit {0})
room_at jobs room = refuse (ltb room jobs) 15 0 (ok tt)

abbrev pub checked_of : Result (Unit {0}) Refusal → Step (Unit {0})
checked_of c = step_of (λ _. tt) c

-- what was read, once a check is passed
abbrev pub checked_with : Table → Result (Unit {0}) Refusal → Step Table
checked_with t c = step_of (λ _. t) c

-- a sheet that is read, and then a check of what comes with it
unfoldable pub sheet_with : (Table → Step (Unit {0})) → List ℕ → Step Table
sheet_with check s = next (sheet_of s) λ t. next (check t) λ _. ok t

-- a sheet that comes with a list of levels
abbrev pub with_levels : List ℕ → List ℕ → Step Table
with_levels s ls = sheet_with (λ t. levels_at t.jobs ls) s

-- a sheet that comes with an answer buffer of this length
abbrev pub with_room : List ℕ → ℕ → Step Table
with_room s room = sheet_with (λ t. room_at t.jobs room) s
