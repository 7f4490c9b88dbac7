use mathlib.Core.Path.{sym}
use Rattle.planner.proofs.CheckLaws.{room_short, room_enough}
use Rattle.planner.proofs.levels.check_room.Goals as goal

pub returns-then-room-jobs : goal.returns-then-room-jobs
returns-then-room-jobs c = sym (room_short _ _ c.if-room-jobs.true)

pub returns : goal.returns
returns c = sym (room_enough _ _ c.if-room-jobs.false)
