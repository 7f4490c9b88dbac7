-- Each danger has a key of its own, so there are no more of them than the key says.
use Rattle.std.proofs.Common.{◌-◌, ◌≤◌}
use Rattle.survey.specs.Bytes.{Bytes}
use Rattle.survey.proofs.RiseLaws.{key_of}
use Rattle.survey.proofs.put_dangers.Given as goal

abbrev pub invariant-loop-danger : goal.invariant-loop-danger
invariant-loop-danger g l = (l.count ≤ key_of l.from) × Bytes l.from

abbrev pub decreases-loop-danger : goal.decreases-loop-danger
decreases-loop-danger g l = 4294967296 - key_of l.from
