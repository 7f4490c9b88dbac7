-- Four numbers of which each is a byte, so that their keys are bounded and a walk with rising keys ends.
use Rattle.std.specs.Prelude.{◌<◌}
use Rattle.walk.specs.declared.four.Four.{Four}

pub record Bytes (q : Four) : Type 0 where
  pub t1 : q.t1 < 256
  pub b1 : q.b1 < 256
  pub t2 : q.t2 < 256
  pub tm : q.tm < 256
