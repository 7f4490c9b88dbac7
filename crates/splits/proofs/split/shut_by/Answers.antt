use Rattle.theory.specs.Form1.{form1}
use Rattle.splits.proofs.CloseLaws.{shut_has}
use Rattle.splits.proofs.split.shut_by.Goals as goal

pub returns : goal.returns
returns c = λ js kind writers ww-of rw-of wr-of s. shut_has form1 js _ _ _ (s.job_clash _ c.requires) c.with.ensures
