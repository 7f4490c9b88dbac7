-- The walk's answer in the theory's words (document 01, "The walk and the chain shown").
use Rattle.std.specs.Prelude.{Option, Some, None}
use Rattle.theory.specs.Walk as theory
use Rattle.walk.specs.declared.four.Four.{Four}

abbrev pub named : Four → theory.Four
named q = record { t1 = q.t1; b1 = q.b1; t2 = q.t2; tm = q.tm }

-- each case with the document's values
abbrev pub answered : Option Four → theory.Answer
answered (Some q) = theory.found (named q)
answered None = theory.end
