-- A read into the rest of the bytes leaves their front as it was, and adds what it gave.
use Rattle.std.proofs.Common.{◌-◌, rules, length, sym, subst}
use Rattle.std.specs.Io.KnownBytes.{Consumes}
use Rattle.std.proofs.KnownBytes.{Consumes-trans}
use Rattle.survey.proofs.PartLaws.{take-put_mid_within}
use Rattle.survey.proofs.input.read_full.Goals as goal

pub loop-done-preserved : goal.loop-done-preserved
loop-done-preserved g c =
    let from = c.loop-done.done in
    let room = length c.loop-done.bytes - from in
    let joined = take-put_mid_within from room c.in_ok-n.n c.loop-done.bytes c.read.new.buf c.loop-done.invariant.in_bounds c.in_ok-n.ensures.bound.0 in
    record {
      same_length = search rules;
      in_bounds = search rules;
      fits = search rules;
      given = subst (Consumes _ _) (sym joined) (Consumes-trans _ _ _ _ _ c.loop-done.invariant.given c.in_ok-n.ensures.bytes.0);
    }
