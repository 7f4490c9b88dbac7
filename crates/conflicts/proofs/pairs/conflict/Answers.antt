-- `conflict` meets its contract, by cases of the tests.
-- Assumes nothing.
use native.Mathlib.Omega.{arith}
use Rattle.conflicts.proofs.FitsLaws.{fits_apart, fits_read, fits_write, fits_none}
use Rattle.conflicts.proofs.pairs.conflict.Goals as goal

pub returns-then-table-x : goal.returns-then-table-x
returns-then-table-x c = fits_apart _ _ _ _ _ c.if-table-x.true

pub returns-in-1-eq2 : goal.returns-in-1-eq2
returns-in-1-eq2 c = fits_read _ _ _ _ _ c.if-table-x.false c.in-1-eq2.is-0 c.in-1-eq2.is-1

pub returns-in-2-eq1 : goal.returns-in-2-eq1
returns-in-2-eq1 c = fits_write _ _ _ _ _ c.if-table-x.false c.in-2-eq1.is-0 (omega arith) (omega arith)

pub returns-in_default : goal.returns-in_default
returns-in_default c = fits_none _ _ _ _ _ (λ e f. omega arith) (λ e f g. omega arith)

pub returns-in_default-2 : goal.returns-in_default-2
returns-in_default-2 c = fits_none _ _ _ _ _ (λ e f. omega arith) (λ e f g. omega arith)

pub returns-in_default-3 : goal.returns-in_default-3
returns-in_default-3 c = fits_none _ _ _ _ _ (λ e f. omega arith) (λ e f g. omega arith)

pub returns-in_default-4 : goal.returns-in_default-4
returns-in_default-4 c = fits_none _ _ _ _ _ (λ e f. omega arith) (λ e f g. omega arith)
