use mathlib.Core.Path.{refl, sym, ◌∙◌}
use Rattle.sheet.specs.Marks.{marked_more}
use Rattle.sheet.proofs.FoundLaws.{outside_is, refused_is, no_value}
use Rattle.sheet.proofs.OperationLaws.{operation_kind, operation_object, operation_twice, operation_stored}
use Rattle.sheet.proofs.operations.operation.Goals as goal

pub returns-then-not-contains : goal.returns-then-not-contains
returns-then-not-contains c =
    let o = outside_is _ c.new.ensures.start c.new.ensures.end c.new.ensures.exhausted c.contains.ensures.value c.if-not-contains.true in
    let r = c.refuse.ensures in
    (refused_is _ _ _ _ r (operation_kind _ _ _ _ _ o), (refl, refl, refl, refl), no_value _ _ r)

pub returns-then-table-from : goal.returns-then-table-from
returns-then-table-from c =
    let o = outside_is _ c.new.ensures.start c.new.ensures.end c.new.ensures.exhausted c.contains.ensures.value c.if-not-contains.false in
    let r = c.refuse-then-table-from.ensures in (
      refused_is _ _ _ _ r
          (operation_object _ _ _ _ _ o _ (c.from.ensures ∙ c.word-x.ensures) c.if-table-from.true),
      (refl, refl, refl, refl),
      no_value _ _ r,
    )

pub returns-then-is_twice : goal.returns-then-is_twice
returns-then-is_twice c =
    let o = outside_is _ c.new.ensures.start c.new.ensures.end c.new.ensures.exhausted c.contains.ensures.value c.if-not-contains.false in
    let r = c.refuse-then-is_twice.ensures in (
      refused_is _ _ _ _ r
          (operation_twice _ _ _ _ _ o _ c.word-x.ensures (rw c.from.ensures at c.if-table-from.false) _ c.is_twice.ensures c.if-is_twice.true),
      (refl, refl, refl, refl),
      no_value _ _ r,
    )

pub returns : goal.returns
returns c =
    let o = outside_is _ c.new.ensures.start c.new.ensures.end c.new.ensures.exhausted c.contains.ensures.value c.if-not-contains.false in (
      sym (operation_stored _ _ _ _ _ o _ c.word-x.ensures (rw c.from.ensures at c.if-table-from.false) _ c.is_twice.ensures c.if-is_twice.false),
      (refl, refl, refl, refl),
      λ next i. marked_more _ _ _ _ _ _ _ _ c.slot.ensures.0 c.requires.2,
    )
