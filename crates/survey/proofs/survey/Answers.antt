use Rattle.sheet.specs.AnswerLaws.{answer_table}
use Rattle.planner.proofs.AnswerLaws.{read_stands}
use Rattle.survey.proofs.survey.Goals as goal

pub put_table-requires : goal.put_table-requires
put_table-requires g c =
    let t = answer_table _ _ c.read_sheet-read.ensures in
    (t.operations.jobs_most, t.operations.objects_most, read_stands _ t)
