use Rattle.sheet.specs.AnswerLaws.{answer_table}
use Rattle.answer_lines.proofs.reading.put_answer.Goals as goal

-- whatever was read, the table has at most 32 jobs of at most 16 operations
pub put_table-requires : goal.put_table-requires
put_table-requires c =
    let t = answer_table _ _ c.read_sheet-read.ensures in
    (t.operations.jobs_most, t.operations.count_most)
