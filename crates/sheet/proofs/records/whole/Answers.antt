use mathlib.Core.Path.{sym, ◌∙◌}
use Rattle.sheet.proofs.FoundLaws.{outside_is, refused_is}
use Rattle.sheet.proofs.RecordLaws.{record_short, record_tag, record_length, record_behind, record_found}
use Rattle.sheet.proofs.records.whole.Goals as goal

pub returns-in_default : goal.returns-in_default
returns-in_default c = refused_is _ _ _ _ c.refuse.ensures (record_short _ _ _ _ _ c.in_default.len_below)

pub returns-then-first-tag : goal.returns-then-first-tag
returns-then-first-tag c =
    refused_is _ _ _ _ c.refuse-then-first-tag.ensures (record_tag _ _ _ _ _ c.in-len3-up.len_at_least c.if-first-tag.true)

pub returns-then-not-contains : goal.returns-then-not-contains
returns-then-not-contains c =
    let o = outside_is _ c.new.ensures.start c.new.ensures.end c.new.ensures.exhausted c.contains.ensures.value c.if-not-contains.true in
    refused_is _ _ _ _ c.refuse-then-not-contains.ensures
    (record_length _ _ _ _ _ c.in-len3-up.len_at_least c.if-first-tag.false _ (c.from-len.ensures ∙ c.from_be_bytes.ensures) o)

pub returns-then-rest-len : goal.returns-then-rest-len
returns-then-rest-len c =
    let o = outside_is _ c.new.ensures.start c.new.ensures.end c.new.ensures.exhausted c.contains.ensures.value c.if-not-contains.false in
    refused_is _ _ _ _ c.refuse-then-rest-len.ensures
    (record_behind _ _ _ _ _ c.in-len3-up.len_at_least c.if-first-tag.false _ (c.from-len.ensures ∙ c.from_be_bytes.ensures) o c.if-rest-len.true)

pub returns : goal.returns
returns c =
    let o = outside_is _ c.new.ensures.start c.new.ensures.end c.new.ensures.exhausted c.contains.ensures.value c.if-not-contains.false in
    sym
    (record_found _ _ _ _ _ c.in-len3-up.len_at_least c.if-first-tag.false _ (c.from-len.ensures ∙ c.from_be_bytes.ensures) o c.if-rest-len.false)
