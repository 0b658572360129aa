use Rattle.std.proofs.Common.{Some, ap, sym, ◌∙◌}
use Rattle.schema_text.specs.laws.TextMarks.{cut_marks, stop_marks}
use Rattle.schema_text.proofs.mark.marks_of.Goals as goal

pub returns-in_ok-each_mark-in-Ok : goal.returns-in_ok-each_mark-in-Ok
returns-in_ok-each_mark-in-Ok c =
    ap Some c.in_ok-each_mark-in-Ok.ensures ∙ sym (cut_marks c.args.text.now c.in-Ok.tokens.items c.in-Ok.ensures.cut)

pub returns-in-Err-BadText : goal.returns-in-Err-BadText
returns-in-Err-BadText c = sym (stop_marks c.args.text.now c.in-Err-BadText.field-0 c.in-Err-BadText.field-0-0 c.in-Err-BadText.field-0-is c.in-Err-BadText.ensures.fault)
