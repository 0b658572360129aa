use Rattle.std.proofs.Common.{◌≡◌, ◌∙◌}
use Rattle.std.proofs.lemmas.Result.{IfOk-weaker}
use Rattle.sql_parse.specs.declared.expression.reader.Mode.TheVariants.{Named, Complete}
use Rattle.sql_parse.proofs.CodeExpressions.{step-named, step-complete}
use Rattle.sql_parse.proofs.expression.step.step.Goals as goal

pub returns-in-Named : goal.returns-in-Named
returns-in-Named c =
    let last : c.args.reader.now.mode ≡ Named c.in-Named.name = cc in
    IfOk-weaker c.named_step.result _ _
    (λ move did. did ∙ step-named c.replace.new.dest c.args.reader.now c.in-Named.name c.args.token.now c.args.before_integer last)
    c.named_step.ensures

pub returns-in-Complete : goal.returns-in-Complete
returns-in-Complete c =
    let last : c.args.reader.now.mode ≡ Complete c.in-Complete.value c.in-Complete.level = cc in
    IfOk-weaker c.complete_step.result _ _
    (λ move did. did ∙ step-complete c.replace.new.dest c.args.reader.now c.in-Complete.value c.in-Complete.level c.args.token.now c.args.before_integer last)
    c.complete_step.ensures
