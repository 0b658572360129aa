use Rattle.std.proofs.Common.{map, ◌≡◌, ℕ, ap, ◌∙◌, arith}
use Rattle.std.specs.Option.{option_map}
use Rattle.sql_plan.specs.Plans.{linked_column}
use Rattle.sql_plan.specs.declared.links.Link.{Link}
use Rattle.sql_plan.specs.inner.Borrowed.{seen_link}
use Rattle.sql_plan.proofs.Parts.{linked_seen}
use Rattle.sql_plan.proofs.joins.linked_column.Goals as goal

pub returns-in-Some : goal.returns-in-Some
returns-in-Some c =
    let same : c.from.result ≡ c.args.column = omega arith in
    ap (option_map (λ (l : Link). l.left)) c.in-Some.ensures
    ∙ (linked_seen c.args.links.now c.from.result ∙ ap (λ (n : ℕ). linked_column (map seen_link c.args.links.now) n) same)

pub returns-in-None : goal.returns-in-None
returns-in-None c =
    let same : c.from.result ≡ c.args.column = omega arith in
    ap (option_map (λ (l : Link). l.left)) c.in-None.ensures
    ∙ (linked_seen c.args.links.now c.from.result ∙ ap (λ (n : ℕ). linked_column (map seen_link c.args.links.now) n) same)
