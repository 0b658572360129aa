use Rattle.merge_round.proofs.Journals.{plans_as_journal, judges_as_journal}
use Rattle.merge_round.proofs.laws.rounds_judge_as_journals.Goals as goal

pub returns-clause-plan : goal.returns-clause-plan
returns-clause-plan c = plans_as_journal

pub returns-clause-verdicts : goal.returns-clause-verdicts
returns-clause-verdicts c = judges_as_journal
