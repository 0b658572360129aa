-- What is said to sessions.
use Rattle.std.specs.Prelude.{ℕ, List, [], ◌++◌, length, codes}
use Rattle.std.specs.List.{flat_map}
use Rattle.std.specs.Fmt.{decimal}
use Rattle.geo_base.specs.declared.outcome.Outcome.{Outcome}
use Rattle.geo_base.specs.declared.outcome.Outcome.TheVariants as outcome
use Rattle.geo_schema.specs.Schemas.{Tables}
use Rattle.geo_report.specs.Refusals.{refusal_text}
use Rattle.geo_report.specs.Words.{line, row_lines, id_text, row_name}
use Rattle.geo_report.specs.declared.reply.Reply.{Reply}
use Rattle.geo_report.specs.declared.reply.Reply.TheVariants as reply

-- what became of a candidate of the epoch
abbrev pub outcome_text : Tables → ℕ → Outcome → List ℕ
outcome_text tables epoch outcome.Committed = codes "committed at " ++ decimal epoch
outcome_text tables epoch (outcome.Changed row at) = codes "aborted changed " ++ row_name tables row ++ codes " at " ++ decimal at
outcome_text tables epoch (outcome.Beaten row winner) = codes "aborted beaten " ++ row_name tables row ++ codes " by " ++ id_text winner

-- what a reply says in its first line
abbrev pub reply_text : Tables → Reply → List ℕ
reply_text tables (reply.Begun epoch) = codes "begun at " ++ decimal epoch
reply_text tables (reply.Reading epoch) = codes "reading at " ++ decimal epoch
reply_text tables (reply.Changed rows) = codes "changed " ++ decimal rows
reply_text tables (reply.ChangedTicket rows id) = codes "changed " ++ decimal rows ++ codes " ticket " ++ id_text id
reply_text tables (reply.Ticket id) = codes "ticket " ++ id_text id
reply_text tables reply.ReadOnly = codes "read-only"
reply_text tables reply.RolledBack = codes "rolled back"
reply_text tables (reply.Rows rows) = codes "rows " ++ decimal (length rows)
reply_text tables (reply.Plan _) = codes "plan"
reply_text tables (reply.Refused why) = codes "refused " ++ refusal_text tables why
reply_text tables (reply.Told epoch what) = outcome_text tables epoch what
reply_text tables (reply.Pending published) = codes "pending, published " ++ decimal published
reply_text tables reply.Gone = codes "gone"
reply_text tables reply.NoTicket = codes "no ticket"

-- the lines behind the first one: those of a query, or those of its plan
abbrev pub further_lines : Reply → List ℕ
further_lines (reply.Rows rows) = row_lines rows
further_lines (reply.Plan texts) = flat_map line texts
further_lines _ = []

-- the lines of a reply; the first one begins with the session's region and number
unfoldable pub reply_lines_of : ℕ → ℕ → Tables → Reply → List ℕ
reply_lines_of region session tables said =
    line (decimal region ++ codes "." ++ decimal session ++ codes " " ++ reply_text tables said) ++ further_lines said
