use Rattle.std.proofs.Common.{◌≡◌, ◌++◌, refl, string_bytes}
use Rattle.std.specs.Prelude.{codes}
use Rattle.std.specs.Fmt.{decimal}
use Rattle.geo_report.specs.Replies.{further_lines, reply_lines_of, reply_text}
use Rattle.geo_report.specs.Words.{line}
use Rattle.geo_report.proofs.Lines.{adds_behind, said_line}
use Rattle.geo_report.proofs.replying.print_said.Goals as goal

pub returns : goal.returns
unfolding reply_lines_of
returns c =
    let text = reply_text c.args.schema.now c.args.reply.now in
    let first = line (decimal c.args.region ++ codes "." ++ decimal c.args.session ++ codes " " ++ text) in
    let before : string_bytes c.push_str-2.new.self ≡ string_bytes c.args.out.now ++ first =
    said_line _ _ _ _ _ _ (decimal c.args.region) (decimal c.args.session) text
    (rw c.from.ensures at c.in_ok-print_number.ensures) (rw c.from-2.ensures at c.in_ok-print_number-2.ensures) c.in_ok-push_str.ensures.bytes
    c.in_ok-print_reply.ensures c.in_ok-push_str-2.ensures.bytes
    in adds_behind _ _ _ _ first (further_lines c.args.reply.now) _ before refl c.print_further.ensures
