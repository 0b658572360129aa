-- What is said of regions and packets.
use Rattle.std.specs.Prelude.{ℕ, List, ◌++◌, codes}
use Rattle.std.specs.Fmt.{decimal}
use Rattle.geo_report.specs.Refusals.{seal_text}
use Rattle.geo_report.specs.Words.{line}
use Rattle.geo_report.specs.declared.notice.Notice.{Notice}
use Rattle.geo_report.specs.declared.notice.Notice.TheVariants as notice
use Rattle.geo_report.specs.declared.notice.PacketNews.{PacketNews}
use Rattle.geo_report.specs.declared.notice.PacketNews.TheVariants as news

-- how a region's line begins
abbrev pub region_text : ℕ → List ℕ
region_text region = codes "region " ++ decimal region ++ codes " "

-- how a packet's line begins
abbrev pub packet_text : ℕ → List ℕ
packet_text packet = codes "packet " ++ decimal packet ++ codes " "

-- what became of a packet
abbrev pub news_text : PacketNews → List ℕ
news_text news.New = codes "new"
news_text news.Known = codes "known"
news_text (news.Far limit) = codes "far " ++ decimal limit
news_text news.Answered = codes "answered"
news_text news.Unanswered = codes "unanswered"
news_text news.Lost = codes "lost"
news_text news.Absent = codes "absent"

-- what a notice says
abbrev pub notice_text : Notice → List ℕ
notice_text (notice.Sealed region epoch count) = region_text region ++ codes "sealed " ++ decimal epoch ++ codes " with " ++ decimal count
notice_text (notice.Sent packet to) = packet_text packet ++ codes "to " ++ decimal to
notice_text (notice.SealRefused region why) = region_text region ++ codes "refused " ++ seal_text why
notice_text (notice.Packet packet what) = packet_text packet ++ news_text what
notice_text (notice.Published region epoch commits aborts) =
    region_text region ++ codes "published " ++ decimal epoch ++ codes " commits " ++ decimal commits ++ codes " aborts " ++ decimal aborts
notice_text (notice.Waiting region epoch have regions) =
    region_text region ++ codes "waiting " ++ decimal epoch ++ codes ": have " ++ decimal have ++ codes " of " ++ decimal regions
notice_text (notice.At region published) = region_text region ++ codes "at " ++ decimal published
notice_text (notice.Crashed region) = region_text region ++ codes "crashed"
notice_text (notice.Restarted region entries) = region_text region ++ codes "restarted with " ++ decimal entries
notice_text (notice.Up region) = region_text region ++ codes "up"
notice_text (notice.Down region) = region_text region ++ codes "down"

-- the line of a notice
unfoldable pub notice_lines_of : Notice → List ℕ
notice_lines_of told = line (notice_text told)
