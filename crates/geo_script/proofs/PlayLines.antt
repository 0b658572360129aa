-- An event that was read of a line of a play is typed by that line, and its numbers are in their ranges.
use Rattle.std.proofs.Common.{◌≡◌, ℕ, ◌-◌, ◌<◌, ◌≤◌, ◌^◌, ◌==◌, ◌&&◌, Bool, true, false, not, cond, List, ◌∷◌, ◌++◌, length, Some, None, Ok, nat_lt, nat_le, refl, sym, ap, ◌∙◌, subst, arith, inl, inr, ◌⊎◌}
use Rattle.std.specs.Prelude.{codes}
use Rattle.std.specs.Fmt.{decimal}
use Rattle.std.specs.Option.{option_and_then, ok_or}
use Rattle.std.specs.Str.{bytes_eq}
use Rattle.std.proofs.lemmas.Bool.{and_parts, leb-true, ltb-true, eqb-false, not-true}
use Rattle.std.proofs.lemmas.Fmt.{decimal_injective}
use Rattle.std.proofs.lemmas.List.{append-nil}
use Rattle.std.proofs.lemmas.Slice.Eq.{bytes_eq-Decides}
use Rattle.geo_base.specs.declared.limits.TheConstants.{MAX_REGIONS, PACKETS_PER_LINE, SESSIONS_PER_REGION}
use Rattle.geo_base.specs.laws.Results.{bind_ok}
use Rattle.geo_script.specs.declared.event.Event.{Event}
use Rattle.geo_script.specs.declared.event.Event.TheVariants as event
use Rattle.geo_script.specs.declared.event.Sealing.{Sealing}
use Rattle.geo_script.specs.declared.event.Sealing.TheVariants.{No, Kept, Lost}
use Rattle.geo_script.specs.declared.fault.ScriptKind.TheVariants.{BadLine, BadNumber, LongStatement}
use Rattle.geo_script.specs.declared.limits.TheConstants.{STATEMENT_BYTES, SEATS_PER_ROUND, LAST_ASKED_EPOCH, LAST_PACKET}
use Rattle.geo_script.specs.declared.script.Form.{Form}
use Rattle.geo_script.specs.declared.script.Form.TheVariants.{Play, Run}
use Rattle.geo_script.specs.inner.EventLines.{number_or_bad, region, place, statement_parts, sql, outcome, only_region, packet_words, deliver, fetch, work, sealing_of, crash_words, crash}
use Rattle.geo_script.specs.Spelling.{session_text, sealing_text, Types, IsWithin, IsOfForm}
use Rattle.geo_base.specs.Results.{◌>>=◌}
use Rattle.geo_script.specs.inner.Words.{cut, two_words, three_words, number_within}
use Rattle.geo_script.specs.Words.{is_word}
use Rattle.geo_script.proofs.Cuts.{cut_parts}
use Rattle.geo_script.proofs.Decimals.{SpellsWithin, number_spelled}
use Rattle.schema_text.specs.laws.Inversions.{or_ok, then_some, if_ok, unless_ok, when_ok, if_some, when_some}

-- a number of regions
pub record IsRegions (regions : ℕ) : Type 0 where
  pub some : 1 ≤ regions
  pub few : regions ≤ MAX_REGIONS

-- the line is one of the event
pub record Asks (form : Form) (regions : ℕ) (line : List ℕ) (asked : Event) : Type 0 where
  pub of_form : IsOfForm form asked
  pub typed : Types line asked
  pub within : IsWithin regions asked

-- ---- numbers

pub number_is : (least most : ℕ) (word : List ℕ) (n : ℕ) → most < 2 ^ 32 → number_or_bad least most word ≡ Ok n → SpellsWithin least most word n
number_is least most word n fits is = number_spelled least most word n fits (or_ok (number_within least most word) BadNumber n is)

pub record SpellsRegion (regions : ℕ) (word : List ℕ) (at : ℕ) : Type 0 where
  pub spelled : word ≡ decimal at
  pub within : at < regions

pub region_is : (regions : ℕ) → IsRegions regions → (word : List ℕ) (at : ℕ) → region regions word ≡ Ok at → SpellsRegion regions word at
region_is regions lawful word at is =
    let found = number_is 0 (regions - 1) word at (omega (arith, lawful.some, lawful.few)) is in
    record { spelled = found.spelled; within = omega (arith, lawful.some, found.high) }

pub record SpellsPlace (regions : ℕ) (word : List ℕ) (at : ℕ × ℕ) : Type 0 where
  pub spelled : word ≡ session_text at.0 at.1
  pub region : at.0 < regions
  pub session : at.1 < SESSIONS_PER_REGION

pub place_is : (regions : ℕ) → IsRegions regions → (word : List ℕ) (at : ℕ × ℕ) → place regions word ≡ Ok at → SpellsPlace regions word at
unfolding place
place_is regions lawful word at is =
    let cuts = bind_ok (ok_or (cut 46 word) BadNumber) _ at is in
    let found = cut_parts 46 word cuts.0 (or_ok (cut 46 word) BadNumber cuts.0 cuts.1) in
    let first = bind_ok (region regions cuts.0.0) _ at cuts.2 in
    let second = bind_ok (number_or_bad 0 (SESSIONS_PER_REGION - 1) cuts.0.1) _ at first.2 in
    let one = region_is regions lawful cuts.0.0 first.0 first.1 in
    let other = number_is 0 (SESSIONS_PER_REGION - 1) cuts.0.1 second.0 (omega arith) second.1 in
    let same : (first.0, second.0) ≡ at = cc in
    subst (SpellsPlace regions word) same record {
      spelled = found.whole ∙ (ap (λ w. w ++ 46 ∷ cuts.0.1) one.spelled ∙ ap (λ w. decimal first.0 ++ 46 ∷ w) other.spelled);
      region = one.within;
      session = omega (arith, other.high);
    }

-- ---- lines of plays, by what stands behind their first word

record IsStatement (rest at text : List ℕ) : Type 0 where
  pub whole : rest ≡ at ++ 32 ∷ text
  some : 1 ≤ length text

parts_are : (rest : List ℕ) (parts : List ℕ × List ℕ) → statement_parts rest ≡ Some parts → IsStatement rest parts.0 parts.1
unfolding statement_parts
parts_are rest parts is =
    let cuts = then_some _ (cut 32 rest) parts is in
    let found = cut_parts 32 rest cuts.0 cuts.1 in
    let kept = if_some (is_word cuts.0.0 && not (length cuts.0.1 == 0)) cuts.0 parts cuts.2 in
    let some : length cuts.0.1 ≡ 0 → ⊥ = eqb-false (length cuts.0.1) 0 (not-true (length cuts.0.1 == 0) (and_parts (is_word cuts.0.0) (not (length cuts.0.1 == 0)) kept.0).1) in
    subst (λ (p : List ℕ × List ℕ). IsStatement rest p.0 p.1) kept.1 record { whole = found.whole; some = omega (arith, some) }

sql_of_form : (form : Form) (region session : ℕ) (text : List ℕ) → IsOfForm form (event.Sql region session text)
sql_of_form Play region session text = tt
sql_of_form Run region session text = tt

pub sql_asks : (form : Form) (regions : ℕ) → IsRegions regions → (rest : List ℕ) (asked : Event) → sql regions rest ≡ Ok asked → Asks form regions (codes "sql " ++ rest) asked
unfolding sql
sql_asks form regions lawful rest asked is =
    let parts = bind_ok (ok_or (statement_parts rest) BadLine) _ asked is in
    let found = parts_are rest parts.0 (or_ok (statement_parts rest) BadLine parts.0 parts.1) in
    let at = bind_ok (place regions parts.0.0) _ asked parts.2 in
    let spelled = place_is regions lawful parts.0.0 at.0 at.1 in
    let fits = if_ok (nat_le (length parts.0.1) STATEMENT_BYTES) (event.Sql at.0.0 at.0.1 parts.0.1) asked LongStatement at.2 in
    let short : length parts.0.1 ≤ STATEMENT_BYTES = leb-true (length parts.0.1) STATEMENT_BYTES fits.0 in
    subst (Asks form regions (codes "sql " ++ rest)) fits.1 record {
      of_form = sql_of_form form at.0.0 at.0.1 parts.0.1;
      typed = inl (ap (λ w. codes "sql " ++ w) (found.whole ∙ ap (λ w. w ++ 32 ∷ parts.0.1) spelled.spelled));
      within = (spelled.region, spelled.session, found.some, short);
    }

pub outcome_asks : (regions : ℕ) → IsRegions regions → (rest : List ℕ) (asked : Event) → outcome regions rest ≡ Ok asked → Asks Play regions (codes "outcome " ++ rest) asked
unfolding outcome
outcome_asks regions lawful rest asked is =
    let word = when_ok (is_word rest) _ asked BadLine is in
    let at = bind_ok (place regions rest) _ asked word.1 in
    let spelled = place_is regions lawful rest at.0 at.1 in
    let same : event.Outcome at.0.0 at.0.1 ≡ asked = cc in
    subst (Asks Play regions (codes "outcome " ++ rest)) same record {
      of_form = tt;
      typed = inl (ap (λ w. codes "outcome " ++ w) spelled.spelled);
      within = (spelled.region, spelled.session);
    }

only_is : (regions : ℕ) → IsRegions regions → (rest : List ℕ) (at : ℕ) → only_region regions rest ≡ Ok at → SpellsRegion regions rest at
unfolding only_region
only_is regions lawful rest at is = region_is regions lawful rest at (when_ok (is_word rest) (region regions rest) at BadLine is).1

pub seal_asks : (regions : ℕ) → IsRegions regions → (rest : List ℕ) (asked : Event) → (only_region regions rest >>= λ at. Ok (event.Seal at)) ≡ Ok asked →
    Asks Play regions (codes "seal " ++ rest) asked
seal_asks regions lawful rest asked is =
    let at = bind_ok (only_region regions rest) _ asked is in
    let spelled = only_is regions lawful rest at.0 at.1 in
    let same : event.Seal at.0 ≡ asked = cc in
    subst (Asks Play regions (codes "seal " ++ rest)) same record { of_form = tt; typed = inl (ap (λ w. codes "seal " ++ w) spelled.spelled); within = spelled.within }

pub publish_asks : (regions : ℕ) → IsRegions regions → (rest : List ℕ) (asked : Event) → (only_region regions rest >>= λ at. Ok (event.Publish at)) ≡ Ok asked →
    Asks Play regions (codes "publish " ++ rest) asked
publish_asks regions lawful rest asked is =
    let at = bind_ok (only_region regions rest) _ asked is in
    let spelled = only_is regions lawful rest at.0 at.1 in
    let same : event.Publish at.0 ≡ asked = cc in
    subst (Asks Play regions (codes "publish " ++ rest)) same record { of_form = tt; typed = inl (ap (λ w. codes "publish " ++ w) spelled.spelled); within = spelled.within }

pub show_asks : (regions : ℕ) → IsRegions regions → (rest : List ℕ) (asked : Event) → (only_region regions rest >>= λ at. Ok (event.Show at)) ≡ Ok asked →
    Asks Play regions (codes "show " ++ rest) asked
show_asks regions lawful rest asked is =
    let at = bind_ok (only_region regions rest) _ asked is in
    let spelled = only_is regions lawful rest at.0 at.1 in
    let same : event.Show at.0 ≡ asked = cc in
    subst (Asks Play regions (codes "show " ++ rest)) same record { of_form = tt; typed = inl (ap (λ w. codes "show " ++ w) spelled.spelled); within = spelled.within }

pub restart_asks : (regions : ℕ) → IsRegions regions → (rest : List ℕ) (asked : Event) → (only_region regions rest >>= λ at. Ok (event.Restart at)) ≡ Ok asked →
    Asks Play regions (codes "restart " ++ rest) asked
restart_asks regions lawful rest asked is =
    let at = bind_ok (only_region regions rest) _ asked is in
    let spelled = only_is regions lawful rest at.0 at.1 in
    let same : event.Restart at.0 ≡ asked = cc in
    subst (Asks Play regions (codes "restart " ++ rest)) same record { of_form = tt; typed = inl (ap (λ w. codes "restart " ++ w) spelled.spelled); within = spelled.within }

-- ---- lines with several words

record AreTwo (rest first second : List ℕ) : Type 0 where
  pub whole : rest ≡ first ++ 32 ∷ second

two_are : (rest : List ℕ) (words : List ℕ × List ℕ) → two_words rest ≡ Some words → AreTwo rest words.0 words.1
unfolding two_words
two_are rest words is =
    let cuts = then_some _ (cut 32 rest) words is in
    let found = cut_parts 32 rest cuts.0 cuts.1 in
    let kept = if_some (is_word cuts.0.0 && is_word cuts.0.1) cuts.0 words cuts.2 in
    subst (λ (p : List ℕ × List ℕ). AreTwo rest p.0 p.1) kept.1 record { whole = found.whole }

pub record AreThree (rest first second third : List ℕ) : Type 0 where
  pub whole : rest ≡ first ++ 32 ∷ (second ++ 32 ∷ third)

pub three_are : (rest : List ℕ) (words : List ℕ × List ℕ × List ℕ) → three_words rest ≡ Some words → AreThree rest words.0 words.1 words.2
unfolding three_words
three_are rest words is =
    let cuts = then_some _ (cut 32 rest) words is in
    let found = cut_parts 32 rest cuts.0 cuts.1 in
    let more = when_some (is_word cuts.0.0) _ words cuts.2 in
    let last = then_some _ (two_words cuts.0.1) words more.1 in
    let pair = two_are cuts.0.1 last.0 last.1 in
    let same : (cuts.0.0, last.0.0, last.0.1) ≡ words = cc in
    subst (λ (p : List ℕ × List ℕ × List ℕ). AreThree rest p.0 p.1 p.2) same record { whole = found.whole ∙ ap (λ w. cuts.0.0 ++ 32 ∷ w) pair.whole }

-- the words are those of packets, or one that is both
abbrev ArePackets : List ℕ → List ℕ × List ℕ → Type 0
ArePackets rest words = AreTwo rest words.0 words.1 ⊎ ((words.0 ≡ rest) × (words.1 ≡ rest))

packets_are : (rest : List ℕ) (words : List ℕ × List ℕ) → packet_words rest ≡ Some words → ArePackets rest words
unfolding packet_words
packets_are rest words is = by (is_word rest) is
  where
    by : (b : Bool) → cond b (Some (rest, rest)) (two_words rest) ≡ Some words → ArePackets rest words
    by true found = let same : (rest, rest) ≡ words = cc in inr (ap (λ (p : List ℕ × List ℕ). p.0) (sym same), ap (λ (p : List ℕ × List ℕ). p.1) (sym same))
    by false found = inl (two_are rest words found)

delivers : (rest : List ℕ) (words : List ℕ × List ℕ) (first last : ℕ) → ArePackets rest words → SpellsWithin 0 LAST_PACKET words.0 first → SpellsWithin 0 LAST_PACKET words.1 last →
    Types (codes "deliver " ++ rest) (event.Deliver first last)
delivers rest words first last (inl pair) one other =
    inl (ap (λ w. codes "deliver " ++ w) (pair.whole ∙ (ap (λ w. w ++ 32 ∷ words.1) one.spelled ∙ ap (λ w. decimal first ++ 32 ∷ w) other.spelled)))
delivers rest words first last (inr both) one other =
    let spelled : rest ≡ decimal first = sym both.0 ∙ one.spelled in
    let same : decimal first ≡ decimal last = sym spelled ∙ (sym both.1 ∙ other.spelled) in
    inr (decimal_injective first last (omega (arith, one.high)) (omega (arith, other.high)) same, ap (λ w. codes "deliver " ++ w) spelled)

pub deliver_asks : (regions : ℕ) (rest : List ℕ) (asked : Event) → deliver rest ≡ Ok asked → Asks Play regions (codes "deliver " ++ rest) asked
unfolding deliver
deliver_asks regions rest asked is =
    let words = bind_ok (ok_or (packet_words rest) BadLine) _ asked is in
    let first = bind_ok (number_or_bad 0 LAST_PACKET words.0.0) _ asked words.2 in
    let last = bind_ok (number_or_bad 0 LAST_PACKET words.0.1) _ asked first.2 in
    let one = number_is 0 LAST_PACKET words.0.0 first.0 (omega arith) first.1 in
    let other = number_is 0 LAST_PACKET words.0.1 last.0 (omega arith) last.1 in
    let fits = if_ok (nat_le first.0 last.0 && nat_lt (last.0 - first.0) PACKETS_PER_LINE) (event.Deliver first.0 last.0) asked BadNumber last.2 in
    let tests = and_parts (nat_le first.0 last.0) (nat_lt (last.0 - first.0) PACKETS_PER_LINE) fits.0 in
    let rises : first.0 ≤ last.0 = leb-true first.0 last.0 tests.0 in
    let few : last.0 - first.0 < PACKETS_PER_LINE = ltb-true (last.0 - first.0) PACKETS_PER_LINE tests.1 in
    subst (Asks Play regions (codes "deliver " ++ rest)) fits.1 record {
      of_form = tt;
      typed = delivers rest words.0 first.0 last.0 (packets_are rest words.0 (or_ok (packet_words rest) BadLine words.0 words.1)) one other;
      within = (rises, other.high, omega arith);
    }

pub fetch_asks : (regions : ℕ) → IsRegions regions → (rest : List ℕ) (asked : Event) → fetch regions rest ≡ Ok asked → Asks Play regions (codes "fetch " ++ rest) asked
unfolding fetch
fetch_asks regions lawful rest asked is =
    let words = bind_ok (ok_or (three_words rest) BadLine) _ asked is in
    let found = three_are rest words.0 (or_ok (three_words rest) BadLine words.0 words.1) in
    let from = bind_ok (region regions words.0.0) _ asked words.2 in
    let of = bind_ok (region regions words.0.1) _ asked from.2 in
    let last = bind_ok (number_or_bad 1 LAST_ASKED_EPOCH words.0.2) _ asked of.2 in
    let one = region_is regions lawful words.0.0 from.0 from.1 in
    let other = region_is regions lawful words.0.1 of.0 of.1 in
    let epoch = number_is 1 LAST_ASKED_EPOCH words.0.2 last.0 (omega arith) last.1 in
    let fits = unless_ok (from.0 == of.0) (event.Fetch from.0 of.0 last.0) asked BadNumber last.2 in
    let text : rest ≡ decimal from.0 ++ 32 ∷ (decimal of.0 ++ 32 ∷ decimal last.0) =
    found.whole ∙ (ap (λ w. w ++ 32 ∷ (words.0.1 ++ 32 ∷ words.0.2)) one.spelled ∙ (ap (λ w. decimal from.0 ++ 32 ∷ (w ++ 32 ∷ words.0.2)) other.spelled
    ∙ ap (λ w. decimal from.0 ++ 32 ∷ (decimal of.0 ++ 32 ∷ w)) epoch.spelled)) in
    subst (Asks Play regions (codes "fetch " ++ rest)) fits.1 record {
      of_form = tt;
      typed = inl (ap (λ w. codes "fetch " ++ w) text);
      within = (one.within, other.within, eqb-false from.0 of.0 fits.0, epoch.low, epoch.high);
    }

pub work_asks : (regions : ℕ) → IsRegions regions → (rest : List ℕ) (asked : Event) → work regions rest ≡ Ok asked → Asks Play regions (codes "work " ++ rest) asked
unfolding work
work_asks regions lawful rest asked is =
    let words = bind_ok (ok_or (two_words rest) BadLine) _ asked is in
    let found = two_are rest words.0 (or_ok (two_words rest) BadLine words.0 words.1) in
    let at = bind_ok (region regions words.0.0) _ asked words.2 in
    let seat = bind_ok (number_or_bad 0 (SEATS_PER_ROUND - 1) words.0.1) _ asked at.2 in
    let one = region_is regions lawful words.0.0 at.0 at.1 in
    let other = number_is 0 (SEATS_PER_ROUND - 1) words.0.1 seat.0 (omega arith) seat.1 in
    let same : event.Work at.0 seat.0 ≡ asked = cc in
    let text : rest ≡ decimal at.0 ++ 32 ∷ decimal seat.0 =
    found.whole ∙ (ap (λ w. w ++ 32 ∷ words.0.1) one.spelled ∙ ap (λ w. decimal at.0 ++ 32 ∷ w) other.spelled) in
    subst (Asks Play regions (codes "work " ++ rest)) same record {
      of_form = tt;
      typed = inl (ap (λ w. codes "work " ++ w) text);
      within = (one.within, omega (arith, other.high));
    }

-- ---- crashes

pub sealing_is : (word fate : List ℕ) (sealing : Sealing) → sealing_of word fate ≡ Some sealing → 32 ∷ (word ++ 32 ∷ fate) ≡ sealing_text sealing
unfolding sealing_of
sealing_is word fate sealing is =
    let first = when_some (bytes_eq word (codes "sealing")) _ sealing is in
    let same : word ≡ codes "sealing" = (bytes_eq-Decides word (codes "sealing")).0 first.0 in
    ap (λ w. 32 ∷ (w ++ 32 ∷ fate)) same ∙ kept (bytes_eq fate (codes "kept")) refl first.1
  where
    lost : (b : Bool) → bytes_eq fate (codes "lost") ≡ b → cond b (Some Lost) None ≡ Some sealing → 32 ∷ (codes "sealing" ++ 32 ∷ fate) ≡ sealing_text sealing
    lost true is found = let one : Lost ≡ sealing = cc in ap (λ w. 32 ∷ (codes "sealing" ++ 32 ∷ w)) ((bytes_eq-Decides fate (codes "lost")).0 is) ∙ ap sealing_text one
    lost false is found = cc

    kept : (b : Bool) → bytes_eq fate (codes "kept") ≡ b → cond b (Some Kept) (cond (bytes_eq fate (codes "lost")) (Some Lost) None) ≡ Some sealing →
        32 ∷ (codes "sealing" ++ 32 ∷ fate) ≡ sealing_text sealing
    kept true is found = let one : Kept ≡ sealing = cc in ap (λ w. 32 ∷ (codes "sealing" ++ 32 ∷ w)) ((bytes_eq-Decides fate (codes "kept")).0 is) ∙ ap sealing_text one
    kept false is found = lost (bytes_eq fate (codes "lost")) refl found

crash_words_are : (rest : List ℕ) (words : List ℕ × Sealing) → crash_words rest ≡ Some words → rest ≡ words.0 ++ sealing_text words.1
unfolding crash_words
crash_words_are rest words is = by (is_word rest) is
  where
    several : option_and_then (λ w. option_and_then (λ sealing. Some (w.0, sealing)) (sealing_of w.1 w.2)) (three_words rest) ≡ Some words → rest ≡ words.0 ++ sealing_text words.1
    several found =
        let three = then_some _ (three_words rest) words found in
        let text = three_are rest three.0 three.1 in
        let sealing = then_some _ (sealing_of three.0.1 three.0.2) words three.2 in
        let same : (three.0.0, sealing.0) ≡ words = cc in
        text.whole ∙ (ap (λ w. three.0.0 ++ w) (sealing_is three.0.1 three.0.2 sealing.0 sealing.1) ∙ ap (λ (p : List ℕ × Sealing). p.0 ++ sealing_text p.1) same)

    by : (b : Bool) → cond b (Some (rest, No)) (option_and_then (λ w. option_and_then (λ sealing. Some (w.0, sealing)) (sealing_of w.1 w.2)) (three_words rest)) ≡ Some words →
        rest ≡ words.0 ++ sealing_text words.1
    by true found =
        let same : (rest, No) ≡ words = cc in sym (append-nil rest) ∙ ap (λ (p : List ℕ × Sealing). p.0 ++ sealing_text p.1) same
    by false found = several found

pub crash_asks : (regions : ℕ) → IsRegions regions → (rest : List ℕ) (asked : Event) → crash regions rest ≡ Ok asked → Asks Play regions (codes "crash " ++ rest) asked
unfolding crash
crash_asks regions lawful rest asked is =
    let words = bind_ok (ok_or (crash_words rest) BadLine) _ asked is in
    let text = crash_words_are rest words.0 (or_ok (crash_words rest) BadLine words.0 words.1) in
    let at = bind_ok (region regions words.0.0) _ asked words.2 in
    let one = region_is regions lawful words.0.0 at.0 at.1 in
    let same : event.Crash at.0 words.0.1 ≡ asked = cc in
    subst (Asks Play regions (codes "crash " ++ rest)) same record {
      of_form = tt;
      typed = inl (ap (λ w. codes "crash " ++ w) (text ∙ ap (λ w. w ++ sealing_text words.0.1) one.spelled));
      within = one.within;
    }
