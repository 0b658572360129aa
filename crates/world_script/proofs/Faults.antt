-- The first bad line of a text.
use Rattle.std.proofs.Common.{◌≡◌, ◌⊎◌, ℕ, ◌+◌, ◌<◌, List, [], ◌∷◌, ◌++◌, length, codes, refl, inl, inr, arith}
use Rattle.std.specs.Fmt.{decimal}
use Rattle.world_script.specs.Script.{text_of_lines}
use Rattle.world_script.specs.Fault.{BeginsScript, IsOneLine, LacksLine, HasBadLine, IsFirstBad}
use Rattle.world_script.specs.inner.Reading.{LacksWanted, HasHeader, HasRegions, IsRegionsLine}
use Rattle.world_script.proofs.LineTexts.{text_more, text_one}

-- a part with no line feed before the header's end lacks a line
lacks_line : (before : List (List ℕ)) (rest : List ℕ) → length before < 4 → IsOneLine rest → LacksLine before rest
lacks_line before [] short one = inl (refl, short)
lacks_line before (byte ∷ rest) short one = inr (λ e. cc, one)

-- what doesn't go on as wanted is at fault there, where only what is wanted begins a script
bad_next : (wanted : List ℕ → Type 0) (before : List (List ℕ)) (rest : List ℕ) → length before < 4 → ((line : List ℕ) → BeginsScript (before ++ line ∷ []) → wanted line) → LacksWanted wanted rest → LacksLine before rest ⊎ HasBadLine before rest
bad_next wanted before rest short needs (inl one) = inl (lacks_line before rest short one)
bad_next wanted before rest short needs (inr next) = inr (record {
  line = next.line;
  more = next.more;
  cut = next.cut;
  one = next.one;
  wrong = λ begins. next.other (needs next.line begins);
})

header_fault : (wanted : List ℕ → Type 0) (text : List ℕ) (before : List (List ℕ)) (rest : List ℕ) → text ≡ text_of_lines before ++ rest → BeginsScript before → length before < 4 → ((line : List ℕ) → BeginsScript (before ++ line ∷ []) → wanted line) → LacksWanted wanted rest → IsFirstBad text (length before + 1)
header_fault wanted text before rest cut good short needs lacks =
    record { before = before; rest = rest; cut = cut; good = good; count = refl; bad = bad_next wanted before rest short needs lacks }

pub first_line_fault : (text : List ℕ) → LacksWanted (λ line. line ≡ codes "geogauss play 1") text → IsFirstBad text 1
first_line_fault text lacks =
    header_fault (λ line. line ≡ codes "geogauss play 1") text [] text refl (1, tt) (omega arith) (λ line begins. begins.1.0) lacks

pub regions_fault : (text rest : List ℕ) → text ≡ codes "geogauss play 1" ++ (10 ∷ rest) → LacksWanted IsRegionsLine rest → IsFirstBad text 2
regions_fault text rest is lacks =
    header_fault IsRegionsLine text (codes "geogauss play 1" ∷ []) rest (text_one text (codes "geogauss play 1") rest is) (1, (refl, tt)) (omega arith) (λ line begins. (begins.0, begins.1.1.0.0, begins.1.1.0.1, begins.1.1.0.2)) lacks

-- the text behind its first two lines
two_lines : (text first rest : List ℕ) (regions : ℕ) → text ≡ codes "geogauss play 1" ++ (10 ∷ first) → HasRegions first regions rest → text ≡ text_of_lines (codes "geogauss play 1" ∷ (codes "regions " ++ decimal regions) ∷ []) ++ rest
two_lines text first rest regions is regions_is =
    text_more text (codes "geogauss play 1" ∷ []) ((codes "regions " ++ decimal regions) ∷ []) first rest (text_one text (codes "geogauss play 1") first is) (text_one first (codes "regions " ++ decimal regions) rest regions_is.cut)

pub table_fault : (text first rest : List ℕ) (regions : ℕ) → text ≡ codes "geogauss play 1" ++ (10 ∷ first) → HasRegions first regions rest → LacksWanted (λ line. line ≡ codes "table kv (k INT KEY, v INT)") rest → IsFirstBad text 3
table_fault text first rest regions is regions_is lacks =
    header_fault (λ line. line ≡ codes "table kv (k INT KEY, v INT)") text (codes "geogauss play 1" ∷ (codes "regions " ++ decimal regions) ∷ []) rest (two_lines text first rest regions is regions_is) (regions, (refl, ((refl, regions_is.some, regions_is.few), tt))) (omega arith) (λ line begins. begins.1.1.1.0) lacks

-- and behind its first three
three_lines : (text first next rest : List ℕ) (regions : ℕ) → text ≡ codes "geogauss play 1" ++ (10 ∷ first) → HasRegions first regions next → next ≡ codes "table kv (k INT KEY, v INT)" ++ (10 ∷ rest) → text ≡ text_of_lines (codes "geogauss play 1" ∷ (codes "regions " ++ decimal regions) ∷ codes "table kv (k INT KEY, v INT)" ∷ []) ++ rest
three_lines text first next rest regions is regions_is table_is =
    text_more text (codes "geogauss play 1" ∷ (codes "regions " ++ decimal regions) ∷ []) (codes "table kv (k INT KEY, v INT)" ∷ []) next rest (two_lines text first next regions is regions_is) (text_one next (codes "table kv (k INT KEY, v INT)") rest table_is)

pub begin_fault : (text first next rest : List ℕ) (regions : ℕ) → text ≡ codes "geogauss play 1" ++ (10 ∷ first) → HasRegions first regions next → next ≡ codes "table kv (k INT KEY, v INT)" ++ (10 ∷ rest) → LacksWanted (λ line. line ≡ codes "begin") rest → IsFirstBad text 4
begin_fault text first next rest regions is regions_is table_is lacks =
    header_fault (λ line. line ≡ codes "begin") text (codes "geogauss play 1" ∷ (codes "regions " ++ decimal regions) ∷ codes "table kv (k INT KEY, v INT)" ∷ []) rest (three_lines text first next rest regions is regions_is table_is) (regions, (refl, ((refl, regions_is.some, regions_is.few), (refl, tt)))) (omega arith) (λ line begins. begins.1.1.1.1.0) lacks

pub whole_header : (text first next third rest : List ℕ) (regions : ℕ) → text ≡ codes "geogauss play 1" ++ (10 ∷ first) → HasRegions first regions next → next ≡ codes "table kv (k INT KEY, v INT)" ++ (10 ∷ third) → third ≡ codes "begin" ++ (10 ∷ rest) → HasHeader text regions rest
whole_header text first next third rest regions is regions_is table_is begin_is = record {
  some = regions_is.some;
  few = regions_is.few;
  cut = text_more text (codes "geogauss play 1" ∷ (codes "regions " ++ decimal regions) ∷ codes "table kv (k INT KEY, v INT)" ∷ []) (codes "begin" ∷ []) third rest (three_lines text first next third regions is regions_is table_is) (text_one third (codes "begin") rest begin_is);
}
