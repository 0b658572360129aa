-- Texts made of lines.
use Rattle.std.proofs.Common.{◌≡◌, ℕ, List, [], ◌∷◌, ◌++◌, refl, sym, ap, ◌∙◌, append_assoc}
use Rattle.world_script.specs.declared.event.Event.{Event}
use Rattle.world_script.specs.Script.{IsLineOf, IsWithin, AreLinesOf, text_of_lines}
use Rattle.world_script.specs.inner.Reading.{HasEvents}

pub text_of_lines-append : (lines more : List (List ℕ)) → text_of_lines (lines ++ more) ≡ text_of_lines lines ++ text_of_lines more
text_of_lines-append [] more = refl
text_of_lines-append (line ∷ lines) more =
    ap (λ rest. line ++ (10 ∷ rest)) (text_of_lines-append lines more) ∙ sym (append_assoc line (10 ∷ text_of_lines lines) (text_of_lines more))

-- what follows the lines is the text of more lines, and the rest
pub text_more : (text : List ℕ) (lines more : List (List ℕ)) (rest last : List ℕ) → text ≡ text_of_lines lines ++ rest → rest ≡ text_of_lines more ++ last → text ≡ text_of_lines (lines ++ more) ++ last
text_more text lines more rest last is follows =
    is ∙ ap (λ r. text_of_lines lines ++ r) follows ∙ sym (append_assoc (text_of_lines lines) (text_of_lines more) last) ∙ ap (λ front. front ++ last) (sym (text_of_lines-append lines more))

-- one line and the rest
pub text_one : (text line rest : List ℕ) → text ≡ line ++ (10 ∷ rest) → text ≡ text_of_lines (line ∷ []) ++ rest
text_one text line rest is = is ∙ sym (append_assoc line (10 ∷ []) rest)

AreLinesOf-append : (regions : ℕ) (events : List Event) (lines : List (List ℕ)) (events' : List Event) (lines' : List (List ℕ)) → AreLinesOf regions events lines → AreLinesOf regions events' lines' → AreLinesOf regions (events ++ events') (lines ++ lines')
AreLinesOf-append regions [] [] events' lines' typed more = more
AreLinesOf-append regions [] (line ∷ lines) events' lines' typed more = absurd typed
AreLinesOf-append regions (event ∷ events) [] events' lines' typed more = absurd typed
AreLinesOf-append regions (event ∷ events) (line ∷ lines) events' lines' typed more =
    (typed.0, typed.1, AreLinesOf-append regions events lines events' lines' typed.2 more)

-- the events of a text and those of its rest
pub HasEvents-append : (regions : ℕ) (text : List ℕ) (events more : List Event) (rest last : List ℕ) → HasEvents regions text events rest → HasEvents regions rest more last → HasEvents regions text (events ++ more) last
HasEvents-append regions text events more rest last read next = record {
  lines = read.lines ++ next.lines;
  typed = AreLinesOf-append regions events read.lines more next.lines read.typed next.typed;
  cut = text_more text read.lines next.lines rest last read.cut next.cut;
}

-- the event of a text's first line
pub HasEvents-one : (regions : ℕ) (text line rest : List ℕ) (event : Event) → text ≡ line ++ (10 ∷ rest) → IsLineOf event line → IsWithin regions event → HasEvents regions text (event ∷ []) rest
HasEvents-one regions text line rest event is of within = record { lines = line ∷ []; typed = (of, within, tt); cut = text_one text line rest is }
