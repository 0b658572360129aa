-- How many rows are changed by changes that a net may take: at most as many as the net before them has and the net after them.
use Rattle.std.proofs.Common.{◌≡◌, ◌+◌, ◌^◌, ◌<◌, ◌≤◌, Bool, true, false, ◌||◌, cond, Option, List, [], ◌∷◌, ◌++◌, length, map, refl, sym, ap, subst, ◌∙◌, arith}
use Rattle.std.specs.List.{All, list_any}
use Rattle.std.specs.Map.{keys_of}
use Rattle.std.specs.Option.{is_some}
use Rattle.std.specs.Set.{is_member}
use Rattle.std.proofs.lemmas.Bool.{false≢true}
use Rattle.std.proofs.lemmas.List.{length-append, length-map}
use Rattle.std.proofs.lemmas.List.Elements.{All-head, All-tail, All-weaker}
use Rattle.std.proofs.lemmas.List.Folds.{list_any-append}
use Rattle.std.proofs.lemmas.Map.Made.{length-le_from_is_member}
use Rattle.geo_base.specs.declared.row_id.RowId.{RowId}
use Rattle.geo_base.specs.Order.{row_eq}
use Rattle.geo_base.specs.laws.Orders.{row_eq_equiv}
use Rattle.sql_exec.proofs.Touched.{has_row_found}
use Rattle.sql_exec.specs.Changes.{CanBeApplied, MayChange}
use Rattle.sql_exec.specs.Effects.{IsNetAfter}
use Rattle.write_set.specs.Bounds.{AreFewRows}
use Rattle.write_set.specs.Net.{IsNet, TouchesKnown, change_in, left_by, left_of}
use Rattle.write_set.specs.Sets.{ChangeOfRow, has_row}
use Rattle.write_set.specs.declared.change.Change.{Change}
use Rattle.write_set.specs.declared.change.Change.TheVariants.{Put, Remove, Touch}
use Rattle.write_set.specs.declared.row_change.RowChange.{RowChange}
use Rattle.write_set.specs.laws.Nets.{touches_known}
use Rattle.write_set.specs.laws.Rivals.{row_same}

-- one that touches its row says that the snapshot has it
known : (held before : Bool) (change : Change) → MayChange held before change → change ≡ Touch → before ≡ true
known held before (Put image) may is = absurd cc
known held before Remove may is = absurd cc
known held before Touch may is = may

pub made_known : (own : List ChangeOfRow) (changes : List RowChange) → CanBeApplied own changes → TouchesKnown own changes
made_known own changes can =
    touches_known own changes
    (All-weaker (λ (c : RowChange). MayChange (has_row c.row own) c.before c.change) (λ (c : RowChange). c.change ≡ Touch → c.before ≡ true)
    (λ c may. known (has_row c.row own) c.before c.change may) changes can.each)

-- ---- of a row that is changed and that the net before lacks the net after has something

made_left : (held before : Bool) (change : Change) (left : Option Change) → held ≡ false → MayChange held before change → is_some (left_by before change left) ≡ true
made_left held before (Put image) left none may = refl
made_left held true Remove left none may = refl
made_left true false Remove left none may = absurd (false≢true (sym none))
made_left false false Remove left none may = absurd (false≢true may)
made_left held before Touch left none may = refl

module _ (own : List ChangeOfRow) where
  abbrev May : RowChange → Type 0
  May c = MayChange (has_row c.row own) c.before c.change

  left_here : (c : RowChange) (row : RowId) (left : Option Change) → May c → has_row row own ≡ false → row_eq row c.row ≡ true → is_some (left_by c.before c.change left) ≡ true
  left_here c row left may none same =
      made_left (has_row c.row own) c.before c.change left (subst (λ (r : RowId). has_row r own ≡ false) (row_same row c.row same) none) may

  stays : (changes : List RowChange) (row : RowId) (left : Option Change) → All May changes → has_row row own ≡ false → is_some left ≡ true →
      is_some (left_of changes row left) ≡ true
  stays [] row left all none is = is
  stays (c ∷ cs) row left all none is =
      stays cs row (cond (row_eq row c.row) (left_by c.before c.change left) left) (All-tail May c cs all) none (by (row_eq row c.row) refl)
    where
      by : (b : Bool) → row_eq row c.row ≡ b → is_some (cond b (left_by c.before c.change left) left) ≡ true
      by true same = left_here c row left (All-head May c cs all) none same
      by false same = is

  found : (changes : List RowChange) (row : RowId) (left : Option Change) → All May changes → has_row row own ≡ false →
      list_any (row_eq row) (map (λ c. c.row) changes) ≡ true → is_some (left_of changes row left) ≡ true
  found [] row left all none member = absurd (false≢true member)
  found (c ∷ cs) row left all none member = by (row_eq row c.row) refl member (λ more. found cs row left (All-tail May c cs all) none more)
    where
      by : (b : Bool) → row_eq row c.row ≡ b → (b || list_any (row_eq row) (map (λ (d : RowChange). d.row) cs)) ≡ true →
          (list_any (row_eq row) (map (λ (d : RowChange). d.row) cs) ≡ true → is_some (left_of cs row left) ≡ true) →
          is_some (left_of cs row (cond b (left_by c.before c.change left) left)) ≡ true
      by true same m rest =
          stays cs row (left_by c.before c.change left) (All-tail May c cs all) none (left_here c row left (All-head May c cs all) none same)
      by false same m rest = rest m

-- ---- so there are few of them

has_key : (row : RowId) (set : List ChangeOfRow) → list_any (row_eq row) (keys_of set) ≡ has_row row set
has_key row [] = refl
has_key row (p ∷ ps) = ap (λ (b : Bool). row_eq row p.0 || b) (has_key row ps)

either : (a b : Bool) → b ≡ true → (a || b) ≡ true
either true b is = refl
either false b is = is

in_either : (own net : List ChangeOfRow) (changes : List RowChange) → CanBeApplied own changes → IsNet own changes net →
    (row : RowId) → is_member row_eq (map (λ c. c.row) changes) row ≡ true → is_member row_eq (keys_of own ++ keys_of net) row ≡ true
in_either own net changes can is row member =
    list_any-append (row_eq row) (keys_of own) (keys_of net) ∙ by (has_row row own) refl
  where
    by : (b : Bool) → has_row row own ≡ b → (list_any (row_eq row) (keys_of own) || list_any (row_eq row) (keys_of net)) ≡ true
    by true has = ap (λ (b : Bool). b || list_any (row_eq row) (keys_of net)) (has_key row own ∙ has)
    by false none =
        either (list_any (row_eq row) (keys_of own)) (list_any (row_eq row) (keys_of net))
        (has_key row net ∙ sym (has_row_found row net) ∙ ap (λ (c : Option Change). is_some c) (is.rows row) ∙ found own changes row (change_in own row) can.each none member)

few_changes : (own net : List ChangeOfRow) (changes : List RowChange) → CanBeApplied own changes → IsNet own changes net → length changes ≤ length own + length net
few_changes own net changes can is =
    let few : length (map (λ (c : RowChange). c.row) changes) ≤ length (keys_of own ++ keys_of net) =
    length-le_from_is_member row_eq_equiv (map (λ (c : RowChange). c.row) changes) (keys_of own ++ keys_of net) can.once (in_either own net changes can is) in
    omega (arith, few, length-map changes (λ (c : RowChange). c.row), length-append (keys_of own) (keys_of net), length-map own (λ (p : ChangeOfRow). p.0), length-map net (λ (p : ChangeOfRow). p.0))

pub countable : (own net : List ChangeOfRow) (changes : List RowChange) → AreFewRows (length own) → CanBeApplied own changes → IsNetAfter own changes net → length changes < 2 ^ 32
countable own net changes before can after = omega (arith, few_changes own net changes can after.is_net, before, after.within.few)
