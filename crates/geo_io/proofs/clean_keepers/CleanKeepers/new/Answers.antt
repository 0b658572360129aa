use Rattle.std.proofs.Common.{arith, refl, sym, ap, ◌∙◌, ◌≡◌, ◌<◌, ◌≤◌, [], length, ℕ, ◌+◌, ◌-◌, List, ◌∷◌, ◌++◌, take, drop, append_assoc, append-nil, length-take, take-append-drop}
use Rattle.std.specs.Prelude.{slice_set, replicate}
use Rattle.std.proofs.lemmas.List.{take_more_set, drop-set-lt, drop-drop, drop-replicate, length-set, nil_from_length}
use Rattle.geo_io.specs.Told.{Lists}
use Rattle.geo_io.specs.Memory.{eight_lists}
use Rattle.geo_io.proofs.clean_keepers.CleanKeepers.new.Goals as goal

given_more : (all : Lists) (i : ℕ) (x : List (List ℕ)) (rest given : Lists) → i < length all
    → take i all ++ (x ∷ rest) ≡ given → take (i + 1) (slice_set all i x) ++ rest ≡ given
given_more all i x rest given lt h =
    ap (λ l. l ++ rest) (take_more_set all i x lt) ∙ append_assoc (take i all) (x ∷ []) rest ∙ h

empty_more : (all : Lists) (i : ℕ) (x : List (List ℕ))
    → drop i all ≡ replicate (8 - i) [] → drop (i + 1) (slice_set all i x) ≡ replicate (8 - (i + 1)) []
empty_more all i x h =
    let lt : i < i + 1 = omega arith in
    let fewer : 8 - i - 1 ≡ 8 - (i + 1) = omega arith in
    drop-set-lt (i + 1) all i x lt ∙ sym (drop-drop 1 i all) ∙ ap (drop 1) h ∙ drop-replicate 1 (8 - i) []
    ∙ ap (λ n. replicate n []) fewer

-- all of the given lists stand in front, and empty ones behind them
all_given : (all : Lists) (i : ℕ) (given : Lists) → length all ≡ 8 → i ≤ 8 → take i all ++ [] ≡ given
    → drop i all ≡ replicate (8 - i) [] → all ≡ eight_lists given
all_given all i given eight le h e =
    let front : take i all ≡ given = sym (append-nil (take i all)) ∙ h in
    let long : i ≡ length given = omega (arith, ap length front, length-take i all) in
    sym (take-append-drop i all) ∙ ap (λ l. l ++ drop i all) front ∙ ap (λ l. given ++ l) (e ∙ ap (λ n. replicate (8 - n) []) long)

pub loop-list-init : goal.loop-list-init
loop-list-init c =
    let given = c.into_iter-list-iterator.ensures.into_iter_gives in
    record {
      eight = refl;
      few = omega (arith, c.requires, ap length given.0, c.args.lists.ok);
      given = given.0;
      empty = cc (c.new-2.ensures, c.new-4.ensures, c.new-6.ensures, c.new-8.ensures, c.new-10.ensures, c.new-12.ensures, c.new-14.ensures, c.new-16.ensures, c.new.ensures.items, c.new-3.ensures.items, c.new-5.ensures.items, c.new-7.ensures.items, c.new-9.ensures.items, c.new-11.ensures.items, c.new-13.ensures.items, c.new-15.ensures.items);
    }

pub listed : goal.listed
listed c = omega (arith, ap length c.in-Some.ensures.steps.0, c.loop-list.invariant.few, c.loop-list.invariant.eight)

pub loop-list-preserved : goal.loop-list-preserved
loop-list-preserved c =
    let all = c.loop-list.all in
    let i = c.loop-list.region in
    let turn = ap length c.in-Some.ensures.steps.0 in
    let lt : i < length all = omega (arith, turn, c.loop-list.invariant.few, c.loop-list.invariant.eight) in
    record {
      eight = length-set all i c.in-Some.list ∙ c.loop-list.invariant.eight;
      few = omega (arith, turn, c.loop-list.invariant.few);
      given = given_more all i c.in-Some.list _ _ lt (ap (λ l. take i all ++ l) (sym c.in-Some.ensures.steps.0) ∙ c.loop-list.invariant.given);
      empty = empty_more all i c.in-Some.list c.loop-list.invariant.empty;
    }

pub returns : goal.returns
returns c =
    let none = nil_from_length c.loop-list.list-iterator.rest.items (omega (arith, c.in-None.ensures.steps.0, c.loop-list.list-iterator.rest.ok)) in
    all_given c.loop-list.all c.loop-list.region c.args.lists.items c.loop-list.invariant.eight (omega (arith, c.loop-list.invariant.few))
    (rw (← none) c.loop-list.invariant.given) c.loop-list.invariant.empty
