-- What is found of a pair after pairs that were lost are dropped.
use Rattle.std.proofs.Common.{◌≡◌, ◌⊎◌, inl, inr, ⊎_elim, ℕ, ◌<◌, ◌≤◌, Bool, true, false, cond, nat_le, nat_lt, None, Some, List, [], ◌∷◌, Contains, refl, sym, ap, ◌∙◌, subst, arith}
use Rattle.std.proofs.lemmas.Bool.Decides.{nat_tests}
use Rattle.write_set.specs.laws.Among.{among_none, among_first, among_later, among_cases}
use Rattle.page_map.specs.Pairs.{without}
use Rattle.index_store.specs.declared.gain.Gain.{Gain}
use Rattle.index_store.specs.declared.pair.IndexPair.{IndexPair}
use Rattle.index_store.specs.Order.{pair_cmp, pair_eq}
use Rattle.index_store.specs.laws.Orders.{pair_eq_decides}
use Rattle.index_store.specs.inner.Dropping.{is_before, dropped, all_dropped, left_at}
use Rattle.index_store.specs.inner.GainsAndLosses.{Loss, IsNoted}
use Rattle.index_store.proofs.Found.{Entries, found, found_taken}

-- a gain that isn't before the epoch
not_before : (epoch : ℕ) (gain : Gain) → nat_lt gain.epoch epoch ≡ false → epoch ≤ gain.epoch
not_before epoch gain is = grind (arith, nat_tests, is)

from_epoch : (epoch : ℕ) (gain : Gain) → epoch ≤ gain.epoch → nat_lt gain.epoch epoch ≡ false
from_epoch epoch gain from = grind (arith, nat_tests, from)

-- ---- one pair

module _ (epoch : ℕ) (pair at : IndexPair) (entries : Entries) (gain : Gain) where
  other : (b : Bool) → pair_eq at pair ≡ false → found at (cond b (without pair_cmp pair entries) entries) ≡ found at entries
  other true is = found_taken pair at entries ∙ ap (λ c. cond c None (found at entries)) is
  other false is = refl

  -- what is found then was found before, and if it is the pair, the row got it in the epoch or later
  pub found_dropped : found at (dropped epoch pair entries) ≡ Some gain → (found at entries ≡ Some gain) × (pair ≡ at → epoch ≤ gain.epoch)
  found_dropped is = by (pair_eq at pair) refl
    where
      same : at ≡ pair → (b : Bool) → is_before epoch (found pair entries) ≡ b → found at (cond b (without pair_cmp pair entries) entries) ≡ Some gain →
          (found at entries ≡ Some gain) × (pair ≡ at → epoch ≤ gain.epoch)
      same one true goes is =
          let none : found at (without pair_cmp pair entries) ≡ None =
          found_taken pair at entries ∙ ap (λ c. cond c None (found at entries)) ((pair_eq_decides at pair).1 one) in
          absurd (cc)
      same one false stays is =
          let here : found pair entries ≡ Some gain = subst (λ p. found p entries ≡ Some gain) one is in
          let test : nat_lt gain.epoch epoch ≡ false = sym (ap (is_before epoch) here) ∙ stays in
          (is, λ also. not_before epoch gain test)

      by : (c : Bool) → pair_eq at pair ≡ c → (found at entries ≡ Some gain) × (pair ≡ at → epoch ≤ gain.epoch)
      by true is_pair = same ((pair_eq_decides at pair).0 is_pair) (is_before epoch (found pair entries)) refl is
      by false isnt = (
        sym (other (is_before epoch (found pair entries)) isnt) ∙ is,
        λ one.
            let no : true ≡ false = sym ((pair_eq_decides at pair).1 (sym one)) ∙ isnt in
            absurd (cc),
      )

  -- what was found is found still, unless it is the pair and the row got it before the epoch
  pub dropped_found : found at entries ≡ Some gain → (pair ≡ at → epoch ≤ gain.epoch) → found at (dropped epoch pair entries) ≡ Some gain
  dropped_found is later = by (pair_eq at pair) refl
    where
      same : at ≡ pair → (b : Bool) → is_before epoch (found pair entries) ≡ b → found at (cond b (without pair_cmp pair entries) entries) ≡ Some gain
      same one true goes =
          let here : found pair entries ≡ Some gain = subst (λ p. found p entries ≡ Some gain) one is in
          let test : nat_lt gain.epoch epoch ≡ true = sym (ap (is_before epoch) here) ∙ goes in
          let no : true ≡ false = sym test ∙ from_epoch epoch gain (later (sym one)) in
          absurd (cc)
      same one false stays = is

      by : (c : Bool) → pair_eq at pair ≡ c → found at (dropped epoch pair entries) ≡ Some gain
      by true is_pair = same ((pair_eq_decides at pair).0 is_pair) (is_before epoch (found pair entries)) refl
      by false isnt = other (is_before epoch (found pair entries)) isnt ∙ is

-- ---- several pairs

pub found_all_dropped : (epoch : ℕ) (pairs : List IndexPair) (at : IndexPair) (entries : Entries) (gain : Gain) →
    found at (all_dropped epoch pairs entries) ≡ Some gain → (found at entries ≡ Some gain) × (Contains pairs at → epoch ≤ gain.epoch)
found_all_dropped epoch [] at entries gain is = (is, λ c. absurd (among_none at c))
found_all_dropped epoch (pair ∷ more) at entries gain is =
    let rest = found_all_dropped epoch more at (dropped epoch pair entries) gain is in
    let first = found_dropped epoch pair at entries gain rest.0 in
    (first.0, λ c. ⊎_elim first.1 rest.1 (among_cases pair more at c))

pub all_dropped_found : (epoch : ℕ) (pairs : List IndexPair) (at : IndexPair) (entries : Entries) (gain : Gain) →
    found at entries ≡ Some gain → (Contains pairs at → epoch ≤ gain.epoch) → found at (all_dropped epoch pairs entries) ≡ Some gain
all_dropped_found epoch [] at entries gain is later = is
all_dropped_found epoch (pair ∷ more) at entries gain is later =
    all_dropped_found epoch more at (dropped epoch pair entries) gain
    (dropped_found epoch pair at entries gain is (λ one. later (subst (Contains (pair ∷ more)) one (among_first pair more))))
    (λ c. later (among_later pair at more c))

-- ---- what was lost up to the horizon

-- the row got the pair in each epoch up to the horizon in which it is noted as lost, or later
abbrev pub IsGotSince : ℕ → List Loss → IndexPair → ℕ → Type 0
IsGotSince horizon losses pair gain = (epoch : ℕ) → IsNoted losses pair epoch → epoch ≤ horizon → epoch ≤ gain

since_later : (horizon : ℕ) (loss : Loss) (losses : List Loss) (at : IndexPair) (gain : ℕ) → IsGotSince horizon (loss ∷ losses) at gain → IsGotSince horizon losses at gain
since_later horizon loss losses at gain since epoch noted upto =
    since epoch (record { loss = noted.loss; among = among_later loss noted.loss losses noted.among; epoch = noted.epoch; pair = noted.pair }) upto

since_first : (horizon : ℕ) (loss : Loss) (losses : List Loss) (at : IndexPair) (gain : ℕ) → IsGotSince horizon (loss ∷ losses) at gain →
    loss.epoch ≤ horizon → Contains loss.pairs at → loss.epoch ≤ gain
since_first horizon loss losses at gain since upto c = since loss.epoch (record { loss = loss; among = among_first loss losses; epoch = refl; pair = c }) upto

upto_horizon : (a b : ℕ) → nat_le a b ≡ true → a ≤ b
upto_horizon a b is = grind (arith, nat_tests, is)

past_horizon : (a b : ℕ) → nat_le a b ≡ false → b < a
past_horizon a b is = grind (arith, nat_tests, is)

pub found_left : (horizon : ℕ) (losses : List Loss) (at : IndexPair) (entries : Entries) (gain : Gain) →
    found at (left_at horizon losses entries) ≡ Some gain → (found at entries ≡ Some gain) × IsGotSince horizon losses at gain.epoch
found_left horizon [] at entries gain is = (is, λ epoch noted upto. absurd (among_none noted.loss noted.among))
found_left horizon (loss ∷ losses) at entries gain is = by (nat_le loss.epoch horizon) refl (λ before. found_left horizon losses at before gain) is
  where
    joined : (loss.epoch ≤ horizon → Contains loss.pairs at → loss.epoch ≤ gain.epoch) → IsGotSince horizon losses at gain.epoch →
        IsGotSince horizon (loss ∷ losses) at gain.epoch
    joined now later epoch noted upto = told (among_cases loss losses noted.loss noted.among)
      where
        told : ((loss ≡ noted.loss) ⊎ Contains losses noted.loss) → epoch ≤ gain.epoch
        told (inl same) =
            let here_too : loss.epoch ≡ epoch = ap (λ l. l.epoch) same ∙ noted.epoch in
            let less = now (omega (arith, here_too, upto)) (subst (λ l. Contains l.pairs at) (sym same) noted.pair) in
            omega (arith, here_too, less)
        told (inr among) = later epoch (record { loss = noted.loss; among = among; epoch = noted.epoch; pair = noted.pair }) upto

    by : (b : Bool) → nat_le loss.epoch horizon ≡ b →
        ((before : Entries) → found at (left_at horizon losses before) ≡ Some gain → (found at before ≡ Some gain) × IsGotSince horizon losses at gain.epoch) →
        found at (left_at horizon losses (cond b (all_dropped loss.epoch loss.pairs entries) entries)) ≡ Some gain →
        (found at entries ≡ Some gain) × IsGotSince horizon (loss ∷ losses) at gain.epoch
    by true test more is =
        let rest = more (all_dropped loss.epoch loss.pairs entries) is in
        let first = found_all_dropped loss.epoch loss.pairs at entries gain rest.0 in
        (first.0, joined (λ upto. first.1) rest.1)
    by false test more is =
        let rest = more entries is in
        (rest.0, joined (λ upto. absurd (omega (arith, upto, past_horizon loss.epoch horizon test))) rest.1)

pub left_found : (horizon : ℕ) (losses : List Loss) (at : IndexPair) (entries : Entries) (gain : Gain) →
    found at entries ≡ Some gain → IsGotSince horizon losses at gain.epoch → found at (left_at horizon losses entries) ≡ Some gain
left_found horizon [] at entries gain is since = is
left_found horizon (loss ∷ losses) at entries gain is since =
    by (nat_le loss.epoch horizon) refl (λ before there. left_found horizon losses at before gain there (since_later horizon loss losses at gain.epoch since))
  where
    by : (b : Bool) → nat_le loss.epoch horizon ≡ b →
        ((before : Entries) → found at before ≡ Some gain → found at (left_at horizon losses before) ≡ Some gain) →
        found at (left_at horizon losses (cond b (all_dropped loss.epoch loss.pairs entries) entries)) ≡ Some gain
    by true test more =
        more (all_dropped loss.epoch loss.pairs entries)
        (all_dropped_found loss.epoch loss.pairs at entries gain is (since_first horizon loss losses at gain.epoch since (upto_horizon loss.epoch horizon test)))
    by false test more = more entries is
