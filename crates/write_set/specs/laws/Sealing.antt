-- Laws: the batches of a place that all regions have sealed, and that they stay when journals grow.
use Rattle.std.proofs.Common.{◌≡◌, ◌⊎◌, inl, inr, ⊎_elim, ℕ, zero, suc, ◌+◌, ◌<◌, ◌≤◌, Some, List, [], ◌∷◌, ◌++◌, length, slice_set, refl, sym, ap, ◌∙◌, subst, subst₂, append-nil, length-append, length-set, arith}
use Rattle.geo_base.specs.declared.limits.TheConstants.{MAX_REGIONS}
use Rattle.std.specs.List.{slice_get, cons_option}
use Rattle.write_set.specs.declared.batch.Batch.{Batch}
use Rattle.write_set.specs.Journal.{Journal, log_of, batch_at, last_sealed, batches_at, candidates_of, epochs_of, IsBatch, AreBatches, IsJournal, IsFront, Extends}

-- each list is longer than the place
abbrev Reach : ℕ → Journal → Type 0
Reach place journal = (region : ℕ) → region < length journal → place < length (log_of journal region)

-- ---- what the epochs up to the last sealed one need

sealed_reach : (journal : Journal) (place : ℕ) → place < last_sealed journal → Reach place journal
sealed_reach [] place h region within = absurd (omega arith)
sealed_reach (log ∷ []) place h zero within = h
sealed_reach (log ∷ []) place h (suc region) within = absurd (omega arith)
sealed_reach (log ∷ more ∷ logs) place h zero within = omega arith
sealed_reach (log ∷ more ∷ logs) place h (suc region) within =
    sealed_reach (more ∷ logs) place (omega arith) region (omega arith)

get_within : {X : Type 0} (xs : List X) (place : ℕ) → place < length xs → (x : X) × (slice_get xs place ≡ Some x)
get_within [] place h = absurd (omega arith)
get_within (x ∷ xs) zero h = (x, refl)
get_within (x ∷ xs) (suc place) h = get_within xs place (omega arith)

-- a list that has the place gives one batch
batches_cons : (log : List Batch) (logs : Journal) (place : ℕ) (b : Batch) → slice_get log place ≡ Some b →
    batches_at (log ∷ logs) place ≡ b ∷ batches_at logs place
batches_cons log logs place b e = ap (λ o. cons_option o (batches_at logs place)) e

batches_length_reach : (journal : Journal) (place : ℕ) → Reach place journal → length (batches_at journal place) ≡ length journal
batches_length_reach [] place reach = refl
batches_length_reach (log ∷ logs) place reach =
    let found = get_within log place (reach zero (omega arith)) in
    let rest = batches_length_reach logs place (λ region within. reach (suc region) (omega arith)) in
    ap length (batches_cons log logs place found.0 found.1) ∙ ap suc rest

-- a place below the last sealed epoch has one batch of each region
pub batches_length : (journal : Journal) (place : ℕ) → place < last_sealed journal → length (batches_at journal place) ≡ length journal
batches_length journal place h = batches_length_reach journal place (sealed_reach journal place h)

lawful_from : (journal : Journal) (place first : ℕ) → Reach place journal →
    ((region : ℕ) (b : Batch) → batch_at journal region place ≡ Some b → IsBatch (first + region) (place + 1) b) →
    AreBatches first (place + 1) (batches_at journal place)
lawful_from [] place first reach lawful = tt
lawful_from (log ∷ logs) place first reach lawful =
    let found = get_within log place (reach zero (omega arith)) in
    let later : (region : ℕ) → first + suc region ≡ first + 1 + region = λ region. omega arith in
    let here : first + 0 ≡ first = omega arith in
    let rest = lawful_from logs place (first + 1) (λ k below. reach (suc k) (omega arith))
    (λ region b e. subst (λ r. IsBatch r (place + 1) b) (later region) (lawful (suc region) b e)) in
    subst (AreBatches first (place + 1)) (sym (batches_cons log logs place found.0 found.1))
    (subst (λ r. IsBatch r (place + 1) found.0) here (lawful zero found.0 found.1), rest)

-- the batches of such a place are lawful ones of that epoch
pub batches_lawful : (journal : Journal) (place : ℕ) → IsJournal journal → place < last_sealed journal →
    AreBatches 0 (place + 1) (batches_at journal place)
batches_lawful journal place lawful h =
    lawful_from journal place 0 (sealed_reach journal place h)
    (λ region b e. subst (λ r. IsBatch r (place + 1) b) (omega arith) (lawful.lawful region place b e))

-- ---- growing journals

-- what stands at a place of a list stays when the list grows at its end
get_front : {X : Type 0} (front rest : List X) (place : ℕ) (x : X) → slice_get front place ≡ Some x → slice_get (front ++ rest) place ≡ Some x
get_front [] rest place x e = cc
get_front (y ∷ front) rest zero x e = e
get_front (y ∷ front) rest (suc place) x e = get_front front rest place x e

-- batches that stand in a journal stay where they are when it grows
pub batch_stays : (older newer : Journal) (region place : ℕ) (b : Batch) → Extends older newer →
    batch_at older region place ≡ Some b → batch_at newer region place ≡ Some b
batch_stays older newer region place b grows e =
    let front = grows.fronts region in
    subst (λ log. slice_get log place ≡ Some b) front.1 (get_front (log_of older region) front.0 place b e)

batches_same : (older newer : Journal) (place : ℕ) → length newer ≡ length older → Reach place older →
    ((region : ℕ) (b : Batch) → batch_at older region place ≡ Some b → batch_at newer region place ≡ Some b) →
    batches_at newer place ≡ batches_at older place
batches_same [] [] place same reach keeps = refl
batches_same [] (log ∷ logs) place same reach keeps = absurd (omega arith)
batches_same (log ∷ logs) [] place same reach keeps = absurd (omega arith)
batches_same (log ∷ logs) (wider ∷ widers) place same reach keeps =
    let found = get_within log place (reach zero (omega arith)) in
    let rest = batches_same logs widers place (omega arith) (λ k below. reach (suc k) (omega arith)) (λ region. keeps (suc region)) in
    batches_cons wider widers place found.0 (keeps zero found.0 found.1)
    ∙ ap (λ bs. found.0 ∷ bs) rest
    ∙ sym (batches_cons log logs place found.0 found.1)

batches_stay : (older newer : Journal) (place : ℕ) → Extends older newer → place < last_sealed older →
    batches_at newer place ≡ batches_at older place
batches_stay older newer place grows h =
    batches_same older newer place grows.same (sealed_reach older place h) (λ region b. batch_stays older newer region place b grows)

-- the candidates of the epochs that all regions have sealed stay
pub epochs_stay : (older newer : Journal) (epoch : ℕ) → Extends older newer → epoch ≤ last_sealed older →
    epochs_of newer epoch ≡ epochs_of older epoch
epochs_stay older newer zero grows h = refl
epochs_stay older newer (suc epoch) grows h =
    let here : epoch < last_sealed older = omega arith in
    let below = epochs_stay older newer epoch grows (omega arith) in
    λ i. candidates_of (batches_stay older newer epoch grows here i) ∷ below i

front_length : {X : Type 0} (front rest whole : List X) → front ++ rest ≡ whole → length front ≤ length whole
front_length front rest whole e = omega (arith, length-append front rest, ap length e)

sealed_below : (older newer : Journal) → length newer ≡ length older →
    ((region : ℕ) → length (log_of older region) ≤ length (log_of newer region)) → last_sealed older ≤ last_sealed newer
sealed_below [] newer same longer = omega arith
sealed_below (log ∷ logs) [] same longer = absurd (omega arith)
sealed_below (log ∷ []) (wider ∷ []) same longer = longer zero
sealed_below (log ∷ []) (wider ∷ more ∷ widers) same longer = absurd (omega arith)
sealed_below (log ∷ more ∷ logs) (wider ∷ []) same longer = absurd (omega arith)
sealed_below (log ∷ more ∷ logs) (wider ∷ wide ∷ widers) same longer =
    let here : length log ≤ length wider = longer zero in
    let rest = sealed_below (more ∷ logs) (wide ∷ widers) (omega arith) (λ region. longer (suc region)) in
    omega arith

-- a journal that grows has no fewer epochs sealed
pub sealed_grows : (older newer : Journal) → Extends older newer → last_sealed older ≤ last_sealed newer
sealed_grows older newer grows =
    sealed_below older newer grows.same (λ region. front_length (log_of older region) (grows.fronts region).0 (log_of newer region) (grows.fronts region).1)

-- ---- one more batch at the end of a region's list

abbrev pub with_batch : Journal → ℕ → Batch → Journal
with_batch journal region batch = slice_set journal region (log_of journal region ++ batch ∷ [])

front_with : (journal : Journal) (to region : ℕ) (batch : Batch) → IsFront (log_of journal region) (log_of (with_batch journal to batch) region)
front_with [] to region batch = ([], refl)
front_with (log ∷ logs) zero zero batch = (batch ∷ [], refl)
front_with (log ∷ logs) zero (suc region) batch = ([], append-nil (log_of logs region))
front_with (log ∷ logs) (suc to) zero batch = ([], append-nil log)
front_with (log ∷ logs) (suc to) (suc region) batch = front_with logs to region batch

pub with_batch_extends : (journal : Journal) (region : ℕ) (batch : Batch) →
    Extends journal (slice_set journal region (log_of journal region ++ batch ∷ []))
with_batch_extends journal region batch = record {
  same = length-set journal region (log_of journal region ++ batch ∷ []);
  fronts = λ k. front_with journal region k batch;
}

pub with_batch_sealed : (journal : Journal) (region : ℕ) (batch : Batch) →
    last_sealed journal ≤ last_sealed (slice_set journal region (log_of journal region ++ batch ∷ []))
with_batch_sealed journal region batch = sealed_grows journal (with_batch journal region batch) (with_batch_extends journal region batch)

pub with_batch_epochs : (journal : Journal) (region : ℕ) (batch : Batch) (epoch : ℕ) → epoch ≤ last_sealed journal →
    epochs_of (slice_set journal region (log_of journal region ++ batch ∷ [])) epoch ≡ epochs_of journal epoch
with_batch_epochs journal region batch epoch h = epochs_stay journal (with_batch journal region batch) epoch (with_batch_extends journal region batch) h

-- the batches that stood in the journal
pub with_batch_old : (journal : Journal) (to region place : ℕ) (batch b : Batch) → batch_at journal region place ≡ Some b →
    batch_at (slice_set journal to (log_of journal to ++ batch ∷ [])) region place ≡ Some b
with_batch_old journal to region place batch b e =
    batch_stays journal (with_batch journal to batch) region place b (with_batch_extends journal to batch) e

-- and the new one
pub with_batch_new : (journal : Journal) (region : ℕ) (batch : Batch) → region < length journal →
    batch_at (slice_set journal region (log_of journal region ++ batch ∷ [])) region (length (log_of journal region)) ≡ Some batch
with_batch_new [] region batch within = absurd (omega arith)
with_batch_new (log ∷ logs) zero batch within = get_push log batch
  where
    get_push : (bs : List Batch) (b : Batch) → slice_get (bs ++ b ∷ []) (length bs) ≡ Some b
    get_push [] b = refl
    get_push (c ∷ bs) b = get_push bs b
with_batch_new (log ∷ logs) (suc region) batch within = with_batch_new logs region batch (omega arith)

push_cases : (bs : List Batch) (batch b : Batch) (place : ℕ) → slice_get (bs ++ batch ∷ []) place ≡ Some b →
    (slice_get bs place ≡ Some b) ⊎ ((place ≡ length bs) × (b ≡ batch))
push_cases [] batch b zero e = inr (refl, cc)
push_cases [] batch b (suc place) e = inl e
push_cases (c ∷ bs) batch b zero e = inl e
push_cases (c ∷ bs) batch b (suc place) e = ⊎_elim inl (λ r. inr (ap suc r.0, r.1)) (push_cases bs batch b place e)

-- a batch of the longer journal is an old one or the new one
with_batch_cases : (journal : Journal) (to region place : ℕ) (batch b : Batch) →
    batch_at (slice_set journal to (log_of journal to ++ batch ∷ [])) region place ≡ Some b →
    (batch_at journal region place ≡ Some b) ⊎ ((region ≡ to) × (place ≡ length (log_of journal to)) × (b ≡ batch))
with_batch_cases [] to region place batch b e = inl e
with_batch_cases (log ∷ logs) zero zero place batch b e = ⊎_elim inl (λ r. inr (refl, r.0, r.1)) (push_cases log batch b place e)
with_batch_cases (log ∷ logs) zero (suc region) place batch b e = inl e
with_batch_cases (log ∷ logs) (suc to) zero place batch b e = inl e
with_batch_cases (log ∷ logs) (suc to) (suc region) place batch b e =
    ⊎_elim inl (λ r. inr (ap suc r.0, r.1, r.2)) (with_batch_cases logs to region place batch b e)

-- a journal with a lawful batch at the end of a list is a journal
pub with_batch_lawful : (journal : Journal) (region : ℕ) (batch : Batch) → IsJournal journal →
    IsBatch region (length (log_of journal region) + 1) batch →
    IsJournal (slice_set journal region (log_of journal region ++ batch ∷ []))
with_batch_lawful journal region batch lawful new =
    let same = length-set journal region (log_of journal region ++ batch ∷ []) in
    record {
      some = subst (λ n. 1 ≤ n) (sym same) lawful.some;
      few = subst (λ n. n ≤ MAX_REGIONS) (sym same) lawful.few;
      lawful = λ k place b e. ⊎_elim
          (lawful.lawful k place b)
          (λ r. subst (IsBatch k (place + 1)) (sym r.2) (subst₂ (λ x y. IsBatch x (y + 1) batch) (sym r.0) (sym r.1) new))
          (with_batch_cases journal region k place batch b e);
    }
