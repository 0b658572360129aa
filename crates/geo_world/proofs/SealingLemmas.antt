-- A region of the program that seals its batch stands for the region that sealed it.
use Rattle.std.proofs.Common.{◌≡◌, ℕ, zero, ◌+◌, ◌-◌, ◌<◌, ◌≤◌, max, ◌^◌, Result, Ok, Err, OnOk, true, false, nat_le, None, Some, List, [], ◌∷◌, ◌++◌, map, length, All, set, get_or, slice_get, vec_len, refl, sym, ap, ap₂, ◌∙◌, subst, subst₂, arith, length-set, append_assoc, get_or-set_same}
use Rattle.std.proofs.lemmas.Bool.{cond-false, lt-leb}
use Rattle.std.proofs.lemmas.Bool.Decides.{nat_tests}
use Rattle.std.proofs.lemmas.List.{length_push, map-append, length-map}
use Rattle.std.proofs.lemmas.Simd.{map-map}
use Rattle.std.proofs.lemmas.List.Elements.{All-append, All-map, All-weaker, All-from_get_or}
use Rattle.std.proofs.lemmas.Option.{slice_get-get_or, slice_get_read, same_Some}
use Rattle.geo_base.specs.declared.limits.TheConstants.{MAX_AHEAD, SESSIONS_PER_REGION}
use Rattle.write_set.specs.declared.batch.Batch.{Batch}
use Rattle.write_set.specs.declared.candidate.Candidate.{Candidate}
use Rattle.write_set.specs.Journal.{Journal, Epochs, epochs_of, log_of, batch_at}
use Rattle.write_set.specs.Plain.{Merged, IsMergeOf}
use Rattle.write_set.specs.laws.Sealing.{with_batch_epochs, with_batch_old, with_batch_new, with_batch_sealed}
use Rattle.geo_world.specs.declared.world.World.{World as Kept}
use Rattle.geo_world.specs.declared.region.Region.{Region}
use Rattle.geo_world.specs.declared.inbox.Inbox.{Inbox}
use Rattle.geo_world.specs.declared.packet.Packet.{Packet as KeptPacket}
use Rattle.geo_world.specs.declared.session.Session.{Session as KeptSession}
use Rattle.geo_world.specs.World.{World, RegionState, Packet, BatchPacket, region_of, sealed_by, open_epoch, has_arrived}
use Rattle.geo_world.specs.Step.{Stepped, says, seal, sealed_world, next_batch, others, sent_lines}
use Rattle.geo_world.specs.Lines as lines
use Rattle.geo_world.specs.inner.Sessions.{session_at}
use Rattle.geo_world.specs.inner.Sending.{packet_with}
use Rattle.geo_world.specs.inner.Regions.{Seals}
use Rattle.geo_world.specs.inner.Standing.{StandsFor, RegionStandsFor, HoldsArrived, IsCleared, IsAsSealed, Makes, session_state, packet_state}
use Rattle.geo_world.specs.inner.Sound.{IsSound, IsSoundRegion, IsSealed}
use Rattle.geo_world.proofs.SoundRegions.{state-set_same, state-set_other}
use Rattle.geo_world.proofs.SoundSeal.{sealed_world-sound, waiting-few, log-pushed_same, log-pushed_other, log-pushed_grows}
use Rattle.geo_world.proofs.Standings.{IsHeld, ChangesOne, changed-stands, same_then}

-- ---- the journal with one batch more

batch_stays : (journal : Journal) (to of place : ℕ) (batch : Batch) → place < length (log_of journal of) →
    batch_at (set journal to (log_of journal to ++ batch ∷ [])) of place ≡ batch_at journal of place
batch_stays journal to of place batch h =
    with_batch_old journal to of place batch (get_or (log_of journal of) place batch) at ∙ sym at
  where
    at : batch_at journal of place ≡ Some (get_or (log_of journal of) place batch)
    at = slice_get-get_or (log_of journal of) place batch h

place_below : (epoch n : ℕ) → 1 ≤ epoch → epoch ≤ n → epoch - 1 < n
place_below epoch n a b = omega arith

arrived_stays : (w : World) (number q of epoch : ℕ) → IsSoundRegion w q → has_arrived (region_of w q) of epoch ≡ true →
    batch_at (sealed_world w number).journal of (epoch - 1) ≡ batch_at w.journal of (epoch - 1)
arrived_stays w number q of epoch s t =
    batch_stays w.journal number of (epoch - 1) (next_batch w number) (place_below epoch (sealed_by w of) sealed.some sealed.sealed)
  where
    sealed : IsSealed w q of epoch
    sealed = s.arrived of epoch t

holds_later : (older newer : Journal) (state : RegionState) (inbox : Inbox) →
    ((of epoch : ℕ) → has_arrived state of epoch ≡ true → batch_at newer of (epoch - 1) ≡ batch_at older of (epoch - 1)) →
    HoldsArrived older state inbox → HoldsArrived newer state inbox
holds_later older newer state inbox stays held of epoch later =
    held of epoch later ∙ same_then (has_arrived state of epoch) (batch_at older of (epoch - 1)) (batch_at newer of (epoch - 1)) None (λ t. sym (stays of epoch t))

next_open : (new old n m : ℕ) → new ≡ old + 1 → old ≡ n + 1 → m ≡ n + 1 → new ≡ m + 1
next_open new old n m a b c = omega arith

next_room : (new old last : ℕ) → new ≡ old + 1 → old < last → new ≤ max 1 last
next_room new old last a b = omega arith

pub batch-is : (w : World) (number : ℕ) (old : Region) → RegionStandsFor w number old →
    record { region = number; epoch = old.open; items = old.waiting.items } ≡ next_batch w number
batch-is w number old r = λ i. record { region = number; epoch = r.opens i; items = r.waiting i }

pub sealed-stands : (w : World) (number : ℕ) (old new : Region) → IsSound w → number < length w.regions → old.open < w.last →
    Seals number old new → RegionStandsFor w number old → RegionStandsFor (sealed_world w number) number new
sealed-stands w number old new s h last t r = record {
  log = t.log ∙ (ap₂ (λ (log : List Batch) (b : Batch). log ++ b ∷ []) r.log (batch-is w number old r) ∙ sym log);
  opens = next_open new.open old.open (sealed_by w number) (sealed_by v number) t.opens r.opens
      (ap (λ (l : List Batch). length l) log ∙ length_push (log_of w.journal number) (next_batch w number));
  room = next_room new.open old.open w.last t.opens last;
  waiting = t.waiting ∙ ap (λ (st : RegionState). st.waiting) (sym same);
  published = ap (λ (m : Merged). m.epoch) t.plain ∙ (r.published ∙ ap (λ (st : RegionState). st.published) (sym same));
  merges = ap (λ (m : Merged). m.regions) t.plain ∙ (r.merges ∙ sym (length-set w.regions number state));
  merged = subst₂ (λ (es : Epochs) (m : Merged). IsMergeOf es m)
      (sym (ap (λ (st : RegionState). epochs_of v.journal st.published) same
      ∙ with_batch_epochs w.journal number (next_batch w number) (region_of w number).published (s.regions number h).published))
      (sym t.plain) r.merged;
  holds = subst₂ (λ (st : RegionState) (i : Inbox). HoldsArrived v.journal st i) (sym same) (sym t.inbox)
      (holds_later w.journal v.journal state old.inbox (λ of epoch a. arrived_stays w number number of epoch (s.regions number h) a) r.holds);
  cleared = subst₂ (λ (st : RegionState) (i : Inbox). IsCleared st i) (sym same) (sym t.inbox) r.cleared;
  numbers = new.sessions.ok.0 ∙ (ap (λ (ss : List KeptSession). length ss) t.sessions ∙ (sym old.sessions.ok.0 ∙ r.numbers));
  sessions = λ q l. ap (λ (ss : List KeptSession). session_state (session_at ss q)) t.sessions ∙ r.sessions q l;
}
  where
    state : RegionState
    state = record (region_of w number) { waiting = [] }

    v : World
    v = sealed_world w number

    same : region_of v number ≡ state
    same = state-set_same w.regions number state h

    log : log_of v.journal number ≡ log_of w.journal number ++ next_batch w number ∷ []
    log = log-pushed_same w.journal number (next_batch w number) (subst (λ (n : ℕ). number < n) (sym s.same) h)

pub sealed-held : (w : World) (number : ℕ) → IsSound w → number < length w.regions → (q : ℕ) → (q ≡ number → ⊥) → q < length w.regions →
    IsHeld w (sealed_world w number) q
sealed-held w number s h q other within = record {
  kept = record {
    count = length-set w.regions number state;
    sealed = with_batch_sealed w.journal number (next_batch w number);
    grows = λ of. log-pushed_grows w.journal number of (next_batch w number);
    log = log-pushed_other w.journal number q (next_batch w number) other;
    state = same;
    sessions = λ k. refl;
  };
  last = refl;
  epochs = ap (λ (st : RegionState). epochs_of v.journal st.published) same
      ∙ with_batch_epochs w.journal number (next_batch w number) (region_of w q).published (s.regions q within).published;
  batches = λ of epoch t. arrived_stays w number q of epoch (s.regions q within) t;
}
  where
    state : RegionState
    state = record (region_of w number) { waiting = [] }

    v : World
    v = sealed_world w number

    same : region_of v q ≡ region_of w q
    same = state-set_other w.regions number q state other

-- ---- the packets

sent_packets : (ps : List KeptPacket) (qs : List Packet) (b : Batch) (region epoch : ℕ) (tos : List ℕ) → map packet_state ps ≡ qs →
    b.region ≡ region → b.epoch ≡ epoch →
    map packet_state (ps ++ map (packet_with b) tos) ≡ qs ++ map (λ to. BatchPacket to region epoch) tos
sent_packets ps qs b region epoch tos was of at =
    map-append packet_state ps (map (packet_with b) tos)
    ∙ ap₂ (λ (x y : List Packet). x ++ y) was
    (map-map packet_state (packet_with b) tos ∙ ap₂ (λ (r e : ℕ). map (λ to. BatchPacket to r e) tos) of at)

one_back : (n : ℕ) → n + 1 - 1 ≡ n
one_back n = omega arith

sealed_at : (w : World) (number : ℕ) → number < length w.journal →
    batch_at (sealed_world w number).journal number (open_epoch w number - 1) ≡ Some (next_batch w number)
sealed_at w number h =
    ap (batch_at (sealed_world w number).journal number) (one_back (sealed_by w number)) ∙ with_batch_new w.journal number (next_batch w number) h

sent_carried : (w : World) (number : ℕ) (ps : List KeptPacket) (b : Batch) (tos : List ℕ) → number < length w.journal → b ≡ next_batch w number →
    All (IsAsSealed w.journal) ps → All (IsAsSealed (sealed_world w number).journal) (ps ++ map (packet_with b) tos)
sent_carried w number ps b tos h is all =
    All-append (IsAsSealed j) ps (map (packet_with b) tos)
    (All-weaker (IsAsSealed w.journal) (IsAsSealed j)
    (λ p at. with_batch_old w.journal number p.batch.region (p.batch.epoch - 1) (next_batch w number) p.batch at) ps all)
    (All-map (IsAsSealed j) (packet_with b) tos
    (All-from_get_or (λ to. IsAsSealed j (packet_with b to)) tos zero
    (λ i l. subst (λ (x : Batch). batch_at j x.region (x.epoch - 1) ≡ Some x) (sym is) (sealed_at w number h))))
  where
    j : Journal
    j = (sealed_world w number).journal

-- ---- what is printed

ahead_same : (p s o : ℕ) → o ≡ s + 1 → nat_le (MAX_AHEAD + p + 1) o ≡ nat_le MAX_AHEAD (s - p)
ahead_same p s o e = grind (arith, nat_tests)

ahead_is : (w : World) (number : ℕ) (r : Region) → RegionStandsFor w number r →
    nat_le (MAX_AHEAD + r.plain.epoch + 1) r.open ≡ nat_le MAX_AHEAD (sealed_by w number - (region_of w number).published)
ahead_is w number r here =
    ahead_same r.plain.epoch (sealed_by w number) r.open here.opens
    ∙ ap (λ (p : ℕ). nat_le MAX_AHEAD (sealed_by w number - p)) here.published

early_is : (w : World) (k : Kept) (number : ℕ) (r : Region) → StandsFor w k → RegionStandsFor w number r → r.open < k.last →
    nat_le w.last (open_epoch w number) ≡ false
early_is w k number r s here early = lt-leb w.last (open_epoch w number) (subst₂ (λ (a b : ℕ). a < b) here.opens s.last early)

abbrev sealed_step : World → ℕ → Stepped
sealed_step w number = record {
  world = sealed_world w number;
  lines =
      lines.batch_sealed number (open_epoch w number) (length (region_of w number).waiting)
      ++ sent_lines (length w.packets) (others (length w.regions) number);
}

seal_is : (w : World) (k : Kept) (number : ℕ) (r : Region) → StandsFor w k → RegionStandsFor w number r → r.open < k.last →
    nat_le (MAX_AHEAD + r.plain.epoch + 1) r.open ≡ false → seal w number ≡ sealed_step w number
seal_is w k number r s here early behind =
    cond-false (nat_le w.last (open_epoch w number)) (says w (lines.seal_last number)) _ (early_is w k number r s here early)
    ∙ cond-false (nat_le MAX_AHEAD (sealed_by w number - (region_of w number).published)) (says w (lines.seal_ahead number)) (sealed_step w number)
    (sym (ahead_is w number r here) ∙ behind)

few_fit : (l n m : ℕ) → l ≡ n → n ≡ m → m ≤ SESSIONS_PER_REGION → l < 2 ^ 32
few_fit l n m a b h = omega arith

-- so few candidates wait that 32 bits count them
pub waiting-fits : (w : World) (k : Kept) (number : ℕ) (r : Region) → StandsFor w k → number < vec_len k.regions → RegionStandsFor w number r →
    vec_len r.waiting < 2 ^ 32
waiting-fits w k number r s h here =
    few_fit (vec_len r.waiting) (length r.waiting.items) (length (region_of w number).waiting) r.waiting.ok.0 (ap (λ (cs : List Candidate). length cs) here.waiting)
    (waiting-few w number (s.sound.regions number (subst (λ (m : ℕ). number < m) s.count h)))

packet_count : (w : World) (k : Kept) → StandsFor w k → vec_len k.packets ≡ length w.packets
packet_count w k s = k.packets.ok.0 ∙ (sym (length-map k.packets.items packet_state) ∙ ap (λ (ps : List Packet). length ps) s.packets)

pub sealed-makes : (w : World) (k n : Kept) (number count regions : ℕ) (old new : Region) (b : Batch) (before middle after : List ℕ) → StandsFor w k →
    number < vec_len k.regions → slice_get k.regions.items number ≡ Some old → old.open < k.last →
    nat_le (MAX_AHEAD + old.plain.epoch + 1) old.open ≡ false → Seals number old new → ChangesOne number new k n →
    b ≡ record { region = number; epoch = old.open; items = old.waiting.items } →
    count ≡ length old.waiting.items → regions ≡ vec_len k.regions →
    n.packets.items ≡ k.packets.items ++ map (packet_with b) (others regions b.region) →
    middle ≡ before ++ lines.batch_sealed number old.open count →
    after ≡ middle ++ sent_lines (vec_len k.packets) (others regions b.region) → Makes (seal w number) before after n
sealed-makes w k n number count regions old new b before middle after s h at early behind t changes is counted some packets first rest =
    subst (λ (step : Stepped). Makes step before after n) (sym (seal_is w k number old s here early behind))
    (record {
      lines = rest ∙ (ap (λ (text : List ℕ). text ++ sent_lines (vec_len k.packets) (others regions b.region)) first
          ∙ (append_assoc before (lines.batch_sealed number old.open count) (sent_lines (vec_len k.packets) (others regions b.region))
          ∙ ap₂ (λ (x y : List ℕ). before ++ (x ++ y))
          (ap₂ (λ (e c : ℕ). lines.batch_sealed number e c) here.opens
          (counted ∙ ap (λ (cs : List Candidate). length cs) here.waiting))
          (ap₂ (λ (p : ℕ) (tos : List ℕ). sent_lines p tos) (packet_count w k s) tos)));
      world = changed-stands w (sealed_world w number) k n number new s changes
          (sealed-stands w number old new s.sound within (subst (λ (l : ℕ). old.open < l) s.last early) t here)
          (sealed-held w number s.sound within)
          (sealed_world-sound w number within (sym (ahead_is w number old here) ∙ behind) s.sound)
          refl
          (length-set w.regions number (record (region_of w number) { waiting = [] }))
          (ap (map packet_state) packets
          ∙ (sent_packets k.packets.items w.packets b number (open_epoch w number) (others regions b.region) s.packets
          (ap (λ (x : Batch). x.region) is) (ap (λ (x : Batch). x.epoch) is ∙ here.opens)
          ∙ ap (λ (xs : List ℕ). w.packets ++ map (λ to. BatchPacket to number (open_epoch w number)) xs) tos))
          (subst (All (IsAsSealed (sealed_world w number).journal)) (sym packets)
          (sent_carried w number k.packets.items b (others regions b.region) (subst (λ (m : ℕ). number < m) (sym s.sound.same) within)
          (is ∙ batch-is w number old here) s.carried));
    })
  where
    within : number < length w.regions
    within = subst (λ (m : ℕ). number < m) s.count h

    here : RegionStandsFor w number old
    here = s.regions number old at

    tos : others regions b.region ≡ others (length w.regions) number
    tos = ap₂ (λ (m r : ℕ). others m r) (some ∙ s.count) (ap (λ (x : Batch). x.region) is)

slice_get-pushed : (xs : List Batch) (x : Batch) → slice_get (xs ++ x ∷ []) (length xs) ≡ Some x
slice_get-pushed [] x = refl
slice_get-pushed (y ∷ xs) x = slice_get-pushed xs x

-- the batch that was sealed stands last
pub last-of : (xs : List Batch) (x : Batch) → slice_get (xs ++ x ∷ []) (length (xs ++ x ∷ []) - 1) ≡ Some x
last-of xs x = ap (slice_get (xs ++ x ∷ [])) (ap (λ (n : ℕ). n - 1) (length_push xs x) ∙ one_back (length xs)) ∙ slice_get-pushed xs x

-- the log of the region that has sealed
log_after : (items : List Region) (number : ℕ) (old new r : Region) → number < length items → r ≡ get_or (set items number new) number r → Seals number old new →
    r.log.items ≡ old.log.items ++ record { region = number; epoch = old.open; items = old.waiting.items } ∷ []
log_after items number old new r h read t = ap (λ (x : Region). x.log.items) (read ∙ get_or-set_same items number new r h) ∙ t.log

some_of : (n m l : ℕ) → n ≡ m → m ≡ l + 1 → 1 ≤ n
some_of n m l a b = omega arith

last_below : (n : ℕ) → 1 ≤ n → n - 1 < n
last_below n h = omega arith

pub log-some : (items : List Region) (number : ℕ) (old new r : Region) → number < length items → r ≡ get_or (set items number new) number r → Seals number old new →
    1 ≤ vec_len r.log
log-some items number old new r h read t =
    some_of (vec_len r.log) (length r.log.items) (length old.log.items) r.log.ok.0
    (ap (λ (bs : List Batch). length bs) (log_after items number old new r h read t)
    ∙ length_push old.log.items (record { region = number; epoch = old.open; items = old.waiting.items }))

pub last-batch : (items : List Region) (number place : ℕ) (old new r : Region) (b : Batch) → number < length items →
    r ≡ get_or (set items number new) number r → Seals number old new → place ≡ vec_len r.log - 1 → b ≡ get_or r.log.items place b →
    b ≡ record { region = number; epoch = old.open; items = old.waiting.items }
last-batch items number place old new r b h read t last is =
    same_Some b _
    (sym (slice_get_read r.log.items (vec_len r.log) place b r.log.ok.0
    (subst (λ (p : ℕ). p < vec_len r.log) (sym last) (last_below (vec_len r.log) (log-some items number old new r h read t))) is)
    ∙ (ap (slice_get r.log.items) (last ∙ ap (λ (n : ℕ). n - 1) r.log.ok.0)
    ∙ (ap (λ (xs : List Batch). slice_get xs (length xs - 1)) (log_after items number old new r h read t)
    ∙ last-of old.log.items (record { region = number; epoch = old.open; items = old.waiting.items }))))

-- what follows from two clauses on an `Ok`
pub on_ok_both : {T E P Q R : Type 0} (r : Result T E) → (P → Q → R) → OnOk r P → OnOk r Q → OnOk r R
on_ok_both (Ok x) f p q = f p q
on_ok_both (Err e) f p q = p
