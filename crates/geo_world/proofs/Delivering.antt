-- A packet comes to its region.
use Rattle.std.proofs.Common.{◌≡◌, ℕ, zero, suc, ◌+◌, ◌-◌, ◌<◌, ◌≤◌, max, Bool, true, false, cond, ◌&&◌, ◌||◌, ◌==◌, nat_le, Option, None, Some, is_some, option_map, if◌then◌else◌, List, [], ◌∷◌, ◌++◌, map, length, All, get_or, slice_get, vec_len, refl, sym, ap, ap₂, ◌∙◌, subst, subst₂, arith, ⊎_elim, length-set, eqb-true, eq-eqb, ne_eqb, le-leb, append_assoc}
use Rattle.std.proofs.lemmas.List.{append-nil}
use Rattle.std.proofs.lemmas.Bool.{cases_eq, and_parts, cases_lt, lt-leb, cond-false}
use Rattle.std.proofs.lemmas.Bool.Decides.{nat_tests}
use Rattle.std.proofs.lemmas.Option.{slice_get_read, slice_get-map, slice_get_within, get_or_from_slice_get}
use Rattle.write_set.specs.declared.batch.Batch.{Batch}
use Rattle.write_set.specs.Journal.{epochs_of, batch_at}
use Rattle.write_set.specs.Plain.{Merged, IsMergeOf}
use Rattle.geo_world.specs.declared.world.World.{World as Kept}
use Rattle.geo_world.specs.declared.region.Region.{Region}
use Rattle.geo_world.specs.declared.packet.Packet.{Packet as KeptPacket}
use Rattle.geo_world.specs.declared.session.Session.{Session as KeptSession}
use Rattle.geo_world.specs.World.{World, RegionState, Packet, region_of, sealed_by, has_arrived, holds}
use Rattle.geo_world.specs.Step.{Stepped, says, with_region, deliver, deliver_one}
use Rattle.geo_world.specs.Lines as lines
use Rattle.geo_world.specs.inner.Sessions.{session_at}
use Rattle.geo_world.specs.inner.Arrivals.{batch_in, with_batch}
use Rattle.geo_world.specs.inner.Regions.{Receives}
use Rattle.geo_world.specs.inner.Standing.{StandsFor, RegionStandsFor, HoldsArrived, IsCleared, IsAsSealed, Makes, session_state, packet_state}
use Rattle.geo_world.specs.inner.Sound.{IsSoundPacket}
use Rattle.geo_world.proofs.SoundRegions.{state-set_same, state-set_other}
use Rattle.geo_world.proofs.SoundMoves.{arrived-sound}
use Rattle.geo_world.proofs.SoundSteps.{sent_packet-sound}
use Rattle.geo_world.proofs.Spared.{arrive-takes}
use Rattle.geo_world.proofs.Moves.{arrived_world}
use Rattle.geo_world.proofs.Standings.{IsHeld, ChangesOne, changed-stands}
use Rattle.geo_world.proofs.Asking.{says-makes}

-- what the inbox holds, with a batch more
more_held : (of_region of_epoch : Bool) (b : Option Batch) (x y : Option Batch) (had : Bool) → y ≡ cond had x None →
    ((of_region && of_epoch) ≡ true → b ≡ x) → cond (of_region && of_epoch) b y ≡ cond ((of_region && of_epoch) || had) x None
more_held true true b x y had old new = new refl
more_held true false b x y had old new = old
more_held false e b x y had old new = old

-- tests of equal numbers in either order
eqb_sym : (a b : ℕ) → (a == b) ≡ (b == a)
eqb_sym a b = ⊎_elim (λ (e : a ≡ b). eq-eqb a b e ∙ sym (eq-eqb b a (sym e))) (λ (n : a ≡ b → ⊥). ne_eqb a b n ∙ sym (ne_eqb b a (λ f. n (sym f)))) (cases_eq a b)

arrived_holds : (w : World) (to : ℕ) (batch : Batch) (old new : Region) → batch_at w.journal batch.region (batch.epoch - 1) ≡ Some batch →
    ((of epoch : ℕ) → batch_in new.inbox of epoch ≡ with_batch batch (batch_in old.inbox) of epoch) →
    HoldsArrived w.journal (region_of w to) old.inbox →
    HoldsArrived w.journal (record (region_of w to) { arrived = (batch.region, batch.epoch) ∷ (region_of w to).arrived }) new.inbox
arrived_holds w to batch old new sealed put held of epoch later =
    put of epoch
    ∙ (more_held (batch.region == of) (batch.epoch == epoch) (Some batch) (batch_at w.journal of (epoch - 1)) (batch_in old.inbox of epoch)
    (has_arrived (region_of w to) of epoch) (held of epoch later)
    (λ t. let both : ((batch.region == of) ≡ true) × ((batch.epoch == epoch) ≡ true) = and_parts (batch.region == of) (batch.epoch == epoch) t in
    sym sealed ∙ ap₂ (λ (r e : ℕ). batch_at w.journal r (e - 1)) (eqb-true batch.region of both.0) (eqb-true batch.epoch epoch both.1))
    ∙ ap₂ (λ (x y : Bool). cond ((x && y) || has_arrived (region_of w to) of epoch) (batch_at w.journal of (epoch - 1)) None)
    (eqb_sym batch.region of) (eqb_sym batch.epoch epoch))

-- an epoch that is published is none of a batch above it
not_put : (published above epoch : ℕ) (own : Bool) (b x : Option Batch) → published < above → epoch ≤ published → cond (own && (above == epoch)) b x ≡ x
not_put published above epoch true b x late early = cond-false (above == epoch) b x (ne_eqb above epoch (λ e. omega (arith, e, late, early)))
not_put published above epoch false b x late early = refl

pub arrived-stands : (w : World) (to : ℕ) (batch : Batch) (old new : Region) → to < length w.regions → (region_of w to).published < batch.epoch →
    batch_at w.journal batch.region (batch.epoch - 1) ≡ Some batch → Receives batch old new → RegionStandsFor w to old →
    RegionStandsFor (arrived_world w to batch.region batch.epoch) to new
arrived-stands w to batch old new h late sealed t r = record {
  log = t.log ∙ r.log;
  opens = t.opens ∙ r.opens;
  room = subst (λ (n : ℕ). n ≤ max 1 w.last) (sym t.opens) r.room;
  waiting = t.waiting ∙ (r.waiting ∙ ap (λ (s : RegionState). s.waiting) (sym same));
  published = ap (λ (m : Merged). m.epoch) t.plain ∙ (r.published ∙ ap (λ (s : RegionState). s.published) (sym same));
  merges = ap (λ (m : Merged). m.regions) t.plain ∙ (r.merges ∙ sym (length-set w.regions to state));
  merged = subst₂ (λ (s : RegionState) (m : Merged). IsMergeOf (epochs_of w.journal s.published) m) (sym same) (sym t.plain) r.merged;
  holds = subst (λ (s : RegionState). HoldsArrived w.journal s new.inbox) (sym same) (arrived_holds w to batch old new sealed t.inbox r.holds);
  cleared = subst (λ (s : RegionState). IsCleared s new.inbox) (sym same)
      (λ of epoch early. t.inbox of epoch
      ∙ not_put (region_of w to).published batch.epoch epoch (batch.region == of) (Some batch) (batch_in old.inbox of epoch) late early
      ∙ r.cleared of epoch early);
  numbers = new.sessions.ok.0 ∙ (ap (λ (ss : List KeptSession). length ss) t.sessions ∙ (sym old.sessions.ok.0 ∙ r.numbers));
  sessions = λ q l. ap (λ (ss : List KeptSession). session_state (session_at ss q)) t.sessions ∙ r.sessions q l;
}
  where
    state : RegionState
    state = record (region_of w to) { arrived = (batch.region, batch.epoch) ∷ (region_of w to).arrived }

    v : World
    v = arrived_world w to batch.region batch.epoch

    same : region_of v to ≡ state
    same = state-set_same w.regions to state h

-- where another state is put, the other regions are held
pub state-held : (w : World) (number : ℕ) (state : RegionState) (q : ℕ) → (q ≡ number → ⊥) → IsHeld w (with_region number state w) q
state-held w number state q other = record {
  kept = record {
    count = length-set w.regions number state;
    sealed = omega arith;
    grows = λ of. omega arith;
    log = refl;
    state = same;
    sessions = λ k. refl;
  };
  last = refl;
  epochs = ap (λ (s : RegionState). epochs_of w.journal s.published) same;
  batches = λ of epoch t. refl;
}
  where
    same : region_of (with_region number state w) q ≡ region_of w q
    same = state-set_other w.regions number q state other

-- ---- the packet of a number

pub packet-read : (k : Kept) (packet : ℕ) (p : KeptPacket) (w : World) → StandsFor w k → slice_get k.packets.items packet ≡ Some p →
    slice_get w.packets packet ≡ Some (packet_state p)
packet-read k packet p w s at =
    ap (λ (ps : List Packet). slice_get ps packet) (sym s.packets) ∙ (slice_get-map packet_state k.packets.items packet ∙ ap (option_map packet_state) at)

pub packet-sealed : (k : Kept) (packet : ℕ) (p : KeptPacket) (w : World) → StandsFor w k → slice_get k.packets.items packet ≡ Some p →
    batch_at w.journal p.batch.region (p.batch.epoch - 1) ≡ Some p.batch
packet-sealed k packet p w s at =
    subst (IsAsSealed w.journal) (get_or_from_slice_get k.packets.items packet p p at) (s.carried packet p (slice_get_within k.packets.items packet p at))

pub packet-sound : (k : Kept) (packet : ℕ) (p : KeptPacket) (w : World) → StandsFor w k → slice_get k.packets.items packet ≡ Some p →
    IsSoundPacket w (packet_state p)
packet-sound k packet p w s at = sent_packet-sound w packet (packet_state p) s.sound (packet-read k packet p w s at)

some_held : (had : Bool) (x b : Option Batch) → b ≡ cond had x None → is_some x ≡ true → is_some b ≡ had
some_held true x b is there = ap is_some is ∙ there
some_held false x b is there = ap is_some is

early_same : (a b : Bool) (x y : Bool) → a ≡ true → b ≡ true → (a || x) ≡ (b || y)
early_same a b x y p q = ap (λ (t : Bool). t || x) p ∙ sym (ap (λ (t : Bool). t || y) q)

late_same : (a b : Bool) (x y : Bool) → a ≡ false → b ≡ false → x ≡ y → (a || x) ≡ (b || y)
late_same a b x y p q e = ap (λ (t : Bool). t || x) p ∙ (e ∙ sym (ap (λ (t : Bool). t || y) q))

only_arrived : (own : Bool) (x had : Bool) → own ≡ false → had ≡ ((own && x) || had)
only_arrived own x had e = sym (ap (λ (t : Bool). (t && x) || had) e)

-- what the program knows of a batch is what the world does
pub known-is : (w : World) (to : ℕ) (r : Region) (batch : Batch) → RegionStandsFor w to r → (batch.region ≡ to → ⊥) →
    batch_at w.journal batch.region (batch.epoch - 1) ≡ Some batch →
    (nat_le batch.epoch r.plain.epoch || is_some (batch_in r.inbox batch.region batch.epoch))
    ≡ (nat_le batch.epoch (region_of w to).published || holds w to batch.region batch.epoch)
known-is w to r batch here other sealed =
    ap (λ (n : ℕ). nat_le batch.epoch n || is_some (batch_in r.inbox batch.region batch.epoch)) here.published
    ∙ ⊎_elim
    (λ (h : published < batch.epoch). late_same (nat_le batch.epoch published) (nat_le batch.epoch published) there (holds w to batch.region batch.epoch)
    (lt-leb batch.epoch published h) (lt-leb batch.epoch published h)
    (some_held had (batch_at w.journal batch.region (batch.epoch - 1)) (batch_in r.inbox batch.region batch.epoch)
    (here.holds batch.region batch.epoch h) (ap is_some sealed)
    ∙ only_arrived (batch.region == to) (nat_le 1 batch.epoch && nat_le batch.epoch (sealed_by w to)) had (ne_eqb batch.region to other)))
    (λ (h : batch.epoch ≤ published). early_same (nat_le batch.epoch published) (nat_le batch.epoch published) there (holds w to batch.region batch.epoch)
    (le-leb batch.epoch published h) (le-leb batch.epoch published h))
    (cases_lt published batch.epoch)
  where
    published : ℕ
    published = (region_of w to).published

    there : Bool
    there = is_some (batch_in r.inbox batch.region batch.epoch)

    had : Bool
    had = has_arrived (region_of w to) batch.region batch.epoch

above : (epoch published : ℕ) (held : Bool) → (nat_le epoch published || held) ≡ false → published < epoch
above epoch published held e = grind (arith, nat_tests)

-- ---- what is printed

abbrev arrived_step : World → ℕ → KeptPacket → Stepped
arrived_step w packet p = record { world = arrived_world w p.to p.batch.region p.batch.epoch; lines = lines.packet_new packet }

delivered : (w : World) (k : Kept) (packet : ℕ) (p : KeptPacket) (r : Region) → StandsFor w k → slice_get k.packets.items packet ≡ Some p →
    RegionStandsFor w p.to r →
    deliver_one w packet (slice_get w.packets packet)
    ≡ (if nat_le p.batch.epoch r.plain.epoch || is_some (batch_in r.inbox p.batch.region p.batch.epoch)
    then says w (lines.packet_known packet) else arrived_step w packet p)
delivered w k packet p r s at here =
    ap (deliver_one w packet) (packet-read k packet p w s at)
    ∙ (arrive-takes w packet p.to p.batch.region p.batch.epoch s.sound (packet-read k packet p w s at)
    ∙ ap (λ (b : Bool). if b then says w (lines.packet_known packet) else arrived_step w packet p)
    (sym (known-is w p.to r p.batch here (packet-sound k packet p w s at).1.other (packet-sealed k packet p w s at))))

pub known-makes : (w : World) (k : Kept) (packet : ℕ) (p : KeptPacket) (r : Region) (before after : List ℕ) → StandsFor w k →
    slice_get k.packets.items packet ≡ Some p → RegionStandsFor w p.to r →
    (nat_le p.batch.epoch r.plain.epoch || is_some (batch_in r.inbox p.batch.region p.batch.epoch)) ≡ true →
    after ≡ before ++ lines.packet_known packet → Makes (deliver_one w packet (slice_get w.packets packet)) before after k
known-makes w k packet p r before after s at here known printed =
    says-makes w k (lines.packet_known packet) before after (deliver_one w packet (slice_get w.packets packet)) s
    (delivered w k packet p r s at here
    ∙ ap (λ (b : Bool). if b then says w (lines.packet_known packet) else arrived_step w packet p) known)
    printed

pub new-makes : (w : World) (k n : Kept) (packet : ℕ) (p : KeptPacket) (old new : Region) (before after : List ℕ) → StandsFor w k →
    slice_get k.packets.items packet ≡ Some p → RegionStandsFor w p.to old →
    (nat_le p.batch.epoch old.plain.epoch || is_some (batch_in old.inbox p.batch.region p.batch.epoch)) ≡ false →
    Receives p.batch old new → ChangesOne p.to new k n → n.packets.items ≡ k.packets.items →
    after ≡ before ++ lines.packet_new packet → Makes (deliver_one w packet (slice_get w.packets packet)) before after n
new-makes w k n packet p old new before after s at here unknown t changes packets printed =
    subst (λ (step : Stepped). Makes step before after n)
    (sym (delivered w k packet p old s at here
    ∙ ap (λ (b : Bool). if b then says w (lines.packet_known packet) else arrived_step w packet p) unknown))
    (record {
      lines = printed;
      world = changed-stands w (arrived_world w p.to p.batch.region p.batch.epoch) k n p.to new s changes
          (arrived-stands w p.to p.batch old new sound.0 late (packet-sealed k packet p w s at) t here)
          (λ q other within. state-held w p.to (record (region_of w p.to) { arrived = (p.batch.region, p.batch.epoch) ∷ (region_of w p.to).arrived }) q other)
          (arrived-sound w p.to p.batch.region p.batch.epoch sound s.sound)
          refl
          (length-set w.regions p.to (record (region_of w p.to) { arrived = (p.batch.region, p.batch.epoch) ∷ (region_of w p.to).arrived }))
          (ap (map packet_state) packets ∙ s.packets)
          (subst (All (IsAsSealed w.journal)) (sym packets) s.carried);
    })
  where
    sound : IsSoundPacket w (packet_state p)
    sound = packet-sound k packet p w s at

    late : (region_of w p.to).published < p.batch.epoch
    late = subst (λ (n : ℕ). n < p.batch.epoch) here.published (above p.batch.epoch old.plain.epoch _ unknown)

-- no packet is for a region that isn't there
pub somewhere : (w : World) (k : Kept) (packet : ℕ) (p : KeptPacket) → StandsFor w k → slice_get k.packets.items packet ≡ Some p → p.to < vec_len k.regions
somewhere w k packet p s at = subst (λ (n : ℕ). p.to < n) (sym s.count) (packet-sound k packet p w s at).0

-- the packet that a look-up gave
pub packet-there : (k : Kept) (ps : List KeptPacket) (packet : ℕ) (p : KeptPacket) → ps ≡ k.packets.items → packet < length ps → p ≡ get_or ps packet p →
    slice_get k.packets.items packet ≡ Some p
packet-there k ps packet p same h is =
    subst (λ (xs : List KeptPacket). slice_get xs packet ≡ Some p) same (slice_get_read ps (length ps) packet p refl h is)

-- ---- several packets

-- the packet of a number, in a world
abbrev pub one_packet : World → ℕ → Stepped
one_packet v packet = deliver_one v packet (slice_get v.packets packet)

abbrev joined : Stepped → Stepped → Stepped
joined s t = record { world = t.world; lines = s.lines ++ t.lines }

plus_zero : (n : ℕ) → n + 0 ≡ n
plus_zero n = omega arith

next_one : (p n : ℕ) → p + 1 + n ≡ p + suc n
next_one p n = omega arith

-- the last packet is delivered last
deliver_push : (n packet : ℕ) (w : World) → deliver (suc n) packet w ≡ joined (deliver n packet w) (one_packet (deliver n packet w).world (packet + n))
deliver_push zero packet w =
    (λ i. record { world = (one_packet w packet).world; lines = append-nil (one_packet w packet).lines i })
    ∙ ap (λ (q : ℕ). joined (says w []) (one_packet w q)) (sym (plus_zero packet))
deliver_push (suc n) packet w =
    ap (joined (one_packet w packet)) (deliver_push n (packet + 1) (one_packet w packet).world)
    ∙ ((λ i. record {
      world = (one_packet (deliver n (packet + 1) (one_packet w packet).world).world (packet + 1 + n)).world;
      lines = sym (append_assoc (one_packet w packet).lines (deliver n (packet + 1) (one_packet w packet).world).lines
          (one_packet (deliver n (packet + 1) (one_packet w packet).world).world (packet + 1 + n)).lines) i;
    })
    ∙ ap (λ (q : ℕ). joined (joined (one_packet w packet) (deliver n (packet + 1) (one_packet w packet).world))
    (one_packet (deliver n (packet + 1) (one_packet w packet).world).world q)) (next_one packet n))

more_count : (first packet : ℕ) → first ≤ packet → packet + 1 - first ≡ suc (packet - first)
more_count first packet h = omega arith

back_at : (first packet : ℕ) → first ≤ packet → first + (packet - first) ≡ packet
back_at first packet h = omega arith

-- one packet more is delivered
pub deliver-makes : (w : World) (first packet : ℕ) (k n : Kept) (before middle after : List ℕ) → first ≤ packet →
    Makes (deliver (packet - first) first w) before middle k →
    ((v : World) → StandsFor v k → Makes (one_packet v packet) middle after n) →
    Makes (deliver (packet + 1 - first) first w) before after n
deliver-makes w first packet k n before middle after h made next =
    subst (λ (step : Stepped). Makes step before after n) (sym is)
    (record {
      lines = last.lines ∙ (ap (λ (text : List ℕ). text ++ (one_packet s.world packet).lines) made.lines
          ∙ append_assoc before s.lines (one_packet s.world packet).lines);
      world = last.world;
    })
  where
    s : Stepped
    s = deliver (packet - first) first w

    last : Makes (one_packet s.world packet) middle after n
    last = next s.world made.world

    is : deliver (packet + 1 - first) first w ≡ joined s (one_packet s.world packet)
    is = ap (λ (c : ℕ). deliver c first w) (more_count first packet h)
        ∙ (deliver_push (packet - first) first w ∙ ap (λ (q : ℕ). joined s (one_packet s.world q)) (back_at first packet h))
