-- What events print, taken event by event.
use Rattle.std.proofs.Common.{◌≡◌, ℕ, ◌+◌, ◌-◌, ◌<◌, List, [], ◌∷◌, ◌++◌, length, get_or, take, drop, refl, ap, sym, ◌∙◌, append_assoc, append-nil, take-append-drop, take_all, arith, Option}
use Rattle.std.proofs.lemmas.List.{take_more}
use Rattle.std.specs.Io.KnownBytes.{Appends, Keeps}
use Rattle.geo_io.specs.Told.{IsFrontOf, AppendsFrontOf}
use Rattle.geo_io.specs.laws.Told.{IsFrontOf-append, IsFrontOf-behind, IsFrontOf-trans}
use Rattle.std.proofs.KnownBytes.{Appends-trans, Appends-nil, Appends-kept}
use Rattle.world_script.specs.declared.event.Event.{Event}
use Rattle.geo_world.specs.World.{World}
use Rattle.geo_world.specs.Step.{step}
use Rattle.geo_world.specs.Play.{text_of, world_after}
use Rattle.geogauss.specs.Playing.{StoppedAfter}

-- events one after others
pub world_after-append : (w : World) (xs ys : List Event) → world_after w (xs ++ ys) ≡ world_after (world_after w xs) ys
world_after-append w [] ys = refl
world_after-append w (x ∷ xs) ys = world_after-append (step w x).world xs ys

pub text_of-append : (w : World) (xs ys : List Event) → text_of w (xs ++ ys) ≡ text_of w xs ++ text_of (world_after w xs) ys
text_of-append w [] ys = refl
text_of-append w (x ∷ xs) ys =
    ap (λ t. (step w x).lines ++ t) (text_of-append (step w x).world xs ys)
    ∙ sym (append_assoc (step w x).lines (text_of (step w x).world xs) (text_of (world_after (step w x).world xs) ys))

-- one more event
pub world_after-more : (w : World) (xs : List Event) (i : ℕ) (e : Event) → i < length xs →
    world_after w (take (i + 1) xs) ≡ (step (world_after w (take i xs)) (get_or xs i e)).world
world_after-more w xs i e within =
    ap (world_after w) (take_more xs i e within) ∙ world_after-append w (take i xs) (get_or xs i e ∷ [])

pub text_of-more : (w : World) (xs : List Event) (i : ℕ) (e : Event) → i < length xs →
    text_of w (take (i + 1) xs) ≡ text_of w (take i xs) ++ (step (world_after w (take i xs)) (get_or xs i e)).lines
text_of-more w xs i e within =
    ap (text_of w) (take_more xs i e within)
    ∙ text_of-append w (take i xs) (get_or xs i e ∷ [])
    ∙ ap (λ t. text_of w (take i xs) ++ t) (append-nil (step (world_after w (take i xs)) (get_or xs i e)).lines)

-- the first events print a front of what all print
pub text_of-front : (w : World) (xs : List Event) (i : ℕ) → IsFrontOf (text_of w (take i xs)) (text_of w xs)
text_of-front w xs i =
    (text_of (world_after w (take i xs)) (drop i xs), sym (text_of-append w (take i xs) (drop i xs)) ∙ ap (text_of w) (take-append-drop i xs))

-- nothing was written
pub StoppedAfter-none : (w : World) (xs : List Event) (a : Option (List ℕ)) → StoppedAfter w xs a a
StoppedAfter-none w xs a = record {
  done = 0;
  within = omega arith;
  gained = [];
  appended = Appends-nil a;
  least = ([], refl);
  most = ([], refl);
  front = (text_of w xs, refl);
}

-- all lines of the events before one were written, and a front of its own
pub StoppedAfter-event : (w : World) (xs : List Event) (i : ℕ) (e : Event) (a b c : Option (List ℕ)) → i < length xs →
    Appends a b (text_of w (take i xs)) → AppendsFrontOf (step (world_after w (take i xs)) (get_or xs i e)).lines b c → StoppedAfter w xs a c
StoppedAfter-event w xs i e a b c within before last =
    let more : IsFrontOf (text_of w (take i xs) ++ last.gained) (text_of w (take (i + 1) xs)) =
    rw (text_of-more w xs i e within) (IsFrontOf-behind (text_of w (take i xs)) last.gained _ last.front)
    in let back : (i + 1) - 1 ≡ i = omega arith
    in record {
      done = i + 1;
      within = omega arith;
      gained = text_of w (take i xs) ++ last.gained;
      appended = Appends-trans a b c (text_of w (take i xs)) last.gained before last.appended;
      least = rw back (IsFrontOf-append (text_of w (take i xs)) last.gained);
      most = more;
      front = IsFrontOf-trans _ _ _ more (text_of-front w xs (i + 1));
    }

-- all lines were written
pub StoppedAfter-all : (w : World) (xs : List Event) (a b : Option (List ℕ)) → Appends a b (text_of w xs) → StoppedAfter w xs a b
StoppedAfter-all w xs a b appended = record {
  done = length xs;
  within = omega arith;
  gained = text_of w xs;
  appended = appended;
  least = text_of-front w xs (length xs - 1);
  most = rw (take_all (length xs) xs (omega arith)) ([], append-nil (text_of w xs));
  front = ([], append-nil (text_of w xs));
}

-- and then nothing changed
pub StoppedAfter-kept : (w : World) (xs : List Event) (a b c : Option (List ℕ)) → StoppedAfter w xs a b → Keeps b c → StoppedAfter w xs a c
StoppedAfter-kept w xs a b c stopped kept = record {
  done = stopped.done;
  within = stopped.within;
  gained = stopped.gained;
  appended = Appends-kept a b c stopped.gained stopped.appended kept;
  least = stopped.least;
  most = stopped.most;
  front = stopped.front;
}
