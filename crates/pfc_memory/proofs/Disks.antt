-- What the calls of a data device in memory leave, of lists of bytes and of places.
use Rattle.std.proofs.Common.{ap, ◌≡◌, ◌⊎◌, inl, inr, ⊎_elim, ◌<◌, ◌+◌, min, ℕ, Bool, true, false, List, length, map, [], ◌∷◌, refl, sym, ◌∙◌, arith, subst}
use Rattle.std.specs.Prelude.{IsTrue, ◌≢◌, ◌↔◌}
use Rattle.pfc_world.specs.Run.{Run, Goes}
use Rattle.std.proofs.lemmas.Bool.{cases_lt}
use Rattle.std.proofs.lemmas.List.{get_or_past}
use Rattle.pfc_world.specs.Disk.{Disk, IsImage, Firm, LiesBetween, LiesOutside, Write, Sync, Clear, Loosened, not_settled, is_left_over}
use Rattle.pfc_memory.specs.declared.place.Place.{Place}
use Rattle.pfc_memory.specs.Places.{Marked, Loses, place_at, place_of, after_sync, after_loss}
use Rattle.pfc_memory.specs.Data.{disk_with, Laid, Unsettles, MayWrite, Settled, MaySync, MayClear, MayHold}
use Rattle.pfc_memory.proofs.Places.{mapped, loose_before, left_loose, left_before, loss_keeps, sync_of, loss_of}

not_both : (b : Bool) → b ≡ true → b ≡ false → ⊥
not_both b t f = let e : true ≡ false = sym t ∙ f in cc

false_true : false ≡ true → ⊥
false_true h = not_both true refl (sym h)

-- a place lies in a range or outside
in_or_out : (from to p : ℕ) → LiesBetween from to p ⊎ LiesOutside from to p
in_or_out from to p = ⊎_elim
    (λ l. inr (inl l))
    (λ r. ⊎_elim (λ l. inl (r, l)) (λ s. inr (inr s)) (cases_lt p to))
    (cases_lt p from)

-- ---- a write

marked_loose : (from to p : ℕ) (old new : List Place) → Marked from to old new → LiesBetween from to p → not_settled (place_of (place_at new p)) ≡ true
marked_loose from to p old new marked lies = subst (λ (place : Place). not_settled (place_of place) ≡ true) (sym (marked.inside p lies)) refl

loose_back : (from to p : ℕ) (old new : List Place) → Marked from to old new → not_settled (place_of (place_at new p)) ≡ true → (not_settled (place_of (place_at old p)) ≡ true) ⊎ LiesBetween from to p
loose_back from to p old new marked loose = ⊎_elim
    (λ l. inr l)
    (λ r. inl (subst (λ (place : Place). not_settled (place_of place) ≡ true) (marked.outside p r) loose))
    (in_or_out from to p)

still_loose : (from to p : ℕ) (old new : List Place) → Marked from to old new → not_settled (place_of (place_at old p)) ≡ true → not_settled (place_of (place_at new p)) ≡ true
still_loose from to p old new marked loose = ⊎_elim
    (λ l. marked_loose from to p old new marked l)
    (λ r. subst (λ (place : Place). not_settled (place_of place) ≡ true) (sym (marked.outside p r)) loose)
    (in_or_out from to p)

left_back : (from to p : ℕ) (old new : List Place) → Marked from to old new → is_left_over (place_of (place_at new p)) ≡ true → (is_left_over (place_of (place_at old p)) ≡ true) × LiesOutside from to p
left_back from to p old new marked left = ⊎_elim
    (λ l. absurd (false_true (subst (λ (place : Place). is_left_over (place_of place) ≡ true) (marked.inside p l) left)))
    (λ r. (subst (λ (place : Place). is_left_over (place_of place) ≡ true) (marked.outside p r) left, r))
    (in_or_out from to p)

firm_back : (from to p : ℕ) (old new : List Place) → Marked from to old new → not_settled (place_of (place_at new p)) ≡ false → (not_settled (place_of (place_at old p)) ≡ false) × LiesOutside from to p
firm_back from to p old new marked firm = ⊎_elim
    (λ l. absurd (not_both _ (marked_loose from to p old new marked l) firm))
    (λ r. (subst (λ (place : Place). not_settled (place_of place) ≡ false) (marked.outside p r) firm, r))
    (in_or_out from to p)

-- outside the range that is marked is outside the one that is written
wider : (at n len p : ℕ) → LiesOutside (min at len) (at + n) p → LiesOutside at (at + n) p
wider at n len p (inl h) = inl (omega (arith, h))
wider at n len p (inr h) = inr h

pub write_done : (at : ℕ) (from old new : List ℕ) (places marks : List Place) → Laid at from old new → Marked (min at (length old)) (at + length from) places marks → Write at from true (disk_with old places) (disk_with new marks)
write_done at from old new places marks laid marked = record {
  written = λ _. record { room = λ p h. let e = laid.long in omega (arith, e, h); same = λ p h. laid.inside p h };
  stays = λ p _ out. laid.outside p out;
  gap = λ p lies. laid.outside p (inl lies.1) ∙ get_or_past old p 0 lies.0;
  no_shorter = let e = laid.long in omega (arith, e);
  no_longer = let e = laid.long in omega (arith, e);
  loose = λ p h. loose_back (min at (length old)) (at + length from) p places marks marked h;
  left = λ p h. let b = left_back (min at (length old)) (at + length from) p places marks marked h in (b.0, (λ _. wider at (length from) (length old) p b.1));
}

pub write_failed : (at : ℕ) (from old : List ℕ) (places marks : List Place) → Marked (min at (length old)) (at + length from) places marks → Write at from false (disk_with old places) (disk_with old marks)
write_failed at from old places marks marked = record {
  written = λ done. absurd (false_true done);
  stays = λ p _ out. refl;
  gap = λ p lies. get_or_past old p 0 lies.0;
  no_shorter = omega arith;
  no_longer = omega arith;
  loose = λ p h. loose_back (min at (length old)) (at + length from) p places marks marked h;
  left = λ p h. let b = left_back (min at (length old)) (at + length from) p places marks marked h in (b.0, (λ done. absurd (false_true done)));
}

pub write_unsettles : (at len : ℕ) (old new : List ℕ) (places marks : List Place) → Marked (min at (length old)) (at + len) places marks → Unsettles at len (disk_with old places) (disk_with new marks)
write_unsettles at len old new places marks marked = record {
  inside = λ p lies. ap place_of (marked.inside p lies);
  outside = λ p out. ap place_of (marked.outside p out);
}

pub write_both : (at : ℕ) (from old : List ℕ) (places marks : List Place) → Marked (min at (length old)) (at + length from) places marks → MayWrite at from (disk_with old places) (disk_with old marks)
write_both at from old places marks marked =
    let first = min at (length old) in
    let end = at + length from in
    record {
      keeps = λ image is. record {
        long = λ p h firm. is.long p h (firm_back first end p places marks marked firm).0;
        kept = λ p h firm. is.kept p h (firm_back first end p places marks marked firm).0;
        past = λ p h in_image. still_loose first end p places marks marked (is.past p h in_image);
      };
      lays = λ image is other laid. record {
        long = λ p h firm. let e = laid.long in let l = is.long p h (firm_back first end p places marks marked firm).0 in omega (arith, e, l);
        kept = λ p h firm. let b = firm_back first end p places marks marked firm in laid.outside p (wider at (length from) (length old) p b.1) ∙ is.kept p h b.0;
        past = λ p h in_other. ⊎_elim
            (λ l. marked_loose first end p places marks marked (omega (arith, h), l))
            (λ r. still_loose first end p places marks marked (is.past p h (let e = laid.long in omega (arith, e, r, in_other))))
            (cases_lt p end);
      };
      unsettles = write_unsettles at (length from) old old places marks marked;
    }

-- ---- a sync

pub sync_done : (bytes : List ℕ) (places : List Place) → Sync true (disk_with bytes places) (disk_with bytes (map after_sync places))
sync_done bytes places = record {
  reads = refl;
  loose = λ p h. left_loose (place_at places p) (was_left p h);
  settled = λ _ p h. was_left p h;
  left = λ _ p h. left_before (place_at places p) (subst (λ (place : Place). is_left_over (place_of place) ≡ true) (mapped after_sync places p refl) h);
}
  where
    was_left : (p : ℕ) → not_settled (place_of (place_at (map after_sync places) p)) ≡ true → is_left_over (place_of (place_at places p)) ≡ true
    was_left p h = loose_before (place_at places p) (subst (λ (place : Place). not_settled (place_of place) ≡ true) (mapped after_sync places p refl) h)

lost_same : (places : List Place) (p : ℕ) → not_settled (place_of (place_at (map after_loss places) p)) ≡ not_settled (place_of (place_at places p))
lost_same places p = subst (λ (place : Place). not_settled (place_of place) ≡ not_settled (place_of (place_at places p))) (sym (mapped after_loss places p refl)) (loss_keeps (place_at places p))

pub sync_failed : (bytes : List ℕ) (places : List Place) → Sync false (disk_with bytes places) (disk_with bytes (map after_loss places))
sync_failed bytes places = record {
  reads = refl;
  loose = λ p h. sym (lost_same places p) ∙ h;
  settled = λ done. absurd (false_true done);
  left = λ done. absurd (false_true done);
}

pub sync_settles : (bytes : List ℕ) (places : List Place) → Settled (disk_with bytes places) (disk_with bytes (map after_sync places))
sync_settles bytes places p = ap place_of (mapped after_sync places p refl) ∙ sync_of (place_at places p)

pub sync_both : (bytes : List ℕ) (places : List Place) → MaySync (disk_with bytes places) (disk_with bytes (map after_loss places))
sync_both bytes places = record {
  keeps = λ image is. record {
    long = λ p h firm. is.long p h (sym (lost_same places p) ∙ firm);
    kept = λ p h firm. is.kept p h (sym (lost_same places p) ∙ firm);
    past = λ p h in_image. lost_same places p ∙ is.past p h in_image;
  };
  left = λ p. ap place_of (mapped after_loss places p refl) ∙ loss_of (place_at places p);
}

-- ---- a clear

pub clear_failed : (bytes : List ℕ) (places lost : List Place) → Loses (length bytes) places lost → Loosened (disk_with bytes places) (disk_with bytes lost)
clear_failed bytes places lost loses = record {
  reads = inl refl;
  loose = λ p h. ⊎_elim
      (λ l. inr l)
      (λ r. inl (sym (loss_keeps (place_at places p)) ∙ subst (λ (place : Place). not_settled (place_of place) ≡ true) (loses.outside p r) h))
      (cases_lt p (length bytes));
}

pub clear_both : (bytes : List ℕ) (places lost : List Place) → Loses (length bytes) places lost → MayClear (disk_with bytes places) (disk_with bytes lost)
clear_both bytes places lost loses = record {
  keeps = λ image is. record {
    long = λ p h firm. absurd (loosened p h firm);
    kept = λ p h firm. absurd (loosened p h firm);
    past = λ p h in_image. subst (λ (place : Place). not_settled (place_of place) ≡ true) (sym (loses.outside p h)) (loss_keeps (place_at places p) ∙ is.past p h in_image);
  };
  none = record {
    long = λ p h firm. absurd (loosened p h firm);
    kept = λ p h firm. absurd (loosened p h firm);
    past = λ p h in_image. absurd (omega (arith, in_image));
  };
  left = λ p h. ap place_of (loses.inside p h);
  past = λ p h. ap place_of (loses.outside p h) ∙ loss_of (place_at places p);
}
  where
    loosened : (p : ℕ) → p < length bytes → not_settled (place_of (place_at lost p)) ≡ false → ⊥
    loosened p h firm = not_both _ (subst (λ (place : Place). not_settled (place_of place) ≡ true) (sym (loses.inside p h)) refl) firm

-- ---- calls that change nothing

pub nothing_written : (at : ℕ) (from : List ℕ) (disk : Disk) → Write at from false disk disk
nothing_written at from disk = record {
  written = λ done. absurd (false_true done);
  stays = λ p _ out. refl;
  gap = λ p lies. get_or_past disk.reads p 0 lies.0;
  no_shorter = omega arith;
  no_longer = omega arith;
  loose = λ p h. inl h;
  left = λ p h. (h, (λ done. absurd (false_true done)));
}

pub nothing_synced : (disk : Disk) → Sync false disk disk
nothing_synced disk = record {
  reads = refl;
  loose = λ p h. h;
  settled = λ done. absurd (false_true done);
  left = λ done. absurd (false_true done);
}

-- a clear with its answer, of the disks before and after it
pub record Cleared (ok : Bool) (old new : Disk) : Type 0 where
  pub after : Loosened old new
  pub empty : IsTrue ok → new.reads ≡ []
  pub clean : IsTrue ok → (p : ℕ) → Firm new p

pub nothing_cleared : (disk : Disk) → Cleared false disk disk
nothing_cleared disk = record {
  after = record { reads = inl refl; loose = λ p h. inl h };
  empty = λ done. absurd (false_true done);
  clean = λ done. absurd (false_true done);
}

pub only_loosened : (old new : Disk) → Loosened old new → Cleared false old new
only_loosened old new after = record {
  after = after;
  empty = λ done. absurd (false_true done);
  clean = λ done. absurd (false_true done);
}

pub all_cleared : (old new : Disk) → new.reads ≡ [] → ((p : ℕ) → Firm new p) → Cleared true old new
all_cleared old new empty clean = record {
  after = record { reads = inr empty; loose = λ p h. absurd (not_both _ h (clean p)) };
  empty = λ _. empty;
  clean = λ _. clean;
}

pub a_clear : (ok : Bool) (old new : Run Disk) → Goes (Cleared ok) old new → Clear ok old new
a_clear ok old new goes = record {
  during = [];
  time = goes.time;
  loosened = λ k d h. absurd (omega (arith, h));
  after = goes.does.after;
  empty = goes.does.empty;
  clean = goes.does.clean;
}

-- ---- what a crash may leave of bytes

pub holds_bytes : (bytes : List ℕ) (places : List Place) → (bytes ≢ []) → MayHold (disk_with bytes places)
holds_bytes bytes places some = (bytes, record { long = λ p h _. h; kept = λ p h _. refl; past = λ p h l. absurd (omega (arith, h, l)) }, some)

pub holds_first : (bytes : List ℕ) (places : List Place) → length bytes ≡ 0 → (not_settled (place_of (place_at places 0)) ≡ true) ↔ MayHold (disk_with bytes places)
holds_first bytes places none = (
  (λ loose. (
    0 ∷ [],
    record {
      long = λ p h _. absurd (nothing p h);
      kept = λ p h _. absurd (nothing p h);
      past = λ p _ h. let e : 0 ≡ p = omega (arith, h) in subst (λ q. not_settled (place_of (place_at places q)) ≡ true) e loose;
    },
    (λ e. cc),
  )),
  (λ may. first may.0 may.1 may.2),
)
  where
    nothing : (p : ℕ) → p < length bytes → ⊥
    nothing p h = omega (arith, h, none)

    first : (image : List ℕ) → IsImage (disk_with bytes places) image → (image ≢ []) → not_settled (place_of (place_at places 0)) ≡ true
    first [] is some = absurd (some refl)
    first (x ∷ image) is some = is.past 0 (omega (arith, none)) (omega arith)
