-- The scene at the start.
use Rattle.std.proofs.Common.{◌≡◌, ℕ, zero, suc, ◌<◌, List, [], length, get_or, sum_by, refl, subst, sym, ap, arith, false, inl}
use Rattle.std.specs.Prelude.{replicate, Option, None}
use Rattle.std.proofs.lemmas.List.Sums.{sum_by-cons}
use Rattle.pfc_base.specs.Cinfo.{IsBlockSize}
use Rattle.pfc_log.specs.Tallies.{nothing}
use Rattle.pfc_core.specs.LineView.{LineView}
use Rattle.pfc_core.specs.Marks.{Mark}
use Rattle.pfc_writer.specs.Writer.{Task, work_weight}
use Rattle.pfc_actor.specs.Books.{BookView, weight_in, open_weight}
use Rattle.pfc_actor.specs.StageView.{StageView}
use Rattle.pfc_actor.specs.Stages.{stage_weight}
use Rattle.pfc_actor.specs.Steps.{IsTallied, full_in}
use Rattle.pfc_actor.specs.Clients.{ClientView, IsFresh, holds}
use Rattle.pfc_scene.specs.Scenes.{AreUnique, IsActor, IsScene}
use Rattle.pfc_scene.proofs.Casts.{all_zero, nobody}
use Rattle.pfc_scene.proofs.Queued.{start_queued}

none_open : (w : Mark → ℕ) (n : ℕ) → open_weight w (replicate n None) ≡ 0
none_open w zero = refl
none_open w (suc n) = omega (arith, sum_by-cons (weight_in w) None (replicate n None), none_open w n)

light : (w : Mark → ℕ) (n : ℕ) (a : ClientView) → IsFresh n a → holds w a ≡ 0
light w n a f = let stays = ap (λ (b : BookView). open_weight w b.stays) f.book_is in let none = none_open w 16 in let rest = ap (stage_weight w) f.stage_is in omega (arith, stays, none, rest)

all_light : (w : Mark → ℕ) (clients : List ClientView) → ((j : ℕ) (d : ClientView) → j < length clients → (n : ℕ) × IsFresh n (get_or clients j d)) → sum_by (holds w) clients ≡ 0
all_light w clients fresh = all_zero (holds w) clients nobody (λ j l. let f = fresh j nobody l in light w f.0 (get_or clients j nobody) f.1)

fresh_actor : (n : ℕ) (a : ClientView) → IsFresh n a → IsActor [] a
fresh_actor n a f = record {
  tallied = subst (λ (b : BookView). IsTallied b a.line a.stage nothing) (sym f.book_is)
      (subst (λ (l : LineView). IsTallied (record { number = n; asked = []; replies = []; stays = replicate 16 None; shut = false }) l a.stage nothing) (sym f.line_is)
      (subst (λ (st : StageView). IsTallied (record { number = n; asked = []; replies = []; stays = replicate 16 None; shut = false }) (record { number = n; calls = 0; faults = 0 }) st nothing) (sym f.stage_is)
      (record { opened = refl; served = refl; read = refl; least = λ low. omega arith; most = λ low. omega arith; faults = inl (omega arith); failed = omega arith })));
  within = λ i d l. absurd (omega (arith, l));
}

-- no client holds anything, nor does a writer
pub begun : (k capacity : ℕ) (clients : List ClientView) (writers : List (Option Task)) → IsBlockSize k → ((j : ℕ) (d : ClientView) → j < length clients → (n : ℕ) × IsFresh n (get_or clients j d)) → AreUnique clients →
    ((w : ℕ) (d : Option Task) → w < length writers → get_or writers w d ≡ None) → IsScene (record { clients = clients; cores = []; backings = []; writers = writers; jobs = []; capacity = capacity; block_size = k })
begun k capacity clients writers size fresh numbers resting = record {
  cast = record {
    block_size = size;
    tokens = λ w.
        let held = all_light w clients fresh in
        let work = all_zero (work_weight w) writers None (λ x l. ap (work_weight w) (resting x None l)) in omega (arith, held, work);
    actors = λ j d l. let f = fresh j d l in fresh_actor f.0 (get_or clients j d) f.1;
    numbers = numbers;
    places = λ i d l. absurd (omega (arith, l));
    paths = λ i j d l m x y e. absurd (omega (arith, l));
    strangers = λ n none i d l. absurd (omega (arith, l));
  };
  backed = record { long = refl; each = λ i d e l. absurd (omega (arith, l)) };
  queued = start_queued capacity clients writers (λ w. all_light w clients fresh) (λ j d l. let f = fresh j d l in ap full_in f.1.stage_is) resting;
}
