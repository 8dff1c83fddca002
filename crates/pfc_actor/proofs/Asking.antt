-- A client that is asked one more line.
use Rattle.std.proofs.Common.{◌≡◌, ℕ, zero, suc, ◌+◌, ◌≤◌, ◌<◌, List, [], ◌∷◌, ◌++◌, length, refl, sym, ◌∙◌, arith, false}
use Rattle.std.specs.Prelude.{Result, Ok, slice_get}
use Rattle.pfc_base.specs.declared.block.Part.{Part}
use Rattle.pfc_log.specs.Tallies.{Tally}
use Rattle.pfc_client.specs.declared.request.Request.{Request}
use Rattle.pfc_client.specs.declared.request.Request.TheVariants as q
use Rattle.pfc_client.specs.declared.request.RequestRefusal.{RequestRefusal}
use Rattle.pfc_client.proofs.Telling.{stats_longer, lost_longer}
use Rattle.pfc_core.specs.LineView.{LineView}
use Rattle.pfc_core.specs.Marks.{Mark}
use Rattle.pfc_read.specs.OpView.{OpView, Given, ToRead}
use Rattle.pfc_actor.specs.Books.{BookView, IsNext}
use Rattle.pfc_actor.specs.StageView.{StageView}
use Rattle.pfc_actor.specs.StageView as st
use Rattle.pfc_actor.specs.Stages.{AtWork, IsAsked, GoesOn, Loads, shares}
use Rattle.pfc_actor.specs.Steps.{IsTallied, full_in}
use Rattle.pfc_actor.specs.Clients.{ClientView, IsClient, Moves}
use Rattle.pfc_actor.proofs.Steps.{full_same, shrinks_same}

abbrev pub longer : BookView → List ℕ → BookView
longer b line = record b { asked = b.asked ++ line ∷ [] }

slice_get_more : (xs : List (List ℕ)) (x : List ℕ) (n : ℕ) → n < length xs → slice_get (xs ++ x ∷ []) n ≡ slice_get xs n
slice_get_more [] x n low = absurd (omega (arith, low))
slice_get_more (y ∷ xs) x zero low = refl
slice_get_more (y ∷ xs) x (suc n) low = slice_get_more xs x n (omega (arith, low))

length_more : (xs : List (List ℕ)) (x : List ℕ) → length (xs ++ x ∷ []) ≡ length xs + 1
length_more [] x = refl
length_more (y ∷ xs) x = omega (arith, length_more xs x)

next_longer : (b : BookView) (line : List ℕ) (said : Result Request RequestRefusal) → IsNext b said → IsNext (longer b line) said
next_longer b line said next = record {
  some = omega (arith, next.some, length_more b.asked line);
  is = λ l at. next.is l (sym (slice_get_more b.asked line (length b.replies) next.some) ∙ at);
}

asked_longer : (b : BookView) (line : List ℕ) (request : Request) → IsAsked b request → IsAsked (longer b line) request
asked_longer b line request asked = record { going = asked.going; next = next_longer b line (Ok request) asked.next }

goes_longer : (b : BookView) (line : List ℕ) (op : OpView) (given : Given) → GoesOn b op given → GoesOn (longer b line) op given
goes_longer b line op given goes = record {
  number = goes.number;
  stay = goes.stay;
  reads = record { asked = asked_longer b line (q.Read goes.number op.pieces) goes.reads.asked; is_open = goes.reads.is_open; short = goes.reads.short };
  path_is = goes.path_is;
  size_is = goes.size_is;
  client_is = goes.client_is;
  given_is = goes.given_is;
  numbered = goes.numbered;
}

loads_longer : (b : BookView) (line : List ℕ) (op : OpView) (disk : Mark) (part : Part) → Loads b op disk part → Loads (longer b line) op disk part
loads_longer b line op disk part loads = record { goes = goes_longer b line op (ToRead part) loads.goes; disk_for = loads.disk_for; part_of = loads.part_of }

-- the request at work is at work still
work_longer : (b : BookView) (line : List ℕ) (stage : StageView) → b.shut ≡ false → AtWork b stage → AtWork (longer b line) stage
work_longer b line st.Rest going work = λ more. going
work_longer b line (st.Wanted wanted) going work = record { asked = asked_longer b line _ work.asked; free = work.free }
work_longer b line (st.Making wanted) going work = record { asked = asked_longer b line _ work.asked; free = work.free }
work_longer b line (st.Joining wanted) going work = record { asked = asked_longer b line _ work.asked; free = work.free }
work_longer b line (st.Planning number pieces) going work = (work.0, record { asked = asked_longer b line _ work.1.asked; is_open = work.1.is_open; short = work.1.short })
work_longer b line (st.Closing number) going work = (asked_longer b line _ work.0, work.1)
work_longer b line st.Closed going work = work
work_longer b line (st.Reading op) going work = goes_longer b line op _ work
work_longer b line (st.Landed op job) going work = (goes_longer b line op _ work.0, work.1, work.2)
work_longer b line (st.Full op job capacity) going work = (goes_longer b line op _ work.0, work.1, work.2)
work_longer b line (st.Running op ticket) going work = (goes_longer b line op _ work.0, work.1, work.2)
work_longer b line (st.Directing op leave) going work = (goes_longer b line op _ work.0, work.1)
work_longer b line (st.Looking op pin part) going work = (goes_longer b line op _ work.0, work.1)
work_longer b line (st.Loading op disk part) going work = loads_longer b line op disk part work
work_longer b line (st.Borrowing op disk part) going work = loads_longer b line op disk part work
work_longer b line (st.Loaded op disk) going work = (goes_longer b line op _ work.0, work.1)
work_longer b line (st.Refused op disk part) going work = loads_longer b line op disk part work
work_longer b line (st.Broken op disk part) going work = loads_longer b line op disk part work
work_longer b line (st.Ending op) going work = (goes_longer b line op _ work.0, work.1)

pub client_longer : (b b2 : BookView) (l : LineView) (line : List ℕ) (stage : StageView) → b.shut ≡ false → b2 ≡ longer b line → IsClient b l stage → IsClient b2 l stage
client_longer b b2 l line stage going same client = rw same (record { work = work_longer b line stage going client.work; caused = client.caused; number = client.number })

tallied_longer : (b : BookView) (l : LineView) (line : List ℕ) (stage : StageView) (t : Tally) → length b.replies ≤ length b.asked → IsTallied b l stage t → IsTallied (longer b line) l stage t
tallied_longer b l line stage t few old =
    let stats = stats_longer b.asked (line ∷ []) b.replies few in record {
      opened = old.opened;
      served = old.served;
      read = old.read;
      least = λ low. let was = old.least low in omega (arith, was, stats);
      most = λ low. let was = old.most low in omega (arith, was, stats);
      faults = old.faults;
      failed = let more = lost_longer b.asked (line ∷ []) b.replies few in omega (arith, old.failed, more);
    }

pub moves_same : (a a2 : ClientView) → a2 ≡ a → Moves a a2
moves_same a a2 same = rw same (record { number = refl; tokens = λ w. refl; tallied = λ t old. old; elsewhere = λ i. shrinks_same (shares i a.stage); full = full_same (full_in a.stage) })

pub moves_longer : (a a2 : ClientView) (line : List ℕ) → length a.book.replies ≤ length a.book.asked → a2 ≡ record a { book = longer a.book line } → Moves a a2
moves_longer a a2 line few same = rw same (record {
  number = refl;
  tokens = λ w. refl;
  tallied = λ t old. tallied_longer a.book a.line line a.stage t few old;
  elsewhere = λ i. shrinks_same (shares i a.stage);
  full = full_same (full_in a.stage);
})
