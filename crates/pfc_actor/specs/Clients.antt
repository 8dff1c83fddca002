-- What contracts see of a client.
use Rattle.std.specs.Prelude.{◌≡◌, ◌≤◌, ◌⊎◌, ℕ, Bool, List, [], length, count_by, Option, Some, None, replicate, false}
use Rattle.pfc_world.specs.Files.{Files}
use Rattle.pfc_world.specs.Counts.{RoseBy}
use Rattle.pfc_log.specs.Tallies.{Tally}
use Rattle.pfc_client.specs.Permitted.{Table, Walk, nothing_open, is_fetch}
use Rattle.pfc_core.specs.LineView.{LineView}
use Rattle.pfc_core.specs.Marks.{Mark, sees}
use Rattle.pfc_core.specs.Access.{come_in}
use Rattle.pfc_core.specs.View.{CoreView}
use Rattle.pfc_actor.specs.declared.client.Place.{Place}
use Rattle.pfc_actor.specs.declared.client.Place.TheVariants as place
use Rattle.pfc_actor.specs.Books.{BookView}
use Rattle.pfc_actor.specs.StageView.{StageView, Rest}
use Rattle.pfc_actor.specs.StageView as st
use Rattle.pfc_actor.specs.Stages.{AtWork, Here, weight, shares}
use Rattle.pfc_actor.specs.Steps.{IsCaused, IsTallied, Shrinks, StaysFull}

-- what it asked and was told, its line to the origin, how far it has come with its request, and the moment at which its open
-- opened the store
pub record ClientView : Type 0 where
  pub book : BookView
  pub line : LineView
  pub stage : StageView
  pub moment : Option ℕ

-- the request at work fits the book, each failed fetch has its fault, and the line is the client's
pub record IsClient (b : BookView) (l : LineView) (st : StageView) : Type 0 where
  pub work : AtWork b st
  pub caused : IsCaused b l st
  pub number : l.number ≡ b.number

-- a client of this number that was asked nothing yet
pub record IsFresh (n : ℕ) (a : ClientView) : Type 0 where
  pub book_is : a.book ≡ record { number = n; asked = []; replies = []; stays = replicate 16 None; shut = false }
  pub line_is : a.line ≡ record { number = n; calls = 0; faults = 0 }
  pub stage_is : a.stage ≡ Rest

-- what a client holds, weighed
abbrev pub holds : (Mark → ℕ) → ClientView → ℕ
holds w a = weight w a.book a.stage

-- what is the same of a client that is moved by itself
pub record Moves (a a2 : ClientView) : Type 0 where
  pub number : a2.book.number ≡ a.book.number
  pub tokens : (w : Mark → ℕ) → holds w a2 ≡ holds w a
  pub tallied : (t : Tally) → IsTallied a.book a.line a.stage t → IsTallied a2.book a2.line a2.stage t
  pub elsewhere : (i : ℕ) → Shrinks (shares i a.stage) (shares i a2.stage)
  pub full : StaysFull a.stage a2.stage

-- a token of core i that is held
pub record Holds (i : ℕ) (b : BookView) (st : StageView) : Type 0 where
  pub mark : Mark
  pub instance_is : mark.instance ≡ i
  pub held : sees mark mark ≤ weight (sees mark) b st

-- the next step is on core i
pub record StepsAt (i : ℕ) (b : BookView) (st : StageView) : Type 0 where
  pub holds : Holds i b st
  pub here : (c : CoreView) → c.instance ≡ i → Here b st c

-- the next step is on no core
abbrev pub StepsAlone : StageView → Type 0
StepsAlone Rest = Unit {0}
StepsAlone st.Closed = Unit {0}
StepsAlone _ = ⊥

-- a landed block is to be put to the queue
abbrev pub IsLanded : StageView → Type 0
IsLanded (st.Landed op job) = Unit {0}
IsLanded _ = ⊥

-- the block of the part that is to be left for the origin
abbrev pub leaving_of : StageView → Option ℕ
leaving_of (st.Broken op disk part) = Some disk.block
leaving_of _ = None

-- the file of this path is to be opened
abbrev pub Wants : List ℕ → StageView → Type 0
Wants path (st.Wanted wanted) = wanted.path ≡ path
Wants path _ = ⊥

-- a core is entered at this moment, where there is memory for it
abbrev pub EntersAt : ℕ → CoreView → CoreView → Type 0
EntersAt now c c2 = (c2 ≡ c) ⊎ (c2.access ≡ come_in now c.out c.access)

-- so it is by a step of an open
abbrev pub OpensAtMoment : ℕ → StageView → CoreView → CoreView → Type 0
OpensAtMoment now (st.Making wanted) c c2 = EntersAt now c c2
OpensAtMoment now (st.Joining wanted) c c2 = EntersAt now c c2
OpensAtMoment now _ c c2 = Unit {0}

-- a core of this path is made or entered
abbrev pub Enters : List ℕ → StageView → Type 0
Enters path (st.Making wanted) = wanted.path ≡ path
Enters path (st.Joining wanted) = wanted.path ≡ path
Enters path _ = ⊥

abbrev pub IsPlace : BookView → StageView → Place → Type 0
IsPlace b st place.Alone = StepsAlone st
IsPlace b st place.Wants = (path : List ℕ) × Wants path st
IsPlace b st place.Enters = (path : List ℕ) × Enters path st
IsPlace b st place.Puts = IsLanded st
IsPlace b st (place.Core i) = StepsAt i b st
IsPlace b st (place.Lends i) = StepsAt i b st
IsPlace b st (place.Reads i) = StepsAt i b st
IsPlace b st (place.Returns i) = StepsAt i b st
IsPlace b st (place.Leaves i) = StepsAt i b st

-- each request has its reply, and the replies are permitted
pub record IsDone (told : Bool) (files : Files) (b : BookView) (l : LineView) (st : StageView) : Type 0 where
  pub stage_is : st ≡ Rest
  pub number : l.number ≡ b.number
  pub answered : length b.replies ≡ length b.asked
  pub walk : (end : Table) × Walk told files nothing_open b.asked b.replies end
  pub faults : RoseBy 0 (count_by is_fetch b.replies) l.faults

-- a descriptor of a file of core i is open, and the client is done
pub record OpensAt (i : ℕ) (b : BookView) (st : StageView) : Type 0 where
  pub holds : Holds i b st
  pub rests : st ≡ Rest
