-- How what holds at each moment of a run goes on, and what it says of the images since.
use Rattle.std.proofs.Common.{inl, inr, ⊎_elim, ◌++◌, ◌∷◌, [], List, Bool, length, drop, refl, sym, ap, subst, ◌∙◌, All, Any, append_assoc}
use Rattle.std.proofs.lemmas.List.{drop_at, append-nil}
use Rattle.std.proofs.lemmas.List.Elements.{All-nil, All-push, All-append, All-weaker}
use Rattle.pfc_world.specs.Run.{Run, Goes, WasSince, Throughout, moment}
use Rattle.pfc_world.specs.Disk.{Disk, Clear, Loosened}

pub started : {S : Type 0} (P : S → Type 0) (run : Run S) → P run.now → Throughout P run run
started P run now = record { since = []; time = sym (append-nil run.past); now = now; each = All-nil P }

-- one call more
pub goes_on : {S : Type 0} (P : S → Type 0) (call : S → S → Type 0) (old mid new : Run S) → Throughout P old mid → Goes call mid new → P new.now → Throughout P old new
goes_on P call old mid new before goes now = ⊎_elim
    (λ e. record {
      since = before.since ++ mid.now ∷ [];
      time = e ∙ ap (λ states. states ++ mid.now ∷ []) before.time ∙ append_assoc old.past before.since (mid.now ∷ []);
      now = now;
      each = All-push P before.since mid.now before.each before.now;
    })
    (λ same. record { since = before.since; time = ap (λ run. run.past) same ∙ before.time; now = now; each = before.each })
    goes.time

-- a clear more
pub clears_on : (P : Disk → Type 0) (ok : Bool) (old mid new : Run Disk) → Throughout P old mid → Clear ok mid new → ((disk : Disk) → Loosened mid.now disk → P disk) → Throughout P old new
clears_on P ok old mid new before clear loosened = ⊎_elim
    (λ e. record {
      since = before.since ++ mid.now ∷ clear.during;
      time = e ∙ ap (λ states. states ++ mid.now ∷ clear.during) before.time ∙ append_assoc old.past before.since (mid.now ∷ clear.during);
      now = loosened new.now clear.after;
      each = All-append P before.since (mid.now ∷ clear.during) before.each (rest clear.during clear.loosened);
    })
    (λ same. record { since = before.since; time = ap (λ run. run.past) same ∙ before.time; now = loosened new.now clear.after; each = before.each })
    clear.time
  where
    rest : (during : List Disk) → All (Loosened mid.now) during → All P (mid.now ∷ during)
    rest during all = All-append P (mid.now ∷ []) during (All-push P [] mid.now (All-nil P) before.now) (All-weaker (Loosened mid.now) P loosened during all)

-- one run after another
pub follows_on : {S : Type 0} (P : S → Type 0) (old mid new : Run S) → Throughout P old mid → Throughout P mid new → Throughout P old new
follows_on P old mid new first second = record {
  since = first.since ++ second.since;
  time = second.time ∙ ap (λ states. states ++ second.since) first.time ∙ append_assoc old.past first.since second.since;
  now = second.now;
  each = All-append P first.since second.since first.each second.each;
}

pub weaker : {S : Type 0} (P Q : S → Type 0) (old new : Run S) → ((state : S) → P state → Q state) → Throughout P old new → Throughout Q old new
weaker P Q old new implies all = record { since = all.since; time = all.time; now = implies new.now all.now; each = All-weaker P Q implies all.since all.each }

one_of : {S X : Type 0} (I : S → X → Type 0) (Q : X → Type 0) (states : List S) (x : X) → All (λ s. (y : X) → I s y → Q y) states → Any (λ s. I s x) states → Q x
one_of I Q states x all (k, s, below, is, image) =
    all k s below x (subst (λ state. I state x) (sym is) image)

-- what is so of each image at each moment is so of each image since
pub since : {S X : Type 0} (I : S → X → Type 0) (Q : X → Type 0) (old new : Run S) → Throughout (λ s. (y : X) → I s y → Q y) old new → (x : X) → WasSince (λ s. I s x) new (moment old) → Q x
since I Q old new all x (inl now) = all.now x now
since I Q old new all x (inr past) =
    one_of I Q all.since x all.each (subst (Any (λ s. I s x)) (ap (drop (length old.past)) all.time ∙ drop_at old.past all.since (length old.past) refl) past)
