-- From a step of what a device holds to a call on it.
use Rattle.std.proofs.Common.{◌≡◌, inl, inr, Bool, true, false, List, [], ◌∷◌, ◌++◌, map, Option, Some, None, Result, Ok, Err, is_ok, IfOk, refl, sym, ap, ◌∙◌, subst}
use Rattle.std.proofs.lemmas.List.{map-append}
use Rattle.pfc_base.specs.declared.memory.Memory.{Memory}
use Rattle.pfc_world.specs.declared.refusal.Fault.{Fault}
use Rattle.pfc_world.specs.Run.{Goes}
use Rattle.pfc_memory.specs.declared.numbers.Turn.{Turn}
use Rattle.pfc_memory.specs.declared.numbers.Turn.TheVariants.{Passes, Fails, Burnt}
use Rattle.pfc_memory.specs.declared.history.DeviceCalls.{DeviceCalls}
use Rattle.pfc_memory.specs.declared.history.History.{History}
use Rattle.pfc_memory.specs.declared.history.Sides.{Sides}
use Rattle.pfc_memory.specs.History.{turn_between, OkWherePasses, Advances, Stays, Steps, Leaves, run_of}

pub stays_same : {S D : Type 0} (see : S → D) (old new : History S) → Stays old new → run_of see new ≡ run_of see old
stays_same see old new stays =
    ap (λ x. record { now = see x; past = map see new.past.items }) stays.now
    ∙ ap (λ (l : List _). record { now = see old.now; past = map see l }) stays.past

past_grows : {S D : Type 0} (see : S → D) (old new : History S) (next : S) → Advances old new next → (run_of see new).past ≡ (run_of see old).past ++ (run_of see old).now ∷ []
past_grows see old new next advances = ap (map see) advances.past ∙ map-append see old.past.items (old.now ∷ [])

advanced : {S D : Type 0} (see : S → D) (does : D → D → Type 0) (old new : History S) (next : S) → Advances old new next → does (see old.now) (see next) → Goes does (run_of see old) (run_of see new)
advanced see does old new next advances step = record {
  time = inl (past_grows see old new next advances);
  does = subst (λ x. does (see old.now) (see x)) (sym advances.now) step;
}

stayed : {S D : Type 0} (see : S → D) (does : D → D → Type 0) (old new : History S) → Stays old new → does (see old.now) (see old.now) → Goes does (run_of see old) (run_of see new)
stayed see does old new stays step = record {
  time = inr (stays_same see old new stays);
  does = subst (λ x. does (see old.now) (see x)) (sym stays.now) step;
}

some_none : {A : Type 0} (a : A) (x : Option A) → x ≡ Some a → x ≡ None → ⊥
some_none a x s n = let e : Some a ≡ None = sym s ∙ n in cc

-- what both sides of a call do
abbrev pub BothSides : {S D : Type 0} → (S → D) → (Bool → D → D → Type 0) → D → Sides S → Type 0
BothSides see call old each = call true old (see each.done) × call false old (see each.doubtful)

failing : {S D : Type 0} (see : S → D) (call : Bool → D → D → Type 0) (old new : History S) (before after : DeviceCalls) (sides : Result (Sides S) Memory) (t : Option Turn) →
    turn_between before after ≡ t → (t ≡ Some Passes → ⊥) → Steps old new before after sides →
    IfOk sides (BothSides see call (see old.now)) → call false (see old.now) (see old.now) → Goes (call false) (run_of see old) (run_of see new)
failing see call old new before after sides None e not_passes steps both none = stayed see (call false) old new (steps.unmade e) none
failing see call old new before after sides (Some Burnt) e not_passes steps both none = stayed see (call false) old new (steps.burnt e) none
failing see call old new before after sides (Some Passes) e not_passes steps both none = absurd (not_passes refl)
failing see call old new before after (Ok each) (Some Fails) e not_passes steps both none = advanced see (call false) old new each.doubtful (steps.fails e) both.1
failing see call old new before after (Err m) (Some Fails) e not_passes steps both none = absurd (some_none Fails _ e (steps.none refl))

-- A call does what the side does that its answer names; nothing is what it does at worst.
pub goes : {S D : Type 0} (see : S → D) (call : Bool → D → D → Type 0) (old new : History S) (before after : DeviceCalls) (sides : Result (Sides S) Memory) (result : Result Unit Fault) →
    OkWherePasses before after result → Steps old new before after sides →
    IfOk sides (BothSides see call (see old.now)) → call false (see old.now) (see old.now) → Goes (call (is_ok result)) (run_of see old) (run_of see new)
goes see call old new before after (Ok each) (Ok u) exactly steps both none = advanced see (call true) old new each.done (steps.passes (exactly.0 refl)) both.0
goes see call old new before after (Err m) (Ok u) exactly steps both none = absurd (some_none Passes _ (exactly.0 refl) (steps.none refl))
goes see call old new before after sides (Err f) exactly steps both none = failing see call old new before after sides _ refl (λ e. let h : false ≡ true = exactly.1 e in cc) steps both none

-- what each side of a call is stands where the call left it
pub leaves : {S D : Type 0} (see : S → D) (done failed : D → D → Type 0) (old new : History S) (before after : DeviceCalls) (sides : Result (Sides S) Memory) →
    Steps old new before after sides → IfOk sides (λ each. done (see old.now) (see each.done) × failed (see old.now) (see each.doubtful)) → Leaves done failed before after (run_of see old) (run_of see new)
leaves see done failed old new before after (Ok each) steps both = record {
  passes = λ e. subst (λ x. done (see old.now) (see x)) (sym (steps.passes e).now) both.0;
  fails = λ e. subst (λ x. failed (see old.now) (see x)) (sym (steps.fails e).now) both.1;
  burnt = λ e. stays_same see old new (steps.burnt e);
  unmade = λ e. stays_same see old new (steps.unmade e);
}
leaves see done failed old new before after (Err m) steps both = record {
  passes = λ e. absurd (some_none Passes _ e (steps.none refl));
  fails = λ e. absurd (some_none Fails _ e (steps.none refl));
  burnt = λ e. stays_same see old new (steps.burnt e);
  unmade = λ e. stays_same see old new (steps.unmade e);
}
