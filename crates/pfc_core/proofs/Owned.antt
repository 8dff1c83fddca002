-- Who began the flights that slots and pins are of, after a step.
use Rattle.std.proofs.Common.{◌≡◌, ◌≢◌, ℕ, ◌≤◌, List, [], ◌∷◌, ◌++◌, sym, refl, ap, ◌∙◌, arith, Bool, true, false, Option, Some, None, if◌then◌else◌, ◌==◌, eq-eqb, ne_eqb}
use mathlib.Core.Logic.{dite}
use native.Mathlib.Decide.{ℕ_discrete}
use Rattle.std.specs.Prelude.{IsFalse}
use Rattle.std.proofs.lemmas.Bool.{eqb-true}
use Rattle.std.proofs.lemmas.List.Sums.{sum_by-le-sum_by}
use Rattle.pfc_log.specs.declared.entry.Entry.{Entry}
use Rattle.pfc_log.specs.Owners.{owner, is_client}
use Rattle.pfc_log.proofs.Tickets.{owner_more}
use Rattle.pfc_core.specs.declared.slot.Slot.{Slot}
use Rattle.pfc_core.specs.declared.held.Held.{Held}
use Rattle.pfc_core.specs.Held.{Puts, Takes}
use Rattle.pfc_core.specs.Owned.{misowned, IsOwned}
use Rattle.pfc_core.proofs.Tied.{by_bool, here, there}

client_is : (n : ℕ) (o : Option ℕ) → is_client n o ≡ true → o ≡ Some n
client_is n None h = absurd cc
client_is n (Some m) h = ap (λ (k : ℕ). Some k) (eqb-true m n h)

-- another client is not the owner
pub client_not : (n m : ℕ) (o : Option ℕ) → o ≡ Some m → m ≢ n → IsFalse (is_client n o)
client_not n m o is apart = ap (is_client n) is ∙ ne_eqb m n apart

pub owned_of : (es : List Entry) (p : Held) → owner p.flight es ≡ Some p.owner → misowned es p ≡ 0
owned_of es p h = ap (λ (q : Bool). if q then 0 else 1) (ap (is_client p.owner) h ∙ eq-eqb p.owner p.owner refl)

owned_is : (es : List Entry) (p : Held) → misowned es p ≡ 0 → owner p.flight es ≡ Some p.owner
owned_is es p h = by_bool (is_client p.owner (owner p.flight es))
    (λ yes. client_is p.owner (owner p.flight es) yes)
    (λ no. let one : misowned es p ≡ 1 = ap {B = ℕ} (λ (q : Bool). if q then 0 else 1) no in absurd (omega arith))

one_at_most : (q : Bool) → (if q then 0 else 1) ≤ 1
one_at_most true = omega arith
one_at_most false = omega arith

misowned_more : (es : List Entry) (e : Entry) (p : Held) → misowned (es ++ e ∷ []) p ≤ misowned es p
misowned_more es e p = by_bool (is_client p.owner (owner p.flight es))
    (λ yes. let none = owned_of (es ++ e ∷ []) p (owner_more es e p.flight p.owner (client_is p.owner (owner p.flight es) yes)) in omega (arith, none))
    (λ no. let one : misowned es p ≡ 1 = ap {B = ℕ} (λ (q : Bool). if q then 0 else 1) no in let most = one_at_most (is_client p.owner (owner p.flight (es ++ e ∷ []))) in omega (arith, one, most))

-- whatever is entered
pub owned_more : (es : List Entry) (e : Entry) (slots : ℕ → Option Slot) (pins : List Held) → IsOwned es slots pins → IsOwned (es ++ e ∷ []) slots pins
owned_more es e slots pins was = record {
  slot = λ i s at. owner_more es e s.ticket s.client (was.slot i s at);
  pin = let less = sum_by-le-sum_by (misowned (es ++ e ∷ [])) (misowned es) pins (misowned_more es e) in omega (arith, was.pin, less);
}

-- one slot is another
pub owned_at : (es : List Entry) (b : ℕ) (o : Option Slot) (old new : ℕ → Option Slot) (pins : List Held) → IsOwned es old pins → ((i : ℕ) → new i ≡ (if b == i then o else old i))
    → ((s : Slot) → o ≡ Some s → owner s.ticket es ≡ Some s.client) → IsOwned es new pins
owned_at es b o old new pins was new_is fresh = record {
  slot = λ i s at. dite (ℕ_discrete b i)
      (λ h. fresh s (sym (here b i o (old i) (new i) (new_is i) h) ∙ at))
      (λ n. was.slot i s (sym (there b i o (old i) (new i) (new_is i) n) ∙ at));
  pin = was.pin;
}

same_owner : (es : List Entry) (x y s : Slot) → y.ticket ≡ x.ticket → y.client ≡ x.client → owner x.ticket es ≡ Some x.client → Some y ≡ Some s → owner s.ticket es ≡ Some s.client
same_owner es x y s ticket client own h = let is : y ≡ s = cc in
    ap (λ (k : Slot). owner k.ticket es) (sym is) ∙ ap (λ (t : ℕ). owner t es) ticket ∙ own ∙ ap (λ (n : ℕ). Some n) (sym client) ∙ ap (λ (k : Slot). Some k.client) is

-- one slot changes, but neither its flight nor whose it is
pub owned_change : (es : List Entry) (b : ℕ) (x y : Slot) (old new : ℕ → Option Slot) (pins : List Held) → IsOwned es old pins → old b ≡ Some x → y.ticket ≡ x.ticket → y.client ≡ x.client
    → ((i : ℕ) → new i ≡ (if b == i then Some y else old i)) → IsOwned es new pins
owned_change es b x y old new pins was at ticket client new_is = owned_at es b (Some y) old new pins was new_is (λ s h. same_owner es x y s ticket client (was.slot b x at) h)

-- one slot goes
pub owned_gone : (es : List Entry) (b : ℕ) (old new : ℕ → Option Slot) (pins : List Held) → IsOwned es old pins → ((i : ℕ) → new i ≡ (if b == i then None else old i)) → IsOwned es new pins
owned_gone es b old new pins was new_is = owned_at es b None old new pins was new_is (λ s h. absurd cc)

pub owned_put : (es : List Entry) (p : Held) (slots : ℕ → Option Slot) (pins more : List Held) → IsOwned es slots pins → Puts pins p more → owner p.flight es ≡ Some p.owner → IsOwned es slots more
owned_put es p slots pins more was put own = record { slot = was.slot; pin = omega (arith, was.pin, put.each (misowned es), owned_of es p own) }

pub owned_take : (es : List Entry) (p : Held) (slots : ℕ → Option Slot) (pins more : List Held) → IsOwned es slots pins → Takes p pins more → IsOwned es slots more
owned_take es p slots pins more was take = record { slot = was.slot; pin = omega (arith, was.pin, take.each (misowned es)) }

-- the owner of a pin that is out
pub owned_pin : (es : List Entry) (p : Held) (slots : ℕ → Option Slot) (pins more : List Held) → IsOwned es slots pins → Takes p pins more → owner p.flight es ≡ Some p.owner
owned_pin es p slots pins more was take = owned_is es p (omega (arith, was.pin, take.each (misowned es)))
