-- A line more that a client is asked.
use Rattle.std.proofs.Common.{◌≡◌, ◌≢◌, ℕ, zero, suc, ◌<◌, List, [], ◌∷◌, ◌++◌, length, map, get_or, set, refl, sym, ap, ◌∙◌, arith, Bool, true, false, if◌then◌else◌, ◌==◌, eq-eqb, ne_eqb}
use Rattle.pfc_actor.specs.Clients.{ClientView}
use Rattle.pfc_scene.specs.Scenes.{AreUnique, who, asked_more}

passed : (n : ℕ) (line : List ℕ) (a : ClientView) → (a.book.number == n) ≡ false → asked_more n line (who a) ≡ who a
passed n line a other = ap (λ (q : Bool). if q then (a.book.number, a.book.asked ++ line ∷ []) else (a.book.number, a.book.asked)) other

-- no client has the number
pub none_asked : (n : ℕ) (line : List ℕ) (clients : List ClientView) → ((j : ℕ) (d : ClientView) → j < length clients → ((get_or clients j d).book.number == n) ≡ false) → map who clients ≡ map (asked_more n line) (map who clients)
none_asked n line [] none = refl
none_asked n line (a ∷ clients) none =
    ap (λ x. x ∷ map who clients) (sym (passed n line a (none 0 a (omega arith)))) ∙ ap (λ l. asked_more n line (who a) ∷ l) (none_asked n line clients (λ j d l. none (suc j) d (omega (arith, l))))

at_place : (n : ℕ) (line : List ℕ) (clients : List ClientView) (j : ℕ) (a2 : ClientView) → j < length clients → ((x : ℕ) (d : ClientView) → x < length clients → x ≢ j → ((get_or clients x d).book.number == n) ≡ false) →
    ((d : ClientView) → who a2 ≡ asked_more n line (who (get_or clients j d))) → map who (set clients j a2) ≡ map (asked_more n line) (map who clients)
at_place n line [] j a2 lj others is = absurd (omega (arith, lj))
at_place n line (a ∷ clients) zero a2 lj others is =
    ap (λ x. x ∷ map who clients) (is a) ∙ ap (λ l. asked_more n line (who a) ∷ l) (none_asked n line clients (λ x d l. others (suc x) d (omega (arith, l)) (λ e. omega (arith, e))))
at_place n line (a ∷ clients) (suc j) a2 lj others is =
    ap (λ x. x ∷ map who (set clients j a2)) (sym (passed n line a (others 0 a (omega arith) (λ e. omega (arith, e)))))
    ∙ ap (λ l. asked_more n line (who a) ∷ l) (at_place n line clients j a2 (omega (arith, lj)) (λ x d l far. others (suc x) d (omega (arith, l)) (λ e. far (omega (arith, e)))) is)

-- one client has it
pub one_asked : (n : ℕ) (line : List ℕ) (clients : List ClientView) (j : ℕ) (a2 : ClientView) → AreUnique clients → j < length clients → ((d : ClientView) → (get_or clients j d).book.number ≡ n) →
    ((d : ClientView) → who a2 ≡ (n, (get_or clients j d).book.asked ++ line ∷ [])) → map who (set clients j a2) ≡ map (asked_more n line) (map who clients)
one_asked n line clients j a2 unique lj number is =
    at_place n line clients j a2 lj
    (λ x d lx far. ne_eqb (get_or clients x d).book.number n (λ e. far (unique x j d lx lj (e ∙ sym (number d)))))
    (λ d. let found : ((get_or clients j d).book.number == n) ≡ true = eq-eqb _ _ (number d) in
    is d ∙ ap (λ m. (m, (get_or clients j d).book.asked ++ line ∷ [])) (sym (number d))
    ∙ sym (ap (λ (q : Bool). if q then ((get_or clients j d).book.number, (get_or clients j d).book.asked ++ line ∷ []) else ((get_or clients j d).book.number, (get_or clients j d).book.asked)) found))
