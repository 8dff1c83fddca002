-- What is known of the job that a writer is at.
use Rattle.std.proofs.Common.{◌≡◌, ℕ, ◌<◌, List, length, get_or, set, subst, sym, ap, ◌∙◌, true, false}
use Rattle.std.specs.Prelude.{option_map, Option, Some, IfSome}
use Rattle.std.proofs.lemmas.List.{get_or_default, get_or-set_same}
use Rattle.pfc_writer.specs.Writer.{Task}
use Rattle.pfc_actor.specs.Backings.{BackingView, Stand, Bare, Taken, Open, Lent, IsOpen, written_in}
use Rattle.pfc_scene.specs.Queues.{MayGoOn}
use Rattle.pfc_scene.specs.Scenes.{SceneView}
use Rattle.pfc_scene.proofs.Queued.{one_value}

-- ---- when it may go on

-- its turn isn't over, or its loan is given back
pub may_by_phase : (backings : List BackingView) (x : Option Task) → option_map (λ (t : Task). t.returning) x ≡ Some false → MayGoOn backings x
may_by_phase backings x phase task e is returning low =
    let over : true ≡ false = one_value true false (ap Some (sym returning) ∙ sym (ap (option_map (λ (t : Task). t.returning)) is) ∙ phase) in absurd cc

open_written : (s : Stand) → IsOpen s → IfSome (written_in s) (λ block. ⊥)
open_written Bare h = absurd h
open_written (Taken path size) h = absurd h
open_written (Open path size k) h = tt
open_written (Lent mark done) h = absurd h

-- no loan of its core is out
pub may_by_open : (backings : List BackingView) (x : Option Task) (i : ℕ) → option_map (λ (t : Task). t.job.instance) x ≡ Some i → ((e : BackingView) → IsOpen (get_or backings i e).stand) → MayGoOn backings x
may_by_open backings x i of opens task e is returning low =
    let here : task.job.instance ≡ i = one_value task.job.instance i (sym (ap (option_map (λ (t : Task). t.job.instance)) is) ∙ of) in
    subst (λ n. IfSome (written_in (get_or backings n e).stand) (λ block. ⊥)) (sym here) (open_written (get_or backings i e).stand (opens e))

-- ---- as the fields of the scene say it

-- what is said of the writer at a place is said of the one that is read there
pub may_at : (u v : SceneView) (w : ℕ) (x : Option Task) → u ≡ v → x ≡ get_or u.writers w x → ((d : Option Task) → MayGoOn v.backings (get_or v.writers w d)) → MayGoOn u.backings x
may_at u v w x same ex may =
    subst (MayGoOn u.backings) (sym ex) (subst (λ (s : SceneView). (d : Option Task) → MayGoOn s.backings (get_or s.writers w d)) (sym same) may x)

pub task_at : {Y : Type 0} (f : Task → Y) (y : Option Y) (u v : SceneView) (w : ℕ) (x : Option Task) → u ≡ v → x ≡ get_or u.writers w x → ((d : Option Task) → option_map f (get_or v.writers w d) ≡ y) → option_map f x ≡ y
task_at f y u v w x same ex is = ap (option_map f) ex ∙ subst (λ (s : SceneView). (d : Option Task) → option_map f (get_or s.writers w d) ≡ y) (sym same) is x

-- and the other way round
pub at_task : {Y : Type 0} (f : Task → Y) (y : Option Y) (u v : SceneView) (w : ℕ) (x : Option Task) → u ≡ v → w < length v.writers → x ≡ get_or u.writers w x → option_map f x ≡ y → (d : Option Task) → option_map f (get_or v.writers w d) ≡ y
at_task f y u v w x same low ex is d =
    subst (λ (s : SceneView). option_map f (get_or s.writers w d) ≡ y) same
    (ap (option_map f) (sym (ex ∙ get_or_default u.writers w x d (subst (λ (s : SceneView). w < length s.writers) (sym same) low))) ∙ is)

-- where the writers stay the same
pub same_writers : {Y : Type 0} (f : Task → Y) (y : Option Y) (xs ys : List (Option Task)) (w : ℕ) → ys ≡ xs → ((d : Option Task) → option_map f (get_or xs w d) ≡ y) → (d : Option Task) → option_map f (get_or ys w d) ≡ y
same_writers f y xs ys w same is d = ap (λ (l : List (Option Task)). option_map f (get_or l w d)) same ∙ is d

-- the loan is home
pub open_there : (backings : List BackingView) (i : ℕ) (b2 : BackingView) → i < length backings → IsOpen b2.stand → (e : BackingView) → IsOpen (get_or (set backings i b2) i e).stand
open_there backings i b2 li opens e = subst (λ (b : BackingView). IsOpen b.stand) (sym (get_or-set_same backings i b2 e li)) opens
