-- A core that nobody used yet, and a core that isn't made.
use Rattle.std.proofs.Common.{◌≡◌, ℕ, ◌<◌, ◌≤◌, List, length, get_or, subst, sym, Bool, false}
use Rattle.std.specs.Prelude.{Result, Ok, Err, OnOk, is_err}
use Rattle.pfc_base.specs.Block.{count_of}
use Rattle.pfc_base.specs.Cinfo.{IsBlockSize}
use Rattle.pfc_log.specs.Lawful.{IsCached}
use Rattle.pfc_log.specs.Uncaching.{cause_of}
use Rattle.pfc_core.specs.View.{CoreView}
use Rattle.pfc_actor.specs.Backings.{BackingView, StandsFor}
use Rattle.pfc_scene.specs.Scenes.{SceneView, IsScene, IsCore, IsUnused, Moves}
use Rattle.pfc_scene.proofs.Backed.{backing_at}
use Rattle.pfc_scene.proofs.Making.{cached_cause, few_blocks}
use Rattle.pfc_scene.proofs.Moving.{moves_from, moves_not}

pub unused_at : (u v : SceneView) (i : ℕ) (c : CoreView) → u ≡ v → c ≡ get_or u.cores i c → ((e : CoreView) → IsUnused (get_or v.cores i e)) → IsUnused c
unused_at u v i c same ec unused =
    let before = subst (λ (x : SceneView). (e : CoreView) → IsUnused (get_or x.cores i e)) (sym same) unused in
    subst IsUnused (sym ec) (before c)

low_from : (u v : SceneView) (i : ℕ) → u ≡ v → i < length v.cores → i < length u.cores
low_from u v i same li = subst (λ (x : SceneView). i < length x.cores) (sym same) li

pub core_right : (u v : SceneView) (i : ℕ) (c : CoreView) → u ≡ v → IsScene u → i < length v.cores → c ≡ get_or u.cores i c → IsCore u.block_size i c
core_right u v i c same s li ec = subst (IsCore u.block_size i) (sym ec) (s.cast.places i c (low_from u v i same li))

pub block_size_at : (u v : SceneView) (i : ℕ) (c : CoreView) → u ≡ v → IsScene u → i < length v.cores → c ≡ get_or u.cores i c → IsBlockSize c.block_size
block_size_at u v i c same s li ec = subst IsBlockSize (sym (core_right u v i c same s li ec).block_size_is) s.cast.block_size

-- its file is cached, so it has few enough blocks
pub few_at : (u v : SceneView) (i : ℕ) (c : CoreView) → u ≡ v → IsScene u → i < length v.cores → c ≡ get_or u.cores i c → IsCached c.first → count_of c.size c.block_size ≤ 16777216
few_at u v i c same s li ec cached =
    let core = core_right u v i c same s li ec in let count = count_of c.size u.block_size in
    subst (λ (k : ℕ). count_of c.size k ≤ 16777216) (sym core.block_size_is) (few_blocks c.path count (cached_cause (cause_of c.path count) count c.first core.start cached))

pub stands_at : (u v : SceneView) (i : ℕ) (c : CoreView) (b : BackingView) → u ≡ v → IsScene u → i < length v.cores → c ≡ get_or u.cores i c → b ≡ get_or u.backings i b → StandsFor b.stand c
stands_at u v i c b same s li ec eb = (backing_at u.cores u.backings i c b s.backed (low_from u v i same li) ec eb).stands

-- ---- a core isn't made

-- what holds of a result that is no error
pub at_ok : {T E : Type 0} (r : Result T E) (b : Bool) (P : Type 0) → b ≡ is_err r → b ≡ false → OnOk r P → P
at_ok (Ok x) b P e f p = p
at_ok (Err y) b P e f p = absurd (cc (e, f))

-- the lists are what they were
pub unchanged_moves : (u v : SceneView) (cores : List CoreView) (backings : List BackingView) → u ≡ v → cores ≡ u.cores → backings ≡ u.backings → Moves v (record u { cores = cores; backings = backings })
unchanged_moves u v cores backings same ec eb =
    moves_from u v (record u { cores = cores; backings = backings }) same
    (subst (λ (cs : List CoreView). Moves u (record u { cores = cs; backings = backings })) (sym ec)
    (subst (λ (bs : List BackingView). Moves u (record u { backings = bs })) (sym eb) (moves_not u)))
