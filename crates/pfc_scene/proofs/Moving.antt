-- What moves keep, one after the other.
use Rattle.std.proofs.Common.{◌≡◌, inl, inr, ℕ, ◌+◌, ◌<◌, ◌≤◌, List, length, map, get_or, set, refl, subst, sym, ap, ◌∙◌, arith}
use Rattle.std.proofs.Math.Seq.{map-set_same}
use Rattle.pfc_world.specs.Counts.{Rose, RoseBy}
use Rattle.pfc_actor.specs.Backings.{DepotView}
use Rattle.pfc_actor.specs.Clients.{ClientView}
use Rattle.pfc_scene.specs.Scenes.{SceneView, Moves, Plays, Owes, settled, who}
use Rattle.pfc_scene.proofs.Following.{goes_on_then, goes_still}

pub moves_not : (v : SceneView) → Moves v v
moves_not v = record { same = refl; clients_are = refl; writers_are = refl; block_size = refl; capacity = refl; lent = λ d h. h; settled_is = refl; goes_on = goes_still v v refl refl refl }

-- the scene as the fields say it
pub moves_from : (u v w : SceneView) → u ≡ v → Moves u w → Moves v w
moves_from u v w e m = subst (λ (x : SceneView). Moves x w) e m

pub moves_on : (u v w : SceneView) → Moves u v → Moves v w → Moves u w
moves_on u v w m n = record {
  same = n.same ∙ m.same;
  clients_are = n.clients_are ∙ m.clients_are;
  writers_are = n.writers_are ∙ m.writers_are;
  block_size = n.block_size ∙ m.block_size;
  capacity = n.capacity ∙ m.capacity;
  lent = λ d h. n.lent d (m.lent d h);
  settled_is = n.settled_is ∙ m.settled_is;
  goes_on = goes_on_then u v w n.same m.goes_on n.goes_on;
}

pub moves_plays : (v v2 : SceneView) (d : DepotView) → Moves v v2 → Plays v d v2 d
moves_plays v v2 d m = record {
  same = m.same;
  clients_are = m.clients_are;
  writers_are = m.writers_are;
  block_size = m.block_size;
  capacity = m.capacity;
  paid = λ f h. subst (λ n. RoseBy f n d.faults) (sym m.settled_is) h;
}

pub plays_not : (v : SceneView) (d : DepotView) → Plays v d v d
plays_not v d = record { same = refl; clients_are = refl; writers_are = refl; block_size = refl; capacity = refl; paid = λ f h. h }

pub plays_on : (u v w : SceneView) (d e f : DepotView) → Plays u d v e → Plays v e w f → Plays u d w f
plays_on u v w d e f m n = record {
  same = n.same ∙ m.same;
  clients_are = n.clients_are ∙ m.clients_are;
  writers_are = n.writers_are ∙ m.writers_are;
  block_size = n.block_size ∙ m.block_size;
  capacity = n.capacity ∙ m.capacity;
  paid = λ x h. n.paid x (m.paid x h);
}

pub moves_owes : (v v2 : SceneView) → Moves v v2 → Owes v v2
moves_owes v v2 m = record {
  same = m.same;
  clients_are = m.clients_are;
  writers_are = m.writers_are;
  block_size = m.block_size;
  capacity = m.capacity;
  lent = m.lent;
  settled_most = let is = m.settled_is in omega (arith, is);
  goes_on = m.goes_on;
}

pub owes_after : (u v w : SceneView) → Moves u v → Owes v w → Owes u w
owes_after u v w m n = record {
  same = n.same ∙ m.same;
  clients_are = n.clients_are ∙ m.clients_are;
  writers_are = n.writers_are ∙ m.writers_are;
  block_size = n.block_size ∙ m.block_size;
  capacity = n.capacity ∙ m.capacity;
  lent = λ d h. n.lent d (m.lent d h);
  settled_most = let is = m.settled_is in let most = n.settled_most in omega (arith, is, most);
  goes_on = goes_on_then u v w n.same m.goes_on n.goes_on;
}

pub owes_then : (u v w : SceneView) → Owes u v → Moves v w → Owes u w
owes_then u v w m n = record {
  same = n.same ∙ m.same;
  clients_are = n.clients_are ∙ m.clients_are;
  writers_are = n.writers_are ∙ m.writers_are;
  block_size = n.block_size ∙ m.block_size;
  capacity = n.capacity ∙ m.capacity;
  lent = λ d h. n.lent d (m.lent d h);
  settled_most = let is = n.settled_is in let most = m.settled_most in omega (arith, is, most);
  goes_on = goes_on_then u v w n.same m.goes_on n.goes_on;
}

-- the failed call that is settled more is counted
rose_one : (f n n2 a b : ℕ) → n2 ≤ n + 1 → a ≤ b → Rose a b → RoseBy f n a → RoseBy f n2 b
rose_one f n n2 a b most later (inr last) paid = inr last
rose_one f n n2 a b most later (inl rose) (inl paid) = inl (omega (arith, most, rose, paid))
rose_one f n n2 a b most later (inl rose) (inr last) = inr (omega (arith, last, later))

pub owes_plays : (v v2 : SceneView) (d d2 : DepotView) → Owes v v2 → d.faults ≤ d2.faults → Rose d.faults d2.faults → Plays v d v2 d2
owes_plays v v2 d d2 m later rose = record {
  same = m.same;
  clients_are = m.clients_are;
  writers_are = m.writers_are;
  block_size = m.block_size;
  capacity = m.capacity;
  paid = λ f h. rose_one f (settled v.cores v.backings) (settled v2.cores v2.backings) d.faults d2.faults m.settled_most later rose h;
}

-- the depot's count rose, or stayed
rose_more : (f n a b : ℕ) → a ≤ b → RoseBy f n a → RoseBy f n b
rose_more f n a b later (inl paid) = inl (omega (arith, later, paid))
rose_more f n a b later (inr last) = inr (omega (arith, last, later))

pub counts_plays : (v : SceneView) (d d2 : DepotView) → d.faults ≤ d2.faults → Plays v d v d2
counts_plays v d d2 later = record { same = refl; clients_are = refl; writers_are = refl; block_size = refl; capacity = refl; paid = λ f h. rose_more f (settled v.cores v.backings) d.faults d2.faults later h }

-- one client is another of the same number, which was asked the same
pub same_clients : (clients : List ClientView) (j : ℕ) (a a2 : ClientView) → a ≡ get_or clients j a → a2.book.number ≡ a.book.number → a2.book.asked ≡ a.book.asked → map who (set clients j a2) ≡ map who clients
same_clients clients j a a2 ea number asked = map-set_same who clients j a2 a (ap (λ n. (n, a2.book.asked)) number ∙ ap (λ q. (a.book.number, q)) asked ∙ ap who ea)

-- who is there stays there
pub client_low : (u v : SceneView) (j : ℕ) → Moves u v → j < length u.clients → j < length v.clients
client_low u v j m l = let same = m.clients_are in omega (arith, same, l)

pub writer_low : (u v : SceneView) (w : ℕ) → Moves u v → w < length u.writers → w < length v.writers
writer_low u v w m l = let same = m.writers_are in omega (arith, same, l)
