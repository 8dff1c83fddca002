-- A volume that leaves a depot and comes back.
use Rattle.std.proofs.Common.{◌≡◌, ◌≢◌, ◌⊎◌, ℕ, ◌+◌, ◌-◌, ◌≤◌, List, refl, sym, ap, subst, ◌∙◌, inl, inr, arith, Bool, true, false}
use Rattle.std.specs.Prelude.{Option, Some, IsTrue, if◌then◌else◌, ◌==◌, min, max}
use Rattle.std.specs.Bool.{Decides}
use Rattle.std.specs.Str.{bytes_eq}
use Rattle.std.proofs.lemmas.Bool.{cases_lt, eq-eqb}
use Rattle.std.proofs.lemmas.Slice.Eq.{bytes_eq-Decides}
use Rattle.pfc_world.specs.Counts.{RoseBy, add_count, last_count}
use Rattle.pfc_world.specs.Depot.{AllSound, Fewer, FewerAtHome, Loses, Nothing, SameElsewhere, risen}
use Rattle.pfc_world.specs.Disk.{Disk, IsImage}
use Rattle.pfc_world.specs.Files.{Files}
use Rattle.pfc_world.specs.Info.{Info, IsMain}
use Rattle.pfc_world.specs.Run.{Run}
use Rattle.pfc_store.specs.Moments.{SoundSince}
use Rattle.pfc_actor.specs.Backings.{BackingView, Bare, DepotView, IsOutAs, IsSoundAtHome, PutsBack, ReturnsVolume, Stand, path_in}

decided : {P : Type 0} (r : Bool) → Decides r P → P ⊎ (P → ⊥)
decided true d = inl (d.0 refl)
decided false d = inr (λ x. let clash : false ≡ true = d.1 x in cc)

-- a path is this one or another
pub this_or_other : (path other : List ℕ) → (other ≡ path) ⊎ (other ≢ path)
this_or_other path other = decided (bytes_eq other path) (bytes_eq-Decides other path)

-- what holds at this path and at each other holds at all
pub at_each : {A : Type 0} (path : List ℕ) (f g : List ℕ → A) → g path ≡ f path → ((other : List ℕ) → other ≢ path → g other ≡ f other) → (other : List ℕ) → g other ≡ f other
at_each path f g here rest other = elim (this_or_other path other) [
  | inl same ↦ subst (λ (q : List ℕ). g q ≡ f q) (sym same) here
  | inr apart ↦ rest other apart
]

module _ (told told_data : Bool) (files : Files) (path : List ℕ) (D NewData : List ℕ → List ℕ → Type 0) (M NewMain : List ℕ → Option (List ℕ) → Type 0) where
  -- each other path is as it was, and this one is sound
  pub sound_at : IsSoundAtHome told told_data files D M → (IsTrue told → IsTrue told_data → AllSound files path (NewData path) (NewMain path)) → (IsTrue told_data → SameElsewhere path D M NewData NewMain) → IsSoundAtHome told told_data files NewData NewMain
  sound_at sound here rest t d other = elim (this_or_other path other) [
    | inl same ↦ subst (λ (q : List ℕ). AllSound files q (NewData q) (NewMain q)) (sym same) (here t d)
    | inr apart ↦ λ file is image main is_data is_main. sound t d other file is image main (((rest d other apart).0 image).0 is_data) (((rest d other apart).1 main).0 is_main)
  ]

  -- nothing is home at this one
  pub sound_away : IsSoundAtHome told told_data files D M → (IsTrue told_data → Nothing (NewData path) × Nothing (NewMain path)) → (IsTrue told_data → SameElsewhere path D M NewData NewMain) → IsSoundAtHome told told_data files NewData NewMain
  sound_away sound away rest = sound_at sound (λ t d file is image main is_data is_main. absurd ((away d).0 image is_data)) rest

  pub sound_fewer : IsSoundAtHome told told_data files D M → (IsTrue told_data → FewerAtHome D M NewData NewMain) → IsSoundAtHome told told_data files NewData NewMain
  sound_fewer sound fewer t d other file is image main is_data is_main = sound t d other file is image main ((fewer d other).0 image is_data) ((fewer d other).1 main is_main)

-- tests of fewer images
pub sound_less : (files : Files) (path : List ℕ) (D NewData : List ℕ → Type 0) (M NewMain : Option (List ℕ) → Type 0) → AllSound files path D M → Fewer D NewData × Fewer M NewMain → AllSound files path NewData NewMain
sound_less files path D NewData M NewMain sound fewer file is image main is_data is_main = sound file is image main (fewer.0 image is_data) (fewer.1 main is_main)

-- what was sound since a moment is so now
pub sound_now : (files : Files) (path copy : List ℕ) (disk disk_now : Run Disk) (info info_now : Run Info) → copy ≡ path → SoundSince files path disk disk_now info info_now → AllSound files copy (IsImage disk_now.now) (IsMain info_now.now)
sound_now files path copy disk disk_now info info_now same sound =
    subst (λ (q : List ℕ). AllSound files q (IsImage disk_now.now) (IsMain info_now.now)) (sym same)
    (λ file is image main is_image is_main. sound file is image main (inl is_image) (inl is_main))

pub sound_along : (files : Files) (path copy : List ℕ) (D : List ℕ → Type 0) (M : Option (List ℕ) → Type 0) → copy ≡ path → AllSound files path D M → AllSound files copy D M
sound_along files path copy D M same sound = subst (λ (q : List ℕ). AllSound files q D M) (sym same) sound

-- ---- counts

added_by : (a n r l : ℕ) → (n ≤ r) ⊎ (l ≤ r) → (a + n ≤ max a (min (a + r) l)) ⊎ (l ≤ max a (min (a + r) l))
added_by a n r l (inr top) = inr (omega arith)
added_by a n r l (inl less) = elim (cases_lt l (a + r)) [ inl past ↦ inr (omega arith) | inr within ↦ inl (omega arith) ]

last_rise : (p x l : ℕ) → l ≤ x → x ≤ l → (if x == l then l else x - p) ≡ l
last_rise p x l low high = ap {B = ℕ} (λ (q : Bool). if q then l else x - p) (eq-eqb x l (omega arith))

rise_least : (p x l : ℕ) (q : Bool) → x ≤ l → x - p ≤ (if q then l else x - p)
rise_least p x l true high = omega arith
rise_least p x l false high = omega arith

risen_by : (p : ℕ × ℕ) (x y n l : ℕ) → x ≤ l → y ≤ l → (p.0 + p.1 + n ≤ x + y) ⊎ ((l ≤ x) ⊎ (l ≤ y)) →
    (n ≤ (if x == l then l else x - p.0) + (if y == l then l else y - p.1)) ⊎ (l ≤ (if x == l then l else x - p.0) + (if y == l then l else y - p.1))
risen_by p x y n l x_most y_most (inl covers) = inl (omega (arith, rise_least p.0 x l (x == l) x_most, rise_least p.1 y l (y == l) y_most))
risen_by p x y n l x_most y_most (inr (inl top)) = inr (omega (arith, last_rise p.0 x l top x_most))
risen_by p x y n l x_most y_most (inr (inr top)) = inr (omega (arith, last_rise p.1 y l top y_most))

pub returned : (path : List ℕ) (b : BackingView) (d d2 : DepotView) (x y : ℕ) → Loses path d.out d2.out → ((other : List ℕ) → other ≢ path → d2.lent other ≡ d.lent other) →
    d2.faults ≡ add_count d.faults (risen (d.lent path) x y) → d.lent path ≡ b.before → b.now ≡ (x, y) → x ≤ last_count → y ≤ last_count → ReturnsVolume path b d d2
returned path b d d2 x y loses elsewhere faults lent now x_most y_most =
    let sum : d2.faults ≡ add_count d.faults (risen b.before x y) = faults ∙ ap (λ (q : ℕ × ℕ). add_count d.faults (risen q x y)) lent in record {
      loses = loses;
      elsewhere = elsewhere;
      faults_are = sum ∙ ap (λ (q : ℕ × ℕ). add_count d.faults (risen b.before q.0 q.1)) (sym now);
      covers = λ n covers. subst (λ (k : ℕ). RoseBy d.faults n k) (sym sum)
          (added_by d.faults n (risen b.before x y) last_count (risen_by b.before x y n last_count x_most y_most
          (subst (λ (q : ℕ × ℕ). (b.before.0 + b.before.1 + n ≤ q.0 + q.1) ⊎ ((last_count ≤ q.0) ⊎ (last_count ≤ q.1))) now covers)));
    }

-- what a depot does with what stood there
pub put_nothing : (b : BackingView) (d : DepotView) → b.stand ≡ Bare → PutsBack (path_in b.stand) b d d
put_nothing b d bare = subst (λ (x : Stand). PutsBack (path_in x) b d d) (sym bare) (record { out_is = refl; lent_is = λ path. refl }, refl)

pub put_volume : (path : List ℕ) (b : BackingView) (d d2 : DepotView) → path_in b.stand ≡ Some path → (IsOutAs (Some path) b d → ReturnsVolume path b d d2) → IsOutAs (path_in b.stand) b d → PutsBack (path_in b.stand) b d d2
put_volume path b d d2 is returns out =
    subst (λ (o : Option (List ℕ)). PutsBack o b d d2) (sym is) (returns (subst (λ (o : Option (List ℕ)). IsOutAs o b d) is out))
