use Rattle.std.proofs.Common.{◌≡◌, take, subst, sym, ap, ◌∙◌, ◌+◌, ◌++◌, ◌∷◌, [], ℕ, List, T, Vec, Global}
use Rattle.std.proofs.lemmas.List.{take_all}
use Rattle.pfc_memory.specs.Depot.{Lists}
use Rattle.pfc_memory.proofs.Listings.{Listing, listed_more, skipped_more}
use Rattle.pfc_memory.proofs.depot.held_paths.Goals.{then-may_hold+in_ok-push, else-may_hold}
use Rattle.pfc_memory.proofs.depot.held_paths.Goals as goal

pub loop-volume-preserved : goal.loop-volume-preserved
loop-volume-preserved c =
    let volumes = c.args.volumes.now in
    let i = c.loop-volume.volume-index in
    let v = c.volume-item.result in
    let paths = c.loop-volume.paths.items in
    elim c.if-may_hold.branch [
      | then-may_hold+in_ok-push w ↦
          let more = listed_more volumes i v paths c.requires c.loop-volume-test.true c.volume-item.is c.loop-volume.invariant (c.may_hold.ensures.0 w.if-may_hold.true) in
          let pushed = ap (λ (list : Vec (List ℕ) Global). list.items) w.paths-is ∙ w.in_ok-push.ensures.items ∙ ap (λ path. paths ++ path ∷ []) w.copy.ensures in
          subst (λ list. Listing (take (i + 1) volumes) list) (sym pushed) more
      | else-may_hold w ↦
          let more = skipped_more volumes i v paths c.requires c.loop-volume-test.true c.volume-item.is c.loop-volume.invariant (λ has. absurd (subst (λ t. T t) (sym (c.may_hold.ensures.1 has) ∙ w.if-may_hold.false) tt)) in
          subst (λ (list : Vec (List ℕ) Global). Listing (take (i + 1) volumes) list.items) (sym w.paths-is) more
    ]

pub returns-clause-held : goal.returns-clause-held
returns-clause-held c = subst (λ l. Lists l c.loop-volume.paths.items) (take_all c.loop-volume.volume-index c.args.volumes.now c.loop-volume-test.false) c.loop-volume.invariant.lists
