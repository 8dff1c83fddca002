use Rattle.std.proofs.Common.{◌≡◌, ◌+◌, ◌∙◌, ap, sym, subst, List, [], ◌∷◌, ◌++◌, take}
use Rattle.std.proofs.lemmas.List.{take_more}
use Rattle.pfc_core.specs.Marks.{Mark}
use Rattle.pfc_core.specs.Finishes.{ReleasesAll}
use Rattle.pfc_core.proofs.Releasing.{releases_of, releases_more}
use Rattle.pfc_core.proofs.file.FileCore.release_all.Goals as goal

pub loop-pin-preserved : goal.loop-pin-preserved
loop-pin-preserved g c = let pins = c.args.pins.now in let k = c.loop-pin.pin-index in let p = c.pin-item.result in
    let more : take (k + 1) pins ≡ take k pins ++ p ∷ [] = take_more pins k p c.loop-pin-test.true ∙ ap (λ (q : Mark). take k pins ++ q ∷ []) (sym c.pin-item.is) in
    let one = releases_of c.loop-pin.self p c.release.new.self c.release.result c.release.ensures.yes c.release.ensures.no c.release.ensures.same in
    subst (λ (l : List Mark). ReleasesAll c.args.self.now l c.release.new.self) (sym more) (releases_more c.args.self.now (take k pins) p c.loop-pin.self c.release.new.self c.loop-pin.invariant one)
