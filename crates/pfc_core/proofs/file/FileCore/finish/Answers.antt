use Rattle.std.proofs.Common.{◌∙◌, ap, subst, arith, List}
use Rattle.std.specs.Prelude.{sum_by}
use Rattle.std.proofs.lemmas.List.Sums.{sum_by-append}
use Rattle.pfc_core.specs.Marks.{Mark, sees}
use Rattle.pfc_core.specs.View.{CoreView}
use Rattle.pfc_core.specs.Finishes.{ReleasesAll, served_entries}
use Rattle.pfc_core.proofs.Releasing.{all_kept, all_known, all_left, disks_kept, disks_known, disks_entries}
use Rattle.pfc_core.proofs.file.FileCore.finish.Goals as goal

pub returns-clause-rest : goal.returns-clause-rest
returns-clause-rest g c = let mid = c.release_all.new.self in let new = c.end_disks.new.self in
    disks_kept mid c.args.disks.now.items new c.end_disks.ensures.disks
    ∙ ap (λ (v : CoreView). record v { entries = new.entries; out = new.out }) (all_kept c.end.new.self _ mid c.release_all.ensures)
    ∙ ap (λ (v : CoreView). record v { entries = new.entries; out = new.out }) c.in_ok-end.ensures.ok.enters

pub returns-clause-known : goal.returns-clause-known
returns-clause-known g c = λ within w. let ends = c.in_ok-end.ensures.ok in let mid = c.release_all.new.self in let new = c.end_disks.new.self in
    let all = subst (λ (l : List Mark). ReleasesAll c.end.new.self l mid) c.deref.ensures.value c.release_all.ensures in
    let unpinned = all_known c.end.new.self c.args.pins.now.items mid all (λ m. omega (arith, within m, ends.loses (sees m))) in
    let ended = disks_known mid c.args.disks.now.items new c.end_disks.ensures.disks (λ m. omega (arith, within m, ends.loses (sees m), unpinned (sees m))) in
    omega (arith, ended w, unpinned w, ends.loses w)

pub returns-clause-entries : goal.returns-clause-entries
returns-clause-entries g c = λ w none. let ends = c.in_ok-end.ensures.ok in let mid = c.release_all.new.self in let new = c.end_disks.new.self in
    let all = subst (λ (l : List Mark). ReleasesAll c.end.new.self l mid) c.deref.ensures.value c.release_all.ensures in
    ap (sum_by w) (disks_entries mid c.args.disks.now.items new c.end_disks.ensures.disks)
    ∙ all_left c.end.new.self c.args.pins.now.items mid all w none
    ∙ ap (λ (v : CoreView). sum_by w v.entries) ends.enters
    ∙ sum_by-append w c.args.self.now.entries (served_entries c.args.reading.client c.args.served)
