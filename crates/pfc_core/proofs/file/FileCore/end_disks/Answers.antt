use Rattle.std.proofs.Common.{◌≡◌, sym, ap, ◌∙◌, subst, refl, arith, List, []}
use Rattle.std.specs.Prelude.{reverse}
use Rattle.std.proofs.lemmas.List.{reverse-reverse}
use Rattle.pfc_core.specs.Finishes.{ReleasesDisks}
use Rattle.pfc_core.specs.Marks.{Mark}
use Rattle.pfc_core.proofs.Outs.{nil_of}
use Rattle.pfc_core.proofs.Releasing.{ends_disk_of, ends_first}
use Rattle.pfc_core.proofs.file.FileCore.end_disks.Goals as goal

pub loop-disk-init : goal.loop-disk-init
loop-disk-init g c = λ new all. subst (λ (l : List Mark). ReleasesDisks c.args.self.now l new) (ap reverse c.reverse.ensures.items ∙ reverse-reverse c.args.disks.now.items) all

pub loop-disk-smaller : goal.loop-disk-smaller
loop-disk-smaller g c = let less = c.in-Some.ensures.len in omega (arith, less)

pub loop-disk-preserved : goal.loop-disk-preserved
loop-disk-preserved g c = λ new all.
    let p : Mark = c.in-Some.disk in let mid = c.release_disk.new.self in let rest : List Mark = c.pop.new.self.items in let e = c.release_disk.ensures in
    let one = ends_disk_of c.loop-disk.self p mid c.release_disk.result e.yes e.no e.same in
    c.loop-disk.invariant new (subst (λ (l : List Mark). ReleasesDisks c.loop-disk.self (reverse l) new) (sym c.in-Some.ensures.items) (ends_first c.loop-disk.self p rest mid new one all))

pub returns-clause-disks : goal.returns-clause-disks
returns-clause-disks g c =
    let gone = c.in_default.ensures.cases.0 in
    let none : c.loop-disk.disks.items ≡ [] = nil_of c.loop-disk.disks.items (omega (arith, gone)) in
    c.loop-disk.invariant c.loop-disk.self (subst (λ (l : List Mark). ReleasesDisks c.loop-disk.self (reverse l) c.loop-disk.self) (sym none) refl)
