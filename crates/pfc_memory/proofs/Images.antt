-- Devices of which a crash leaves one image.
use Rattle.std.proofs.Common.{◌≡◌, ◌↔◌, ◌⊎◌, inl, inr, ℕ, suc, ◌<◌, ◌≤◌, true, false, List, [], Option, Some, None, length, get_or, refl, sym, subst, ap, ◌∙◌, arith, T}
use Rattle.std.proofs.lemmas.List.{ext_get_or}
use Rattle.pfc_world.specs.Disk.{Disk, IsImage, Firm, Loose, not_settled}
use Rattle.pfc_world.specs.Info.{Info, IsMain}
use Rattle.pfc_memory.specs.Depot.{IsEmptied, IsBare, LeavesOne}

-- what is read is an image, and of a settled device the only one
reads_image : (disk : Disk) → IsImage disk disk.reads
reads_image disk = record { long = λ p below firm. below; kept = λ p below firm. refl; past = λ p past below. absurd (omega (arith, past, below)) }

settled_image : (disk : Disk) (image : List ℕ) → ((p : ℕ) → Firm disk p) → IsImage disk image → image ≡ disk.reads
settled_image disk image firm one =
    let short : length disk.reads < length image → ⊥ = λ more. absurd (subst (λ t. T t) (sym (one.past (length disk.reads) (omega arith) more) ∙ firm (length disk.reads)) tt) in
    let long : length image < length disk.reads → ⊥ = λ less. absurd (omega (arith, one.long (length image) less (firm (length image)))) in
    let same : length image ≡ length disk.reads = omega (arith, short, long) in
    ext_get_or 0 image disk.reads same (λ p below. one.kept p (omega (arith, below, same)) (firm p))

pub settled_one : (old new : Disk) → ((p : ℕ) → Firm new p) → IsImage old new.reads → LeavesOne (λ image. IsImage old image) (λ image. IsImage new image)
settled_one old new firm before = record { left = new.reads; before = before; one = λ other. (settled_image new other firm, λ same. subst (λ image. IsImage new image) (sym same) (reads_image new)) }

pub empty_one : (disk : Disk) → disk.reads ≡ [] → ((p : ℕ) → Firm disk p) → IsEmptied (λ image. IsImage disk image)
empty_one disk empty firm image = (λ one. settled_image disk image firm one ∙ empty, λ same. subst (λ x. IsImage disk x) (sym (same ∙ sym empty)) (reads_image disk))

pub bare_one : (info : Info) → info.shown ≡ None → ((main : Option (List ℕ)) → IsMain info main → main ≡ None) → IsBare (λ main. IsMain info main)
bare_one info shown none main = (none main, λ same. inl (same ∙ sym shown))

pub main_one : (old new : Info) → IsMain old new.shown → ((main : Option (List ℕ)) → IsMain new main → main ≡ new.shown) → LeavesOne (λ main. IsMain old main) (λ main. IsMain new main)
main_one old new before one = record { left = new.shown; before = before; one = λ other. (one other, λ same. inl same) }
