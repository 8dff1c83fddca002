-- The world of rows: byte j of each file is j mod 251.
use Rattle.std.specs.Prelude.{◌≡◌, ℕ, ◌+◌, ◌%◌, ◌<◌, ◌^◌, List, [], ◌∷◌, length, codes, refl, ⊤, Option, Some, None, ◌==◌, if◌then◌else◌}
use Rattle.std.proofs.Common.{zero, suc, arith, ap}
use Rattle.std.specs.Cmp.Lexicographic.{pointwise}
use Rattle.pfc_world.specs.Files.{Files, AreShort}

-- n bytes of the rows from a place on
unfoldable pub row_bytes : ℕ → ℕ → List ℕ
row_bytes from zero = []
row_bytes from (suc n) = (from % 251) ∷ row_bytes (from + 1) n

-- names and sizes
abbrev pub Sizes : Type 0
Sizes = List (List ℕ × ℕ)

abbrev pub size_in : Sizes → List ℕ → Option ℕ
size_in [] path = None
size_in (entry ∷ sizes) path = if pointwise ◌==◌ path entry.0 then Some entry.1 else size_in sizes path

-- files of rows of these sizes
abbrev pub with_rows : Sizes → Files
with_rows [] = []
with_rows (entry ∷ sizes) = (entry.0, row_bytes 0 entry.1) ∷ with_rows sizes

abbrev pub row_sizes : Sizes
row_sizes =
    (codes "/a", 8193) ∷ (codes "/a.cinfo", 3) ∷ (codes "/b", 20480) ∷ (codes "/e", 0)
    ∷ (codes "/w", 4096) ∷ (codes "/x", 4096) ∷ (codes "/y", 4096) ∷ (codes "/z", 4096) ∷ []

abbrev pub row_files : Files
row_files = with_rows row_sizes

-- each size is below 2 ^ 44
abbrev pub AreSmall : Sizes → Type 0
AreSmall [] = ⊤
AreSmall (entry ∷ sizes) = (entry.1 < 2 ^ 44) × AreSmall sizes

-- n bytes are n
pub length-row_bytes : (from n : ℕ) → length (row_bytes from n) ≡ n
unfolding row_bytes
length-row_bytes from zero = refl
length-row_bytes from (suc n) = ap suc (length-row_bytes (from + 1) n)

pub row_sizes-small : AreSmall row_sizes
row_sizes-small = (omega arith, (omega arith, (omega arith, (omega arith, (omega arith, (omega arith, (omega arith, (omega arith, tt))))))))

-- files of small sizes are short
pub short-with_rows : (sizes : Sizes) → AreSmall sizes → AreShort (with_rows sizes)
short-with_rows [] h = tt
short-with_rows (entry ∷ sizes) h = (omega (arith, length-row_bytes 0 entry.1, h.0), short-with_rows sizes h.1)
