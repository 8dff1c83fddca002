-- The files of rows have the lengths that are listed, and a slice of rows is rows.
use Rattle.std.specs.Prelude.{◌≡◌, ℕ, ◌+◌, ◌-◌, ◌%◌, ◌<◌, ◌≤◌, ◌^◌, List, [], ◌∷◌, ◌++◌, length, take, drop, refl, true, false, IsSomeAnd, Some, option_map, ◌==◌, if◌then◌else◌}
use Rattle.std.proofs.Common.{zero, suc, arith, ap, sym, ◌∙◌}
use Rattle.std.specs.Cmp.Lexicographic.{pointwise}
use Rattle.pfc_base.specs.Block.{slice_of}
use Rattle.pfc_world.specs.Files.{file_at, size_at}
use Rattle.pfc_memory.specs.Rows.{row_bytes, length-row_bytes, Sizes, size_in, with_rows, AreSmall}

pub size_at-with_rows : (sizes : Sizes) (path : List ℕ) → size_at (with_rows sizes) path ≡ size_in sizes path
size_at-with_rows [] path = refl
size_at-with_rows (entry ∷ sizes) path =
    elim (pointwise ◌==◌ path entry.0) as (λ v. option_map length (if v then Some (row_bytes 0 entry.1) else file_at (with_rows sizes) path) ≡ (if v then Some entry.1 else size_in sizes path)) [
      | true ↦ ap Some (length-row_bytes 0 entry.1)
      | false ↦ size_at-with_rows sizes path
    ]

pub drop-row_bytes : (k from n : ℕ) → drop k (row_bytes from n) ≡ row_bytes (from + k) (n - k)
unfolding row_bytes
drop-row_bytes zero from n = let e : from + 0 ≡ from = omega arith in let f : n - 0 ≡ n = omega arith in rw (e, f) refl
drop-row_bytes (suc k) from zero = let f : 0 - suc k ≡ 0 = omega arith in rw f refl
drop-row_bytes (suc k) from (suc n) =
    let e : from + suc k ≡ (from + 1) + k = omega arith in
    let f : suc n - suc k ≡ n - k = omega arith in
    rw (e, f) (drop-row_bytes k (from + 1) n)

pub take-row_bytes : (k from n : ℕ) → k ≤ n → take k (row_bytes from n) ≡ row_bytes from k
unfolding row_bytes
take-row_bytes zero from n h = refl
take-row_bytes (suc k) from zero h = absurd (omega arith)
take-row_bytes (suc k) from (suc n) h = ap (λ l. (from % 251) ∷ l) (take-row_bytes k (from + 1) n (omega arith))

pub row_bytes-more : (n from : ℕ) → row_bytes from (n + 1) ≡ row_bytes from n ++ ((from + n) % 251) ∷ []
unfolding row_bytes
row_bytes-more zero from = let e : from + 0 ≡ from = omega arith in rw e refl
row_bytes-more (suc n) from =
    let e : suc n + 1 ≡ suc (n + 1) = omega arith in
    let f : from + suc n ≡ (from + 1) + n = omega arith in
    rw (e, f) (ap (λ l. (from % 251) ∷ l) (row_bytes-more n (from + 1)))

pub slice_of-row_bytes : (n at len : ℕ) → at + len ≤ n → slice_of (row_bytes 0 n) at len ≡ row_bytes at len
slice_of-row_bytes n at len h =
    let e : 0 + at ≡ at = omega arith in
    ap (take len) (drop-row_bytes at 0 n) ∙ (rw e (take-row_bytes len at (n - at) (omega arith)))

-- a range that lies in a file of rows holds rows
pub rows-hold : (sizes : Sizes) (path : List ℕ) (at len : ℕ) → AreSmall sizes →
    IsSomeAnd (file_at (with_rows sizes) path) (λ file. at + len ≤ length file) →
    (at + len < 2 ^ 44) × IsSomeAnd (file_at (with_rows sizes) path) (λ file. (at + length (row_bytes at len) ≤ length file) × (row_bytes at len ≡ slice_of file at (length (row_bytes at len))))
rows-hold [] path at len small lies = absurd lies
rows-hold (entry ∷ sizes) path at len small lies =
    (elim (pointwise ◌==◌ path entry.0) as (λ v.
    IsSomeAnd (if v then Some (row_bytes 0 entry.1) else file_at (with_rows sizes) path) (λ file. at + len ≤ length file) →
    (at + len < 2 ^ 44) × IsSomeAnd (if v then Some (row_bytes 0 entry.1) else file_at (with_rows sizes) path) (λ file. (at + length (row_bytes at len) ≤ length file) × (row_bytes at len ≡ slice_of file at (length (row_bytes at len))))) [
      | true ↦ λ lies.
          let n = length-row_bytes 0 entry.1 in
          let m = length-row_bytes at len in
          (omega (arith, n, lies, small.0), (omega (arith, n, m, lies), rw m (sym (slice_of-row_bytes entry.1 at len (omega (arith, n, lies))))))
      | false ↦ rows-hold sizes path at len small.1
    ]) lies

pub ruleset row_laws = (length-row_bytes, size_at-with_rows)
