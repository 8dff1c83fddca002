use Rattle.std.proofs.Common.{List, ◌≡◌, ◌+◌, ◌-◌, ◌<◌, ℕ, length, take, drop, arith, take_all, add-one, length-drop}
use Rattle.pfc_base.specs.Pieces.{pieces_of-whole, pieces_of-first}
use Rattle.pfc_base.proofs.pieces.next_piece.Goals as goal

pub returns-then-i-bytes : goal.returns-then-i-bytes
returns-then-i-bytes c = pieces_of-whole c.args.sep c.args.bytes.now (λ k h. c.find_byte-i.ensures.before k (omega arith))

-- what is behind the separator
rest-is : (i : ℕ) (bytes : List ℕ) → take (length bytes - (i + 1)) (drop (i + 1) bytes) ≡ drop (i + 1) bytes
rest-is i bytes = take_all (length bytes - (i + 1)) (drop (i + 1) bytes) (omega (arith, length-drop (i + 1) bytes))

pub returns-else-i-bytes : goal.returns-else-i-bytes
returns-else-i-bytes c =
    let i = c.find_byte-i.result in
    let bytes = c.args.bytes.now in
    let inside : i < length bytes = omega (arith, c.find_byte-i.ensures.within) in
    let first = pieces_of-first c.args.sep bytes i inside c.find_byte-i.ensures.before (c.find_byte-i.ensures.found inside) in
    rw rest-is (rw add-one first, omega (arith, length-drop (i + 1) bytes))
