-- What it says that each test passes.
use Rattle.std.proofs.Common.{◌≡◌, ℕ, ◌+◌, ◌*◌, ◌%◌, ◌==◌, ◌&&◌, Bool, true, false, List, length, drop, Option, None, refl, ◌∙◌}
use Rattle.std.specs.Prelude.{nat_le}
use Rattle.std.proofs.lemmas.Bool.{leb-true, le-leb, eqb-true, eq-eqb}
use Rattle.pfc_base.specs.Block.{slice_of}
use Rattle.pfc_base.specs.Cinfo.{four_at, eight_at}
use Rattle.pfc_cinfo.specs.declared.damage.Damage.{Damage}
use Rattle.pfc_cinfo.specs.declared.damage.Damage.TheVariants.{Short, Version, HeaderSum, Shape, BodySum}
use Rattle.pfc_cinfo.specs.Damage.{is_block_size, is_tiled, blocks_in, bitmap_len_in, padding_of, are_clear, has_shape, header_sum_fits, body_sum_fits, unless, first_damage, Passes}

both : (a b : Bool) → (a && b) ≡ true → (a ≡ true) × (b ≡ true)
both true b e = (refl, e)
both false b e = absurd cc

pair : (a b : Bool) → a ≡ true → b ≡ true → (a && b) ≡ true
pair a b p q = (λ i. p i && b) ∙ q

passed : (t : Bool) (d : Damage) (later : Option Damage) → t ≡ true → later ≡ None → unless t d later ≡ None
passed true d later p q = q
passed false d later p q = absurd cc

passing : (t : Bool) (d : Damage) (later : Option Damage) → unless t d later ≡ None → (t ≡ true) × (later ≡ None)
passing true d later e = (refl, e)
passing false d later e = absurd cc

pub none-from_passes : (bytes : List ℕ) → Passes bytes → first_damage bytes ≡ None
unfolding first_damage has_shape
none-from_passes bytes p =
    let block = pair (nat_le 4096 (eight_at bytes 4)) (nat_le (eight_at bytes 4) 16777216 && (eight_at bytes 4 % 4096 == 0)) (le-leb _ _ p.block.0)
    (pair (nat_le (eight_at bytes 4) 16777216) (eight_at bytes 4 % 4096 == 0) (le-leb _ _ p.block.1) (eq-eqb _ _ p.block.2)) in
    let tiled = pair (is_block_size (eight_at bytes 4)) (nat_le (blocks_in bytes) 16777216) block (le-leb _ _ p.most) in
    let clear = are_clear (four_at bytes 36) (drop (44 + bitmap_len_in bytes) bytes) in
    let padding = padding_of (slice_of bytes 44 (bitmap_len_in bytes)) (blocks_in bytes) == 0 in
    let whole = length bytes == 48 + bitmap_len_in bytes + 64 * four_at bytes 36 in
    let shape = pair (is_tiled (eight_at bytes 4) (eight_at bytes 12)) (nat_le (four_at bytes 36) 20 && (whole && (padding && clear))) tiled
    (pair (nat_le (four_at bytes 36) 20) (whole && (padding && clear)) (le-leb _ _ p.count)
    (pair whole (padding && clear) (eq-eqb _ _ p.whole) (pair padding clear (eq-eqb _ _ p.padding) p.clear))) in
    passed (nat_le 48 (length bytes)) Short _ (le-leb _ _ p.long)
    (passed (four_at bytes 0 == 4) Version _ (eq-eqb _ _ p.version)
    (passed (header_sum_fits bytes) HeaderSum _ (eq-eqb _ _ p.header_sum)
    (passed (has_shape bytes) Shape _ shape
    (passed (body_sum_fits bytes) BodySum None (eq-eqb _ _ p.body_sum) refl))))

pub passes-from_none : (bytes : List ℕ) → first_damage bytes ≡ None → Passes bytes
unfolding first_damage has_shape
passes-from_none bytes e =
    let last : Option Damage = unless (body_sum_fits bytes) BodySum None in
    let fourth : Option Damage = unless (has_shape bytes) Shape last in
    let third : Option Damage = unless (header_sum_fits bytes) HeaderSum fourth in
    let second : Option Damage = unless (four_at bytes 0 == 4) Version third in
    let long = passing (nat_le 48 (length bytes)) Short second e in
    let version = passing (four_at bytes 0 == 4) Version third long.1 in
    let header = passing (header_sum_fits bytes) HeaderSum fourth version.1 in
    let shape = passing (has_shape bytes) Shape last header.1 in
    let body = passing (body_sum_fits bytes) BodySum None shape.1 in
    let clear = are_clear (four_at bytes 36) (drop (44 + bitmap_len_in bytes) bytes) in
    let padding = padding_of (slice_of bytes 44 (bitmap_len_in bytes)) (blocks_in bytes) == 0 in
    let whole = length bytes == 48 + bitmap_len_in bytes + 64 * four_at bytes 36 in
    let tiled = both (is_tiled (eight_at bytes 4) (eight_at bytes 12)) (nat_le (four_at bytes 36) 20 && (whole && (padding && clear))) shape.0 in
    let count = both (nat_le (four_at bytes 36) 20) (whole && (padding && clear)) tiled.1 in
    let size = both whole (padding && clear) count.1 in
    let bits = both padding clear size.1 in
    let block = both (is_block_size (eight_at bytes 4)) (nat_le (blocks_in bytes) 16777216) tiled.0 in
    let low = both (nat_le 4096 (eight_at bytes 4)) (nat_le (eight_at bytes 4) 16777216 && (eight_at bytes 4 % 4096 == 0)) block.0 in
    let high = both (nat_le (eight_at bytes 4) 16777216) (eight_at bytes 4 % 4096 == 0) low.1 in
    record {
      long = leb-true _ _ long.0;
      version = eqb-true _ _ version.0;
      header_sum = eqb-true _ _ header.0;
      block = (leb-true _ _ low.0, leb-true _ _ high.0, eqb-true _ _ high.1);
      most = leb-true _ _ block.1;
      count = leb-true _ _ count.0;
      whole = eqb-true _ _ size.0;
      padding = eqb-true _ _ bits.0;
      clear = bits.1;
      body_sum = eqb-true _ _ body.0;
    }
