-- What the encoder appends, step by step, is the spelling.
use Rattle.std.proofs.Common.{◌≡◌, ℕ, ◌+◌, ◌/◌, ◌<◌, ◌≤◌, List, [], ◌∷◌, ◌++◌, length, take, drop, get_or, sym, ap, subst, ◌∙◌, append_assoc, arith}
use Rattle.std.specs.Prelude.{All}
use Rattle.std.specs.List.{flat_map}
use Rattle.std.proofs.lemmas.List.{take_at, drop_at, take_more, flat_map_more, length-append}
use Rattle.std.proofs.lemmas.List.Elements.{All-push}
use Rattle.pfc_base.specs.BlockSet.{IsBitmap}
use Rattle.pfc_base.specs.Crc.{crc_of}
use Rattle.pfc_base.specs.Cinfo.{Record, Cinfo, FitsRecord, FitsCinfo, four, header_of, record_of, records_of, summed, bitmap_in, IsCinfo}
use Rattle.pfc_cinfo.proofs.Spelled.{length-header}

-- one more record of those that are taken
taken : (rs : List Record) (i : ℕ) (r : Record) → i < length rs → r ≡ get_or rs i r → take i rs ++ r ∷ [] ≡ take (i + 1) rs
taken rs i r lt is = ap (λ (x : Record). take i rs ++ x ∷ []) is ∙ sym (take_more rs i r lt)

pub written-step : (start before after : List ℕ) (rs : List Record) (i : ℕ) (r : Record) → i < length rs → r ≡ get_or rs i r
    → before ≡ start ++ flat_map record_of (take i rs) → after ≡ before ++ record_of r → after ≡ start ++ flat_map record_of (take (i + 1) rs)
written-step start before after rs i r lt is so-far more =
    more ∙ ap (λ (l : List ℕ). l ++ record_of r) so-far ∙ flat_map_more record_of start (take i rs) r ∙ ap (λ (l : List Record). start ++ flat_map record_of l) (taken rs i r lt is)

pub fits-step : (rs : List Record) (i : ℕ) (r : Record) → i < length rs → r ≡ get_or rs i r → All FitsRecord (take i rs) → FitsRecord r → All FitsRecord (take (i + 1) rs)
fits-step rs i r lt is so-far fits = subst (λ (l : List Record). All FitsRecord l) (taken rs i r lt is) (All-push FitsRecord (take i rs) r so-far fits)

front-len : (c : Cinfo) → length (summed (header_of c)) ≡ 44
front-len c = omega (arith, length-append (header_of c) (four (crc_of (header_of c))), length-header c)

pub IsCinfo-from_steps : (c : Cinfo) (bitmap one two three four' five : List ℕ) → FitsCinfo c → IsBitmap bitmap c.claims → one ≡ header_of c → two ≡ one ++ four (crc_of (drop 0 one))
    → three ≡ two ++ bitmap → four' ≡ three ++ records_of c → five ≡ four' ++ four (crc_of (drop 44 four')) → IsCinfo five c
IsCinfo-from_steps c bitmap one two three four' five fits is e1 e2 e3 e4 e5 =
    let front : List ℕ = summed (header_of c) in
    let part : List ℕ = bitmap ++ records_of c in
    let last = four (crc_of part) in
    let head : two ≡ front = e2 ∙ ap summed e1 in
    let body : four' ≡ front ++ part = e4 ∙ ap (λ (l : List ℕ). l ++ records_of c) (e3 ∙ ap (λ (l : List ℕ). l ++ bitmap) head) ∙ append_assoc front bitmap (records_of c) in
    let tail : drop 44 four' ≡ part = ap (drop 44) body ∙ drop_at front part 44 (front-len c) in
    let whole : five ≡ front ++ summed part = e5 ∙ (λ i. body i ++ four (crc_of (tail i))) ∙ append_assoc front part last in
    let bits = (length c.claims + 7) / 8 in
    let found : bitmap_in five c ≡ bitmap =
    ap (λ (l : List ℕ). take bits (drop 44 l)) whole ∙ ap (take bits) (drop_at front (summed part) 44 (front-len c) ∙ append_assoc bitmap (records_of c) last)
    ∙ take_at bitmap (records_of c ++ last) bits is.size in
    record {
      fits = fits;
      bitmap = subst (λ (b : List ℕ). IsBitmap b c.claims) (sym found) is;
      spelled = whole ∙ ap (λ (b : List ℕ). front ++ summed (b ++ records_of c)) (sym found);
    }

-- the first four steps leave at least the header and its checksum
pub room-for_sum : (c : Cinfo) (bitmap one two three four' : List ℕ) → one ≡ header_of c → two ≡ one ++ four (crc_of (drop 0 one)) → three ≡ two ++ bitmap → four' ≡ three ++ records_of c → 44 ≤ length four'
room-for_sum c bitmap one two three four' e1 e2 e3 e4 =
    let l2 : length two ≡ 44 = ap length (e2 ∙ ap summed e1) ∙ front-len c in
    let l3 = ap length e3 ∙ length-append two bitmap in
    let l4 = ap length e4 ∙ length-append three (records_of c) in
    omega arith
