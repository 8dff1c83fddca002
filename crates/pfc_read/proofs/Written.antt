-- Bytes that are written into a reply.
use Rattle.std.proofs.Common.{Vec, Global, ◌≡◌, ◌+◌, ◌-◌, ◌<◌, ◌≤◌, ◌⊎◌, ℕ, Bool, List, length, take, drop, get_or, sym, ap, ◌∙◌, arith, subst, rules, Option, Some, IsTrue, inl, inr, length-take, length-drop}
use Rattle.std.specs.Prelude.{IsSomeAnd}
use Rattle.std.specs.Vec.{with_items}
use Rattle.std.proofs.lemmas.Bool.{cases_lt}
use Rattle.std.proofs.lemmas.Bool.Decides.{nat_tests}
use Rattle.std.proofs.lemmas.List.{places, get_or-take, get_or-drop, take_at}
use borrow.Rule.Slice.PartMut.{put_mid}
use Rattle.pfc_base.specs.Block.{slice_of}
use Rattle.pfc_world.specs.Files.{Files, file_at, Holds}
use Rattle.pfc_read.specs.declared.segment.Segment.{Segment}
use Rattle.pfc_read.specs.Segments.{covers}
use Rattle.pfc_read.specs.Kept.{Agrees}
use Rattle.pfc_read.proofs.Asked.{covers-in}

-- the list with other bytes from a place on
pub record IsWritten (bytes : List ℕ) (at : ℕ) (into new : List ℕ) : Type 0 where
  pub long : length new ≡ length bytes
  pub part : (j : ℕ) → j < length into → get_or new (at + j) 0 ≡ get_or into j 0
  pub rest : (j : ℕ) → (j < at) ⊎ (at + length into ≤ j) → get_or new j 0 ≡ get_or bytes j 0

mid-long : (at n : ℕ) (bytes into : List ℕ) → length into ≡ n → at + n ≤ length bytes → length (put_mid at n bytes into) ≡ length bytes
mid-long at n bytes into long within = search (rules, places)

mid-part : (at n : ℕ) (bytes into : List ℕ) (j : ℕ) → length into ≡ n → at + n ≤ length bytes → j < length into → get_or (put_mid at n bytes into) (at + j) 0 ≡ get_or into j 0
mid-part at n bytes into j long within low = search (rules, places)

mid-rest : (at n : ℕ) (bytes into : List ℕ) (j : ℕ) → length into ≡ n → at + n ≤ length bytes → (j < at) ⊎ (at + length into ≤ j) → get_or (put_mid at n bytes into) j 0 ≡ get_or bytes j 0
mid-rest at n bytes into j long within out = elim out [ inl low ↦ search (rules, places) | inr high ↦ search (rules, places) ]

items-with : (v : Vec ℕ Global) (ws : List ℕ) → length ws ≡ length v.items → (with_items v ws).items ≡ ws
items-with v ws long = take_at ws (drop (length ws) v.items) v.len (long ∙ sym v.ok.0)

written : (v : Vec ℕ Global) (shown : List ℕ) (at n : ℕ) (into : List ℕ) → shown ≡ v.items → length into ≡ n → at + n ≤ length v.items → IsWritten v.items at into (with_items v (put_mid at n shown into)).items
written v shown at n into same long within =
    let ws : List ℕ = put_mid at n v.items into in
    let whole : length ws ≡ length v.items = mid-long at n v.items into long within in
    let is : IsWritten v.items at into ws = record { long = whole; part = λ j h. mid-part at n v.items into j long within h; rest = λ j o. mid-rest at n v.items into j long within o } in
    let to : (with_items v (put_mid at n shown into)).items ≡ ws = ap (λ xs. (with_items v (put_mid at n xs into)).items) same ∙ items-with v ws whole in
    subst (IsWritten v.items at into) (sym to) is

covers-before : (j : ℕ) (s : Segment) → j < s.at → covers j s ≡ 0
covers-before j s low = grind (arith, nat_tests)

covers-past : (j : ℕ) (s : Segment) → s.at + s.part.len ≤ j → covers j s ≡ 0
covers-past j s past = grind (arith, nat_tests)

-- a byte is in the segment or beside it
covers-cases : (j : ℕ) (s : Segment) → ((s.at ≤ j) × (j < s.at + s.part.len)) ⊎ ((covers j s ≡ 0) × ((j < s.at) ⊎ (s.at + s.part.len ≤ j)))
covers-cases j s = elim (cases_lt j s.at) [
  | inl low ↦ inr (covers-before j s low, inl low)
  | inr at ↦ elim (cases_lt j (s.at + s.part.len)) [
    | inl high ↦ inl (at, high)
    | inr past ↦ inr (covers-past j s past, inr past)
  ]
]

-- what is written into a part that is still to be read changes nothing
pub agrees-written : (file : List ℕ) (spot_at : ℕ → ℕ) (bytes new into : List ℕ) (s : Segment) (before after : ℕ → ℕ) → IsWritten bytes s.at into new → length into ≡ s.part.len → ((j : ℕ) → covers j s ≤ after j) → ((j : ℕ) → after j ≡ before j) →
    Agrees file spot_at bytes before → Agrees file spot_at new after
agrees-written file spot_at bytes new into s before after is long own same was j low zero =
    let out : (j < s.at) ⊎ (s.at + length into ≤ j) = elim (covers-cases j s) [
      | inl in' ↦ let o = own j in let c = covers-in j s in'.0 in'.1 in absurd (omega (arith, o, c, zero))
      | inr out ↦ elim out.1 [ inl low ↦ inl low | inr past ↦ inr (omega (arith, past, long)) ]
    ] in
    let lower : j < length bytes = let l = is.long in omega (arith, low, l) in
    is.rest j out ∙ was j lower (sym (same j) ∙ zero)

-- the file's bytes come into their part
pub agrees-filled : (file : List ℕ) (spot_at : ℕ → ℕ) (bytes new into : List ℕ) (s : Segment) (from : ℕ) (before after : ℕ → ℕ) → IsWritten bytes s.at into new → length into ≡ s.part.len → into ≡ slice_of file from (length into) →
    ((x : ℕ) → x < s.part.len → from + x ≡ spot_at (s.at + x)) → ((j : ℕ) → before j ≡ after j + covers j s) → Agrees file spot_at bytes before → Agrees file spot_at new after
agrees-filled file spot_at bytes new into s from before after is long right place sums was j low zero = elim (covers-cases j s) [
  | inl in' ↦
      let k : ℕ = j - s.at in
      let low_k : k < length into = let a = in'.0 in let b = in'.1 in omega (arith, a, b, long) in
      let at_j : s.at + k ≡ j = let a = in'.0 in omega (arith, a) in
      let here : get_or new j 0 ≡ get_or into k 0 = ap (λ n. get_or new n 0) (sym at_j) ∙ is.part k low_k in
      let there : get_or into k 0 ≡ get_or file (from + k) 0 = ap (λ (l : List ℕ). get_or l k 0) right ∙ get_or-take (length into) (drop from file) k 0 low_k ∙ get_or-drop from file k 0 in
      let spot : from + k ≡ spot_at j = place k (omega (arith, low_k, long)) ∙ ap spot_at at_j in
      here ∙ there ∙ ap (λ n. get_or file n 0) spot
  | inr out ↦
      let away : (j < s.at) ⊎ (s.at + length into ≤ j) = elim out.1 [ inl low ↦ inl low | inr past ↦ inr (omega (arith, past, long)) ] in
      let lower : j < length bytes = let l = is.long in omega (arith, low, l) in
      let none : before j ≡ 0 = let s = sums j in let c = out.0 in omega (arith, s, c, zero) in
      is.rest j away ∙ was j lower none
]

-- where the world is told, what was read is the file's
pub slice-held : (told : Bool) (files : Files) (path : List ℕ) (at : ℕ) (into file : List ℕ) → Holds told files path at into → IsTrue told → file_at files path ≡ Some file → into ≡ slice_of file at (length into)
slice-held told files path at into file holds t is = let h = subst (λ (o : Option (List ℕ)). IsSomeAnd o (λ f. (at + length into ≤ length f) × (into ≡ slice_of f at (length into)))) is (holds t) in h.1

-- a part of a reply that was handed out, and what stands there then
pub part-long : (at len : ℕ) (shown bytes into : List ℕ) → shown ≡ bytes → at + len ≤ length bytes → length into ≡ length (take (at + len - at) (drop at shown)) → length into ≡ len
part-long at len shown bytes into same within long =
    let t = length-take (at + len - at) (drop at shown) in
    let d = length-drop at shown in
    let s = ap length same in
    omega (arith, long, t, d, s, within)

pub written-part : (v : Vec ℕ Global) (shown : List ℕ) (at len : ℕ) (into : List ℕ) → shown ≡ v.items → at + len ≤ length v.items → length into ≡ len → IsWritten v.items at into (with_items v (put_mid at (at + len - at) shown into)).items
written-part v shown at len into same within long = written v shown at (at + len - at) into same (omega (arith, long)) (omega (arith, within))
