-- Parts that were appended one by one are the whole that was appended.
use Rattle.std.proofs.Common.{◌≡◌, ℕ, List, ◌++◌, length, append_assoc, ap}
use Rattle.pfc_base.specs.Cinfo.{Record, Cinfo, four, eight, record_of, header_of}

-- the same part behind equal lists
pub behind : {x y : List ℕ} (part : List ℕ) → x ≡ y → x ++ part ≡ y ++ part
behind part e = ap (λ (l : List ℕ). l ++ part) e

six : (a p q r s t u : List ℕ) → a ++ p ++ q ++ r ++ s ++ t ++ u ≡ a ++ (p ++ q ++ r ++ s ++ t ++ u)
six a p q r s t u = simp append_assoc

ten : (a p q r s t u v w x y : List ℕ) → a ++ p ++ q ++ r ++ s ++ t ++ u ++ v ++ w ++ x ++ y ≡ a ++ (p ++ q ++ r ++ s ++ t ++ u ++ v ++ w ++ x ++ y)
ten a p q r s t u v w x y = simp append_assoc

pub gather_header : (a : List ℕ) (c : Cinfo) →
    a ++ four 4 ++ eight c.block ++ eight c.size ++ eight c.head.created ++ eight c.head.accesses ++ four (length c.head.records) ≡ a ++ header_of c
unfolding header_of
gather_header a c = six a (four 4) (eight c.block) (eight c.size) (eight c.head.created) (eight c.head.accesses) (four (length c.head.records))

pub gather_record : (a : List ℕ) (r : Record) →
    a ++ eight r.attach ++ eight r.detach ++ four r.ios ++ four r.duration ++ four r.merged ++ four 0 ++ eight r.hit ++ eight r.missed ++ eight r.bypassed ++ eight 0 ≡ a ++ record_of r
unfolding record_of
gather_record a r = ten a (eight r.attach) (eight r.detach) (four r.ios) (four r.duration) (four r.merged) (four 0) (eight r.hit) (eight r.missed) (eight r.bypassed) (eight 0)
