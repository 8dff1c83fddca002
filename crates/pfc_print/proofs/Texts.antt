-- Parts of a text, appended one by one.
use Rattle.std.proofs.Common.{◌≡◌, ℕ, Bool, List, ◌++◌, ap, append_assoc}
use Rattle.std.specs.List.{flat_map}
use Rattle.pfc_base.specs.Cinfo.{Cinfo}
use Rattle.pfc_print.specs.Text.{head_text, claims_text, record_text, cinfo_text}

pub behind : {x y : List ℕ} (part : List ℕ) → x ≡ y → x ++ part ≡ y ++ part
behind part e = ap (λ (l : List ℕ). l ++ part) e

three : (a p q r : List ℕ) → a ++ p ++ q ++ r ≡ a ++ (p ++ q ++ r)
three a p q r = simp append_assoc

pub gather_cinfo : (a : List ℕ) (verbose : Bool) (word : List ℕ) (c : Cinfo) →
    a ++ head_text word c ++ claims_text verbose c.claims ++ flat_map record_text c.head.records ≡ a ++ cinfo_text verbose word c
unfolding cinfo_text
gather_cinfo a verbose word c = three a (head_text word c) (claims_text verbose c.claims) (flat_map record_text c.head.records)
