-- The names of manifests.
use Rattle.bag_read.proofs.Common.{Bool, List, MatchOption, None, Option, Some, append_assoc, arith, codes, false}
use Rattle.bag_read.proofs.Common.{length, length-append, refl, sym, take, true, ℕ, ◌++◌, ◌-◌, ◌≡◌, ◌≢◌, both_ways}
use Rattle.bag_read.proofs.Common.{cases_Bool, bytes_eq-Decides, Bor, is_some, IsTrue, is_alg_text, is_manifest_name}
use Rattle.bag_read.proofs.Common.{manifest_name, prefix, Kind}
use Rattle.bag_read.proofs.Fronts.{take_front}
use Rattle.bag_read.proofs.LineParts.{without_is}
use Rattle.bag_read.proofs.PickedOut.{both_true}

abbrev pub IsManifestName : Kind → List ℕ → List ℕ → Type 0
IsManifestName kind name alg = IsTrue (is_alg_text alg) × (name ≡ manifest_name kind alg)

alg_between : (alg : List ℕ) → take (length (alg ++ codes ".txt") - 4) (alg ++ codes ".txt") ≡ alg
alg_between alg =
    let n : length (alg ++ codes ".txt") - 4 ≡ length alg = omega (arith, length-append alg (codes ".txt")) in
    rw n (take_front alg (codes ".txt"))

pub named_is : (kind : Kind) (name alg : List ℕ) → IsManifestName kind name alg → is_manifest_name kind name ≡ true
named_is kind name alg (good, e) = grind (arith, append_assoc, without_is, alg_between, bytes_eq-Decides)

pub not_named : (kind : Kind) (name : List ℕ) → is_manifest_name kind name ≡ false → (alg : List ℕ)
    → IsTrue (is_alg_text alg) → name ≢ manifest_name kind alg
not_named kind name other alg good e = both_ways (is_manifest_name kind name) other (named_is kind name alg (good, e))

-- two algorithms' texts in one name are the same
pub same_alg : (kind : Kind) (name rest one two : List ℕ) → name ≡ prefix kind ++ rest → rest ≡ one ++ codes ".txt"
    → name ≡ manifest_name kind two → one ≡ two
same_alg kind name rest one two front back e =
    grind (arith, without_is (prefix kind) rest, alg_between one, alg_between two, append_assoc)

-- a name of that form is made of an algorithm's text
pub is_named : (kind : Kind) (name : List ℕ) → is_manifest_name kind name ≡ true
    → (alg : List ℕ) × IsTrue (is_alg_text alg) × (name ≡ manifest_name kind alg)
is_named kind name e = grind (arith, both_true, bytes_eq-Decides)

pub named_test : (kind : Kind) (name : List ℕ) (b : Bool) → is_manifest_name kind name ≡ b
    → ((alg : List ℕ) → IsTrue (is_alg_text alg) → name ≢ manifest_name kind alg) → b ≡ false
named_test kind name b e h = grind (arith, is_named, cases_Bool b)

-- a name has the form of a manifest's just where there is its algorithm's text
pub has_alg : (kind : Kind) (name : List ℕ) (r : Option (Bor (List ℕ)))
    → MatchOption r ((alg : List ℕ) → IsTrue (is_alg_text alg) → name ≢ manifest_name kind alg)
    (λ alg. IsManifestName kind name alg.now) → is_some r ≡ is_manifest_name kind name
has_alg kind name None h = sym (named_test kind name (is_manifest_name kind name) refl h)
has_alg kind name (Some alg) h = sym (named_is kind name alg.now h)
