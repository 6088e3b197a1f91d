-- What a renewal makes of a bag, decided once.
use Rattle.std.specs.Prelude.{◌≡◌, ◌∷◌, ◌&&◌, ◌||◌, [], Bool, List, false, not, true}
use Rattle.bag_text.specs.AlgList.{has_member}
use Rattle.bag_text.specs.declared.alg.Alg.{Alg}
use Rattle.bag_read.specs.ManifestName.{tag_path}
use Rattle.bag_read.specs.declared.tag_name.TagName.TheVariants.{Declaration}
use Rattle.bag_facts.specs.FactsOfBag.{IfBagRead}
use Rattle.bag_facts.specs.declared.facts.Facts.{Facts}
use Rattle.bag_tree.specs.Bag.{Bag}
use Rattle.bag_renewed.specs.Renewed as renewed
use Rattle.bag_renewed.specs.declared.renewal.Renewal.{Renewal}
use Rattle.bag_renewed.specs.declared.target.Target.{Target}

-- a call at each algorithm answers whether it passes
abbrev pub Tells : (Alg → Bool → Type 0) → (Alg → Bool) → Type 0
Tells answers passes = (alg : Alg) (answer : Bool) → answers alg answer → answer ≡ passes alg

-- a set has a member
abbrev pub has_some : List Alg → Bool
has_some [] = false
has_some (alg ∷ more) = true

-- the members of two sets of algorithms
abbrev pub in_either : List Alg → List Alg → List Alg
in_either some more = renewed.algs_where (λ alg. has_member some alg || has_member more alg)

-- the members of one set of algorithms that aren't in another
abbrev pub in_first : List Alg → List Alg → List Alg
in_first set other = renewed.algs_where (λ alg. has_member set alg && not (has_member other alg))

-- the algorithms whose payload manifest is put
abbrev pub written_algs : Bag → Renewal → List Alg
written_algs bag renewal =
    in_first (renewed.new_algs bag renewal) (renewed.algs_where (renewed.is_kept_alg bag renewal))

-- it is what this renewal makes of the bag
pub record IsTargetOf (bag : Bag) (renewal : Renewal) (target : Target) : Type 0 where
  pub algs : target.algs ≡ renewed.new_algs bag renewal
  pub kept : target.kept ≡ renewed.algs_where (renewed.is_kept_alg bag renewal)
  pub written : target.written ≡ written_algs bag renewal
  pub dropped : target.dropped ≡ renewed.algs_where (renewed.is_dropped_alg bag renewal)
  pub rules : target.rules ≡ renewed.new_rules bag renewal
  pub keeps : target.keeps ≡ renewed.keeps bag renewal
  pub keeps_declaration : target.keeps_declaration
      ≡ renewed.is_kept bag renewal (tag_path Declaration)
  pub writes_info : target.writes_info ≡ renewed.writes_info bag renewal
  pub reads_payload : target.reads_payload ≡ renewed.reads_payload bag renewal

-- so it is of each bag whose facts these are, which were read beyond the declaration
abbrev pub IsTargetFor : Facts → Renewal → Target → Type 0
IsTargetFor facts renewal target = IfBagRead facts (λ bag. IsTargetOf bag renewal target)

-- this holds of each bag and each renewal that makes this of it
abbrev pub OfTarget : Target → (Bag → Renewal → Type 0) → Type 0
OfTarget target IsSo =
    (bag : Bag) (renewal : Renewal) → IsTargetOf bag renewal target → IsSo bag renewal

-- and of each such bag whose facts these are
abbrev pub IfTarget : Facts → Target → (Bag → Renewal → Type 0) → Type 0
IfTarget facts target IsSo =
    IfBagRead facts (λ bag. (renewal : Renewal) → IsTargetOf bag renewal target → IsSo bag renewal)
