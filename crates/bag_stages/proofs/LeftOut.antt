-- Paths that payload manifests leave out, by the rules of a version.
use Rattle.bag_stages.proofs.Common.{arith, ◌≡◌, ◌⊎◌, inl, inr, ℕ, List, [], ◌∷◌, Contains, contains_first, Option}
use Rattle.bag_stages.proofs.Common.{None, Some, refl, V10, V097, Alg, Bag, IsLeftOut, IsLeftOutByOne, IsLeftOutByAll}
use Rattle.bag_stages.proofs.Common.{Payload, has_file, IsNamedBySome, manifest_of, named_in, HasSupported, Names}
use Rattle.bag_text.specs.declared.rules.Rules.{Rules}
use Rattle.bag_stages.proofs.HasLists.{Decided, true_or_not, both_decided, not_decided}
use Rattle.bag_stages.proofs.BagLists.{some_alg, there_or_not}

pub v10_or_not : (rules : Rules) → Decided (rules ≡ V10)
v10_or_not V10 = inl refl
v10_or_not V097 = inr (λ e. cc)

pub v097_or_not : (rules : Rules) → Decided (rules ≡ V097)
v097_or_not V10 = inr (λ e. cc)
v097_or_not V097 = inl refl

pub not_both : (rules : Rules) → rules ≡ V10 → rules ≡ V097 → ⊥
not_both rules old new = cc

-- a set of algorithms that isn't empty has a member
pub some_member : (algs : List Alg) → (algs ≡ [] → ⊥) → (alg : Alg) × Contains algs alg
some_member [] none = absurd (none refl)
some_member (alg ∷ algs) none = (alg, contains_first alg algs)

module _ (bag : Bag) (path : List ℕ) where
  -- one manifest leaves it out, or all do
  abbrev pub ByOne : Rules → Option Alg → Type 0
  ByOne rules told = (rules ≡ V10) × ((alg : Alg) × (told ≡ Some alg) × IsLeftOutByOne bag alg path)

  abbrev pub ByAll : Rules → Option Alg → Type 0
  ByAll rules told = (rules ≡ V097) × (told ≡ None) × IsLeftOutByAll bag path

  pub left_out_by : (rules : Rules) (told : Option Alg) → IsLeftOut rules bag told path
      → ByOne rules told ⊎ ByAll rules told
  left_out_by V10 (Some alg) out = inl (refl, (alg, refl, out))
  left_out_by rules told out = grind arith

  pub by_one : (rules : Rules) (alg : Alg) → rules ≡ V10 → IsLeftOutByOne bag alg path
      → IsLeftOut rules bag (Some alg) path
  by_one rules alg by out = rw by out

  pub by_all : (rules : Rules) → rules ≡ V097 → IsLeftOutByAll bag path → IsLeftOut rules bag None path
  by_all rules by out = rw by out

-- whether they leave a path out
module _ (bag : Bag) (path : List ℕ) where
  supported_or_not : (alg : Alg) → Decided (HasSupported bag Payload alg)
  supported_or_not alg = true_or_not (has_file bag (manifest_of Payload alg))

  pub by_one_or_not : (alg : Alg) → Decided (IsLeftOutByOne bag alg path)
  by_one_or_not alg =
      both_decided _ _ (supported_or_not alg) (not_decided _ (there_or_not (named_in bag Payload alg) path))

  pub by_all_or_not : Decided (IsLeftOutByAll bag path)
  by_all_or_not =
      both_decided _ _ (some_alg (λ alg. HasSupported bag Payload alg) supported_or_not)
      (not_decided (IsNamedBySome bag path)
      (some_alg (λ alg. Names bag Payload alg path) (λ alg. there_or_not (named_in bag Payload alg) path)))
