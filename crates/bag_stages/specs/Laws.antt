-- Laws of the stages: the faults of each are of it, and each bag has a list of them.
use Rattle.std.specs.Prelude.{◌≡◌, ℕ, List}
use Rattle.bag_text.specs.Bytes.{Path}
use Rattle.bag_text.specs.Code.{stage}
use Rattle.bag_tree.specs.Bag.{Bag}
use Rattle.bag_faults.specs.declared.fault.Fault.{Fault}
use Rattle.bag_stages.specs.HasList.{HasList}
use Rattle.bag_stages.specs.TagFiles.{Names}
use Rattle.bag_read.specs.declared.kind.Kind.{Kind}
use Rattle.bag_text.specs.declared.alg.Alg.{Alg}
use Rattle.bag_stages.specs.Clashes.{AreAlike}
use Rattle.bag_stages.specs.Given.{kind_of}

-- the law: only manifests of this kind name a path
abbrev pub NamesByKind : Type 0
NamesByKind = (bag : Bag) (kind : Kind) (alg : Alg) (path : Path) → Names bag kind alg path
    → kind ≡ kind_of path

-- the law: to be of one class is an equivalence
pub record AlikeIsAnEquivalence : Type 0 where
  pub reflexive : (text : List ℕ) → AreAlike text text
  pub symmetric : (one other : List ℕ) → AreAlike one other → AreAlike other one
  pub transitive : (one other third : List ℕ) → AreAlike one other → AreAlike other third
      → AreAlike one third

-- the law of a stage: its faults have codes of it
abbrev pub FaultsAreOfStage : ℕ → (Bag → Fault → Type 0) → Type 0
FaultsAreOfStage n Holds = (bag : Bag) (f : Fault) → Holds bag f → stage f.code ≡ n

-- the law of a stage: every bag has a list of its faults
abbrev pub FaultsAreListed : (Bag → Fault → Type 0) → Type 0
FaultsAreListed Holds = (bag : Bag) → HasList (Holds bag)
