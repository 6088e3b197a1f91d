-- What making a bag promises.
use Rattle.std.specs.Prelude.{◌≡◌, ◌⊎◌, ◌≤◌, true, IsTrue, List, [], Result, IfErr, OnOk}
use Rattle.std.specs.List.{list_any}
use Rattle.bag_text.specs.declared.alg.Alg.{Alg}
use Rattle.bag_tree.specs.Tree.{TreeState}
use Rattle.bag_tags.specs.Element.{NewElement}
use Rattle.bag_report.specs.Valid.{HasNoFault}
use Rattle.bag_make.specs.Make.{HasKnownSize, HasMade, Leaves, MayRefuseMaking}
use Rattle.bag_make.specs.PowerCut.{LastsForGood, OutlastsCuts}
use Rattle.bag_make.specs.Reading.{OpensFolder}
use Rattle.bag_make.specs.Remainder.{LacksNoPayload}
use Rattle.bag_make.specs.Request.{is_refused}
use Rattle.bag_make.specs.declared.fault.MakeFault.{MakeFault}

-- All that is promised of making a bag of a folder.
pub record IsMake (algs : List Alg) (info : List NewElement) (old new : TreeState)
    (result : Result (Unit {0}) MakeFault) : Type 0 where
  pub honest : new.honest ≡ old.honest
  pub failures : old.failures ≤ new.failures
  pub noted : new.noted ≡ old.noted
  -- where the request can't be met nothing is looked at
  pub untouched : (algs ≡ []) ⊎ (list_any is_refused info ≡ true) → new ≡ old
  pub made : OnOk result (HasMade algs info old new)
  pub valid : OnOk result (IsTrue old.honest → HasKnownSize old.bag → HasNoFault new.bag)
  pub opens : OpensFolder old new
  pub refused : IfErr result (MayRefuseMaking algs info old new)
  pub leaves : IfErr result (λ fault. IsTrue old.honest → Leaves algs info old.bag new.bag fault)
  -- what a refusal leaves without a fault lacks no file of the payload
  pub payload : IfErr result (λ fault. IsTrue old.honest → LacksNoPayload old.bag new.bag)
  -- a power cut at any moment leaves each file whole
  pub any_moment : OutlastsCuts old new
  -- and after Ok it leaves the bag that was made, and nothing else
  pub lasting : OnOk result (LastsForGood algs info old new)
