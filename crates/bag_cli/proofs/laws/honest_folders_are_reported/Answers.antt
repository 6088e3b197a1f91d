-- What is reported of an honest folder.
use Rattle.bag_cli.proofs.Common.{inl, inr, ◌⊎◌, ℕ, Bool, IsTrue, List, Result, Ok, Err, sym, subst, NewElement}
use Rattle.bag_cli.proofs.Common.{OutState, TreeState, MakeFault, IsMake, IsReportedMade, IsReportedNotMade}
use Rattle.bag_cli.proofs.Common.{ReportsMaking}
use Rattle.bag_text.specs.declared.alg.Alg.{Alg}
use Rattle.bag_tree.specs.Cut.{LeavesOnly}
use Rattle.bag_cli.proofs.laws.honest_folders_are_reported.Goals as goal

told : (name : List ℕ) (algs : List Alg) (info : List NewElement) (quiet : Bool) (old new : TreeState)
    (before after : OutState) (n : ℕ) → IsTrue old.honest
    → (made : Result (Unit {0}) MakeFault) → IsMake algs info old new made
    → ReportsMaking name made quiet before after (Ok n)
    → IsReportedMade name algs info quiet old new before after n
    ⊎ IsReportedNotMade name algs info old new before after n
told name algs info quiet old new before after n honest (Ok x) make tells =
    let bag = make.made.bag honest in
    inl (record {
      status = tells.0;
      made_bag = bag;
      valid = make.valid honest;
      any_moment = make.any_moment;
      lasting = λ noted. subst (LeavesOnly old.trail new.trail old.bag) (sym bag) (make.lasting honest noted);
      said = tells.1;
    })
told name algs info quiet old new before after n honest (Err fault) make tells =
    inr (record {
      status = tells.0;
      fault = fault;
      refused = make.refused;
      left = make.leaves honest;
      any_moment = make.any_moment;
      said = tells.1;
    })

pub returns : goal.returns
returns c name algs info quiet old new before after n honest making =
    told name algs info quiet old new before after n honest making.made making.make making.reports
