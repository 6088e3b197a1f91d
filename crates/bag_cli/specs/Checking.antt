-- What checking a tree promises.
use Rattle.std.specs.Prelude.{ℕ, ◌≡◌, List, codes, Option, None, Result, MatchResult}
use Rattle.bag_tree.specs.Out.{OutState}
use Rattle.bag_tree.specs.Tree.{TreeState}
use Rattle.bag_program.specs.Visits.{Event}
use Rattle.bag_arguments.specs.declared.plan.Plan.{Plan}
use Rattle.bag_cli.specs.Sample.{sample_state}
use Rattle.bag_cli.specs.Checked.{IsCheckOf, IsLastCheck, IsWholeCheck}
use Rattle.bag_cli.specs.declared.check_outcome.CheckOutcome.{CheckOutcome}
use Rattle.bag_cli.specs.declared.profile_file.SummedProfile.{SummedProfile}

-- a check of the sample, whose device never fails
abbrev pub IsCheckOfSample : Plan → OutState → OutState → CheckOutcome → Type 0
IsCheckOfSample plan before after outcome =
    (new : TreeState) × (new.failures ≡ 0)
    × IsCheckOf plan None sample_state new (codes "sample") before after outcome

-- the folder's bag was checked, and has a status; or that was the last check
abbrev pub ChecksFolder : {E : Type 0} → Plan → Option SummedProfile → TreeState → List ℕ
    → OutState → OutState → List Event → Result ℕ E → Type 0
ChecksFolder plan profile tree name before after visits answer = MatchResult answer
    (λ n. IsWholeCheck plan profile tree name before after visits n)
    (λ _. IsLastCheck plan profile tree name before after visits)

-- the tree was checked under this name; or memory for what is asked for ran out, and nothing was
-- done
abbrev pub ChecksTree : {E : Type 0} → Plan → Option SummedProfile → TreeState → TreeState → List ℕ
    → OutState → OutState → Result CheckOutcome E → Type 0
ChecksTree plan profile tree new name before after checked = MatchResult checked
    (λ outcome. IsCheckOf plan profile tree new name before after outcome)
    (λ _. (after ≡ before) × (new ≡ tree))
