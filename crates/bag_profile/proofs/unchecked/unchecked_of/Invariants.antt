use Rattle.bag_profile.proofs.Common.{◌≡◌, ◌++◌, members_view, unchecked_of}
use Rattle.bag_profile.proofs.unchecked.unchecked_of.Given as goal

abbrev pub invariant-loop-key : goal.invariant-loop-key
invariant-loop-key l = unchecked_of (members_view l.members.entries)
    ≡ l.unchecked ++ unchecked_of (members_view l.key-iterator)
